use Rattle.std.proofs.Common.{rules, ◌≡◌, true, not, ℕ, ℤ, pos, negsuc, ◌&&◌, List, [], ◌∷◌, refl, subst, arith}
use Rattle.std.specs.List.{list_all}
use Rattle.std.specs.Prelude.{int_le, int_lt, nat_le}
use Rattle.std.proofs.lemmas.Bool.Decides.{nat_tests}
use Rattle.std.proofs.lemmas.List.{take_all}
use Rattle.lin_rows.specs.declared.term.RowTerm.{RowTerm}
use Rattle.lin_rows.specs.Rows.{Row, value_at, has_no_terms, is_contradiction, point_of}
use Rattle.proof_lines.specs.Problems.{row_true}
use Rattle.std.proofs.lemmas.Bool.{and_parts, and_from}
use Rattle.theory_api.specs.Laws.{all_satisfied}
use Rattle.search_tests.proofs.constants.ConstantsTheory.check.Goals as goal

-- a row without names that is no contradiction is true at every point
constant_true : (x : ℕ → ℤ) (ts : List RowTerm) (b : ℤ) → has_no_terms ts ≡ true → not (has_no_terms ts && int_lt b (pos 0)) ≡ true → int_le (value_at x ts) b ≡ true
constant_true x [] (pos n) h k = zero_least n
  where
    zero_least : (n : ℕ) → nat_le 0 n ≡ true
    zero_least n = grind (arith, nat_tests)
constant_true x [] (negsuc n) h k = absurd cc
constant_true x (t ∷ ts) b h k = absurd cc

all-true : (x : ℕ → ℤ) (rows : List Row) → list_all (λ r. has_no_terms r.terms) rows ≡ true → list_all (λ r. not (is_contradiction r)) rows ≡ true → all_satisfied x rows ≡ true
all-true x [] h k = refl
all-true x (r ∷ rows) h k =
    let a = and_parts (has_no_terms r.terms) (list_all (λ r. has_no_terms r.terms) rows) h in
    let b = and_parts (not (is_contradiction r)) (list_all (λ r. not (is_contradiction r)) rows) k in
    and_from (row_true x r) (all_satisfied x rows) (constant_true x r.terms r.bound a.0 b.0) (all-true x rows a.1 b.1)

pub returns : goal.returns
returns c =
    let seen : list_all (λ r. not (is_contradiction r)) c.args.rows.now ≡ true = subst (λ (z : List Row). list_all (λ r. not (is_contradiction r)) z ≡ true) (take_all c.loop-row.row-index c.args.rows.now (omega arith)) c.loop-row.invariant.1 in
    record {
      whole = search rules;
      in_range = search rules;
      satisfies = all-true (point_of c.new-2.result) c.args.rows.now c.requires.taken.0 seen;
    }
