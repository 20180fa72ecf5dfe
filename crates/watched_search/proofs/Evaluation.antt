use Rattle.std.proofs.Common.{◌≡◌, ◌≢◌, ℕ, ◌+◌, ◌<◌, ℤ, pos, Bool, true, false, not, ◌⊎◌, inl, inr, List, [], length, get_or, refl, sym, ◌∙◌, ap, subst, arith, Option, Some, None, slice_get}
use Rattle.std.specs.Prelude.{int_le, IfSome}
use Rattle.std.specs.List.{list_all}
use Rattle.std.specs.Option.{option_map}
use Rattle.std.proofs.lemmas.Bool.{cases_eq}
use Rattle.std.proofs.lemmas.Int.{ints}
use Rattle.std.proofs.lemmas.Option.{slice_get-get_or, slice_get_within}
use Rattle.lin_rows.specs.Rows.{Row, sum_from, truth_at, value_at, point_of}
use Rattle.lin_rows.proofs.Points.{sum_from-value}
use Rattle.proof_lines.specs.declared.clause.Lit.{Lit}
use Rattle.proof_lines.specs.declared.problem.AtomKind.{AtomKind}
use Rattle.proof_lines.specs.declared.problem.AtomKind.TheVariants.{Plain, Row as OfRow}
use Rattle.proof_lines.specs.Clauses.{same_lit, same_bool, flip, lit_true, clause_true, all_true}
use Rattle.line_rows.specs.Evidence.{in_state}
use Rattle.proof_lines.specs.Forced.{Forced, by_clause}
use Rattle.proof_lines.specs.Problems.{PlainProblem, Meaning, row_true, kind_true, atom_true, meaning_of}
use Rattle.line_rows.proofs.Certificates.{all_at}
use Rattle.proof_lines.proofs.Sets.{same_lit-is, by_true}
use Rattle.sat_core.specs.Forcing.{AreRefuted}
use Rattle.sat_core.specs.Answers.{IsModelOf}
use Rattle.watched_search.specs.Reduced.{truth_in, HasTruth, HaveTruths}

-- Interpretations by evaluation.

-- the truth of a row, where sums are in range
pub truth-known : (x : ℕ → ℤ) (r : Row) (o : Option Bool) → o ≡ truth_at x r → IfSome o (λ b. row_true x r ≡ b)
truth-known x r o e = subst (λ (z : Option Bool). IfSome z (λ b. row_true x r ≡ b)) (sym e) (by_sum (sum_from x (pos 0) r.terms) refl)
  where
    by_sum : (s : Option ℤ) → sum_from x (pos 0) r.terms ≡ s → IfSome (option_map (λ v. int_le v r.bound) s) (λ b. row_true x r ≡ b)
    by_sum (Some v) q =
        let f = sum_from-value x (pos 0) r.terms v q in
        let g : value_at x r.terms ≡ v = omega (arith, ints) in
        ap (λ (z : ℤ). int_le z r.bound) g
    by_sum None q = tt

-- one atom more has its truth
pub more-truths : (n : ℕ) (atoms : List AtomKind) (numbers : List ℤ) (truths : List Bool) (k : AtomKind) (b : Bool) → HaveTruths n atoms numbers truths → HasTruth k numbers b → k ≡ get_or atoms n Plain → b ≡ truth_in truths n → HaveTruths (n + 1) atoms numbers truths
more-truths n atoms numbers truths k b h t e q = λ a l. by_number a l (cases_eq a n)
  where
    last : HasTruth (get_or atoms n Plain) numbers (truth_in truths n)
    last = subst (λ (z : AtomKind). HasTruth z numbers (truth_in truths n)) e (subst (λ (z : Bool). HasTruth k numbers z) q t)

    by_number : (a : ℕ) → a < n + 1 → (a ≡ n) ⊎ (a ≢ n) → HasTruth (get_or atoms a Plain) numbers (truth_in truths a)
    by_number a l (inl s) = subst (λ (z : ℕ). HasTruth (get_or atoms z Plain) numbers (truth_in truths z)) (sym s) last
    by_number a l (inr d) = h a (omega arith)

-- a literal and its opposite aren't both true
opposed : (v : ℕ → Bool) (l : Lit) → lit_true v l ≡ true → lit_true v (flip l) ≡ true → ⊥
opposed v l p q = by_signs (v l.atom) l.positive p q
  where
    by_signs : (a b : Bool) → same_bool a b ≡ true → same_bool a (not b) ≡ true → ⊥
    by_signs true true p q = absurd cc
    by_signs true false p q = absurd cc
    by_signs false true p q = absurd cc
    by_signs false false p q = absurd cc

-- where all clauses are true, so is what they force
forced-true : (v : ℕ → Bool) (cs : List (List Lit)) (l : Lit) → Forced cs l → all_true v cs ≡ true → lit_true v l ≡ true
forced-true v cs l (by_clause i b m h f) t =
    let k = by_true v (get_or cs i []) (all_at (clause_true v) cs i [] b t) in
    by_case k.0 k.2 (λ e. forced-true v cs (flip k.0) (f k.0 k.1 e) t) (same_lit k.0 l) refl
  where
    by_case : (x : Lit) → lit_true v x ≡ true → (same_lit x l ≡ false → lit_true v (flip x) ≡ true) → (d : Bool) → same_lit x l ≡ d → lit_true v l ≡ true
    by_case x y g true e = subst (λ (z : Lit). lit_true v z ≡ true) (same_lit-is x l e) y
    by_case x y g false e = absurd (opposed v x y (g e))

true-unrefuted : (v : ℕ → Bool) (cs : List (List Lit)) → all_true v cs ≡ true → AreRefuted cs → ⊥
true-unrefuted v cs t r =
    let k = by_true v (get_or cs r.0 []) (all_at (clause_true v) cs r.0 [] r.1 t) in
    opposed v k.0 k.2 (forced-true v cs (flip k.0) (r.2 k.0 k.1) t)

module _ (p : PlainProblem) (truths : List Bool) (numbers : List ℤ) (h : HaveTruths (length p.atoms) p.atoms numbers truths) where
  meaning : Meaning
  meaning = meaning_of (record { truths = truths; ints = numbers })

  value : (a : ℕ) → atom_true meaning p.atoms a ≡ truth_in truths a
  unfolding meaning
  value a = by_kind (slice_get p.atoms a) refl
    where
      row_has : (r : Row) → slice_get p.atoms a ≡ Some (OfRow r) → (k : AtomKind) → k ≡ OfRow r → HasTruth k numbers (truth_in truths a) → row_true (point_of numbers) r ≡ truth_in truths a
      row_has r e k q t = subst (λ (z : AtomKind). HasTruth z numbers (truth_in truths a)) q t

      by_kind : (o : Option AtomKind) → slice_get p.atoms a ≡ o → kind_true meaning a o ≡ truth_in truths a
      by_kind (Some Plain) e = refl
      by_kind (Some (OfRow r)) e =
          let l = slice_get_within p.atoms a (OfRow r) e in
          let g = slice_get-get_or p.atoms a Plain l in
          let q : get_or p.atoms a Plain ≡ OfRow r = cc in
          row_has r e (get_or p.atoms a Plain) q (h a l)
      by_kind None e = refl

  pub model-so : length truths ≡ length p.atoms → length numbers ≡ p.ints → list_all in_state numbers ≡ true → all_true (truth_in truths) p.clauses ≡ true → IsModelOf p (record { truths = truths; ints = numbers })
  unfolding meaning
  model-so many whole fit t = record {
    truths = many;
    ints = whole;
    in_range = fit;
    makes_true = (λ i. all_true (λ a. value a i) p.clauses) ∙ t;
    atoms_true = λ a l. value a;
    unrefuted = λ r. true-unrefuted (truth_in truths) p.clauses t r;
  }
