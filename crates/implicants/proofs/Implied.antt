use Rattle.std.proofs.Common.{◌≡◌, ℕ, zero, suc, ◌<◌, Bool, true, false, cond, inl, inr, List, [], ◌∷◌, length, get_or, refl, ◌∙◌, ap, arith}
use Rattle.std.specs.List.{list_any, list_all}
use Rattle.std.proofs.lemmas.Bool.{or_cases, or_left, or_right, and_from}
use Rattle.proof_lines.specs.declared.clause.Lit.{Lit}
use Rattle.proof_lines.specs.declared.problem.AtomKind.{AtomKind}
use Rattle.proof_lines.specs.Clauses.{has, same_bool, lit_true, clause_true, all_true}
use Rattle.line_rows.specs.Steps.{has_row}
use Rattle.sat_core.proofs.Trails.{all_has}
use Rattle.implicants.specs.Implicants.{plain_value, holds_by, is_met, IsImplicant, Agrees}

-- What follows from an implicant.

module _ (atoms : List AtomKind) (values : List Bool) (lits : List Lit) (v : ℕ → Bool) (a : Agrees atoms values lits v) where
  holds-true : (l : Lit) → holds_by atoms values (has lits) l ≡ true → lit_true v l ≡ true
  holds-true l h = by_kind (has_row atoms l) refl h
    where
      by_kind : (b : Bool) → has_row atoms l ≡ b → cond b (has lits l) (same_bool (plain_value values l.atom) l.positive) ≡ true → lit_true v l ≡ true
      by_kind true e h = all_has (lit_true v) lits l a.rows h
      by_kind false e h = ap (λ z. same_bool z l.positive) (a.plain l e) ∙ h

  met-true : (c : List Lit) → is_met atoms values (has lits) c ≡ true → clause_true v c ≡ true
  met-true [] h = absurd cc
  met-true (x ∷ c) h = elim (or_cases (holds_by atoms values (has lits) x) (is_met atoms values (has lits) c) h) [
    | inl e ↦ or_left (lit_true v x) (clause_true v c) (holds-true x e)
    | inr e ↦ or_right (lit_true v x) (clause_true v c) (met-true c e)
  ]

  pub implied : (cs : List (List Lit)) → IsImplicant atoms cs values lits → all_true v cs ≡ true
  implied [] h = refl
  implied (c ∷ cs) h = and_from (clause_true v c) (all_true v cs) (met-true c (h zero (omega arith))) (implied cs (λ k l. h (suc k) (omega arith)))
