use Rattle.std.proofs.Common.{◌≡◌, ◌<◌, ◌≤◌, ℕ, ℤ, negsuc, List, [], ◌∷◌, ◌++◌, length, get_or, refl, sym, ◌∙◌, ap, subst, arith}
use Rattle.lin_rows.specs.Rows.{Row}
use Rattle.lin_rows.specs.Divisors.{common_divisor}
use Rattle.proof_lines.specs.declared.line.RowStep.{RowStep}
use Rattle.proof_lines.specs.declared.line.RangeWhat.TheVariants.{Value}
use Rattle.theory_api.specs.Laws.{IsConflict, IsBeyond}
use Rattle.search_tests.proofs.known.of_one.Goals as goal

one_row : (rows : List Row) (r : Row) → 1 ≤ length rows → length rows < 2 → r ≡ get_or rows 0 r → rows ≡ r ∷ []
one_row [] r a b e = absurd (omega arith)
one_row (x ∷ []) r a b e = λ i. sym e i ∷ []
one_row (x ∷ y ∷ rows) r a b e = absurd (omega arith)

abbrev none : Row
none = record { terms = []; bound = negsuc 0 }

conflict_of : (rows : List Row) (used : List ℕ) (steps : List RowStep) → rows ≡ none ∷ [] → used ≡ 0 ∷ [] → steps ≡ [] → IsConflict rows used steps
conflict_of rows used steps a b d =
    subst (λ (z : List Row). IsConflict z used steps) (sym a)
    (subst (λ (z : List ℕ). IsConflict (none ∷ []) z steps) (sym b)
    (subst (λ (z : List RowStep). IsConflict (none ∷ []) (0 ∷ []) z) (sym d) (record { given = refl; refuted = refl })))

abbrev far : Row
far = record { terms = record { place = 0; coef = negsuc 0 } ∷ []; bound = negsuc 1000000000000000 }

beyond_far : IsBeyond (far ∷ []) (0 ∷ []) [] (Value 0 0 [])
unfolding common_divisor
beyond_far = record {
  given = refl;
  shown = refl;
  held = far ∷ [];
  held_is = refl;
  chosen = record { consistent = refl; choices = []; driven = refl; among = refl };
  eliminated = record { order = []; different = refl; in_order = refl };
}

beyond_of : (rows : List Row) (used : List ℕ) (steps : List RowStep) (values : List ℤ) → rows ≡ far ∷ [] → used ≡ 0 ∷ [] → steps ≡ [] → values ≡ [] → IsBeyond rows used steps (Value 0 0 values)
beyond_of rows used steps values a b d e =
    subst (λ (z : List Row). IsBeyond z used steps (Value 0 0 values)) (sym a)
    (subst (λ (z : List ℕ). IsBeyond (far ∷ []) z steps (Value 0 0 values)) (sym b)
    (subst (λ (z : List RowStep). IsBeyond (far ∷ []) (0 ∷ []) z (Value 0 0 values)) (sym d)
    (subst (λ (z : List ℤ). IsBeyond (far ∷ []) (0 ∷ []) [] (Value 0 0 z)) (sym e) beyond_far)))

pub returns-then-is : goal.returns-then-is
returns-then-is c =
    let r : c.row-item.result ≡ none = c.is.ensures c.if-is.true in
    let rows = one_row c.args.rows.now c.row-item.result c.in-len1.len_at_least c.in-len1.len_below c.row-item.is in
    let used : c.push.new.self ≡ 0 ∷ [] = c.in_ok-push.ensures.ok ∙ ap (λ (z : List ℕ). z ++ 0 ∷ []) c.new-used.ensures in
    conflict_of c.args.rows.now c.push.new.self c.new-steps.result (rows ∙ (λ i. r i ∷ [])) used c.new-steps.ensures

pub returns-then-is-2 : goal.returns-then-is-2
returns-then-is-2 c =
    let r : c.row-item.result ≡ far = c.is-2.ensures c.if-is-2.true ∙ (λ i. record { terms = c.term.ensures i ∷ []; bound = negsuc 1000000000000000 }) in
    let rows = one_row c.args.rows.now c.row-item.result c.in-len1.len_at_least c.in-len1.len_below c.row-item.is in
    let used : c.push.new.self ≡ 0 ∷ [] = c.in_ok-push.ensures.ok ∙ ap (λ (z : List ℕ). z ++ 0 ∷ []) c.new-used.ensures in
    (refl, beyond_of c.args.rows.now c.push.new.self c.new-steps.result c.new-values.result (rows ∙ (λ i. r i ∷ [])) used c.new-steps.ensures c.new-values.ensures)
