use Rattle.std.proofs.Common.{rules, ◌≡◌, ◌<◌, ◌≤◌, ℕ, pos, negsuc, true, List, [], ◌∷◌, length, get_or, refl, sym, ◌∙◌, subst, arith, Result, Ok, Err}
use Rattle.std.specs.Prelude.{IfOk}
use Rattle.lin_rows.specs.Rows.{Row}
use Rattle.lin_rows.specs.Divisors.{common_divisor}
use Rattle.theory_api.specs.declared.answer.TheoryAnswer.{TheoryAnswer}
use Rattle.theory_api.specs.declared.answer.TheoryAnswer.TheVariants.{Split}
use Rattle.theory_api.specs.Laws.{IsAnswer, IsSplit}
use Rattle.search_tests.proofs.known.of_three.Goals as goal

three_rows : (rows : List Row) (p q r : Row) → 3 ≤ length rows → length rows < 4 → p ≡ get_or rows 0 p → q ≡ get_or rows 1 q → r ≡ get_or rows 2 r → rows ≡ p ∷ q ∷ r ∷ []
three_rows [] p q r a b e f g = absurd (omega arith)
three_rows (x ∷ []) p q r a b e f g = absurd (omega arith)
three_rows (x ∷ y ∷ []) p q r a b e f g = absurd (omega arith)
three_rows (x ∷ y ∷ z ∷ []) p q r a b e f g = λ i. sym e i ∷ sym f i ∷ sym g i ∷ []
three_rows (x ∷ y ∷ z ∷ w ∷ rows) p q r a b e f g = absurd (omega arith)

abbrev upper : Row
upper = record { terms = record { place = 0; coef = pos 2 } ∷ record { place = 1; coef = pos 3 } ∷ []; bound = pos 4 }

abbrev lower : Row
lower = record { terms = record { place = 0; coef = negsuc 1 } ∷ record { place = 1; coef = negsuc 2 } ∷ []; bound = negsuc 3 }

abbrev least : Row
least = record { terms = record { place = 1; coef = negsuc 0 } ∷ []; bound = negsuc 0 }

split_gap : (ints : ℕ) → 0 < ints → IsSplit ints (upper ∷ lower ∷ least ∷ []) 0 (pos 0) (0 ∷ 1 ∷ 2 ∷ []) [] 1 0 (pos 1 ∷ [])
unfolding common_divisor
split_gap ints l = record {
  place_below = l;
  given = refl;
  unsettled = refl;
  cause = refl;
  held = upper ∷ lower ∷ least ∷ [];
  held_is = refl;
  chosen = record { consistent = refl; choices = record { place = 1; value = pos 1 } ∷ []; driven = refl; among = refl };
  eliminated = record { order = []; different = refl; in_order = refl };
}

split_of : {E : Type 0} (ints : ℕ) (rows : List Row) (o : Result TheoryAnswer E) → 0 < ints → rows ≡ upper ∷ lower ∷ least ∷ [] → IfOk o (λ answer. answer ≡ Split 0 (pos 0) (0 ∷ 1 ∷ 2 ∷ []) [] 1 0 (pos 1 ∷ []))
    → IfOk o (λ answer. IsAnswer true true ints rows answer)
split_of ints rows (Ok a) l e h = subst (λ (z : TheoryAnswer). IsAnswer true true ints rows z) (sym h) (refl, subst (λ (z : List Row). IsSplit ints z 0 (pos 0) (0 ∷ 1 ∷ 2 ∷ []) [] 1 0 (pos 1 ∷ [])) (sym e) (split_gap ints l))
split_of ints rows (Err w) l e h = tt

pub returns : goal.returns
returns c =
    let k1 : c.is.result ≡ true = search rules in
    let k2 : c.is-2.result ≡ true = search rules in
    let k3 : c.is-3.result ≡ true = search rules in
    let u : c.upper-item.result ≡ upper = c.is.ensures k1 ∙ (λ i. record { terms = c.term.ensures i ∷ c.term-2.ensures i ∷ []; bound = pos 4 }) in
    let v : c.lower-item.result ≡ lower = c.is-2.ensures k2 ∙ (λ i. record { terms = c.term-3.ensures i ∷ c.term-4.ensures i ∷ []; bound = negsuc 3 }) in
    let w : c.least-item.result ≡ least = c.is-3.ensures k3 ∙ (λ i. record { terms = c.term-5.ensures i ∷ []; bound = negsuc 0 }) in
    let rows = three_rows c.args.rows.now c.upper-item.result c.lower-item.result c.least-item.result c.in-len3.len_at_least c.in-len3.len_below c.upper-item.is c.lower-item.is c.least-item.is in
    split_of c.args.ints c.args.rows.now c.gap.result (omega arith) (rows ∙ (λ i. u i ∷ v i ∷ w i ∷ [])) c.gap.ensures
