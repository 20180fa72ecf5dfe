use Rattle.std.proofs.Common.{rules, ◌≡◌, ◌<◌, ◌≤◌, ℕ, ℤ, pos, negsuc, true, List, [], ◌∷◌, ◌++◌, length, get_or, refl, sym, ◌∙◌, ap, subst, arith}
use Rattle.lin_rows.specs.Rows.{Row}
use Rattle.theory_api.specs.Laws.{IsModel}
use Rattle.search_tests.proofs.known.of_four.Goals as goal

four_rows : (rows : List Row) (p q r s : Row) → 4 ≤ length rows → length rows < 5 → p ≡ get_or rows 0 p → q ≡ get_or rows 1 q → r ≡ get_or rows 2 r → s ≡ get_or rows 3 s → rows ≡ p ∷ q ∷ r ∷ s ∷ []
four_rows [] p q r s a b e f g h = absurd (omega arith)
four_rows (x ∷ []) p q r s a b e f g h = absurd (omega arith)
four_rows (x ∷ y ∷ []) p q r s a b e f g h = absurd (omega arith)
four_rows (x ∷ y ∷ z ∷ []) p q r s a b e f g h = absurd (omega arith)
four_rows (x ∷ y ∷ z ∷ w ∷ []) p q r s a b e f g h = λ i. sym e i ∷ sym f i ∷ sym g i ∷ sym h i ∷ []
four_rows (x ∷ y ∷ z ∷ w ∷ v ∷ rows) p q r s a b e f g h = absurd (omega arith)

abbrev upper : Row
upper = record { terms = record { place = 0; coef = pos 2 } ∷ record { place = 1; coef = pos 3 } ∷ []; bound = pos 4 }

abbrev lower : Row
lower = record { terms = record { place = 0; coef = negsuc 1 } ∷ record { place = 1; coef = negsuc 2 } ∷ []; bound = negsuc 3 }

abbrev least : Row
least = record { terms = record { place = 1; coef = negsuc 0 } ∷ []; bound = negsuc 0 }

abbrev half : Row
half = record { terms = record { place = 0; coef = pos 1 } ∷ []; bound = pos 0 }

model_half : IsModel 2 (upper ∷ lower ∷ least ∷ half ∷ []) (negsuc 0 ∷ pos 2 ∷ [])
model_half = record { whole = refl; in_range = refl; satisfies = refl }

model_of : (ints : ℕ) (rows : List Row) (values : List ℤ) → ints ≡ 2 → rows ≡ upper ∷ lower ∷ least ∷ half ∷ [] → values ≡ negsuc 0 ∷ pos 2 ∷ [] → IsModel ints rows values
model_of ints rows values a b d =
    subst (λ (z : ℕ). IsModel z rows values) (sym a)
    (subst (λ (z : List Row). IsModel 2 z values) (sym b)
    (subst (λ (z : List ℤ). IsModel 2 (upper ∷ lower ∷ least ∷ half ∷ []) z) (sym d) model_half))

pub returns : goal.returns
returns c =
    let k1 : c.is.result ≡ true = search rules in
    let k2 : c.is-2.result ≡ true = search rules in
    let k3 : c.is-3.result ≡ true = search rules in
    let k4 : c.is-4.result ≡ true = search rules in
    let u : c.upper-item.result ≡ upper = c.is.ensures k1 ∙ (λ i. record { terms = c.term.ensures i ∷ c.term-2.ensures i ∷ []; bound = pos 4 }) in
    let v : c.lower-item.result ≡ lower = c.is-2.ensures k2 ∙ (λ i. record { terms = c.term-3.ensures i ∷ c.term-4.ensures i ∷ []; bound = negsuc 3 }) in
    let w : c.least-item.result ≡ least = c.is-3.ensures k3 ∙ (λ i. record { terms = c.term-5.ensures i ∷ []; bound = negsuc 0 }) in
    let x : c.half-item.result ≡ half = c.is-4.ensures k4 ∙ (λ i. record { terms = c.term-6.ensures i ∷ []; bound = pos 0 }) in
    let rows = four_rows c.args.rows.now c.upper-item.result c.lower-item.result c.least-item.result c.half-item.result c.in-len4.len_at_least c.in-len4.len_below c.upper-item.is c.lower-item.is c.least-item.is c.half-item.is in
    let first : c.push.new.self ≡ negsuc 0 ∷ [] = c.in_ok-push.ensures.ok ∙ ap (λ (z : List ℤ). z ++ negsuc 0 ∷ []) c.new-values.ensures in
    let values : c.push-2.new.self ≡ negsuc 0 ∷ pos 2 ∷ [] = c.in_ok-push-2.ensures.ok ∙ ap (λ (z : List ℤ). z ++ pos 2 ∷ []) first in
    model_of c.args.ints c.args.rows.now c.push-2.new.self (omega arith) (rows ∙ (λ i. u i ∷ v i ∷ w i ∷ x i ∷ [])) values
