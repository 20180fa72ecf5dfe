-- What a row names: the places whose coefficient isn't 0.
use Rattle.std.proofs.Common.{◌≡◌, ℕ, suc, pos, Bool, true, false, cond, not, ◌||◌, List, [], ◌∷◌, refl, sym, ◌∙◌, ap, arith}
use Rattle.std.proofs.lemmas.Bool.{and_from}
use Rattle.std.specs.Prelude.{◌==◌, nat_eq, nat_le}
use Rattle.std.specs.List.{list_all, list_any}
use Rattle.std.proofs.lemmas.Bool.Decides.{nat_tests}
use Rattle.lin_rows.specs.Numbers.{is_zero, in_range}
use Rattle.lin_rows.specs.declared.term.RowTerm.{RowTerm}
use Rattle.lin_rows.specs.Rows.{rises_from, coefficient_at}
use Rattle.lin_rows.proofs.Kept.{Rises, rises, first_of_both}
use Rattle.proof_lines.proofs.Sets.{same_nat-refl}
use Rattle.elimination.specs.Places.{names}

unnamed : (p least : ℕ) (ts : List RowTerm) → nat_le (suc p) least ≡ true → rises_from least ts ≡ true → coefficient_at ts p ≡ pos 0
unnamed p least [] h k = refl
unnamed p least (t ∷ ts) h k =
    let r = rises least t ts k in
    ap (λ b. cond b t.coef (coefficient_at ts p)) (apart p least t.place h r.place_from) ∙ unnamed p (suc t.place) ts (up p least t.place h r.place_from) r.others
  where
    apart : (p least q : ℕ) → nat_le (suc p) least ≡ true → nat_le least q ≡ true → nat_eq q p ≡ false
    apart p least q h k = grind (arith, nat_tests)

    up : (p least q : ℕ) → nat_le (suc p) least ≡ true → nat_le least q ≡ true → nat_le (suc p) (suc q) ≡ true
    up p least q h k = grind (arith, nat_tests)

-- a test that holds at each place with a coefficient holds at each term's place
pub all-named : (test : ℕ → Bool) (least : ℕ) (ts : List RowTerm) → rises_from least ts ≡ true → ((q : ℕ) → is_zero (coefficient_at ts q) ≡ false → test q ≡ true) → list_all (λ t. test t.place) ts ≡ true
all-named test least [] k f = refl
all-named test least (t ∷ ts) k f =
    and_from (test t.place) (list_all (λ u. test u.place) ts) (f t.place here) (all-named test (suc t.place) ts r.others (λ q z. f q (there q z (nat_eq t.place q) refl)))
  where
    r : Rises least t ts
    r = rises least t ts k

    not_zero : (b : Bool) → not b ≡ true → b ≡ false
    not_zero true h = absurd cc
    not_zero false h = refl

    next : (p : ℕ) → nat_le (suc p) (suc p) ≡ true
    next p = grind (arith, nat_tests)

    same : (p q : ℕ) → nat_eq p q ≡ true → p ≡ q
    same p q h = grind (arith, nat_tests)

    here : is_zero (cond (t.place == t.place) t.coef (coefficient_at ts t.place)) ≡ false
    here = ap (λ b. is_zero (cond b t.coef (coefficient_at ts t.place))) (same_nat-refl t.place) ∙ not_zero (is_zero t.coef) (first_of_both (not (is_zero t.coef)) (in_range t.coef) r.coefficient)

    there : (q : ℕ) → is_zero (coefficient_at ts q) ≡ false → (b : Bool) → nat_eq t.place q ≡ b → is_zero (cond b t.coef (coefficient_at ts q)) ≡ false
    there q z true e =
        let o = ap (λ p. coefficient_at ts p) (sym (same t.place q e)) ∙ unnamed t.place (suc t.place) ts (next t.place) r.others in
        let w = ap is_zero o in absurd cc
    there q z false e = z

-- a coefficient that isn't 0 stands in a term
pub names-there : (q : ℕ) (ts : List RowTerm) → is_zero (coefficient_at ts q) ≡ false → list_any (λ t. t.place == q) ts ≡ true
names-there q [] z = absurd cc
names-there q (t ∷ ts) z = by_place (t.place == q) z (names-there q ts)
  where
    by_place : (c : Bool) → is_zero (cond c t.coef (coefficient_at ts q)) ≡ false → (is_zero (coefficient_at ts q) ≡ false → list_any (λ u. u.place == q) ts ≡ true) → (c || list_any (λ u. u.place == q) ts) ≡ true
    by_place true y f = refl
    by_place false y f = f y
