use Rattle.std.proofs.Common.{◌≡◌, ℕ, zero, suc, ◌<◌, Bool, ◌&&◌, true, List, [], ◌∷◌, ◌++◌, length, get_or, drop, drop-cons, refl, sym, ◌∙◌, ap, arith, append_assoc, Option, Some, None, Ok, Err}
use Rattle.std.specs.List.{list_all}
use Rattle.std.specs.Option.{option_map}
use Rattle.std.specs.Prelude.{nat_eq}
use Rattle.std.specs.Ordering.{int_eq}
use Rattle.std.proofs.lemmas.Bool.Decides.{Decides-int_eq, Decides-eqb}
use Rattle.lin_rows.specs.declared.term.RowTerm.{RowTerm}
use Rattle.lin_rows.specs.Rows.{Row}
use Rattle.lin_rows.specs.Divisors.{tightened}
use Rattle.proof_lines.specs.declared.clause.Lit.{Lit}
use Rattle.proof_lines.specs.declared.problem.AtomKind.{AtomKind}
use Rattle.proof_lines.specs.declared.line.LineRefused.{LineRefused}
use Rattle.proof_lines.specs.declared.line.LineRefused.TheVariants.{Bad, Memory}
use Rattle.proof_lines.specs.declared.line.Why.{Why}
use Rattle.proof_lines.specs.declared.line.Why.TheVariants.{Range}
use Rattle.line_rows.specs.Refusals.{or_broken, IsTold}
use Rattle.line_rows.specs.Steps.{with_row, lit_row, lit_rows}
use Rattle.line_rows.specs.Evidence.{same_terms, same_row}
use Rattle.std.proofs.lemmas.Bool.{and_parts, and_from}

pub all_at : {X : Type 0} (p : X → Bool) (xs : List X) (i : ℕ) (d : X) → i < length xs → list_all p xs ≡ true → p (get_or xs i d) ≡ true
all_at p [] i d lt h = absurd (omega arith)
all_at p (x ∷ xs) zero d lt h = (and_parts (p x) (list_all p xs) h).0
all_at p (x ∷ xs) (suc i) d lt h = all_at p xs i d (omega arith) (and_parts (p x) (list_all p xs) h).1

-- one row more of the used ones
with_row-some : (rows : List Row) (r : Row) (o : Option (List Row)) → option_map (λ more. rows ++ more) (with_row (Some r) o) ≡ option_map (λ more. (rows ++ r ∷ []) ++ more) o
with_row-some rows r (Some more) = ap (λ (z : List Row). Some z) (sym (append_assoc rows (r ∷ []) more))
with_row-some rows r None = refl

pub rows-more : (atoms : List AtomKind) (used : List Lit) (i j : ℕ) (d : Lit) (rows : List Row) (r : Row) → j ≡ suc i → i < length used
    → or_broken Range (option_map tightened (lit_row atoms (get_or used i d))) ≡ Ok r
    → option_map (λ more. rows ++ more) (lit_rows atoms (drop i used)) ≡ option_map (λ more. (rows ++ r ∷ []) ++ more) (lit_rows atoms (drop j used))
rows-more atoms used i j d rows r e lt h =
    let s = found (option_map tightened (lit_row atoms (get_or used i d))) h in
    rw (drop-cons used i d) (rw e (ap (λ (o : Option Row). option_map (λ more. rows ++ more) (with_row o (lit_rows atoms (drop (suc i) used)))) s ∙ with_row-some rows r (lit_rows atoms (drop (suc i) used))))
  where
    found : (o : Option Row) → or_broken Range o ≡ Ok r → o ≡ Some r
    found (Some q) k = cc
    found None k = absurd cc

pub rows-stop : (atoms : List AtomKind) (used : List Lit) (i : ℕ) (d : Lit) (rows : List Row) → i < length used → option_map tightened (lit_row atoms (get_or used i d)) ≡ None
    → option_map (λ more. rows ++ more) (lit_rows atoms (drop i used)) ≡ None
rows-stop atoms used i d rows lt e =
    rw (drop-cons used i d) (ap (λ (o : Option Row). option_map (λ more. rows ++ more) (with_row o (lit_rows atoms (drop (suc i) used)))) e)

lift_err : {A B : Type 0} {q : Option B} {w : Why} → or_broken {A = A} Range None ≡ Err w → q ≡ None → or_broken Range q ≡ Err w
lift_err {B = B} t e = ap (λ (z : Option B). or_broken Range z) e ∙ cc

pub told-stop : {A B : Type 0} (o : Option A) (q : Option B) (e : LineRefused) → IsTold e (or_broken Range o) → (o ≡ None → q ≡ None) → IsTold e (or_broken Range q)
told-stop o q Memory t h = tt
told-stop (Some a) q (Bad w) t h = absurd cc
told-stop None q (Bad w) t h = lift_err t (h refl)

-- equal rows
same_terms-refl : (ts : List RowTerm) → same_terms ts ts ≡ true
same_terms-refl [] = refl
same_terms-refl (t ∷ ts) =
    and_from (nat_eq t.place t.place) (int_eq t.coef t.coef && same_terms ts ts) ((Decides-eqb t.place t.place).1 refl)
    (and_from (int_eq t.coef t.coef) (same_terms ts ts) ((Decides-int_eq t.coef t.coef).1 refl) (same_terms-refl ts))

same_terms-is : (ts us : List RowTerm) → same_terms ts us ≡ true → ts ≡ us
same_terms-is [] [] h = refl
same_terms-is [] (u ∷ us) h = absurd cc
same_terms-is (t ∷ ts) [] h = absurd cc
same_terms-is (t ∷ ts) (u ∷ us) h =
    let p = and_parts (nat_eq t.place u.place) (int_eq t.coef u.coef && same_terms ts us) h in
    let q = and_parts (int_eq t.coef u.coef) (same_terms ts us) p.1 in
    let e = (Decides-eqb t.place u.place).0 p.0 in
    let f = (Decides-int_eq t.coef u.coef).0 q.0 in
    let g = same_terms-is ts us q.1 in
    λ i. record { place = e i; coef = f i } ∷ g i

pub same_row-refl : (r : Row) → same_row r r ≡ true
same_row-refl r = and_from (int_eq r.bound r.bound) (same_terms r.terms r.terms) ((Decides-int_eq r.bound r.bound).1 refl) (same_terms-refl r.terms)

pub same_row-is : (r q : Row) → same_row r q ≡ true → r ≡ q
same_row-is r q h =
    let p = and_parts (int_eq r.bound q.bound) (same_terms r.terms q.terms) h in
    let e = (Decides-int_eq r.bound q.bound).0 p.0 in
    let f = same_terms-is r.terms q.terms p.1 in
    λ i. record { terms = f i; bound = e i }
