-- How rows are compared and hashed, so that equal ones have one number.
use Rattle.std.specs.Prelude.{◌≡◌, true, ◌&&◌, nat_eq, List, [], ◌∷◌, ◌++◌}
use Rattle.std.specs.List.{flat_map}
use Rattle.std.specs.Ordering.{int_eq}
use Rattle.std.specs.Hash as fed
use Rattle.std.specs.Cmp.{decided, IsEquivalence}
use Rattle.std.specs.Bool.{Decides}
use Rattle.std.proofs.Common.{refl, ap, subst}
use Rattle.std.proofs.lemmas.Bool.{and_parts, and_from}
use Rattle.std.proofs.lemmas.Bool.Decides.{Decides-int_eq, Decides-eqb}
use Rattle.lin_rows.specs.declared.term.RowTerm.{RowTerm}
use Rattle.lin_rows.specs.Rows.{Row}
use Rattle.line_rows.specs.Evidence.{same_terms, same_row}

-- what a term puts into a hash: its place and its coefficient
abbrev pub fed_term : RowTerm → fed.HashWrites
fed_term t = fed.u32 t.place ++ fed.i128 t.coef

-- what a row puts into a hash: its bound, and then its terms
abbrev pub fed_row : Row → fed.HashWrites
fed_row r = fed.i128 r.bound ++ flat_map fed_term r.terms

same_terms-refl : (ts : List RowTerm) → same_terms ts ts ≡ true
same_terms-refl [] = refl
same_terms-refl (t ∷ ts) =
    and_from (nat_eq t.place t.place) (int_eq t.coef t.coef && same_terms ts ts)
    ((Decides-eqb t.place t.place).1 refl)
    (and_from (int_eq t.coef t.coef) (same_terms ts ts) ((Decides-int_eq t.coef t.coef).1 refl)
    (same_terms-refl ts))

same_terms-is : (ts us : List RowTerm) → same_terms ts us ≡ true → ts ≡ us
same_terms-is [] [] h = refl
same_terms-is [] (u ∷ us) h = absurd cc
same_terms-is (t ∷ ts) [] h = absurd cc
same_terms-is (t ∷ ts) (u ∷ us) h =
    let p = and_parts (nat_eq t.place u.place) (int_eq t.coef u.coef && same_terms ts us) h in
    let q = and_parts (int_eq t.coef u.coef) (same_terms ts us) p.1 in
    let e = (Decides-eqb t.place u.place).0 p.0 in
    let f = (Decides-int_eq t.coef u.coef).0 q.0 in
    let g = same_terms-is ts us q.1 in
    λ i. record { place = e i; coef = f i } ∷ g i

same_row-refl : (r : Row) → same_row r r ≡ true
same_row-refl r =
    and_from (int_eq r.bound r.bound) (same_terms r.terms r.terms)
    ((Decides-int_eq r.bound r.bound).1 refl) (same_terms-refl r.terms)

same_row-is : (r q : Row) → same_row r q ≡ true → r ≡ q
same_row-is r q h =
    let p = and_parts (int_eq r.bound q.bound) (same_terms r.terms q.terms) h in
    let e = (Decides-int_eq r.bound q.bound).0 p.0 in
    let f = same_terms-is r.terms q.terms p.1 in
    λ i. record { terms = f i; bound = e i }

-- rows that the test finds equal are equal
pub Decides-same_row : (r q : Row) → Decides (same_row r q) (r ≡ q)
Decides-same_row r q =
    (same_row-is r q, λ e. subst (λ (z : Row). same_row r z ≡ true) e (same_row-refl r))

-- equality of rows is reflexive, symmetric and transitive
pub rows_equal : IsEquivalence same_row
rows_equal = decided same_row Decides-same_row

-- equal rows put the same into a hash
pub fed_alike : (r q : Row) → same_row r q ≡ true → fed_row r ≡ fed_row q
fed_alike r q h = ap fed_row (same_row-is r q h)
