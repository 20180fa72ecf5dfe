use Prim.Native.Nat.{◌∣◌}
use Rattle.std.proofs.Common.{◌≡◌, ℕ, zero, suc, ◌/◌, ◌<◌, ◌≤◌, ℤ, pos, negsuc, ◌+ℤ◌, ◌-ℤ◌, ◌*ℤ◌, Bool, true, false, cond, not, ◌&&◌, List, [], ◌∷◌, map, refl, sym, ◌∙◌, ap, subst, arith, unsigned_abs, Option, Some, None}
use Rattle.std.specs.Prelude.{sum, slice_get}
use Rattle.std.specs.List.{list_all}
use Rattle.std.specs.Int.{int_div_euclid}
use Rattle.std.specs.Option.{option_map, option_and_then}
use Rattle.std.specs.Ordering.{int_eq}
use Rattle.std.proofs.Math.Nat.{div_self, div-eq_of_lt, lt-suc_self, zero-lt-suc}
use Rattle.std.proofs.lemmas.Bool.{and_from, and_parts}
use Rattle.std.proofs.lemmas.Int.{ints}
use Rattle.std.proofs.lemmas.Bool.Decides.{Decides-int_eq}
use Rattle.std.proofs.lemmas.Nat.Gcd.{le_of_dvd, dvd_refl}
use Rattle.std.proofs.lemmas.List.Sums.{sum_by-cons}
use Rattle.lin_rows.specs.Numbers.{fit, in_range, is_zero}
use Rattle.lin_rows.specs.declared.term.RowTerm.{RowTerm}
use Rattle.lin_rows.specs.Rows.{Row, is_row, rises_from, value_at, opposite, negated}
use Rattle.lin_rows.specs.Divisors.{divisor_of, divided_term}
use Rattle.lin_rows.proofs.Kept.{rises, rises_of, is_row-negated}
use Rattle.lin_rows.proofs.Divisor.{DividesAll, sizes_of, le_common_divisor}
use Rattle.lin_rows.proofs.Rounding.{IsDivisor, divisor_of-row, value_at-divided}
use Rattle.proof_lines.specs.declared.clause.Lit.{Lit}
use Rattle.proof_lines.specs.declared.problem.AtomKind.{AtomKind}
use Rattle.proof_lines.specs.declared.problem.AtomKind.TheVariants.{Plain, Row as OfRow}
use Rattle.line_rows.specs.Evidence.{in_state}
use Rattle.line_rows.specs.Steps.{row_of_kind, atom_row, lit_row}
use Rattle.diff_bounds.specs.Differences.{is_unit, is_near, is_taken, are_taken, is_there_taken, row_fits, atom_fits}
use Rattle.diff_bounds.specs.Fitting.{over, is_simple}

-- A ROW THAT IS TAKEN, by its own coefficients

size_positive : (c : ℤ) → not (is_zero c) ≡ true → 0 < unsigned_abs c
size_positive (pos zero) h = absurd cc
size_positive (pos (suc n)) h = omega arith
size_positive (negsuc n) h = omega arith

coefficient : (least : ℕ) (t : RowTerm) (ts : List RowTerm) → rises_from least (t ∷ ts) ≡ true → 0 < unsigned_abs t.coef
coefficient least t ts h = size_positive t.coef (and_parts (not (is_zero t.coef)) (in_range t.coef) (rises least t ts h).coefficient).0

some_sum : (n : ℕ) (ns : List ℕ) → 0 < n → 0 < sum (n ∷ ns)
some_sum n ns h = let e = sum_by-cons (λ x. x) n ns in omega arith

-- the divisor of coefficients of which the first divides all
divisor-first : (t : RowTerm) (ts : List RowTerm) → rises_from 0 (t ∷ ts) ≡ true → DividesAll (unsigned_abs t.coef) (sizes_of (t ∷ ts)) → divisor_of (t ∷ ts) ≡ unsigned_abs t.coef
divisor-first t ts h d =
    let p = coefficient 0 t ts h in
    let k = divisor_of-row (t ∷ ts) refl h in
    let a : divisor_of (t ∷ ts) ≤ unsigned_abs t.coef = le_of_dvd p k.divides.0 in
    let b = le_common_divisor (sizes_of (t ∷ ts)) (unsigned_abs t.coef) (some_sum (unsigned_abs t.coef) (sizes_of ts) p) d in
    omega arith

-- a coefficient over its size
self-over : (n : ℕ) → suc n / suc n ≡ 1
self-over n = div_self (zero-lt-suc n)

less-over : (n : ℕ) → n / suc n ≡ 0
less-over n = div-eq_of_lt (lt-suc_self n)

over-self : (c : ℤ) → 0 < unsigned_abs c → is_unit (over c c) ≡ true
over-self (pos zero) h = absurd (omega arith)
over-self (pos (suc n)) h = ap (λ k. is_unit (pos k)) (self-over n)
over-self (negsuc n) h = ap (λ k. is_unit (negsuc k)) (less-over n)

same_size : (a b : ℤ) → a +ℤ b ≡ pos 0 → unsigned_abs b ≡ unsigned_abs a
same_size a b e = omega (arith, ints)

over-opposite : (a b : ℤ) → 0 < unsigned_abs a → a +ℤ b ≡ pos 0 → over a a +ℤ over b a ≡ pos 0
over-opposite (pos zero) b h e = absurd (omega arith)
over-opposite (pos (suc n)) b h e =
    let q : b ≡ negsuc n = omega (arith, ints) in
    (λ i. pos (self-over n i) +ℤ int_div_euclid (q i) (pos (suc n))) ∙ ap (λ k. pos 1 +ℤ negsuc k) (less-over n)
over-opposite (negsuc n) b h e =
    let q : b ≡ pos (suc n) = omega (arith, ints) in
    (λ i. negsuc (less-over n i) +ℤ int_div_euclid (q i) (pos (suc n))) ∙ ap (λ k. negsuc 0 +ℤ pos k) (self-over n)

taken-two : (n : ℕ) (t u : RowTerm) (b : ℤ) → rises_from 0 (t ∷ u ∷ []) ≡ true → is_taken n (record { terms = t ∷ u ∷ []; bound = b }) ≡ is_simple n (t ∷ u ∷ []) b
taken-two n t u b h = by_case (int_eq (t.coef +ℤ u.coef) (pos 0)) refl
  where
    d : ℕ
    d = divisor_of (t ∷ u ∷ [])

    k : IsDivisor (t ∷ u ∷ [])
    k = divisor_of-row (t ∷ u ∷ []) refl h

    apart : int_eq (t.coef +ℤ u.coef) (pos 0) ≡ false → int_eq (int_div_euclid t.coef (pos d) +ℤ int_div_euclid u.coef (pos d)) (pos 0) ≡ false
    apart z = by_sum (int_eq (int_div_euclid t.coef (pos d) +ℤ int_div_euclid u.coef (pos d)) (pos 0)) refl
      where
        by_sum : (s : Bool) → int_eq (int_div_euclid t.coef (pos d) +ℤ int_div_euclid u.coef (pos d)) (pos 0) ≡ s → s ≡ false
        by_sum false q = refl
        by_sum true q =
            let s = (Decides-int_eq (int_div_euclid t.coef (pos d) +ℤ int_div_euclid u.coef (pos d)) (pos 0)).0 q in
            let v = value_at-divided (λ _. pos 1) d (t ∷ u ∷ []) k.positive k.divides in
            let w : value_at (λ _. pos 1) (map (divided_term (pos d)) (t ∷ u ∷ [])) ≡ pos 0 = omega (arith, ints) in
            let y : t.coef +ℤ u.coef ≡ pos 0 = (let m = ap (λ z. pos d *ℤ z) w in omega (arith, ints)) in
            absurd (let x = (Decides-int_eq (t.coef +ℤ u.coef) (pos 0)).1 y in cc)

    by_case : (o : Bool) → int_eq (t.coef +ℤ u.coef) (pos 0) ≡ o → is_taken n (record { terms = t ∷ u ∷ []; bound = b }) ≡ (o && is_near n (over b t.coef))
    by_case true z =
        let o = (Decides-int_eq (t.coef +ℤ u.coef) (pos 0)).0 z in
        let w = same_size t.coef u.coef o in
        let p = coefficient 0 t (u ∷ []) h in
        let q : 0 < unsigned_abs u.coef = omega (arith, w) in
        let e = divisor-first t (u ∷ []) h (dvd_refl (unsigned_abs t.coef), (subst (λ (k : ℕ). unsigned_abs t.coef ∣ k) (sym w) (dvd_refl (unsigned_abs t.coef)), tt)) in
        ap (λ k. ((is_unit (int_div_euclid t.coef (pos k)) && is_unit (int_div_euclid u.coef (pos k))) && int_eq (int_div_euclid t.coef (pos k) +ℤ int_div_euclid u.coef (pos k)) (pos 0)) && is_near n (int_div_euclid b (pos k))) e
        ∙ ap (λ (x : Bool). x && is_near n (over b t.coef))
        (and_from (is_unit (over t.coef t.coef) && is_unit (over u.coef t.coef)) (int_eq (over t.coef t.coef +ℤ over u.coef t.coef) (pos 0))
        (and_from (is_unit (over t.coef t.coef)) (is_unit (over u.coef t.coef)) (over-self t.coef p) (subst (λ (k : ℕ). is_unit (int_div_euclid u.coef (pos k)) ≡ true) w (over-self u.coef q)))
        ((Decides-int_eq (over t.coef t.coef +ℤ over u.coef t.coef) (pos 0)).1 (over-opposite t.coef u.coef p o)))
    by_case false z =
        ap (λ (s : Bool). ((is_unit (int_div_euclid t.coef (pos d)) && is_unit (int_div_euclid u.coef (pos d))) && s) && is_near n (int_div_euclid b (pos d))) (apart z)
        ∙ none (is_unit (int_div_euclid t.coef (pos d)) && is_unit (int_div_euclid u.coef (pos d))) (is_near n (int_div_euclid b (pos d)))
      where
        none : (x y : Bool) → ((x && false) && y) ≡ false
        none true y = refl
        none false y = refl

taken-simple : (n : ℕ) (ts : List RowTerm) (b : ℤ) → rises_from 0 ts ≡ true → is_taken n (record { terms = ts; bound = b }) ≡ is_simple n ts b
taken-simple n [] b h = refl
taken-simple n (t ∷ []) b h =
    let e = divisor-first t [] h (dvd_refl (unsigned_abs t.coef), tt) in
    ap (λ k. is_unit (int_div_euclid t.coef (pos k)) && is_near n (int_div_euclid b (pos k))) e
    ∙ ap (λ (x : Bool). x && is_near n (over b t.coef)) (over-self t.coef (coefficient 0 t [] h))
taken-simple n (t ∷ u ∷ []) b h = taken-two n t u b h
taken-simple n (t ∷ u ∷ v ∷ ts) b h = refl

size-opposite : (c : ℤ) → unsigned_abs (pos 0 -ℤ c) ≡ unsigned_abs c
size-opposite c = omega (arith, ints)

sum-opposite : (a b : ℤ) → int_eq ((pos 0 -ℤ a) +ℤ (pos 0 -ℤ b)) (pos 0) ≡ int_eq (a +ℤ b) (pos 0)
sum-opposite a b = grind (arith, ints)

simple-opposite : (n : ℕ) (ts : List RowTerm) (b : ℤ) → is_simple n (map opposite ts) b ≡ is_simple n ts b
simple-opposite n [] b = refl
simple-opposite n (t ∷ []) b = ap (λ k. is_near n (int_div_euclid b (pos k))) (size-opposite t.coef)
simple-opposite n (t ∷ u ∷ []) b = λ i. sum-opposite t.coef u.coef i && is_near n (int_div_euclid b (pos (size-opposite t.coef i)))
simple-opposite n (t ∷ u ∷ v ∷ ts) b = refl

-- the negation of a row
negation-simple : (n : ℕ) (r : Row) (o : Option ℤ) → is_row r ≡ true → fit (pos 0 -ℤ r.bound -ℤ pos 1) ≡ o → is_there_taken n (negated r) ≡ is_there_taken n (option_map (λ b. record { terms = map opposite r.terms; bound = b }) o)
negation-simple n r o k e = ap (λ (z : Option ℤ). is_there_taken n (option_map (λ b. record { terms = map opposite r.terms; bound = b }) z)) e

pub negation-there : (n : ℕ) (r : Row) (b : ℤ) → is_row r ≡ true → fit (pos 0 -ℤ r.bound -ℤ pos 1) ≡ Some b → is_there_taken n (negated r) ≡ is_simple n r.terms b
negation-there n r b k e =
    let q : negated r ≡ Some (record { terms = map opposite r.terms; bound = b }) = ap (option_map (λ c. record { terms = map opposite r.terms; bound = c })) e in
    let m = is_row-negated r (record { terms = map opposite r.terms; bound = b }) k q in
    ap (is_there_taken n) q ∙ taken-simple n (map opposite r.terms) b (rises_of (record { terms = map opposite r.terms; bound = b }) m) ∙ simple-opposite n r.terms b

pub negation-none : (n : ℕ) (r : Row) → fit (pos 0 -ℤ r.bound -ℤ pos 1) ≡ None → is_there_taken n (negated r) ≡ false
negation-none n r e = ap (λ (z : Option ℤ). is_there_taken n (option_map (λ b. record { terms = map opposite r.terms; bound = b }) z)) e

pub row-simple : (n : ℕ) (r : Row) → is_row r ≡ true → is_taken n r ≡ is_simple n r.terms r.bound
row-simple n r k = taken-simple n r.terms r.bound (rises_of r k)

pub taken-code : (n : ℕ) (r : Row) (ts : List RowTerm) (b : ℤ) (s : Bool) → is_row r ≡ true → ts ≡ r.terms → b ≡ r.bound → s ≡ is_simple n ts b → s ≡ is_taken n r
taken-code n r ts b s k e f h = h ∙ (λ i. is_simple n (e i) (f i)) ∙ sym (row-simple n r k)

pub negation-code : (n : ℕ) (r : Row) (ts : List RowTerm) (z b c : ℤ) (s : Bool) → is_row r ≡ true → ts ≡ r.terms → z ≡ r.bound → fit (pos 0 -ℤ z -ℤ pos 1) ≡ Some b → c ≡ b → s ≡ is_simple n ts c → s ≡ is_there_taken n (negated r)
negation-code n r ts z b c s k e f g q h =
    h ∙ (λ i. is_simple n (e i) (q i)) ∙ sym (negation-there n r b k (ap (λ a. fit (pos 0 -ℤ a -ℤ pos 1)) (sym f) ∙ g))

pub negation-missing : (n : ℕ) (r : Row) (z : ℤ) → z ≡ r.bound → fit (pos 0 -ℤ z -ℤ pos 1) ≡ None → false ≡ is_there_taken n (negated r)
negation-missing n r z f g = sym (negation-none n r (ap (λ a. fit (pos 0 -ℤ a -ℤ pos 1)) (sym f) ∙ g))

-- THE ROWS OF A PROBLEM THAT FITS

some_row : {a b : Row} → Some a ≡ Some b → a ≡ b
some_row h = cc

kind-fits : (n : ℕ) (atoms : List AtomKind) (a : ℕ) (q : Row) → list_all (atom_fits n) atoms ≡ true → row_of_kind (slice_get atoms a) ≡ Some q → row_fits n q ≡ true
kind-fits n [] a q h e = absurd cc
kind-fits n (Plain ∷ atoms) zero q h e = absurd cc
kind-fits n (OfRow r ∷ atoms) zero q h e = subst (λ (z : Row). row_fits n z ≡ true) (some_row e) (and_parts (row_fits n r) (list_all (atom_fits n) atoms) h).0
kind-fits n (k ∷ atoms) (suc a) q h e = kind-fits n atoms a q (and_parts (atom_fits n k) (list_all (atom_fits n) atoms) h).1 e

lit-taken : (n : ℕ) (atoms : List AtomKind) (l : Lit) (r : Row) → list_all (atom_fits n) atoms ≡ true → lit_row atoms l ≡ Some r → is_taken n r ≡ true
lit-taken n atoms l r h e = by_sign l.positive (atom_row atoms l.atom) refl e
  where
    parts : (q : Row) → atom_row atoms l.atom ≡ Some q → (is_taken n q ≡ true) × (is_there_taken n (negated q) ≡ true)
    parts q f =
        let k = kind-fits n atoms l.atom q h f in
        and_parts (is_taken n q) (is_there_taken n (negated q)) (and_parts (list_all (λ t. in_state t.coef) q.terms) (is_taken n q && is_there_taken n (negated q)) k).1

    by_sign : (p : Bool) (o : Option Row) → atom_row atoms l.atom ≡ o → cond p o (option_and_then negated o) ≡ Some r → is_taken n r ≡ true
    by_sign true o f g = (parts r (f ∙ g)).0
    by_sign false None f g = absurd cc
    by_sign false (Some q) f g = ap (is_there_taken n) (sym g) ∙ (parts q f).1

pub rows-taken : (n : ℕ) (atoms : List AtomKind) (lits : List Lit) (rows : List Row) → list_all (atom_fits n) atoms ≡ true → map (lit_row atoms) lits ≡ map (λ r. Some r) rows → are_taken n rows ≡ true
rows-taken n atoms [] [] h e = refl
rows-taken n atoms [] (r ∷ rows) h e = absurd cc
rows-taken n atoms (l ∷ lits) [] h e = absurd cc
rows-taken n atoms (l ∷ lits) (r ∷ rows) h e =
    let a : lit_row atoms l ≡ Some r = cc in
    let b : map (lit_row atoms) lits ≡ map (λ q. Some q) rows = cc in
    ap (λ (x : Bool). x && are_taken n rows) (lit-taken n atoms l r h a) ∙ rows-taken n atoms lits rows h b
