use Rattle.std.proofs.Common.{◌≡◌, ℕ, suc, ℤ, pos, ◌+ℤ◌, ◌*ℤ◌, Bool, true, false, cond, not, ◌||◌, ◌&&◌, List, [], ◌∷◌, map, refl, sym, ◌∙◌, ap, arith, ◌⊎◌, inl, inr}
use Rattle.std.proofs.lemmas.Bool.{and_from, and_parts, eqb-true, or_cases, or_left, or_right}
use Rattle.std.specs.Prelude.{◌==◌, nat_eq, nat_le, nat_lt, int_le}
use Rattle.std.specs.List.{list_any, list_all, fold}
use Rattle.std.specs.Option.{option_and_then}
use Rattle.std.specs.Ordering.{int_eq}
use Rattle.std.proofs.lemmas.Int.{ints}
use Rattle.std.proofs.lemmas.Bool.Decides.{nat_tests}
use Rattle.std.proofs.Math.IntN.{*ℤ-zero, zero-*ℤ}
use Rattle.lin_rows.specs.Numbers.{fit}
use Rattle.lin_rows.specs.declared.term.RowTerm.{RowTerm}
use Rattle.lin_rows.specs.Rows.{Row, value_at, sum_from, rises_from, coefficient_at}
use Rattle.lin_rows.proofs.Kept.{Rises, rises}
use Rattle.proof_lines.specs.Problems.{row_true}
use Rattle.proof_lines.specs.Numbers.{stands_in}
use Rattle.line_rows.specs.Splits.{point, put_rising, other_terms, places_of, other_names}
use Rattle.proof_lines.proofs.Sets.{same_nat-refl}
use Rattle.theory_api.specs.Chosen.{Choice, is_named, chosen_point, is_among, are_among}
use Rattle.linear_ints.specs.Points.{Agree, with_value, values_of}

-- VALUES THAT AGREE AT A ROW'S NAMES

pub value_at-agree : (x y : ℕ → ℤ) (ts : List RowTerm) → Agree x y ts → value_at x ts ≡ value_at y ts
value_at-agree x y [] h = refl
value_at-agree x y (t ∷ ts) h = λ i. t.coef *ℤ h.0 i +ℤ value_at-agree x y ts h.1 i

pub row_true-agree : (x y : ℕ → ℤ) (r : Row) → Agree x y r.terms → row_true x r ≡ row_true y r
row_true-agree x y r h = ap (λ v. int_le v r.bound) (value_at-agree x y r.terms h)

pub sum_from-agree : (x y : ℕ → ℤ) (s : ℤ) (ts : List RowTerm) → Agree x y ts → sum_from x s ts ≡ sum_from y s ts
sum_from-agree x y s [] h = refl
sum_from-agree x y s (t ∷ ts) h =
    λ i. option_and_then (λ product. option_and_then (λ next. sum_from-agree x y next ts h.1 i) (fit (s +ℤ product))) (fit (t.coef *ℤ h.0 i))

-- A VALUE FOR ONE MORE NAME

above : (p q : ℕ) → nat_le (suc p) q ≡ true → nat_eq p q ≡ false
above p q h = grind (arith, nat_tests)

up : (p q least : ℕ) → nat_le (suc p) least ≡ true → nat_le least q ≡ true → nat_le (suc p) (suc q) ≡ true
up p q least h k = grind (arith, nat_tests)

le_of : (p q least : ℕ) → nat_le (suc p) least ≡ true → nat_le least q ≡ true → nat_le (suc p) q ≡ true
le_of p q least h k = grind (arith, nat_tests)

value_at-beyond : (x : ℕ → ℤ) (place : ℕ) (value : ℤ) (least : ℕ) (ts : List RowTerm) → nat_le (suc place) least ≡ true → rises_from least ts ≡ true → value_at (with_value x place value) ts ≡ value_at x ts
value_at-beyond x place value least [] h k = refl
value_at-beyond x place value least (t ∷ ts) h k =
    let r = rises least t ts k in
    let e = above place t.place (le_of place t.place least h r.place_from) in
    let ih = value_at-beyond x place value (suc t.place) ts (up place t.place least h r.place_from) r.others in
    λ i. t.coef *ℤ cond (e i) value (x t.place) +ℤ ih i

pub value_at-with_value : (x : ℕ → ℤ) (place : ℕ) (value : ℤ) (least : ℕ) (ts : List RowTerm) → x place ≡ pos 0 → rises_from least ts ≡ true
    → value_at (with_value x place value) ts ≡ value_at x ts +ℤ coefficient_at ts place *ℤ value
value_at-with_value x place value least [] z k = let e = zero-*ℤ value in omega (arith, ints)
value_at-with_value x place value least (t ∷ ts) z k =
    by_place (nat_eq place t.place) (nat_eq t.place place) refl (turned place t.place) (value_at-with_value x place value (suc t.place) ts z r.others)
  where
    r : Rises least t ts
    r = rises least t ts k

    turned : (p q : ℕ) → nat_eq p q ≡ nat_eq q p
    turned p q = grind (arith, nat_tests)

    next : (p q : ℕ) → nat_eq p q ≡ true → nat_le (suc p) (suc q) ≡ true
    next p q h = grind (arith, nat_tests)

    same : (p q : ℕ) → nat_eq p q ≡ true → p ≡ q
    same p q h = grind (arith, nat_tests)

    by_place : (b c : Bool) → nat_eq place t.place ≡ b → b ≡ c → value_at (with_value x place value) ts ≡ value_at x ts +ℤ coefficient_at ts place *ℤ value
        → t.coef *ℤ cond b value (x t.place) +ℤ value_at (with_value x place value) ts ≡ (t.coef *ℤ x t.place +ℤ value_at x ts) +ℤ cond c t.coef (coefficient_at ts place) *ℤ value
    by_place true true e f ih =
        let o = value_at-beyond x place value (suc t.place) ts (next place t.place e) r.others in
        let zero = ap (λ q. t.coef *ℤ x q) (sym (same place t.place e)) ∙ ap (λ v. t.coef *ℤ v) z ∙ *ℤ-zero t.coef in omega (arith, ints)
    by_place false false e f ih = omega (arith, ints)
    by_place true false e f ih = absurd cc
    by_place false true e f ih = absurd cc

-- THE NAMES OF ROWS OTHER THAN ONE

stands-put : (ns : List ℕ) (n m : ℕ) → stands_in ns m ≡ true → stands_in (put_rising ns n) m ≡ true
stands-put [] n m h = absurd cc
stands-put (k ∷ ns) n m h = by_case (nat_lt n k) (n == k) (or_cases (k == m) (stands_in ns m) h) (stands-put ns n m)
  where
    by_case : (a b : Bool) → ((k == m) ≡ true) ⊎ (stands_in ns m ≡ true) → (stands_in ns m ≡ true → stands_in (put_rising ns n) m ≡ true) → stands_in (cond a (n ∷ k ∷ ns) (cond b (k ∷ ns) (k ∷ put_rising ns n))) m ≡ true
    by_case true b o ih = or_right (n == m) ((k == m) || stands_in ns m) h
    by_case false true o ih = h
    by_case false false (inl e) ih = or_left (k == m) (stands_in (put_rising ns n) m) e
    by_case false false (inr e) ih = or_right (k == m) (stands_in (put_rising ns n) m) (ih e)

stands-put_new : (ns : List ℕ) (n : ℕ) → stands_in (put_rising ns n) n ≡ true
stands-put_new [] n = or_left (n == n) false (same_nat-refl n)
stands-put_new (k ∷ ns) n = by_case (nat_lt n k) (n == k) refl (stands-put_new ns n)
  where
    by_case : (a b : Bool) → (n == k) ≡ b → stands_in (put_rising ns n) n ≡ true → stands_in (cond a (n ∷ k ∷ ns) (cond b (k ∷ ns) (k ∷ put_rising ns n))) n ≡ true
    by_case true b e ih = or_left (n == n) ((k == n) || stands_in ns n) (same_nat-refl n)
    by_case false true e ih = or_left (k == n) (stands_in ns n) (ap (λ m. k == m) (eqb-true n k e) ∙ same_nat-refl k)
    by_case false false e ih = or_right (k == n) (stands_in (put_rising ns n) n) ih

stands-fold : (ns ps : List ℕ) (m : ℕ) → stands_in ns m ≡ true → stands_in (fold put_rising ns ps) m ≡ true
stands-fold ns [] m h = h
stands-fold ns (p ∷ ps) m h = stands-fold (put_rising ns p) ps m (stands-put ns p m h)

stands-fold_new : (ns ps : List ℕ) (m : ℕ) → stands_in ps m ≡ true → stands_in (fold put_rising ns ps) m ≡ true
stands-fold_new ns [] m h = absurd cc
stands-fold_new ns (p ∷ ps) m h = elim (or_cases (p == m) (stands_in ps m) h) [
  | inl e ↦ stands-fold (put_rising ns p) ps m (ap (λ k. stands_in (put_rising ns p) k) (sym (eqb-true p m e)) ∙ stands-put_new ns p)
  | inr e ↦ stands-fold_new (put_rising ns p) ps m e
]

-- a test of all names
all-put : (p : ℕ → Bool) (ns : List ℕ) (n : ℕ) → list_all p ns ≡ true → p n ≡ true → list_all p (put_rising ns n) ≡ true
all-put p [] n h k = and_from (p n) true k refl
all-put p (m ∷ ns) n h k = by_case (nat_lt n m) (n == m) (and_parts (p m) (list_all p ns) h) (λ l. all-put p ns n l k)
  where
    by_case : (a b : Bool) → (p m ≡ true) × (list_all p ns ≡ true) → (list_all p ns ≡ true → list_all p (put_rising ns n) ≡ true) → list_all p (cond a (n ∷ m ∷ ns) (cond b (m ∷ ns) (m ∷ put_rising ns n))) ≡ true
    by_case true b o ih = and_from (p n) (list_all p (m ∷ ns)) k h
    by_case false true o ih = h
    by_case false false o ih = and_from (p m) (list_all p (put_rising ns n)) o.0 (ih o.1)

all-fold : (p : ℕ → Bool) (ns ps : List ℕ) → list_all p ns ≡ true → list_all p ps ≡ true → list_all p (fold put_rising ns ps) ≡ true
all-fold p ns [] h k = h
all-fold p ns (q ∷ ps) h k = let b = and_parts (p q) (list_all p ps) k in all-fold p (put_rising ns q) ps (all-put p ns q h b.0) b.1

-- the other names of a row pass a test that its names but one pass
all-others : (p : ℕ → Bool) (place : ℕ) (ts : List RowTerm) → list_all (λ t. (place == t.place) || p t.place) ts ≡ true → list_all p (places_of (other_terms place ts)) ≡ true
all-others p place [] h = refl
all-others p place (t ∷ ts) h = by_case (t.place == place) refl (and_parts ((place == t.place) || p t.place) (list_all (λ t. (place == t.place) || p t.place) ts) h) (all-others p place ts)
  where
    by_case : (b : Bool) → (t.place == place) ≡ b → (((place == t.place) || p t.place) ≡ true) × (list_all (λ t. (place == t.place) || p t.place) ts ≡ true)
        → (list_all (λ t. (place == t.place) || p t.place) ts ≡ true → list_all p (places_of (other_terms place ts)) ≡ true)
        → list_all p (places_of (cond (not b) (t ∷ other_terms place ts) (other_terms place ts))) ≡ true
    by_case true e o ih = ih o.1
    by_case false e o ih = and_from (p t.place) (list_all p (places_of (other_terms place ts))) (other (or_cases (place == t.place) (p t.place) o.0)) (ih o.1)
      where
        turned : (a b : ℕ) → nat_eq a b ≡ true → nat_eq b a ≡ true
        turned a b h = grind (arith, nat_tests)

        other : ((place == t.place) ≡ true) ⊎ (p t.place ≡ true) → p t.place ≡ true
        other (inl q) = absurd (let w = turned place t.place q in cc)
        other (inr q) = q

pub all-one : (p : ℕ → Bool) (place : ℕ) (r : Row) → list_all (λ t. (place == t.place) || p t.place) r.terms ≡ true → list_all p (other_names place (r ∷ [])) ≡ true
all-one p place r h = all-fold p [] (places_of (other_terms place r.terms)) refl (all-others p place r.terms h)

pub all-two : (p : ℕ → Bool) (place : ℕ) (low high : Row) → list_all (λ t. (place == t.place) || p t.place) low.terms ≡ true → list_all (λ t. (place == t.place) || p t.place) high.terms ≡ true
    → list_all p (other_names place (low ∷ high ∷ [])) ≡ true
all-two p place low high h k =
    all-fold p (fold put_rising [] (places_of (other_terms place low.terms))) (places_of (other_terms place high.terms)) (all-one p place low h) (all-others p place high.terms k)

-- each name of a row but one stands among its other names
stands-others : (place m : ℕ) (ts : List RowTerm) → list_any (λ t. t.place == m) ts ≡ true → (m == place) ≡ false → stands_in (places_of (other_terms place ts)) m ≡ true
stands-others place m [] h k = absurd cc
stands-others place m (t ∷ ts) h k = by_case (t.place == place) refl (or_cases (t.place == m) (list_any (λ t. t.place == m) ts) h) (λ q. stands-others place m ts q k)
  where
    by_case : (b : Bool) → (t.place == place) ≡ b → ((t.place == m) ≡ true) ⊎ (list_any (λ t. t.place == m) ts ≡ true)
        → (list_any (λ t. t.place == m) ts ≡ true → stands_in (places_of (other_terms place ts)) m ≡ true)
        → stands_in (places_of (cond (not b) (t ∷ other_terms place ts) (other_terms place ts))) m ≡ true
    by_case true e (inl q) ih = absurd (let w = ap (λ n. n == place) (eqb-true t.place m q) in cc)
    by_case true e (inr q) ih = ih q
    by_case false e (inl q) ih = or_left (t.place == m) (stands_in (places_of (other_terms place ts)) m) q
    by_case false e (inr q) ih = or_right (t.place == m) (stands_in (places_of (other_terms place ts)) m) (ih q)

-- THE POINT OF VALUES PUT IN

point-among : (x : ℕ → ℤ) (ns : List ℕ) (m : ℕ) → stands_in ns m ≡ true → point ns (map x ns) m ≡ x m
point-among x [] m h = absurd cc
point-among x (n ∷ ns) m h = by_case (n == m) refl h (point-among x ns m)
  where
    by_case : (b : Bool) → (n == m) ≡ b → (b || stands_in ns m) ≡ true → (stands_in ns m ≡ true → point ns (map x ns) m ≡ x m) → cond b (x n) (point ns (map x ns) m) ≡ x m
    by_case true e k ih = ap x (eqb-true n m e)
    by_case false e k ih = ih k

point-zero : (x : ℕ → ℤ) (ns : List ℕ) (m : ℕ) → x m ≡ pos 0 → point ns (map x ns) m ≡ pos 0
point-zero x [] m h = refl
point-zero x (n ∷ ns) m h = by_case (n == m) refl (point-zero x ns m h)
  where
    by_case : (b : Bool) → (n == m) ≡ b → point ns (map x ns) m ≡ pos 0 → cond b (x n) (point ns (map x ns) m) ≡ pos 0
    by_case true e ih = ap x (eqb-true n m e) ∙ h
    by_case false e ih = ih

-- where a place has 0, the point of the values of the names other than the place agrees with the point that they are taken from
point-agrees : (x : ℕ → ℤ) (place : ℕ) (ns : List ℕ) (ts : List RowTerm) → x place ≡ pos 0
    → ((m : ℕ) → list_any (λ t. t.place == m) ts ≡ true → (m == place) ≡ false → stands_in ns m ≡ true) → Agree (point ns (map x ns)) x ts
point-agrees x place ns [] z h = tt
point-agrees x place ns (t ∷ ts) z h = (
  by_place (t.place == place) refl,
  point-agrees x place ns ts z (λ m k. h m (or_right (t.place == m) (list_any (λ t. t.place == m) ts) k)),
)
  where
    by_place : (b : Bool) → (t.place == place) ≡ b → point ns (map x ns) t.place ≡ x t.place
    by_place true e = let zero : x t.place ≡ pos 0 = ap x (eqb-true t.place place e) ∙ z in point-zero x ns t.place zero ∙ sym zero
    by_place false e = point-among x ns t.place (h t.place (or_left (t.place == t.place) (list_any (λ s. s.place == t.place) ts) (same_nat-refl t.place)) e)

pub agree-one : (x : ℕ → ℤ) (place : ℕ) (r : Row) → x place ≡ pos 0 → Agree (point (other_names place (r ∷ [])) (values_of x place (r ∷ []))) x r.terms
agree-one x place r z = point-agrees x place (other_names place (r ∷ [])) r.terms z (λ m h k. stands-fold_new [] (places_of (other_terms place r.terms)) m (stands-others place m r.terms h k))

pub agree-low : (x : ℕ → ℤ) (place : ℕ) (low high : Row) → x place ≡ pos 0 → Agree (point (other_names place (low ∷ high ∷ [])) (values_of x place (low ∷ high ∷ []))) x low.terms
agree-low x place low high z = point-agrees x place (other_names place (low ∷ high ∷ [])) low.terms z
    (λ m h k. stands-fold (other_names place (low ∷ [])) (places_of (other_terms place high.terms)) m (stands-fold_new [] (places_of (other_terms place low.terms)) m (stands-others place m low.terms h k)))

pub agree-high : (x : ℕ → ℤ) (place : ℕ) (low high : Row) → x place ≡ pos 0 → Agree (point (other_names place (low ∷ high ∷ [])) (values_of x place (low ∷ high ∷ []))) x high.terms
agree-high x place low high z = point-agrees x place (other_names place (low ∷ high ∷ [])) high.terms z
    (λ m h k. stands-fold_new (other_names place (low ∷ [])) (places_of (other_terms place high.terms)) m (stands-others place m high.terms h k))

-- THE CHOSEN VALUES

pub int_eq-refl : (a : ℤ) → int_eq a a ≡ true
int_eq-refl a = grind (arith, ints)

among-chosen : (choices : List Choice) (n : ℕ) → is_named choices n ≡ true → is_among choices n (chosen_point choices n) ≡ true
among-chosen [] n h = absurd cc
among-chosen (c ∷ choices) n h = by_case (c.place == n) refl h (among-chosen choices n)
  where
    by_case : (b : Bool) → (c.place == n) ≡ b → (b || is_named choices n) ≡ true → (is_named choices n ≡ true → is_among choices n (chosen_point choices n) ≡ true)
        → ((b && int_eq c.value (cond b c.value (chosen_point choices n))) || is_among choices n (cond b c.value (chosen_point choices n))) ≡ true
    by_case true e k ih = or_left (int_eq c.value c.value) (is_among choices n c.value) (int_eq-refl c.value)
    by_case false e k ih = ih k

-- the values of named names are among those of the choices
pub are_among-chosen : (choices : List Choice) (names : List ℕ) → list_all (is_named choices) names ≡ true → are_among choices names (map (chosen_point choices) names) ≡ true
are_among-chosen choices [] h = refl
are_among-chosen choices (n ∷ names) h =
    let b = and_parts (is_named choices n) (list_all (is_named choices) names) h in
    and_from (is_among choices n (chosen_point choices n)) (are_among choices names (map (chosen_point choices) names)) (among-chosen choices n b.0) (are_among-chosen choices names b.1)

-- a name without a value has 0
pub chosen-unnamed : (choices : List Choice) (n : ℕ) → is_named choices n ≡ false → chosen_point choices n ≡ pos 0
chosen-unnamed [] n h = refl
chosen-unnamed (c ∷ choices) n h = by_case (c.place == n) h (chosen-unnamed choices n)
  where
    by_case : (b : Bool) → (b || is_named choices n) ≡ false → (is_named choices n ≡ false → chosen_point choices n ≡ pos 0) → cond b c.value (chosen_point choices n) ≡ pos 0
    by_case true k ih = absurd cc
    by_case false k ih = ih k
