use Rattle.std.proofs.Common.{◌≡◌, ℕ, ◌+◌, ◌<◌, length, get_or, drop, zero, suc, ℤ, pos, negsuc, ◌+ℤ◌, ◌*ℤ◌, ◌-ℤ◌, neg_ℤ, ◌≤ℤ◌, ◌⊎◌, inl, inr, map, Bool, true, false, cond, List, [], ◌∷◌, refl, sym, ◌∙◌, ap, subst, arith, Option, Some, None}
use Rattle.std.specs.Prelude.{nat_lt, ◌↔◌, int_le, int_lt, ◌&&◌, IsTrue}
use Rattle.std.specs.Option.{option_map, option_and_then}
use Rattle.std.proofs.lemmas.Int.{ints}
use Rattle.std.proofs.lemmas.Bool.Decides.{nat_tests}
use Rattle.std.proofs.Math.IntN.{zero-*ℤ, *ℤ-zero}
use Rattle.lin_rows.specs.Numbers.{fit, in_range, is_zero}
use Rattle.lin_rows.specs.declared.term.RowTerm.{RowTerm}
use Rattle.lin_rows.specs.Rows.{Row, value_at, Satisfies, opposite, negated, sum_from, truth_at, has_no_terms, is_contradiction}
use Rattle.lin_rows.specs.Sums.{put, put_fit, scaled, merged_with, merged, collected, row_of}
use Rattle.lin_rows.proofs.Steps.{rest_is}
use Rattle.lin_rows.proofs.Ring.{mul_add, add_mul, mul_assoc, mul_neg}

pub fit-is : (e c : ℤ) → fit e ≡ Some c → e ≡ c
fit-is e c h = by_case (in_range e) h
  where
    by_case : (b : Bool) → cond b (Some e) None ≡ Some c → e ≡ c
    by_case true h = cc
    by_case false h = absurd cc

pub in_range-fit : (e c : ℤ) → fit e ≡ Some c → in_range c ≡ true
in_range-fit e c h = by_case (in_range e) refl h
  where
    by_case : (b : Bool) → in_range e ≡ b → cond b (Some e) None ≡ Some c → in_range c ≡ true
    by_case true g h = let k : e ≡ c = cc in subst (λ (z : ℤ). in_range z ≡ true) k g
    by_case false g h = absurd cc

pub is_zero-is : (c : ℤ) → is_zero c ≡ true → c ≡ pos 0
is_zero-is (pos zero) h = refl
is_zero-is (pos (suc n)) h = absurd cc
is_zero-is (negsuc n) h = absurd cc

pub some_is : {A : Type 0} {a b : A} → Some a ≡ Some b → a ≡ b
some_is h = cc

-- what an option that gives something was made of
pub option_map-went : {A B : Type 0} (f : A → B) (o : Option A) (b : B) → option_map f o ≡ Some b → (a : A) × (o ≡ Some a) × (f a ≡ b)
option_map-went f None b h = absurd cc
option_map-went f (Some a) b h = (a, refl, some_is h)

pub option_and_then-went : {A B : Type 0} (f : A → Option B) (o : Option A) (b : B) → option_and_then f o ≡ Some b → (a : A) × (o ≡ Some a) × (f a ≡ Some b)
option_and_then-went f None b h = absurd cc
option_and_then-went f (Some a) b h = (a, refl, h)

pub put_fit-went : (p : ℕ) (c : Option ℤ) (o : Option (List RowTerm)) (out : List RowTerm) → put_fit p c o ≡ Some out
    → (n : ℤ) × (ts : List RowTerm) × (c ≡ Some n) × (o ≡ Some ts) × (put (record { place = p; coef = n }) ts ≡ out)
put_fit-went p (Some n) (Some ts) out h = (n, ts, refl, refl, some_is h)
put_fit-went p (Some n) None out h = absurd cc
put_fit-went p None o out h = absurd cc

pub value_at-put : (x : ℕ → ℤ) (t : RowTerm) (ts : List RowTerm) → value_at x (put t ts) ≡ t.coef *ℤ x t.place +ℤ value_at x ts
value_at-put x t ts = by_case (is_zero t.coef) refl
  where
    by_case : (b : Bool) → is_zero t.coef ≡ b → value_at x (cond b ts (t ∷ ts)) ≡ t.coef *ℤ x t.place +ℤ value_at x ts
    by_case true h = let z = ap (λ c. c *ℤ x t.place) (is_zero-is t.coef h) ∙ zero-*ℤ (x t.place) in omega (arith, ints)
    by_case false h = refl

-- the value of a multiple
pub value_at-scaled : (x : ℕ → ℤ) (by : ℤ) (ts out : List RowTerm) → scaled by ts ≡ Some out → value_at x out ≡ by *ℤ value_at x ts
value_at-scaled x by [] out h = let e : [] ≡ out = some_is h in let z = *ℤ-zero by in let f = ap (value_at x) e in omega (arith, ints)
value_at-scaled x by (t ∷ ts) out h =
    let w = put_fit-went t.place (fit (by *ℤ t.coef)) (scaled by ts) out h in
    let ih = value_at-scaled x by ts w.1 w.3 in
    let p = ap (value_at x) w.4 in
    let q = value_at-put x (record { place = t.place; coef = w.0 }) w.1 in
    let r = add_mul by (t.coef *ℤ x t.place) (value_at x ts) in
    let s = sym (mul_assoc by t.coef (x t.place)) ∙ ap (λ z. z *ℤ x t.place) (fit-is (by *ℤ t.coef) w.0 w.2) in
    omega (arith, ints)

-- the value of a sum
value_at-merged_with : (x : ℕ → ℤ) (t : RowTerm) (a : List RowTerm) (m : List RowTerm → Option (List RowTerm))
    → ((b out : List RowTerm) → m b ≡ Some out → value_at x out ≡ value_at x a +ℤ value_at x b)
    → (b out : List RowTerm) → merged_with t a m b ≡ Some out → value_at x out ≡ (t.coef *ℤ x t.place +ℤ value_at x a) +ℤ value_at x b
value_at-merged_with x t a m ih [] out h = let f = ap (value_at x) (some_is h) in omega (arith, ints)
value_at-merged_with x t a m ih (y ∷ b) out h = by_case (nat_lt t.place y.place) (nat_lt y.place t.place) same_place h (value_at-merged_with x t a m ih b)
  where
    same_place : nat_lt t.place y.place ≡ false → nat_lt y.place t.place ≡ false → t.place ≡ y.place
    same_place p q = grind (arith, nat_tests)

    by_case : (p q : Bool) → (p ≡ false → q ≡ false → t.place ≡ y.place)
        → cond p (option_map (λ ts. t ∷ ts) (m (y ∷ b))) (cond q (option_map (λ ts. y ∷ ts) (merged_with t a m b)) (put_fit t.place (fit (t.coef +ℤ y.coef)) (m b))) ≡ Some out
        → ((out : List RowTerm) → merged_with t a m b ≡ Some out → value_at x out ≡ (t.coef *ℤ x t.place +ℤ value_at x a) +ℤ value_at x b)
        → value_at x out ≡ (t.coef *ℤ x t.place +ℤ value_at x a) +ℤ (y.coef *ℤ x y.place +ℤ value_at x b)
    by_case true q s h f =
        let w = option_map-went (λ ts. t ∷ ts) (m (y ∷ b)) out h in
        let g = ih (y ∷ b) w.0 w.1 in
        let k = ap (value_at x) w.2 in omega (arith, ints)
    by_case false true s h f =
        let w = option_map-went (λ ts. y ∷ ts) (merged_with t a m b) out h in
        let g = f w.0 w.1 in
        let k = ap (value_at x) w.2 in omega (arith, ints)
    by_case false false s h f =
        let w = put_fit-went t.place (fit (t.coef +ℤ y.coef)) (m b) out h in
        let g = ih b w.1 w.3 in
        let k = ap (value_at x) w.4 in
        let l = value_at-put x (record { place = t.place; coef = w.0 }) w.1 in
        let u = ap (λ z. z *ℤ x t.place) (sym (fit-is (t.coef +ℤ y.coef) w.0 w.2)) ∙ mul_add t.coef y.coef (x t.place) in
        let v = ap (λ z. y.coef *ℤ x z) (s refl refl) in
        omega (arith, ints)

pub value_at-merged : (x : ℕ → ℤ) (a b out : List RowTerm) → merged a b ≡ Some out → value_at x out ≡ value_at x a +ℤ value_at x b
value_at-merged x [] b out h = let f = ap (value_at x) (some_is h) in omega (arith, ints)
value_at-merged x (t ∷ a) b out h = value_at-merged_with x t a (λ b. merged a b) (λ b out. value_at-merged x a b out) b out h

-- terms that are collected keep their value
pub value_at-collected : (x : ℕ → ℤ) (a ts out : List RowTerm) → collected a ts ≡ Some out → value_at x out ≡ value_at x a +ℤ value_at x ts
value_at-collected x a [] out h = let f = ap (value_at x) (some_is h) in omega (arith, ints)
value_at-collected x a (t ∷ ts) out h =
    let w = option_and_then-went (λ next. collected next ts) (merged a (put t [])) out h in
    let ih = value_at-collected x w.0 ts out w.2 in
    let m = value_at-merged x a (put t []) w.0 w.1 in
    let p = value_at-put x t [] in
    omega (arith, ints)

value_at-opposite : (x : ℕ → ℤ) (ts : List RowTerm) → value_at x (map opposite ts) ≡ pos 0 -ℤ value_at x ts
value_at-opposite x [] = refl
value_at-opposite x (t ∷ ts) =
    let ih = value_at-opposite x ts in
    let e : pos 0 -ℤ t.coef ≡ neg_ℤ t.coef = omega (arith, ints) in
    let f = ap (λ c. c *ℤ x t.place) e ∙ mul_neg t.coef (x t.place) in omega (arith, ints)

-- a point satisfies the opposite of a row exactly where it doesn't satisfy the row
pub satisfies-negated : (x : ℕ → ℤ) (r out : Row) → negated r ≡ Some out → Satisfies x out ↔ ¬ (Satisfies x r)
satisfies-negated x r out h =
    let w = option_map-went (λ b. record { terms = map opposite r.terms; bound = b }) (fit (pos 0 -ℤ r.bound -ℤ pos 1)) out h in
    let f = fit-is (pos 0 -ℤ r.bound -ℤ pos 1) w.0 w.1 in
    let v = value_at-opposite x r.terms in
    subst (λ (z : Row). Satisfies x z ↔ ¬ (Satisfies x r)) w.2 ((λ m n. omega (arith, ints)), (λ n. by_order (order (value_at x r.terms) r.bound) n f v))
  where
    order : (a b : ℤ) → (a ≤ℤ b) ⊎ ((b +ℤ pos 1) ≤ℤ a)
    order a b = grind (arith, ints)

    by_order : {a b c d : ℤ} → (a ≤ℤ b) ⊎ ((b +ℤ pos 1) ≤ℤ a) → ¬ (a ≤ℤ b) → pos 0 -ℤ b -ℤ pos 1 ≡ c → d ≡ pos 0 -ℤ a → d ≤ℤ c
    by_order (inl l) n f v = absurd (n l)
    by_order (inr l) n f v = omega (arith, ints)

pub value_at-row_of : (x : ℕ → ℤ) (ts : List RowTerm) (bound : ℤ) (out : Row) → row_of ts bound ≡ Some out → value_at x out.terms ≡ value_at x ts
value_at-row_of x ts bound out h =
    let w = option_map-went (λ terms. record { terms = terms; bound = bound }) (collected [] ts) out h in
    let e : w.0 ≡ out.terms = ap (λ (r : Row). r.terms) w.2 in
    let v = value_at-collected x [] ts w.0 w.1 in
    let f = ap (value_at x) e in omega (arith, ints)

-- one step of a sum whose numbers are in range
pub sum_from-step : (x : ℕ → ℤ) (s : ℤ) (ts : List RowTerm) (i : ℕ) (d : RowTerm) (next : ℤ) → i < length ts
    → option_and_then (λ product. fit (s +ℤ product)) (fit ((get_or ts i d).coef *ℤ x (get_or ts i d).place)) ≡ Some next
    → sum_from x s (drop i ts) ≡ sum_from x next (drop (i + 1) ts)
sum_from-step x s ts i d next h e =
    let w = option_and_then-went (λ product. fit (s +ℤ product)) (fit ((get_or ts i d).coef *ℤ x (get_or ts i d).place)) next e in
    ap (sum_from x s) (rest_is ts i d h)
    ∙ ap (option_and_then (λ p. option_and_then (λ n. sum_from x n (drop (i + 1) ts)) (fit (s +ℤ p)))) w.1
    ∙ ap (option_and_then (λ n. sum_from x n (drop (i + 1) ts))) w.2

pub sum_from-stops : (x : ℕ → ℤ) (s : ℤ) (ts : List RowTerm) (i : ℕ) (d : RowTerm) → i < length ts
    → option_and_then (λ product. fit (s +ℤ product)) (fit ((get_or ts i d).coef *ℤ x (get_or ts i d).place)) ≡ None
    → sum_from x s (drop i ts) ≡ None
sum_from-stops x s ts i d h e = ap (sum_from x s) (rest_is ts i d h) ∙ by_product (fit ((get_or ts i d).coef *ℤ x (get_or ts i d).place)) e
  where
    by_product : (o : Option ℤ) → option_and_then (λ product. fit (s +ℤ product)) o ≡ None → option_and_then (λ p. option_and_then (λ n. sum_from x n (drop (i + 1) ts)) (fit (s +ℤ p))) o ≡ None
    by_product None e = refl
    by_product (Some p) e = ap (option_and_then (λ n. sum_from x n (drop (i + 1) ts))) e

-- a sum whose numbers are in range is the value
pub sum_from-value : (x : ℕ → ℤ) (s : ℤ) (ts : List RowTerm) (v : ℤ) → sum_from x s ts ≡ Some v → v ≡ s +ℤ value_at x ts
sum_from-value x s [] v h = let e = some_is h in omega (arith, ints)
sum_from-value x s (t ∷ ts) v h =
    let w = option_and_then-went (λ p. option_and_then (λ n. sum_from x n ts) (fit (s +ℤ p))) (fit (t.coef *ℤ x t.place)) v h in
    let u = option_and_then-went (λ n. sum_from x n ts) (fit (s +ℤ w.0)) v w.2 in
    let a = fit-is (t.coef *ℤ x t.place) w.0 w.1 in
    let b = fit-is (s +ℤ w.0) u.0 u.1 in
    let ih = sum_from-value x u.0 ts v u.2 in omega (arith, ints)

-- the truth of a row at a point is whether the point satisfies it
pub truth_at-means : (x : ℕ → ℤ) (r : Row) (b : Bool) → truth_at x r ≡ Some b → IsTrue b ↔ Satisfies x r
truth_at-means x r b h =
    let w = option_map-went (λ value. int_le value r.bound) (sum_from x (pos 0) r.terms) b h in
    let v = sum_from-value x (pos 0) r.terms w.0 w.1 in
    let e : w.0 ≡ value_at x r.terms = omega (arith, ints) in
    let f : int_le (value_at x r.terms) r.bound ≡ b = ap (λ (z : ℤ). int_le z r.bound) (sym e) ∙ w.2 in
    subst (λ (z : Bool). IsTrue z ↔ Satisfies x r) f (decides (value_at x r.terms) r.bound)
  where
    decides : (a b : ℤ) → IsTrue (int_le a b) ↔ (a ≤ℤ b)
    decides a b = ((λ h. grind (arith, ints)), (λ h. grind (arith, ints)))

-- no point satisfies a contradiction
pub satisfies-contradiction : (x : ℕ → ℤ) (r : Row) → is_contradiction r ≡ true → ¬ (Satisfies x r)
satisfies-contradiction x r h m = by_terms r.terms r.bound h m
  where
    negative : (b : ℤ) → int_lt b (pos 0) ≡ true → pos 0 ≤ℤ b → ⊥
    negative b h m = grind (arith, ints)

    by_terms : (ts : List RowTerm) (b : ℤ) → (has_no_terms ts && int_lt b (pos 0)) ≡ true → value_at x ts ≤ℤ b → ⊥
    by_terms [] b h m = negative b h m
    by_terms (t ∷ ts) b h m = absurd cc
