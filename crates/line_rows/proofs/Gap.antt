-- Whole numbers and fractions: when a fraction lies strictly between two neighbours, and how far it is from them.
use Rattle.std.proofs.Common.{◌≡◌, ℕ, zero, suc, ◌+◌, ◌-◌, ◌*◌, ◌/◌, ◌%◌, ◌<◌, ◌≤◌, Bool, true, false, not, ◌&&◌, refl, sym, ◌∙◌, ap, arith}
use Rattle.std.specs.Prelude.{◌^◌, IsTrue, nat_lt, nat_le, nat_eq, ℤ, pos, negsuc, ◌+ℤ◌, ◌-ℤ◌, ◌*ℤ◌, ◌<ℤ◌, ◌≤ℤ◌, int_lt, unsigned_abs, neg_ℤ}
use Rattle.std.proofs.lemmas.Int.{ints}
use Rattle.std.proofs.Math.Nat.{div-add-mod', mod-lt, mul-le-mul_left, mul_comm}
use Rattle.std.proofs.lemmas.Bool.{and_parts, and_from, ltb-true, lt-ltb, le-ltb, eqb-true, eq-eqb, and_right, le-leb, leb-true}
use Rattle.lin_rows.specs.Numbers.{in_range}
use Rattle.line_rows.specs.Splits.{is_in_gap, is_floor}

pub test_eq : (a b : Bool) → (a ≡ true → b ≡ true) → (b ≡ true → a ≡ true) → a ≡ b
test_eq true b f g = sym (f refl)
test_eq false true f g = g refl
test_eq false false f g = refl

not_eq : (a b : ℕ) → (a ≡ b → ⊥) → not (nat_eq a b) ≡ true
not_eq a b h = by_case (nat_eq a b) refl
  where
    by_case : (e : Bool) → nat_eq a b ≡ e → not e ≡ true
    by_case true p = absurd (h (eqb-true a b p))
    by_case false p = refl

eq_not : (a b : ℕ) → not (nat_eq a b) ≡ true → a ≡ b → ⊥
eq_not a b h e = let p = eq-eqb a b e in clash (nat_eq a b) p h
  where
    clash : (e : Bool) → e ≡ true → not e ≡ true → ⊥
    clash true p q = absurd cc
    clash false p q = absurd cc

-- k * b < g < (k + 1) * b
pub around : ℕ → ℕ → ℕ → Bool
around k g b = nat_lt (k * b) g && nat_lt g ((k + 1) * b)

times_up : (k w b : ℕ) → k < w → k * b + b ≤ w * b
times_up k w b h =
    let m : b * (k + 1) ≤ b * w = mul-le-mul_left b (omega (arith, h)) in
    let c = mul_comm b w in
    omega (arith, m, c)

-- a whole number stands right below g / b where it is the quotient and something is left
pub core : (k g b : ℕ) → 0 < b → (nat_eq k (g / b) && not (nat_eq (g % b) 0)) ≡ around k g b
unfolding around
core k g b h = test_eq (nat_eq k (g / b) && not (nat_eq (g % b) 0)) (nat_lt (k * b) g && nat_lt g ((k + 1) * b)) there back
  where
    is : g / b * b + g % b ≡ g
    is = div-add-mod' g b

    small : g % b < b
    small = mod-lt g h

    there : (nat_eq k (g / b) && not (nat_eq (g % b) 0)) ≡ true → (nat_lt (k * b) g && nat_lt g ((k + 1) * b)) ≡ true
    there t =
        let p = and_parts (nat_eq k (g / b)) (not (nat_eq (g % b) 0)) t in
        let e : k * b ≡ g / b * b = ap (λ (n : ℕ). n * b) (eqb-true k (g / b) p.0) in
        let n = eq_not (g % b) 0 p.1 in
        let some : 0 < g % b = positive (g % b) n in
        and_from (nat_lt (k * b) g) (nat_lt g ((k + 1) * b)) (lt-ltb (k * b) g (omega (arith, e, some, is))) (lt-ltb g ((k + 1) * b) (omega (arith, e, small, is)))
      where
        positive : (n : ℕ) → (n ≡ 0 → ⊥) → 0 < n
        positive zero f = absurd (f refl)
        positive (suc n) f = omega arith

    back : (nat_lt (k * b) g && nat_lt g ((k + 1) * b)) ≡ true → (nat_eq k (g / b) && not (nat_eq (g % b) 0)) ≡ true
    back t =
        let p = and_parts (nat_lt (k * b) g) (nat_lt g ((k + 1) * b)) t in
        let l = ltb-true (k * b) g p.0 in
        let r = ltb-true g ((k + 1) * b) p.1 in
        let not_below : (k < g / b → ⊥) = λ (q : k < g / b). (let m = times_up k (g / b) b q in omega (arith, m, r, is)) in
        let not_above : (g / b < k → ⊥) = λ (q : g / b < k). (let m = times_up (g / b) k b q in omega (arith, m, l, is, small)) in
        let e : k ≡ g / b = omega (arith, not_below, not_above) in
        let f : k * b ≡ g / b * b = ap (λ (n : ℕ). n * b) e in
        and_from (nat_eq k (g / b)) (not (nat_eq (g % b) 0)) (eq-eqb k (g / b) e) (not_eq (g % b) 0 (λ z. omega (arith, f, l, is, z)))

swap : (a b c d : Bool) → a ≡ d → b ≡ c → (a && b) ≡ (c && d)
swap a b c d e f = by_case a b ∙ (λ i. f i && e i)
  where
    by_case : (a b : Bool) → (a && b) ≡ (b && a)
    by_case true true = refl
    by_case true false = refl
    by_case false true = refl
    by_case false false = refl

suc_lt : (a b : ℕ) → nat_lt a b ≡ nat_lt (suc a) (suc b)
suc_lt a b = test_eq (nat_lt a b) (nat_lt (suc a) (suc b)) (λ h. lt-ltb (suc a) (suc b) (let l = ltb-true a b h in omega (arith, l))) (λ h. lt-ltb a b (let l = ltb-true (suc a) (suc b) h in omega (arith, l)))

neg_lt : (a g : ℕ) → int_lt (neg_ℤ (pos a)) (negsuc g) ≡ nat_lt (suc g) a
neg_lt zero g = sym (le-ltb (suc g) 0 (omega arith))
neg_lt (suc a) g = suc_lt g a

lt_neg : (a g : ℕ) → int_lt (negsuc g) (neg_ℤ (pos a)) ≡ nat_lt a (suc g)
lt_neg zero g = sym (lt-ltb 0 (suc g) (omega arith))
lt_neg (suc a) g = suc_lt a g

below_pos : (a g : ℕ) → int_lt (pos g) (neg_ℤ (pos a)) ≡ false
below_pos zero g = le-ltb g 0 (omega arith)
below_pos (suc a) g = refl

second : (k b : ℕ) (n : ℤ) → int_lt n ((negsuc (suc k) +ℤ pos 1) *ℤ pos b) ≡ int_lt n (negsuc k *ℤ pos b)
second k b n = ap (λ (z : ℤ). int_lt n (z *ℤ pos b)) one_more
  where
    one_more : negsuc (suc k) +ℤ pos 1 ≡ negsuc k
    one_more = omega (arith, ints)

-- over whole numbers: n is positive
up : (at n : ℤ) (b : ℕ) → 0 < b → pos 0 <ℤ n → (is_floor at true (unsigned_abs n / b) && not (nat_eq (unsigned_abs n % b) 0)) ≡ is_in_gap at n (pos b)
unfolding around
up at (negsuc g) b h p = absurd (omega (arith, ints, p))
up at n zero h p = absurd (omega arith)
up (pos k) (pos g) (suc b) h p = core k g (suc b) h
up (negsuc zero) (pos g) (suc b) h p = sym (and_right (int_lt (negsuc 0 *ℤ pos (suc b)) (pos g)) (nat_lt g (0 * suc b)) (le-ltb g (0 * suc b) (omega arith)))
up (negsuc (suc k)) (pos g) (suc b) h p =
    sym (and_right (int_lt (negsuc (suc k) *ℤ pos (suc b)) (pos g)) (int_lt (pos g) ((negsuc (suc k) +ℤ pos 1) *ℤ pos (suc b))) (second k (suc b) (pos g) ∙ below_pos (suc k * suc b) g))

-- n isn't positive
down : (at n : ℤ) (b : ℕ) → 0 < b → n ≤ℤ pos 0 → (is_floor at false (unsigned_abs n / b) && not (nat_eq (unsigned_abs n % b) 0)) ≡ is_in_gap at n (pos b)
unfolding around
down at (pos (suc g)) b h p = absurd (omega (arith, ints, p))
down at n zero h p = absurd (omega arith)
down (pos k) (pos zero) (suc b) h p = sym (ap (λ (t : Bool). t && nat_lt 0 ((k + 1) * suc b)) (le-ltb (k * suc b) 0 (omega arith)))
down (pos k) (negsuc g) (suc b) h p = refl
down (negsuc zero) (pos zero) (suc b) h p = core 0 0 (suc b) h ∙ ap (λ (t : Bool). t && nat_lt 0 ((0 + 1) * suc b)) (le-ltb (0 * suc b) 0 (omega arith))
    ∙ sym (and_right (int_lt (negsuc 0 *ℤ pos (suc b)) (pos 0)) (nat_lt 0 (0 * suc b)) (le-ltb 0 (0 * suc b) (omega arith)))
down (negsuc (suc k)) (pos zero) (suc b) h p = core (suc k) 0 (suc b) h ∙ ap (λ (t : Bool). t && nat_lt 0 ((suc k + 1) * suc b)) (le-ltb (suc k * suc b) 0 (omega arith))
    ∙ sym (and_right (int_lt (negsuc (suc k) *ℤ pos (suc b)) (pos 0)) (int_lt (pos 0) ((negsuc (suc k) +ℤ pos 1) *ℤ pos (suc b))) (second k (suc b) (pos 0) ∙ below_pos (suc k * suc b) 0))
down (negsuc zero) (negsuc g) (suc b) h p = core 0 (suc g) (suc b) h
    ∙ swap (nat_lt (0 * suc b) (suc g)) (nat_lt (suc g) ((0 + 1) * suc b)) (int_lt (negsuc 0 *ℤ pos (suc b)) (negsuc g)) true
    (lt-ltb (0 * suc b) (suc g) (omega arith)) (sym (neg_lt (1 * suc b) g))
down (negsuc (suc k)) (negsuc g) (suc b) h p = core (suc k) (suc g) (suc b) h
    ∙ swap (nat_lt (suc k * suc b) (suc g)) (nat_lt (suc g) ((suc k + 1) * suc b)) (int_lt (negsuc (suc k) *ℤ pos (suc b)) (negsuc g)) (int_lt (negsuc g) ((negsuc (suc k) +ℤ pos 1) *ℤ pos (suc b)))
    (sym (second k (suc b) (negsuc g) ∙ lt_neg (suc k * suc b) g)) (ap (λ (n : ℕ). nat_lt (suc g) (n * suc b)) add_one ∙ sym (neg_lt (suc (suc k) * suc b) g))
  where
    add_one : suc k + 1 ≡ suc (suc k)
    add_one = omega arith

above : (more less : ℤ) → int_lt less more ≡ true → pos 0 <ℤ (more -ℤ less)
above more less h = omega (arith, ints, h)

not_above : (more less : ℤ) → int_lt less more ≡ false → (more -ℤ less) ≤ℤ pos 0
not_above more less h = omega (arith, ints, h)

pub gap_is : (at more less : ℤ) (b : ℕ) → 0 < b
    → (is_floor at (int_lt less more) (unsigned_abs (more -ℤ less) / b) && not (nat_eq (unsigned_abs (more -ℤ less) % b) 0)) ≡ is_in_gap at (more -ℤ less) (pos b)
gap_is at more less b h = by_case (int_lt less more) refl
  where
    by_case : (t : Bool) → int_lt less more ≡ t → (is_floor at t (unsigned_abs (more -ℤ less) / b) && not (nat_eq (unsigned_abs (more -ℤ less) % b) 0)) ≡ is_in_gap at (more -ℤ less) (pos b)
    by_case true e = up at (more -ℤ less) b h (above more less e)
    by_case false e = down at (more -ℤ less) b h (not_above more less e)

pub gap_so : (at more less : ℤ) (b g : ℕ) (u f : Bool) → 0 < b → g ≡ unsigned_abs (more -ℤ less) → u ≡ int_lt less more → f ≡ is_floor at u (g / b)
    → (f && not (nat_eq (g % b) 0)) ≡ is_in_gap at (more -ℤ less) (pos b)
gap_so at more less b g u f h ge ue fe =
    let whole = fe ∙ (λ i. is_floor at (ue i) (ge i / b)) in
    (λ i. whole i && not (nat_eq (ge i % b) 0)) ∙ gap_is at more less b h

-- how far the whole number below a fraction may lie
abs_le : (z : ℤ) (m : ℕ) → z ≤ℤ pos m → (pos 0 -ℤ pos m) ≤ℤ z → unsigned_abs z ≤ m
abs_le (pos k) m h l = omega (arith, ints, h)
abs_le (negsuc k) m h l = omega (arith, ints, l)

at_most_abs : (z : ℤ) (m : ℕ) → unsigned_abs z ≤ m → z ≤ℤ pos m
at_most_abs (pos k) m h = omega (arith, ints, h)
at_most_abs (negsuc k) m h = omega (arith, ints)

at_least_abs : (z : ℤ) (m : ℕ) → unsigned_abs z ≤ m → (pos 0 -ℤ pos m) ≤ℤ z
at_least_abs (pos k) m h = omega (arith, ints)
at_least_abs (negsuc k) m h = omega (arith, ints, h)

distance_le : (a b : ℤ) (m : ℕ) → unsigned_abs a ≤ m → unsigned_abs b ≤ m → unsigned_abs (a -ℤ b) ≤ m + m
distance_le a b m h k =
    let p = at_most_abs a m h in
    let q = at_least_abs a m h in
    let r = at_most_abs b m k in
    let s = at_least_abs b m k in
    abs_le (a -ℤ b) (m + m) (omega (arith, ints, p, s)) (omega (arith, ints, q, r))

floor_le : (at : ℤ) (u : Bool) (q : ℕ) → is_floor at u q ≡ true → unsigned_abs at ≤ q + 1
floor_le (pos k) true q h = let e = eqb-true k q h in omega (arith, e)
floor_le (negsuc k) true q h = absurd cc
floor_le (pos k) false q h = absurd cc
floor_le (negsuc k) false q h = let e = eqb-true k q h in omega (arith, e)

half : (g b : ℕ) → 0 < b → not (nat_eq (g % b) 0) ≡ true → g / b + g / b < g
half g b h n =
    let is = div-add-mod' g b in
    let small : g % b < b = mod-lt g h in
    let some : 0 < g % b = positive (g % b) (eq_not (g % b) 0 n) in
    let m : g / b * 2 ≤ g / b * b = mul-le-mul_left (g / b) (omega (arith, small, some)) in
    omega (arith, is, some, m)
  where
    positive : (n : ℕ) → (n ≡ 0 → ⊥) → 0 < n
    positive zero f = absurd (f refl)
    positive (suc n) f = omega arith

pub gap_fits : (at more less : ℤ) (b : ℕ) → 0 < b → is_in_gap at (more -ℤ less) (pos b) ≡ true → in_range more ≡ true → in_range less ≡ true → in_range at ≡ true
gap_fits at more less b h g m l =
    let n = unsigned_abs (more -ℤ less) in
    let p = and_parts (is_floor at (int_lt less more) (n / b)) (not (nat_eq (n % b) 0)) (gap_is at more less b h ∙ g) in
    let f = floor_le at (int_lt less more) (n / b) p.0 in
    let k = half n b h p.1 in
    let mm = ltb-true (unsigned_abs more) (2 ^ 127) m in
    let ll = ltb-true (unsigned_abs less) (2 ^ 127) l in
    let d = distance_le more less (2 ^ 127 - 1) (omega (arith, mm)) (omega (arith, ll)) in
    lt-ltb (unsigned_abs at) (2 ^ 127) (omega (arith, f, k, d))

pub gap_told : (t : Bool) (at more less : ℤ) (b : ℕ) → 0 < b → t ≡ is_in_gap at (more -ℤ less) (pos b) → IsTrue t → in_range more ≡ true → in_range less ≡ true → in_range at ≡ true
gap_told true at more less b h e t = gap_fits at more less b h (sym e)
gap_told false at more less b h e t = absurd cc

-- a fraction above a limit

over : (l g b : ℕ) → 0 < b → 0 < g → nat_le l ((g - 1) / b) ≡ nat_lt (l * b) g
over l g b h p = test_eq (nat_le l ((g - 1) / b)) (nat_lt (l * b) g) there back
  where
    is : (g - 1) / b * b + (g - 1) % b ≡ g - 1
    is = div-add-mod' (g - 1) b

    small : (g - 1) % b < b
    small = mod-lt (g - 1) h

    there : nat_le l ((g - 1) / b) ≡ true → nat_lt (l * b) g ≡ true
    there t =
        let m : b * l ≤ b * ((g - 1) / b) = mul-le-mul_left b (leb-true l ((g - 1) / b) t) in
        let c = mul_comm b l in
        let d = mul_comm b ((g - 1) / b) in
        lt-ltb (l * b) g (omega (arith, m, c, d, is, p))

    back : nat_lt (l * b) g ≡ true → nat_le l ((g - 1) / b) ≡ true
    back t =
        let u = ltb-true (l * b) g t in
        let not_below : ((g - 1) / b < l → ⊥) = λ (q : (g - 1) / b < l). (let m = times_up ((g - 1) / b) l b q in omega (arith, m, u, is, small)) in
        le-leb l ((g - 1) / b) (omega (arith, not_below))

over_is : (l : ℕ) (n : ℤ) (b : ℕ) → 0 < b → pos 0 <ℤ n → nat_le l ((unsigned_abs n - 1) / b) ≡ int_lt (pos (l * b)) n
over_is l (pos g) b h p = over l g b h (omega (arith, ints, p))
over_is l (negsuc g) b h p = absurd (omega (arith, ints, p))

pub over_so : (l : ℕ) (more less : ℤ) (b g : ℕ) → 0 < b → int_lt less more ≡ true → g ≡ unsigned_abs (more -ℤ less) → nat_le l ((g - 1) / b) ≡ int_lt (pos (l * b)) (more -ℤ less)
over_so l more less b g h p e = ap (λ (n : ℕ). nat_le l ((n - 1) / b)) e ∙ over_is l (more -ℤ less) b h (above more less p)

pub under_so : (l : ℕ) (more less : ℤ) (b : ℕ) → int_lt less more ≡ false → false ≡ int_lt (pos (l * b)) (more -ℤ less)
under_so l more less b p = below (more -ℤ less) (not_above more less p)
  where
    below : (n : ℤ) → n ≤ℤ pos 0 → false ≡ int_lt (pos (l * b)) n
    below (pos zero) q = sym (le-ltb (l * b) 0 (omega arith))
    below (pos (suc g)) q = absurd (omega (arith, ints, q))
    below (negsuc g) q = refl
