use Rattle.std.proofs.Common.{◌≡◌, ◌≢◌, ℕ, Bool, true, false, ◌&&◌, ◌||◌, ◌==◌, List, [], ◌∷◌, ◌++◌, refl, sym, ◌∙◌, ap, arith}
use Rattle.std.proofs.lemmas.Bool.{or_right, eq-eqb, ne_eqb}
use Rattle.unit_propagation.specs.Watches.{is_among}

-- Numbers in lists.

pub among_push : (n : ℕ) (ms : List ℕ) (m : ℕ) → is_among n (ms ++ m ∷ []) ≡ (is_among n ms || (m == n))
among_push n [] m = one (m == n)
  where
    one : (b : Bool) → (b || false) ≡ (false || b)
    one b = grind arith
among_push n (k ∷ ms) m = ap (λ b. (k == n) || b) (among_push n ms m) ∙ assoc (k == n) (is_among n ms) (m == n)
  where
    assoc : (a b c : Bool) → (a || (b || c)) ≡ ((a || b) || c)
    assoc a b c = grind arith

pub pushed_among : (ms : List ℕ) (m : ℕ) → is_among m (ms ++ m ∷ []) ≡ true
pushed_among ms m = among_push m ms m ∙ or_right (is_among m ms) (m == m) (eq-eqb m m refl)

-- a number other than the one that was added
pub other_among : (n : ℕ) (ms : List ℕ) (m : ℕ) → n ≢ m → is_among n (ms ++ m ∷ []) ≡ is_among n ms
other_among n ms m d = among_push n ms m ∙ ap (λ b. is_among n ms || b) (ne_eqb m n (λ e. d (sym e))) ∙ right (is_among n ms)
  where
    right : (b : Bool) → (b || false) ≡ b
    right b = grind arith

-- a clause that is listed where no list is gone through
pub in_its_list : (p q : Bool) → (p || (q && false)) ≡ true → p ≡ true
in_its_list p q h = grind arith
