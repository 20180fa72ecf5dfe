-- Formulas over named atoms, and what makes them true.
use Rattle.std.specs.Prelude.{ℕ, ltb, ◌==◌, ℤ, pos, negsuc, ◌+ℤ◌, ◌*ℤ◌, int_le, Bool, true, not, cond, ◌&&◌, ◌||◌, List, [], ◌∷◌}
use Rattle.std.specs.List.{list_all}

-- ---- what formulas name

-- A stage: the calls that were made since the entry, by their places in the obligation, the latest first. At the entry there are none.
abbrev pub Stage : Type 0
Stage = List ℕ

-- What names a whole number: a parameter of a call, a counter's reading at a stage and a key of constants, and what the first
-- so many updates of the stage's call leave of it.
pub data Integer : Type 0 where
  argument : (call param : ℕ) → Integer
  reading : Stage → (counter : ℕ) → (key : List ℕ) → Integer
  partial : (updates : ℕ) → Stage → (counter : ℕ) → (key : List ℕ) → Integer

-- a summand
pub data Part : Type 0 where
  number : ℤ → Part
  multiple : ℤ → Integer → Part

-- A formula. Its atoms are equalities of two constants, the readings of a relation at a stage and a tuple of constants, and
-- `at_most t u n`, which says that t is at most u + n.
pub data Symbolic : Type 0 where
  always : Bool → Symbolic
  same : (lesser greater : ℕ) → Symbolic
  has : Stage → (relation : ℕ) → (tuple : List ℕ) → Symbolic
  at_most : List Part → List Part → ℤ → Symbolic
  negated : Symbolic → Symbolic
  both : Symbolic → Symbolic → Symbolic
  either : Symbolic → Symbolic → Symbolic

-- ---- what makes them true

-- An interpretation: a truth value for each equality and each reading of a relation, a whole number for each name of one.
pub record Interpretation : Type 0 where
  pub same : ℕ → ℕ → Bool
  pub has : Stage → ℕ → List ℕ → Bool
  pub int : Integer → ℤ

-- the value of a summand in an interpretation
abbrev pub part_value : Interpretation → Part → ℤ
part_value m (number n) = n
part_value m (multiple k x) = k *ℤ m.int x

-- the value of a sum in an interpretation
abbrev pub sum_value : Interpretation → List Part → ℤ
sum_value m [] = pos 0
sum_value m (p ∷ ps) = part_value m p +ℤ sum_value m ps

-- The truth of a formula in an interpretation.
abbrev pub is_true : Interpretation → Symbolic → Bool
is_true m (always b) = b
is_true m (same a b) = m.same a b
is_true m (has k r t) = m.has k r t
is_true m (at_most t u n) = int_le (sum_value m t) (sum_value m u +ℤ n)
is_true m (negated f) = not (is_true m f)
is_true m (both f g) = is_true m f && is_true m g
is_true m (either f g) = is_true m f || is_true m g

-- all these formulas are true in an interpretation
abbrev pub all_true : Interpretation → List Symbolic → Bool
all_true m fs = list_all (is_true m) fs

-- ---- formulas made of others

-- several parts, nested to the left
abbrev pub both_and : Symbolic → List Symbolic → Symbolic
both_and f [] = f
both_and f (g ∷ gs) = both_and (both f g) gs

-- all of these; no parts at all are true
abbrev pub all_parts : List Symbolic → Symbolic
all_parts [] = always true
all_parts (f ∷ fs) = both_and f fs

-- the equality of two constants: true of one constant with itself, else the lesser first
abbrev pub same_const : ℕ → ℕ → Symbolic
same_const a b = cond (a == b) (always true) (cond (ltb a b) (same a b) (same b a))

-- two sums are equal: the one is at most the other, and the other at most the one
abbrev pub equal : List Part → List Part → Symbolic
equal t u = both (at_most t u (pos 0)) (at_most u t (pos 0))

-- they are unequal: one of them is less
abbrev pub unequal : List Part → List Part → Symbolic
unequal t u = either (at_most t u (negsuc 0)) (at_most u t (negsuc 0))
