-- The definition of a reading after a call means the effect of the call.
use Rattle.std.proofs.Common.{◌≡◌, ℕ, suc, ◌+◌, ◌==◌, ℤ, pos, ◌+ℤ◌, ◌*ℤ◌, int_le, Bool, true, false, not, cond, ◌&&◌, ◌||◌, List, [], ◌∷◌, ◌++◌, map, refl, sym, ◌∙◌, ap, arith}
use Rattle.std.specs.List.{list_all}
use Rattle.std.proofs.lemmas.Bool.{and_parts}
use Rattle.std.proofs.lemmas.Int.{ints}
use Rattle.spec_core.specs.declared.operation.Param.{Param as Parameter}
use Rattle.spec_core.specs.declared.update.Spot.{Spot}
use Rattle.spec_core.specs.declared.update.Spot.TheVariants.{Every, One}
use Rattle.spec_core.specs.declared.update.Change.{Change}
use Rattle.spec_core.specs.declared.update.Change.TheVariants.{Insert, Remove, Add, Set}
use Rattle.spec_core.specs.declared.world.World.{World}
use Rattle.spec_core.specs.Form.{Form}
use Rattle.spec_core.specs.UpdateLine.{UpdateLine}
use Rattle.spec_core.specs.Specification.{Specification, places_of}
use Rattle.spec_core.specs.State.{Reads}
use Rattle.spec_core.specs.Truth.{truth}
use Rattle.spec_core.specs.Typed.{sort_of, is_sort, form_typed, spots_typed, is_update}
use Rattle.effectors.specs.Effect.{spots_match, has_changed, count_changed}
use Rattle.ground_problem.specs.Symbols.{Stage, Integer, reading, partial, Part, multiple, Symbolic, negated, both, either, Interpretation, part_value, sum_value, is_true, all_true, both_and, all_parts, equal}
use Rattle.ground_problem.specs.Formulas.{Caller, Readings, const_of, parts_of, formula}
use Rattle.ground_problem.specs.Definitions.{spots_hold, acts_on, has_then, has_updated, count_then, value_after, values_defined}
use Rattle.ground_problem.proofs.Means.{Shows, StandsFor, Values, AmountTyped, UpdateParts, update_parts, matches, has_over, count_over, count_first, same_means, elem_means, term_means, form_means}

-- ---- parts, and single names

pub both_and_means : (m : Interpretation) (f : Symbolic) (fs : List Symbolic) → is_true m (both_and f fs) ≡ (is_true m f && all_true m fs)
both_and_means m f [] = and_true (is_true m f)
  where
    and_true : (b : Bool) → b ≡ (b && true)
    and_true b = grind arith
both_and_means m f (g ∷ gs) = both_and_means m (both f g) gs ∙ and_assoc (is_true m f) (is_true m g) (all_true m gs)
  where
    and_assoc : (a b c : Bool) → ((a && b) && c) ≡ (a && (b && c))
    and_assoc a b c = grind arith

pub parts_mean : (m : Interpretation) (fs : List Symbolic) → is_true m (all_parts fs) ≡ all_true m fs
parts_mean m [] = refl
parts_mean m (f ∷ fs) = both_and_means m f fs

plus_zero : (a : ℤ) → pos 1 *ℤ a +ℤ pos 0 ≡ a
plus_zero a = omega (arith, ints)

pub single : (m : Interpretation) (x : Integer) → sum_value m (multiple (pos 1) x ∷ []) ≡ m.int x
single m x = plus_zero (m.int x)

pub equal_true : (m : Interpretation) (t u : List Part) → sum_value m t ≡ sum_value m u → is_true m (equal t u) ≡ true
equal_true m t u e = at_numbers (sum_value m t) (sum_value m u) e
  where
    at_numbers : (a b : ℤ) → a ≡ b → (int_le a (b +ℤ pos 0) && int_le b (a +ℤ pos 0)) ≡ true
    at_numbers a b e = grind (arith, ints)

pub sum_append : (m : Interpretation) (xs ys : List Part) → sum_value m (xs ++ ys) ≡ sum_value m xs +ℤ sum_value m ys
sum_append m [] ys = zero_plus (sum_value m ys)
  where
    zero_plus : (a : ℤ) → a ≡ pos 0 +ℤ a
    zero_plus a = omega (arith, ints)
sum_append m (x ∷ xs) ys = ap (λ (a : ℤ). part_value m x +ℤ a) (sum_append m xs ys) ∙ plus_assoc (part_value m x) (sum_value m xs) (sum_value m ys)
  where
    plus_assoc : (a b c : ℤ) → a +ℤ (b +ℤ c) ≡ (a +ℤ b) +ℤ c
    plus_assoc a b c = omega (arith, ints)

module _ (d : Specification) (m : Interpretation) (val : ℕ → ℕ) (w : World) (v : Values d m val w) (ps : List Parameter) (z : Caller) (args : List ℤ) (st : StandsFor m val ps z args) (rs : Readings) (r : Reads) (sh : Shows m val rs r) where
  alone_means : (g : Form) → form_typed d ps [] g ≡ true → all_true m (formula rs z [] g ∷ []) ≡ truth w r args [] g
  alone_means g h = ap (λ (b : Bool). b && true) (form_means d m val w v ps z args st [] [] refl rs r sh g h) ∙ and_true (truth w r args [] g)
    where
      and_true : (b : Bool) → (b && true) ≡ b
      and_true b = grind arith

  acting_means : (ss : List ℕ) (xs : List Spot) (t : List ℕ) (g : Form) → spots_typed d ps ss xs ≡ true → form_typed d ps [] g ≡ true → all_true m (spots_hold z xs t ++ formula rs z [] g ∷ []) ≡ (spots_match w args xs (map val t) && truth w r args [] g)
  acting_means ss [] [] g h k = alone_means g k
  acting_means ss [] (y ∷ t) g h k = refl
  acting_means ss (x ∷ xs) [] g h k = refl
  acting_means [] (Every ∷ xs) (y ∷ t) g h k = absurd cc
  acting_means [] (One e ∷ xs) (y ∷ t) g h k = absurd cc
  acting_means (s ∷ ss) (Every ∷ xs) (y ∷ t) g h k = acting_means ss xs t g h k
  acting_means (s ∷ ss) (One e ∷ xs) (y ∷ t) g h k =
      let h2 = and_parts (is_sort (sort_of d ps [] e) s) (spots_typed d ps ss xs) h in
      let p = acting_means ss xs t g h2.1 k in
      let q = same_means d m val w v (const_of z [] e) y in
      let n = elem_means d m val w v ps z args st [] [] refl s e h2.0 in
      by_parts _ _ _ _ _ (q ∙ ap (λ (x : ℕ). x == val y) n) p
    where
      by_parts : (a b x y g : Bool) → a ≡ x → b ≡ (y && g) → (a && b) ≡ ((x && y) && g)
      by_parts a b x y g p q = grind arith

  pub acts_on_means : (t : List ℕ) (u : UpdateLine) → UpdateParts d ps u → is_true m (acts_on rs z t u) ≡ matches w r args (map val t) u
  acts_on_means t u h = parts_mean m (spots_hold z u.at t ++ formula rs z [] u.guard ∷ []) ∙ acting_means (places_of d u.thing) u.at t u.guard h.spots h.guard

  -- ---- the definition of a relation's reading
  then_means : (ch : Change) (p e : Symbolic) (x b : Bool) → is_true m p ≡ x → is_true m e ≡ b → is_true m (has_then ch p e) ≡ cond x (has_changed ch b) b
  then_means Insert p e x b h k = grind arith
  then_means Remove p e x b h k = grind arith
  then_means (Add n) p e x b h k = grind arith
  then_means (Set n) p e x b h k = grind arith

  pub has_updated_means : (t : List ℕ) (us : List UpdateLine) (e : Symbolic) (b : Bool) → list_all (is_update d ps) us ≡ true → is_true m e ≡ b → is_true m (has_updated rs z t us e) ≡ has_over w r args (map val t) us b
  has_updated_means t [] e b h k = k
  has_updated_means t (u ∷ us) e b h k = (let h2 = and_parts (is_update d ps u) (list_all (is_update d ps) us) h in has_updated_means t us (has_then u.change (acts_on rs z t u) e) _ h2.1 (then_means u.change (acts_on rs z t u) e (matches w r args (map val t) u) b (acts_on_means t u (update_parts d ps u h2.0)) k))

  -- ---- and of a counter's
  count_then_means : (ch : Change) (v0 : List Part) (x : ℤ) → AmountTyped d ps ch → sum_value m v0 ≡ x → sum_value m (count_then rs z ch v0) ≡ count_changed w r args ch x
  count_then_means Insert v0 x h k = k
  count_then_means Remove v0 x h k = k
  count_then_means (Add n) v0 x h k = sum_append m v0 (parts_of rs z [] n) ∙ (let p = term_means d m val w v ps z args st [] [] refl rs r sh n h in cc)
  count_then_means (Set n) v0 x h k = term_means d m val w v ps z args st [] [] refl rs r sh n h

  one_step : (p : Symbolic) (b : Bool) (next v0 given : List Part) (x y : ℤ) → is_true m p ≡ b → sum_value m v0 ≡ x → sum_value m given ≡ y → sum_value m next ≡ cond b y x → (rest : List Symbolic) → all_true m rest ≡ true →
      all_true m (either (negated p) (equal next given) ∷ either p (equal next v0) ∷ rest) ≡ true
  one_step p true next v0 given x y a f g e rest h = (let q = equal_true m next given (e ∙ sym g) in by_true (is_true m p) (is_true m (equal next given)) (is_true m (equal next v0)) (all_true m rest) a q h)
    where
      by_true : (p q o l : Bool) → p ≡ true → q ≡ true → l ≡ true → ((not p || q) && ((p || o) && l)) ≡ true
      by_true p q o l a b c = grind arith
  one_step p false next v0 given x y a f g e rest h = (let q = equal_true m next v0 (e ∙ sym f) in by_false (is_true m p) (is_true m (equal next given)) (is_true m (equal next v0)) (all_true m rest) a q h)
    where
      by_false : (p q o l : Bool) → p ≡ false → o ≡ true → l ≡ true → ((not p || q) && ((p || o) && l)) ≡ true
      by_false p q o l a b c = grind arith

  next_means : (k : Stage) (i : ℕ) (t : List ℕ) (n : ℕ) (x : ℤ) (u : UpdateLine) (us : List UpdateLine)
      → m.int (partial (n + 0) k i t) ≡ count_first w r args (map val t) 1 (u ∷ us) x
      → m.int (reading k i t) ≡ count_over w r args (map val t) (u ∷ us) x
      → m.int (value_after us n k i t) ≡ cond (matches w r args (map val t) u) (count_changed w r args u.change x) x
  next_means k i t n x u [] p q = q
  next_means k i t n x u (y ∷ us) p q = (let e : n ≡ n + 0 = omega arith in ap (λ (y : ℕ). m.int (partial y k i t)) e ∙ p)

  pub values_true : (k : Stage) (i : ℕ) (t : List ℕ) (n : ℕ) (v0 : List Part) (x : ℤ) (us : List UpdateLine)
      → list_all (is_update d ps) us ≡ true → sum_value m v0 ≡ x
      → ((j : ℕ) → m.int (partial (n + j) k i t) ≡ count_first w r args (map val t) (suc j) us x)
      → m.int (reading k i t) ≡ count_over w r args (map val t) us x
      → all_true m (values_defined rs z k i t n v0 us) ≡ true
  values_true k i t n v0 x [] h e p q = refl
  values_true k i t n v0 x (u ∷ us) h e p q =
      let h2 = and_parts (is_update d ps u) (list_all (is_update d ps) us) h in
      let u_parts = update_parts d ps u h2.0 in
      let next = multiple (pos 1) (value_after us n k i t) ∷ [] in
      let is_next = single m (value_after us n k i t) ∙ next_means k i t n x u us (p 0) q in
      one_step (acts_on rs z t u) (matches w r args (map val t) u) next v0 (count_then rs z u.change v0) x (count_changed w r args u.change x)
      (acts_on_means t u u_parts) e (count_then_means u.change v0 x u_parts.change e) is_next (values_defined rs z k i t (suc n) next us)
      (values_true k i t (suc n) next _ us h2.1 is_next
      (λ j. (let f : suc n + j ≡ n + suc j = omega arith in ap (λ (y : ℕ). m.int (partial y k i t)) f ∙ p (suc j)))
      q)
