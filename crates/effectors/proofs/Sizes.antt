-- How large the values after one call of a state are.
use Rattle.std.proofs.Common.{◌≡◌, Bool, true, false, cond, ℕ, ℤ, pos, List, [], ◌∷◌, length, slice_index_or, ◌≤◌, ◌*◌, ◌^◌, ◌+◌, ◌+ℤ◌, ◌*ℤ◌, unsigned_abs, arith, zero, suc}
use Rattle.std.proofs.lemmas.Bool.{and_parts, leb-true}
use Rattle.std.specs.List.{list_all}
use Rattle.std.proofs.lemmas.Int.{ints, unsigned_abs-mul}
use Rattle.spec_core.specs.declared.formula.Body.{Body}
use Rattle.spec_core.specs.declared.formula.Body.TheVariants as body
use Rattle.spec_core.specs.declared.formula.Summand.{Summand}
use Rattle.spec_core.specs.declared.formula.Term.{Term}
use Rattle.spec_core.specs.declared.update.Thing.{Thing}
use Rattle.spec_core.specs.declared.update.Thing.TheVariants as thing
use Rattle.spec_core.specs.declared.update.Change.{Change}
use Rattle.spec_core.specs.declared.update.Change.TheVariants.{Insert, Remove, Add, Set}
use Rattle.spec_core.specs.declared.world.World.{World}
use Rattle.spec_core.specs.Specification.{Specification}
use Rattle.spec_core.specs.UpdateLine.{UpdateLine}
use Rattle.spec_core.specs.State.{Reads}
use Rattle.spec_core.specs.Truth.{elems_of, body_of, sum_of, term_of}
use Rattle.spec_core.specs.Fits.{in_state_range, summand_fits, term_fits, change_fits, update_fits}
use Rattle.effectors.specs.Effect.{acts, count_changed, count_after}

product : (a b : ℤ) (m n : ℕ) → unsigned_abs a ≤ m → unsigned_abs b ≤ n → unsigned_abs (a *ℤ b) ≤ m * n
product a b m n h k = let e = unsigned_abs-mul a b in grind arith

plus : (a b : ℤ) (m n : ℕ) → unsigned_abs a ≤ m → unsigned_abs b ≤ n → unsigned_abs (a +ℤ b) ≤ m + n
plus a b m n h k = omega (arith, ints)

-- every reading is in the range of a state
abbrev pub InRange : Reads → Type 0
InRange r = (k : ℕ) (t : List ℕ) → unsigned_abs (r.count k t) ≤ 10 ^ 15

argument_within : (args : List ℤ) → list_all in_state_range args ≡ true → (n : ℕ) → unsigned_abs (slice_index_or args n (pos 0)) ≤ 10 ^ 15
argument_within [] h n = omega arith
argument_within (a ∷ args) h zero = leb-true (unsigned_abs a) (10 ^ 15) (and_parts _ _ h).0
argument_within (a ∷ args) h (suc n) = argument_within args (and_parts _ _ h).1 n

body_within : (w : World) (r : Reads) (args : List ℤ) (vars : List ℕ) (y : Body) → InRange r → list_all in_state_range args ≡ true → unsigned_abs (body_of w r args vars y) ≤ 10 ^ 15
body_within w r args vars body.One i h = omega arith
body_within w r args vars (body.Param a) i h = argument_within args h a
body_within w r args vars (body.Count c es) i h = i c (elems_of w args vars es)

sum_within : (d : Specification) (w : World) (r : Reads) (args : List ℤ) (vars : List ℕ) (ss : List Summand) → InRange r → list_all in_state_range args ≡ true
    → list_all (summand_fits d w args vars) ss ≡ true → unsigned_abs (sum_of w r args vars ss) ≤ length ss * (10 ^ 9 * 10 ^ 15)
sum_within d w r args vars [] i h f = omega arith
sum_within d w r args vars (s ∷ ss) i h f =
    let parts = and_parts _ _ f in
    let coef = leb-true (unsigned_abs s.coef) (10 ^ 9) (and_parts _ _ parts.0).0 in
    let one = product s.coef (body_of w r args vars s.body) (10 ^ 9) (10 ^ 15) coef (body_within w r args vars s.body i h) in
    let rest = sum_within d w r args vars ss i h parts.1 in
    let all = plus (s.coef *ℤ body_of w r args vars s.body) (sum_of w r args vars ss) _ _ one rest in
    omega arith

term_within : (d : Specification) (w : World) (r : Reads) (args : List ℤ) (vars : List ℕ) (t : Term) → InRange r → list_all in_state_range args ≡ true
    → term_fits d w args vars t ≡ true → unsigned_abs (term_of w r args vars t) ≤ 16 * (10 ^ 9 * 10 ^ 15)
term_within d w r args vars t i h f =
    let parts = and_parts _ _ f in
    let few = leb-true (length t.summands) 16 parts.0 in
    let sum = sum_within d w r args vars t.summands i h parts.1 in
    omega arith

pub cond_within : (b : Bool) (x y : ℤ) (m : ℕ) → unsigned_abs x ≤ m → unsigned_abs y ≤ m → unsigned_abs (cond b x y) ≤ m
cond_within true x y m h k = h
cond_within false x y m h k = k

module _ (d : Specification) (w : World) (r : Reads) (args : List ℤ) (i : InRange r) (h : list_all in_state_range args ≡ true) where
  change_within : (x : Thing) (c : Change) (v : ℤ) → change_fits d w args x c ≡ true → unsigned_abs (count_changed w r args c v) ≤ unsigned_abs v + 16 * (10 ^ 9 * 10 ^ 15)
  change_within x Insert v f = omega arith
  change_within x Remove v f = omega arith
  change_within (thing.Relation k) (Add t) v f = absurd cc
  change_within (thing.Relation k) (Set t) v f = absurd cc
  change_within (thing.Counter k) (Add t) v f =
      let amount = term_within d w r args [] t i h (and_parts _ _ f).1 in
      let all = plus v (term_of w r args [] t) (unsigned_abs v) _ (omega arith) amount in omega arith
  change_within (thing.Counter k) (Set t) v f = (let amount = term_within d w r args [] t i h (and_parts _ _ f).1 in omega arith)

  pub count_within : (k : ℕ) (key : List ℕ) (us : List UpdateLine) (v : ℤ) → list_all (update_fits d w args) us ≡ true
      → unsigned_abs (count_after w r args k key us v) ≤ unsigned_abs v + length us * (16 * (10 ^ 9 * 10 ^ 15))
  count_within k key [] v f = omega arith
  count_within k key (u ∷ us) v f =
      let parts = and_parts _ _ f in
      let change = (and_parts _ _ (and_parts _ _ parts.0).0).0 in
      let one = cond_within (acts w r args (thing.Counter k) key u) (count_changed w r args u.change v) v (unsigned_abs v + 16 * (10 ^ 9 * 10 ^ 15)) (change_within u.thing u.change v change) (omega arith) in
      let rest = count_within k key us (cond (acts w r args (thing.Counter k) key u) (count_changed w r args u.change v) v) parts.1 in
      omega arith

  -- after one call a value is at most 3 * 10^26 in size
  pub after_within : (k : ℕ) (key : List ℕ) (us : List UpdateLine) → length us ≤ 16 → list_all (update_fits d w args) us ≡ true
      → unsigned_abs (count_after w r args k key us (r.count k key)) ≤ 3 * 10 ^ 26
  after_within k key us few f = (let old = i k key in let all = count_within k key us (r.count k key) f in omega arith)
