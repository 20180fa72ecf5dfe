-- The effect of a call.
--
-- For each tuple or key one begins with the old reading and goes through the updates of its thing in their written order. What
-- an update's guard and amount read is the old state: no update sees what the updates before it wrote.
use Rattle.std.specs.Prelude.{ℕ, suc, ℤ, ◌+ℤ◌, Bool, true, false, cond, ◌&&◌, ◌==◌, List, [], ◌∷◌, map}
use Rattle.std.specs.List.{filter}
use Rattle.spec_core.specs.declared.world.World.{World}
use Rattle.spec_core.specs.declared.world.Call.{Call}
use Rattle.spec_core.specs.declared.update.Thing.{Thing}
use Rattle.spec_core.specs.declared.update.Thing.TheVariants as thing
use Rattle.spec_core.specs.declared.update.Spot.{Spot}
use Rattle.spec_core.specs.declared.update.Spot.TheVariants.{Every, One}
use Rattle.spec_core.specs.declared.update.Change.{Change}
use Rattle.spec_core.specs.declared.update.Change.TheVariants.{Insert, Remove, Add, Set}
use Rattle.spec_core.specs.Specification.{Specification, op_of}
use Rattle.spec_core.specs.UpdateLine.{UpdateLine}
use Rattle.spec_core.specs.World.{tuples}
use Rattle.spec_core.specs.State.{Listing, Reads, reads}
use Rattle.spec_core.specs.Truth.{elem_of, term_of, truth}

-- An update's spots match a tuple or key where each is every element, or names the element that stands there.
abbrev pub spots_match : World → List ℤ → List Spot → List ℕ → Bool
spots_match w args [] [] = true
spots_match w args [] (k ∷ ks) = false
spots_match w args (s ∷ ss) [] = false
spots_match w args (Every ∷ ss) (k ∷ ks) = spots_match w args ss ks
spots_match w args (One e ∷ ss) (k ∷ ks) = (elem_of w args [] e == k) && spots_match w args ss ks

-- the same relation or the same counter
abbrev pub is_thing : Thing → Thing → Bool
is_thing (thing.Relation k) (thing.Relation j) = k == j
is_thing (thing.Relation k) (thing.Counter j) = false
is_thing (thing.Counter k) (thing.Relation j) = false
is_thing (thing.Counter k) (thing.Counter j) = k == j

-- An update acts on the tuples or keys of its thing that its spots match, where its guard is true in the old state.
abbrev pub acts : World → Reads → List ℤ → Thing → List ℕ → UpdateLine → Bool
acts w r args x t u = is_thing u.thing x && (spots_match w args u.at t && truth w r args [] u.guard)

-- `insert` makes a reading true, and `remove` makes it false
abbrev pub has_changed : Change → Bool → Bool
has_changed Insert b = true
has_changed Remove b = false
has_changed (Add n) b = b
has_changed (Set n) b = b

-- `add` adds the amount to a value, and `set` puts the amount in its place
abbrev pub count_changed : World → Reads → List ℤ → Change → ℤ → ℤ
count_changed w r args Insert v = v
count_changed w r args Remove v = v
count_changed w r args (Add n) v = v +ℤ term_of w r args [] n
count_changed w r args (Set n) v = term_of w r args [] n

-- what a tuple reads after these updates, from what it reads before them
abbrev pub has_after : World → Reads → List ℤ → ℕ → List ℕ → List UpdateLine → Bool → Bool
has_after w r args k t [] b = b
has_after w r args k t (u ∷ us) b =
    has_after w r args k t us (cond (acts w r args (thing.Relation k) t u)
    (has_changed u.change b) b)

-- what a key reads after these updates, from what it reads before them
abbrev pub count_after : World → Reads → List ℤ → ℕ → List ℕ → List UpdateLine → ℤ → ℤ
count_after w r args k t [] v = v
count_after w r args k t (u ∷ us) v =
    count_after w r args k t us (cond (acts w r args (thing.Counter k) t u)
    (count_changed w r args u.change v) v)

-- a list made from the members of another and their places
abbrev pub numbered : {X Y : Type 0} → (ℕ → X → Y) → ℕ → List X → List Y
numbered f n [] = []
numbered f n (x ∷ xs) = f n x ∷ numbered f (suc n) xs

-- The state after a call: for each relation the tuples whose new reading is true, for each counter all keys with their new values.
abbrev pub after_call : Specification → World → Call → Reads → Listing
after_call d w c r = record {
  relations = numbered (λ k it. filter (λ t. has_after w r c.args k t (op_of d c.op).updates
      (r.has k t)) (tuples w it.places)) 0 d.relations;
  counters = numbered (λ k it. map (λ t. (
    t,
    count_after w r c.args k t (op_of d c.op).updates
        (r.count k t),
  )) (tuples w it.keys)) 0 d.counters;
}

-- what the state after a call reads
abbrev pub after : Specification → World → Call → Reads → Reads
after d w c r = reads (after_call d w c r)
