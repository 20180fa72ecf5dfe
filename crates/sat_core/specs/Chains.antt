-- A chain of resolvents on its way, as the proofs of a search carry it.
use Rattle.std.specs.Prelude.{◌≡◌, ◌≢◌, ℕ, ◌<◌, ◌≤◌, true, false, List, [], length, slice_index_or}
use Rattle.proof_lines.specs.declared.clause.Lit.{Lit}
use Rattle.proof_lines.specs.Clauses.{distinct}
use Rattle.sat_core.specs.declared.trail.Entry.{Entry}
use Rattle.sat_core.specs.Trails.{is_false, Settled, NoneFalse, open_in, before_last, has_decision, IsTrail, older, from_last}

-- A CHAIN ON ITS WAY: what holds of its trail and of the clauses that it gave.

-- the first clauses stay
pub record Grows (start cs : List (List Lit)) : Type 0 where
  pub long : length start ≤ length cs
  pub same : (k : ℕ) → k < length start → slice_index_or cs k [] ≡ slice_index_or start k []

-- a clause that came since the start has two literals from the last decision on
pub record Added (t : List Entry) (c : List Lit) : Type 0 where
  pub set : distinct c ≡ true
  pub two : has_decision t ≡ true → 2 ≤ open_in (before_last t) c

-- the clause with number i is false, and the trail is taken back as far as the chain has come
pub record Analyzing (start : List (List Lit)) (t0 : List Entry) (cs : List (List Lit))
    (t : List Entry) (i : ℕ) : Type 0 where
  pub there : i < length cs
  pub false_now : is_false t (slice_index_or cs i []) ≡ true
  pub trail : IsTrail start t
  pub grows : Grows start cs
  pub others : (k : ℕ) → k < length cs → k ≢ i → is_false (older t) (slice_index_or cs k []) ≡ false
  pub added : (k : ℕ) → length start ≤ k → k < length cs → k ≢ i → Added t (slice_index_or cs k [])
  pub set : distinct (slice_index_or cs i []) ≡ true
  pub decided : has_decision t ≡ true → 1 ≤ open_in (before_last t) (slice_index_or cs i [])
  pub same_has : has_decision t0 ≡ has_decision t
  pub same_before : before_last t0 ≡ before_last t
  pub same_last : (c : List Lit) → is_false t c ≡ true → from_last t0 c ≡ from_last t c

-- cutting back after a chain: no clause is false, and all that came since the start but the one with number i have two literals
-- from the last decision on
pub record Cutting (start : List (List Lit)) (cs : List (List Lit)) (t : List Entry)
    (i : ℕ) : Type 0 where
  pub trail : IsTrail start t
  pub grows : Grows start cs
  pub added : (k : ℕ) → length start ≤ k → k < length cs → k ≢ i → Added t (slice_index_or cs k [])
  pub set : distinct (slice_index_or cs i []) ≡ true
  pub none_false : NoneFalse t cs

-- where the chain of a clause that a solver of rows gives may begin: the clause is false, and not so before the last decision
pub record Begins (cs : List (List Lit)) (t : List Entry) (c : List Lit) : Type 0 where
  pub trail : IsTrail cs t
  pub settled : Settled t cs
  pub now : is_false t c ≡ true
  pub not_before : has_decision t ≡ true → is_false (before_last t) c ≡ false
