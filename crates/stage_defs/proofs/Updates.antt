-- The updates of a thing, one after another, against the list of them.
use Rattle.std.proofs.Common.{◌≡◌, ℕ, zero, suc, ◌-◌, Bool, true, false, cond, Some, List, [], ◌∷◌, ◌++◌, length, refl, sym, ◌∙◌, ap, arith}
use Rattle.std.specs.Prelude.{slice_get, pos, ◌||◌, ◌≤◌}
use Rattle.std.specs.List.{list_any}
use Rattle.spec_core.specs.declared.update.Thing.{Thing}
use Rattle.spec_core.specs.declared.update.Thing.TheVariants as thing
use Rattle.spec_core.specs.UpdateLine.{UpdateLine}
use Rattle.effectors.specs.Effect.{is_thing}
use Rattle.ground_problem.specs.Symbols.{Stage, Part, multiple, reading, partial, Symbolic, equal}
use Rattle.ground_problem.specs.Formulas.{Caller, Readings}
use Rattle.ground_problem.specs.Definitions.{acts_on, has_then, has_updated, updates_of, value_after, values_defined, value_stays, define_count}
use Rattle.ground_numbers.specs.Stages.{stage_of}
use Rattle.ground_atoms.specs.Symbols.{count_of}
use Rattle.stage_defs.specs.Parts.{has_step, has_upto, value_defined, values_upto, count_in_turn}

-- one update more
pub upto_more : (r : Readings) (c : Caller) (x : Thing) (t : List ℕ) (us : List UpdateLine) (n : ℕ) (e : Symbolic) → ¬ (n ≡ 0) → has_upto r c x t us n e ≡ has_step r c x t (slice_get us (n - 1)) (has_upto r c x t us (n - 1) e)
upto_more r c x t us zero e h = absurd (h refl)
upto_more r c x t us (suc n) e h = (let p : suc n - 1 ≡ n = omega arith in ap (λ (m : ℕ). has_step r c x t (slice_get us m) (has_upto r c x t us m e)) (sym p))

-- from the front, the first so many of a longer list are those after the first one
upto_front : (r : Readings) (c : Caller) (x : Thing) (t : List ℕ) (u : UpdateLine) (us : List UpdateLine) (n : ℕ) (e : Symbolic) → has_upto r c x t (u ∷ us) (suc n) e ≡ has_upto r c x t us n (has_step r c x t (Some u) e)
upto_front r c x t u us zero e = refl
upto_front r c x t u us (suc n) e = ap (λ (z : Symbolic). has_step r c x t (slice_get us n) z) (upto_front r c x t u us n e)

-- all of them are the updates of the thing
pub upto_all : (r : Readings) (c : Caller) (x : Thing) (t : List ℕ) (us : List UpdateLine) (e : Symbolic) → has_upto r c x t us (length us) e ≡ has_updated r c t (updates_of x us) e
upto_all r c x t [] e = refl
upto_all r c x t (u ∷ us) e = upto_front r c x t u us (length us) e ∙ upto_all r c x t us (has_step r c x t (Some u) e) ∙ by_test (is_thing u.thing x)
  where
    by_test : (b : Bool) → has_updated r c t (updates_of x us) (cond b (has_then u.change (acts_on r c t u) e) e) ≡ has_updated r c t (cond b (u ∷ updates_of x us) (updates_of x us)) e
    by_test true = refl
    by_test false = refl

-- ---- counters

-- whether an update of a thing is among some
any_of_thing : (x : Thing) (us : List UpdateLine) → list_any (λ u. is_thing u.thing x) us ≡ false → updates_of x us ≡ []
any_of_thing x [] h = refl
any_of_thing x (u ∷ us) h = by_test (is_thing u.thing x) h (any_of_thing x us)
  where
    by_test : (b : Bool) → (b || list_any (λ u. is_thing u.thing x) us) ≡ false → (list_any (λ u. is_thing u.thing x) us ≡ false → updates_of x us ≡ []) → cond b (u ∷ updates_of x us) (updates_of x us) ≡ []
    by_test true g f = absurd cc
    by_test false g f = f g

some_of_thing : (x : Thing) (us : List UpdateLine) → list_any (λ u. is_thing u.thing x) us ≡ true → (n : ℕ) (k : Stage) (i : ℕ) (t : List ℕ) → value_after (updates_of x us) n k i t ≡ partial n k i t
some_of_thing x [] h n k i t = absurd cc
some_of_thing x (u ∷ us) h n k i t = by_test (is_thing u.thing x) h (λ g. some_of_thing x us g n k i t)
  where
    by_test : (b : Bool) → (b || list_any (λ u. is_thing u.thing x) us) ≡ true → (list_any (λ u. is_thing u.thing x) us ≡ true → value_after (updates_of x us) n k i t ≡ partial n k i t) → value_after (cond b (u ∷ updates_of x us) (updates_of x us)) n k i t ≡ partial n k i t
    by_test true g f = refl
    by_test false g f = f g

-- what an update's value is named by
pub named_after : (x : Thing) (us : List UpdateLine) (b : Bool) → b ≡ list_any (λ u. is_thing u.thing x) us → (n : ℕ) → 1 ≤ n → (k i : ℕ) (t : List ℕ) → count_of k (cond b n 0) i t ≡ value_after (updates_of x us) n (stage_of k) i t
named_after x us true e zero h k i t = absurd (omega arith)
named_after x us true e (suc n) h k i t = sym (some_of_thing x us (sym e) (suc n) (stage_of k) i t)
named_after x us false e n h k i t = ap (λ (vs : List UpdateLine). value_after vs n (stage_of k) i t) (sym (any_of_thing x us (sym e)))

-- the formulas of all updates of a counter
pub values_all : (r : Readings) (c : Caller) (k : Stage) (i : ℕ) (t : List ℕ) (n : ℕ) (v : List Part) (us : List UpdateLine) → values_upto r c k i t n v us ≡ values_defined r c k i t n v (updates_of (thing.Counter i) us)
values_all r c k i t n v [] = refl
values_all r c k i t n v (u ∷ us) = by_test (is_thing u.thing (thing.Counter i)) (values_all r c k i t (suc n) (multiple (pos 1) (value_after (updates_of (thing.Counter i) us) n k i t) ∷ []) us) (values_all r c k i t n v us)
  where
    next : List Part
    next = multiple (pos 1) (value_after (updates_of (thing.Counter i) us) n k i t) ∷ []

    by_test : (b : Bool) → values_upto r c k i t (suc n) next us ≡ values_defined r c k i t (suc n) next (updates_of (thing.Counter i) us) → values_upto r c k i t n v us ≡ values_defined r c k i t n v (updates_of (thing.Counter i) us)
        → cond b (value_defined r c t next v u ++ values_upto r c k i t (suc n) next us) (values_upto r c k i t n v us) ≡ values_defined r c k i t n v (cond b (u ∷ updates_of (thing.Counter i) us) (updates_of (thing.Counter i) us))
    by_test true e f = ap (λ (l : List Symbolic). value_defined r c t next v u ++ l) e
    by_test false e f = f

-- without updates of the counter the value stays, and with some each of them gives a value
pub counter_defined : (r : Readings) (c : Caller) (k : Stage) (i : ℕ) (t : List ℕ) (us : List UpdateLine) → define_count r c us k i t ≡ count_in_turn r c k i t (r.count (pos 1) i t ∷ []) us
counter_defined r c k i t us = by_test (list_any (λ u. is_thing u.thing (thing.Counter i)) us) refl
  where
    stays : (mine : List UpdateLine) → value_after mine 1 k i t ≡ partial 1 k i t → value_stays r k i t mine ++ values_defined r c k i t 1 (r.count (pos 1) i t ∷ []) mine ≡ values_defined r c k i t 1 (r.count (pos 1) i t ∷ []) mine
    stays [] h = absurd cc
    stays (u ∷ mine) h = refl

    by_test : (b : Bool) → list_any (λ u. is_thing u.thing (thing.Counter i)) us ≡ b
        → define_count r c us k i t ≡ cond b (values_upto r c k i t 1 (r.count (pos 1) i t ∷ []) us) (equal (multiple (pos 1) (reading k i t) ∷ []) (r.count (pos 1) i t ∷ []) ∷ [])
    by_test true e = stays (updates_of (thing.Counter i) us) (some_of_thing (thing.Counter i) us e 1 k i t) ∙ sym (values_all r c k i t 1 (r.count (pos 1) i t ∷ []) us)
    by_test false e = ap (λ (mine : List UpdateLine). value_stays r k i t mine ++ values_defined r c k i t 1 (r.count (pos 1) i t ∷ []) mine) (any_of_thing (thing.Counter i) us e)
