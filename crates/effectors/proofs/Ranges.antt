-- Where the values after a call are in the range of a state.
use Rattle.std.proofs.Common.{◌≡◌, ℕ, ◌+◌, ◌≤◌, ◌<◌, ◌^◌, ℤ, pos, unsigned_abs, Bool, true, false, cond, ◌&&◌, ◌||◌, inl, inr, List, [], ◌∷◌, map, length, get_or, refl, sym, ◌∙◌, ap, subst, arith}
use Rattle.std.specs.List.{list_all}
use Rattle.std.proofs.lemmas.Bool.{and_parts, and_from, cases_Bool, cases_lt, lt-ltb, le-leb, eqb-true}
use Rattle.std.proofs.lemmas.List.Folds.{list_all-map}
use Rattle.spec_core.specs.declared.world.World.{World}
use Rattle.spec_core.specs.declared.world.Call.{Call}
use Rattle.spec_core.specs.declared.update.Thing.{Thing}
use Rattle.spec_core.specs.declared.update.Thing.TheVariants as thing
use Rattle.spec_core.specs.UpdateLine.{UpdateLine}
use Rattle.spec_core.specs.Specification.{Specification, op_of, counter_keys, no_counter}
use Rattle.spec_core.specs.World.{tuples}
use Rattle.spec_core.specs.State.{Listing, Reads, reads, is_in}
use Rattle.spec_core.specs.Fits.{is_state, in_state_range, update_fits}
use Rattle.spec_core.proofs.States.{list_all-from_is_in, list_all-is_in, count_in_range}
use Rattle.effectors.specs.Effect.{is_thing, count_after, after_call, after}
use Rattle.effectors.specs.Beyond.{all_in_range, AllInRange}
use Rattle.effectors.specs.Places.{fits_counter}
use Rattle.effectors.specs.Reaching.{reached, thing_in_range, updates_in_range}
use Rattle.effectors.proofs.Reading.{numbered_in, numbered_out}
use Rattle.effectors.proofs.Fitting.{CallUpdates}
use Rattle.spec_core.proofs.Members.{is_in-tuples}
use Rattle.effectors.proofs.Reached.{reaches}
use Rattle.effectors.proofs.Whole.{count-after}
use Rattle.effectors.proofs.Written.{kept_count}

-- ---- all values are in range where those that the updates reach are

in_range_test : (n : ℤ) → unsigned_abs n ≤ 10 ^ 15 → in_state_range n ≡ true
in_range_test n h = le-leb (unsigned_abs n) (10 ^ 15) h

module _ (d : Specification) (w : World) (args : List ℤ) (n : Reads) where
  reached_in_range : (us : List UpdateLine) (k : ℕ) (q : List ℕ) → updates_in_range d w args us n ≡ true → reaches d w args us (thing.Counter k) q ≡ true → in_state_range (n.count k q) ≡ true
  reached_in_range [] k q h r = absurd cc
  reached_in_range (u ∷ us) k q h r =
      let p = and_parts (thing_in_range u.thing (reached d w args u) n) (updates_in_range d w args us n) h in
      first_or_later (is_thing u.thing (thing.Counter k)) refl (is_in q (reached d w args u)) refl r (by u.thing (reached d w args u) p.0) (λ e. reached_in_range us k q p.1 e)
    where
      by : (x : Thing) (ts : List (List ℕ)) → thing_in_range x ts n ≡ true → is_thing x (thing.Counter k) ≡ true → is_in q ts ≡ true → in_state_range (n.count k q) ≡ true
      by (thing.Relation j) ts h i m = absurd cc
      by (thing.Counter j) ts h i m = subst (λ z. in_state_range (n.count z q) ≡ true) (eqb-true j k i) (list_all-is_in (λ t. in_state_range (n.count j t)) ts q h m)

      first_or_later : (a : Bool) → is_thing u.thing (thing.Counter k) ≡ a → (b : Bool) → is_in q (reached d w args u) ≡ b → ((a && b) || reaches d w args us (thing.Counter k) q) ≡ true
          → (is_thing u.thing (thing.Counter k) ≡ true → is_in q (reached d w args u) ≡ true → in_state_range (n.count k q) ≡ true) → (reaches d w args us (thing.Counter k) q ≡ true → in_state_range (n.count k q) ≡ true) → in_state_range (n.count k q) ≡ true
      first_or_later true a true b r here later = here a b
      first_or_later true a false b r here later = later r
      first_or_later false a b e r here later = later r

  -- the values that fit updates reach are among all values
  reached_all : (us : List UpdateLine) → list_all (update_fits d w args) us ≡ true → ((k : ℕ) (q : List ℕ) → in_state_range (n.count k q) ≡ true) → updates_in_range d w args us n ≡ true
  reached_all [] f h = refl
  reached_all (u ∷ us) f h = and_from (thing_in_range u.thing (reached d w args u) n) (updates_in_range d w args us n) (by u.thing (reached d w args u)) (reached_all us (and_parts _ _ f).1 h)
    where
      by : (x : Thing) (ts : List (List ℕ)) → thing_in_range x ts n ≡ true
      by (thing.Relation j) ts = refl
      by (thing.Counter j) ts = list_all-from_is_in (λ t. in_state_range (n.count j t)) ts (λ q m. h j q)

module _ (d : Specification) (w : World) (c : Call) (s : Listing) (fit : is_state d w s ≡ true) (u : CallUpdates d w c) (range : (k : ℕ) (t : List ℕ) → unsigned_abs ((reads s).count k t) ≤ 10 ^ 15) where
  every_value : updates_in_range d w c.args (op_of d c.op).updates (after d w c (reads s)) ≡ true → (k : ℕ) (q : List ℕ) → in_state_range ((after d w c (reads s)).count k q) ≡ true
  every_value h k q = elim (cases_Bool (reaches d w c.args (op_of d c.op).updates (thing.Counter k) q)) [
    | inl e ↦ reached_in_range d w c.args (after d w c (reads s)) (op_of d c.op).updates k q h e
    | inr e ↦ ap in_state_range (kept_count d w c s fit u k q e) ∙ in_range_test ((reads s).count k q) (range k q)
  ]

  -- the updates leave the range exactly where some value of the new state does
  pub in_range_all : updates_in_range d w c.args (op_of d c.op).updates (after d w c (reads s)) ≡ true → AllInRange (after_call d w c (reads s))
  in_range_all h k = elim (cases_lt k (length d.counters)) [
    | inr past ↦ ap all_in_range (numbered_out (λ k it. map (λ t. (t, value k t)) (tuples w it.keys)) 0 d.counters k [] past)
    | inl lt ↦ ap all_in_range (numbered_in (λ k it. map (λ t. (t, value k t)) (tuples w it.keys)) 0 d.counters k no_counter [] lt)
        ∙ list_all-map (λ (e : List ℕ × ℤ). in_state_range e.1) (λ t. (t, value (0 + k) t)) (tuples w (counter_keys d k))
        ∙ list_all-from_is_in (λ t. in_state_range (value (0 + k) t)) (tuples w (counter_keys d k))
        (λ q m. let e : k ≡ 0 + k = omega arith in
        subst (λ z. in_state_range (value z q) ≡ true) e
        (ap in_state_range (sym (count-after d w c (reads s) k q ∙ ap (λ (b : Bool). cond b (value k q) (pos 0)) (fits k q lt m))) ∙ every_value h k q))
  ]
    where
      value : ℕ → List ℕ → ℤ
      value k t = count_after w (reads s) c.args k t (op_of d c.op).updates ((reads s).count k t)

      fits : (k : ℕ) (q : List ℕ) → k < length d.counters → is_in q (tuples w (counter_keys d k)) ≡ true → fits_counter d w k q ≡ true
      fits k q lt m = and_from _ _ (lt-ltb k (length d.counters) lt) (sym (is_in-tuples w (counter_keys d k) q) ∙ m)

  pub all_in_range_reached : AllInRange (after_call d w c (reads s)) → updates_in_range d w c.args (op_of d c.op).updates (after d w c (reads s)) ≡ true
  all_in_range_reached h = reached_all d w c.args (after d w c (reads s)) (op_of d c.op).updates u.fit
      (λ k q. count_in_range (get_or (after_call d w c (reads s)).counters k []) q (h k))
