-- The state after a call depends on the readings at fitting tuples and keys alone.
use Rattle.std.proofs.Common.{◌≡◌, ℕ, ℤ, pos, ◌+ℤ◌, Bool, true, false, cond, ◌&&◌, nat_lt, List, [], ◌∷◌, length, refl, sym, ◌∙◌, ap}
use Rattle.std.specs.List.{list_all}
use Rattle.std.proofs.lemmas.Bool.{and_parts, ltb-true}
use Rattle.spec_core.specs.declared.world.World.{World}
use Rattle.spec_core.specs.declared.world.Call.{Call}
use Rattle.spec_core.specs.declared.update.Thing.{Thing}
use Rattle.spec_core.specs.declared.update.Thing.TheVariants as thing
use Rattle.spec_core.specs.declared.update.Change.{Change}
use Rattle.spec_core.specs.declared.update.Change.TheVariants.{Insert, Remove, Add, Set}
use Rattle.spec_core.specs.UpdateLine.{UpdateLine}
use Rattle.spec_core.specs.Specification.{Specification, op_of, places_of, relation_places, counter_keys}
use Rattle.spec_core.specs.State.{Reads}
use Rattle.spec_core.specs.Fits.{fits_places, is_world, is_call, spots_fit, change_fits, form_fits, term_fits, update_fits, AgreeOn}
use Rattle.spec_core.specs.Typed.{is_specification}
use Rattle.spec_core.proofs.Operations.{call_parts}
use Rattle.spec_core.proofs.Agreeing.{term_agrees, truth_agrees}
use Rattle.effectors.specs.Effect.{spots_match, is_thing, acts, has_changed, count_changed, has_after, count_after, after}
use Rattle.effectors.specs.Places.{fits_relation, fits_counter}
use Rattle.effectors.proofs.Whole.{has-after, count-after}

module _ (d : Specification) (w : World) (r s : Reads) (agree : AgreeOn d w r s) (args : List ℤ) where
  acts_agrees : (x : Thing) (t : List ℕ) (u : UpdateLine) → update_fits d w args u ≡ true → acts w r args x t u ≡ acts w s args x t u
  acts_agrees x t u h =
      let p = and_parts (change_fits d w args u.thing u.change && spots_fit w args (places_of d u.thing) u.at) (form_fits d w args [] u.guard) h in
      ap (λ (b : Bool). is_thing u.thing x && (spots_match w args u.at t && b)) (truth_agrees d w r s agree args [] u.guard p.1)

  change_agrees : (x : Thing) (c : Change) (v : ℤ) → change_fits d w args x c ≡ true → count_changed w r args c v ≡ count_changed w s args c v
  change_agrees x Insert v h = refl
  change_agrees x Remove v h = refl
  change_agrees (thing.Relation k) (Add n) v h = absurd cc
  change_agrees (thing.Relation k) (Set n) v h = absurd cc
  change_agrees (thing.Counter k) (Add n) v h = ap (λ m. v +ℤ m) (term_agrees d w r s agree args [] n (and_parts (nat_lt k (length d.counters)) (term_fits d w args [] n) h).1)
  change_agrees (thing.Counter k) (Set n) v h = term_agrees d w r s agree args [] n (and_parts (nat_lt k (length d.counters)) (term_fits d w args [] n) h).1

  has_after_agrees : (k : ℕ) (t : List ℕ) (us : List UpdateLine) (b : Bool) → list_all (update_fits d w args) us ≡ true → has_after w r args k t us b ≡ has_after w s args k t us b
  has_after_agrees k t [] b h = refl
  has_after_agrees k t (u ∷ us) b h =
      let p = and_parts (update_fits d w args u) (list_all (update_fits d w args) us) h in
      ap (λ (a : Bool). has_after w r args k t us (cond a (has_changed u.change b) b)) (acts_agrees (thing.Relation k) t u p.0)
      ∙ has_after_agrees k t us (cond (acts w s args (thing.Relation k) t u) (has_changed u.change b) b) p.1

  count_after_agrees : (k : ℕ) (t : List ℕ) (us : List UpdateLine) (v : ℤ) → list_all (update_fits d w args) us ≡ true → count_after w r args k t us v ≡ count_after w s args k t us v
  count_after_agrees k t [] v h = refl
  count_after_agrees k t (u ∷ us) v h =
      let p = and_parts (update_fits d w args u) (list_all (update_fits d w args) us) h in
      let q = and_parts (change_fits d w args u.thing u.change && spots_fit w args (places_of d u.thing) u.at) (form_fits d w args [] u.guard) p.0 in
      let c = and_parts (change_fits d w args u.thing u.change) (spots_fit w args (places_of d u.thing) u.at) q.0 in
      (λ i. count_after w r args k t us (cond (acts_agrees (thing.Counter k) t u p.0 i) (change_agrees u.thing u.change v c.0 i) v))
      ∙ count_after_agrees k t us (cond (acts w s args (thing.Counter k) t u) (count_changed w s args u.change v) v) p.1

module _ (d : Specification) (w : World) (c : Call) (r s : Reads) (well : is_specification d ≡ true) (world : is_world d w ≡ true) (call : is_call d w c ≡ true) (agree : AgreeOn d w r s) where
  updates_fit : list_all (update_fits d w c.args) (op_of d c.op).updates ≡ true
  updates_fit = (call_parts d w c well world call).fits.updates

  same_has : (k : ℕ) (t : List ℕ) → (after d w c r).has k t ≡ (after d w c s).has k t
  same_has k t = has-after d w c r k t ∙ at (fits_relation d w k t) refl ∙ sym (has-after d w c s k t)
    where
      at : (b : Bool) → fits_relation d w k t ≡ b → (b && has_after w r c.args k t (op_of d c.op).updates (r.has k t)) ≡ (b && has_after w s c.args k t (op_of d c.op).updates (s.has k t))
      at false e = refl
      at true e =
          let p = and_parts (nat_lt k (length d.relations)) (fits_places w (relation_places d k) t) e in
          has_after_agrees d w r s agree c.args k t (op_of d c.op).updates (r.has k t) updates_fit
          ∙ ap (has_after w s c.args k t (op_of d c.op).updates) (agree.has k t (ltb-true k (length d.relations) p.0) p.1)

  same_count : (k : ℕ) (t : List ℕ) → (after d w c r).count k t ≡ (after d w c s).count k t
  same_count k t = count-after d w c r k t ∙ at (fits_counter d w k t) refl ∙ sym (count-after d w c s k t)
    where
      at : (b : Bool) → fits_counter d w k t ≡ b → cond b (count_after w r c.args k t (op_of d c.op).updates (r.count k t)) (pos 0) ≡ cond b (count_after w s c.args k t (op_of d c.op).updates (s.count k t)) (pos 0)
      at false e = refl
      at true e =
          let p = and_parts (nat_lt k (length d.counters)) (fits_places w (counter_keys d k) t) e in
          count_after_agrees d w r s agree c.args k t (op_of d c.op).updates (r.count k t) updates_fit
          ∙ ap (count_after w s c.args k t (op_of d c.op).updates) (agree.count k t (ltb-true k (length d.counters) p.0) p.1)

  pub after_agrees : after d w c r ≡ after d w c s
  after_agrees = λ i. record { has = λ k t. same_has k t i; count = λ k t. same_count k t i }
