-- What is true depends on the readings at fitting tuples and keys alone; so does the effect of a call.
use Rattle.std.proofs.Common.{◌≡◌, ℕ, ℤ, pos, ◌+ℤ◌, Bool, true, false, cond, ◌&&◌, List, [], ◌∷◌, map, get_or, refl, sym, ◌∙◌, ap, arith}
use Rattle.std.specs.List.{list_all}
use Rattle.std.proofs.lemmas.List.{get_or-map}
use Rattle.std.proofs.lemmas.Bool.{and_parts}
use Rattle.spec_core.specs.declared.operation.Param.{Param as Parameter}
use Rattle.spec_core.specs.declared.update.Change.{Change}
use Rattle.spec_core.specs.declared.update.Change.TheVariants.{Insert, Remove, Add, Set}
use Rattle.spec_core.specs.declared.world.World.{World}
use Rattle.spec_core.specs.declared.world.Call.{Call}
use Rattle.spec_core.specs.UpdateLine.{UpdateLine}
use Rattle.spec_core.specs.Specification.{Specification, no_relation, no_counter, relation_places, counter_keys, op_of}
use Rattle.spec_core.specs.World.{tuples}
use Rattle.spec_core.specs.State.{Reads, reads, is_in, count_in}
use Rattle.spec_core.specs.Truth.{truth}
use Rattle.spec_core.specs.Meaning.{initial}
use Rattle.spec_core.specs.Fits.{is_world, are_arguments, AgreeOn}
use Rattle.spec_core.specs.Typed.{is_update}
use Rattle.spec_core.proofs.Fitting.{form_fits_typed, term_fits_typed}
use Rattle.spec_core.proofs.Agreeing.{term_agrees, truth_agrees}
use Rattle.effectors.specs.Effect.{count_changed, has_after, count_after, after}
use Rattle.spec_core.proofs.Members.{is_in-tuples}
use Rattle.effectors.proofs.Reading.{has_in_world, count_in_world, count_in_map}
use Rattle.ground_problem.proofs.Means.{AmountTyped, update_parts}

pub agree_same : (d : Specification) (w : World) (r : Reads) → AgreeOn d w r r
agree_same d w r = record { has = λ k t h f. refl; count = λ k t h f. refl }

pub agree_back : (d : Specification) (w : World) (r s : Reads) → AgreeOn d w r s → AgreeOn d w s r
agree_back d w r s a = record { has = λ k t h f. sym (a.has k t h f); count = λ k t h f. sym (a.count k t h f) }

-- ---- effect

-- the readings that a call's updates give at every tuple and key, also at those that don't fit
abbrev pub after_everywhere : Specification → World → Call → Reads → Reads
after_everywhere d w c r = record {
  has = λ k t. has_after w r c.args k t (op_of d c.op).updates (r.has k t);
  count = λ k t. count_after w r c.args k t (op_of d c.op).updates (r.count k t);
}

-- the readings of the initial state at every tuple and key
abbrev pub start_everywhere : Specification → Reads
start_everywhere d = record { has = λ k t. (get_or d.relations k no_relation).initial; count = λ k t. (get_or d.counters k no_counter).initial }

module _ (d : Specification) (w : World) (world : is_world d w ≡ true) (ps : List Parameter) (args : List ℤ) (fit : are_arguments w ps args ≡ true) (r s : Reads) (a : AgreeOn d w r s) where
  guard_agrees : (u : UpdateLine) → is_update d ps u ≡ true → truth w r args [] u.guard ≡ truth w s args [] u.guard
  guard_agrees u h = truth_agrees d w r s a args [] u.guard (form_fits_typed d w world ps args fit [] [] refl u.guard (update_parts d ps u h).guard)

  change_agrees : (ch : Change) (v : ℤ) → AmountTyped d ps ch → count_changed w r args ch v ≡ count_changed w s args ch v
  change_agrees Insert v h = refl
  change_agrees Remove v h = refl
  change_agrees (Add n) v h = ap (λ (x : ℤ). v +ℤ x) (term_agrees d w r s a args [] n (term_fits_typed d w world ps args fit [] [] refl n h))
  change_agrees (Set n) v h = term_agrees d w r s a args [] n (term_fits_typed d w world ps args fit [] [] refl n h)

  pub has_after_agrees : (k : ℕ) (t : List ℕ) (us : List UpdateLine) (b c : Bool) → list_all (is_update d ps) us ≡ true → b ≡ c → has_after w r args k t us b ≡ has_after w s args k t us c
  has_after_agrees k t [] b c h e = e
  has_after_agrees k t (u ∷ us) b c h e =
      let h2 = and_parts (is_update d ps u) (list_all (is_update d ps) us) h in
      let g = guard_agrees u h2.0 in
      has_after_agrees k t us _ _ h2.1 cc

  pub count_after_agrees : (k : ℕ) (t : List ℕ) (us : List UpdateLine) (b c : ℤ) → list_all (is_update d ps) us ≡ true → b ≡ c → count_after w r args k t us b ≡ count_after w s args k t us c
  count_after_agrees k t [] b c h e = e
  count_after_agrees k t (u ∷ us) b c h e =
      let h2 = and_parts (is_update d ps u) (list_all (is_update d ps) us) h in
      let g = guard_agrees u h2.0 in
      let l = change_agrees u.change b (update_parts d ps u h2.0).change in
      count_after_agrees k t us _ _ h2.1 cc

pub after_agrees : (d : Specification) (w : World) → is_world d w ≡ true → (c : Call) → are_arguments w (op_of d c.op).params c.args ≡ true → list_all (is_update d (op_of d c.op).params) (op_of d c.op).updates ≡ true
    → (r s : Reads) → AgreeOn d w r s → AgreeOn d w (after d w c r) (after_everywhere d w c s)
after_agrees d w world c fit typed r s a = record {
  has = λ k t h f. has_in_world d w c r k t h
      ∙ front (is_in t (tuples w (relation_places d k))) _ (is_in-tuples w (relation_places d k) t ∙ f)
      ∙ has_after_agrees d w world (op_of d c.op).params c.args fit r s a k t (op_of d c.op).updates (r.has k t) (s.has k t) typed (a.has k t h f);
  count = λ k t h f. count_in_world d w c r k t h
      ∙ ap (λ (b : Bool). cond b (count_after w r c.args k t (op_of d c.op).updates (r.count k t)) (pos 0)) (is_in-tuples w (counter_keys d k) t ∙ f)
      ∙ count_after_agrees d w world (op_of d c.op).params c.args fit r s a k t (op_of d c.op).updates (r.count k t) (s.count k t) typed (a.count k t h f);
}
  where
    front : (x y : Bool) → x ≡ true → (x && y) ≡ y
    front x y h = grind arith

pub start_agrees : (d : Specification) (w : World) → AgreeOn d w (reads (initial d w)) (start_everywhere d)
start_agrees d w = record {
  has = λ k t h f. ap (is_in t) (get_or-map (λ r. cond r.initial (tuples w r.places) []) d.relations k no_relation [] h) ∙ listed (get_or d.relations k no_relation).initial (tuples w (relation_places d k)) t (is_in-tuples w (relation_places d k) t ∙ f);
  count = λ k t h f. ap (λ es. count_in es t) (get_or-map (λ c. map (λ key. (key, c.initial)) (tuples w c.keys)) d.counters k no_counter [] h)
      ∙ count_in_map (λ key. (get_or d.counters k no_counter).initial) (tuples w (counter_keys d k)) t
      ∙ ap (λ (b : Bool). cond b (get_or d.counters k no_counter).initial (pos 0)) (is_in-tuples w (counter_keys d k) t ∙ f);
}
  where
    listed : (b : Bool) (ts : List (List ℕ)) (t : List ℕ) → is_in t ts ≡ true → is_in t (cond b ts []) ≡ b
    listed true ts t h = h
    listed false ts t h = refl
