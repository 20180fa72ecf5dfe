-- The old state, with what the updates of a call reach taken from the state after it, is the state after it.
use Rattle.std.proofs.Common.{◌≡◌, ℕ, zero, suc, ◌≤◌, ℤ, pos, Bool, true, false, cond, ◌&&◌, nat_lt, inl, inr, List, [], ◌∷◌, length, get_or, refl, sym, ◌∙◌, ap, arith}
use Rattle.spec_states.proofs.Sameness.{unlisted}
use Rattle.std.proofs.lemmas.Bool.{and_parts, cases_Bool, and_cases, false_from_ne_true, ltb-false, true≢false}
use Rattle.spec_core.specs.declared.world.World.{World}
use Rattle.spec_core.specs.declared.world.Call.{Call}
use Rattle.spec_core.specs.declared.update.Thing.TheVariants as thing
use Rattle.spec_core.specs.declared.spec.Relation.{Relation}
use Rattle.spec_core.specs.declared.spec.Counter.{Counter}
use Rattle.spec_core.specs.Specification.{Specification, op_of, relation_places, counter_keys}
use Rattle.spec_core.specs.State.{Listing, reads, is_in, count_in, listed_keys}
use Rattle.spec_core.specs.Fits.{fits_places, lists_fit, values_fit, is_state}
use Rattle.spec_core.proofs.States.{lists_fit-at, values_fit-at}
use Rattle.effectors.specs.Effect.{has_after, count_after, after}
use Rattle.effectors.specs.Places.{fits_relation, fits_counter}
use Rattle.effectors.specs.Reaching.{with_updates}
use Rattle.effectors.proofs.Fitting.{CallUpdates}
use Rattle.effectors.proofs.Whole.{has-after, count-after}
use Rattle.effectors.proofs.Reached.{reaches, updates_has, updates_count, unreached_has, unreached_count}

-- ---- a state reads false or 0 at what doesn't fit

lists_fit-past : (w : World) (rs : List Relation) (ls : List (List (List ℕ))) (k : ℕ) (q : List ℕ) → lists_fit w rs ls ≡ true → length rs ≤ k → is_in q (get_or ls k []) ≡ false
lists_fit-past w [] [] k q h le = refl
lists_fit-past w [] (l ∷ ls) k q h le = absurd cc
lists_fit-past w (r ∷ rs) [] k q h le = absurd cc
lists_fit-past w (r ∷ rs) (l ∷ ls) zero q h le = absurd (omega arith)
lists_fit-past w (r ∷ rs) (l ∷ ls) (suc k) q h le = lists_fit-past w rs ls k q (and_parts _ _ h).1 (omega arith)

values_fit-past : (w : World) (cs : List Counter) (ls : List (List (List ℕ × ℤ))) (k : ℕ) (q : List ℕ) → values_fit w cs ls ≡ true → length cs ≤ k → count_in (get_or ls k []) q ≡ pos 0
values_fit-past w [] [] k q h le = refl
values_fit-past w [] (l ∷ ls) k q h le = absurd cc
values_fit-past w (c ∷ cs) [] k q h le = absurd cc
values_fit-past w (c ∷ cs) (l ∷ ls) zero q h le = absurd (omega arith)
values_fit-past w (c ∷ cs) (l ∷ ls) (suc k) q h le = values_fit-past w cs ls k q (and_parts _ _ h).1 (omega arith)

module _ (d : Specification) (w : World) (s : Listing) (fit : is_state d w s ≡ true) where
  pub has_unfit : (k : ℕ) (q : List ℕ) → fits_relation d w k q ≡ false → (reads s).has k q ≡ false
  has_unfit k q h = elim (and_cases (nat_lt k (length d.relations)) (fits_places w (relation_places d k) q) h) [
    | inl e ↦ lists_fit-past w d.relations s.relations k q (and_parts _ _ fit).0 (ltb-false k (length d.relations) e)
    | inr e ↦ false_from_ne_true (is_in q (get_or s.relations k [])) (λ i. true≢false (sym (lists_fit-at w d.relations s.relations k q (and_parts _ _ fit).0 i) ∙ e))
  ]

  pub count_unfit : (k : ℕ) (q : List ℕ) → fits_counter d w k q ≡ false → (reads s).count k q ≡ pos 0
  count_unfit k q h = elim (and_cases (nat_lt k (length d.counters)) (fits_places w (counter_keys d k) q) h) [
    | inl e ↦ values_fit-past w d.counters s.counters k q (and_parts _ _ fit).1 (ltb-false k (length d.counters) e)
    | inr e ↦ unlisted (get_or s.counters k []) q (false_from_ne_true (is_in q (listed_keys (get_or s.counters k []))) (λ i. true≢false (sym (values_fit-at w d.counters s.counters k q (and_parts _ _ fit).1 i) ∙ e)))
  ]

-- ---- what isn't reached reads as before

module _ (d : Specification) (w : World) (c : Call) (s : Listing) (fit : is_state d w s ≡ true) (u : CallUpdates d w c) where
  kept_has : (k : ℕ) (q : List ℕ) → reaches d w c.args (op_of d c.op).updates (thing.Relation k) q ≡ false → (after d w c (reads s)).has k q ≡ (reads s).has k q
  kept_has k q h = has-after d w c (reads s) k q ∙ elim (cases_Bool (fits_relation d w k q)) [
    | inl e ↦ ap (λ (b : Bool). b && has_after w (reads s) c.args k q (op_of d c.op).updates ((reads s).has k q)) e
        ∙ unreached_has d w (reads s) c.args (op_of d c.op).updates k q ((reads s).has k q) u.fit (and_parts _ _ e).1 h
    | inr e ↦ ap (λ (b : Bool). b && has_after w (reads s) c.args k q (op_of d c.op).updates ((reads s).has k q)) e ∙ sym (has_unfit d w s fit k q e)
  ]

  pub kept_count : (k : ℕ) (q : List ℕ) → reaches d w c.args (op_of d c.op).updates (thing.Counter k) q ≡ false → (after d w c (reads s)).count k q ≡ (reads s).count k q
  kept_count k q h = count-after d w c (reads s) k q ∙ elim (cases_Bool (fits_counter d w k q)) [
    | inl e ↦ ap (λ (b : Bool). cond b (count_after w (reads s) c.args k q (op_of d c.op).updates ((reads s).count k q)) (pos 0)) e
        ∙ unreached_count d w (reads s) c.args (op_of d c.op).updates k q ((reads s).count k q) u.fit (and_parts _ _ e).1 h
    | inr e ↦ ap (λ (b : Bool). cond b (count_after w (reads s) c.args k q (op_of d c.op).updates ((reads s).count k q)) (pos 0)) e ∙ sym (count_unfit d w s fit k q e)
  ]

  choose : {X : Type 0} (b : Bool) (x z : X) → (b ≡ false → x ≡ z) → cond b x z ≡ x
  choose true x z h = refl
  choose false x z h = sym (h refl)

  pub written : with_updates d w c.args (op_of d c.op).updates (after d w c (reads s)) (reads s) ≡ after d w c (reads s)
  written = λ i. record {
    has = λ k q. (updates_has d w c.args (after d w c (reads s)) (op_of d c.op).updates (reads s) k q
        ∙ choose (reaches d w c.args (op_of d c.op).updates (thing.Relation k) q) ((after d w c (reads s)).has k q) ((reads s).has k q) (kept_has k q)) i;
    count = λ k q. (updates_count d w c.args (after d w c (reads s)) (op_of d c.op).updates (reads s) k q
        ∙ choose (reaches d w c.args (op_of d c.op).updates (thing.Counter k) q) ((after d w c (reads s)).count k q) ((reads s).count k q) (kept_count k q)) i;
  }
