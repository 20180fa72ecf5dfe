-- What the state after a call reads at any tuple or key, whether it is of the world or not.
use Rattle.std.proofs.Common.{◌≡◌, ℕ, ◌<◌, ◌≤◌, pos, Bool, true, false, cond, ◌&&◌, ◌⊎◌, inl, inr, nat_lt, List, length, refl, sym, ◌∙◌, ap, arith}
use Rattle.std.proofs.lemmas.Bool.Decides.{nat_tests}
use Rattle.spec_core.specs.declared.world.World.{World}
use Rattle.spec_core.specs.declared.world.Call.{Call}
use Rattle.spec_core.specs.Specification.{Specification, op_of, relation_places, counter_keys}
use Rattle.spec_core.specs.State.{Reads}
use Rattle.spec_core.specs.Fits.{fits_places}
use Rattle.effectors.specs.Effect.{has_after, count_after, after}
use Rattle.effectors.specs.Places.{fits_relation, fits_counter}
use Rattle.effectors.proofs.Reading.{has_in_world, count_in_world, has_undeclared, count_undeclared}
use Rattle.spec_core.proofs.Members.{is_in-tuples}

below_or_not : (k n : ℕ) → ((k < n) × (nat_lt k n ≡ true)) ⊎ ((n ≤ k) × (nat_lt k n ≡ false))
below_or_not k n = at (nat_lt k n) refl
  where
    at : (b : Bool) → nat_lt k n ≡ b → ((k < n) × (nat_lt k n ≡ true)) ⊎ ((n ≤ k) × (nat_lt k n ≡ false))
    at true e = inl (grind (arith, nat_tests), e)
    at false e = inr (grind (arith, nat_tests), e)

module _ (d : Specification) (w : World) (c : Call) (r : Reads) where
  pub has-after : (k : ℕ) (t : List ℕ) → (after d w c r).has k t ≡ (fits_relation d w k t && has_after w r c.args k t (op_of d c.op).updates (r.has k t))
  has-after k t = elim (below_or_not k (length d.relations)) [
    | inl p ↦ has_in_world d w c r k t p.0
        ∙ ap (λ (b : Bool). b && has_after w r c.args k t (op_of d c.op).updates (r.has k t)) (is_in-tuples w (relation_places d k) t)
        ∙ ap (λ (b : Bool). (b && fits_places w (relation_places d k) t) && has_after w r c.args k t (op_of d c.op).updates (r.has k t)) (sym p.1)
    | inr p ↦ has_undeclared d w c r k t p.0 ∙ ap (λ (b : Bool). (b && fits_places w (relation_places d k) t) && has_after w r c.args k t (op_of d c.op).updates (r.has k t)) (sym p.1)
  ]

  pub count-after : (k : ℕ) (t : List ℕ) → (after d w c r).count k t ≡ cond (fits_counter d w k t) (count_after w r c.args k t (op_of d c.op).updates (r.count k t)) (pos 0)
  count-after k t = elim (below_or_not k (length d.counters)) [
    | inl p ↦ count_in_world d w c r k t p.0
        ∙ ap (λ (b : Bool). cond b (count_after w r c.args k t (op_of d c.op).updates (r.count k t)) (pos 0)) (is_in-tuples w (counter_keys d k) t)
        ∙ ap (λ (b : Bool). cond (b && fits_places w (counter_keys d k) t) (count_after w r c.args k t (op_of d c.op).updates (r.count k t)) (pos 0)) (sym p.1)
    | inr p ↦ count_undeclared d w c r k t p.0 ∙ ap (λ (b : Bool). cond (b && fits_places w (counter_keys d k) t) (count_after w r c.args k t (op_of d c.op).updates (r.count k t)) (pos 0)) (sym p.1)
  ]
