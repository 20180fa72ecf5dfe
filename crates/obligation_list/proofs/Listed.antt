-- The members of the list of obligations are the obligations.
use Rattle.std.proofs.Common.{◌<◌, ◌≤◌, inl, inr, List, ◌++◌, map, length, nat_le, subst, arith}
use Rattle.std.proofs.lemmas.Bool.{le-leb, leb-true}
use Rattle.std.specs.List.{filter, flat_map, Contains}
use Rattle.std.proofs.lemmas.List.Elements.{Contains-append_left, Contains-append_right, Contains-append_cases}
use Rattle.spec_core.specs.declared.update.Thing.{Thing}
use Rattle.spec_core.specs.declared.update.Thing.TheVariants as thing
use Rattle.spec_core.specs.World.{below}
use Rattle.spec_core.specs.Specification.{Specification, op_of}
use Rattle.obligation_list.specs.declared.obligation.Obligation.{Obligation}
use Rattle.obligation_list.specs.declared.obligation.Obligation.TheVariants.{Init, Safety, Commute, Stable}
use Rattle.obligation_list.specs.Obligations.{either_writes, things, init_obligations, safety_of, commute_of, commute_from, stable_of, stable_from, obligations_of, IsThing, IsObligation}
use Rattle.obligation_list.proofs.Members.{Contains-map, Contains-map_cases, Contains-filter, Contains-filter_cases, Contains-flat_map, Contains-flat_map_cases, Contains-below, Contains-below_cases}

-- a member of one of four lists is one of all of them
module _ {X : Type 0} (a b c e : List X) (x : X) where
  in_first : Contains a x → Contains (a ++ b ++ c ++ e) x
  in_first m = Contains-append_left (a ++ b ++ c) e x (Contains-append_left (a ++ b) c x (Contains-append_left a b x m))

  in_second : Contains b x → Contains (a ++ b ++ c ++ e) x
  in_second m = Contains-append_left (a ++ b ++ c) e x (Contains-append_left (a ++ b) c x (Contains-append_right a b x m))

  in_third : Contains c x → Contains (a ++ b ++ c ++ e) x
  in_third m = Contains-append_left (a ++ b ++ c) e x (Contains-append_right (a ++ b) c x m)

  in_fourth : Contains e x → Contains (a ++ b ++ c ++ e) x
  in_fourth m = Contains-append_right (a ++ b ++ c) e x m

module _ (d : Specification) where
  thing_listed : (x : Thing) → IsThing d x → Contains (things d) x
  thing_listed (thing.Relation k) lt = Contains-append_left (map (λ k. thing.Relation k) (below (length d.relations))) (map (λ k. thing.Counter k) (below (length d.counters))) (thing.Relation k) (Contains-map (λ k. thing.Relation k) (below (length d.relations)) k (Contains-below (length d.relations) k lt))
  thing_listed (thing.Counter k) lt = Contains-append_right (map (λ k. thing.Relation k) (below (length d.relations))) (map (λ k. thing.Counter k) (below (length d.counters))) (thing.Counter k) (Contains-map (λ k. thing.Counter k) (below (length d.counters)) k (Contains-below (length d.counters) k lt))

  listed_thing : (x : Thing) → Contains (things d) x → IsThing d x
  listed_thing x m = elim (Contains-append_cases (map (λ k. thing.Relation k) (below (length d.relations))) (map (λ k. thing.Counter k) (below (length d.counters))) x m) [
    | inl l ↦ (let p = Contains-map_cases (λ k. thing.Relation k) (below (length d.relations)) x l in subst (IsThing d) p.2 (Contains-below_cases (length d.relations) p.0 p.1))
    | inr r ↦ (let p = Contains-map_cases (λ k. thing.Counter k) (below (length d.counters)) x r in subst (IsThing d) p.2 (Contains-below_cases (length d.counters) p.0 p.1))
  ]

  init_listed : (ob : Obligation) → Contains (init_obligations d) ob → IsObligation d ob
  init_listed ob m = let p = Contains-map_cases (λ i. Init i) (below (length d.invariants)) ob m in subst (IsObligation d) p.2 (Contains-below_cases (length d.invariants) p.0 p.1)

  safety_listed : (ob : Obligation) → Contains (flat_map (safety_of d) (below (length d.operations))) ob → IsObligation d ob
  safety_listed ob m =
      let o = Contains-flat_map_cases (safety_of d) (below (length d.operations)) ob m in
      let p = Contains-map_cases (λ i. Safety o.0 i) (below (length d.invariants)) ob o.2 in
      subst (IsObligation d) p.2 (Contains-below_cases (length d.operations) o.0 o.1, Contains-below_cases (length d.invariants) p.0 p.1)

  commute_listed : (ob : Obligation) → Contains (flat_map (commute_from d) (below (length d.operations))) ob → IsObligation d ob
  commute_listed ob m =
      let o = Contains-flat_map_cases (commute_from d) (below (length d.operations)) ob m in
      let p = Contains-flat_map_cases (commute_of d o.0) (filter (nat_le o.0) (below (length d.operations))) ob o.2 in
      let q = Contains-filter_cases (nat_le o.0) (below (length d.operations)) p.0 p.1 in
      let x = Contains-map_cases (λ x. Commute o.0 p.0 x) (filter (either_writes d o.0 p.0) (things d)) ob p.2 in
      let y = Contains-filter_cases (either_writes d o.0 p.0) (things d) x.0 x.1 in
      subst (IsObligation d) x.2 (leb-true o.0 p.0 q.1, Contains-below_cases (length d.operations) p.0 q.0, listed_thing x.0 y.0, y.1)

  stable_listed : (ob : Obligation) → Contains (flat_map (stable_from d) (below (length d.operations))) ob → IsObligation d ob
  stable_listed ob m =
      let o = Contains-flat_map_cases (stable_from d) (below (length d.operations)) ob m in
      let l = Contains-flat_map_cases (stable_of d o.0) (below (length (op_of d o.0).requires_)) ob o.2 in
      let p = Contains-map_cases (λ p. Stable o.0 l.0 p) (below (length d.operations)) ob l.2 in
      subst (IsObligation d) p.2 (Contains-below_cases (length d.operations) o.0 o.1, Contains-below_cases (length (op_of d o.0).requires_) l.0 l.1, Contains-below_cases (length d.operations) p.0 p.1)

  pub listed_is_obligation : (ob : Obligation) → Contains (obligations_of d) ob → IsObligation d ob
  listed_is_obligation ob m =
      let i = init_obligations d in let s = flat_map (safety_of d) (below (length d.operations)) in let c = flat_map (commute_from d) (below (length d.operations)) in let t = flat_map (stable_from d) (below (length d.operations)) in
      elim (Contains-append_cases (i ++ s ++ c) t ob m) [
        | inl a ↦ elim (Contains-append_cases (i ++ s) c ob a) [
          | inl b ↦ elim (Contains-append_cases i s ob b) [ inl e ↦ init_listed ob e | inr e ↦ safety_listed ob e ]
          | inr e ↦ commute_listed ob e
        ]
        | inr e ↦ stable_listed ob e
      ]

  pub obligation_is_listed : (ob : Obligation) → IsObligation d ob → Contains (obligations_of d) ob
  obligation_is_listed (Init i) h =
      in_first (init_obligations d) (flat_map (safety_of d) (below (length d.operations))) (flat_map (commute_from d) (below (length d.operations))) (flat_map (stable_from d) (below (length d.operations))) (Init i)
      (Contains-map (λ i. Init i) (below (length d.invariants)) i (Contains-below (length d.invariants) i h))
  obligation_is_listed (Safety o i) h =
      in_second (init_obligations d) (flat_map (safety_of d) (below (length d.operations))) (flat_map (commute_from d) (below (length d.operations))) (flat_map (stable_from d) (below (length d.operations))) (Safety o i)
      (Contains-flat_map (safety_of d) (below (length d.operations)) o (Safety o i) (Contains-below (length d.operations) o h.0)
      (Contains-map (λ i. Safety o i) (below (length d.invariants)) i (Contains-below (length d.invariants) i h.1)))
  obligation_is_listed (Commute o p x) h =
      let le : o ≤ p = h.0 in let lt : p < length d.operations = h.1 in
      in_third (init_obligations d) (flat_map (safety_of d) (below (length d.operations))) (flat_map (commute_from d) (below (length d.operations))) (flat_map (stable_from d) (below (length d.operations))) (Commute o p x)
      (Contains-flat_map (commute_from d) (below (length d.operations)) o (Commute o p x) (Contains-below (length d.operations) o (omega arith))
      (Contains-flat_map (commute_of d o) (filter (nat_le o) (below (length d.operations))) p (Commute o p x)
      (Contains-filter (nat_le o) (below (length d.operations)) p (Contains-below (length d.operations) p lt) (le-leb o p le))
      (Contains-map (λ x. Commute o p x) (filter (either_writes d o p) (things d)) x (Contains-filter (either_writes d o p) (things d) x (thing_listed x h.2) h.3))))
  obligation_is_listed (Stable o l p) h =
      in_fourth (init_obligations d) (flat_map (safety_of d) (below (length d.operations))) (flat_map (commute_from d) (below (length d.operations))) (flat_map (stable_from d) (below (length d.operations))) (Stable o l p)
      (Contains-flat_map (stable_from d) (below (length d.operations)) o (Stable o l p) (Contains-below (length d.operations) o h.0)
      (Contains-flat_map (stable_of d o) (below (length (op_of d o).requires_)) l (Stable o l p) (Contains-below (length (op_of d o).requires_) l h.1)
      (Contains-map (λ p. Stable o l p) (below (length d.operations)) p (Contains-below (length d.operations) p h.2))))
