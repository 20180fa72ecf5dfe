-- Replicas before the first step, one more at a time.
use Rattle.std.specs.Prelude.{List, [], ◌∷◌, ◌++◌, map}
use Rattle.std.proofs.Common.{◌≡◌, ℕ, zero, suc, ◌+◌, inl, inr, refl, sym, ◌∙◌, ap, subst, arith}
use Rattle.spec_core.specs.declared.world.World.{World}
use Rattle.spec_core.specs.Specification.{Specification}
use Rattle.executions.proofs.Growth.{front_or_last}
use Rattle.token_protocol.specs.Node.{Node, first_node}
use Rattle.token_protocol.specs.Network.{Replica as ReplicaOf, first_replicas, first_network}
use Rattle.token_protocol.specs.declared.granted.Granted.{Granted}
use Rattle.token_protocol.specs.Kept.{IsKept}
use Rattle.token_protocol.proofs.Executing.{first_kept}
use Rattle.token_core.specs.declared.log.Log.{Log}
use Rattle.token_core.specs.Log.{lists_of, no_lists}
use Rattle.token_protocol.proofs.Places.{absent, map_more}
use Rattle.token_core.specs.declared.replica.Replica.{Replica}
use Rattle.token_core.specs.Held.{node_of}
use Rattle.token_core.specs.HeldNet.{replica_of}
use Rattle.token_core.specs.Held.{FitsIn}
use Rattle.token_core.specs.Fields.{held_replica, replica_at, network_with, network_in, IsNet, IsFirst}

module _ (d : Specification) (w : World) where
  abbrev first : ℕ → ReplicaOf
  first r = record { node = first_node d w r; taken = [] }

  first_last : (from n : ℕ) → first_replicas d w from (n + 1) ≡ first_replicas d w from n ++ first (from + n) ∷ []
  first_last from zero = ap (λ r. first r ∷ []) (let e : from ≡ from + 0 = omega arith in e)
  first_last from (suc n) =
      ap (first_replicas d w from) (let e : suc n + 1 ≡ suc (n + 1) = omega arith in e)
      ∙ ap (λ l. first from ∷ l) (first_last (suc from) n ∙ ap (λ r. first_replicas d w (suc from) n ++ first r ∷ []) (let e : suc from + n ≡ from + suc n = omega arith in e))

  pub new_first : (n : ℕ) (at : Replica) → node_of at.node ≡ first_node d w n → at.taken.items ≡ [] → replica_at at ≡ first n
  new_first n at node none =
      ap (λ (m : Node). let r : ReplicaOf = record { node = m; taken = at.taken.items } in r) node
      ∙ ap (λ (t : List ℕ). let r : ReplicaOf = record { node = first_node d w n; taken = t } in r) none

  pub none_first : (replicas : List Replica) → replicas ≡ [] → IsFirst d w 0 replicas
  none_first replicas e = subst (IsFirst d w 0) (sym e) (record { first = refl; fit = λ r at h. absurd (absent at h) })

  pub more_first : (n : ℕ) (replicas : List Replica) (at : Replica) → IsFirst d w n replicas → replica_at at ≡ first n → FitsIn d w at.node.state at.spare → IsFirst d w (n + 1) (replicas ++ at ∷ [])
  more_first n replicas at is new fits = record {
    first =
        ap (map replica_of) (map_more held_replica replicas at)
        ∙ map_more replica_of (map held_replica replicas) (held_replica at)
        ∙ ap (λ l. l ++ replica_at at ∷ []) is.first
        ∙ ap (λ r. first_replicas d w 0 n ++ r ∷ []) (new ∙ ap first (let e : n ≡ 0 + n = omega arith in e))
        ∙ sym (first_last 0 n);
    fit = λ r other here. elim (front_or_last replicas at r other here) [
      | inl old ↦ is.fit r other old
      | inr last ↦ subst (λ (x : Replica). FitsIn d w x.node.state x.spare) last.1 fits
    ];
  }

-- ---- the fields of the first network
module _ (d : Specification) (w : World) (n : ℕ) (replicas : List Replica) (granted : List Granted) (log : Log) (is : IsFirst d w n replicas) (none : granted ≡ []) (nothing : lists_of log ≡ no_lists) where
  pub network_first : network_in replicas granted log ≡ first_network d w n
  network_first =
      ap (λ l. network_with l granted (lists_of log)) is.first
      ∙ ap (λ l. network_with (first_replicas d w 0 n) l (lists_of log)) none
      ∙ ap (λ l. network_with (first_replicas d w 0 n) [] l) nothing

  pub net_first : IsNet d w replicas granted log
  net_first = record { kept = subst (IsKept d w) (sym network_first) (first_kept d w n); fit = is.fit }
