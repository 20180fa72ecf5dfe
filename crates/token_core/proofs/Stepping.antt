-- A step of the fields of a network is a step of the network, and keeps what the fields keep.
use Rattle.std.specs.Prelude.{List, [], ◌∷◌, None, Some, Result, Ok, Err, OnOk, OnErr, map, set, slice_get}
use Rattle.std.proofs.Common.{◌≡◌, ℕ, zero, suc, ◌⊎◌, inl, inr, refl, sym, ◌∙◌, ap, subst}
use Rattle.spec_core.specs.declared.world.World.{World}
use Rattle.spec_core.specs.Specification.{Specification}
use Rattle.token_protocol.specs.declared.granted.Granted.{Granted}
use Rattle.token_protocol.specs.declared.network.NetStep.{NetStep}
use Rattle.token_protocol.specs.declared.network.NetDid.{NetDid}
use Rattle.token_protocol.specs.declared.network.NetRefused.{NetRefused}
use Rattle.token_protocol.specs.declared.network.NetRefused.TheVariants as unable
use Rattle.token_protocol.specs.Network.{Network, Outcome, rejected, outcome, network_after, answer}
use Rattle.token_protocol.specs.Kept.{IsKept}
use Rattle.token_protocol.proofs.Places.{absent, get_set, get_map}
use Rattle.token_protocol.proofs.Stepping.{step_kept}
use Rattle.token_core.specs.declared.log.Log.{Log}
use Rattle.token_core.specs.declared.replica.Replica.{Replica}
use Rattle.token_core.specs.HeldNet.{HeldReplica, replica_of, HeldNet, network_held}
use Rattle.token_core.specs.Log.{Lists, lists_of}
use Rattle.token_core.specs.Held.{FitsIn}
use Rattle.token_core.specs.Fields.{held_replica, replica_at, replicas_in, network_with, network_in, held_in, IsNet}
use Rattle.token_core.specs.Stepped.{IsStepped}
use Rattle.token_core.proofs.Leaving.{set_same}

pub map_set : {X Y : Type 0} (f : X → Y) (xs : List X) (i : ℕ) (x : X) → map f (set xs i x) ≡ set (map f xs) i (f x)
map_set f [] i x = refl
map_set f (y ∷ xs) zero x = refl
map_set f (y ∷ xs) (suc i) x = ap (λ l. f y ∷ l) (map_set f xs i x)

pub get_none : {X Y : Type 0} (f : X → Y) (xs : List X) (i : ℕ) → slice_get xs i ≡ None → slice_get (map f xs) i ≡ None
get_none f [] i h = refl
get_none f (y ∷ xs) zero h = absurd (absent y (sym h))
get_none f (y ∷ xs) (suc i) h = get_none f xs i h

pub replica_there : (replicas : List Replica) (r : ℕ) (at : Replica) → slice_get replicas r ≡ Some at → slice_get (replicas_in replicas) r ≡ Some (replica_at at)
replica_there replicas r at here = get_map replica_of (map held_replica replicas) r (held_replica at) (get_map held_replica replicas r at here)

pub none_there : (replicas : List Replica) (r : ℕ) → slice_get replicas r ≡ None → slice_get (replicas_in replicas) r ≡ None
none_there replicas r h = get_none replica_of (map held_replica replicas) r (get_none held_replica replicas r h)

pub replicas_set : (replicas : List Replica) (r : ℕ) (at : Replica) → replicas_in (set replicas r at) ≡ set (replicas_in replicas) r (replica_at at)
replicas_set replicas r at = ap (map replica_of) (map_set held_replica replicas r at) ∙ map_set replica_of (map held_replica replicas) r (held_replica at)

-- a list in which a replica is replaced by one that is the same to contracts
held_still : (replicas : List Replica) (r : ℕ) (at next : Replica) → slice_get replicas r ≡ Some at → held_replica next ≡ held_replica at → map held_replica (set replicas r next) ≡ map held_replica replicas
held_still replicas r at next here same =
    map_set held_replica replicas r next
    ∙ ap (set (map held_replica replicas) r) same
    ∙ set_same (map held_replica replicas) r (held_replica at) (get_map held_replica replicas r at here)

module _ (d : Specification) (w : World) (count : ℕ) where
  abbrev held_with : List HeldReplica → List Granted → Lists → HeldNet
  held_with replicas granted lists = record { spec = d; world = w; steps = count; replicas = replicas; granted = granted; requests = lists.requests; messages = lists.messages; happened = lists.happened }

  module _ (replicas : List Replica) (granted : List Granted) (log : Log) (is : IsNet d w replicas granted log) where
    abbrev net : Network
    net = network_in replicas granted log

    abbrev old : HeldNet
    old = held_in d w count replicas granted log

    -- ---- a replica, where there is one
    module _ (r : ℕ) (at next : Replica) (after : Log) (s : NetStep) (o : Outcome) (result : Result NetDid NetRefused)
        (here : slice_get replicas r ≡ Some at) (comes : outcome d w net s ≡ o)
        (told : (result ≡ Err unable.Memory) ⊎ (result ≡ answer o))
        (ok : OnOk result (network_with (set (replicas_in replicas) r (replica_at next)) granted (lists_of after) ≡ network_after net o))
        (err : OnErr result ((held_replica next ≡ held_replica at) × (lists_of after ≡ lists_of log)))
        (fits : FitsIn d w next.node.state next.spare) where
      abbrev new : HeldNet
      new = held_in d w count (set replicas r next) granted after

      reached : network_with (set (replicas_in replicas) r (replica_at next)) granted (lists_of after) ≡ network_after net o → network_held new ≡ network_after net (outcome d w net s)
      reached e = ap (λ l. network_with l granted (lists_of after)) (replicas_set replicas r next) ∙ e ∙ ap (network_after net) (sym comes)

      unchanged : (held_replica next ≡ held_replica at) × (lists_of after ≡ lists_of log) → new ≡ old
      unchanged same =
          ap (λ l. held_with l granted (lists_of after)) (held_still replicas r at next here same.0)
          ∙ ap (λ l. held_with (map held_replica replicas) granted l) same.1

      on_ok : (x : Result NetDid NetRefused) → OnOk x (network_with (set (replicas_in replicas) r (replica_at next)) granted (lists_of after) ≡ network_after net o) → OnOk x (network_held new ≡ network_after net (outcome d w net s))
      on_ok (Ok a) e = reached e
      on_ok (Err a) e = e

      on_err : (x : Result NetDid NetRefused) → OnErr x ((held_replica next ≡ held_replica at) × (lists_of after ≡ lists_of log)) → OnErr x (new ≡ old)
      on_err (Ok a) e = e
      on_err (Err a) e = unchanged e

      pub replica_stepped : IsStepped old new s result
      replica_stepped = record {
        answer = elim told [ inl m ↦ inl m | inr a ↦ inr (a ∙ ap answer (sym comes)) ];
        ok = on_ok result ok;
        spec = refl;
        world = refl;
        steps = refl;
        err = on_err result err;
      }

      kept_after : (x : Result NetDid NetRefused) → OnOk x (network_held new ≡ network_after net (outcome d w net s)) → OnErr x (new ≡ old) → IsKept d w (network_held new)
      kept_after (Ok a) e f = subst (IsKept d w) (sym e) (step_kept d w net is.kept s)
      kept_after (Err a) e f = subst (λ (n : HeldNet). IsKept d w (network_held n)) (sym f) is.kept

      pub replica_kept : IsNet d w (set replicas r next) granted after
      replica_kept = record {
        kept = kept_after result (on_ok result ok) (on_err result err);
        fit = λ q x there. elim (get_set replicas r q next x there) [
          | inl p ↦ subst (λ (x : Replica). FitsIn d w x.node.state x.spare) p.1 fits
          | inr old_one ↦ is.fit q x old_one
        ];
      }

    -- ---- the manager
    module _ (granted_after : List Granted) (after : Log) (s : NetStep) (o : Outcome) (result : Result NetDid NetRefused)
        (comes : outcome d w net s ≡ o)
        (told : (result ≡ Err unable.Memory) ⊎ (result ≡ answer o))
        (ok : OnOk result (network_with (replicas_in replicas) granted_after (lists_of after) ≡ network_after net o))
        (err : OnErr result ((granted_after ≡ granted) × (lists_of after ≡ lists_of log))) where
      abbrev new_asked : HeldNet
      new_asked = held_in d w count replicas granted_after after

      asked_ok : (x : Result NetDid NetRefused) → OnOk x (network_with (replicas_in replicas) granted_after (lists_of after) ≡ network_after net o) → OnOk x (network_held new_asked ≡ network_after net (outcome d w net s))
      asked_ok (Ok a) e = e ∙ ap (network_after net) (sym comes)
      asked_ok (Err a) e = e

      asked_err : (x : Result NetDid NetRefused) → OnErr x ((granted_after ≡ granted) × (lists_of after ≡ lists_of log)) → OnErr x (new_asked ≡ old)
      asked_err (Ok a) e = e
      asked_err (Err a) e =
          ap (λ l. held_with (map held_replica replicas) l (lists_of after)) e.0
          ∙ ap (λ l. held_with (map held_replica replicas) granted l) e.1

      pub manager_stepped : IsStepped old new_asked s result
      manager_stepped = record {
        answer = elim told [ inl m ↦ inl m | inr a ↦ inr (a ∙ ap answer (sym comes)) ];
        ok = asked_ok result ok;
        spec = refl;
        world = refl;
        steps = refl;
        err = asked_err result err;
      }

      asked_kept_after : (x : Result NetDid NetRefused) → OnOk x (network_held new_asked ≡ network_after net (outcome d w net s)) → OnErr x (new_asked ≡ old) → IsKept d w (network_held new_asked)
      asked_kept_after (Ok a) e f = subst (IsKept d w) (sym e) (step_kept d w net is.kept s)
      asked_kept_after (Err a) e f = subst (λ (n : HeldNet). IsKept d w (network_held n)) (sym f) is.kept

      pub manager_kept : IsNet d w replicas granted_after after
      manager_kept = record { kept = asked_kept_after result (asked_ok result ok) (asked_err result err); fit = is.fit }

    -- ---- no such replica
    pub none_stepped : (s : NetStep) → outcome d w net s ≡ rejected unable.Replica → IsStepped old old s (let x : Result NetDid NetRefused = Err unable.Replica in x)
    none_stepped s comes = record { answer = inr (ap answer (sym comes)); ok = tt; spec = refl; world = refl; steps = refl; err = refl }
