-- The network after every list of steps is kept, and so its events form an execution.
use Rattle.std.specs.Prelude.{Contains, slice_get, None, Some, fold}
use Rattle.std.proofs.Common.{◌≡◌, ℕ, zero, suc, ◌+◌, ◌<◌, true, List, [], ◌∷◌, refl, sym, ◌∙◌, ap, subst, arith}
use Rattle.spec_core.specs.declared.world.World.{World}
use Rattle.spec_core.specs.Specification.{Specification}
use Rattle.spec_core.specs.State.{Reads}
use Rattle.spec_core.specs.Meaning.{inv}
use Rattle.token_rules.specs.Conflict.{conflicts}
use Rattle.executions.specs.Orders.{IsOrder}
use Rattle.executions.proofs.Growth.{no_events, empty_execution}
use Rattle.executions.specs.Convergence.{system_of, Converges}
use Rattle.executions.specs.Executions.{state_after}
use Rattle.token_protocol.specs.declared.network.NetStep.{NetStep}
use Rattle.token_protocol.specs.declared.granted.Granted.{Granted}
use Rattle.token_protocol.specs.Node.{first_node}
use Rattle.token_protocol.specs.Network.{Network, Replica, first_replicas, first_network, events_of, outcome, network_after, network_of}
use Rattle.token_protocol.specs.Executed.{IsExecuted, IsGranted, NetworksConverge}
use Rattle.token_protocol.specs.Kept.{IsReplica, AreIds, IsKept}
use Rattle.token_protocol.proofs.Places.{absent, one_found, in_none}
use Rattle.token_protocol.proofs.Conflicting.{names}
use Rattle.token_protocol.proofs.Stepping.{step_kept}

module _ (d : Specification) (w : World) where
  abbrev first_replica : ℕ → Replica
  first_replica r = record { node = first_node d w r; taken = [] }

  -- ---- before the first step
  one_of_first : (from n r : ℕ) (at : Replica) → slice_get (first_replicas d w from n) r ≡ Some at → first_replica (from + r) ≡ at
  one_of_first from zero r at h = absurd (absent at h)
  one_of_first from (suc n) zero at h = ap first_replica (let e : from + 0 ≡ from = omega arith in e) ∙ one_found (first_replica from) at h
  one_of_first from (suc n) (suc r) at h = ap first_replica (let e : from + suc r ≡ suc from + r = omega arith in e) ∙ one_of_first (suc from) n r at h

  module _ (n : ℕ) where
    first_is : (r : ℕ) (at : Replica) → IsReplica (first_network d w n) r at → first_replica r ≡ at
    first_is r at h = ap first_replica (let e : r ≡ 0 + r = omega arith in e) ∙ one_of_first 0 n r at h

    for_first : (P : ℕ → Replica → Type 0) → ((r : ℕ) → P r (first_replica r)) → (r : ℕ) (at : Replica) → IsReplica (first_network d w n) r at → P r at
    for_first P p r at h = subst (P r) (first_is r at h) (p r)

    pub first_kept : IsKept d w (first_network d w n)
    first_kept = record {
      numbered = for_first (λ r at. at.node.replica ≡ r) (λ r. refl);
      waiting = λ r at q h e. absurd (absent q (ap (λ (a : Replica). a.node.waiting) (first_is r at h) ∙ e));
      voids = λ r at id h c. absurd (in_none id (subst (λ (a : Replica). Contains a.node.void id) (sym (first_is r at h)) c));
      ids = for_first (λ r at. AreIds [] at.taken at.node.taken) (λ r. tt);
      orders = for_first (λ r at. IsOrder [] at.taken) (λ r. no_events []);
      states = for_first (λ r at. at.node.state ≡ state_after (system_of d w) [] at.taken) (λ r. refl);
      past_requests = λ q c. absurd (in_none q c);
      requests_fit = λ q c. absurd (in_none q c);
      one_call = λ p q c e same. absurd (in_none p c);
      grants = λ i g h. absurd (absent g h);
      one_grant = λ i j g h x y same. absurd (absent g x);
      messages = λ m c. absurd (in_none m c);
      past_events = λ k h x. absurd (absent h x);
      one_event = λ i j g h x y same. absurd (absent g x);
      not_void = λ k h x. absurd (absent h x);
      by_grant = λ k h x. absurd (absent h x);
      calls_fit = λ k h x. absurd (absent h x);
      run = empty_execution (system_of d w);
    }

  -- ---- after each list of steps
  steps_kept : (steps : List NetStep) (net : Network) → IsKept d w net → IsKept d w (fold (λ net s. network_after net (outcome d w net s)) net steps)
  steps_kept [] net kept = kept
  steps_kept (s ∷ steps) net kept = steps_kept steps (network_after net (outcome d w net s)) (step_kept d w net kept s)

  pub network_kept : (n : ℕ) (steps : List NetStep) → IsKept d w (network_of d w n steps)
  network_kept n steps = steps_kept steps (first_network d w n) (first_kept n)

  -- ---- in the words of the definitions
  pub kept_executed : (net : Network) → IsKept d w net → IsExecuted d w net
  kept_executed net kept = record { run = kept.run; orders = kept.orders; states = kept.states }

  pub kept_granted : (net : Network) → IsKept d w net → IsGranted d w net
  kept_granted net kept = record {
    later_names_earlier = λ i j g h lt at_i at_j c.
        subst (λ ids. Contains ids g.id) (sym (kept.grants j h at_j).named) (names d w net.granted j i g h.call lt at_i c);
    run_by_grant = kept.by_grant;
    void_never_runs = kept.not_void;
    runs_once = kept.one_event;
  }

-- a specification that converges leads replicas that have taken the same events to one state
pub networks_converge : (d : Specification) → Converges d → NetworksConverge d
networks_converge d converges w is n steps r s one other at_r at_s there back =
    let net = network_of d w n steps in
    let kept = network_kept d w n steps in
    let agree = converges w is (events_of net) kept.run one.taken other.taken (kept.orders r one at_r) (kept.orders s other at_s) there back in
    record {
      same = kept.states r one at_r ∙ agree.same ∙ sym (kept.states s other at_s);
      inv = subst (λ (x : Reads). inv d w x ≡ true) (sym (kept.states r one at_r)) agree.inv;
    }
