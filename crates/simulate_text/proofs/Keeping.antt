-- Each part of a step keeps the network, and breaks no invariant of a safe specification.
use Rattle.std.proofs.Common.{◌≡◌, ℕ, zero, suc, ℤ, Bool, true, false, cond, Result, Ok, Err, List, [], ◌∷◌, length, get_or, nat_lt, Option, None, Some, refl, sym, ap, ◌∙◌, subst, arith}
use Rattle.std.specs.Prelude.{slice_get}
use Rattle.std.specs.Option.{is_none}
use Rattle.spec_core.specs.declared.world.World.{World}
use Rattle.spec_core.specs.declared.world.Call.{Call}
use Rattle.spec_core.specs.Specification.{Specification}
use Rattle.spec_core.specs.State.{Reads, reads}
use Rattle.spec_core.specs.Meaning.{inv, initial, broken_at}
use Rattle.spec_core.specs.Fits.{is_world}
use Rattle.obligation_list.specs.Breaking.{Safe}
use Rattle.obligation_list.proofs.Refuted.{none_broken}
use Rattle.executions.specs.Executions.{Agree}
use Rattle.executions.specs.Convergence.{system_of}
use Rattle.executions.proofs.Growth.{no_events, empty_execution}
use Rattle.executions.proofs.Safety.{converges}
use Rattle.replica_replay.specs.declared.step.Step.{Step}
use Rattle.replica_replay.specs.declared.step.Step.TheVariants as recorded
use Rattle.replica_replay.specs.Steps.{operation_named}
use Rattle.token_protocol.specs.declared.node.WhyVoid.{WhyVoid}
use Rattle.token_protocol.specs.declared.network.NetStep.TheVariants as step
use Rattle.token_protocol.specs.declared.network.NetDid.{NetDid}
use Rattle.token_protocol.specs.declared.network.NetDid.TheVariants as did
use Rattle.token_protocol.specs.Network.{Network, Replica, events_of, outcome, number_of}
use Rattle.token_protocol.specs.Kept.{IsKept}
use Rattle.token_protocol.proofs.Places.{absent, one_found}
use Rattle.token_protocol.proofs.Stepping.{step_kept}
use Rattle.simulate_text.specs.declared.said.Said.{Said}
use Rattle.simulate_text.specs.declared.said.Said.TheVariants as said
use Rattle.simulate_text.specs.declared.said.SimulateRefused.{SimulateRefused}
use Rattle.simulate_text.specs.declared.said.SimulateRefused.TheVariants as refusal
use Rattle.simulate_text.specs.declared.said.Stop.{Stop}
use Rattle.simulate_text.specs.declared.said.Stop.TheVariants as stop
use Rattle.simulate_text.specs.Course.{Simulated, Part, GrantHeard, goes_on, stops, saying, stepped, told, broken_of, unless_broken, asked_at, with_done, ran, heard_by, void, waits_on, granted, hears_grant, asked_once, asked_twice, asks, begun, calls, is_waiting, tries_again, taken, takes, at_replica, part_of}
use Rattle.simulate_text.specs.Text.{status_of}

none_found : (o : Option ℕ) → is_none o ≡ true → o ≡ None
none_found None e = refl
none_found (Some x) e = absurd (cc e)

no_refusal_breaks : (why : SimulateRefused) → status_of (stop.Refused why) ≡ 1 → ⊥
no_refusal_breaks why e = omega (arith, e)

module _ (d : Specification) (w : World) where
  -- ---- the states of a safe specification

  pub start_unbroken : Safe d → is_world d w ≡ true → broken_at d w (reads (initial d w)) ≡ None
  start_unbroken safe world =
      let agree : Agree (system_of d w) [] [] [] = converges d safe w world [] (empty_execution (system_of d w)) [] [] (no_events []) (no_events []) (λ x i. i) (λ x i. i) in
      none_found _ (none_broken d w (reads (initial d w)) ∙ agree.inv)

  replica_unbroken : (net : Network) (r : ℕ) (o : Option Replica) → IsKept d w net → slice_get net.replicas r ≡ o → Safe d → is_world d w ≡ true → broken_of d w o ≡ None
  replica_unbroken net r None kept q safe world = refl
  replica_unbroken net r (Some at) kept q safe world =
      let agree : Agree (system_of d w) (events_of net) at.taken at.taken
      = converges d safe w world (events_of net) kept.run at.taken at.taken (kept.orders r at q) (kept.orders r at q) (λ x i. i) (λ x i. i) in
      let holds : inv d w at.node.state ≡ true = subst (λ (x : Reads). inv d w x ≡ true) (sym (kept.states r at q)) agree.inv in
      none_found _ (none_broken d w at.node.state ∙ holds)

  -- ---- parts of a step

  -- The network is kept, and where the specification is safe, no invariant is broken.
  pub record IsGood (part : Part) : Type 0 where
    pub kept : IsKept d w part.after.net
    pub unbroken : Safe d → is_world d w ≡ true → (how : Stop) → part.stop ≡ Some how → status_of how ≡ 1 → ⊥

  good_on : (what : List Said) (sim : Simulated) → IsKept d w sim.net → IsGood (goes_on what sim)
  good_on what sim kept = record { kept = kept; unbroken = λ safe world how e h. absurd (absent how e) }

  good_refused : (why : SimulateRefused) (sim : Simulated) → IsKept d w sim.net → IsGood (stops (stop.Refused why) sim)
  good_refused why sim kept =
      record { kept = kept; unbroken = λ safe world how e h. no_refusal_breaks why (ap status_of (one_found (stop.Refused why) how e) ∙ h) }

  good_saying : (what : Said) (part : Part) → IsGood part → IsGood (saying what part)
  good_saying what part good = record { kept = good.kept; unbroken = good.unbroken }

  good_asked : (r : ℕ) (sim : Simulated) (next : Part) → IsKept d w sim.net → IsGood next → IsGood (asked_at d w r sim next)
  good_asked r sim next kept good = by (broken_of d w (slice_get sim.net.replicas r)) (replica_unbroken sim.net r (slice_get sim.net.replicas r) kept refl)
    where
      by : (o : Option ℕ) → (Safe d → is_world d w ≡ true → o ≡ None) → IsGood (unless_broken o sim next)
      by None none = good
      by (Some place) none = record { kept = kept; unbroken = λ safe world how e h. absent place (sym (none safe world)) }

  good_ran : (r e m : ℕ) (sim : Simulated) → IsKept d w sim.net → IsGood (ran d w r e m sim)
  good_ran r e m sim kept = good_saying (said.Call e) _ (good_asked r (with_done sim m) (goes_on [] (with_done sim m)) kept (good_on [] (with_done sim m) kept))

  heard_kept : (m n : ℕ) (net : Network) → IsKept d w net → IsKept d w (heard_by d w m n net)
  heard_kept m zero net kept = kept
  heard_kept m (suc n) net kept = step_kept d w (heard_by d w m n net) (heard_kept m n net kept) (step.Hear n m)

  good_void : (cause : WhyVoid) (m : ℕ) (sim : Simulated) → IsKept d w sim.net → IsGood (void d w cause m sim)
  good_void cause m sim kept = good_on _ _ (heard_kept m (length sim.net.replicas) sim.net kept)

  good_granted : (heard : GrantHeard) (it : Result NetDid SimulateRefused) (sim : Simulated) → IsKept d w sim.net → IsGood (granted d w heard it sim)
  good_granted heard (Err why) sim kept = good_refused why sim kept
  good_granted heard (Ok (did.Ran e)) sim kept = good_ran heard.replica e heard.sent sim kept
  good_granted heard (Ok (did.Void cause m)) sim kept = good_void cause m sim kept
  good_granted heard (Ok (did.Asked q)) sim kept = good_on [] sim kept
  good_granted heard (Ok (did.Granted m)) sim kept = good_on [] sim kept
  good_granted heard (Ok (did.Took e)) sim kept = good_on [] sim kept
  good_granted heard (Ok (did.Awaits id)) sim kept = good_on (waits_on heard.tells id) sim kept
  good_granted heard (Ok did.Noted) sim kept = good_on [] sim kept
  good_granted heard (Ok did.Old) sim kept = good_on [] sim kept

  good_hears : (r m : ℕ) (tells : Bool) (sim : Simulated) → IsKept d w sim.net → IsGood (hears_grant d w r m tells sim)
  good_hears r m tells sim kept =
      let o = outcome d w sim.net (step.Hear r m) in
      good_granted (record { replica = r; sent = length sim.net.messages; tells = tells }) (told o) (stepped sim o) (step_kept d w sim.net kept (step.Hear r m))

  good_asks : (r q : ℕ) (sim : Simulated) → IsKept d w sim.net → IsGood (asks d w r q sim)
  good_asks r q sim kept =
      let once = step_kept d w sim.net kept (step.Ask q) in
      good_hears r (length sim.net.messages) true (asked_twice d w r q sim) (step_kept d w (asked_once d w q sim.net) once (step.Ask q))

  good_begun : (r sent : ℕ) (it : Result NetDid SimulateRefused) (sim : Simulated) → IsKept d w sim.net → IsGood (begun d w r sent it sim)
  good_begun r sent (Err why) sim kept = good_refused why sim kept
  good_begun r sent (Ok (did.Ran e)) sim kept = good_ran r e sent sim kept
  good_begun r sent (Ok (did.Void cause m)) sim kept = good_void cause m sim kept
  good_begun r sent (Ok (did.Asked q)) sim kept = good_asks r q sim kept
  good_begun r sent (Ok (did.Granted m)) sim kept = good_on [] sim kept
  good_begun r sent (Ok (did.Took e)) sim kept = good_on [] sim kept
  good_begun r sent (Ok (did.Awaits id)) sim kept = good_on [] sim kept
  good_begun r sent (Ok did.Noted) sim kept = good_on [] sim kept
  good_begun r sent (Ok did.Old) sim kept = good_on [] sim kept

  good_calls : (r : ℕ) (args : List ℤ) (op : Option ℕ) (sim : Simulated) → IsKept d w sim.net → IsGood (calls d w r args op sim)
  good_calls r args None sim kept = good_refused refusal.Operation sim kept
  good_calls r args (Some op) sim kept =
      let call : Call = record { op = op; args = args } in
      let o = outcome d w sim.net (step.Begin r call) in
      good_begun r (length sim.net.messages) (told o) (stepped sim o) (step_kept d w sim.net kept (step.Begin r call))

  good_tries : (r : ℕ) (sim : Simulated) → IsKept d w sim.net → IsGood (tries_again d w r sim)
  good_tries r sim kept = by (is_waiting (slice_get sim.net.replicas r))
    where
      by : (b : Bool) → IsGood (cond b (hears_grant d w r (get_or sim.grants r 0) false sim) (goes_on [] sim))
      by true = good_hears r (get_or sim.grants r 0) false sim kept
      by false = good_on [] sim kept

  good_taken : (r e : ℕ) (it : Result NetDid SimulateRefused) (sim : Simulated) → IsKept d w sim.net → IsGood (taken d w r e it sim)
  good_taken r e (Err why) sim kept = good_refused why sim kept
  good_taken r e (Ok (did.Ran n)) sim kept = good_on [] sim kept
  good_taken r e (Ok (did.Void cause m)) sim kept = good_on [] sim kept
  good_taken r e (Ok (did.Asked q)) sim kept = good_on [] sim kept
  good_taken r e (Ok (did.Granted m)) sim kept = good_on [] sim kept
  good_taken r e (Ok (did.Took n)) sim kept = good_saying (said.Take e) _ (good_asked r sim (tries_again d w r sim) kept (good_tries r sim kept))
  good_taken r e (Ok (did.Awaits id)) sim kept = good_on (said.Early (number_of sim.net.happened id) ∷ []) sim kept
  good_taken r e (Ok did.Noted) sim kept = good_on [] sim kept
  good_taken r e (Ok did.Old) sim kept = good_on (said.Old e ∷ []) sim kept

  good_takes : (r e : ℕ) (m : Option ℕ) (sim : Simulated) → IsKept d w sim.net → IsGood (takes d w r e m sim)
  good_takes r e None sim kept = good_refused refusal.NoEvent sim kept
  good_takes r e (Some m) sim kept =
      let o = outcome d w sim.net (step.Hear r m) in
      good_taken r e (told o) (stepped sim o) (step_kept d w sim.net kept (step.Hear r m))

  good_at : (r : ℕ) (sim : Simulated) (part : Part) → IsKept d w sim.net → IsGood part → IsGood (at_replica r sim part)
  good_at r sim part kept good = by (nat_lt r (length sim.net.replicas))
    where
      by : (b : Bool) → IsGood (cond b part (stops (stop.Refused refusal.Replica) sim))
      by true = good
      by false = good_refused refusal.Replica sim kept

  pub good_part : (s : Step) (sim : Simulated) → IsKept d w sim.net → IsGood (part_of d w s sim)
  good_part (recorded.Call r name args) sim kept = good_at r sim _ kept (good_calls r args (operation_named d name) sim kept)
  good_part (recorded.Take r e) sim kept = good_at r sim _ kept (good_takes r e (slice_get sim.dones e) sim kept)
