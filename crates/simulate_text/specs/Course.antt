-- The course of a simulation: what its steps do to the network, what is said of them, and where it stops.
--
-- A call is begun at its replica. If it waits, the manager gets its request twice, and the replica hears the first grant. A taking is the
-- replica's hearing of the event's Done; where the replica took the event and a call waits there, it hears the grant of that call again.
-- Each Void is heard by all replicas in turn, once.
use Rattle.std.specs.Prelude.{ℕ, zero, suc, Bool, true, false, cond, List, [], ◌∷◌, ◌++◌, length, get_or, set, slice_get, nat_lt, replicate, ℤ, Option, None, Some, Result, Ok, Err}
use Rattle.std.specs.Option.{is_some}
use Rattle.spec_core.specs.declared.world.World.{World}
use Rattle.spec_core.specs.declared.world.Call.{Call}
use Rattle.spec_core.specs.Specification.{Specification}
use Rattle.spec_core.specs.State.{reads}
use Rattle.spec_core.specs.Meaning.{initial, broken_at}
use Rattle.replica_replay.specs.declared.step.Step.{Step}
use Rattle.replica_replay.specs.declared.step.Step.TheVariants as recorded
use Rattle.replica_replay.specs.Steps.{operation_named}
use Rattle.token_protocol.specs.declared.message.EventId.{EventId}
use Rattle.token_protocol.specs.declared.node.WhyVoid.{WhyVoid}
use Rattle.token_protocol.specs.declared.network.NetStep.TheVariants as step
use Rattle.token_protocol.specs.declared.network.NetDid.{NetDid}
use Rattle.token_protocol.specs.declared.network.NetDid.TheVariants as did
use Rattle.token_protocol.specs.declared.network.NetRefused.{NetRefused}
use Rattle.token_protocol.specs.declared.network.NetRefused.TheVariants as unable
use Rattle.token_protocol.specs.Network.{Network, Replica, Outcome, accepted, rejected, outcome, network_after, first_network, number_of}
use Rattle.simulate_text.specs.Lines.{said_lines}
use Rattle.simulate_text.specs.declared.said.Said.{Said}
use Rattle.simulate_text.specs.declared.said.Said.TheVariants as said
use Rattle.simulate_text.specs.declared.said.SimulateRefused.{SimulateRefused}
use Rattle.simulate_text.specs.declared.said.SimulateRefused.TheVariants as refusal
use Rattle.simulate_text.specs.declared.said.Stop.{Stop}
use Rattle.simulate_text.specs.declared.said.Stop.TheVariants as stop

-- A simulation: its network, and the numbers of the messages that it delivers again: for each event that of its Done, and for each
-- replica that of the first grant of the last call that waited there.
pub record Simulated : Type 0 where
  pub net : Network
  pub dones : List ℕ
  pub grants : List ℕ

-- What a step, or a part of one, comes to: what is said, whether the simulation stops there, and what it is then.
pub record Part : Type 0 where
  pub said : List Said
  pub stop : Option Stop
  pub after : Simulated

-- this is said, and the simulation goes on
abbrev pub goes_on : List Said → Simulated → Part
goes_on said after = record { said = said; stop = None; after = after }

-- nothing is said, and it stops
abbrev pub stops : Stop → Simulated → Part
stops how after = record { said = []; stop = Some how; after = after }

-- one thing is said before the others
abbrev pub saying : Said → Part → Part
saying what part = record { said = what ∷ part.said; stop = part.stop; after = part.after }

-- ---- steps of the network

-- the simulation with another network
abbrev pub with_net : Simulated → Network → Simulated
with_net sim net = record { net = net; dones = sim.dones; grants = sim.grants }

-- the simulation after a step of its network
abbrev pub stepped : Simulated → Outcome → Simulated
stepped sim o = with_net sim (network_after sim.net o)

-- Why a step of the network is refused. A message that isn't there is that of an event that isn't there; by its definition a step never wants
-- memory.
abbrev pub refusal_of : NetRefused → SimulateRefused
refusal_of unable.Replica = refusal.Replica
refusal_of unable.NoMessage = refusal.NoEvent
refusal_of unable.Arguments = refusal.Arguments
refusal_of (unable.Waiting id) = refusal.Waiting
refusal_of (unable.Range counter key value) = refusal.Range counter key value
refusal_of unable.Memory = refusal.NoEvent

-- what a step of the network did, or why it is refused
abbrev pub told : Outcome → Result NetDid SimulateRefused
told (accepted what next) = Ok what
told (rejected why) = Err (refusal_of why)

-- ---- invariants

-- the first invariant that the state of a replica breaks
abbrev pub broken_of : Specification → World → Option Replica → Option ℕ
broken_of d w None = None
broken_of d w (Some at) = broken_at d w at.node.state

-- it stops where an invariant is broken
abbrev pub unless_broken : Option ℕ → Simulated → Part → Part
unless_broken None sim next = next
unless_broken (Some place) sim next = stops (stop.Broken place) sim

-- the invariants are asked of the state of a replica, and then it goes on so
abbrev pub asked_at : Specification → World → ℕ → Simulated → Part → Part
asked_at d w r sim next = unless_broken (broken_of d w (slice_get sim.net.replicas r)) sim next

-- ---- a call that was run, or that is void

-- the simulation with one event more, whose Done has this number
abbrev pub with_done : Simulated → ℕ → Simulated
with_done sim m = record { net = sim.net; dones = sim.dones ++ m ∷ []; grants = sim.grants }

-- A call of a replica was run: it is this event, whose Done has this number. The invariants are asked.
abbrev pub ran : Specification → World → ℕ → ℕ → ℕ → Simulated → Part
ran d w r e m sim =
    saying (said.Call e) (asked_at d w r (with_done sim m) (goes_on [] (with_done sim m)))

-- the network when its first n replicas have heard a message, one after the other
abbrev pub heard_by : Specification → World → ℕ → ℕ → Network → Network
heard_by d w m zero net = net
heard_by d w m (suc n) net =
    (let before = heard_by d w m n net in network_after before (outcome d w before (step.Hear n m)))

-- all replicas hear it
abbrev pub heard_by_all : Specification → World → ℕ → Network → Network
heard_by_all d w m net = heard_by d w m (length net.replicas) net

-- A call is void, and the message that says so has this number.
abbrev pub void : Specification → World → WhyVoid → ℕ → Simulated → Part
void d w cause m sim = goes_on (said.Void cause ∷ []) (with_net sim (heard_by_all d w m sim.net))

-- ---- the grant of a call

-- whether it is told that a call waits on
abbrev pub waits_on : Bool → EventId → List Said
waits_on true id = said.Awaits id ∷ []
waits_on false id = []

-- A replica's hearing of the grant of its waiting call: which replica, how many messages had been sent before, and whether it is told
-- that the call waits on.
pub record GrantHeard : Type 0 where
  pub replica : ℕ
  pub sent : ℕ
  pub tells : Bool

-- What a replica answers to the grant of its waiting call: the call is run, is void, or waits on. Nothing is said of other answers.
abbrev pub granted : Specification → World → GrantHeard → Result NetDid SimulateRefused → Simulated
    → Part
granted d w heard (Err why) sim = stops (stop.Refused why) sim
granted d w heard (Ok (did.Ran e)) sim = ran d w heard.replica e heard.sent sim
granted d w heard (Ok (did.Void cause m)) sim = void d w cause m sim
granted d w heard (Ok (did.Asked q)) sim = goes_on [] sim
granted d w heard (Ok (did.Granted m)) sim = goes_on [] sim
granted d w heard (Ok (did.Took e)) sim = goes_on [] sim
granted d w heard (Ok (did.Awaits id)) sim = goes_on (waits_on heard.tells id) sim
granted d w heard (Ok did.Noted) sim = goes_on [] sim
granted d w heard (Ok did.Old) sim = goes_on [] sim

-- a replica hears the grant of its waiting call
abbrev pub hears_grant : Specification → World → ℕ → ℕ → Bool → Simulated → Part
hears_grant d w r m tells sim =
    (let o = outcome d w sim.net (step.Hear r m) in
    granted d w (record { replica = r; sent = length sim.net.messages; tells = tells }) (told o)
    (stepped sim o))

-- the network when the manager has got a request
abbrev pub asked_once : Specification → World → ℕ → Network → Network
asked_once d w q net = network_after net (outcome d w net (step.Ask q))

-- the simulation when the manager has got the request of a replica's call twice
abbrev pub asked_twice : Specification → World → ℕ → ℕ → Simulated → Simulated
asked_twice d w r q sim = record {
  net = asked_once d w q (asked_once d w q sim.net);
  dones = sim.dones;
  grants = set sim.grants r (length sim.net.messages);
}

-- A call waits: the manager gets its request twice, and its replica hears the first grant.
abbrev pub asks : Specification → World → ℕ → ℕ → Simulated → Part
asks d w r q sim = hears_grant d w r (length sim.net.messages) true (asked_twice d w r q sim)

-- ---- a call

-- What a replica answers to a call, before which these messages had been sent.
abbrev pub begun : Specification → World → ℕ → ℕ → Result NetDid SimulateRefused → Simulated → Part
begun d w r sent (Err why) sim = stops (stop.Refused why) sim
begun d w r sent (Ok (did.Ran e)) sim = ran d w r e sent sim
begun d w r sent (Ok (did.Void cause m)) sim = void d w cause m sim
begun d w r sent (Ok (did.Asked q)) sim = asks d w r q sim
begun d w r sent (Ok (did.Granted m)) sim = goes_on [] sim
begun d w r sent (Ok (did.Took e)) sim = goes_on [] sim
begun d w r sent (Ok (did.Awaits id)) sim = goes_on [] sim
begun d w r sent (Ok did.Noted) sim = goes_on [] sim
begun d w r sent (Ok did.Old) sim = goes_on [] sim

-- a replica makes a call
abbrev pub begins : Specification → World → ℕ → Call → Simulated → Part
begins d w r call sim =
    (let o = outcome d w sim.net (step.Begin r call) in
    begun d w r (length sim.net.messages) (told o) (stepped sim o))

-- a recorded call, where its operation is there
abbrev pub calls : Specification → World → ℕ → List ℤ → Option ℕ → Simulated → Part
calls d w r args None sim = stops (stop.Refused refusal.Operation) sim
calls d w r args (Some op) sim =
    begins d w r (let call : Call = record { op = op; args = args } in call) sim

-- ---- a taking

-- there is a replica, and a call of it waits
abbrev pub is_waiting : Option Replica → Bool
is_waiting None = false
is_waiting (Some at) = is_some at.node.waiting

-- Where a call of a replica waits, it hears its grant again. That it waits on isn't told.
abbrev pub tries_again : Specification → World → ℕ → Simulated → Part
tries_again d w r sim =
    cond (is_waiting (slice_get sim.net.replicas r))
    (hears_grant d w r (get_or sim.grants r 0) false sim)
    (goes_on [] sim)

-- A replica took an event: the invariants are asked, and then a call that waits there hears its grant again.
abbrev pub took : Specification → World → ℕ → ℕ → Simulated → Part
took d w r e sim = saying (said.Take e) (asked_at d w r sim (tries_again d w r sim))

-- What a replica answers to the Done of this event.
abbrev pub taken : Specification → World → ℕ → ℕ → Result NetDid SimulateRefused → Simulated → Part
taken d w r e (Err why) sim = stops (stop.Refused why) sim
taken d w r e (Ok (did.Ran n)) sim = goes_on [] sim
taken d w r e (Ok (did.Void cause m)) sim = goes_on [] sim
taken d w r e (Ok (did.Asked q)) sim = goes_on [] sim
taken d w r e (Ok (did.Granted m)) sim = goes_on [] sim
taken d w r e (Ok (did.Took n)) sim = took d w r e sim
taken d w r e (Ok (did.Awaits id)) sim =
    goes_on (said.Early (number_of sim.net.happened id) ∷ []) sim
taken d w r e (Ok did.Noted) sim = goes_on [] sim
taken d w r e (Ok did.Old) sim = goes_on (said.Old e ∷ []) sim

-- a recorded taking, where its event is there
abbrev pub takes : Specification → World → ℕ → ℕ → Option ℕ → Simulated → Part
takes d w r e None sim = stops (stop.Refused refusal.NoEvent) sim
takes d w r e (Some m) sim =
    (let o = outcome d w sim.net (step.Hear r m) in taken d w r e (told o) (stepped sim o))

-- ---- steps

-- a step at a replica is refused where there is no such replica
abbrev pub at_replica : ℕ → Simulated → Part → Part
at_replica r sim part =
    cond (nat_lt r (length sim.net.replicas)) part (stops (stop.Refused refusal.Replica) sim)

-- what a recorded step comes to
abbrev pub part_of : Specification → World → Step → Simulated → Part
part_of d w (recorded.Call r name args) sim =
    at_replica r sim (calls d w r args (operation_named d name) sim)
part_of d w (recorded.Take r e) sim = at_replica r sim (takes d w r e (slice_get sim.dones e) sim)

-- The lines of the steps, the number of the step at which it stops (of all steps, where it is done), how it stops, and what it is then.
pub record Course : Type 0 where
  pub lines : List ℕ
  pub at : ℕ
  pub stop : Stop
  pub after : Simulated

-- the replica of a recorded step
abbrev pub replica_of : Step → ℕ
replica_of (recorded.Call r name args) = r
replica_of (recorded.Take r e) = r

-- the course stops at this step, or has the lines of the step and goes on
abbrev pub unless_stopped : Option Stop → ℕ → List ℕ → Simulated → Course → Course
unless_stopped (Some how) k lines sim next =
    record { lines = lines; at = k; stop = how; after = sim }
unless_stopped None k lines sim next =
    record { lines = lines ++ next.lines; at = next.at; stop = next.stop; after = next.after }

-- the course of some steps, numbered on from here
abbrev pub course_from : Specification → World → ℕ → List Step → Simulated → Course
course_from d w k [] sim = record { lines = []; at = k; stop = stop.Done; after = sim }
course_from d w k (s ∷ ss) sim =
    (let part = part_of d w s sim in
    unless_stopped part.stop k (said_lines d k (replica_of s) part.said) part.after
    (course_from d w (suc k) ss part.after))

-- the simulation before its first step
abbrev pub first_simulated : Specification → World → ℕ → Simulated
first_simulated d w replicas =
    record { net = first_network d w replicas; dones = []; grants = replicate replicas 0 }

-- stops before the first step where the initial state breaks an invariant
abbrev pub unless_broken_first : Option ℕ → Simulated → Course → Course
unless_broken_first None sim next = next
unless_broken_first (Some place) sim next =
    record { lines = []; at = 0; stop = stop.BrokenFirst place; after = sim }

-- The course of a simulation of so many replicas. The invariants are asked of the initial state first.
abbrev pub course : Specification → World → ℕ → List Step → Course
course d w replicas steps =
    (let sim = first_simulated d w replicas in
    unless_broken_first (broken_at d w (reads (initial d w))) sim (course_from d w 0 steps sim))
