-- What a node answers to a call and to a message, and what it holds then.
use Rattle.std.specs.Prelude.{ℕ, ◌+◌, Bool, true, false, cond, ◌||◌, List, [], ◌∷◌, ◌++◌, Option, None, Some, Result, Ok, Err, length, not, ◌==◌}
use Rattle.std.specs.List.{find}
use Rattle.spec_core.specs.declared.world.World.{World}
use Rattle.spec_core.specs.declared.world.Call.{Call}
use Rattle.spec_core.specs.Specification.{Specification, op_of}
use Rattle.spec_core.specs.State.{Reads, reads}
use Rattle.spec_core.specs.Meaning.{first_false, initial}
use Rattle.spec_core.specs.Fits.{call_fits}
use Rattle.effectors.specs.Effect.{after_call, after}
use Rattle.effectors.specs.Beyond.{Beyond, first_beyond}
use Rattle.token_protocol.specs.declared.message.EventId.{EventId}
use Rattle.token_protocol.specs.declared.message.Request.{Request}
use Rattle.token_protocol.specs.declared.message.Message.{Message}
use Rattle.token_protocol.specs.declared.message.Message.TheVariants as message
use Rattle.token_protocol.specs.declared.node.WhyVoid.{WhyVoid}
use Rattle.token_protocol.specs.declared.node.WhyVoid.TheVariants as why
use Rattle.token_protocol.specs.declared.node.Begun.{Begun}
use Rattle.token_protocol.specs.declared.node.Begun.TheVariants as begun
use Rattle.token_protocol.specs.declared.node.Heard.{Heard}
use Rattle.token_protocol.specs.declared.node.Heard.TheVariants as heard
use Rattle.token_protocol.specs.declared.node.NodeRefused.{NodeRefused}
use Rattle.token_protocol.specs.declared.node.NodeRefused.TheVariants as refusal
use Rattle.token_protocol.specs.Ids.{same_id, is_among, first_outside}

-- What a node holds: which replica it is, how many turns it has used up, its state, the calls that it has taken, in that order, the
-- calls that it knows as void, and the call that waits for a grant, if one does.
pub record Node : Type 0 where
  pub replica : ℕ
  pub turn : ℕ
  pub state : Reads
  pub taken : List EventId
  pub void : List EventId
  pub waiting : Option Request

-- what the node of a replica holds before its first call and its first message
abbrev pub first_node : Specification → World → ℕ → Node
first_node d w replica = record {
  replica = replica;
  turn = 0;
  state = reads (initial d w);
  taken = [];
  void = [];
  waiting = None;
}

-- ---- running a call

-- a requires line is false; lines are counted from 1
abbrev pub false_requires : ℕ → WhyVoid
false_requires place = why.Precondition (place + 1)

-- an observes line is false; lines are counted from 1
abbrev pub false_observes : ℕ → WhyVoid
false_observes place = why.Observation (place + 1)

-- the effect leads beyond the range of a state
abbrev pub beyond_range : Beyond → WhyVoid
beyond_range b = why.Range b.counter b.key b.value

-- the cause where something is found, else the next one
abbrev pub because : {A : Type 0} → Option A → (A → WhyVoid) → Option WhyVoid → Option WhyVoid
because None cause next = next
because (Some found) cause next = Some (cause found)

-- Why a call can't run in a state: the first cause in the order of these tests.
abbrev pub why_void : Specification → World → Reads → Call → Option WhyVoid
why_void d w r call =
    because (first_false w r call.args (op_of d call.op).requires_) false_requires
    (because (first_false w r call.args (op_of d call.op).observes) false_observes
    (because (first_beyond 0 (after_call d w call r).counters) beyond_range
    None))

-- the node with one call more taken
abbrev pub with_taken : Specification → World → Node → EventId → Call → Node
with_taken d w node id call =
    record node { taken = node.taken ++ id ∷ []; state = after d w call node.state }

-- the node with one call more known as void
abbrev pub with_void : Node → EventId → Node
with_void node id = record node { void = node.void ++ id ∷ [] }

-- A call that is run becomes an event, which has seen what the node had taken, or it is void, and never runs.
pub data Run : Type 0 where
  ran : EventId → Call → List EventId → Node → Run
  void : WhyVoid → EventId → Node → Run

-- what comes of a call that is run: an event, or that it is void where there is a cause
abbrev pub run_with : Specification → World → Node → EventId → Call → Option WhyVoid → Run
run_with d w node id call None = ran id call node.taken (with_taken d w node id call)
run_with d w node id call (Some cause) = void cause id (with_void node id)

-- A node runs a call.
abbrev pub run : Specification → World → Node → EventId → Call → Run
run d w node id call = run_with d w node id call (why_void d w node.state call)

-- ---- a call

-- What comes of a call at a node: it is refused, it waits for a grant, or it is run at once.
pub data Begin : Type 0 where
  refused : NodeRefused → Begin
  waits : Request → Node → Begin
  runs : Run → Begin

-- the id of a node's next call
abbrev pub next_id : Node → EventId
next_id node = record { replica = node.replica; turn = node.turn }

-- the node with the turn of its next call used up
abbrev pub with_turn : Node → Node
with_turn node = record node { turn = node.turn + 1 }

-- the node with a call that waits
abbrev pub with_waiting : Node → Request → Node
with_waiting node request = record node { waiting = Some request }

-- the node with no call that waits
abbrev pub without_waiting : Node → Node
without_waiting node = record node { waiting = None }

-- whether a call's operation takes no token
abbrev pub takes_none : Specification → Call → Bool
takes_none d call = length (op_of d call.op).takes == 0

-- A call whose operation has a takes line waits; else it is run at once.
abbrev pub turn_of : Specification → World → Node → EventId → Call → Begin
turn_of d w node id call =
    cond (takes_none d call)
    (runs (run d w (with_turn node) id call))
    (let request : Request = record { id = id; call = call } in
    waits request (with_waiting (with_turn node) request))

-- a call is refused where another one waits
abbrev pub begin_with : Specification → World → Node → Call → Option Request → Begin
begin_with d w node call (Some waiting) = refused (refusal.Waiting waiting.id)
begin_with d w node call None = turn_of d w node (next_id node) call

-- A node makes a call. It is refused where it doesn't fit, and then where another waits.
abbrev pub begin : Specification → World → Node → Call → Begin
begin d w node call =
    cond (call_fits d w call) (begin_with d w node call node.waiting) (refused refusal.Arguments)

-- ---- a message

-- What comes of a message at a node: it is refused, it has to wait for another call, the waiting call is run, an event is taken, a
-- Void is noted, or the message is old.
pub data Hear : Type 0 where
  not_heard : NodeRefused → Hear
  awaits : EventId → Hear
  grants : Run → Hear
  takes : EventId → Node → Hear
  notes : Node → Hear
  old : Hear

-- the first of the calls that a grant names that the node has neither taken nor knows as void
abbrev pub first_open : Node → List EventId → Option EventId
first_open node ids = find (λ id. not (is_among node.taken id || is_among node.void id)) ids

-- the granted call runs once all that the grant names is taken or void, and waits for the first that isn't
abbrev pub grant_open : Specification → World → Node → Request → Option EventId → Hear
grant_open d w node request (Some id) = awaits id
grant_open d w node request None = grants (run d w (without_waiting node) request.id request.call)

-- a grant lets the call run that waits with this id; any other grant is old
abbrev pub hear_grant : Specification → World → Node → EventId → List EventId → Option Request
    → Hear
hear_grant d w node id named None = old
hear_grant d w node id named (Some request) =
    cond (same_id request.id id) (grant_open d w node request (first_open node named)) old

-- a Done is taken where the effect stays in the range of a state
abbrev pub take_within : Specification → World → Node → EventId → Call → Option Beyond → Hear
take_within d w node id call (Some b) = not_heard (refusal.Range b.counter b.key b.value)
take_within d w node id call None = takes id (with_taken d w node id call)

-- a Done waits for the first call that it has seen and the node hasn't taken
abbrev pub take_after : Specification → World → Node → EventId → Call → Option EventId → Hear
take_after d w node id call (Some missing) = awaits missing
take_after d w node id call None =
    take_within d w node id call (first_beyond 0 (after_call d w call node.state).counters)

-- a Done whose event was taken before is old
abbrev pub hear_done : Specification → World → Node → EventId → Call → List EventId → Hear
hear_done d w node id call seen =
    cond (is_among node.taken id) old (take_after d w node id call (first_outside node.taken seen))

-- a Void is noted once
abbrev pub hear_void : Node → EventId → Hear
hear_void node id = cond (is_among node.void id) old (notes (with_void node id))

-- A node gets a message.
abbrev pub hear : Specification → World → Node → Message → Hear
hear d w node (message.Grant id named) = hear_grant d w node id named node.waiting
hear d w node (message.Done id call seen) = hear_done d w node id call seen
hear d w node (message.Void id) = hear_void node id

-- ---- what is held then, and what is answered

-- what the node holds once a call was run
abbrev pub node_after_run : Run → Node
node_after_run (ran id call seen node) = node
node_after_run (void cause id node) = node

-- what the node holds after a call: the same as before where the call is refused
abbrev pub node_after_begin : Node → Begin → Node
node_after_begin node (refused cause) = node
node_after_begin node (waits request next) = next
node_after_begin node (runs it) = node_after_run it

-- what the node holds after a message: the same as before where nothing is run, taken or noted
abbrev pub node_after_hear : Node → Hear → Node
node_after_hear node (not_heard cause) = node
node_after_hear node (awaits id) = node
node_after_hear node (grants it) = node_after_run it
node_after_hear node (takes id next) = next
node_after_hear node (notes next) = next
node_after_hear node old = node

-- what the caller is told of a call that was run at once, with the message that is to be sent
abbrev pub begun_run : Run → Begun
begun_run (ran id call seen node) = begun.Ran (message.Done id call seen)
begun_run (void cause id node) = begun.Void cause (message.Void id)

-- what a node answers to a call
abbrev pub begin_answer : Begin → Result Begun NodeRefused
begin_answer (refused cause) = Err cause
begin_answer (waits request node) = Ok (begun.Asked request)
begin_answer (runs it) = Ok (begun_run it)

-- what is told of a waiting call that was run, with the message that is to be sent
abbrev pub heard_run : Run → Heard
heard_run (ran id call seen node) = heard.Ran (message.Done id call seen)
heard_run (void cause id node) = heard.Void cause (message.Void id)

-- what a node answers to a message
abbrev pub hear_answer : Hear → Result Heard NodeRefused
hear_answer (not_heard cause) = Err cause
hear_answer (awaits id) = Ok (heard.Awaits id)
hear_answer (grants it) = Ok (heard_run it)
hear_answer (takes id node) = Ok heard.Took
hear_answer (notes node) = Ok heard.Noted
hear_answer old = Ok heard.Old
