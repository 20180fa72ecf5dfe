-- What is left of a step: what it did, how a log grows, and what its replica has taken; this mirrors src/replica.rt.
use Rattle.std.specs.Prelude.{◌≡◌, ℕ, List, [], ◌∷◌, ◌++◌, Option, None, Some, length}
use Rattle.std.specs.Option.{option_map}
use Rattle.spec_core.specs.declared.world.Call.{Call}
use Rattle.executions.specs.Orders.{Event}
use Rattle.token_protocol.specs.declared.message.EventId.{EventId}
use Rattle.token_protocol.specs.declared.message.Request.{Request}
use Rattle.token_protocol.specs.declared.message.Message.{Message}
use Rattle.token_protocol.specs.declared.message.Message.TheVariants as message
use Rattle.token_protocol.specs.declared.node.WhyVoid.{WhyVoid}
use Rattle.token_protocol.specs.declared.node.Begun.{Begun}
use Rattle.token_protocol.specs.declared.node.Begun.TheVariants as begun
use Rattle.token_protocol.specs.declared.node.Heard.{Heard}
use Rattle.token_protocol.specs.declared.node.Heard.TheVariants as heard
use Rattle.token_protocol.specs.declared.network.NetDid.{NetDid}
use Rattle.token_protocol.specs.declared.network.NetDid.TheVariants as did
use Rattle.token_protocol.specs.Network.{Happened, number_of}
use Rattle.token_core.specs.declared.log.Log.{Log}
use Rattle.token_core.specs.Log.{Lists, lists_of}

-- What a step did, what the lists are then, and what its replica has taken then.
pub record Left : Type 0 where
  pub did : NetDid
  pub lists : Lists
  pub taken : List ℕ

-- what is left where a step did this, of a log and of what its replica has taken
abbrev pub left_of : NetDid → Log → List ℕ → Left
left_of what log taken = record { did = what; lists = lists_of log; taken = taken }

-- the call of which a message tells
abbrev pub id_of : Message → EventId
id_of (message.Grant id named) = id
id_of (message.Done id call seen) = id
id_of (message.Void id) = id

-- the next event of a replica that has taken these
abbrev pub event_of : Call → List ℕ → Event Call
event_of call taken = record { call = call; seen = taken }

-- what is left where a call was run: one event more, which the replica takes, and its message
abbrev pub after_ran : Lists → List ℕ → Event Call → Message → Left
after_ran lists taken event done = record {
  did = did.Ran (length lists.happened);
  lists = record {
    requests = lists.requests;
    messages = lists.messages ++ done ∷ [];
    happened = lists.happened
        ++ (let h : Happened = record { id = id_of done; event = event } in h) ∷ [];
  };
  taken = taken ++ length lists.happened ∷ [];
}

-- what is left where a call is void: the message that says so
abbrev pub after_void : Lists → List ℕ → WhyVoid → Message → Left
after_void lists taken cause told = record {
  did = did.Void cause (length lists.messages);
  lists = record {
    requests = lists.requests;
    messages = lists.messages ++ told ∷ [];
    happened = lists.happened;
  };
  taken = taken;
}

-- what is left where a call waits: one request more
abbrev pub after_asked : Lists → List ℕ → Request → Left
after_asked lists taken request = record {
  did = did.Asked (length lists.requests);
  lists = record {
    requests = lists.requests ++ request ∷ [];
    messages = lists.messages;
    happened = lists.happened;
  };
  taken = taken;
}

-- what is left where an event was taken: nothing is sent
abbrev pub after_took : Lists → List ℕ → ℕ → Left
after_took lists taken number =
    record { did = did.Took number; lists = lists; taken = taken ++ number ∷ [] }

-- what is left where nothing was sent, run or taken
abbrev pub after_none : NetDid → Lists → List ℕ → Left
after_none what lists taken = record { did = what; lists = lists; taken = taken }

-- what is left where a node answers so to a call
abbrev pub after_begun : Lists → List ℕ → Event Call → Begun → Left
after_begun lists taken event (begun.Asked request) = after_asked lists taken request
after_begun lists taken event (begun.Ran done) = after_ran lists taken event done
after_begun lists taken event (begun.Void cause told) = after_void lists taken cause told

-- the event that a message may bring about: only a Grant lets the waiting call run
abbrev pub event_for : List ℕ → Option Request → Message → Option (Event Call)
event_for taken waiting (message.Grant id named) =
    option_map (λ (q : Request). event_of q.call taken) waiting
event_for taken waiting (message.Done id call seen) = None
event_for taken waiting (message.Void id) = None

-- where the waiting call was run, there is its event
abbrev pub IsAfterRan : Lists → List ℕ → Option (Event Call) → Message → Left → Type 0
IsAfterRan lists taken None done left = ⊥
IsAfterRan lists taken (Some event) done left = left ≡ after_ran lists taken event done

-- What is left where a node answers so to a message that tells of this call.
abbrev pub IsAfterHeard : Lists → List ℕ → EventId → Option (Event Call) → Heard → Left → Type 0
IsAfterHeard lists taken id event (heard.Ran done) left = IsAfterRan lists taken event done left
IsAfterHeard lists taken id event (heard.Void cause told) left =
    left ≡ after_void lists taken cause told
IsAfterHeard lists taken id event (heard.Awaits other) left =
    left ≡ after_none (did.Awaits other) lists taken
IsAfterHeard lists taken id event heard.Took left =
    left ≡ after_took lists taken (number_of lists.happened id)
IsAfterHeard lists taken id event heard.Noted left = left ≡ after_none did.Noted lists taken
IsAfterHeard lists taken id event heard.Old left = left ≡ after_none did.Old lists taken

-- the event is there where the waiting call was run
abbrev pub IsPrepared : Option (Event Call) → Heard → Type 0
IsPrepared event (heard.Ran done) = (e : Event Call) × (event ≡ Some e)
IsPrepared event (heard.Void cause told) = Unit {0}
IsPrepared event (heard.Awaits other) = Unit {0}
IsPrepared event heard.Took = Unit {0}
IsPrepared event heard.Noted = Unit {0}
IsPrepared event heard.Old = Unit {0}
