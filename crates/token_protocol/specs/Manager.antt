-- What the manager grants.
use Rattle.std.specs.Prelude.{List, [], ◌∷◌, ◌++◌, Option, None, Some, map, filter}
use Rattle.std.specs.List.{find}
use Rattle.spec_core.specs.declared.world.World.{World}
use Rattle.spec_core.specs.declared.world.Call.{Call}
use Rattle.spec_core.specs.Specification.{Specification}
use Rattle.token_rules.specs.Conflict.{conflicts}
use Rattle.token_protocol.specs.declared.message.EventId.{EventId}
use Rattle.token_protocol.specs.declared.message.Request.{Request}
use Rattle.token_protocol.specs.declared.message.Message.{Message}
use Rattle.token_protocol.specs.declared.message.Message.TheVariants as message
use Rattle.token_protocol.specs.declared.granted.Granted.{Granted}
use Rattle.token_protocol.specs.Ids.{same_id}

-- the calls granted so far, in the order granted, that conflict with a call
abbrev pub conflicting : Specification → World → List Granted → Call → List EventId
conflicting d w granted call = map (λ g. g.id) (filter (λ g. conflicts d w g.call call) granted)

-- what was granted to an id
abbrev pub grant_of : List Granted → EventId → Option Granted
grant_of granted id = find (λ g. same_id g.id id) granted

-- the grant of a call that has none so far
abbrev pub new_grant : Specification → World → List Granted → Request → Granted
new_grant d w granted request =
    record { id = request.id; call = request.call; after = conflicting d w granted request.call }

-- the message that tells of a grant
abbrev pub grant_message : Granted → Message
grant_message g = message.Grant g.id g.after

-- What the manager sends, and what it has granted then. A call is granted once; each later request of it gets the same grant.
pub record Asked : Type 0 where
  pub message : Message
  pub granted : List Granted

-- what the manager sends for a request: what was granted to its id before, if anything was, else a new grant
abbrev pub asked_with : Specification → World → List Granted → Request → Option Granted → Asked
asked_with d w granted request (Some g) = record { message = grant_message g; granted = granted }
asked_with d w granted request None = record {
  message = grant_message (new_grant d w granted request);
  granted = granted ++ new_grant d w granted request ∷ [];
}

-- The manager is asked for a grant.
abbrev pub asked : Specification → World → List Granted → Request → Asked
asked d w granted request = asked_with d w granted request (grant_of granted request.id)
