-- The lists that a log holds, and when each has room for one element more; this mirrors src/log.rt.
use Rattle.std.specs.Prelude.{◌<◌, ◌^◌, List, [], length, vec_len, vec_capacity}
use Rattle.token_protocol.specs.declared.message.Request.{Request}
use Rattle.token_protocol.specs.declared.message.Message.{Message}
use Rattle.token_protocol.specs.Network.{Happened}
use Rattle.token_core.specs.declared.log.Log.{Log}

-- requests, messages and the calls that were run, in their orders
pub record Lists : Type 0 where
  pub requests : List Request
  pub messages : List Message
  pub happened : List Happened

-- the lists that a log holds
abbrev pub lists_of : Log → Lists
lists_of log = record {
  requests = log.requests.items;
  messages = log.messages.items;
  happened = log.happened.items;
}

-- the lists before the first step
abbrev pub no_lists : Lists
no_lists = record { requests = []; messages = []; happened = [] }

-- each list has room for one element more, and the element's number has 32 bits
pub record HasRoom (log : Log) : Type 0 where
  pub requests : vec_len log.requests < vec_capacity log.requests
  pub messages : vec_len log.messages < vec_capacity log.messages
  pub happened : vec_len log.happened < vec_capacity log.happened
  pub few_requests : length log.requests.items < 2 ^ 32
  pub few_messages : length log.messages.items < 2 ^ 32
  pub few_happened : length log.happened.items < 2 ^ 32
