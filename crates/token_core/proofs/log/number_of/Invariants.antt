use Rattle.std.proofs.Common.{◌≡◌, ◌+◌, drop}
use Rattle.token_protocol.specs.Network.{number_of}
use Rattle.token_core.proofs.log.number_of.Given as goal

-- the number is that from here on, behind those before
abbrev pub invariant-loop-number : goal.invariant-loop-number
invariant-loop-number l = number_of l.happened l.id ≡ l.number + number_of (drop l.number l.happened) l.id
