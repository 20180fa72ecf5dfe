use Rattle.std.proofs.Common.{◌≡◌, ◌+◌, take, ◌++◌, subst, arith}
use Rattle.std.proofs.KnownBytes.{Consumes-trans}
use Rattle.byte_ports.proofs.source.read_up_to.Goals as goal

pub returns-then-is_err-clause-given_up : goal.returns-then-is_err-clause-given_up
returns-then-is_err-clause-given_up g c =
    (_, Consumes-trans _ _ _ _ _ c.loop-given.invariant.given c.in-Ok.ensures.bytes.0)
