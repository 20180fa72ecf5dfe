use Rattle.std.proofs.Common.{◌≡◌}
use Rattle.token_core.proofs.replica.list_of.Given as goal

-- the same numbers in both
abbrev pub invariant-loop-number : goal.invariant-loop-number
invariant-loop-number l = l.front ≡ l.known
