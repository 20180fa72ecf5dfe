use Rattle.std.proofs.Common.{◌≤◌}
use Rattle.token_core.specs.Fields.{IsFirst}
use Rattle.token_core.proofs.net.first_replicas.Given as goal

abbrev pub invariant-loop-number : goal.invariant-loop-number
invariant-loop-number g l = IsFirst (g.R.Runner.specification l.runner) (g.R.Runner.setting l.runner) l.number l.replicas.items × (l.number ≤ l.count)
