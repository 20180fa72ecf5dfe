use Rattle.std.proofs.Common.{◌≡◌, drop}
use Rattle.lazy_logs.specs.Drops.{without_drops}
use Rattle.lazy_logs.proofs.comparing.are_without_drops.Given as goal

abbrev pub invariant-loop-line : goal.invariant-loop-line
invariant-loop-line l = l.rest ≡ without_drops (drop l.line-index l.lines) → l.own ≡ without_drops l.lines
