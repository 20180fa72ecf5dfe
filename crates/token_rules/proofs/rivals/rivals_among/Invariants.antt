use Rattle.std.proofs.Common.{◌≡◌, map, take}
use Rattle.token_rules.specs.Rivals.{rivalry}
use Rattle.token_rules.proofs.rivals.rivals_among.Given as goal

-- those of the operations so far
abbrev pub invariant-loop-operation : goal.invariant-loop-operation
invariant-loop-operation l = l.rivals.items ≡ map (λ o. rivalry l.rules o.takes l.takes) (take l.operation-index l.operations)
