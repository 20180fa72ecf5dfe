use Rattle.std.proofs.Common.{◌≡◌, drop}
use Rattle.std.specs.List.{position_from}
use Rattle.std.specs.Str.{bytes_eq}
use Rattle.replica_replay.proofs.asking.named.Given as goal

-- the first operation of the name is the first one from here on
abbrev pub invariant-loop-place : goal.invariant-loop-place
invariant-loop-place l = position_from (λ o. bytes_eq o.name l.name) 0 l.operations ≡ position_from (λ o. bytes_eq o.name l.name) l.place (drop l.place l.operations)
