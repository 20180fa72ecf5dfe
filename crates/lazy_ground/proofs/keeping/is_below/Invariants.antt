use Rattle.std.proofs.Common.{◌≡◌, drop}
use Rattle.std.specs.Prelude.{ltb}
use Rattle.std.specs.List.{list_all}
use Rattle.lazy_ground.proofs.keeping.is_below.Given as goal

abbrev pub invariant-loop-number : goal.invariant-loop-number
invariant-loop-number l = list_all (λ m. ltb m l.count) (drop l.number-index l.numbers) ≡ list_all (λ m. ltb m l.count) l.numbers
