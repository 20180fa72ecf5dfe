use Rattle.std.proofs.Common.{◌≡◌, drop}
use Rattle.std.specs.List.{list_any}
use Rattle.std.specs.Str.{bytes_eq}
use Rattle.lazy_ground.proofs.keeping.is_among.Given as goal

abbrev pub invariant-loop-other : goal.invariant-loop-other
invariant-loop-other l = list_any (λ k. bytes_eq k l.list) (drop l.other-index l.lists) ≡ list_any (λ k. bytes_eq k l.list) l.lists
