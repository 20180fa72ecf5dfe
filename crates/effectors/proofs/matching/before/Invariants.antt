use Rattle.std.proofs.Common.{◌≡◌, ◌∷◌, take}
use Rattle.effectors.proofs.matching.before.Given as goal

abbrev pub invariant-loop-next : goal.invariant-loop-next
invariant-loop-next l = l.longer ≡ l.element ∷ take l.next-index l.tuple
