use Rattle.std.proofs.Common.{◌≡◌, ◌++◌, drop}
use Rattle.stage_defs.proofs.counting.add_copies.Given as goal

abbrev pub invariant-loop-part : goal.invariant-loop-part
invariant-loop-part l = l.out ++ drop l.part-index l.parts ≡ l.initial.out ++ l.parts
