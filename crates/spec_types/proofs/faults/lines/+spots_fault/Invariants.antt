use Rattle.std.proofs.Common.{length}
use Rattle.spec_types.proofs.faults.lines.+spots_fault.Given as goal

abbrev pub decreases-spots_fault : goal.decreases-spots_fault
decreases-spots_fault l = length l.sorts.now
