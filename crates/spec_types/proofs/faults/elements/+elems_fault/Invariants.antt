use Rattle.std.proofs.Common.{length}
use Rattle.spec_types.proofs.faults.elements.+elems_fault.Given as goal

abbrev pub decreases-elems_fault : goal.decreases-elems_fault
decreases-elems_fault l = length l.sorts.now
