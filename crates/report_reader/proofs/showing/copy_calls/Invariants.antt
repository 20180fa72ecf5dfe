use Rattle.std.proofs.Common.{◌≡◌, take}
use Rattle.report_reader.proofs.showing.copy_calls.Given as goal

abbrev pub invariant-loop-call : goal.invariant-loop-call
invariant-loop-call l = l.copies ≡ take l.call-index l.calls
