use Rattle.std.proofs.Common.{◌≡◌, ◌++◌, take}
use Rattle.proof_report.specs.Texts.{calls_text}
use Rattle.proof_report.proofs.writing.write_calls.Given as goal

abbrev pub invariant-loop-call : goal.invariant-loop-call
invariant-loop-call l = l.out.items ≡ l.initial.out.items ++ calls_text l.spec (take l.call-index l.calls)
