use Rattle.std.proofs.Common.{Err, arith}
use Rattle.byte_ports.specs.Ending.{IsOne, IsFrontOf}
use Rattle.byte_ports.proofs.Endings.{Ends-stopped}
use Rattle.cise_program.specs.commands.Verify.{text_said}
use Rattle.cise_program.proofs.Upgrades.{said_ends}
use Rattle.cise_program.proofs.commands.upgrade.refuse.Goals as goal

pub returns-in-Ok-clause-ends : goal.returns-in-Ok-clause-ends
returns-in-Ok-clause-ends g c = λ text is.
    said_ends text c.in-Ok.text.items c.as_slice.result.now (text_said (Err c.args.why)) c.write_answer.result _ _ c.in-Ok.ensures.text is c.as_slice.ensures.value c.write_answer.ensures.ends

pub returns-in-Err-clause-ends : goal.returns-in-Err-clause-ends
returns-in-Err-clause-ends g c = λ text is. Ends-stopped (IsOne 4 text) (IsFrontOf text) 8 _ (omega arith) (omega arith) (omega arith)
