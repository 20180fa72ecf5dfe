use Rattle.byte_ports.specs.declared.text.WriteOut.TheVariants.{Memory}
use Rattle.check_run.proofs.Whole.{nothing_left}
use Rattle.check_run.proofs.checking.check_all.Goals as goal

pub returns-in_default-clause-report : goal.returns-in_default-clause-report
returns-in_default-clause-report g c = nothing_left c.args.spec.now c.args.budget (g.K.Sink.held c.args.out.now) Memory
