use Rattle.bank_host.proofs.Changing.{small_account}
use Rattle.bank_host.proofs.Guarding.{is_guard}
use Rattle.bank_host.proofs.guard.BankCodeGuard.ask.Goals as goal

pub false_line-requires : goal.false_line-requires
false_line-requires c = small_account c.requires.0 c.args.state.now c.args.call.now c.requires.1

pub returns : goal.returns
returns c = λ w f. is_guard w c.args.state.now c.args.call.now f c.false_line.result c.false_line.ensures
