use Rattle.std.proofs.Common.{rules, ◌∷◌, [], FitsSigned, w64, to_z, of_z, to_z-of_z, ◌∙◌, ap}
use Rattle.bank_host.proofs.Changing.{is_effect, small_account, small_amount, some_counter}
use Rattle.bank_host.proofs.effect.BankCodeEffect.run.Goals as goal

pub account_of-requires : goal.account_of-requires
account_of-requires c = small_account c.requires.0 c.args.state.now c.args.call.now c.requires.1

pub change_of-requires : goal.change_of-requires
change_of-requires c = small_amount c.requires.0 c.args.state.now c.args.call.now c.requires.1

pub change_balance-requires : goal.change_balance-requires
change_balance-requires c = some_counter c.requires.0 c.args.state.now c.requires.1.state

pub returns : goal.returns
returns c = λ w f.
    let fits : FitsSigned w64 c.change_of.result = search rules in
    is_effect w c.args.state.now c.args.call.now f c.stays_in_range.ensures c.change_balance.result (c.account_of.result ∷ []) (to_z w64 (of_z w64 c.change_of.result))
    (ap (λ a. a ∷ []) c.account_of.ensures) (to_z-of_z fits ∙ c.change_of.ensures)
    (record {
      reads_so = c.change_balance.ensures.reads;
      in_range = c.change_balance.ensures.in_range;
      fits = c.change_balance.ensures.fits;
      range = c.change_balance.ensures.range;
    })
