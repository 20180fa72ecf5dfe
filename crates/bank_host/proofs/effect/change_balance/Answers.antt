use Rattle.std.proofs.Common.{rules, ◌≡◌, ◌+ℤ◌, FitsSigned, w64, to_z-of_z, sym, ◌∙◌, ap}
use Rattle.std.specs.Int.{w128}
use Rattle.spec_core.specs.State.{reads, with_count}
use Rattle.spec_core.specs.Fits.{in_state_range}
use Rattle.effectors.specs.declared.applying.ApplyRefused.TheVariants.{Range}
use Rattle.bank_host.specs.Bank.{balance}
use Rattle.bank_host.proofs.effect.change_balance.Goals as goal

pub returns-in_ok-with_balance-clause-reads : goal.returns-in_ok-with_balance-clause-reads
returns-in_ok-with_balance-clause-reads c =
    let old = (reads c.args.state.now).count balance c.args.key.now in
    let f : FitsSigned w128 c.value_after-value.result = search rules in
    let g : FitsSigned w64 c.args.change = search rules in
    let e = to_z-of_z f ∙ c.value_after-value.ensures ∙ ap (λ z. old +ℤ z) (to_z-of_z g) in
    c.in_ok-with_balance.ensures.reads ∙ ap (with_count (reads c.args.state.now) balance c.args.key.now) e

pub returns-in_ok-with_balance-clause-in_range : goal.returns-in_ok-with_balance-clause-in_range
returns-in_ok-with_balance-clause-in_range c =
    let old = (reads c.args.state.now).count balance c.args.key.now in
    let f : FitsSigned w128 c.value_after-value.result = search rules in
    let g : FitsSigned w64 c.args.change = search rules in
    let e = to_z-of_z f ∙ c.value_after-value.ensures ∙ ap (λ z. old +ℤ z) (to_z-of_z g) in
    ap in_state_range (sym e) ∙ sym c.in_range.ensures ∙ c.if-in_range.true

pub returns-else-in_range-clause-range : goal.returns-else-in_range-clause-range
returns-else-in_range-clause-range c = λ b is.
    let old = (reads c.args.state.now).count balance c.args.key.now in
    let f : FitsSigned w128 c.value_after-value.result = search rules in
    let g : FitsSigned w64 c.args.change = search rules in
    let e = to_z-of_z f ∙ c.value_after-value.ensures ∙ ap (λ z. old +ℤ z) (to_z-of_z g) in
    let refused : c.beyond.result ≡ Range b.counter b.key b.value = cc in (
      c.beyond.ensures b refused ∙ (λ i. record { counter = balance; key = c.args.key.now; value = e i }),
      ap in_state_range (sym e) ∙ sym c.in_range.ensures ∙ c.if-in_range.false,
    )
