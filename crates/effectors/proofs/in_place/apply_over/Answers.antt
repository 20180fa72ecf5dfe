use Rattle.std.proofs.Common.{◌≡◌, true, false, sym, ◌∙◌, ap}
use Rattle.std.specs.List.{list_all}
use Rattle.spec_core.specs.State.{reads}
use Rattle.spec_core.specs.Fits.{update_fits}
use Rattle.effectors.specs.Effect.{after, after_call}
use Rattle.effectors.specs.Reaching.{with_updates, updates_in_range}
use Rattle.effectors.proofs.Fitting.{call_updates}
use Rattle.effectors.proofs.Written.{written}
use Rattle.effectors.proofs.Ranges.{in_range_all, all_in_range_reached}
use Rattle.effectors.proofs.FirstBeyond.{none_is}
use Rattle.effectors.proofs.in_place.apply_over.Goals as goal

pub write_updates-requires-clause-updates : goal.write_updates-requires-clause-updates
write_updates-requires-clause-updates c =
    let d = c.args.spec.now in let w = c.args.world.now in let call = c.args.call.now in
    let u = call_updates d w call c.well_formed-2.ensures c.requires.world c.requires.call in
    ap (list_all (update_fits d w call.args)) c.updates_of.ensures ∙ u.fit

pub why_refused-requires-clause-outside : goal.why_refused-requires-clause-outside
why_refused-requires-clause-outside c =
    let d = c.args.spec.now in let w = c.args.world.now in let call = c.args.call.now in let s = c.args.state.now in
    let n = after d w call (reads s) in
    let u = call_updates d w call c.well_formed-2.ensures c.requires.world c.requires.call in
    λ h.
    let r = all_in_range_reached d w call s c.requires.state u c.stays_in_range.ensures (none_is (after_call d w call (reads s)) h) in
    let e : false ≡ true = sym c.if-branch.false ∙ c.in_ok-write_updates.ensures.range ∙ ap (λ us. updates_in_range d w call.args us n) c.updates_of.ensures ∙ r in
    cc

pub returns-then-branch-clause-reads : goal.returns-then-branch-clause-reads
returns-then-branch-clause-reads c =
    let d = c.args.spec.now in let w = c.args.world.now in let call = c.args.call.now in let s = c.args.state.now in
    let n = after d w call (reads s) in
    let u = call_updates d w call c.well_formed-2.ensures c.requires.world c.requires.call in
    c.in_ok-write_updates.ensures.reads c.if-branch.true
    ∙ (λ i. with_updates d w call.args (c.updates_of.ensures i) n (c.in_ok-new.ensures.alike i))
    ∙ written d w call s c.requires.state u

pub returns-then-branch-clause-in_range : goal.returns-then-branch-clause-in_range
returns-then-branch-clause-in_range c =
    let d = c.args.spec.now in let w = c.args.world.now in let call = c.args.call.now in let s = c.args.state.now in
    let n = after d w call (reads s) in
    let u = call_updates d w call c.well_formed-2.ensures c.requires.world c.requires.call in
    in_range_all d w call s c.requires.state u c.stays_in_range.ensures
    (ap (λ us. updates_in_range d w call.args us n) (sym c.updates_of.ensures) ∙ sym c.in_ok-write_updates.ensures.range ∙ c.if-branch.true)
