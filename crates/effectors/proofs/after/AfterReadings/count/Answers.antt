use Rattle.std.proofs.Common.{rules, ◌≤◌, ◌*◌, ◌^◌, subst, sym, unsigned_abs, FitsSigned}
use mir.Syntax.{w128}
use Rattle.std.proofs.lemmas.Int.{to_z-of_z}
use Rattle.spec_core.specs.State.{reads}
use Rattle.effectors.proofs.Fitting.{call_updates}
use Rattle.effectors.proofs.AfterCall.{after-small}
use Rattle.effectors.proofs.after.AfterReadings.count.Goals as goal

pub returns-clause-small : goal.returns-clause-small
returns-clause-small c =
    let s = c.args.self.now in
    let u = call_updates s.spec.now s.world.now s.call.now c.well_formed-2.ensures s.world_fits s.call_fits in
    let small = after-small s.spec.now s.world.now s.call.now (reads s.state.now) c.stays_in_range.ensures u c.args.counter c.args.key.now in
    let f : FitsSigned w128 c.count_after_call.result = search rules in
    simp to_z-of_z (subst (λ v. unsigned_abs v ≤ 3 * 10 ^ 26) (sym c.count_after_call.ensures) small)
