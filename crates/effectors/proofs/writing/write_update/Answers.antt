use Rattle.std.proofs.Common.{◌≡◌, Bool, subst, IfOk, ◌∙◌}
use Rattle.spec_core.specs.declared.update.Thing.TheVariants.{Counter}
use Rattle.effectors.specs.Reaching.{thing_in_range}
use Rattle.effectors.proofs.writing.write_update.Goals as goal

pub returns-clause-range : goal.returns-clause-range
returns-clause-range g c =
    let thing : Counter c.in-Counter.k ≡ c.args.update.now.thing = cc in
    let keys = c.as_slice-in-Counter.ensures ∙ c.in_ok-reached.ensures.reached in
    subst (λ (z : Bool). IfOk c.write_keys.result (λ b. b ≡ z)) (λ i. thing_in_range (thing i) (keys i) (g.R.Readings.reads c.args.from.now)) c.write_keys.ensures.range
