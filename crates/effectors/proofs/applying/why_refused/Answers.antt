use Rattle.std.proofs.Common.{rules, ◌≡◌, Some}
use Rattle.spec_core.specs.State.{reads}
use Rattle.effectors.specs.declared.applying.ApplyRefused.TheVariants.{Range}
use Rattle.effectors.specs.Effect.{after_call}
use Rattle.effectors.specs.Beyond.{Beyond, first_beyond}
use Rattle.effectors.proofs.FirstBeyond.{is_first}
use Rattle.effectors.proofs.applying.why_refused.Goals as goal

pub returns-in-Ok-Some : goal.returns-in-Ok-Some
returns-in-Ok-Some c =
    let s = after_call c.args.spec.now c.args.world.now c.args.call.now (reads c.args.state.now) in
    let found : (b : Beyond) → c.in-Ok-Some.refused ≡ Range b.counter b.key b.value → first_beyond 0 s.counters ≡ Some b = search rules in
    λ b e. is_first s b (found b e)
