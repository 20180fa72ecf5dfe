use Rattle.std.proofs.Common.{◌≡◌, subst, true, get_or, []}
use Rattle.spec_core.specs.Specification.{Specification}
use Rattle.spec_core.specs.State.{reads}
use Rattle.spec_core.specs.Fits.{is_state}
use Rattle.replica_replay.specs.Steps.{state_of}
use Rattle.replay_text.proofs.States.{state_written}
use Rattle.replay_text.proofs.writing.push_state.Goals as goal

pub returns : goal.returns
returns g c =
    let p = c.args.replay.now in let d = c.args.spec.now in let s = c.state_of.result.now in
    state_written c.write_state.result d p.world s _ c.args.text.now.items c.write_state.new.out.items c.write_state.ensures.text
    (subst (λ (e : Specification). is_state e p.world s ≡ true) c.requires.replica.spec c.state_of.ensures.fits)
    (subst (λ (e : Specification). reads s ≡ state_of e p.world p.held (get_or p.held.taken c.args.replica [])) c.requires.replica.spec c.state_of.ensures.reads)
