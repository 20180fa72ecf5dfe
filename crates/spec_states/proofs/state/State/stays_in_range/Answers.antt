use Rattle.std.proofs.Common.{◌≡◌, true, subst}
use Rattle.spec_core.specs.State.{Listing}
use Rattle.spec_core.specs.Fits.{is_listing}
use Rattle.spec_states.proofs.States.{reading_in_range}
use Rattle.spec_states.proofs.state.State.stays_in_range.Goals as goal

pub returns : goal.returns
returns c = reading_in_range c.args.self.now (subst (λ (s : Listing). is_listing s ≡ true) c.self.view_is c.self.invariant)
