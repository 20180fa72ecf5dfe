use Rattle.std.proofs.Common.{◌∙◌, ap}
use Rattle.std.specs.Prelude.{is_none}
use Rattle.spec_core.specs.State.{reads}
use Rattle.obligation_list.proofs.Refuted.{none_broken, none_of}
use Rattle.obligation_list.proofs.breaking.invariants_hold.Goals as goal

pub returns : goal.returns
returns c = none_of c.invariant_broken_at.result c.is_none.result c.is_none.ensures ∙ ap is_none c.invariant_broken_at.ensures ∙ none_broken c.args.spec.now c.args.world.now (reads c.args.state.now)
