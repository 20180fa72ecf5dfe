use Rattle.std.proofs.Common.{sym, ◌∙◌}
use Rattle.spec_states.proofs.Sameness.{same_reads, from_same_reads}
use Rattle.spec_states.proofs.state.State.same.Goals as goal

pub returns : goal.returns
returns c = (λ h. same_reads c.args.self.now c.args.other.now (sym c.lists_same.ensures ∙ h), λ p. c.lists_same.ensures ∙ from_same_reads c.args.self.now c.args.other.now p)
