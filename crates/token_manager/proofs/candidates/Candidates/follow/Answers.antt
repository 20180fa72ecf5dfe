use Rattle.std.proofs.Common.{sym, ◌∙◌}
use Rattle.token_manager.proofs.Counted.{one_list}
use Rattle.token_manager.proofs.candidates.Candidates.follow.Goals as goal

pub returns-then-same_rivals-clause-rivals : goal.returns-then-same_rivals-clause-rivals
returns-then-same_rivals-clause-rivals c =
    sym c.as_slice.ensures ∙ one_list c.as_slice.result.now c.args.rivals.now (sym c.same_rivals.ensures ∙ c.if-same_rivals.true)
