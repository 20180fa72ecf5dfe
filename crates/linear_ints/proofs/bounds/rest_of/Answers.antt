use Rattle.std.proofs.Common.{pos, ◌∙◌}
use Rattle.lin_rows.specs.Rows.{sum_from}
use Rattle.linear_ints.proofs.ListedLemmas.{listed-is}
use Rattle.linear_ints.proofs.bounds.rest_of.Goals as goal

pub returns : goal.returns
returns c = c.sum_of.ensures ∙ (λ i. sum_from (listed-is c.args.values.now i) (pos 0) (c.terms-summands.ensures.terms i))
