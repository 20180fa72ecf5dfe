use Rattle.lin_rows.specs.Rows.{point_of}
use Rattle.watched_search.proofs.Evaluation.{truth-known}
use Rattle.watched_search.proofs.evaluating.known_truth.Goals as goal

pub returns-then-is_within : goal.returns-then-is_within
returns-then-is_within c = truth-known (point_of c.args.numbers.now) c.args.row.now c.truth_at.result c.truth_at.ensures.truth
