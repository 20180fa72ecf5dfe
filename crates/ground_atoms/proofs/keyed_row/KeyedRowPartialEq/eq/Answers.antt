use Rattle.std.proofs.Common.{◌∙◌}
use Rattle.std.specs.Bool.{one_answer}
use Rattle.line_rows.specs.Evidence.{same_row}
use Rattle.ground_atoms.specs.Keys.{Decides-same_row}
use Rattle.ground_atoms.proofs.keyed_row.KeyedRowPartialEq.eq.Goals as goal

-- both tests decide whether the rows are equal
pub returns : goal.returns
returns c =
    one_answer c.same_row.result (same_row c.row.result.now c.row-2.result.now) c.same_row.ensures (Decides-same_row c.row.result.now c.row-2.result.now)
    ∙ (λ i. same_row (c.row.ensures i) (c.row-2.ensures i))
