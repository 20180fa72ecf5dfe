use Rattle.std.proofs.Common.{sym, ◌∙◌, ap, arith}
use Rattle.proof_lines.specs.declared.line.RowStep.{RowStep}
use Rattle.elimination.proofs.Runs.{with_step}
use Rattle.elimination.proofs.Holding.{sum-skipped, sum-refuted, sum-full, sum-held}
use Rattle.elimination.proofs.steps.hold_sum.Goals as goal

pub returns-then-not-is_needed : goal.returns-then-not-is_needed
returns-then-not-is_needed c =
    sum-skipped c.args.rows.now c.args.tableau.now c.args.place c.args.upper c.args.lower c.args.sum c.requires.tableau c.requires.sum
    (sym c.is_needed.ensures ∙ c.if-not-is_needed.true)

pub returns-then-refuted : goal.returns-then-refuted
returns-then-refuted c =
    sum-refuted c.args.rows.now c.args.tableau.now c.push_step.new.self c.args.place c.args.upper c.args.lower c.args.sum c.requires.tableau c.requires.meet c.requires.sum
    (c.in-Ok.ensures ∙ ap (λ (s : RowStep). with_step c.args.tableau.now s c.args.sum.row) c.step_of-step.ensures)
    (sym c.is_contradiction-refuted.ensures.contradiction ∙ c.if-refuted.true)

pub returns-then-len-ge-ROW_LIMIT : goal.returns-then-len-ge-ROW_LIMIT
returns-then-len-ge-ROW_LIMIT c =
    sum-full c.args.rows.now c.args.tableau.now c.push_step.new.self c.args.place c.args.upper c.args.lower c.args.sum c.requires.tableau c.requires.meet c.requires.sum
    (c.in-Ok.ensures ∙ ap (λ (s : RowStep). with_step c.args.tableau.now s c.args.sum.row) c.step_of-step.ensures)
    (sym c.is_needed.ensures ∙ c.if-not-is_needed.false)
    (sym c.is_contradiction-refuted.ensures.contradiction ∙ c.if-refuted.false) (omega arith)

pub returns : goal.returns
returns c =
    sum-held c.args.rows.now c.args.tableau.now c.push_step.new.self c.args.place c.args.upper c.args.lower c.args.sum c.requires.tableau c.requires.meet c.requires.sum
    (c.in-Ok.ensures ∙ ap (λ (s : RowStep). with_step c.args.tableau.now s c.args.sum.row) c.step_of-step.ensures)
    (sym c.is_needed.ensures ∙ c.if-not-is_needed.false)
    (sym c.is_contradiction-refuted.ensures.contradiction ∙ c.if-refuted.false) (omega arith)
