use Rattle.std.proofs.Common.{refl, sym, ◌∙◌, ap, arith}
use Rattle.lin_rows.specs.Divisors.{tightened}
use Rattle.elimination.proofs.SideLemmas.{indexed}
use Rattle.elimination.proofs.Taking.{given-held, given-refuted, given-full, given-taken}
use Rattle.elimination.proofs.take.take_row.Goals as goal

pub bounds-rows-number : goal.bounds-rows-number
bounds-rows-number c = c.requires.number

pub returns-then-has : goal.returns-then-has
returns-then-has c = given-held c.args.rows.now c.args.number c.args.tableau.now c.in-Ok.row c.requires.taking (c.in-Ok.ensures.tightened ∙ ap tightened (indexed c.args.rows.now c.args.rows.now c.args.number c.index-rows-number.result refl c.requires.number c.index-rows-number.is))
    (sym c.has.ensures ∙ c.if-has.true)

pub returns-then-refuted : goal.returns-then-refuted
returns-then-refuted c =
    given-refuted c.args.rows.now c.args.number c.args.tableau.now c.push_given.new.self c.in-Ok.row c.requires.taking c.requires.number (c.in-Ok.ensures.tightened ∙ ap tightened (indexed c.args.rows.now c.args.rows.now c.args.number c.index-rows-number.result refl c.requires.number c.index-rows-number.is))
    c.in-Ok-push_given.ensures (sym c.is_contradiction-refuted.ensures.contradiction ∙ c.if-refuted.true)

pub returns-then-len-ge-ROW_LIMIT : goal.returns-then-len-ge-ROW_LIMIT
returns-then-len-ge-ROW_LIMIT c =
    given-full c.args.rows.now c.args.number c.args.tableau.now c.push_given.new.self c.in-Ok.row c.requires.taking c.requires.number (c.in-Ok.ensures.tightened ∙ ap tightened (indexed c.args.rows.now c.args.rows.now c.args.number c.index-rows-number.result refl c.requires.number c.index-rows-number.is))
    c.in-Ok-push_given.ensures (sym c.has.ensures ∙ c.if-has.false) (omega arith)

pub returns : goal.returns
returns c =
    given-taken c.args.rows.now c.args.number c.args.tableau.now c.push_given.new.self c.in-Ok.row c.requires.taking c.requires.number (c.in-Ok.ensures.tightened ∙ ap tightened (indexed c.args.rows.now c.args.rows.now c.args.number c.index-rows-number.result refl c.requires.number c.index-rows-number.is))
    c.in-Ok-push_given.ensures (sym c.has.ensures ∙ c.if-has.false) (sym c.is_contradiction-refuted.ensures.contradiction ∙ c.if-refuted.false) (omega arith)
