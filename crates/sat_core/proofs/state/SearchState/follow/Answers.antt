use mir.Syntax.{w128}
use Rattle.std.proofs.lemmas.Int.{to_z-of_z}
use Rattle.std.proofs.lemmas.Result.{IfOk-weaker}
use Rattle.std.proofs.Common.{rules, FitsSigned, ◌≡◌, subst, sym, arith}
use Rattle.proof_lines.specs.declared.line.Line.{Line}
use Rattle.proof_lines.specs.declared.line.Line.TheVariants.{Split as SplitLine}
use Rattle.line_rows.specs.Splits.{at_most}
use Rattle.line_rows.proofs.LineRows.{splits-in_range}
use Rattle.theory_api.specs.declared.answer.TheoryAnswer.{TheoryAnswer}
use Rattle.theory_api.specs.Laws.{rows_at, IsAnswer}
use Rattle.sat_core.proofs.Valued.{stand-of}
use Rattle.sat_core.specs.declared.checking.Outcome.{Outcome}
use Rattle.sat_core.specs.Answers.{IsModelOf}
use Rattle.sat_core.specs.Outcomes.{IsOutcome, IfContinue, IsStay, IsSplitOff}
use Rattle.sat_core.proofs.Checked.{rows_at-are_rows, given-lits, model_of}
use Rattle.sat_core.proofs.Outcomes.{aim_of, refutation-so, splits-outcome, splits-stay, rows-so, range-so, learned-outcome, learned-stays}
use Rattle.sat_core.proofs.state.SearchState.follow.Goals as goal

pub interpretation-requires : goal.interpretation-requires
interpretation-requires g c = let n = c.requires.search.keeps.atom_count in let f = c.requires.search.keeps.few_atoms in omega (arith, n, f)

pub returns-in_ok-found-in-Model-clause-outcome : goal.returns-in_ok-found-in-Model-clause-outcome
returns-in_ok-found-in-Model-clause-outcome g c =
    let p = c.args.problem.now in
    let m = subst (λ (z : TheoryAnswer). IsAnswer g.T.Theory.MAY_SPLIT g.T.Theory.MAY_STOP c.args.self.now.grown.ints c.args.check.assignment.rows z) c.in-Model.is c.requires.answered in
    let e = c.in_ok-found-in-Model.ensures in
    subst (λ z. IsModelOf p (record { truths = c.in_ok-found-in-Model.found.truths; ints = z })) (sym e.ints)
    (model_of (aim_of p g.T.Theory.MAY_SPLIT) c.args.budget c.args.self.now c.args.check.assignment.lits c.args.check.assignment.rows c.in_ok-found-in-Model.found.truths c.in-Model.ints c.law_fits.ensures c.requires.search c.requires.settled c.requires.assigned c.requires.rows m e.many e.each)

pub picked-requires : goal.picked-requires
picked-requires g c =
    let a = subst (λ (z : TheoryAnswer). IsAnswer g.T.Theory.MAY_SPLIT g.T.Theory.MAY_STOP c.args.self.now.grown.ints c.args.check.assignment.rows z) c.in-Conflict.is c.requires.answered in
    given-lits c.args.self.now.grown.atoms c.args.check.assignment.lits c.args.check.assignment.rows c.in-Conflict.used (stand-of c.args.self.now.grown.atoms c.args.check.assignment.lits c.args.check.assignment.rows c.requires.rows.stand) a.given

pub refute-requires : goal.refute-requires
refute-requires g c =
    let a = subst (λ (z : TheoryAnswer). IsAnswer g.T.Theory.MAY_SPLIT g.T.Theory.MAY_STOP c.args.self.now.grown.ints c.args.check.assignment.rows z) c.in-Conflict.is c.requires.answered in
    refutation-so (aim_of c.args.problem.now g.T.Theory.MAY_SPLIT) g.T.Theory.MAY_STOP c.args.budget c.args.self.now c.args.check.assignment.lits c.args.check.assignment.rows c.in-Conflict.used c.in-Ok.value c.requires.search c.requires.settled c.requires.rows a.given c.in-Ok.ensures
    c.in-Conflict.steps a

pub returns-in-Ok-clause-outcome : goal.returns-in-Ok-clause-outcome
returns-in-Ok-clause-outcome g c =
    subst (λ (z : Outcome). IsOutcome z (aim_of c.args.problem.now g.T.Theory.MAY_SPLIT) g.T.Theory.MAY_STOP c.args.budget c.args.self.now c.refute.new.self) (sym c.outcome.ensures)
    (learned-outcome c.refute.result (aim_of c.args.problem.now g.T.Theory.MAY_SPLIT) g.T.Theory.MAY_STOP c.args.budget c.args.self.now c.refute.new.self c.requires.search c.refute.ensures)

pub returns-in-Ok-clause-stays : goal.returns-in-Ok-clause-stays
returns-in-Ok-clause-stays g c =
    subst (λ (z : Outcome). IfContinue z (IsStay c.args.self.now c.refute.new.self)) (sym c.outcome.ensures)
    (learned-stays c.refute.result (aim_of c.args.problem.now g.T.Theory.MAY_SPLIT) c.args.budget c.args.self.now c.refute.new.self c.requires.search c.refute.ensures)

pub cause_of-requires : goal.cause_of-requires
cause_of-requires g c =
    let a = subst (λ (z : TheoryAnswer). IsAnswer g.T.Theory.MAY_SPLIT g.T.Theory.MAY_STOP c.args.self.now.grown.ints c.args.check.assignment.rows z) c.in-Split.is c.requires.answered in
    given-lits c.args.self.now.grown.atoms c.args.check.assignment.lits c.args.check.assignment.rows c.in-Split.used (stand-of c.args.self.now.grown.atoms c.args.check.assignment.lits c.args.check.assignment.rows c.requires.rows.stand) a.1.given

pub split-requires-clause-fits : goal.split-requires-clause-fits
split-requires-clause-fits g c =
    let a = subst (λ (z : TheoryAnswer). IsAnswer g.T.Theory.MAY_SPLIT g.T.Theory.MAY_STOP c.args.self.now.grown.ints c.args.check.assignment.rows z) c.in-Split.is c.requires.answered in
    let f : FitsSigned w128 c.in-Split.at = search rules in
    let h = splits-in_range (rows_at c.args.check.assignment.rows c.in-Split.used) c.in-Split.steps c.in-Split.place c.in-Split.at c.in-Split.low c.in-Split.high c.in-Split.values (rows_at-are_rows c.args.check.assignment.rows c.in-Split.used c.law_rows.ensures) a.1.cause in
    simp to_z-of_z h

pub returns-in_ok-cause-in-Split-clause-outcome : goal.returns-in_ok-cause-in-Split-clause-outcome
returns-in_ok-cause-in-Split-clause-outcome g c =
    let a = subst (λ (z : TheoryAnswer). IsAnswer g.T.Theory.MAY_SPLIT g.T.Theory.MAY_STOP c.args.self.now.grown.ints c.args.check.assignment.rows z) c.in-Split.is c.requires.answered in
    let f : FitsSigned w128 c.in-Split.at = search rules in
    let o = simp to_z-of_z at c.split.ensures in
    let r = c.in_ok-cause-in-Split.ensures.rest in
    let e : SplitLine c.in-Split.place c.in-Split.at c.in_ok-cause-in-Split.cause.used c.in_ok-cause-in-Split.cause.steps c.in_ok-cause-in-Split.cause.low c.in_ok-cause-in-Split.cause.high c.in_ok-cause-in-Split.cause.values ≡ SplitLine c.in-Split.place c.in-Split.at c.in_ok-cause-in-Split.cause.used c.in-Split.steps c.in-Split.low c.in-Split.high c.in-Split.values =
    λ i. SplitLine c.in-Split.place c.in-Split.at c.in_ok-cause-in-Split.cause.used (r.0 i) (r.1 i) (r.2 i) (r.3 i) in
    IfOk-weaker c.split.result
    (λ (o : Outcome). IsSplitOff o c.args.budget c.args.self.now (at_most c.in-Split.place c.in-Split.at) (SplitLine c.in-Split.place c.in-Split.at c.in_ok-cause-in-Split.cause.used c.in_ok-cause-in-Split.cause.steps c.in_ok-cause-in-Split.cause.low c.in_ok-cause-in-Split.cause.high c.in_ok-cause-in-Split.cause.values) c.split.new.self)
    (λ (o : Outcome). IsOutcome o (aim_of c.args.problem.now g.T.Theory.MAY_SPLIT) g.T.Theory.MAY_STOP c.args.budget c.args.self.now c.split.new.self)
    (λ z h. splits-outcome (aim_of c.args.problem.now g.T.Theory.MAY_SPLIT) g.T.Theory.MAY_STOP c.args.budget c.args.self.now c.args.check.assignment.lits c.args.check.assignment.rows c.in-Split.used c.in_ok-cause-in-Split.cause.used c.requires.search c.requires.settled c.requires.rows a.1.given c.in_ok-cause-in-Split.ensures.used z c.in-Split.place c.in-Split.at c.in-Split.steps c.in-Split.low c.in-Split.high c.in-Split.values c.split.new.self a.1 a.0
    (subst (λ (l : Line). IsSplitOff z c.args.budget c.args.self.now (at_most c.in-Split.place c.in-Split.at) l c.split.new.self) e h))
    o

pub returns-in_ok-cause-in-Split-clause-stays : goal.returns-in_ok-cause-in-Split-clause-stays
returns-in_ok-cause-in-Split-clause-stays g c =
    let f : FitsSigned w128 c.in-Split.at = search rules in
    let o = simp to_z-of_z at c.split.ensures in
    let line : Line = SplitLine c.in-Split.place c.in-Split.at c.in_ok-cause-in-Split.cause.used c.in_ok-cause-in-Split.cause.steps c.in_ok-cause-in-Split.cause.low c.in_ok-cause-in-Split.cause.high c.in_ok-cause-in-Split.cause.values in
    IfOk-weaker c.split.result
    (λ (o : Outcome). IsSplitOff o c.args.budget c.args.self.now (at_most c.in-Split.place c.in-Split.at) line c.split.new.self)
    (λ (o : Outcome). IfContinue o (IsStay c.args.self.now c.split.new.self))
    (λ z h. splits-stay z c.args.budget c.args.self.now (at_most c.in-Split.place c.in-Split.at) line c.split.new.self h)
    o

pub picked-requires-in-Rows : goal.picked-requires-in-Rows
picked-requires-in-Rows g c =
    let a = subst (λ (z : TheoryAnswer). IsAnswer g.T.Theory.MAY_SPLIT g.T.Theory.MAY_STOP c.args.self.now.grown.ints c.args.check.assignment.rows z) c.in-Rows.is c.requires.answered in
    given-lits c.args.self.now.grown.atoms c.args.check.assignment.lits c.args.check.assignment.rows c.in-Rows.used (stand-of c.args.self.now.grown.atoms c.args.check.assignment.lits c.args.check.assignment.rows c.requires.rows.stand) a.1.given

pub returns-in-Ok-picked-clause-outcome : goal.returns-in-Ok-picked-clause-outcome
returns-in-Ok-picked-clause-outcome g c =
    let a = subst (λ (z : TheoryAnswer). IsAnswer g.T.Theory.MAY_SPLIT g.T.Theory.MAY_STOP c.args.self.now.grown.ints c.args.check.assignment.rows z) c.in-Rows.is c.requires.answered in
    (a.0, rows-so (aim_of c.args.problem.now g.T.Theory.MAY_SPLIT) g.T.Theory.MAY_STOP c.args.budget c.args.self.now c.args.check.assignment.lits c.args.check.assignment.rows c.in-Rows.used c.in-Ok-picked.value c.requires.search c.requires.settled c.requires.rows a.1.given c.in-Ok-picked.ensures c.in-Rows.steps a.1)

pub picked-requires-in-Range : goal.picked-requires-in-Range
picked-requires-in-Range g c =
    let a = subst (λ (z : TheoryAnswer). IsAnswer g.T.Theory.MAY_SPLIT g.T.Theory.MAY_STOP c.args.self.now.grown.ints c.args.check.assignment.rows z) c.in-Range.is c.requires.answered in
    given-lits c.args.self.now.grown.atoms c.args.check.assignment.lits c.args.check.assignment.rows c.in-Range.used (stand-of c.args.self.now.grown.atoms c.args.check.assignment.lits c.args.check.assignment.rows c.requires.rows.stand) a.1.given

pub returns-in-Ok-picked-2-clause-outcome : goal.returns-in-Ok-picked-2-clause-outcome
returns-in-Ok-picked-2-clause-outcome g c =
    let a = subst (λ (z : TheoryAnswer). IsAnswer g.T.Theory.MAY_SPLIT g.T.Theory.MAY_STOP c.args.self.now.grown.ints c.args.check.assignment.rows z) c.in-Range.is c.requires.answered in
    (a.0, range-so (aim_of c.args.problem.now g.T.Theory.MAY_SPLIT) g.T.Theory.MAY_STOP c.args.budget c.args.self.now c.args.check.assignment.lits c.args.check.assignment.rows c.in-Range.used c.in-Ok-picked-2.value c.requires.search c.requires.settled c.requires.rows a.1.given c.in-Ok-picked-2.ensures c.in-Range.steps c.in-Range.what a.1)
