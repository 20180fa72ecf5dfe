use Rattle.std.proofs.Common.{ℕ, ◌<◌, length, Some, None, sym, subst}
use Rattle.proof_lines.specs.Clauses.{lit_of}
use Rattle.sat_core.specs.declared.checking.Outcome.{Outcome}
use Rattle.sat_core.specs.Outcomes.{IsOutcome}
use Rattle.sat_core.proofs.Resolving.{chain_begins}
use Rattle.sat_core.proofs.Outcomes.{aim_of, analyzed-outcome, pushed-outcome, forced-step}
use Rattle.sat_core.proofs.plain.advance.Goals as goal

pub analyze_conflict-requires : goal.analyze_conflict-requires
analyze_conflict-requires g c =
    let h = c.in-Conflict.ensures in
    record {
      aim = aim_of c.args.problem.now g.T.Theory.MAY_SPLIT;
      before = length c.args.state.now.log;
      chain = chain_begins (aim_of c.args.problem.now g.T.Theory.MAY_SPLIT) c.args.budget c.args.state.now c.in-Conflict.start c.requires.search h.0 h.1 h.2;
    }

pub returns-in-Conflict : goal.returns-in-Conflict
returns-in-Conflict g c =
    let h = c.in-Conflict.ensures in
    subst (λ (z : Outcome). IsOutcome z (aim_of c.args.problem.now g.T.Theory.MAY_SPLIT) g.T.Theory.MAY_STOP c.args.budget c.args.state.now c.analyze_conflict.new.self) (sym c.outcome.ensures)
    (analyzed-outcome c.analyze_conflict.result (aim_of c.args.problem.now g.T.Theory.MAY_SPLIT) g.T.Theory.MAY_STOP c.args.budget c.args.state.now c.in-Conflict.start c.analyze_conflict.new.self
    (chain_begins (aim_of c.args.problem.now g.T.Theory.MAY_SPLIT) c.args.budget c.args.state.now c.in-Conflict.start c.requires.search h.0 h.1 h.2) c.analyze_conflict.ensures)

pub returns-in-Forced : goal.returns-in-Forced
returns-in-Forced g c =
    let h = c.in-Forced.ensures in
    let f = forced-step (aim_of c.args.problem.now g.T.Theory.MAY_SPLIT) c.args.budget c.args.state.now c.in-Forced.reason c.in-Forced.lit c.requires.search h in
    pushed-outcome c.push.result (aim_of c.args.problem.now g.T.Theory.MAY_SPLIT) g.T.Theory.MAY_STOP c.args.budget c.args.state.now c.in-Forced.lit (Some c.in-Forced.reason) c.push.new.trail
    c.requires.search h.2 f.0 f.1 (h.0, h.1) c.push.ensures

pub sign_of-positive-requires : goal.sign_of-positive-requires
sign_of-positive-requires g c = subst (λ (n : ℕ). c.in-Some.atom < n) c.atom_count.ensures c.in-Some.ensures.0

pub returns-in-Some : goal.returns-in-Some
returns-in-Some g c =
    let h = c.in-Nothing.ensures in
    let u = c.in-Some.ensures in
    let b : c.in-Some.atom < length c.args.state.now.grown.atoms = subst (λ (n : ℕ). c.in-Some.atom < n) c.atom_count.ensures u.0 in
    pushed-outcome c.push-in-Some.result (aim_of c.args.problem.now g.T.Theory.MAY_SPLIT) g.T.Theory.MAY_STOP c.args.budget c.args.state.now (lit_of c.in-Some.atom c.sign_of-positive.result) None c.push-in-Some.new.trail
    c.requires.search h.1 u.1 b h.0 c.push-in-Some.ensures
