use Rattle.std.proofs.Common.{◌≤◌, ◌<◌, length, arith}
use Rattle.proof_lines.specs.Clauses.{negations}
use Rattle.sat_core.proofs.Shown.{false-negations, false-below}
use Rattle.sat_core.proofs.Ends.{search_exhausts}
use Rattle.sat_core.proofs.Checked.{none_false, refute_chain, learned-so}
use Rattle.sat_core.proofs.state.SearchState.refute.Goals as goal

pub returns-then-len-budget : goal.returns-then-len-budget
returns-then-len-budget c a y =
    let s = c.args.self.now in
    let b : c.args.budget ≤ length s.log = omega (arith, c.len.ensures, c.if-len-budget.true) in
    search_exhausts a c.args.budget s y c.requires.settled (none_false s.grown.clauses s.trail c.requires.settled) b (c.requires.uneasy a y)

pub learn-requires : goal.learn-requires
learn-requires c =
    let s = c.args.self.now in
    false-below (length s.grown.atoms) s.trail (negations c.args.used) (false-negations s.trail c.args.used c.requires.in_it) c.requires.search.below

pub analyze_conflict-requires : goal.analyze_conflict-requires
analyze_conflict-requires c =
    let s = c.args.self.now in
    let room : length s.log < c.args.budget = omega (arith, c.len.ensures, c.if-len-budget.false) in
    record {
      aim = c.requires.aim;
      before = length s.log;
      chain = (refute_chain c.requires.aim c.args.budget s c.args.used c.args.steps c.learn.new.self c.in-Ok.start
          c.requires.search c.requires.settled c.requires.in_it c.requires.taken (c.requires.uneasy c.requires.aim c.requires.search) room c.in-Ok.ensures).0;
    }

pub returns : goal.returns
returns c =
    let s = c.args.self.now in
    let room : length s.log < c.args.budget = omega (arith, c.len.ensures, c.if-len-budget.false) in
    learned-so c.analyze_conflict.result c.args.budget s c.learn.new.self c.in-Ok.start c.analyze_conflict.new.self
    (λ a y. refute_chain a c.args.budget s c.args.used c.args.steps c.learn.new.self c.in-Ok.start y c.requires.settled c.requires.in_it c.requires.taken (c.requires.uneasy a y) room c.in-Ok.ensures)
    (λ w. (c.in-Ok.ensures.4 s.grown.clauses w c.requires.settled (false-negations s.trail c.args.used c.requires.in_it)).2)
    c.analyze_conflict.ensures
