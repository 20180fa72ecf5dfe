use Rattle.sat_core.proofs.Outcomes.{aim_of}
use Rattle.sat_core.proofs.Checked.{none_false}
use Rattle.watched_search.proofs.Continuing.{checked-continue, outcome_stays}
use Rattle.watched_search.proofs.solving.WatchedSearch.check_trail.Goals as goal

pub resume-requires : goal.resume-requires
resume-requires g c =
    let s = c.args.self.now.state in
    record {
      may_continue = checked-continue c.in-Ok.outcome (aim_of c.args.problem.now g.T.Theory.MAY_SPLIT) g.T.Theory.MAY_STOP c.args.budget s c.final_check.new.self c.args.self.now.index.watches
          c.in-Ok.ensures.outcome c.requires.kept c.requires.rest (none_false s.grown.clauses s.trail c.requires.settled) c.in-Ok.ensures.stays;
    }

pub returns-in-Ok-clause-outcome : goal.returns-in-Ok-clause-outcome
returns-in-Ok-clause-outcome g c =
    outcome_stays c.in-Ok.outcome c.resume.result (aim_of c.args.problem.now g.T.Theory.MAY_SPLIT) g.T.Theory.MAY_STOP c.args.budget c.args.self.now.state c.final_check.new.self c.resume.new.self.state c.in-Ok.ensures.outcome c.resume.ensures.outcome c.resume.ensures.same
