use Rattle.std.proofs.Common.{length}
use Rattle.ground_numbers.specs.Problem.{problem_of}
use Rattle.check_run.proofs.deciding.verdict_of.Goals as goal

pub returns-in-Sat-clause-decided : goal.returns-in-Sat-clause-decided
returns-in-Sat-clause-decided c = λ f.
    let asked = c.args.question.now in
    c.refute.ensures.decided (length (problem_of asked.spec.now asked.ob.now).atoms) asked.budget
