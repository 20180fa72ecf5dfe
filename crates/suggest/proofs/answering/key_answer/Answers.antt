use Rattle.std.proofs.Common.{subst}
use Rattle.spec_core.specs.Specification.{Specification}
use Rattle.suggest.specs.Answers.{IsFoundIn}
use Rattle.suggest.proofs.Bare.{free_at_key}
use Rattle.suggest.proofs.answering.key_answer.Goals as goal

pub find_in-requires-clause-free : goal.find_in-requires-clause-free
find_in-requires-clause-free c =
    let asked = c.args.question.now in
    free_at_key asked.spec.now asked.budget asked.pair.first c.args.key.p asked.pair.second c.args.key.q c.in_ok-keyed.keyed c.args.free.now c.in_ok-keyed.ensures c.requires.free

pub returns-clause-found : goal.returns-clause-found
returns-clause-found c =
    let asked = c.args.question.now in
    subst (λ (s : Specification). IsFoundIn s asked.budget asked.pair.first asked.pair.second c.in-Ok.value) c.in_ok-keyed.ensures c.in-Ok.ensures.found
