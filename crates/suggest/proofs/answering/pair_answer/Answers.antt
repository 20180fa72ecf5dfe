use Rattle.std.proofs.Common.{List, subst, sym, refl}
use Rattle.spec_core.specs.Specification.{Specification}
use Rattle.obligation_list.specs.declared.obligation.Obligation.{Obligation}
use Rattle.conflict_variants.specs.Bare.{bare}
use Rattle.suggest.specs.Answers.{HaveLogs, IsFoundIn}
use Rattle.suggest.proofs.answering.pair_answer.Goals as goal

pub keys_for-requires : goal.keys_for-requires
keys_for-requires c =
    let asked = c.args.question.now in
    let logs = subst (λ (s : Specification). HaveLogs s asked.budget c.find_bare.new.proved) asked.bare_is c.in-Ok.ensures.proved in
    record { free = subst (λ (obs : List Obligation). HaveLogs (bare asked.spec.now) asked.budget obs) (sym c.as_slice.ensures) logs }

pub returns : goal.returns
returns c = record {
  pair_is = refl;
  bare_found =
      let asked = c.args.question.now in
      subst (λ (s : Specification). IsFoundIn s asked.budget asked.pair.first asked.pair.second c.in-Ok.value) asked.bare_is c.in-Ok.ensures.found;
  keys = c.in-Ok-keys_for.ensures;
}
