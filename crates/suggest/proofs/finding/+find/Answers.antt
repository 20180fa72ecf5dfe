use Rattle.std.proofs.Common.{List, inl, inr, sym, subst, arith}
use Rattle.obligation_list.specs.declared.obligation.Obligation.{Obligation}
use Rattle.obligation_list.specs.Obligations.{IsObligation}
use Rattle.suggest.specs.Answers.{HaveLogs}
use Rattle.suggest.proofs.First.{first, first_member, others_members, witness_fits, first_proved, first_log, one_log_more, first_refuted, first_undecided}
use Rattle.suggest.proofs.finding.+find.Goals as goal

pub decide-requires-clause-member : goal.decide-requires-clause-member
decide-requires-clause-member t c = c.requires.members (first c.args.obligations.now) (first_member c.args.obligations.now c.in-len1-up.len_at_least)

pub find-requires : goal.find-requires
find-requires t c = (
  omega arith,
  (others_members (IsObligation c.args.spec.now) c.args.obligations.now c.in-len1-up.len_at_least c.requires.members, (c.requires.budget, (c.requires.free, c.requires.proved))),
)

pub find-requires-in-Undecided : goal.find-requires-in-Undecided
find-requires-in-Undecided t c = (
  omega arith,
  (others_members (IsObligation c.args.spec.now) c.args.obligations.now c.in-len1-up.len_at_least c.requires.members, (c.requires.budget, (c.requires.free, c.requires.proved))),
)

pub find-requires-in-Proved : goal.find-requires-in-Proved
find-requires-in-Proved t c = (
  omega arith,
  (
    others_members (IsObligation c.args.spec.now) c.args.obligations.now c.in-len1-up.len_at_least c.requires.members,
    (
      c.requires.budget,
      (
        c.requires.free,
        subst (λ (obs : List Obligation). HaveLogs c.args.spec.now c.args.budget obs) (sym c.in_ok-push-in-Proved.ensures.ok)
            (one_log_more c.args.spec.now c.args.budget c.args.proved.now (first c.args.obligations.now) c.requires.proved
            (first_log c.args.spec.now c.args.budget (first c.args.obligations.now) c.in_ok-log-in-len1-up.field-0 c.in-Proved.log c.in-Proved.is c.in_ok-log-in-len1-up.ensures.good)),
      ),
    ),
  ),
)

pub returns-then-is_among-clause-found : goal.returns-then-is_among-clause-found
returns-then-is_among-clause-found t c =
    first_proved c.args.spec.now c.args.budget c.args.obligations.now c.in-len1-up.len_at_least
    (inr (c.requires.free (first c.args.obligations.now) (c.is_among.ensures c.if-is_among.true)))
    c.find.result c.find.ensures.found

pub returns-in_ok-push-in-Proved-clause-found : goal.returns-in_ok-push-in-Proved-clause-found
returns-in_ok-push-in-Proved-clause-found t c =
    first_proved c.args.spec.now c.args.budget c.args.obligations.now c.in-len1-up.len_at_least
    (inl (first_log c.args.spec.now c.args.budget (first c.args.obligations.now) c.in_ok-log-in-len1-up.field-0 c.in-Proved.log c.in-Proved.is c.in_ok-log-in-len1-up.ensures.good))
    c.find-in-Proved.result c.find-in-Proved.ensures.found

pub returns-in-Refuted-clause-found : goal.returns-in-Refuted-clause-found
returns-in-Refuted-clause-found t c =
    first_refuted c.args.spec.now c.args.budget c.args.obligations.now c.in-len1-up.len_at_least c.in_ok-log-in-len1-up.field-0 c.in_ok-log-in-len1-up.ensures.good c.in-Refuted.witness c.in-Refuted.is

pub returns-in-Refuted-clause-fit : goal.returns-in-Refuted-clause-fit
returns-in-Refuted-clause-fit t c = (
  c.requires.members (first c.args.obligations.now) (first_member c.args.obligations.now c.in-len1-up.len_at_least),
  witness_fits c.args.spec.now (first c.args.obligations.now) c.in_ok-log-in-len1-up.field-0 c.in-Refuted.witness c.in-Refuted.is c.in_ok-log-in-len1-up.ensures.fit,
)

pub returns-in-Ok-clause-found : goal.returns-in-Ok-clause-found
returns-in-Ok-clause-found t c =
    first_undecided c.args.spec.now c.args.budget c.args.obligations.now c.in-len1-up.len_at_least c.in_ok-log-in-len1-up.field-0 c.in_ok-log-in-len1-up.ensures.good c.in-Undecided.cause c.in-Undecided.is
    c.in-Ok.value c.with_undecided.result c.with_undecided.ensures.found c.in-Ok.ensures.found

pub returns-in-Ok-clause-fit : goal.returns-in-Ok-clause-fit
returns-in-Ok-clause-fit t c =
    c.with_undecided.ensures.fit c.args.spec.now (c.requires.members (first c.args.obligations.now) (first_member c.args.obligations.now c.in-len1-up.len_at_least)) c.in-Ok.ensures.fit
