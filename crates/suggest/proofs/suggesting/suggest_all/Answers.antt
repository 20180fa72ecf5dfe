use Rattle.std.proofs.Common.{List, subst, sym, ◌∙◌}
use Rattle.std.specs.List.{Contains}
use Rattle.byte_ports.specs.declared.text.WriteOut.TheVariants.{Memory}
use Rattle.suggest.specs.Pairs.{IsPair}
use Rattle.suggest.specs.declared.answer.Pair.{Pair}
use Rattle.suggest.proofs.Whole.{nothing_left}
use Rattle.suggest.proofs.suggesting.suggest_all.Goals as goal

pub returns-in_default-clause-suggested : goal.returns-in_default-clause-suggested
returns-in_default-clause-suggested g c = nothing_left c.args.spec.now c.args.budget (g.K.Sink.held c.args.out.now) Memory

pub returns-in_default-bare-clause-suggested : goal.returns-in_default-bare-clause-suggested
returns-in_default-bare-clause-suggested g c = nothing_left c.args.spec.now c.args.budget (g.K.Sink.held c.args.out.now) Memory

pub suggest_listed-suggested-requires-clause-listed : goal.suggest_listed-suggested-requires-clause-listed
suggest_listed-suggested-requires-clause-listed g c = record {
  list = c.as_slice.ensures ∙ c.in-Ok.ensures.list;
  members = subst (λ (ps : List Pair). (x : Pair) → Contains ps x → IsPair c.args.spec.now x.first x.second) (sym c.as_slice.ensures) c.in-Ok.ensures.members;
}
