use Rattle.std.proofs.Common.{ℕ, List, refl, subst}
use Rattle.unit_propagation.specs.Watches.{code, AreKept}
use Rattle.unit_propagation.proofs.Changing.{put_back_one, none_left}
use Rattle.unit_propagation.proofs.propagation.Propagation.put_back.Goals as goal

pub loop-clause-preserved : goal.loop-clause-preserved
loop-clause-preserved c =
    let w = c.loop-clause.self.watches in (
      c.loop-clause.invariant.0,
      λ n cs t a. put_back_one n cs t (code c.args.gone) c.pop.new.self c.in-Some.clause w (record { pairs = w.pairs; lists = c.enter.new.lists; units = w.units })
          (subst (λ (z : List ℕ). AreKept n cs t (code c.args.gone) z w) c.in-Some.ensures.last (c.loop-clause.invariant.1 n cs t a)) refl c.in_ok-enter.ensures.kept c.in_ok-enter.ensures.there,
    )

pub returns-clause-kept : goal.returns-clause-kept
returns-clause-kept c = λ n cs t a. none_left n cs t (code c.args.gone) c.loop-clause.self.left c.loop-clause.self.watches c.in_default.ensures.none (c.loop-clause.invariant.1 n cs t a)
