use Rattle.std.proofs.Common.{◌∙◌, sym, arith}
use Rattle.lazy_search.proofs.Implied.{implied_more}
use Rattle.lazy_search.proofs.choosing.implied_from.Goals as goal

pub loop-from-preserved : goal.loop-from-preserved
loop-from-preserved c =
    record {
      within = omega (arith, c.loop-from.invariant.within);
      implied =
          implied_more c.args.forms.now c.loop-from.from c.index-forms-from.result (omega (arith, c.loop-from-test.true)) c.loop-from.invariant.within
          c.index-forms-from.is (sym c.is_implied.ensures ∙ c.if-not-is_implied.false) c.loop-from.invariant.implied;
    }
