use Rattle.std.proofs.Common.{◌≡◌, ◌<◌, true, ℕ, sym, subst, ◌∙◌}
use Rattle.proof_lines.specs.Numbers.{stands_in}
use Rattle.log_freshness.specs.Index.{spots}
use Rattle.log_freshness.proofs.Index.{spot-among}
use Rattle.log_freshness.proofs.freshness.rarest.Goals as goal
use Rattle.log_freshness.proofs.freshness.rarest.Goals.{then-is_other+then-clauses-fewest, else-is_other}

pub loop-lit-preserved : goal.loop-lit-preserved
loop-lit-preserved c =
    elim c.if-is_other.branch [
      | then-is_other+then-clauses-fewest w ↦ (
        subst (λ (z : ℕ). z < c.args.count) (sym w.best-is) c.spot-at.ensures.below,
        subst (λ (z : ℕ). stands_in (spots c.args.count c.args.lits.now) z ≡ true) (sym (w.best-is ∙ c.spot-at.ensures.is)) (spot-among c.args.count c.args.lits.now c.loop-lit.lit-index _ c.loop-lit-test.true),
      )
      | else-is_other w ↦ (
        subst (λ (z : ℕ). z < c.args.count) (sym w.best-is) c.loop-lit.invariant.0,
        subst (λ (z : ℕ). stands_in (spots c.args.count c.args.lits.now) z ≡ true) (sym w.best-is) c.loop-lit.invariant.1,
      )
    ]
