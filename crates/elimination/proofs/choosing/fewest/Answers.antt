use Rattle.std.proofs.Common.{◌≡◌, ℕ, true, sym, subst}
use Rattle.proof_lines.specs.Numbers.{stands_in}
use Rattle.elimination.proofs.Standing.{stands-there}
use Rattle.elimination.proofs.choosing.fewest.Goals as goal
use Rattle.elimination.proofs.choosing.fewest.Goals.{then-product-fewest, else-product-fewest}

pub loop-other-init : goal.loop-other-init
loop-other-init c = stands-there c.args.left.now 0 c.requires

pub loop-other-preserved : goal.loop-other-preserved
loop-other-preserved c = elim c.if-product-fewest.branch [
  | then-product-fewest w ↦ subst (λ (p : ℕ). stands_in c.args.left.now p ≡ true) (sym w.place-is) (stands-there c.args.left.now c.loop-other.other-index c.loop-other-test.true)
  | else-product-fewest w ↦ subst (λ (p : ℕ). stands_in c.args.left.now p ≡ true) (sym w.place-is) c.loop-other.invariant
]
