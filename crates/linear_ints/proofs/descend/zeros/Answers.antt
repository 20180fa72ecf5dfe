use Rattle.std.proofs.Common.{ℤ, List, ◌+◌, sym, subst, arith}
use Rattle.linear_ints.specs.Descending.{AreZeros}
use Rattle.linear_ints.proofs.Starting.{no-zeros, one-zero, same-count}
use Rattle.linear_ints.proofs.descend.zeros.Goals as goal

pub loop-place-init : goal.loop-place-init
loop-place-init c = subst (λ (l : List ℤ). AreZeros 0 l) (sym c.new-values.ensures) no-zeros

pub loop-place-preserved : goal.loop-place-preserved
loop-place-preserved c = subst (λ (l : List ℤ). AreZeros (c.loop-place.place + 1) l) (sym c.in_ok-push.ensures.ok) (one-zero c.loop-place.place c.loop-place.values c.loop-place.invariant)

pub returns : goal.returns
returns c = subst (λ (l : List ℤ). AreZeros c.args.count l) (sym c.into_vec.ensures) (same-count c.loop-place.place c.args.count c.loop-place.values c.loop-place.invariant (omega arith))
