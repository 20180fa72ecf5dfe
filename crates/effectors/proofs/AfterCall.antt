-- After one call of a state whose values are in range, each value is at most 3 * 10^26 in size.
use Rattle.std.proofs.Common.{ℕ, ◌≤◌, ◌*◌, ◌^◌, pos, List, unsigned_abs, subst, sym, arith}
use Rattle.spec_core.specs.declared.world.World.{World}
use Rattle.spec_core.specs.declared.world.Call.{Call}
use Rattle.spec_core.specs.Specification.{Specification, op_of}
use Rattle.spec_core.specs.State.{Reads}
use Rattle.effectors.specs.Effect.{count_after, after}
use Rattle.effectors.specs.Places.{fits_counter}
use Rattle.effectors.proofs.Sizes.{InRange, cond_within, after_within}
use Rattle.effectors.proofs.Fitting.{CallUpdates}
use Rattle.effectors.proofs.Whole.{count-after}

pub after-small : (d : Specification) (w : World) (c : Call) (r : Reads) → InRange r → CallUpdates d w c → (k : ℕ) (t : List ℕ) → unsigned_abs ((after d w c r).count k t) ≤ 3 * 10 ^ 26
after-small d w c r i u k t =
    subst (λ v. unsigned_abs v ≤ 3 * 10 ^ 26) (sym (count-after d w c r k t))
    (cond_within (fits_counter d w k t) (count_after w r c.args k t (op_of d c.op).updates (r.count k t)) (pos 0) (3 * 10 ^ 26)
    (after_within d w r c.args i u.args k t (op_of d c.op).updates u.few u.fit) (omega arith))
