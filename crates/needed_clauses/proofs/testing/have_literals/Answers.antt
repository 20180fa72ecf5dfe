use Rattle.std.proofs.Common.{◌≡◌, ◌≤◌, ◌<◌, length, arith}
use Rattle.needed_clauses.specs.Renaming.{number_in}
use Rattle.needed_clauses.proofs.Tested.{literals-all}
use Rattle.needed_clauses.proofs.testing.have_literals.Goals as goal

pub returns : goal.returns
returns c = λ t.
    let n : length c.args.small.now ≡ length c.args.large.now = omega (arith, c.if-small-large.false) in
    literals-all (number_in c.args.atoms.now c.args.whole) c.args.small.now c.args.large.now n
    (λ i l. c.loop-place.invariant i (omega (arith, l, c.loop-place-test.false)))
