use Rattle.std.proofs.Common.{◌<◌, length, arith}
use Rattle.lazy_ground.proofs.Wholes.{tuple_at, pair_made}
use Rattle.lazy_ground.proofs.completing.formula_at.Goals as goal

pub returns-clause-atoms : goal.returns-clause-atoms
returns-clause-atoms c =
    let within : c.args.earlier < length c.args.pairs.now.tuples = omega (arith, c.requires.earlier, c.requires.later) in
    (pair_made c.args.atoms.now c.congruent.new.atoms c.args.pairs.now c.args.earlier c.args.later _ _ c.congruent.result c.requires.named c.requires.earlier c.requires.later
    (tuple_at c.args.pairs.now.tuples _ c.args.earlier _ _ _ c.as_slice.ensures c.index-tuples-earlier.is c.as_slice-tuples.ensures within)
    (tuple_at c.args.pairs.now.tuples _ c.args.later _ _ _ c.as_slice-2.ensures c.index-tuples-later.is c.as_slice-tuples.ensures c.requires.later) c.congruent.ensures).0

pub returns-clause-formula : goal.returns-clause-formula
returns-clause-formula c =
    let within : c.args.earlier < length c.args.pairs.now.tuples = omega (arith, c.requires.earlier, c.requires.later) in
    (pair_made c.args.atoms.now c.congruent.new.atoms c.args.pairs.now c.args.earlier c.args.later _ _ c.congruent.result c.requires.named c.requires.earlier c.requires.later
    (tuple_at c.args.pairs.now.tuples _ c.args.earlier _ _ _ c.as_slice.ensures c.index-tuples-earlier.is c.as_slice-tuples.ensures within)
    (tuple_at c.args.pairs.now.tuples _ c.args.later _ _ _ c.as_slice-2.ensures c.index-tuples-later.is c.as_slice-tuples.ensures c.requires.later) c.congruent.ensures).1
