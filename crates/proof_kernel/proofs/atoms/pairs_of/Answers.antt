use Rattle.std.proofs.Common.{arith, ap, ◌∙◌}
use Rattle.proof_kernel.specs.Atoms.{pair_of}
use Rattle.proof_kernel.proofs.Pairs.{pairs-next}
use Rattle.proof_kernel.proofs.atoms.pairs_of.Goals as goal

pub loop-atom-preserved : goal.loop-atom-preserved
loop-atom-preserved c =
    pairs-next c.loop-atom.pairs c.make_room.new.pairs c.note.new.pairs c.args.atoms.now c.loop-atom.atom-index _ c.atom-item.result c.pair_of.result (omega arith) c.loop-atom-test.true
    (c.pair_of.ensures ∙ ap pair_of c.atom-item.is) c.loop-atom.invariant c.make_room.ensures.same c.note.ensures
