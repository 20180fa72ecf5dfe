use Rattle.proof_kernel.proofs.Pairs.{noted}
use Rattle.proof_kernel.proofs.atoms.note.Goals as goal

pub returns-in-Some : goal.returns-in-Some
returns-in-Some c = noted c.args.pairs.now c.insert.new.self c.in-Some.pair c.insert.result c.args.pair (c.insert.ensures.succeeds c.requires) c.insert.ensures.updates c.in-Some.is
