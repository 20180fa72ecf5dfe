use Rattle.spec_trees.proofs.putting.put_exclusive.Goals as goal

pub returns : goal.returns
returns c = rw c.as_slice.ensures at c.put_text.ensures
