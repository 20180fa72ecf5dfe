use Rattle.spec_trees.proofs.putting.put_observes.Goals as goal

pub returns : goal.returns
returns c = rw c.as_slice.ensures at c.put_text.ensures
