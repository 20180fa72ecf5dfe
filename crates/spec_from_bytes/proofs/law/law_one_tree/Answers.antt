use Rattle.spec_from_bytes.proofs.OneTree.{one_tree}
use Rattle.spec_from_bytes.proofs.law.law_one_tree.Goals as goal

pub returns : goal.returns
returns c = one_tree
