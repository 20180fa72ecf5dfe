use Rattle.spec_trees.specs.Form.{tree_of}
use Rattle.spec_types.proofs.Least.{if_faultless, if_least}
use Rattle.spec_types.proofs.typing.type_tree.Goals as goal

pub returns-clause-faultless : goal.returns-clause-faultless
returns-clause-faultless c = λ written. if_faultless (tree_of c.args.tree.now) (λ r. c.law_least_fault.ensures (tree_of c.args.tree.now) r written) c.typed.result c.typed.ensures.ok

pub returns-clause-least : goal.returns-clause-least
returns-clause-least c = λ written. if_least (tree_of c.args.tree.now) (λ r. c.law_least_fault.ensures (tree_of c.args.tree.now) r written) c.typed.result c.typed.ensures.err
