use Rattle.diff_bounds.specs.Edges.{AreFirstEdges}
use Rattle.diff_bounds.proofs.edges.edges_of.Given as goal

abbrev pub invariant-loop-number : goal.invariant-loop-number
invariant-loop-number l = AreFirstEdges l.ints l.rows l.number l.edges.items
