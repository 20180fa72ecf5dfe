use Rattle.std.proofs.Common.{rules, List, subst, ◌∙◌, FitsSigned, to_z-of_z}
use mir.Syntax.{w128}
use Rattle.lin_rows.specs.declared.term.RowTerm.{RowTerm}
use Rattle.diff_bounds.specs.Edges.{LieBetween}
use Rattle.diff_bounds.proofs.Edging.{places-of, edge-is}
use Rattle.diff_bounds.proofs.edges.edge_of.Goals as goal

pub ends_of-ends-requires-clause-places : goal.ends_of-ends-requires-clause-places
ends_of-ends-requires-clause-places c = places-of c.args.ints c.args.row.now c.in_ok-tight.tight c.terms-terms.result.now c.terms-terms.ensures.terms c.in_ok-tight.ensures.tightened c.requires.places

pub returns : goal.returns
returns c =
    let f : FitsSigned w128 c.bound.result = search rules in
    edge-is c.args.ints c.args.row.now c.in_ok-tight.tight _ c.terms-terms.ensures.row c.in_ok-tight.ensures.tightened c.requires.taken
    (subst (λ (ts : List RowTerm). LieBetween c.args.ints ts c.ends_of-ends.result.from c.ends_of-ends.result.to) c.terms-terms.ensures.terms c.ends_of-ends.ensures) (to_z-of_z f ∙ c.bound.ensures.bound)
