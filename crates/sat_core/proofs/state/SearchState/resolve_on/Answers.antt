use Rattle.std.proofs.Common.{◌≡◌, true, length, List, sym, subst}
use Rattle.proof_lines.specs.declared.clause.Lit.{Lit}
use Rattle.proof_lines.specs.Problems.{atoms_below}
use Rattle.sat_core.proofs.Keeping.{resolved-below}
use Rattle.sat_core.proofs.state.SearchState.resolve_on.Goals as goal

pub add_clause-requires : goal.add_clause-requires
add_clause-requires c =
    let q = c.args.self.now.grown in
    subst (λ (z : List Lit). atoms_below (length q.atoms) z ≡ true) (sym c.in_ok-clause.ensures)
    (resolved-below q c.law_fits.ensures c.args.lit c.args.reason c.args.reached c.requires.reason c.requires.reached)
