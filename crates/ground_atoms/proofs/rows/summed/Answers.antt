use Rattle.std.proofs.Common.{ℤ, ap, sym, ◌∙◌, FitsSigned, rules}
use Rattle.std.proofs.lemmas.Int.{to_z-of_z}
use Rattle.std.specs.Int.{w128}
use Rattle.lin_rows.specs.Sums.{row_of}
use Rattle.ground_atoms.proofs.Sums.{row_of-is}
use Rattle.ground_atoms.proofs.rows.summed.Goals as goal

pub returns-in-Ok : goal.returns-in-Ok
returns-in-Ok c =
    let f : FitsSigned w128 c.args.bound = search rules in
    row_of-is c.args.terms.now c.args.bound c.in-Ok.row (ap (λ (b : ℤ). row_of c.args.terms.now b) (sym (to_z-of_z w128 c.args.bound f)) ∙ c.in-Ok.ensures.row)
