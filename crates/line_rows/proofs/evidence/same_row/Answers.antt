use Rattle.std.proofs.Common.{◌≡◌, true, subst}
use Rattle.lin_rows.specs.Rows.{Row}
use Rattle.line_rows.specs.Evidence.{same_row}
use Rattle.line_rows.proofs.Gap.{test_eq}
use Rattle.line_rows.proofs.Certificates.{same_row-refl, same_row-is}
use Rattle.line_rows.proofs.evidence.same_row.Goals as goal

pub returns : goal.returns
returns c =
    let a = c.args.a.now in
    let b = c.args.b.now in
    test_eq c.same_row.result (same_row a b)
    (λ t. subst (λ (z : Row). same_row a z ≡ true) (c.same_row.ensures.0 t) (same_row-refl a))
    (λ t. c.same_row.ensures.1 (same_row-is a b t))
