use Rattle.std.proofs.Common.{◌∙◌, ap, sym, List}
use Rattle.std.specs.List.{list_any}
use Rattle.lin_rows.specs.Rows.{Row}
use Rattle.line_rows.specs.Evidence.{same_row}
use Rattle.elimination.specs.Fingerprints.{found}
use Rattle.elimination.proofs.Fingerprinting.{not-held}
use Rattle.elimination.proofs.held.Held.has.Goals as goal

pub returns-in-None : goal.returns-in-None
returns-in-None c =
    sym (not-held (λ k. found c.self.inside.numbers k) c.self.inside.rows c.args.row.now c.self.invariant.0 (ap (λ k. found c.self.inside.numbers k) (sym c.fingerprint.ensures) ∙ sym c.find.ensures ∙ c.in-None.is))
    ∙ ap (λ (l : List Row). list_any (λ r. same_row r c.args.row.now) l) c.self.view_is
