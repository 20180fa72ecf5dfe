-- A row whose fingerprint isn't that of a held row isn't held.
use Rattle.std.proofs.Common.{◌≡◌, ℕ, suc, ◌<◌, ◌||◌, Bool, true, false, List, [], ◌∷◌, length, refl, sym, ◌∙◌, ap, arith, Option, None}
use Rattle.std.specs.Prelude.{is_some}
use Rattle.std.specs.List.{list_any}
use Rattle.lin_rows.specs.Rows.{Row}
use Rattle.line_rows.specs.Evidence.{same_row}
use Rattle.line_rows.specs.Steps.{row_at}
use Rattle.line_rows.proofs.Certificates.{same_row-is}
use Rattle.elimination.specs.Fingerprints.{fingerprint}

pub not-held : (f : ℕ → Option ℕ) (rows : List Row) (row : Row) → ((i : ℕ) → i < length rows → is_some (f (fingerprint (row_at rows i))) ≡ true) → f (fingerprint row) ≡ None
    → list_any (λ r. same_row r row) rows ≡ false
not-held f [] row h n = refl
not-held f (r ∷ rows) row h n = by_case (same_row r row) refl (h 0 (omega arith)) (not-held f rows row (λ i l. h (suc i) (omega arith)) n)
  where
    by_case : (b : Bool) → same_row r row ≡ b → is_some (f (fingerprint r)) ≡ true → list_any (λ q. same_row q row) rows ≡ false → (b || list_any (λ q. same_row q row) rows) ≡ false
    by_case true e s k = absurd (let x = ap (λ (q : Row). is_some (f (fingerprint q))) (same_row-is r row e) in let y = ap (λ (o : Option ℕ). is_some o) n in let z : true ≡ false = sym s ∙ x ∙ y in cc)
    by_case false e s k = k
