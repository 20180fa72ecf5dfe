use Rattle.std.proofs.Common.{◌≡◌, ◌<◌, length, true, List, [], ◌∷◌, ◌++◌, map, ◌∙◌, ap, arith, Ok}
use Rattle.std.specs.Prelude.{nat_lt}
use Rattle.std.specs.List.{list_all}
use Rattle.std.proofs.lemmas.List.{length-append, length-map}
use Rattle.std.proofs.lemmas.Bool.{and_from}
use Rattle.lin_rows.specs.Rows.{Row, is_contradiction}
use Rattle.lin_rows.specs.Divisors.{tightened}
use Rattle.line_rows.specs.Steps.{row_at, refutes_so, last_row}
use Rattle.line_rows.specs.Evidence.{all_different, all_cancel, rows_shown}
use Rattle.theory_api.specs.Laws.{rows_at, is_some_row, are_given, IsConflict, IsTooMany}
use Rattle.elimination.specs.declared.tableau.Tableau.{Tableau}
use Rattle.line_rows.specs.Evidence.{row_limit}
use Rattle.elimination.specs.Tableaux.{IsRun}
use Rattle.line_rows.proofs.KeptLines.{length-with_steps}
use Rattle.elimination.proofs.Pairing.{row_at-last}

-- THE CERTIFICATES of a tableau that stops

pub given-some : (rows : List Row) (t : Tableau) → IsRun rows t → 0 < length t.held → are_given rows t.used ≡ true
given-some rows t g h = and_from (is_some_row t.used) (list_all (λ u. nat_lt u (length rows)) t.used) (g.some h) g.given

-- the held rows end with a contradiction
pub conflict : (rows : List Row) (t : Tableau) (held : List Row) (r : Row) → IsRun rows t → t.held ≡ held ++ r ∷ [] → is_contradiction r ≡ true → IsConflict rows t.used t.steps
conflict rows t held r g e b = record {
  given = given-some rows t g (let l = ap (λ (l : List Row). length l) e in let n = length-append held (r ∷ []) in omega arith);
  refuted = ap refutes_so (g.held_is ∙ ap (λ (l : List Row). Ok l) e) ∙ (ap is_contradiction (last held r) ∙ b);
}
  where
    last : (held : List Row) (r : Row) → last_row (held ++ r ∷ []) ≡ r
    last held r = ap (λ n. row_at (held ++ r ∷ []) n) (let n = length-append held (r ∷ []) in omega arith) ∙ row_at-last held r

-- ten thousand different rows are held
pub full : (rows : List Row) (t : Tableau) → IsRun rows t → all_different t.held ≡ true → length t.held ≡ row_limit → IsTooMany rows t.used t.steps
full rows t g d n = record {
  given = given-some rows t g (omega arith);
  count = (let l = length-with_steps (map tightened (rows_at rows t.used)) t.steps t.held g.held_is in let a = length-map (rows_at rows t.used) tightened in let b = length-map t.used (row_at rows) in omega arith);
  shown = ap (rows_shown t.steps) g.held_is ∙ and_from (all_different t.held) (all_cancel t.held t.steps) d g.cancel;
  held = t.held;
  held_is = g.held_is;
  eliminated = record { order = t.order; different = g.order_different; in_order = g.in_order };
}
