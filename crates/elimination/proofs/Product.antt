use Rattle.std.proofs.Common.{◌≡◌, ℕ, ◌+◌, length, true, ◌&&◌, List, [], ◌∷◌, ◌++◌, sym, ◌∙◌, ap, subst, arith, None, Some, ◌<◌, ℤ, pos, ◌<ℤ◌, is_none}
use Rattle.std.specs.Prelude.{nat_lt, nat_le, ◌==◌}
use Rattle.std.proofs.lemmas.List.{length-append}
use Rattle.std.proofs.lemmas.Bool.{and_from, le-leb, lt-ltb, eq-eqb}
use Rattle.lin_rows.specs.Rows.{Row, coefficient_at}
use Rattle.lin_rows.specs.Cancelling.{combined}
use Rattle.proof_lines.specs.declared.line.RangeWhat.TheVariants.{Product}
use Rattle.line_rows.specs.Steps.{row_at, is_positive, is_negative}
use Rattle.line_rows.specs.Evidence.{range_shown, all_cancel, is_beyond}
use Rattle.theory_api.specs.Elimination.{stage, first_place, meet, eliminate, ends_in_order}
use Rattle.theory_api.specs.Laws.{IsBeyond}
use Rattle.elimination.specs.declared.tableau.Tableau.{Tableau}
use Rattle.theory_api.specs.Ends.{last_stage}
use Rattle.elimination.specs.Tableaux.{IsRun, CanMeet}
use Rattle.theory_api.proofs.Ends.{eliminate-beyond, stage-last, last_stage-below}
use Rattle.elimination.proofs.Runs.{above-named, below-named}
use Rattle.elimination.proofs.Stopping.{given-some}
use Rattle.elimination.proofs.Signs.{lt_so}

-- a combination beyond the range of a row
pub beyond-product : (held : List Row) (place i j : ℕ) → i < length held → j < length held → pos 0 <ℤ coefficient_at (row_at held i).terms place → coefficient_at (row_at held j).terms place <ℤ pos 0
    → combined (row_at held i) (row_at held j) place ≡ None → is_beyond held (Product i j place) ≡ true
beyond-product held place i j l k a b e =
    and_from (nat_lt i (length held) && nat_lt j (length held)) ((is_positive (coefficient_at (row_at held i).terms place) && is_negative (coefficient_at (row_at held j).terms place)) && is_none (combined (row_at held i) (row_at held j) place))
    (and_from (nat_lt i (length held)) (nat_lt j (length held)) (lt-ltb i (length held) l) (lt-ltb j (length held) k))
    (and_from (is_positive (coefficient_at (row_at held i).terms place) && is_negative (coefficient_at (row_at held j).terms place)) (is_none (combined (row_at held i) (row_at held j) place))
    (and_from (is_positive (coefficient_at (row_at held i).terms place)) (is_negative (coefficient_at (row_at held j).terms place))
    (lt_so (pos 0) (coefficient_at (row_at held i).terms place) a) (lt_so (coefficient_at (row_at held j).terms place) (pos 0) b))
    (ap is_none e))

-- and its certificate in the tableau
pub product : (rows : List Row) (t : Tableau) (place i j : ℕ) → IsRun rows t → CanMeet t place i j → combined (row_at t.held i) (row_at t.held j) place ≡ None → IsBeyond rows t.used t.steps (Product i j place)
product rows t place i j g m e = record {
  given = given-some rows t g (let l = m.high_below in omega arith);
  shown = ap (range_shown t.steps (Product i j place)) g.held_is ∙ and_from (all_cancel t.held t.steps) (is_beyond t.held (Product i j place)) g.cancel (beyond-product t.held place i j m.high_below m.low_below m.high_sign m.low_sign e);
  held = t.held;
  held_is = g.held_is;
  chosen = tt;
  eliminated = record {
    order = t.order;
    different = g.order_different;
    in_order = eliminate-beyond t.order t.held 0 t.steps (Some (Product i j place)) g.in_order ends;
  };
}
  where
    u : (stage (m.before ++ place ∷ []) (row_at t.held i) ≡ length m.before) × (first_place (m.before ++ place ∷ []) (row_at t.held i) ≡ place)
    u = stage-last m.before place (row_at t.held i) m.high_none (above-named (coefficient_at (row_at t.held i).terms place) m.high_sign)

    v : (stage (m.before ++ place ∷ []) (row_at t.held j) ≡ length m.before) × (first_place (m.before ++ place ∷ []) (row_at t.held j) ≡ place)
    v = stage-last m.before place (row_at t.held j) m.low_none (below-named (coefficient_at (row_at t.held j).terms place) m.low_sign)

    long : length (m.before ++ place ∷ []) ≡ length m.before + 1
    long = length-append m.before (place ∷ [])

    met : meet (m.before ++ place ∷ []) (last_stage (m.before ++ place ∷ []) t.held 0 t.steps) (row_at t.held i) (row_at t.held j) ≡ true
    met =
        and_from (nat_le (last_stage (m.before ++ place ∷ []) t.held 0 t.steps) (stage (m.before ++ place ∷ []) (row_at t.held i)))
        (nat_lt (stage (m.before ++ place ∷ []) (row_at t.held i)) (length (m.before ++ place ∷ [])) && (stage (m.before ++ place ∷ []) (row_at t.held j) == stage (m.before ++ place ∷ []) (row_at t.held i)))
        (ap (λ n. nat_le (last_stage (m.before ++ place ∷ []) t.held 0 t.steps) n) u.0
        ∙ last_stage-below (m.before ++ place ∷ []) t.held 0 (length m.before) t.steps (subst (λ (o : List ℕ). eliminate o t.held 0 t.steps None ≡ true) m.order g.in_order) (let b = long in omega arith) (le-leb 0 (length m.before) (omega arith)))
        (and_from (nat_lt (stage (m.before ++ place ∷ []) (row_at t.held i)) (length (m.before ++ place ∷ []))) (stage (m.before ++ place ∷ []) (row_at t.held j) == stage (m.before ++ place ∷ []) (row_at t.held i))
        (lt-ltb (stage (m.before ++ place ∷ []) (row_at t.held i)) (length (m.before ++ place ∷ [])) (let a = u.0 in let b = long in omega arith))
        (eq-eqb (stage (m.before ++ place ∷ []) (row_at t.held j)) (stage (m.before ++ place ∷ []) (row_at t.held i)) (v.0 ∙ sym u.0)))

    ends : ends_in_order t.order t.held (last_stage t.order t.held 0 t.steps) (Some (Product i j place)) ≡ true
    ends =
        subst (λ (o : List ℕ). ends_in_order o t.held (last_stage o t.held 0 t.steps) (Some (Product i j place)) ≡ true) (sym m.order)
        (and_from (meet (m.before ++ place ∷ []) (last_stage (m.before ++ place ∷ []) t.held 0 t.steps) (row_at t.held i) (row_at t.held j)) (first_place (m.before ++ place ∷ []) (row_at t.held i) == place)
        met (eq-eqb (first_place (m.before ++ place ∷ []) (row_at t.held i)) place u.1))
