use Rattle.std.proofs.Common.{◌≡◌, ℕ, zero, suc, ◌<◌, ◌≤◌, length, ℤ, pos, negsuc, ◌<ℤ◌, Bool, true, false, ◌&&◌, ◌||◌, List, [], ◌∷◌, ◌++◌, map, refl, sym, ◌∙◌, ap, subst, arith, Some, None, Ok, ◌⊎◌, inl, inr}
use Rattle.std.specs.Prelude.{nat_lt}
use Rattle.std.specs.List.{list_all}
use Rattle.std.proofs.lemmas.List.{length-append, map-append}
use Rattle.std.proofs.lemmas.Bool.{and_from, or_right, cases_lt, lt-ltb}
use Rattle.std.proofs.lemmas.List.Folds.{list_all-append}
use Rattle.lin_rows.specs.declared.combining.Combined.{Combined}
use Rattle.lin_rows.specs.Numbers.{is_zero}
use Rattle.lin_rows.specs.Rows.{Row, is_row, coefficient_at}
use Rattle.lin_rows.specs.Divisors.{tightened}
use Rattle.lin_rows.specs.Sums.{row_sum}
use Rattle.lin_rows.specs.Cancelling.{combined, first_factor, second_factor}
use Rattle.lin_rows.proofs.Points.{option_map-went, is_zero-is}
use Rattle.lin_rows.proofs.Rounding.{is_row-tightened}
use Rattle.lin_rows.proofs.Sums.{is_row-sum}
use Rattle.proof_lines.specs.declared.line.RowStep.{RowStep}
use Rattle.line_rows.specs.Steps.{row_at, held_rows}
use Rattle.proof_lines.specs.Numbers.{stands_in}
use Rattle.line_rows.specs.Evidence.{cancels_at}
use Rattle.line_rows.proofs.Sound.{ok_is}
use Rattle.theory_api.specs.Elimination.{eliminate}
use Rattle.theory_api.specs.Laws.{rows_at, is_some_row}
use Rattle.elimination.specs.declared.tableau.Tableau.{Tableau}
use Rattle.elimination.specs.Tableaux.{IsRun, CanMeet}
use Rattle.elimination.proofs.Signs.{lt_so}
use Rattle.theory_api.proofs.Ends.{held_rows-more, row_at-more, steps-held, step_row-combined, cancels-combined, eliminate-row, eliminate-step}
use Rattle.elimination.proofs.Pairing.{row_at-last}
use Rattle.theory_api.proofs.Cancels.{all_cancel-row, all_cancel-step, cancels-at}
use Rattle.elimination.proofs.Stages.{zero-sum, zero-tightened}

-- A HELD ROW MORE

-- what holds of each row and of one more
pub at-more : (P : Row → Type 0) (held : List Row) (r : Row) → ((i : ℕ) → i < length held → P (row_at held i)) → P r → (i : ℕ) → i < length (held ++ r ∷ []) → P (row_at (held ++ r ∷ []) i)
at-more P held r f p i l = elim (cases_lt i (length held)) [
  | inl h ↦ subst P (sym (row_at-more held r i h)) (f i h)
  | inr h ↦ subst P (sym (ap (λ n. row_at (held ++ r ∷ []) n) (is h) ∙ row_at-last held r)) p
]
  where
    is : length held ≤ i → i ≡ length held
    is h = let n = length-append held (r ∷ []) in omega arith

some-more : (used : List ℕ) (n : ℕ) → is_some_row (used ++ n ∷ []) ≡ true
some-more [] n = refl
some-more (u ∷ used) n = refl

-- the held rows of the used ones and one more
held-given : (rows : List Row) (used : List ℕ) (n : ℕ) (held : List Row) → held_rows (rows_at rows used) [] ≡ Ok held
    → held_rows (rows_at rows (used ++ n ∷ [])) [] ≡ Ok (held ++ tightened (row_at rows n) ∷ [])
held-given rows used n held h =
    let e = ok_is (map tightened (map (row_at rows) used)) held (Ok (map tightened (map (row_at rows) used))) refl h in
    ap (λ (l : List Row). Ok l)
    (ap (λ (l : List Row). map tightened l) (map-append (row_at rows) used (n ∷ []))
    ∙ (map-append tightened (map (row_at rows) used) (row_at rows n ∷ [])
    ∙ ap (λ (l : List Row). l ++ tightened (row_at rows n) ∷ []) e))

-- A GIVEN ROW MORE, before any step

abbrev pub with_given : Tableau → ℕ → Row → Tableau
with_given t n r = record t { used = t.used ++ n ∷ []; held = t.held ++ r ∷ [] }

pub run-given : (rows : List Row) (t : Tableau) (n : ℕ) → IsRun rows t → t.steps ≡ [] → n < length rows → is_row (row_at rows n) ≡ true
    → ((q : ℕ) → is_zero (coefficient_at (row_at rows n).terms q) ≡ false → stands_in t.left q ≡ true)
    → IsRun rows (with_given t n (tightened (row_at rows n)))
run-given rows t n g none l k f = record {
  given = list_all-append (λ u. nat_lt u (length rows)) t.used (n ∷ []) ∙ and_from (list_all (λ u. nat_lt u (length rows)) t.used) (nat_lt n (length rows) && true) g.given (and_from (nat_lt n (length rows)) true (lt-ltb n (length rows) l) refl);
  some = λ h. some-more t.used n;
  held_is = subst (λ (ss : List RowStep). held_rows (rows_at rows (t.used ++ n ∷ [])) ss ≡ Ok (t.held ++ tightened (row_at rows n) ∷ [])) (sym none)
      (held-given rows t.used n t.held (subst (λ (ss : List RowStep). held_rows (rows_at rows t.used) ss ≡ Ok t.held) none g.held_is));
  rows_are = at-more (λ r. is_row r ≡ true) t.held (tightened (row_at rows n)) g.rows_are (is_row-tightened (row_at rows n) k);
  cancel = all_cancel-row t.held (tightened (row_at rows n)) t.steps g.cancel;
  order_different = g.order_different;
  in_order = (eliminate-row t.order t.held (tightened (row_at rows n)) 0 t.steps (steps-held (map tightened (rows_at rows t.used)) t.steps t.held g.held_is)).0 ∙ g.in_order;
  below = g.below;
  left_apart = g.left_apart;
  named = at-more (λ r. (q : ℕ) → is_zero (coefficient_at r.terms q) ≡ false → (stands_in t.order q || stands_in t.left q) ≡ true) t.held (tightened (row_at rows n)) g.named
      (λ q z. or_right (stands_in t.order q) (stands_in t.left q) (f q (loose q z)));
}
  where
    loose : (q : ℕ) → is_zero (coefficient_at (tightened (row_at rows n)).terms q) ≡ false → is_zero (coefficient_at (row_at rows n).terms q) ≡ false
    loose q z = by_zero (is_zero (coefficient_at (row_at rows n).terms q)) refl
      where
        by_zero : (b : Bool) → is_zero (coefficient_at (row_at rows n).terms q) ≡ b → is_zero (coefficient_at (row_at rows n).terms q) ≡ false
        by_zero false e = e
        by_zero true e = absurd (let w = ap is_zero (zero-tightened (row_at rows n) q k (is_zero-is (coefficient_at (row_at rows n).terms q) e)) in cc)

-- A STEP MORE

abbrev pub step_of : ℕ → ℕ → Combined → RowStep
step_of i j c = record { left = i; first = c.first; right = j; second = c.second }

abbrev pub with_step : Tableau → RowStep → Row → Tableau
with_step t s r = record t { steps = t.steps ++ s ∷ []; held = t.held ++ r ∷ [] }

-- the row of a combination
pub combined-sum : (high low : Row) (place : ℕ) (c : Combined) → combined high low place ≡ Some c
    → row_sum high (first_factor high low place) low (second_factor high low place) ≡ Some c.row
combined-sum high low place c e =
    let w = option_map-went (λ sum. record { row = sum; first = first_factor high low place; second = second_factor high low place }) (row_sum high (first_factor high low place) low (second_factor high low place)) c e in
    w.1 ∙ ap (λ (d : Combined). Some d.row) w.2

-- what the sum of two rows names, one of them names
pub named-sum : (high low : Row) (place : ℕ) (c : Combined) (q : ℕ) → is_row high ≡ true → is_row low ≡ true → combined high low place ≡ Some c → is_zero (coefficient_at c.row.terms q) ≡ false
    → (is_zero (coefficient_at high.terms q) ≡ false) ⊎ (is_zero (coefficient_at low.terms q) ≡ false)
named-sum high low place c q j k e z = by_zero (is_zero (coefficient_at high.terms q)) (is_zero (coefficient_at low.terms q)) refl refl
  where
    by_zero : (a b : Bool) → is_zero (coefficient_at high.terms q) ≡ a → is_zero (coefficient_at low.terms q) ≡ b
        → (is_zero (coefficient_at high.terms q) ≡ false) ⊎ (is_zero (coefficient_at low.terms q) ≡ false)
    by_zero false b u v = inl u
    by_zero true false u v = inr v
    by_zero true true u v =
        absurd
        (let w = ap is_zero (zero-sum high (first_factor high low place) low (second_factor high low place) c.row q j k (combined-sum high low place c e) (is_zero-is (coefficient_at high.terms q) u) (is_zero-is (coefficient_at low.terms q) v)) in cc)

pub below-named : (a : ℤ) → a <ℤ pos 0 → is_zero a ≡ false
below-named (pos zero) h = absurd (omega arith)
below-named (pos (suc n)) h = refl
below-named (negsuc n) h = refl

pub above-named : (a : ℤ) → pos 0 <ℤ a → is_zero a ≡ false
above-named (pos zero) h = absurd (omega arith)
above-named (pos (suc n)) h = refl
above-named (negsuc n) h = refl

pub run-step : (rows : List Row) (t : Tableau) (place i j : ℕ) (c : Combined) → IsRun rows t → CanMeet t place i j → combined (row_at t.held i) (row_at t.held j) place ≡ Some c
    → IsRun rows (with_step t (step_of i j c) c.row)
run-step rows t place i j c g m e = record {
  given = g.given;
  some = λ h. g.some (let l = m.high_below in omega arith);
  held_is = held_rows-more (rows_at rows t.used) t.steps t.held (step_of i j c) c.row g.held_is (step_row-combined t.held i j place c m.high_below m.low_below e);
  rows_are = at-more (λ r. is_row r ≡ true) t.held c.row g.rows_are
      (is_row-sum (row_at t.held i) (first_factor (row_at t.held i) (row_at t.held j) place) (row_at t.held j) (second_factor (row_at t.held i) (row_at t.held j) place) c.row (g.rows_are i m.high_below) (g.rows_are j m.low_below) (combined-sum (row_at t.held i) (row_at t.held j) place c e));
  cancel = all_cancel-row t.held c.row (t.steps ++ step_of i j c ∷ [])
      (all_cancel-step t.held t.steps (step_of i j c) g.cancel (cancels-at t.held (step_of i j c) place m.high_below m.low_below (above-named (coefficient_at (row_at t.held i).terms place) m.high_sign) cancels_it));
  order_different = g.order_different;
  in_order = (eliminate-row t.order t.held c.row 0 (t.steps ++ step_of i j c ∷ []) below).0 ∙ stepped;
  below = g.below;
  left_apart = g.left_apart;
  named = at-more (λ r. (q : ℕ) → is_zero (coefficient_at r.terms q) ≡ false → (stands_in t.order q || stands_in t.left q) ≡ true) t.held c.row g.named
      (λ q z. elim (named-sum (row_at t.held i) (row_at t.held j) place c q (g.rows_are i m.high_below) (g.rows_are j m.low_below) e z) [
        | inl h ↦ g.named i m.high_below q h
        | inr h ↦ g.named j m.low_below q h
      ]);
}
  where
    cancels_it : cancels_at (row_at t.held i) (row_at t.held j) (step_of i j c) place ≡ true
    cancels_it = cancels-combined (row_at t.held i) (row_at t.held j) i j place c (lt_so (pos 0) (coefficient_at (row_at t.held i).terms place) m.high_sign) (lt_so (coefficient_at (row_at t.held j).terms place) (pos 0) m.low_sign) e

    below : list_all (λ s. nat_lt s.left (length t.held) && nat_lt s.right (length t.held)) (t.steps ++ step_of i j c ∷ []) ≡ true
    below =
        list_all-append (λ (s : RowStep). nat_lt s.left (length t.held) && nat_lt s.right (length t.held)) t.steps (step_of i j c ∷ [])
        ∙ and_from (list_all (λ (s : RowStep). nat_lt s.left (length t.held) && nat_lt s.right (length t.held)) t.steps) ((nat_lt i (length t.held) && nat_lt j (length t.held)) && true)
        (steps-held (map tightened (rows_at rows t.used)) t.steps t.held g.held_is)
        (and_from (nat_lt i (length t.held) && nat_lt j (length t.held)) true (and_from (nat_lt i (length t.held)) (nat_lt j (length t.held)) (lt-ltb i (length t.held) m.high_below) (lt-ltb j (length t.held) m.low_below)) refl)

    stepped : eliminate t.order t.held 0 (t.steps ++ step_of i j c ∷ []) None ≡ true
    stepped =
        subst (λ (o : List ℕ). eliminate o t.held 0 (t.steps ++ step_of i j c ∷ []) None ≡ true) (sym m.order)
        (eliminate-step m.before place t.held t.steps (step_of i j c) (subst (λ (o : List ℕ). eliminate o t.held 0 t.steps None ≡ true) m.order g.in_order) m.high_none m.low_none cancels_it)
