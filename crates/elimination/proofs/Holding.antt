use Rattle.std.proofs.Common.{◌≡◌, ℕ, ◌<◌, ◌≤◌, length, Bool, true, false, not, ◌||◌, List, [], ◌∷◌, ◌++◌, refl, sym, ◌∙◌, ap, subst, arith, Some, ◌⊎◌, inl, inr}
use Rattle.std.specs.List.{list_any}
use Rattle.std.proofs.lemmas.List.{length-append}
use Rattle.std.proofs.lemmas.List.Folds.{list_any-append}
use Rattle.std.proofs.lemmas.Bool.{and_parts, and_from}
use Rattle.lin_rows.specs.declared.combining.Combined.{Combined}
use Rattle.lin_rows.specs.Rows.{Row, has_no_terms, is_contradiction, coefficient_at}
use Rattle.lin_rows.specs.Cancelling.{combined, first_factor, second_factor}
use Rattle.lin_rows.specs.Numbers.{is_zero}
use Rattle.lin_rows.specs.Sums.{row_sum}
use Rattle.lin_rows.proofs.Points.{is_zero-is}
use Rattle.lin_rows.proofs.CancellingLemmas.{coefficient_at-combined}
use Rattle.line_rows.specs.Steps.{row_at}
use Rattle.line_rows.specs.Evidence.{same_row, all_different}
use Rattle.theory_api.specs.Laws.{IsConflict, IsTooMany}
use Rattle.elimination.specs.declared.tableau.Tableau.{Tableau}
use Rattle.theory_api.specs.Ends.{names_none}
use Rattle.elimination.specs.Pairs.{IsCombinedAt}
use Rattle.line_rows.specs.Evidence.{row_limit}
use Rattle.elimination.specs.Tableaux.{IsRun, IsTableau, CanMeet, IsGrown}
use Rattle.elimination.specs.Needed.{is_needed}
use Rattle.theory_api.proofs.Cancels.{all_different-more}
use Rattle.elimination.proofs.Growing.{grown-refl, held-at, row_at-append}
use Rattle.elimination.proofs.Pairing.{row_at-last}
use Rattle.elimination.proofs.Runs.{with_step, step_of, run-step, combined-sum}
use Rattle.elimination.proofs.Stages.{zero-sum}
use Rattle.elimination.proofs.Stopping.{conflict, full}

-- WHAT A COMBINATION ADDS to the held rows

-- what a row that is needed and no contradiction isn't
pub needed-new : (held : List Row) (r : Row) → is_needed held r ≡ true → is_contradiction r ≡ false → (has_no_terms r.terms ≡ false) × (list_any (λ q. same_row q r) held ≡ false)
needed-new held r h k = by_bool (is_contradiction r) (has_no_terms r.terms) (list_any (λ q. same_row q r) held) h k
  where
    by_bool : (a b c : Bool) → (a || not (b || c)) ≡ true → a ≡ false → (b ≡ false) × (c ≡ false)
    by_bool true b c h k = absurd cc
    by_bool false true c h k = absurd cc
    by_bool false false true h k = absurd cc
    by_bool false false false h k = (refl, refl)

-- a row that isn't needed is a constant that is no contradiction, or is held
pub not_needed : (held : List Row) (r : Row) → is_needed held r ≡ false → ((has_no_terms r.terms ≡ true) × (is_contradiction r ≡ false)) ⊎ (list_any (λ q. same_row q r) held ≡ true)
not_needed held r h = by_bool (is_contradiction r) (has_no_terms r.terms) (list_any (λ q. same_row q r) held) h
  where
    by_bool : (a b c : Bool) → (a || not (b || c)) ≡ false → ((b ≡ true) × (a ≡ false)) ⊎ (c ≡ true)
    by_bool true b c h = absurd cc
    by_bool false true c h = inl (refl, refl)
    by_bool false false true h = inr refl
    by_bool false false false h = absurd cc

pub sum-skipped : (rows : List Row) (t : Tableau) (place i j : ℕ) (c : Combined) → IsTableau rows t → combined (row_at t.held i) (row_at t.held j) place ≡ Some c → is_needed t.held c.row ≡ false
    → IsGrown rows t t × IsCombinedAt place t.held (row_at t.held i) (row_at t.held j)
sum-skipped rows t place i j c g e n = (record { tableau = g; grown = grown-refl t }, record { sum = c; sum_is = e; stands = by_case (not_needed t.held c.row n) })
  where
    by_case : ((has_no_terms c.row.terms ≡ true) × (is_contradiction c.row ≡ false)) ⊎ (list_any (λ q. same_row q c.row) t.held ≡ true)
        → ((has_no_terms c.row.terms ≡ true) × (is_contradiction c.row ≡ false)) ⊎ ((m : ℕ) × (m < length t.held) × (row_at t.held m ≡ c.row))
    by_case (inl h) = inl h
    by_case (inr h) = inr (held-at t.held c.row h)

pub sum-refuted : (rows : List Row) (t u : Tableau) (place i j : ℕ) (c : Combined) → IsTableau rows t → CanMeet t place i j → combined (row_at t.held i) (row_at t.held j) place ≡ Some c
    → u ≡ with_step t (step_of i j c) c.row → is_contradiction c.row ≡ true → IsConflict rows u.used u.steps
sum-refuted rows t u place i j c g m e k b =
    subst (λ (v : Tableau). IsConflict rows v.used v.steps) (sym k)
    (conflict rows (with_step t (step_of i j c) c.row) t.held c.row (run-step rows t place i j c g.run m e) refl b)

different : (held : List Row) (r : Row) → all_different held ≡ true → is_needed held r ≡ true → is_contradiction r ≡ false → all_different (held ++ r ∷ []) ≡ true
different held r d n b = all_different-more held r d (needed-new held r n b).1

pub sum-full : (rows : List Row) (t u : Tableau) (place i j : ℕ) (c : Combined) → IsTableau rows t → CanMeet t place i j → combined (row_at t.held i) (row_at t.held j) place ≡ Some c
    → u ≡ with_step t (step_of i j c) c.row → is_needed t.held c.row ≡ true → is_contradiction c.row ≡ false → row_limit ≤ length u.held → IsTooMany rows u.used u.steps
sum-full rows t u place i j c g m e k n b l =
    subst (λ (v : Tableau). IsTooMany rows v.used v.steps) (sym k)
    (full rows (with_step t (step_of i j c) c.row) (run-step rows t place i j c g.run m e) (different t.held c.row g.different n b)
    (let f = g.few in let a = length-append t.held (c.row ∷ []) in let q = ap (λ (v : Tableau). length v.held) k in omega arith))

-- a combination names no place of the order
none-sum : (t : Tableau) (place i j : ℕ) (c : Combined) (rows : List Row) → IsRun rows t → CanMeet t place i j → combined (row_at t.held i) (row_at t.held j) place ≡ Some c → names_none t.order c.row ≡ true
none-sum t place i j c rows g m e = subst (λ (o : List ℕ). names_none o c.row ≡ true) (sym m.order) (before m.before m.high_none m.low_none)
  where
    sum_is : row_sum (row_at t.held i) (first_factor (row_at t.held i) (row_at t.held j) place) (row_at t.held j) (second_factor (row_at t.held i) (row_at t.held j) place) ≡ Some c.row
    sum_is = combined-sum (row_at t.held i) (row_at t.held j) place c e

    zero : (p : ℕ) → is_zero (coefficient_at (row_at t.held i).terms p) ≡ true → is_zero (coefficient_at (row_at t.held j).terms p) ≡ true → is_zero (coefficient_at c.row.terms p) ≡ true
    zero p a b =
        ap is_zero
        (zero-sum (row_at t.held i) (first_factor (row_at t.held i) (row_at t.held j) place) (row_at t.held j) (second_factor (row_at t.held i) (row_at t.held j) place) c.row p (g.rows_are i m.high_below) (g.rows_are j m.low_below) sum_is
        (is_zero-is (coefficient_at (row_at t.held i).terms p) a) (is_zero-is (coefficient_at (row_at t.held j).terms p) b))

    last : is_zero (coefficient_at c.row.terms place) ≡ true
    last = ap is_zero (coefficient_at-combined (row_at t.held i) (row_at t.held j) place c.row (g.rows_are i m.high_below) (g.rows_are j m.low_below) m.high_sign m.low_sign sum_is)

    before : (order : List ℕ) → names_none order (row_at t.held i) ≡ true → names_none order (row_at t.held j) ≡ true → names_none (order ++ place ∷ []) c.row ≡ true
    before [] a b = and_from (is_zero (coefficient_at c.row.terms place)) true last refl
    before (p ∷ order) a b =
        let x = and_parts (is_zero (coefficient_at (row_at t.held i).terms p)) (names_none order (row_at t.held i)) a in
        let y = and_parts (is_zero (coefficient_at (row_at t.held j).terms p)) (names_none order (row_at t.held j)) b in
        and_from (is_zero (coefficient_at c.row.terms p)) (names_none (order ++ place ∷ []) c.row) (zero p x.0 y.0) (before order x.1 y.1)

pub sum-held : (rows : List Row) (t u : Tableau) (place i j : ℕ) (c : Combined) → IsTableau rows t → CanMeet t place i j → combined (row_at t.held i) (row_at t.held j) place ≡ Some c
    → u ≡ with_step t (step_of i j c) c.row → is_needed t.held c.row ≡ true → is_contradiction c.row ≡ false → length u.held < row_limit
    → IsGrown rows t u × IsCombinedAt place u.held (row_at u.held i) (row_at u.held j)
sum-held rows t u place i j c g m e k n b l =
    subst (λ (v : Tableau). IsGrown rows t v × IsCombinedAt place v.held (row_at v.held i) (row_at v.held j)) (sym k) (
      record {
        tableau = record {
          run = run-step rows t place i j c g.run m e;
          consistent = list_any-append is_contradiction t.held (c.row ∷ []) ∙ none (list_any is_contradiction t.held) (is_contradiction c.row) g.consistent b;
          different = different t.held c.row g.different n b;
          few = (let q = ap (λ (v : Tableau). length v.held) k in omega arith);
        };
        grown = record { ints = refl; order = refl; left = refl; more = c.row ∷ []; held = refl; none = and_from (names_none t.order c.row) true (none-sum t place i j c rows g.run m e) refl };
      },
      record {
        sum = c;
        sum_is = (λ n. combined (row_at-append t.held (c.row ∷ []) i m.high_below n) (row_at-append t.held (c.row ∷ []) j m.low_below n) place) ∙ e;
        stands = inr (length t.held, (let a = length-append t.held (c.row ∷ []) in omega arith), row_at-last t.held c.row);
      },
    )
  where
    none : (a b : Bool) → a ≡ false → b ≡ false → (a || (b || false)) ≡ false
    none true b h k = absurd cc
    none false true h k = absurd cc
    none false false h k = refl
