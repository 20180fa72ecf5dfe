use Rattle.std.proofs.Common.{◌≡◌, ℕ, zero, suc, ◌<◌, ◌≤◌, ◌+◌, length, ℤ, pos, negsuc, neg_ℤ, ◌≤ℤ◌, ◌<ℤ◌, ◌^◌, Bool, true, false, cond, ◌||◌, List, [], ◌∷◌, ◌++◌, refl, sym, ◌∙◌, ap, subst, arith, Some, Ok, ◌⊎◌, inl, inr}
use Rattle.std.proofs.lemmas.Bool.{eqb-true, or_left, or_right}
use Rattle.std.specs.Prelude.{◌==◌}
use Rattle.std.proofs.lemmas.Int.{ints}
use Rattle.lin_rows.specs.Numbers.{is_zero}
use Rattle.lin_rows.specs.declared.term.RowTerm.{RowTerm}
use Rattle.lin_rows.specs.Rows.{Row, has_no_terms, coefficient_at, rises_from}
use Rattle.lin_rows.specs.Cancelling.{first_factor, second_factor}
use Rattle.lin_rows.specs.Sums.{row_sum}
use Rattle.lin_rows.proofs.Kept.{rises_of}
use Rattle.lin_rows.proofs.Points.{option_map-went}
use Rattle.lin_rows.specs.declared.combining.Combined.{Combined}
use Rattle.proof_lines.specs.Problems.{row_true}
use Rattle.line_rows.specs.Steps.{row_at}
use Rattle.line_rows.specs.Splits.{rest_at, split_cause}
use Rattle.proof_lines.proofs.Sets.{same_nat-refl}
use Rattle.theory_api.specs.Chosen.{Choice, is_named, chosen_point}
use Rattle.theory_api.specs.Elimination.{stage}
use Rattle.linear_ints.specs.Points.{with_value, values_of}
use Rattle.linear_ints.specs.Splitting.{Meet}
use Rattle.theory_api.specs.Ends.{after}
use Rattle.linear_ints.specs.Deciding.{nearest, Says, Lowest, Highest}
use Rattle.elimination.specs.Pairs.{place_at, Pair, Eliminated}
use Rattle.linear_ints.specs.Descent.{TrueFrom, Descended, Within}
use Rattle.linear_ints.proofs.Points.{chosen-unnamed}
use Rattle.linear_ints.proofs.Chosen.{constant-true}
use Rattle.theory_api.proofs.Ends.{after-more, are_driven-more}
use Rattle.linear_ints.proofs.Deciding.{low-satisfied, high-satisfied, nearest-driven, nearest-within, split-apart}
use Rattle.elimination.proofs.Stages.{stage-zero}
use Rattle.linear_ints.proofs.TrueRows.{true-next, combined-true}
use Rattle.elimination.proofs.Names.{all-named}

-- THE START: rows behind all stages name nothing

nothing : (ts : List RowTerm) → rises_from 0 ts ≡ true → ((q : ℕ) → is_zero (coefficient_at ts q) ≡ false → ⊥) → has_no_terms ts ≡ true
nothing [] k f = refl
nothing (t ∷ ts) k f = absurd (let n = all-named (λ q. false) 0 (t ∷ ts) k (λ q z. absurd (f q z)) in cc)

pub descended-start : (order : List ℕ) (held : List Row) → Eliminated order held → Descended order held (length order) []
descended-start order held e = record {
  driven = refl;
  true_from = λ i l h. constant-true (chosen_point []) (row_at held i)
      (nothing (row_at held i).terms (rises_of (row_at held i) (e.rows i l)) (λ q z. unnamed i l h q z (e.places i l q z))) (e.consistent i l);
  valued = λ m h l. absurd (omega arith);
  free = λ m h l. refl;
}
  where
    unnamed : (i : ℕ) → i < length held → length order ≤ stage order (row_at held i) → (q : ℕ) → is_zero (coefficient_at (row_at held i).terms q) ≡ false
        → (m : ℕ) × (m < length order) × (place_at order m ≡ q) → ⊥
    unnamed i l h q z (m, n, p) =
        let y = stage-zero order m (row_at held i) (omega arith) in
        let w = ap (λ r. is_zero (coefficient_at (row_at held i).terms r)) (sym p) ∙ ap is_zero y in absurd cc

-- A VALUE MORE

pub descended-value : (order : List ℕ) (held : List Row) (k : ℕ) (choices : List Choice) (low high : ℤ) → Eliminated order held → k < length order → Descended order held (suc k) choices
    → Lowest held (after [] choices) (place_at order k) low → Highest held (after [] choices) (place_at order k) high → Within order held k (after [] choices) low high → low ≤ℤ high
    → Descended order held k (choices ++ record { place = place_at order k; value = nearest low high } ∷ [])
descended-value order held k choices low high e l d lo hi w o = record {
  driven = are_driven-more held [] choices c d.driven new (nearest-driven held (after [] choices) (place_at order k) low high new lo hi);
  true_from = subst (λ (cs : List Choice). TrueFrom order held k (chosen_point cs)) (sym (after-more [] choices c))
      (true-next order held k (chosen_point (after [] choices)) (nearest low high) (chosen-unnamed (after [] choices) (place_at order k) new) e.rows d.true_from at_stage);
  valued = λ m h n. ap (λ (cs : List Choice). is_named cs (place_at order m)) (after-more [] choices c) ∙ named m n (order_of k m h);
  free = λ m h n. ap (λ (cs : List Choice). is_named cs (place_at order m)) (after-more [] choices c) ∙ unnamed m (place_at order k == place_at order m) refl (e.different m k h l) (d.free m (omega arith) n);
}
  where
    c : Choice
    c = record { place = place_at order k; value = nearest low high }

    new : is_named (after [] choices) (place_at order k) ≡ false
    new = d.free k (omega arith) l

    order_of : (k m : ℕ) → k ≤ m → (k ≡ m) ⊎ (k < m)
    order_of k m h = grind arith

    named : (m : ℕ) → m < length order → (k ≡ m) ⊎ (k < m) → ((place_at order k == place_at order m) || is_named (after [] choices) (place_at order m)) ≡ true
    named m n (inl h) = or_left (place_at order k == place_at order m) (is_named (after [] choices) (place_at order m)) (ap (λ i. place_at order i == place_at order m) h ∙ same_nat-refl (place_at order m))
    named m n (inr h) = or_right (place_at order k == place_at order m) (is_named (after [] choices) (place_at order m)) (d.valued m (omega arith) n)

    unnamed : (m : ℕ) (b : Bool) → (place_at order k == place_at order m) ≡ b → (place_at order k ≡ place_at order m → ⊥) → is_named (after [] choices) (place_at order m) ≡ false
        → (b || is_named (after [] choices) (place_at order m)) ≡ false
    unnamed m true h f g = absurd (f (eqb-true (place_at order k) (place_at order m) h))
    unnamed m false h f g = g

    -- the place of a stage that a row has is named by it
    at_place : (i : ℕ) → stage order (row_at held i) ≡ k → is_zero (coefficient_at (row_at held i).terms (place_at order k)) ≡ false
    at_place i s = ap (λ n. is_zero (coefficient_at (row_at held i).terms (place_at order n))) (sym s) ∙ stage_named order (row_at held i) (subst (λ (n : ℕ). n < length order) (sym s) l)
      where
        stage_named : (order : List ℕ) (r : Row) → stage order r < length order → is_zero (coefficient_at r.terms (place_at order (stage order r))) ≡ false
        stage_named [] r h = absurd (omega arith)
        stage_named (p ∷ order) r h = by_zero (is_zero (coefficient_at r.terms p)) refl h (stage_named order r)
          where
            shift : (n : ℕ) → place_at (p ∷ order) (1 + n) ≡ place_at order n
            shift n = let e : 1 + n ≡ suc n = omega arith in ap (λ m. place_at (p ∷ order) m) e

            by_zero : (b : Bool) → is_zero (coefficient_at r.terms p) ≡ b → cond b (1 + stage order r) 0 < suc (length order)
                → (stage order r < length order → is_zero (coefficient_at r.terms (place_at order (stage order r))) ≡ false)
                → is_zero (coefficient_at r.terms (place_at (p ∷ order) (cond b (1 + stage order r) 0))) ≡ false
            by_zero true e h f = ap (λ q. is_zero (coefficient_at r.terms q)) (shift (stage order r)) ∙ f (omega arith)
            by_zero false e h f = e

    sign_of : (a : ℤ) → is_zero a ≡ false → (a <ℤ pos 0) ⊎ (pos 0 <ℤ a)
    sign_of (pos zero) h = absurd cc
    sign_of (pos (suc n)) h = inr (omega (arith, ints))
    sign_of (negsuc n) h = inl (omega (arith, ints))

    within : (low ≤ℤ nearest low high) × (nearest low high ≤ℤ high)
    within = nearest-within low high o

    at_stage : (i : ℕ) → i < length held → stage order (row_at held i) ≡ k → row_true (with_value (chosen_point (after [] choices)) (place_at order k) (nearest low high)) (row_at held i) ≡ true
    at_stage i n s = elim (sign_of (coefficient_at (row_at held i).terms (place_at order k)) (at_place i s)) [
      | inl g ↦ (let b = w.lows i n s g in low-satisfied held (after [] choices) (place_at order k) i b.0 low (nearest low high) new g b.1 b.2 within.0)
      | inr g ↦ (let b = w.highs i n s g in high-satisfied held (after [] choices) (place_at order k) i b.0 high (nearest low high) new g b.1 b.2 within.1)
    ]

-- A PAIR AT A STAGE meets the conditions of a split, where its rests are in range

pub pair-meets : (order : List ℕ) (held : List Row) (k : ℕ) (choices : List Choice) (i j : ℕ) (u v : ℤ) → Eliminated order held → k < length order → Descended order held (suc k) choices → Pair order held k j i
    → rest_at (chosen_point (after [] choices)) (row_at held i) ≡ Some u → rest_at (chosen_point (after [] choices)) (row_at held j) ≡ Some v
    → Meet (chosen_point (after [] choices)) (place_at order k) (row_at held i) (row_at held j)
pair-meets order held k choices i j u v e l d p a b =
    let c = e.pairs k j i l p in
    let w = option_map-went (λ sum. record { row = sum; first = first_factor (row_at held j) (row_at held i) (place_at order k); second = second_factor (row_at held j) (row_at held i) (place_at order k) })
    (row_sum (row_at held j) (first_factor (row_at held j) (row_at held i) (place_at order k)) (row_at held i) (second_factor (row_at held j) (row_at held i) (place_at order k))) c.sum c.sum_is in
    record {
      low_row = e.rows i p.low_below;
      high_row = e.rows j p.high_below;
      low_sign = p.low_sign;
      high_sign = p.high_sign;
      no_value = chosen-unnamed (after [] choices) (place_at order k) (d.free k (omega arith) l);
      low_rest = u;
      high_rest = v;
      low_rest_is = a;
      high_rest_is = b;
      sum = c.sum.row;
      sum_is = w.1 ∙ ap (λ (s : Combined). Some s.row) w.2;
      sum_true = combined-true order held k (chosen_point (after [] choices)) (row_at held j) (row_at held i) c (e.rows j p.high_below) (e.rows i p.low_below) l p.high_stage p.low_stage p.high_sign p.low_sign d.true_from;
    }

-- SPLIT: where the lowest value is above the highest
pub descended-split : (order : List ℕ) (held : List Row) (k : ℕ) (choices : List Choice) (i j : ℕ) (low high u v : ℤ) → Eliminated order held → k < length order → Descended order held (suc k) choices → Pair order held k j i
    → rest_at (chosen_point (after [] choices)) (row_at held i) ≡ Some u → rest_at (chosen_point (after [] choices)) (row_at held j) ≡ Some v
    → Says held (after [] choices) (place_at order k) i low → Says held (after [] choices) (place_at order k) j (neg_ℤ high) → neg_ℤ (pos (10 ^ 15)) ≤ℤ high → low ≤ℤ pos (10 ^ 15) → high <ℤ low
    → split_cause (place_at order k) high (row_at held i) (row_at held j) (values_of (chosen_point (after [] choices)) (place_at order k) (row_at held i ∷ row_at held j ∷ [])) ≡ Ok tt
descended-split order held k choices i j low high u v e l d p a b s t g h o =
    split-apart held (after [] choices) (place_at order k) i j low high (d.free k (omega arith) l) s t g h o (pair-meets order held k choices i j u v e l d p a b)
