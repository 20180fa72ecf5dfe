use Rattle.std.proofs.Common.{◌≡◌, ℕ, zero, suc, ◌<◌, ◌≤◌, ◌+◌, ◌^◌, length, ℤ, pos, negsuc, neg_ℤ, ◌-ℤ◌, ◌<ℤ◌, ◌≤ℤ◌, unsigned_abs, Bool, true, false, cond, ◌&&◌, List, [], ◌∷◌, map, ◌++◌, take, refl, sym, ◌∙◌, ap, subst, arith, None, Some, Err, Result, ◌⊎◌, inl, inr}
use Rattle.std.specs.Prelude.{int_lt, nat_lt, ◌==◌, slice_set}
use Rattle.std.specs.List.{list_all}
use Rattle.std.proofs.lemmas.Int.{ints}
use Rattle.std.proofs.lemmas.List.{length-map, length-set}
use Rattle.std.proofs.lemmas.Bool.{and_parts, and_from, lt-ltb, eq-eqb, ne_eqb, le-leb, leb-true, or_left}
use Rattle.lin_rows.specs.Numbers.{is_zero, fit, in_range}
use Rattle.lin_rows.specs.Rows.{Row, is_row, coefficient_at, value_at, point_of, negated, opposite}
use Rattle.lin_rows.specs.Divisors.{tightened}
use Rattle.lin_rows.proofs.Points.{option_map-went}
use Rattle.proof_lines.specs.declared.line.RangeWhat.{RangeWhat}
use Rattle.proof_lines.specs.declared.line.RangeWhat.TheVariants.{Value, Sum}
use Rattle.proof_lines.specs.declared.line.Why.{Why}
use Rattle.proof_lines.specs.declared.line.Why.TheVariants.{Place}
use Rattle.line_rows.specs.Steps.{row_at, is_positive, is_negative}
use Rattle.line_rows.specs.Splits.{rest_at, other_names, split_fits, split_cause}
use Rattle.line_rows.specs.Refusals.{then_}
use Rattle.line_rows.specs.Splits.{at_most}
use Rattle.proof_lines.specs.Numbers.{stands_in}
use Rattle.line_rows.specs.Evidence.{in_state, range_shown, all_cancel, is_beyond}
use Rattle.theory_api.specs.Chosen.{Choice, chosen_point}
use Rattle.theory_api.specs.Elimination.{stage, ends_in_order}
use Rattle.theory_api.specs.Laws.{IsModel, IsBeyond, IsSplit, HasChosen}
use Rattle.elimination.specs.declared.tableau.Tableau.{Tableau}
use Rattle.linear_ints.specs.declared.bounds.FaultAt.{FaultAt}
use Rattle.linear_ints.specs.declared.bounds.Fault.{Fault}
use Rattle.linear_ints.specs.declared.bounds.Fault.TheVariants.{Sum as IsSum, Value as IsValue}
use Rattle.linear_ints.specs.Fractions.{size, InOrder, IsInGap}
use Rattle.linear_ints.specs.Points.{values_of, is_filled_but}
use Rattle.theory_api.specs.Ends.{names_none, after, last_stage}
use Rattle.linear_ints.specs.Ceilings.{IsBound, is_beyond as is_above_state}
use Rattle.linear_ints.specs.Deciding.{nearest, Says, Lowest, Highest}
use Rattle.elimination.specs.Pairs.{place_at, Pair, Eliminated}
use Rattle.linear_ints.specs.Descent.{Within, IsHeld}
use Rattle.elimination.specs.Tableaux.{IsElimination, AreTaken}
use Rattle.elimination.specs.Sides.{is_on}
use Rattle.linear_ints.specs.Bounds.{IsBoundAt, Attains, IsGreatest}
use Rattle.linear_ints.specs.Descending.{IsDescent, AreBounds, IsFault, IsFaultAt}
use Rattle.elimination.proofs.Signs.{lt_so, on-named}
use Rattle.linear_ints.proofs.Splitting.{le_is, rest_is}
use Rattle.linear_ints.proofs.Combining.{in_order}
use Rattle.linear_ints.proofs.Chosen.{chosen-one, chosen-two, point_of-set}
use Rattle.linear_ints.proofs.Points.{chosen-unnamed}
use Rattle.theory_api.proofs.Ends.{after-more, eliminate-beyond}
use Rattle.linear_ints.proofs.Deciding.{gap-apart}
use Rattle.linear_ints.proofs.TrueRows.{combined-true}
use Rattle.linear_ints.proofs.Filling.{filled-at}
use Rattle.linear_ints.proofs.Descent.{descended-start, descended-value, pair-meets, descended-split}
use Rattle.linear_ints.proofs.Models.{model}
use Rattle.linear_ints.proofs.Ranges.{beyond-value, beyond-sum}
use Rattle.elimination.proofs.Runs.{combined-sum}
use Rattle.elimination.proofs.Stopping.{given-some}
use Rattle.linear_ints.proofs.Unsettled.{unsettled-one, none-settles}
use Rattle.elimination.proofs.Standing.{stands-there}
use Rattle.elimination.proofs.Eliminating.{eliminated}

-- THE STAGE of a row on a side

-- a row that names no place before a stage, and names its place, has that stage
pub stage-on : (order : List ℕ) (k : ℕ) (r : Row) → k < length order → names_none (take k order) r ≡ true → is_zero (coefficient_at r.terms (place_at order k)) ≡ false → stage order r ≡ k
stage-on [] k r l n z = absurd (omega arith)
stage-on (p ∷ order) zero r l n z = ap (λ b. cond b (1 + stage order r) 0) z
stage-on (p ∷ order) (suc k) r l n z =
    let b = and_parts (is_zero (coefficient_at r.terms p)) (names_none (take k order) r) n in
    let ih = stage-on order k r (omega arith) b.1 z in
    let e : 1 + stage order r ≡ suc k = omega arith in
    ap (λ b. cond b (1 + stage order r) 0) b.0 ∙ e

-- and the other way round
pub on-stage : (order : List ℕ) (k : ℕ) (r : Row) → k < length order → stage order r ≡ k → names_none (take k order) r ≡ true
on-stage [] k r l s = absurd (omega arith)
on-stage (p ∷ order) zero r l s = refl
on-stage (p ∷ order) (suc k) r l s = by_zero (is_zero (coefficient_at r.terms p)) s (on-stage order k r (omega arith))
  where
    by_zero : (b : Bool) → cond b (1 + stage order r) 0 ≡ suc k → (stage order r ≡ k → names_none (take k order) r ≡ true) → (b && names_none (take k order) r) ≡ true
    by_zero true h f = f (omega arith)
    by_zero false h f = absurd (omega arith)

on-sign : (upper : Bool) (before : List ℕ) (place : ℕ) (r : Row) → is_on upper before place r ≡ true
    → (cond upper (is_positive (coefficient_at r.terms place)) (is_negative (coefficient_at r.terms place)) ≡ true) × (names_none before r ≡ true)
on-sign upper before place r h = and_parts (cond upper (is_positive (coefficient_at r.terms place)) (is_negative (coefficient_at r.terms place))) (names_none before r) h

positive_is : (a : ℤ) → is_positive a ≡ true → pos 0 <ℤ a
positive_is a h = omega (arith, ints, h)

negative_is : (a : ℤ) → is_negative a ≡ true → a <ℤ pos 0
negative_is a h = omega (arith, ints, h)

above-zero : (a : ℤ) → pos 0 <ℤ a → is_zero a ≡ false
above-zero (pos zero) h = absurd (omega arith)
above-zero (pos (suc n)) h = refl
above-zero (negsuc n) h = refl

below-zero : (a : ℤ) → a <ℤ pos 0 → is_zero a ≡ false
below-zero (pos zero) h = absurd (omega arith)
below-zero (pos (suc n)) h = refl
below-zero (negsuc n) h = refl

-- WHAT STANDS at a stage of the descent
-- a row at the stage gives a bound for the place
says : (t : Tableau) (k : ℕ) (values : List ℤ) (e : Eliminated t.order t.held) (d : IsDescent t (suc k) values) (i : ℕ) (b : ℤ) → k < length t.order → i < length t.held → stage t.order (row_at t.held i) ≡ k
    → IsBoundAt values (place_at t.order k) (row_at t.held i) b → Says t.held (after [] d.choices) (place_at t.order k) i b
says t k values e d i b l h s o = record {
  below = h;
  row = e.rows i h;
  filled = filled-at t.order k (after [] d.choices) (row_at t.held i) (e.rows i h) s (e.places i h) (λ m n q. d.descended.valued m (omega arith) q);
  bound_is = subst (λ (v : ℤ). IsBound b (v -ℤ (row_at t.held i).bound) (size (row_at t.held i) (place_at t.order k))) rest o.bound_is;
}
  where
    rest : o.rest ≡ value_at (chosen_point (after [] d.choices)) (row_at t.held i).terms
    rest = rest_is (point_of values) (row_at t.held i) o.rest o.rest_is ∙ ap (λ (x : ℕ → ℤ). value_at x (row_at t.held i).terms) (λ n q. d.agrees q n)

stage-attained : (upper : Bool) (t : Tableau) (k i : ℕ) → k < length t.order → is_on upper (take k t.order) (place_at t.order k) (row_at t.held i) ≡ true → stage t.order (row_at t.held i) ≡ k
stage-attained upper t k i l o =
    let s = on-sign upper (take k t.order) (place_at t.order k) (row_at t.held i) o in
    stage-on t.order k (row_at t.held i) l s.1 (by_sign upper (coefficient_at (row_at t.held i).terms (place_at t.order k)) s.0)
  where
    by_sign : (u : Bool) (a : ℤ) → cond u (is_positive a) (is_negative a) ≡ true → is_zero a ≡ false
    by_sign true a h = above-zero a (positive_is a h)
    by_sign false a h = below-zero a (negative_is a h)

-- a row of the stage stands on the side of its sign
on-low : (t : Tableau) (k i : ℕ) → k < length t.order → stage t.order (row_at t.held i) ≡ k → coefficient_at (row_at t.held i).terms (place_at t.order k) <ℤ pos 0 → is_on false (take k t.order) (place_at t.order k) (row_at t.held i) ≡ true
on-low t k i l s c = and_from (is_negative (coefficient_at (row_at t.held i).terms (place_at t.order k))) (names_none (take k t.order) (row_at t.held i)) (lt_so (coefficient_at (row_at t.held i).terms (place_at t.order k)) (pos 0) c) (on-stage t.order k (row_at t.held i) l s)

on-high : (t : Tableau) (k i : ℕ) → k < length t.order → stage t.order (row_at t.held i) ≡ k → pos 0 <ℤ coefficient_at (row_at t.held i).terms (place_at t.order k) → is_on true (take k t.order) (place_at t.order k) (row_at t.held i) ≡ true
on-high t k i l s c = and_from (is_positive (coefficient_at (row_at t.held i).terms (place_at t.order k))) (names_none (take k t.order) (row_at t.held i)) (lt_so (pos 0) (coefficient_at (row_at t.held i).terms (place_at t.order k)) c) (on-stage t.order k (row_at t.held i) l s)

-- A VALUE MORE

-- values with one written in stay in the range of a state
in_state-set : (values : List ℤ) (place : ℕ) (v : ℤ) → list_all in_state values ≡ true → in_state v ≡ true → list_all in_state (slice_set values place v) ≡ true
in_state-set [] place v h k = refl
in_state-set (w ∷ values) zero v h k = and_from (in_state v) (list_all in_state values) k (and_parts (in_state w) (list_all in_state values) h).1
in_state-set (w ∷ values) (suc place) v h k =
    let b = and_parts (in_state w) (list_all in_state values) h in
    and_from (in_state w) (list_all in_state (slice_set values place v)) b.0 (in_state-set values place v b.1 k)

in_state-from : (v : ℤ) → neg_ℤ (pos (10 ^ 15)) ≤ℤ v → v ≤ℤ pos (10 ^ 15) → in_state v ≡ true
in_state-from (pos n) h k = le-leb n (10 ^ 15) (omega (arith, ints))
in_state-from (negsuc n) h k = le-leb (suc n) (10 ^ 15) (omega (arith, ints))

in_state-low : (v : ℤ) → in_state v ≡ true → neg_ℤ (pos (10 ^ 15)) ≤ℤ v
in_state-low (pos n) h = omega (arith, ints)
in_state-low (negsuc n) h = let l = leb-true (suc n) (10 ^ 15) h in omega (arith, ints)

in_state-high : (v : ℤ) → in_state v ≡ true → v ≤ℤ pos (10 ^ 15)
in_state-high (pos n) h = let l = leb-true n (10 ^ 15) h in omega (arith, ints)
in_state-high (negsuc n) h = omega (arith, ints)

nearest-in_state : (low high : ℤ) → neg_ℤ (pos (10 ^ 15)) ≤ℤ low → low ≤ℤ pos (10 ^ 15) → neg_ℤ (pos (10 ^ 15)) ≤ℤ high → high ≤ℤ pos (10 ^ 15) → in_state (nearest low high) ≡ true
nearest-in_state low high a b c d = by_tests (int_lt (pos 0) low) (int_lt high (pos 0))
  where
    by_tests : (x y : Bool) → in_state (cond x low (cond y high (pos 0))) ≡ true
    by_tests true y = in_state-from low a b
    by_tests false true = in_state-from high c d
    by_tests false false = refl

bound-fits : (upper : Bool) (before : List ℕ) (place : ℕ) (held : List Row) (values : List ℤ) (n row : ℕ) (bound : ℤ) → IsGreatest upper before place held values n row bound → in_state bound ≡ true
bound-fits upper before place held values n row bound g = elim g.attained [
  | inl e ↦ subst (λ (v : ℤ). in_state v ≡ true) (sym e) refl
  | inr a ↦ a.bound_at.bound_is.fits
]

twice : (v : ℤ) → neg_ℤ (neg_ℤ v) ≡ v
twice v = omega (arith, ints)

pub descent-value : (rows : List Row) (t : Tableau) (k : ℕ) (values : List ℤ) (lr : ℕ) (low : ℤ) (hr : ℕ) (high : ℤ) → IsElimination rows t → t.left ≡ [] → k < length t.order → IsDescent t (suc k) values
    → AreBounds t k values lr low hr high → low ≤ℤ high → IsDescent t k (slice_set values (place_at t.order k) (nearest low high))
descent-value rows t k values lr low hr high x n l d b o = record {
  choices = d.choices ++ record { place = place_at t.order k; value = nearest low high } ∷ [];
  descended = descended-value t.order t.held k d.choices low high e l d.descended lowest highest within o;
  whole = length-set values (place_at t.order k) (nearest low high) ∙ d.whole;
  in_range = in_state-set values (place_at t.order k) (nearest low high) d.in_range
      (nearest-in_state low high (in_state-low low low_fits) (in_state-high low low_fits) (let h = in_state-high (neg_ℤ high) high_fits in omega (arith, ints)) (let h = in_state-low (neg_ℤ high) high_fits in omega (arith, ints)));
  agrees = λ q.
      point_of-set values (place_at t.order k) (nearest low high) q (subst (λ (m : ℕ). place_at t.order k < m) (sym d.whole) below)
      ∙ ap (λ (v : ℤ). cond (place_at t.order k == q) (nearest low high) v) (d.agrees q)
      ∙ sym (ap (λ (cs : List Choice). chosen_point cs q) (after-more [] d.choices (record { place = place_at t.order k; value = nearest low high })));
}
  where
    e : Eliminated t.order t.held
    e = eliminated rows t x n

    low_fits : in_state low ≡ true
    low_fits = bound-fits false (take k t.order) (place_at t.order k) t.held values (length t.held) lr low b.lows

    high_fits : in_state (neg_ℤ high) ≡ true
    high_fits = bound-fits true (take k t.order) (place_at t.order k) t.held values (length t.held) hr (neg_ℤ high) b.highs

    below : place_at t.order k < t.ints
    below = x.tableau.run.below (place_at t.order k) (or_left (stands_in t.order (place_at t.order k)) (stands_in t.left (place_at t.order k)) (stands-there t.order k l))

    lowest : Lowest t.held (after [] d.choices) (place_at t.order k) low
    lowest = elim b.lows.attained [
      | inl y ↦ inl y
      | inr a ↦ inr (lr, negative_is (coefficient_at (row_at t.held lr).terms (place_at t.order k)) (on-sign false (take k t.order) (place_at t.order k) (row_at t.held lr) a.on).0, says t k values e d lr low l a.below (stage-attained false t k lr l a.on) a.bound_at)
    ]

    highest : Highest t.held (after [] d.choices) (place_at t.order k) high
    highest = elim b.highs.attained [
      | inl y ↦ inl (omega (arith, ints))
      | inr a ↦ inr (hr, positive_is (coefficient_at (row_at t.held hr).terms (place_at t.order k)) (on-sign true (take k t.order) (place_at t.order k) (row_at t.held hr) a.on).0, says t k values e d hr (neg_ℤ high) l a.below (stage-attained true t k hr l a.on) a.bound_at)
    ]

    within : Within t.order t.held k (after [] d.choices) low high
    within = record {
      lows = λ i h s c. (let g = b.lows.greatest i h (on-low t k i l s c) in (g.0, says t k values e d i g.0 l h s g.1, g.2));
      highs = λ i h s c. (let g = b.highs.greatest i h (on-high t k i l s c) in (g.0, says t k values e d i g.0 l h s g.1, (let z = g.2 in omega (arith, ints))));
    }

-- ROWS AT A STAGE are in order

stage-first : (order : List ℕ) (k : ℕ) (r : Row) → k < length order → ((m : ℕ) → m < k → is_zero (coefficient_at r.terms (place_at order m)) ≡ true) → is_zero (coefficient_at r.terms (place_at order k)) ≡ false → stage order r ≡ k
stage-first [] k r l f z = absurd (omega arith)
stage-first (p ∷ order) zero r l f z = ap (λ b. cond b (1 + stage order r) 0) z
stage-first (p ∷ order) (suc k) r l f z =
    let ih = stage-first order k r (omega arith) (λ m h. f (suc m) (omega arith)) z in
    let e : 1 + stage order r ≡ suc k = omega arith in
    ap (λ b. cond b (1 + stage order r) 0) (f 0 (omega arith)) ∙ e

abbrev alone : ℕ → ℤ → ℤ → Row
alone place coef bound = record { terms = record { place = place; coef = coef } ∷ []; bound = bound }

alone-at : (place : ℕ) (coef bound : ℤ) → coefficient_at (alone place coef bound).terms place ≡ coef
alone-at place coef bound = ap (λ (b : Bool). cond b coef (pos 0)) (eq-eqb place place refl)

-- a row that names the place of a stage alone has that stage
stage-alone : (t : Tableau) (k : ℕ) (coef bound : ℤ) → Eliminated t.order t.held → k < length t.order → is_zero coef ≡ false → stage t.order (alone (place_at t.order k) coef bound) ≡ k
stage-alone t k coef bound e l z =
    stage-first t.order k (alone (place_at t.order k) coef bound) l
    (λ m h. ap (λ (b : Bool). is_zero (cond b coef (pos 0))) (ne_eqb (place_at t.order k) (place_at t.order m) (e.different m k h l)))
    (ap is_zero (alone-at (place_at t.order k) coef bound) ∙ z)

pair-order : (t : Tableau) (k : ℕ) (values : List ℤ) (e : Eliminated t.order t.held) (d : IsDescent t (suc k) values) (i j : ℕ) → k < length t.order → Pair t.order t.held k j i
    → InOrder (chosen_point (after [] d.choices)) (place_at t.order k) (row_at t.held i) (row_at t.held j)
pair-order t k values e d i j l p =
    let c = e.pairs k j i l p in
    in_order (chosen_point (after [] d.choices)) (row_at t.held j) (row_at t.held i) c.sum.row (place_at t.order k) (e.rows j p.high_below) (e.rows i p.low_below) p.high_sign p.low_sign
    (combined-sum (row_at t.held j) (row_at t.held i) (place_at t.order k) c.sum c.sum_is)
    (le_is (value_at (chosen_point (after [] d.choices)) c.sum.row.terms) c.sum.row.bound
    (combined-true t.order t.held k (chosen_point (after [] d.choices)) (row_at t.held j) (row_at t.held i) c (e.rows j p.high_below) (e.rows i p.low_below) l p.high_stage p.low_stage p.high_sign p.low_sign d.descended.true_from))

-- A GAP between the lowest and the highest value

-- both bounds come from rows, where the lowest is above the highest
pub both-attained : (t : Tableau) (k : ℕ) (values : List ℤ) (lr : ℕ) (low : ℤ) (hr : ℕ) (high : ℤ) → AreBounds t k values lr low hr high → high <ℤ low
    → Attains false (take k t.order) (place_at t.order k) t.held values lr low × Attains true (take k t.order) (place_at t.order k) t.held values hr (neg_ℤ high)
both-attained t k values lr low hr high b o = by_cases b.lows.attained b.highs.attained
  where
    low_fits : low ≤ℤ pos (10 ^ 15)
    low_fits = in_state-high low (bound-fits false (take k t.order) (place_at t.order k) t.held values (length t.held) lr low b.lows)

    high_fits : neg_ℤ high ≤ℤ pos (10 ^ 15)
    high_fits = in_state-high (neg_ℤ high) (bound-fits true (take k t.order) (place_at t.order k) t.held values (length t.held) hr (neg_ℤ high) b.highs)

    by_cases : (low ≡ neg_ℤ (pos (10 ^ 15))) ⊎ Attains false (take k t.order) (place_at t.order k) t.held values lr low
        → (neg_ℤ high ≡ neg_ℤ (pos (10 ^ 15))) ⊎ Attains true (take k t.order) (place_at t.order k) t.held values hr (neg_ℤ high)
        → Attains false (take k t.order) (place_at t.order k) t.held values lr low × Attains true (take k t.order) (place_at t.order k) t.held values hr (neg_ℤ high)
    by_cases (inl y) z = absurd (let f = high_fits in omega (arith, ints))
    by_cases (inr y) (inl z) = absurd (let f = low_fits in omega (arith, ints))
    by_cases (inr y) (inr z) = (y, z)

pub descent-gap : (rows : List Row) (t : Tableau) (k : ℕ) (values : List ℤ) (lr : ℕ) (low : ℤ) (hr : ℕ) (high : ℤ) → IsElimination rows t → t.left ≡ [] → k < length t.order → IsDescent t (suc k) values
    → AreBounds t k values lr low hr high → high <ℤ low
    → IsSplit t.ints rows (place_at t.order k) high t.used t.steps lr hr (map (point_of values) (other_names (place_at t.order k) (row_at t.held lr ∷ row_at t.held hr ∷ [])))
descent-gap rows t k values lr low hr high x n l d b o =
    subst (λ (y : ℕ → ℤ). IsSplit t.ints rows p high t.used t.steps lr hr (map y (other_names p (row_at t.held lr ∷ row_at t.held hr ∷ [])))) (sym agree) (record {
      place_below = x.tableau.run.below p (or_left (stands_in t.order p) (stands_in t.left p) (stands-there t.order k l));
      given = given-some rows t x.tableau.run (let h = a.0.below in omega arith);
      unsettled = none-settles p high rows (λ m h s. unsettled-one point p high (row_at t.held lr) (row_at t.held hr) (row_at rows m) no_value gap.0 gap.1 (upper_order m h) (lower_order m h) s);
      cause = ap (λ (r : Result (List Row) Why). then_ r (λ rs. cond (split_fits rs p lr hr found) (split_cause p high (row_at rs lr) (row_at rs hr) found) (Err Place))) x.tableau.run.held_is
          ∙ ap (λ (c : Bool). cond c (split_cause p high (row_at t.held lr) (row_at t.held hr) found) (Err Place)) fits
          ∙ descended-split t.order t.held k d.choices lr hr low high a.0.bound_at.rest a.1.bound_at.rest e l d.descended pair rest_low rest_high say_low say_high least_high most_low o;
      held = t.held;
      held_is = x.tableau.run.held_is;
      chosen = chosen-two t.held d.choices p (row_at t.held lr) (row_at t.held hr) x.tableau.consistent d.descended.driven say_low.filled say_high.filled;
      eliminated = record { order = t.order; different = x.tableau.run.order_different; in_order = x.tableau.run.in_order };
    })
  where
    p : ℕ
    p = place_at t.order k

    e : Eliminated t.order t.held
    e = eliminated rows t x n

    a : Attains false (take k t.order) (place_at t.order k) t.held values lr low × Attains true (take k t.order) (place_at t.order k) t.held values hr (neg_ℤ high)
    a = both-attained t k values lr low hr high b o

    point : ℕ → ℤ
    point = chosen_point (after [] d.choices)

    agree : point_of values ≡ chosen_point (after [] d.choices)
    agree = λ i q. d.agrees q i

    found : List ℤ
    found = values_of (chosen_point (after [] d.choices)) (place_at t.order k) (row_at t.held lr ∷ row_at t.held hr ∷ [])

    low_stage : stage t.order (row_at t.held lr) ≡ k
    low_stage = stage-attained false t k lr l a.0.on

    high_stage : stage t.order (row_at t.held hr) ≡ k
    high_stage = stage-attained true t k hr l a.1.on

    low_sign : coefficient_at (row_at t.held lr).terms (place_at t.order k) <ℤ pos 0
    low_sign = negative_is (coefficient_at (row_at t.held lr).terms (place_at t.order k)) (on-sign false (take k t.order) (place_at t.order k) (row_at t.held lr) a.0.on).0

    high_sign : pos 0 <ℤ coefficient_at (row_at t.held hr).terms (place_at t.order k)
    high_sign = positive_is (coefficient_at (row_at t.held hr).terms (place_at t.order k)) (on-sign true (take k t.order) (place_at t.order k) (row_at t.held hr) a.1.on).0

    pair : Pair t.order t.held k hr lr
    pair = record { high_below = a.1.below; low_below = a.0.below; high_stage = high_stage; low_stage = low_stage; high_sign = high_sign; low_sign = low_sign }

    rest_low : rest_at (chosen_point (after [] d.choices)) (row_at t.held lr) ≡ Some a.0.bound_at.rest
    rest_low = sym (ap (λ (y : ℕ → ℤ). rest_at y (row_at t.held lr)) agree) ∙ a.0.bound_at.rest_is

    rest_high : rest_at (chosen_point (after [] d.choices)) (row_at t.held hr) ≡ Some a.1.bound_at.rest
    rest_high = sym (ap (λ (y : ℕ → ℤ). rest_at y (row_at t.held hr)) agree) ∙ a.1.bound_at.rest_is

    say_low : Says t.held (after [] d.choices) (place_at t.order k) lr low
    say_low = says t k values e d lr low l a.0.below low_stage a.0.bound_at

    say_high : Says t.held (after [] d.choices) (place_at t.order k) hr (neg_ℤ high)
    say_high = says t k values e d hr (neg_ℤ high) l a.1.below high_stage a.1.bound_at

    least_high : neg_ℤ (pos (10 ^ 15)) ≤ℤ high
    least_high = let f = in_state-high (neg_ℤ high) a.1.bound_at.bound_is.fits in omega (arith, ints)

    most_low : low ≤ℤ pos (10 ^ 15)
    most_low = in_state-high low a.0.bound_at.bound_is.fits

    no_value : chosen_point (after [] d.choices) (place_at t.order k) ≡ pos 0
    no_value = chosen-unnamed (after [] d.choices) (place_at t.order k) (d.descended.free k (omega arith) l)

    gap : IsInGap high (value_at (chosen_point (after [] d.choices)) (row_at t.held lr).terms -ℤ (row_at t.held lr).bound) (size (row_at t.held lr) (place_at t.order k))
        × IsInGap high ((row_at t.held hr).bound -ℤ value_at (chosen_point (after [] d.choices)) (row_at t.held hr).terms) (size (row_at t.held hr) (place_at t.order k))
    gap =
        gap-apart t.held (after [] d.choices) (place_at t.order k) lr hr low high (d.descended.free k (omega arith) l) say_low say_high least_high most_low o
        (pair-meets t.order t.held k d.choices lr hr a.0.bound_at.rest a.1.bound_at.rest e l d.descended pair rest_low rest_high)

    fits : split_fits t.held (place_at t.order k) lr hr found ≡ true
    fits =
        and_from (nat_lt lr (length t.held)) (nat_lt hr (length t.held) && (length found == length (other_names (place_at t.order k) (row_at t.held lr ∷ row_at t.held hr ∷ [])))) (lt-ltb lr (length t.held) a.0.below)
        (and_from (nat_lt hr (length t.held)) (length found == length (other_names (place_at t.order k) (row_at t.held lr ∷ row_at t.held hr ∷ []))) (lt-ltb hr (length t.held) a.1.below)
        (eq-eqb (length found) (length (other_names (place_at t.order k) (row_at t.held lr ∷ row_at t.held hr ∷ []))) (length-map (other_names (place_at t.order k) (row_at t.held lr ∷ row_at t.held hr ∷ [])) (chosen_point (after [] d.choices)))))

    -- a given row `place <= at` is an upper row of the stage
    upper_order : (m : ℕ) → m < length rows → row_at rows m ≡ at_most (place_at t.order k) high → tightened (row_at rows m) ≡ at_most (place_at t.order k) high
        → InOrder (chosen_point (after [] d.choices)) (place_at t.order k) (row_at t.held lr) (at_most (place_at t.order k) high)
    upper_order m h u v =
        let g = x.taken m h in
        let is = g.2 ∙ v in
        subst (λ (r : Row). InOrder (chosen_point (after [] d.choices)) (place_at t.order k) (row_at t.held lr) r) is
        (pair-order t k values e d lr g.0 l (record {
          high_below = g.1;
          low_below = a.0.below;
          high_stage = ap (λ (r : Row). stage t.order r) is ∙ stage-alone t k (pos 1) high e l refl;
          low_stage = low_stage;
          high_sign = subst (λ (r : Row). pos 0 <ℤ coefficient_at r.terms (place_at t.order k)) (sym is) (subst (λ (c : ℤ). pos 0 <ℤ c) (sym (alone-at (place_at t.order k) (pos 1) high)) (omega (arith, ints)));
          low_sign = low_sign;
        }))

    -- and its opposite a lower one
    lower_order : (m : ℕ) → m < length rows → (q : Row) → negated (at_most (place_at t.order k) high) ≡ Some q → row_at rows m ≡ q → tightened (row_at rows m) ≡ q
        → InOrder (chosen_point (after [] d.choices)) (place_at t.order k) q (row_at t.held hr)
    lower_order m h q w u v =
        let g = x.taken m h in
        let y = option_map-went (λ c. record { terms = map opposite (at_most (place_at t.order k) high).terms; bound = c }) (fit (pos 0 -ℤ high -ℤ pos 1)) q w in
        let is : row_at t.held g.0 ≡ alone (place_at t.order k) (negsuc 0) y.0 = g.2 ∙ v ∙ sym y.2 in
        subst (λ (r : Row). InOrder (chosen_point (after [] d.choices)) (place_at t.order k) r (row_at t.held hr)) (g.2 ∙ v)
        (pair-order t k values e d g.0 hr l (record {
          high_below = a.1.below;
          low_below = g.1;
          high_stage = high_stage;
          low_stage = ap (λ (r : Row). stage t.order r) is ∙ stage-alone t k (negsuc 0) y.0 e l refl;
          high_sign = high_sign;
          low_sign = subst (λ (r : Row). coefficient_at r.terms (place_at t.order k) <ℤ pos 0) (sym is) (subst (λ (c : ℤ). c <ℤ pos 0) (sym (alone-at (place_at t.order k) (negsuc 0) y.0)) (omega (arith, ints)));
        }))

-- A ROW THAT GIVES NO BOUND

in_state-at : (values : List ℤ) (q : ℕ) → list_all in_state values ≡ true → in_state (point_of values q) ≡ true
in_state-at [] q h = refl
in_state-at (v ∷ values) zero h = (and_parts (in_state v) (list_all in_state values) h).0
in_state-at (v ∷ values) (suc q) h = in_state-at values q (and_parts (in_state v) (list_all in_state values) h).1

-- the certificate of a number beyond its range at a row of the stage
beyond-at : (rows : List Row) (t : Tableau) (k : ℕ) (values : List ℤ) (i : ℕ) (what : RangeWhat) → IsElimination rows t → i < length t.held → is_beyond t.held what ≡ true → HasChosen t.held what
    → ends_in_order t.order t.held (last_stage t.order t.held 0 t.steps) (Some what) ≡ true → IsBeyond rows t.used t.steps what
beyond-at rows t k values i what x l b c o = record {
  given = given-some rows t x.tableau.run (omega arith);
  shown = ap (range_shown t.steps what) x.tableau.run.held_is ∙ and_from (all_cancel t.held t.steps) (is_beyond t.held what) x.tableau.run.cancel b;
  held = t.held;
  held_is = x.tableau.run.held_is;
  chosen = c;
  eliminated = record { order = t.order; different = x.tableau.run.order_different; in_order = eliminate-beyond t.order t.held 0 t.steps (Some what) x.tableau.run.in_order o };
}

filled-on : (rows : List Row) (t : Tableau) (k : ℕ) (values : List ℤ) (upper : Bool) (i : ℕ) (x : IsElimination rows t) → t.left ≡ [] → k < length t.order → (d : IsDescent t (suc k) values) → i < length t.held
    → is_on upper (take k t.order) (place_at t.order k) (row_at t.held i) ≡ true → is_filled_but (after [] d.choices) (place_at t.order k) (row_at t.held i) ≡ true
filled-on rows t k values upper i x n l d h o =
    let e = eliminated rows t x n in
    filled-at t.order k (after [] d.choices) (row_at t.held i) (e.rows i h) (stage-attained upper t k i l o) (e.places i h) (λ m j q. d.descended.valued m (omega arith) q)

pub descent-value_beyond : (rows : List Row) (t : Tableau) (k : ℕ) (values : List ℤ) (upper : Bool) (i : ℕ) (rest : ℤ) → IsElimination rows t → t.left ≡ [] → k < length t.order → IsDescent t (suc k) values → i < length t.held
    → is_on upper (take k t.order) (place_at t.order k) (row_at t.held i) ≡ true → rest_at (point_of values) (row_at t.held i) ≡ Some rest → is_above_state (rest -ℤ (row_at t.held i).bound) (size (row_at t.held i) (place_at t.order k)) ≡ true
    → IsBeyond rows t.used t.steps (Value i (place_at t.order k) (map (point_of values) (other_names (place_at t.order k) (row_at t.held i ∷ []))))
descent-value_beyond rows t k values upper i rest x n l d h o r b =
    subst (λ (y : ℕ → ℤ). IsBeyond rows t.used t.steps (Value i (place_at t.order k) (map y (other_names (place_at t.order k) (row_at t.held i ∷ []))))) (sym agree)
    (beyond-at rows t k values i (Value i (place_at t.order k) (values_of (chosen_point (after [] d.choices)) (place_at t.order k) (row_at t.held i ∷ []))) x h
    (beyond-value t.held (chosen_point (after [] d.choices)) (place_at t.order k) i rest h (on-named upper (take k t.order) (place_at t.order k) (row_at t.held i) o)
    (chosen-unnamed (after [] d.choices) (place_at t.order k) (d.descended.free k (omega arith) l))
    (λ q. ap in_state (sym (d.agrees q)) ∙ in_state-at values q d.in_range)
    (sym (ap (λ (y : ℕ → ℤ). rest_at y (row_at t.held i)) agree) ∙ r) b)
    (chosen-one t.held d.choices (place_at t.order k) (row_at t.held i) x.tableau.consistent d.descended.driven (filled-on rows t k values upper i x n l d h o)) refl)
  where
    agree : point_of values ≡ chosen_point (after [] d.choices)
    agree = λ j q. d.agrees q j

pub descent-sum_beyond : (rows : List Row) (t : Tableau) (k : ℕ) (values : List ℤ) (upper : Bool) (i : ℕ) → IsElimination rows t → t.left ≡ [] → k < length t.order → IsDescent t (suc k) values → i < length t.held
    → is_on upper (take k t.order) (place_at t.order k) (row_at t.held i) ≡ true → rest_at (point_of values) (row_at t.held i) ≡ None
    → IsBeyond rows t.used t.steps (Sum i (place_at t.order k) (map (point_of values) (other_names (place_at t.order k) (row_at t.held i ∷ []))))
descent-sum_beyond rows t k values upper i x n l d h o r =
    subst (λ (y : ℕ → ℤ). IsBeyond rows t.used t.steps (Sum i (place_at t.order k) (map y (other_names (place_at t.order k) (row_at t.held i ∷ []))))) (sym agree)
    (beyond-at rows t k values i (Sum i (place_at t.order k) (values_of (chosen_point (after [] d.choices)) (place_at t.order k) (row_at t.held i ∷ []))) x h
    (beyond-sum t.held (chosen_point (after [] d.choices)) (place_at t.order k) i h (on-named upper (take k t.order) (place_at t.order k) (row_at t.held i) o)
    (chosen-unnamed (after [] d.choices) (place_at t.order k) (d.descended.free k (omega arith) l))
    (λ q. ap in_state (sym (d.agrees q)) ∙ in_state-at values q d.in_range)
    (sym (ap (λ (y : ℕ → ℤ). rest_at y (row_at t.held i)) agree) ∙ r))
    (chosen-one t.held d.choices (place_at t.order k) (row_at t.held i) x.tableau.consistent d.descended.driven (filled-on rows t k values upper i x n l d h o)) refl)
  where
    agree : point_of values ≡ chosen_point (after [] d.choices)
    agree = λ j q. d.agrees q j

-- AS THE CODE GOES

next : (t : Tableau) (k : ℕ) (values : List ℤ) → IsDescent t (k + 1) values → IsDescent t (suc k) values
next t k values d = let e : k + 1 ≡ suc k = omega arith in subst (λ (m : ℕ). IsDescent t m values) e d

-- a value is written in
pub put-done : (t : Tableau) (k : ℕ) (seen items new : List ℤ) (place : ℕ) (value put : ℤ) → IsDescent t k (slice_set seen (place_at t.order k) value) → seen ≡ items → place ≡ place_at t.order k → put ≡ value → new ≡ slice_set items place put → IsDescent t k new
put-done t k seen items new place value put d e p v n =
    subst (λ (l : List ℤ). IsDescent t k l) (sym n)
    (subst (λ (z : ℤ). IsDescent t k (slice_set items place z)) (sym v)
    (subst (λ (q : ℕ). IsDescent t k (slice_set items q value)) (sym p)
    (subst (λ (l : List ℤ). IsDescent t k (slice_set l (place_at t.order k) value)) e d)))

pub gap-at : (rows : List Row) (t : Tableau) (k : ℕ) (values : List ℤ) (lr : ℕ) (low : ℤ) (hr : ℕ) (high at : ℤ) (place : ℕ) (found : List ℤ) → IsElimination rows t → t.left ≡ [] → k < length t.order → IsDescent t (k + 1) values
    → AreBounds t k values lr low hr high → high <ℤ low → at ≡ high → place ≡ place_at t.order k → found ≡ map (point_of values) (other_names place (row_at t.held lr ∷ row_at t.held hr ∷ []))
    → IsSplit t.ints rows place at t.used t.steps lr hr found
gap-at rows t k values lr low hr high at place found x n l d b o e p f =
    subst (λ (v : List ℤ). IsSplit t.ints rows place at t.used t.steps lr hr v) (sym f)
    (subst (λ (z : ℤ). IsSplit t.ints rows place z t.used t.steps lr hr (map (point_of values) (other_names place (row_at t.held lr ∷ row_at t.held hr ∷ [])))) (sym e)
    (subst (λ (q : ℕ). IsSplit t.ints rows q high t.used t.steps lr hr (map (point_of values) (other_names q (row_at t.held lr ∷ row_at t.held hr ∷ [])))) (sym p) (descent-gap rows t k values lr low hr high x n l (next t k values d) b o)))

pub fault-sum : (rows : List Row) (t : Tableau) (k : ℕ) (values : List ℤ) (f : FaultAt) (place : ℕ) (found : List ℤ) → IsElimination rows t → t.left ≡ [] → k < length t.order → IsDescent t (k + 1) values
    → IsFaultAt (take k t.order) (place_at t.order k) t.held values f → place ≡ place_at t.order k → found ≡ map (point_of values) (other_names place (row_at t.held f.row ∷ [])) → f.fault ≡ IsSum
    → IsBeyond rows t.used t.steps (Sum f.row place found)
fault-sum rows t k values f place found x n l d a p e s =
    subst (λ (v : List ℤ). IsBeyond rows t.used t.steps (Sum f.row place v)) (sym e)
    (subst (λ (q : ℕ). IsBeyond rows t.used t.steps (Sum f.row q (map (point_of values) (other_names q (row_at t.held f.row ∷ []))))) (sym p)
    (descent-sum_beyond rows t k values a.upper f.row x n l (next t k values d) a.below a.on (subst (λ (g : Fault). IsFault values (place_at t.order k) (row_at t.held f.row) g) s a.fault)))

pub fault-value : (rows : List Row) (t : Tableau) (k : ℕ) (values : List ℤ) (f : FaultAt) (place : ℕ) (found : List ℤ) → IsElimination rows t → t.left ≡ [] → k < length t.order → IsDescent t (k + 1) values
    → IsFaultAt (take k t.order) (place_at t.order k) t.held values f → place ≡ place_at t.order k → found ≡ map (point_of values) (other_names place (row_at t.held f.row ∷ [])) → f.fault ≡ IsValue
    → IsBeyond rows t.used t.steps (Value f.row place found)
fault-value rows t k values f place found x n l d a p e s =
    let h = subst (λ (g : Fault). IsFault values (place_at t.order k) (row_at t.held f.row) g) s a.fault in
    subst (λ (v : List ℤ). IsBeyond rows t.used t.steps (Value f.row place v)) (sym e)
    (subst (λ (q : ℕ). IsBeyond rows t.used t.steps (Value f.row q (map (point_of values) (other_names q (row_at t.held f.row ∷ []))))) (sym p)
    (descent-value_beyond rows t k values a.upper f.row h.0 x n l (next t k values d) a.below a.on h.1 h.2))

-- the bounds of both sides, as they are found
pub bounds-of : (t : Tableau) (k : ℕ) (values : List ℤ) (lr : ℕ) (low : ℤ) (hr : ℕ) (opposite_high : ℤ) → IsGreatest false (take k t.order) (place_at t.order k) t.held values (length t.held) lr low
    → IsGreatest true (take k t.order) (place_at t.order k) t.held values (length t.held) hr opposite_high → AreBounds t k values lr low hr (pos 0 -ℤ opposite_high)
bounds-of t k values lr low hr v g h = record {
  lows = g;
  highs = subst (λ (w : ℤ). IsGreatest true (take k t.order) (place_at t.order k) t.held values (length t.held) hr w) (let e : v ≡ neg_ℤ (pos 0 -ℤ v) = omega (arith, ints) in e) h;
}

-- a bound is in the range of a row
pub bound-in_range : (upper : Bool) (before : List ℕ) (place : ℕ) (held : List Row) (values : List ℤ) (n row : ℕ) (bound : ℤ) → IsGreatest upper before place held values n row bound → in_range bound ≡ true
bound-in_range upper before place held values n row bound g = small (unsigned_abs bound) (leb-true (unsigned_abs bound) (10 ^ 15) (bound-fits upper before place held values n row bound g))
  where
    small : (a : ℕ) → a ≤ 10 ^ 15 → nat_lt a (2 ^ 127) ≡ true
    small a h = lt-ltb a (2 ^ 127) (omega arith)

pub crossing : (low high : ℤ) → int_lt high low ≡ true → high <ℤ low
crossing low high h = omega (arith, ints, h)

pub not-crossing : (low high : ℤ) → int_lt high low ≡ false → low ≤ℤ high
not-crossing low high h = omega (arith, ints, h)

pub value-chosen : (rows : List Row) (t : Tableau) (k : ℕ) (values : List ℤ) (lr : ℕ) (low : ℤ) (hr : ℕ) (v value : ℤ) → IsElimination rows t → t.left ≡ [] → k < length t.order → IsDescent t (k + 1) values
    → IsGreatest false (take k t.order) (place_at t.order k) t.held values (length t.held) lr low → IsGreatest true (take k t.order) (place_at t.order k) t.held values (length t.held) hr v → int_lt (pos 0 -ℤ v) low ≡ false
    → value ≡ nearest low (pos 0 -ℤ v) → IsDescent t k (slice_set values (place_at t.order k) value)
value-chosen rows t k values lr low hr v value x n l d g h o e =
    subst (λ (z : ℤ). IsDescent t k (slice_set values (place_at t.order k) z)) (sym e)
    (descent-value rows t k values lr low hr (pos 0 -ℤ v) x n l (next t k values d) (bounds-of t k values lr low hr v g h) (not-crossing low (pos 0 -ℤ v) o))

pub place-in : (rows : List Row) (t : Tableau) (k : ℕ) (values : List ℤ) (place : ℕ) → IsElimination rows t → k < length t.order → IsDescent t (k + 1) values → place ≡ place_at t.order k → place < length values
place-in rows t k values place x l d p =
    let b = x.tableau.run.below (place_at t.order k) (or_left (stands_in t.order (place_at t.order k)) (stands_in t.left (place_at t.order k)) (stands-there t.order k l)) in
    let w = d.whole in omega arith

-- THE MODEL at the end

held-all : (rows held : List Row) → AreTaken rows (length rows) held → IsHeld held rows
held-all [] held f = tt
held-all (r ∷ rows) held f = (f 0 (omega arith), held-all rows held (λ m h. f (suc m) (omega arith)))

pub descent-model : (rows : List Row) (t : Tableau) (values : List ℤ) → IsElimination rows t → list_all is_row rows ≡ true → IsDescent t 0 values → IsModel t.ints rows values
descent-model rows t values x k d = model t.ints t.order t.held d.choices rows values d.descended k (held-all rows t.held x.taken) d.whole d.in_range d.agrees

-- before the first value
pub descent-start : (rows : List Row) (t : Tableau) (values : List ℤ) → IsElimination rows t → t.left ≡ [] → length values ≡ t.ints → ((q : ℕ) → point_of values q ≡ pos 0) → list_all in_state values ≡ true
    → IsDescent t (length t.order) values
descent-start rows t values x n l z s = record { choices = []; descended = descended-start t.order t.held (eliminated rows t x n); whole = l; in_range = s; agrees = z }
