use Rattle.std.proofs.Common.{◌≡◌, ℕ, suc, ◌<◌, ◌≤◌, ◌+◌, length, pos, ◌<ℤ◌, Bool, true, false, cond, List, [], ◌∷◌, ◌++◌, refl, sym, ◌∙◌, ap, subst, arith, ◌⊎◌, inl, inr}
use Rattle.std.proofs.lemmas.Bool.{and_parts}
use Rattle.std.proofs.lemmas.List.{length-append, get_or_append_left}
use Rattle.lin_rows.specs.Numbers.{is_zero}
use Rattle.lin_rows.specs.Rows.{Row, has_no_terms, is_contradiction, coefficient_at}
use Rattle.lin_rows.specs.Cancelling.{combined}
use Rattle.line_rows.specs.Steps.{row_at}
use Rattle.theory_api.specs.Elimination.{stage}
use Rattle.theory_api.specs.Ends.{names_none}
use Rattle.elimination.specs.Pairs.{place_at, IsCombined, Pair, Paired}
use Rattle.theory_api.proofs.Ends.{row_at-more}

-- a row that names no place of the order stands behind it
pub stage-none : (order : List ℕ) (r : Row) → names_none order r ≡ true → stage order r ≡ length order
stage-none [] r h = refl
stage-none (p ∷ order) r h =
    let b = and_parts (is_zero (coefficient_at r.terms p)) (names_none order r) h in
    let ih = stage-none order r b.1 in
    let e = ap (λ c. cond c (1 + stage order r) 0) b.0 in omega arith

-- a combination stays one where a row more is held
combined-more : (order : List ℕ) (held : List Row) (s : Row) (k : ℕ) (high low : Row) → IsCombined order held k high low → IsCombined order (held ++ s ∷ []) k high low
combined-more order held s k high low c = record { sum = c.sum; sum_is = c.sum_is; stands = by_case c.stands }
  where
    by_case : ((has_no_terms c.sum.row.terms ≡ true) × (is_contradiction c.sum.row ≡ false)) ⊎ ((m : ℕ) × (m < length held) × (row_at held m ≡ c.sum.row))
        → ((has_no_terms c.sum.row.terms ≡ true) × (is_contradiction c.sum.row ≡ false)) ⊎ ((m : ℕ) × (m < length (held ++ s ∷ [])) × (row_at (held ++ s ∷ []) m ≡ c.sum.row))
    by_case (inl h) = inl h
    by_case (inr (m, l, e)) = inr (m, (let n = length-append held (s ∷ []) in omega arith), row_at-more held s m l ∙ e)

pub row_at-last : (held : List Row) (s : Row) → row_at (held ++ s ∷ []) (length held) ≡ s
row_at-last [] s = refl
row_at-last (r ∷ held) s = row_at-last held s

-- a held row more, which names no place of the order
pub paired-row : (order : List ℕ) (held : List Row) (s : Row) → Paired order held → names_none order s ≡ true → Paired order (held ++ s ∷ [])
paired-row order held s f n k i j l p = by_place (order_of i (length held)) (order_of j (length held))
  where
    order_of : (a b : ℕ) → (a < b) ⊎ (b ≤ a)
    order_of a b = grind arith

    new : (i : ℕ) → length held ≤ i → i < length (held ++ s ∷ []) → stage order (row_at (held ++ s ∷ []) i) ≡ k → ⊥
    new i g h e =
        let a = length-append held (s ∷ []) in
        let is : length held ≡ i = omega arith in
        let v : stage order s ≡ k = ap (λ (r : Row). stage order r) (sym (row_at-last held s) ∙ ap (λ n. row_at (held ++ s ∷ []) n) is) ∙ e in
        let w = stage-none order s n in omega arith

    by_place : (i < length held) ⊎ (length held ≤ i) → (j < length held) ⊎ (length held ≤ j) → IsCombined order (held ++ s ∷ []) k (row_at (held ++ s ∷ []) i) (row_at (held ++ s ∷ []) j)
    by_place (inr g) o = absurd (new i g p.high_below p.high_stage)
    by_place (inl g) (inr h) = absurd (new j h p.low_below p.low_stage)
    by_place (inl g) (inl h) =
        let u = row_at-more held s i g in
        let v = row_at-more held s j h in
        combined-more order held s k (row_at (held ++ s ∷ []) i) (row_at (held ++ s ∷ []) j)
        (subst (λ (r : Row). IsCombined order held k r (row_at (held ++ s ∷ []) j)) (sym u) (subst (λ (r : Row). IsCombined order held k (row_at held i) r) (sym v)
        (f k i j l (record {
          high_below = g;
          low_below = h;
          high_stage = ap (λ (r : Row). stage order r) (sym u) ∙ p.high_stage;
          low_stage = ap (λ (r : Row). stage order r) (sym v) ∙ p.low_stage;
          high_sign = subst (λ (r : Row). pos 0 <ℤ coefficient_at r.terms (place_at order k)) u p.high_sign;
          low_sign = subst (λ (r : Row). coefficient_at r.terms (place_at order k) <ℤ pos 0) v p.low_sign;
        }))))

pub stage-le : (order : List ℕ) (r : Row) → stage order r ≤ length order
stage-le [] r = omega arith
stage-le (p ∷ order) r = by_zero (is_zero (coefficient_at r.terms p)) (stage-le order r)
  where
    by_zero : (b : Bool) → stage order r ≤ length order → cond b (1 + stage order r) 0 ≤ suc (length order)
    by_zero true h = omega arith
    by_zero false h = omega arith

-- a stage that isn't the last one was the stage before
stage-before : (order : List ℕ) (p : ℕ) (r : Row) → stage (order ++ p ∷ []) r < length order → stage order r ≡ stage (order ++ p ∷ []) r
stage-before [] p r h = absurd (omega arith)
stage-before (q ∷ order) p r h = by_zero (is_zero (coefficient_at r.terms q)) h (stage-before order p r)
  where
    by_zero : (b : Bool) → cond b (1 + stage (order ++ p ∷ []) r) 0 < suc (length order) → (stage (order ++ p ∷ []) r < length order → stage order r ≡ stage (order ++ p ∷ []) r)
        → cond b (1 + stage order r) 0 ≡ cond b (1 + stage (order ++ p ∷ []) r) 0
    by_zero true h f = ap (λ n. 1 + n) (f (omega arith))
    by_zero false h f = refl

-- a place more, where each pair at it is combined
pub paired-place : (order : List ℕ) (p : ℕ) (held : List Row) → Paired order held
    → ((i j : ℕ) → Pair (order ++ p ∷ []) held (length order) i j → IsCombined (order ++ p ∷ []) held (length order) (row_at held i) (row_at held j)) → Paired (order ++ p ∷ []) held
paired-place order p held f g k i j l q = by_stage (order_of k (length order) (let n = length-append order (p ∷ []) in omega arith))
  where
    order_of : (a b : ℕ) → a ≤ b → (a < b) ⊎ (b ≡ a)
    order_of a b h = grind arith

    by_stage : (k < length order) ⊎ (length order ≡ k) → IsCombined (order ++ p ∷ []) held k (row_at held i) (row_at held j)
    by_stage (inr e) =
        subst (λ (n : ℕ). IsCombined (order ++ p ∷ []) held n (row_at held i) (row_at held j)) e
        (g i j (subst (λ (n : ℕ). Pair (order ++ p ∷ []) held n i j) (sym e) q))
    by_stage (inl h) =
        let same : place_at (order ++ p ∷ []) k ≡ place_at order k = get_or_append_left order (p ∷ []) 0 k h in
        let c = f k i j h (record {
          high_below = q.high_below;
          low_below = q.low_below;
          high_stage = stage-before order p (row_at held i) (let s = q.high_stage in omega arith) ∙ q.high_stage;
          low_stage = stage-before order p (row_at held j) (let s = q.low_stage in omega arith) ∙ q.low_stage;
          high_sign = subst (λ (n : ℕ). pos 0 <ℤ coefficient_at (row_at held i).terms n) same q.high_sign;
          low_sign = subst (λ (n : ℕ). coefficient_at (row_at held j).terms n <ℤ pos 0) same q.low_sign;
        }) in
        record {
          sum = c.sum;
          sum_is = ap (λ n. combined (row_at held i) (row_at held j) n) same ∙ c.sum_is;
          stands = c.stands;
        }
