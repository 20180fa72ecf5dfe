use Rattle.std.proofs.Common.{◌≡◌, ℕ, suc, ◌+◌, ◌<◌, ◌≤◌, ℤ, pos, ◌-ℤ◌, ◌≤ℤ◌, Bool, true, false, cond, List, [], ◌∷◌, ◌++◌, length, refl, sym, ◌∙◌, ap, subst, arith, ◌⊎◌, inl, inr}
use Rattle.std.specs.Prelude.{int_le}
use Rattle.std.specs.List.{list_all}
use Rattle.std.proofs.lemmas.Bool.{and_from, and_parts, lt-ltb, le-ltb, cases_lt}
use Rattle.std.proofs.lemmas.Int.{ints}
use Rattle.std.proofs.lemmas.List.{get_or_append_left, get_or_push, length_push}
use Rattle.lin_rows.specs.Rows.{Row, is_row, value_at, point_of}
use Rattle.lin_rows.specs.Divisors.{tightened}
use Rattle.lin_rows.proofs.Rounding.{satisfies-of_tightened}
use Rattle.line_rows.specs.Evidence.{in_state}
use Rattle.proof_lines.specs.Problems.{row_true}
use Rattle.line_rows.specs.Steps.{row_at}
use Rattle.theory_api.specs.Laws.{IsModel, all_satisfied}
use Rattle.diff_bounds.specs.declared.edges.Edge.{Edge}
use Rattle.diff_bounds.specs.declared.walks.Visit.{Visit}
use Rattle.diff_bounds.specs.Spans.{place_value}
use Rattle.diff_bounds.specs.Edges.{edge_at, AreEdges}
use Rattle.diff_bounds.specs.Walks.{now_at, latest_at, AreWalks, AreSettled}
use Rattle.diff_bounds.specs.declared.walks.Walks.{Walks}
use Rattle.diff_bounds.specs.States.{IsEnd}
use Rattle.diff_bounds.specs.Values.{AreFirstValues, AreValues}
use Rattle.diff_bounds.proofs.Bounding.{difference-size, in_state-size}
use Rattle.diff_bounds.proofs.Pushing.{value-low}

-- THE VALUES SATISFY ALL ROWS once all edges are settled

le_so : (a b : ℤ) → a ≤ℤ b → int_le a b ≡ true
le_so a b h = grind (arith, ints)

pub place-value : (n : ℕ) (V : List Visit) (L : List ℕ) (values : List ℤ) → AreValues n V L values → (p : ℕ) → p ≤ n → place_value n (point_of values) p ≡ (now_at V L p).value -ℤ (now_at V L n).value
place-value n V L values a p h = by_case (cases_lt p n)
  where
    none : (c : ℤ) → pos 0 ≡ c -ℤ c
    none c = omega (arith, ints)

    by_case : (p < n) ⊎ (n ≤ p) → place_value n (point_of values) p ≡ (now_at V L p).value -ℤ (now_at V L n).value
    by_case (inl l) = ap (λ (b : Bool). cond b (point_of values p) (pos 0)) (lt-ltb p n l) ∙ a.each p l
    by_case (inr l) =
        let e : n ≡ p = omega arith in
        ap (λ (b : Bool). cond b (point_of values p) (pos 0)) (le-ltb p n l) ∙ none (now_at V L n).value ∙ ap (λ j. (now_at V L j).value -ℤ (now_at V L n).value) e

-- the values satisfy each tightened row
pub settled-row : (n : ℕ) (rows : List Row) (E : List Edge) (V : List Visit) (L : List ℕ) (values : List ℤ) → AreEdges n rows E → AreSettled V L E → AreValues n V L values
    → (i : ℕ) → i < length rows → value_at (point_of values) (tightened (row_at rows i)).terms ≤ℤ (tightened (row_at rows i)).bound
settled-row n rows E V L values es s a i h =
    let e = es.each i h in
    let v = e.spans.value (point_of values) in
    let f = place-value n V L values a (edge_at E i).from e.near.from_below in
    let t = place-value n V L values a (edge_at E i).to e.near.to_below in
    let l = s i (omega (arith, es.whole)) in
    let b = e.spans.bound_is in
    omega (arith, ints)

row-true : (n : ℕ) (rows : List Row) (E : List Edge) (V : List Visit) (L : List ℕ) (values : List ℤ) → AreEdges n rows E → AreSettled V L E → AreValues n V L values
    → (i : ℕ) → i < length rows → is_row (row_at rows i) ≡ true → row_true (point_of values) (row_at rows i) ≡ true
row-true n rows E V L values es s a i h k =
    le_so (value_at (point_of values) (row_at rows i).terms) (row_at rows i).bound
    (satisfies-of_tightened (point_of values) (row_at rows i) k (settled-row n rows E V L values es s a i h))

all-true : (x : ℕ → ℤ) (rows : List Row) → list_all is_row rows ≡ true → ((i : ℕ) → i < length rows → is_row (row_at rows i) ≡ true → row_true x (row_at rows i) ≡ true) → all_satisfied x rows ≡ true
all-true x [] h f = refl
all-true x (r ∷ rows) h f =
    let b = and_parts (is_row r) (list_all is_row rows) h in
    and_from (row_true x r) (all_satisfied x rows) (f 0 (omega arith) b.0) (all-true x rows b.1 (λ i l k. f (suc i) (omega arith) k))

all-in_state : (values : List ℤ) → ((p : ℕ) → p < length values → in_state (point_of values p) ≡ true) → list_all in_state values ≡ true
all-in_state [] f = refl
all-in_state (v ∷ values) f = and_from (in_state v) (list_all in_state values) (f 0 (omega arith)) (all-in_state values (λ p h. f (suc p) (omega arith)))

pub model : (n : ℕ) (rows : List Row) (E : List Edge) (V : List Visit) (L : List ℕ) (values : List ℤ) → list_all is_row rows ≡ true → AreEdges n rows E → AreWalks n E V L → AreSettled V L E → AreValues n V L values
    → IsModel n rows values
model n rows E V L values k es w s a = record {
  whole = a.whole;
  in_range = all-in_state values within;
  satisfies = all-true (point_of values) rows k (row-true n rows E V L values es s a);
}
  where
    within : (p : ℕ) → p < length values → in_state (point_of values p) ≡ true
    within p h =
        let l : p < n = omega (arith, a.whole) in
        let i = w.there p (omega arith) in
        let j = w.there n (omega arith) in
        ap in_state (a.each p l)
        ∙ in_state-size ((now_at V L p).value -ℤ (now_at V L n).value)
        (difference-size (now_at V L p).value (now_at V L n).value (value-low n E V L w (latest_at L p) i) (w.each (latest_at L p) i).not_above (value-low n E V L w (latest_at L n) j) (w.each (latest_at L n) j).not_above)

-- one value more
pub values-more : (n k : ℕ) (V : List Visit) (L : List ℕ) (values : List ℤ) (v : ℤ) → AreFirstValues n k V L values → v ≡ (now_at V L k).value -ℤ (now_at V L n).value → AreFirstValues n (k + 1) V L (values ++ v ∷ [])
values-more n k V L values v a e = record { whole = length_push values v ∙ ap (λ j. j + 1) a.whole; each = λ p h. each p (cases_lt p k) h }
  where
    each : (p : ℕ) → (p < k) ⊎ (k ≤ p) → p < k + 1 → point_of (values ++ v ∷ []) p ≡ (now_at V L p).value -ℤ (now_at V L n).value
    each p (inl l) h = get_or_append_left values (v ∷ []) (pos 0) p (omega (arith, a.whole)) ∙ a.each p l
    each p (inr l) h =
        let q : k ≡ p = omega arith in
        get_or_push values v (pos 0) p (omega (arith, a.whole)) ∙ e ∙ ap (λ j. (now_at V L j).value -ℤ (now_at V L n).value) q

pub values-next : (n k : ℕ) (V : List Visit) (L : List ℕ) (values : List ℤ) (v : ℤ) (more : List ℤ) → AreFirstValues n k V L values → v ≡ (now_at V L k).value -ℤ (now_at V L n).value → more ≡ values ++ v ∷ []
    → AreFirstValues n (k + 1) V L more
values-next n k V L values v more a e m = subst (λ (vs : List ℤ). AreFirstValues n (k + 1) V L vs) (sym m) (values-more n k V L values v a e)

-- after the search, where no walk is long
pub model-found : (n : ℕ) (rows : List Row) (E F : List Edge) (start now : Walks) (long : Bool) (values : List ℤ) → list_all is_row rows ≡ true → AreEdges n rows E → F ≡ E → start.ints ≡ n → IsEnd F start.ints now long → long ≡ false
    → AreValues now.ints now.visits.items now.latest.items values → IsModel n rows values
model-found n rows E F start now long values k es e i d f a =
    let m = d.ints_same ∙ i in
    subst (λ (j : ℕ). IsModel j rows values) m
    (model now.ints rows F now.visits.items now.latest.items values k (subst (λ (j : ℕ). AreEdges j rows F) (sym m) (subst (λ (G : List Edge). AreEdges n rows G) (sym e) es)) d.kept (d.settled f) a)
