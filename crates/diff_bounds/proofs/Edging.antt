use Rattle.std.proofs.Common.{◌≡◌, ℕ, zero, suc, ◌+◌, ◌*◌, ◌<◌, ◌≤◌, ℤ, pos, negsuc, neg_ℤ, ◌+ℤ◌, ◌-ℤ◌, ◌*ℤ◌, ◌≤ℤ◌, Bool, true, false, cond, ◌&&◌, ◌||◌, List, [], ◌∷◌, ◌++◌, length, map, get_or, refl, sym, ◌∙◌, ap, subst, arith, unsigned_abs, ◌⊎◌, inl, inr}
use Rattle.std.specs.Prelude.{nat_lt, nat_le, int_lt}
use Rattle.std.specs.List.{list_all}
use Rattle.std.specs.Ordering.{int_eq}
use Rattle.std.proofs.lemmas.Bool.{and_from, and_parts, lt-ltb, le-ltb, cases_lt}
use Rattle.std.proofs.lemmas.Int.{ints}
use Rattle.std.proofs.lemmas.List.{get_or_append_left, get_or_push, length_push}
use Rattle.std.proofs.lemmas.Bool.Decides.{nat_tests, Decides-int_eq}
use Rattle.lin_rows.specs.declared.term.RowTerm.{RowTerm}
use Rattle.lin_rows.specs.Rows.{Row, is_row, places_below}
use Rattle.diff_bounds.specs.declared.edges.Edge.{Edge}
use Rattle.diff_bounds.specs.Differences.{is_unit, are_difference, state_limit, is_near}
use Rattle.diff_bounds.specs.Spans.{place_value, Spans}
use Rattle.lin_rows.specs.Divisors.{divisor_of, divided_term, tightened}
use Rattle.lin_rows.proofs.Rounding.{tightened-cases}
use Rattle.line_rows.specs.Steps.{row_at}
use Rattle.diff_bounds.specs.Differences.{is_taken}
use Rattle.diff_bounds.specs.Edges.{edge_at, no_edge, IsNear, AreNear, LieBetween, IsEdge, AreFirstEdges, AreEdges}

-- THE EDGE OF A DIFFERENCE

place-below : (n : ℕ) (x : ℕ → ℤ) (p : ℕ) → p < n → place_value n x p ≡ x p
place-below n x p h = ap (λ (b : Bool). cond b (x p) (pos 0)) (lt-ltb p n h)

place-zero : (n : ℕ) (x : ℕ → ℤ) → place_value n x n ≡ pos 0
place-zero n x = ap (λ (b : Bool). cond b (x n) (pos 0)) (le-ltb n n (omega arith))

-- one times a value, and minus one times it
once : (c v : ℤ) → c ≡ pos 1 → c *ℤ v ≡ v
once c v e = ap (λ z. z *ℤ v) e ∙ (omega (arith, ints))

minus : (c v : ℤ) → c ≡ negsuc 0 → c *ℤ v ≡ pos 0 -ℤ v
minus c v e = ap (λ z. z *ℤ v) e ∙ (omega (arith, ints))

unit-cases : (c : ℤ) → is_unit c ≡ true → (c ≡ pos 1) ⊎ (c ≡ negsuc 0)
unit-cases c h = by_case (int_eq c (pos 1)) (int_eq c (negsuc 0)) (Decides-int_eq c (pos 1)).0 (Decides-int_eq c (negsuc 0)).0 h
  where
    by_case : (a b : Bool) → (a ≡ true → c ≡ pos 1) → (b ≡ true → c ≡ negsuc 0) → (a || b) ≡ true → (c ≡ pos 1) ⊎ (c ≡ negsuc 0)
    by_case true b f g h = inl (f refl)
    by_case false true f g h = inr (g refl)
    by_case false false f g h = absurd cc

up-case : (c : ℤ) → is_unit c ≡ true → int_lt (pos 0) c ≡ true → c ≡ pos 1
up-case c h k = by_case (unit-cases c h)
  where
    by_case : (c ≡ pos 1) ⊎ (c ≡ negsuc 0) → c ≡ pos 1
    by_case (inl e) = e
    by_case (inr e) = absurd (let f = ap (int_lt (pos 0)) (sym e) ∙ k in cc)

down-case : (c : ℤ) → is_unit c ≡ true → int_lt (pos 0) c ≡ false → c ≡ negsuc 0
down-case c h k = by_case (unit-cases c h)
  where
    by_case : (c ≡ pos 1) ⊎ (c ≡ negsuc 0) → c ≡ negsuc 0
    by_case (inr e) = e
    by_case (inl e) = absurd (let f = ap (int_lt (pos 0)) (sym e) ∙ k in cc)

-- no terms
pub ends-none : (n : ℕ) → LieBetween n [] n n
ends-none n = record { from_below = omega arith; to_below = omega arith; value = λ x. omega (arith, ints) }

-- one term
pub ends-up : (n : ℕ) (t : RowTerm) → is_unit t.coef ≡ true → int_lt (pos 0) t.coef ≡ true → t.place < n → LieBetween n (t ∷ []) n t.place
ends-up n t h k l = record {
  from_below = omega arith;
  to_below = omega arith;
  value = λ x. (let o = once t.coef (x t.place) (up-case t.coef h k) in let p = place-below n x t.place l in let q = place-zero n x in omega (arith, ints));
}

pub ends-down : (n : ℕ) (t : RowTerm) → is_unit t.coef ≡ true → int_lt (pos 0) t.coef ≡ false → t.place < n → LieBetween n (t ∷ []) t.place n
ends-down n t h k l = record {
  from_below = omega arith;
  to_below = omega arith;
  value = λ x. (let o = minus t.coef (x t.place) (down-case t.coef h k) in let p = place-below n x t.place l in let q = place-zero n x in omega (arith, ints));
}

-- two terms
pub ends-two-up : (n : ℕ) (t u : RowTerm) → are_difference (t ∷ u ∷ []) ≡ true → int_lt (pos 0) t.coef ≡ true → t.place < n → u.place < n → LieBetween n (t ∷ u ∷ []) u.place t.place
ends-two-up n t u h k l m = record {
  from_below = omega arith;
  to_below = omega arith;
  value = λ x. (let o = once t.coef (x t.place) first in let w = minus u.coef (x u.place) second in let p = place-below n x t.place l in let q = place-below n x u.place m in omega (arith, ints));
}
  where
    parts : ((is_unit t.coef && is_unit u.coef) ≡ true) × (int_eq (t.coef +ℤ u.coef) (pos 0) ≡ true)
    parts = and_parts (is_unit t.coef && is_unit u.coef) (int_eq (t.coef +ℤ u.coef) (pos 0)) h

    first : t.coef ≡ pos 1
    first = up-case t.coef (and_parts (is_unit t.coef) (is_unit u.coef) parts.0).0 k

    second : u.coef ≡ negsuc 0
    second = let s = (Decides-int_eq (t.coef +ℤ u.coef) (pos 0)).0 parts.1 in let f = first in omega (arith, ints)

pub ends-two-down : (n : ℕ) (t u : RowTerm) → are_difference (t ∷ u ∷ []) ≡ true → int_lt (pos 0) t.coef ≡ false → t.place < n → u.place < n → LieBetween n (t ∷ u ∷ []) t.place u.place
ends-two-down n t u h k l m = record {
  from_below = omega arith;
  to_below = omega arith;
  value = λ x. (let o = minus t.coef (x t.place) first in let w = once u.coef (x u.place) second in let p = place-below n x t.place l in let q = place-below n x u.place m in omega (arith, ints));
}
  where
    parts : ((is_unit t.coef && is_unit u.coef) ≡ true) × (int_eq (t.coef +ℤ u.coef) (pos 0) ≡ true)
    parts = and_parts (is_unit t.coef && is_unit u.coef) (int_eq (t.coef +ℤ u.coef) (pos 0)) h

    first : t.coef ≡ negsuc 0
    first = down-case t.coef (and_parts (is_unit t.coef) (is_unit u.coef) parts.0).0 k

    second : u.coef ≡ pos 1
    second = let s = (Decides-int_eq (t.coef +ℤ u.coef) (pos 0)).0 parts.1 in let f = first in omega (arith, ints)

-- NEAR BOUNDS

pub near-from : (n : ℕ) (e : Edge) → e.from ≤ n → e.to ≤ n → is_near n e.bound ≡ true → IsNear n e
near-from n e h k m = by_sign e.bound refl (within ((n + 1) * unsigned_abs e.bound) m)
  where
    within : (a : ℕ) → nat_le a state_limit ≡ true → a ≤ state_limit
    within a m = grind (arith, nat_tests)

    by_sign : (b : ℤ) → e.bound ≡ b → (n + 1) * unsigned_abs e.bound ≤ state_limit → IsNear n e
    by_sign b p l = record {
      from_below = h;
      to_below = k;
      not_below = subst (λ (z : ℤ). neg_ℤ (pos state_limit) ≤ℤ (pos (n + 1) *ℤ z)) (sym p) (low b (subst (λ (z : ℤ). (n + 1) * unsigned_abs z ≤ state_limit) p l));
      not_above = subst (λ (z : ℤ). (pos (n + 1) *ℤ z) ≤ℤ pos state_limit) (sym p) (high b (subst (λ (z : ℤ). (n + 1) * unsigned_abs z ≤ state_limit) p l));
    }
      where
        low : (b : ℤ) → (n + 1) * unsigned_abs b ≤ state_limit → neg_ℤ (pos state_limit) ≤ℤ (pos (n + 1) *ℤ b)
        low (pos a) l = omega (arith, ints)
        low (negsuc a) l = omega (arith, ints)

        high : (b : ℤ) → (n + 1) * unsigned_abs b ≤ state_limit → (pos (n + 1) *ℤ b) ≤ℤ pos state_limit
        high (pos a) l = omega (arith, ints)
        high (negsuc a) l = omega (arith, ints)

-- THE EDGE OF A ROW

places-divided : (n : ℕ) (d : ℤ) (ts : List RowTerm) → list_all (λ t. nat_lt t.place n) ts ≡ true → list_all (λ t. nat_lt t.place n) (map (divided_term d) ts) ≡ true
places-divided n d [] h = refl
places-divided n d (t ∷ ts) h =
    let b = and_parts (nat_lt t.place n) (list_all (λ t. nat_lt t.place n) ts) h in
    and_from (nat_lt t.place n) (list_all (λ t. nat_lt t.place n) (map (divided_term d) ts)) b.0 (places-divided n d ts b.1)

-- tightening keeps the places
pub places-tightened : (n : ℕ) (r : Row) → places_below n r ≡ true → places_below n (tightened r) ≡ true
places-tightened n r h = tightened-cases (λ q. places_below n q ≡ true) r (λ e. h) (λ e. places-divided n (pos (divisor_of r.terms)) r.terms h)

pub places-of : (n : ℕ) (r tight : Row) (ts : List RowTerm) → ts ≡ tight.terms → tight ≡ tightened r → places_below n r ≡ true → list_all (λ t. nat_lt t.place n) ts ≡ true
places-of n r tight ts e f h = ap (list_all (λ t. nat_lt t.place n)) (e ∙ ap (λ (q : Row). q.terms) f) ∙ places-tightened n r h

pub taken-difference : (n : ℕ) (r : Row) → is_taken n r ≡ true → are_difference (tightened r).terms ≡ true
taken-difference n r h = (and_parts (are_difference (tightened r).terms) (is_near n (tightened r).bound) h).0

pub edge-is : (n : ℕ) (r tight : Row) (e : Edge) → is_row tight ≡ true → tight ≡ tightened r → is_taken n r ≡ true → LieBetween n tight.terms e.from e.to → e.bound ≡ tight.bound → IsEdge n r e
edge-is n r tight e k q h l b = record {
  near = near-from n e l.from_below l.to_below (ap (is_near n) (b ∙ ap (λ (z : Row). z.bound) q) ∙ (and_parts (are_difference (tightened r).terms) (is_near n (tightened r).bound) h).1);
  spans = subst (λ (z : Row). Spans n z e.from e.to e.bound) q (record { row = k; value = l.value; bound_is = sym b });
}

-- the rows by number
row-here : (rows : List Row) (i : ℕ) (r : Row) → i < length rows → get_or rows i r ≡ row_at rows i
row-here [] i r h = absurd (omega arith)
row-here (q ∷ rows) zero r h = refl
row-here (q ∷ rows) (suc i) r h = row-here rows i r (omega arith)

pub all-at : (test : Row → Bool) (rows : List Row) (i : ℕ) (r : Row) → list_all test rows ≡ true → i < length rows → r ≡ get_or rows i r → test r ≡ true
all-at test rows i r h l e = ap test (e ∙ row-here rows i r l) ∙ at rows i h l
  where
    at : (rows : List Row) (i : ℕ) → list_all test rows ≡ true → i < length rows → test (row_at rows i) ≡ true
    at [] i h l = absurd (omega arith)
    at (q ∷ rows) zero h l = (and_parts (test q) (list_all test rows) h).0
    at (q ∷ rows) (suc i) h l = at rows i (and_parts (test q) (list_all test rows) h).1 (omega arith)

pub edge-at : (n : ℕ) (rows : List Row) (i : ℕ) (r : Row) (e : Edge) → i < length rows → r ≡ get_or rows i r → IsEdge n r e → IsEdge n (row_at rows i) e
edge-at n rows i r e l q h = subst (λ (z : Row). IsEdge n z e) (q ∙ row-here rows i r l) h

-- one edge more
pub edges-more : (n : ℕ) (rows : List Row) (k : ℕ) (E : List Edge) (e : Edge) → AreFirstEdges n rows k E → IsEdge n (row_at rows k) e → AreFirstEdges n rows (k + 1) (E ++ e ∷ [])
edges-more n rows k E e a h = record { whole = length_push E e ∙ ap (λ j. j + 1) a.whole; each = λ i l. each i (cases_lt i k) l }
  where
    each : (i : ℕ) → (i < k) ⊎ (k ≤ i) → i < k + 1 → IsEdge n (row_at rows i) (edge_at (E ++ e ∷ []) i)
    each i (inl l) m = subst (λ (z : Edge). IsEdge n (row_at rows i) z) (sym (get_or_append_left E (e ∷ []) no_edge i (omega (arith, a.whole)))) (a.each i l)
    each i (inr l) m =
        let q : k ≡ i = omega arith in
        subst (λ (z : Edge). IsEdge n (row_at rows i) z) (sym (get_or_push E e no_edge i (omega (arith, a.whole)))) (subst (λ (j : ℕ). IsEdge n (row_at rows j) e) q h)

pub edges-near : (n : ℕ) (rows : List Row) (E : List Edge) → AreEdges n rows E → AreNear n E
edges-near n rows E a i h = (a.each i (omega (arith, a.whole))).near

pub edges-next : (n : ℕ) (rows : List Row) (k : ℕ) (E : List Edge) (e : Edge) (r : Row) (more : List Edge) → AreFirstEdges n rows k E → k < length rows → r ≡ get_or rows k r → IsEdge n r e → more ≡ E ++ e ∷ [] → AreFirstEdges n rows (k + 1) more
edges-next n rows k E e r more a h g i m = subst (λ (es : List Edge). AreFirstEdges n rows (k + 1) es) (sym m) (edges-more n rows k E e a (edge-at n rows k r e h g i))
