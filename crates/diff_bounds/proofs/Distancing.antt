use Rattle.std.proofs.Common.{◌≡◌, ℕ, zero, suc, ◌+◌, ◌*◌, ◌<◌, ◌≤◌, ℤ, pos, neg_ℤ, ◌+ℤ◌, ◌-ℤ◌, ◌*ℤ◌, ◌≤ℤ◌, max, Bool, false, List, [], ◌∷◌, length, sym, ◌∙◌, ap, subst, arith, unsigned_abs, ◌⊎◌, inl, inr}
use Rattle.std.proofs.Math.Nat.{le-max_left, le-max_right, suc-mul, mul-le-mul_right}
use Rattle.std.proofs.lemmas.Bool.{cases_lt}
use Rattle.std.proofs.lemmas.Int.{ints}
use Rattle.lin_rows.specs.Rows.{Row, point_of, value_at}
use Rattle.lin_rows.specs.Divisors.{tightened}
use Rattle.lin_rows.proofs.Rounding.{mul_le}
use Rattle.line_rows.specs.Steps.{row_at}
use Rattle.diff_bounds.specs.declared.edges.Edge.{Edge}
use Rattle.diff_bounds.specs.declared.walks.Visit.{Visit}
use Rattle.diff_bounds.specs.declared.walks.Walks.{Walks}
use Rattle.diff_bounds.specs.Differences.{state_limit}
use Rattle.diff_bounds.specs.Distances.{IsWalk, IsDistance, AreShortest, AreNearZero, greatest_bound, stay, lead}
use Rattle.diff_bounds.specs.Spans.{place_value, Spans}
use Rattle.diff_bounds.specs.Edges.{edge_at, AreEdges}
use Rattle.diff_bounds.specs.Walks.{visit_at, now_at, latest_at, AreWalks, AreShort, AreSettled}
use Rattle.diff_bounds.specs.States.{IsEnd}
use Rattle.diff_bounds.specs.Values.{AreValues}
use Rattle.diff_bounds.proofs.Modelling.{place-value, settled-row}

-- THE VALUES ARE THE SHORTEST DISTANCES

-- a start has the value 0
start-value : (n d : ℕ) (v : ℤ) → d ≤ 0 → v ≤ℤ pos 0 → neg_ℤ (pos (d * state_limit)) ≤ℤ (pos (n + 1) *ℤ v) → v ≡ pos 0
start-value n d v h k l = by_order (order v)
  where
    order : (v : ℤ) → (pos 0 ≤ℤ v) ⊎ (v ≤ℤ (pos 0 -ℤ pos 1))
    order v = grind (arith, ints)

    by_order : (pos 0 ≤ℤ v) ⊎ (v ≤ℤ (pos 0 -ℤ pos 1)) → v ≡ pos 0
    by_order (inl a) = omega (arith, ints)
    by_order (inr a) = let m = mul_le (n + 1) v (pos 0 -ℤ pos 1) a in absurd (omega (arith, ints))

-- a visit is where a walk of its value has come to
visit-walk : (n : ℕ) (rows : List Row) (E : List Edge) (V : List Visit) (L : List ℕ) → AreEdges n rows E → AreWalks n E V L → (most i : ℕ) → i < most → i < length V
    → IsWalk n rows (visit_at V i).place (visit_at V i).value
visit-walk n rows E V L es w zero i h l = absurd (omega (arith, h))
visit-walk n rows E V L es w (suc most) i h l = by_depth (λ b k m. visit-walk n rows E V L es w most b k m) (cases_lt 0 (visit_at V i).depth)
  where
    by_depth : ((b : ℕ) → b < most → b < length V → IsWalk n rows (visit_at V b).place (visit_at V b).value) → (0 < (visit_at V i).depth) ⊎ ((visit_at V i).depth ≤ 0)
        → IsWalk n rows (visit_at V i).place (visit_at V i).value
    by_depth earlier (inr d) =
        let at = w.each i l in
        let z = start-value n (visit_at V i).depth (visit_at V i).value d at.not_above at.not_below in
        subst (λ (v : ℤ). IsWalk n rows (visit_at V i).place v) (sym z) (stay (visit_at V i).place at.place_below)
    by_depth earlier (inl d) =
        let at = w.each i l in
        let s = at.step d in
        let b = (visit_at V i).before in
        let before = earlier b (omega (arith, s.earlier, h)) (omega (arith, s.earlier, l)) in
        let j = (visit_at V i).edge in
        let below : j < length rows = omega (arith, s.edge_below, es.whole) in
        let edge = es.each j below in
        let start = subst (λ (p : ℕ). IsWalk n rows p (visit_at V b).value) (sym s.from_is) before in
        let on = lead j (edge_at E j).from (edge_at E j).to (edge_at E j).bound (visit_at V b).value below edge.near.from_below edge.near.to_below edge.spans start in
        subst (λ (v : ℤ). IsWalk n rows (visit_at V i).place v) (sym s.value_is)
        (subst (λ (p : ℕ). IsWalk n rows p ((visit_at V b).value +ℤ (edge_at E j).bound)) s.to_is on)

-- no walk is shorter than values that satisfy all rows and are 0 at most
no-shorter : (n : ℕ) (rows : List Row) (x : ℕ → ℤ) (D : ℕ → ℤ) → ((p : ℕ) → p ≤ n → D p ≤ℤ pos 0) → ((p : ℕ) → p ≤ n → place_value n x p ≡ D p -ℤ D n)
    → ((i : ℕ) → i < length rows → value_at x (tightened (row_at rows i)).terms ≤ℤ (tightened (row_at rows i)).bound)
    → (p : ℕ) (t : ℤ) → IsWalk n rows p t → D p ≤ℤ t
no-shorter n rows x D low at sat _ _ (stay p h) = low p h
no-shorter n rows x D low at sat _ _ (lead i from to bound so_far below f t spans walk) =
    let before = no-shorter n rows x D low at sat from so_far walk in
    let s = sat i below in
    let v = spans.value x in
    let b = spans.bound_is in
    let a = at from f in
    let c = at to t in
    omega (arith, ints)

-- WHAT WALKS HAVE COME TO
pub shortest : (n : ℕ) (rows : List Row) (E : List Edge) (V : List Visit) (L : List ℕ) (values : List ℤ) → AreEdges n rows E → AreWalks n E V L → AreSettled V L E → AreValues n V L values → AreShortest n rows values
shortest n rows E V L values es w s a = record {
  distance = λ p. (now_at V L p).value;
  each = λ p h. record {
    walk = subst (λ (q : ℕ). IsWalk n rows q (now_at V L p).value) (w.same p h) (visit-walk n rows E V L es w (suc (latest_at L p)) (latest_at L p) (omega arith) (w.there p h));
    shortest = λ other walk. no-shorter n rows (point_of values) (λ q. (now_at V L q).value) (λ q k. (w.each (latest_at L q) (w.there q k)).not_above) (place-value n V L values a) (settled-row n rows E V L values es s a) p other walk;
  };
  values_are = a.each;
}

-- HOW FAR THE VALUES LIE FROM 0

-- no bound is greater than the greatest one
bound-below : (rows : List Row) (i : ℕ) → i < length rows → unsigned_abs (tightened (row_at rows i)).bound ≤ greatest_bound rows
bound-below [] i h = absurd (omega arith)
bound-below (r ∷ rows) zero h = le-max_left (unsigned_abs (tightened r).bound) (greatest_bound rows)
bound-below (r ∷ rows) (suc i) h =
    let a = bound-below rows i (omega arith) in
    let b = le-max_right (unsigned_abs (tightened r).bound) (greatest_bound rows) in omega arith

-- one edge more
far-more : (d e B : ℕ) (u b v : ℤ) → e ≡ d + 1 → neg_ℤ (pos (d * B)) ≤ℤ u → unsigned_abs b ≤ B → v ≡ u +ℤ b → neg_ℤ (pos (e * B)) ≤ℤ v
far-more d e B u b v h k l m =
    let f : e ≡ suc d = omega arith in
    sums (d * B) (e * B) (ap (λ j. j * B) f ∙ suc-mul d B) k
  where
    sums : (x y : ℕ) → y ≡ x + B → neg_ℤ (pos x) ≤ℤ u → neg_ℤ (pos y) ≤ℤ v
    sums x y p q = omega (arith, ints)

-- a visit is no further from 0 than its depth allows
visit-far : (n : ℕ) (rows : List Row) (E : List Edge) (V : List Visit) (L : List ℕ) → AreEdges n rows E → AreWalks n E V L → (most i : ℕ) → i < most → i < length V
    → neg_ℤ (pos ((visit_at V i).depth * greatest_bound rows)) ≤ℤ (visit_at V i).value
visit-far n rows E V L es w zero i h l = absurd (omega (arith, h))
visit-far n rows E V L es w (suc most) i h l = by_depth (λ b k m. visit-far n rows E V L es w most b k m) (cases_lt 0 (visit_at V i).depth)
  where
    below_zero : (x : ℕ) (v : ℤ) → v ≡ pos 0 → neg_ℤ (pos x) ≤ℤ v
    below_zero x v e = omega (arith, ints)

    by_depth : ((b : ℕ) → b < most → b < length V → neg_ℤ (pos ((visit_at V b).depth * greatest_bound rows)) ≤ℤ (visit_at V b).value) → (0 < (visit_at V i).depth) ⊎ ((visit_at V i).depth ≤ 0)
        → neg_ℤ (pos ((visit_at V i).depth * greatest_bound rows)) ≤ℤ (visit_at V i).value
    by_depth earlier (inr d) =
        let at = w.each i l in
        below_zero ((visit_at V i).depth * greatest_bound rows) (visit_at V i).value (start-value n (visit_at V i).depth (visit_at V i).value d at.not_above at.not_below)
    by_depth earlier (inl d) =
        let at = w.each i l in
        let s = at.step d in
        let b = (visit_at V i).before in
        let j = (visit_at V i).edge in
        let before = earlier b (omega (arith, s.earlier, h)) (omega (arith, s.earlier, l)) in
        let below : j < length rows = omega (arith, s.edge_below, es.whole) in
        let bound = subst (λ (c : ℤ). unsigned_abs c ≤ greatest_bound rows) (es.each j below).spans.bound_is (bound-below rows j below) in
        far-more (visit_at V b).depth (visit_at V i).depth (greatest_bound rows) (visit_at V b).value (edge_at E j).bound (visit_at V i).value s.depth_is before bound s.value_is

-- the latest visit of a place is no deeper than there are names
place-far : (n : ℕ) (rows : List Row) (E : List Edge) (V : List Visit) (L : List ℕ) → AreEdges n rows E → AreWalks n E V L → AreShort n V L → (p : ℕ) → p ≤ n
    → neg_ℤ (pos (n * greatest_bound rows)) ≤ℤ (now_at V L p).value
place-far n rows E V L es w s p h =
    let a = visit-far n rows E V L es w (suc (latest_at L p)) (latest_at L p) (omega arith) (w.there p h) in
    let b = mul-le-mul_right (greatest_bound rows) (s p h) in
    lower ((now_at V L p).depth * greatest_bound rows) (n * greatest_bound rows) (now_at V L p).value b a
  where
    lower : (x y : ℕ) (v : ℤ) → x ≤ y → neg_ℤ (pos x) ≤ℤ v → neg_ℤ (pos y) ≤ℤ v
    lower x y v k l = omega (arith, ints)

pub near-zero : (n : ℕ) (rows : List Row) (E : List Edge) (V : List Visit) (L : List ℕ) (values : List ℤ) → AreEdges n rows E → AreWalks n E V L → AreShort n V L → AreValues n V L values → AreNearZero n rows values
near-zero n rows E V L values es w s a p h =
    subst (λ (c : ℤ). unsigned_abs c ≤ n * greatest_bound rows) (sym (a.each p h))
    (apart (n * greatest_bound rows) (now_at V L p).value (now_at V L n).value (place-far n rows E V L es w s p (omega arith)) (w.each (latest_at L p) (w.there p (omega arith))).not_above
    (place-far n rows E V L es w s n (omega arith)) (w.each (latest_at L n) (w.there n (omega arith))).not_above)
  where
    apart : (x : ℕ) (u v : ℤ) → neg_ℤ (pos x) ≤ℤ u → u ≤ℤ pos 0 → neg_ℤ (pos x) ≤ℤ v → v ≤ℤ pos 0 → unsigned_abs (u -ℤ v) ≤ x
    apart x u v k l m q = sizes (u -ℤ v) (omega (arith, ints)) (omega (arith, ints))
      where
        sizes : (c : ℤ) → neg_ℤ (pos x) ≤ℤ c → c ≤ℤ pos x → unsigned_abs c ≤ x
        sizes c k l = omega (arith, ints)

-- after the search, where no walk is long
pub shortest-found : (n : ℕ) (rows : List Row) (E F : List Edge) (start now : Walks) (long : Bool) (values : List ℤ) → AreEdges n rows E → F ≡ E → start.ints ≡ n → IsEnd F start.ints now long → long ≡ false
    → AreValues now.ints now.visits.items now.latest.items values → AreShortest n rows values × AreNearZero n rows values
shortest-found n rows E F start now long values es e i d f a =
    let m = d.ints_same ∙ i in
    let edges = subst (λ (j : ℕ). AreEdges j rows F) (sym m) (subst (λ (G : List Edge). AreEdges n rows G) (sym e) es) in
    subst (λ (j : ℕ). AreShortest j rows values × AreNearZero j rows values) m
    (shortest now.ints rows F now.visits.items now.latest.items values edges d.kept (d.settled f) a, near-zero now.ints rows F now.visits.items now.latest.items values edges d.kept (d.short f) a)
