use Rattle.std.proofs.Common.{◌≡◌, ℕ, zero, suc, ◌+◌, ◌-◌, ◌<◌, ◌≤◌, ℤ, pos, ◌+ℤ◌, ◌-ℤ◌, ◌<ℤ◌, Bool, true, false, not, ◌||◌, cond, List, [], ◌∷◌, ◌++◌, length, map, refl, sym, ◌∙◌, ap, subst, arith, Some, Ok}
use Rattle.std.specs.Prelude.{nat_eq, nat_lt, nat_le, int_lt, slice_index_or}
use Rattle.std.specs.List.{list_all}
use Rattle.std.proofs.lemmas.Bool.{and_from, lt-ltb}
use Rattle.std.proofs.lemmas.Int.{ints}
use Rattle.std.proofs.lemmas.List.{length-map, length_push, get_or_push}
use Rattle.std.proofs.lemmas.Bool.Decides.{nat_tests}
use Rattle.lin_rows.specs.Numbers.{in_range}
use Rattle.lin_rows.specs.Rows.{Row, is_contradiction}
use Rattle.lin_rows.specs.Divisors.{tightened}
use Rattle.lin_rows.specs.Sums.{row_sum}
use Rattle.proof_lines.specs.declared.line.RowStep.{RowStep}
use Rattle.proof_lines.specs.declared.line.Why.TheVariants.{Place, Range}
use Rattle.line_rows.specs.Refusals.{need, or_broken}
use Rattle.proof_lines.specs.Numbers.{stands_in, are_different}
use Rattle.line_rows.specs.Steps.{no_row, row_at, step_row, held_rows, refutes_so}
use Rattle.theory_api.specs.Laws.{rows_at, is_some_row, IsConflict}
use Rattle.theory_api.proofs.Ends.{held_rows-more, row_at-more}
use Rattle.diff_bounds.specs.declared.edges.Edge.{Edge}
use Rattle.diff_bounds.specs.declared.walks.Visit.{Visit}
use Rattle.diff_bounds.specs.Spans.{Spans}
use Rattle.diff_bounds.specs.Edges.{edge_at, AreEdges}
use Rattle.diff_bounds.specs.Walks.{visit_at, back, walk_edges, AreWalks}
use Rattle.diff_bounds.specs.Cycles.{IsCycle, LeadBack, IsRowCycle, left_of, step_at, first_steps}
use Rattle.diff_bounds.proofs.Spanning.{spans-sum, spans-contradiction}
use Rattle.diff_bounds.proofs.Bounding.{difference-size, in_range-size}
use Rattle.diff_bounds.proofs.Pushing.{value-low}
use Rattle.diff_bounds.proofs.Backing.{IsBack, back-is, back-more, edges-length}

-- THE ROWS OF A CYCLE, added up from the last edge back

value-range : (n : ℕ) (E : List Edge) (V : List Visit) (L : List ℕ) → AreWalks n E V L → (i j : ℕ) → i < length V → j < length V → in_range ((visit_at V i).value -ℤ (visit_at V j).value) ≡ true
value-range n E V L w i j h k =
    in_range-size ((visit_at V i).value -ℤ (visit_at V j).value)
    (difference-size (visit_at V i).value (visit_at V j).value (value-low n E V L w i h) (w.each i h).not_above (value-low n E V L w j k) (w.each j k).not_above)

-- the row of a visit's edge
row-spans : (n : ℕ) (rows : List Row) (E : List Edge) (V : List Visit) (L : List ℕ) → AreEdges n rows E → AreWalks n E V L → (i : ℕ) → i < length V → 0 < (visit_at V i).depth
    → Spans n (tightened (row_at rows (visit_at V i).edge)) (visit_at V (visit_at V i).before).place (visit_at V i).place ((visit_at V i).value -ℤ (visit_at V (visit_at V i).before).value)
row-spans n rows E V L es w i h d =
    let s = (w.each i h).step d in
    let r = tightened (row_at rows (visit_at V i).edge) in
    let e = (es.each (visit_at V i).edge (omega (arith, s.edge_below, es.whole))).spans in
    let v = s.value_is in
    let b : (edge_at E (visit_at V i).edge).bound ≡ (visit_at V i).value -ℤ (visit_at V (visit_at V i).before).value = omega (arith, ints) in
    subst (λ (c : ℤ). Spans n r (visit_at V (visit_at V i).before).place (visit_at V i).place c) b
    (subst (λ (p : ℕ). Spans n r (visit_at V (visit_at V i).before).place p (edge_at E (visit_at V i).edge).bound) s.to_is
    (subst (λ (p : ℕ). Spans n r p (edge_at E (visit_at V i).edge).to (edge_at E (visit_at V i).edge).bound) s.from_is e))

-- the used rows by number
used-row : (rows : List Row) (V : List Visit) (k m i : ℕ) → m < k → row_at (map tightened (rows_at rows (walk_edges V k i))) m ≡ tightened (row_at rows (visit_at V (back V m i)).edge)
used-row rows V zero m i h = absurd (omega arith)
used-row rows V (suc k) zero i h = refl
used-row rows V (suc k) (suc m) i h = used-row rows V k m (visit_at V i).before (omega arith)

left-next : (k m : ℕ) → left_of k (suc (suc m)) ≡ k + m
left-next k m = ap (λ (b : Bool). cond b 0 (k + suc (suc m) - 2)) (not_first m) ∙ (omega arith)
  where
    not_first : (m : ℕ) → nat_eq (suc (suc m)) 1 ≡ false
    not_first m = grind (arith, nat_tests)

left-below : (k m : ℕ) → 0 < k → left_of k (suc m) < k + m
left-below k zero h = omega arith
left-below k (suc m) h = let e = left-next k m in omega arith

-- the rows after so many steps
record IsRun (n : ℕ) (given : List Row) (V : List Visit) (k end m : ℕ) (held : List Row) : Type 0 where
  count : length held ≡ k + m
  kept : (j : ℕ) → j < k → row_at held j ≡ row_at (map tightened given) j
  running : Spans n (row_at held (left_of k (suc m))) (visit_at V (back V (suc m) end)).place (visit_at V end).place ((visit_at V end).value -ℤ (visit_at V (back V (suc m) end)).value)
  held_is : held_rows given (first_steps k m) ≡ Ok held

step-is : (held : List Row) (k m : ℕ) (out : Row) → left_of k (suc m) < length held → suc m < length held → row_sum (row_at held (left_of k (suc m))) (pos 1) (row_at held (suc m)) (pos 1) ≡ Some out
    → step_row held (step_at k (suc m)) ≡ Ok out
step-is held k m out h l e =
    ap (λ (b : Bool). need b Place (or_broken Range (row_sum (row_at held (left_of k (suc m))) (pos 1) (row_at held (suc m)) (pos 1))))
    (and_from (nat_lt (left_of k (suc m)) (length held)) (nat_lt (suc m) (length held)) (lt-ltb (left_of k (suc m)) (length held) h) (lt-ltb (suc m) (length held) l))
    ∙ ap (or_broken Range) e

run : (n : ℕ) (rows : List Row) (E : List Edge) (V : List Visit) (L : List ℕ) (k end : ℕ) → AreEdges n rows E → AreWalks n E V L → end < length V → k ≤ (visit_at V end).depth
    → (m : ℕ) → m < k → (held : List Row) × IsRun n (rows_at rows (walk_edges V k end)) V k end m held
run n rows E V L k end es w h d zero l = (
  map tightened (rows_at rows (walk_edges V k end)),
  record {
    count = length-map (rows_at rows (walk_edges V k end)) tightened ∙ length-map (walk_edges V k end) (row_at rows) ∙ edges-length V k end ∙ (omega arith);
    kept = λ j q. refl;
    running = subst (λ (r : Row). Spans n r (visit_at V (visit_at V end).before).place (visit_at V end).place ((visit_at V end).value -ℤ (visit_at V (visit_at V end).before).value))
        (sym (used-row rows V k 0 end l)) (row-spans n rows E V L es w end h (omega arith));
    held_is = refl;
  },
)
run n rows E V L k end es w h d (suc m) l = next (run n rows E V L k end es w h d m (omega arith))
  where
    given : List Row
    given = rows_at rows (walk_edges V k end)

    here : ℕ
    here = back V (suc m) end

    b : IsBack V (suc m) end
    b = back-is n E V L w (suc m) end h (omega arith)

    c : IsBack V (suc (suc m)) end
    c = back-is n E V L w (suc (suc m)) end h (omega arith)

    next : (held : List Row) × IsRun n (rows_at rows (walk_edges V k end)) V k end m held → (held : List Row) × IsRun n (rows_at rows (walk_edges V k end)) V k end (suc m) held
    next (held, r) = (
      held ++ s.0 ∷ [],
      record {
        count = (let p = length_push held s.0 in omega (arith, r.count));
        kept = λ j q. row_at-more held s.0 j (omega (arith, r.count)) ∙ r.kept j q;
        running = subst (λ (o : Row). Spans n o (visit_at V (back V (suc (suc m)) end)).place (visit_at V end).place ((visit_at V end).value -ℤ (visit_at V (back V (suc (suc m)) end)).value))
            (sym (ap (row_at (held ++ s.0 ∷ [])) (left-next k m) ∙ get_or_push held s.0 no_row (k + m) r.count)) (subst (λ (z : ℤ). Spans n s.0 (visit_at V (back V (suc (suc m)) end)).place (visit_at V end).place z) total s.2);
        held_is = held_rows-more given (first_steps k m) held (step_at k (suc m)) s.0 r.held_is (step-is held k m s.0 (omega (arith, r.count, left-below k m (omega arith))) (omega (arith, r.count)) s.1);
      },
    )
      where
        right : Spans n (row_at held (suc m)) (visit_at V (back V (suc (suc m)) end)).place (visit_at V (back V (suc m) end)).place ((visit_at V (back V (suc m) end)).value -ℤ (visit_at V (back V (suc (suc m)) end)).value)
        right =
            let e = back-more V (suc m) end in
            subst (λ (q : ℕ). Spans n (row_at held (suc m)) (visit_at V q).place (visit_at V (back V (suc m) end)).place ((visit_at V (back V (suc m) end)).value -ℤ (visit_at V q).value)) (sym e)
            (subst (λ (o : Row). Spans n o (visit_at V (visit_at V (back V (suc m) end)).before).place (visit_at V (back V (suc m) end)).place ((visit_at V (back V (suc m) end)).value -ℤ (visit_at V (visit_at V (back V (suc m) end)).before).value))
            (sym (r.kept (suc m) l ∙ used-row rows V k (suc m) end l)) (row-spans n rows E V L es w (back V (suc m) end) (omega (arith, b.below)) (omega (arith, b.depth))))

        total : ((visit_at V end).value -ℤ (visit_at V (back V (suc m) end)).value) +ℤ ((visit_at V (back V (suc m) end)).value -ℤ (visit_at V (back V (suc (suc m)) end)).value) ≡ (visit_at V end).value -ℤ (visit_at V (back V (suc (suc m)) end)).value
        total = omega (arith, ints)

        s : (o : Row) × (row_sum (row_at held (left_of k (suc m))) (pos 1) (row_at held (suc m)) (pos 1) ≡ Some o)
            × Spans n o (visit_at V (back V (suc (suc m)) end)).place (visit_at V end).place (((visit_at V end).value -ℤ (visit_at V (back V (suc m) end)).value) +ℤ ((visit_at V (back V (suc m) end)).value -ℤ (visit_at V (back V (suc (suc m)) end)).value))
        s = spans-sum n (row_at held (left_of k (suc m))) (row_at held (suc m)) (visit_at V (back V (suc (suc m)) end)).place (visit_at V (back V (suc m) end)).place (visit_at V end).place
            ((visit_at V end).value -ℤ (visit_at V (back V (suc m) end)).value) ((visit_at V (back V (suc m) end)).value -ℤ (visit_at V (back V (suc (suc m)) end)).value)
            r.running right (ap in_range total ∙ value-range n E V L w end (back V (suc (suc m)) end) h (omega (arith, c.below)))

edges-below : (n : ℕ) (rows : List Row) (E : List Edge) (V : List Visit) (L : List ℕ) → AreEdges n rows E → AreWalks n E V L → (k i : ℕ) → i < length V → k ≤ (visit_at V i).depth
    → list_all (λ u. nat_lt u (length rows)) (walk_edges V k i) ≡ true
edges-below n rows E V L es w zero i h d = refl
edges-below n rows E V L es w (suc k) i h d =
    let s = (w.each i h).step (omega arith) in
    and_from (nat_lt (visit_at V i).edge (length rows)) (list_all (λ u. nat_lt u (length rows)) (walk_edges V k (visit_at V i).before))
    (lt-ltb (visit_at V i).edge (length rows) (omega (arith, s.edge_below, es.whole)))
    (edges-below n rows E V L es w k (visit_at V i).before (omega (arith, s.earlier)) (omega (arith, s.depth_is)))

last-left : (k m : ℕ) → k ≡ suc m → k + m - 1 ≡ left_of k (suc m)
last-left k zero e = omega arith
last-left k (suc m) e = let f = left-next k m in omega arith

-- a cycle of edges is a conflict of rows
conflict-walk : (n : ℕ) (rows : List Row) (E : List Edge) (V : List Visit) (L : List ℕ) (k m end : ℕ) → AreEdges n rows E → AreWalks n E V L → end < length V → k ≤ (visit_at V end).depth → k ≡ suc m
    → (visit_at V (back V k end)).place ≡ (visit_at V end).place → IsConflict rows (walk_edges V k end) (first_steps k m)
conflict-walk n rows E V L k m end es w h d e c = record {
  given = and_from (is_some_row (walk_edges V k end)) (list_all (λ u. nat_lt u (length rows)) (walk_edges V k end))
      (subst (λ (j : ℕ). is_some_row (walk_edges V j end) ≡ true) (sym e) refl) (edges-below n rows E V L es w k end h d);
  refuted = ap refutes_so r.1.held_is ∙ bad;
}
  where
    r : (held : List Row) × IsRun n (rows_at rows (walk_edges V k end)) V k end m held
    r = run n rows E V L k end es w h d m (omega arith)

    b : IsBack V k end
    b = back-is n E V L w k end h d

    -- the value falls along the cycle
    negative : int_lt ((visit_at V end).value -ℤ (visit_at V (back V k end)).value) (pos 0) ≡ true
    negative = below (visit_at V end).value (visit_at V (back V k end)).value (w.falls (back V k end) end (b.less (omega arith)) h c)
      where
        below : (x y : ℤ) → x <ℤ y → int_lt (x -ℤ y) (pos 0) ≡ true
        below x y l = grind (arith, ints)

    whole : Spans n (row_at r.0 (left_of k (suc m))) (visit_at V end).place (visit_at V end).place ((visit_at V end).value -ℤ (visit_at V (back V k end)).value)
    whole =
        subst (λ (p : ℕ). Spans n (row_at r.0 (left_of k (suc m))) p (visit_at V end).place ((visit_at V end).value -ℤ (visit_at V (back V k end)).value)) c
        (subst (λ (j : ℕ). Spans n (row_at r.0 (left_of k (suc m))) (visit_at V (back V j end)).place (visit_at V end).place ((visit_at V end).value -ℤ (visit_at V (back V j end)).value)) (sym e) r.1.running)

    bad : is_contradiction (row_at r.0 (length r.0 - 1)) ≡ true
    bad =
        ap (λ j. is_contradiction (row_at r.0 j)) (ap (λ j. j - 1) r.1.count ∙ last-left k m e)
        ∙ spans-contradiction n (row_at r.0 (left_of k (suc m))) (visit_at V end).place ((visit_at V end).value -ℤ (visit_at V (back V k end)).value) whole negative

pub conflict-cycle : (n : ℕ) (rows : List Row) (E : List Edge) (V : List Visit) (L : List ℕ) (used : List ℕ) → AreEdges n rows E → AreWalks n E V L → IsCycle V used
    → IsConflict rows used (first_steps (length used) (length used - 1))
conflict-cycle n rows E V L used es w c =
    let l = ap length c.used_is ∙ edges-length V c.edge_count c.end in
    subst (λ (j : ℕ). IsConflict rows used (first_steps j (j - 1))) (sym l)
    (subst (λ (us : List ℕ). IsConflict rows us (first_steps c.edge_count (c.edge_count - 1))) (sym c.used_is)
    (conflict-walk n rows E V L c.edge_count (c.edge_count - 1) c.end es w c.end_below c.deep (omega (arith, c.some)) c.closed))

pub cycle-some : (V : List Visit) (used : List ℕ) → IsCycle V used → 1 ≤ length used
cycle-some V used c = let l = ap length c.used_is ∙ edges-length V c.edge_count c.end in omega (arith, c.some)

pub conflict-steps : (n : ℕ) (rows : List Row) (E : List Edge) (V : List Visit) (L : List ℕ) (used : List ℕ) (count : ℕ) (steps : List RowStep) → AreEdges n rows E → AreWalks n E V L → IsCycle V used → count ≡ length used
    → steps ≡ first_steps count (count - 1) → IsConflict rows used steps
conflict-steps n rows E V L used count steps es w c l e =
    subst (λ (ss : List RowStep). IsConflict rows used ss) (sym (e ∙ ap (λ k. first_steps k (k - 1)) l)) (conflict-cycle n rows E V L used es w c)

-- THE ROWS OF A CYCLE ARE DIFFERENT, since its places are

among : (V : List Visit) (k i e : ℕ) → stands_in (walk_edges V k i) e ≡ true → (m : ℕ) × (m < k) × ((visit_at V (back V m i)).edge ≡ e)
among V zero i e h = absurd cc
among V (suc k) i e h = by_case (nat_eq (visit_at V i).edge e) refl (λ l. among V k (visit_at V i).before e l) h
  where
    same : (a b : ℕ) → nat_eq a b ≡ true → a ≡ b
    same a b h = grind (arith, nat_tests)

    later : (m : ℕ) × (m < k) × ((visit_at V (back V m (visit_at V i).before)).edge ≡ e) → (m : ℕ) × (m < suc k) × ((visit_at V (back V m i)).edge ≡ e)
    later (m, l, f) = (suc m, omega arith, f)

    by_case : (b : Bool) → nat_eq (visit_at V i).edge e ≡ b → (stands_in (walk_edges V k (visit_at V i).before) e ≡ true → (m : ℕ) × (m < k) × ((visit_at V (back V m (visit_at V i).before)).edge ≡ e))
        → (b || stands_in (walk_edges V k (visit_at V i).before) e) ≡ true → (m : ℕ) × (m < suc k) × ((visit_at V (back V m i)).edge ≡ e)
    by_case true f g h = (0, omega arith, same (visit_at V i).edge e f)
    by_case false f g h = later (g h)

different-walk : (n : ℕ) (E : List Edge) (V : List Visit) (L : List ℕ) → AreWalks n E V L → (k i : ℕ) → i < length V → k ≤ (visit_at V i).depth
    → ((a b : ℕ) → a < b → b < k → (visit_at V (back V a i)).place ≡ (visit_at V (back V b i)).place → ⊥) → are_different (walk_edges V k i) ≡ true
different-walk n E V L w zero i h d s = refl
different-walk n E V L w (suc k) i h d s =
    let t = (w.each i h).step (omega arith) in
    and_from (not (stands_in (walk_edges V k (visit_at V i).before) (visit_at V i).edge)) (are_different (walk_edges V k (visit_at V i).before))
    (by_case (stands_in (walk_edges V k (visit_at V i).before) (visit_at V i).edge) refl)
    (different-walk n E V L w k (visit_at V i).before (omega (arith, t.earlier)) (omega (arith, t.depth_is)) (λ a b l m e. s (suc a) (suc b) (omega arith) (omega arith) e))
  where
    -- an edge leads to one place
    apart : (m : ℕ) × (m < k) × ((visit_at V (back V m (visit_at V i).before)).edge ≡ (visit_at V i).edge) → ⊥
    apart (m, l, e) =
        let t = (w.each i h).step (omega arith) in
        let b = back-is n E V L w (suc m) i h (omega arith) in
        let u = (w.each (back V (suc m) i) (omega (arith, b.below))).step (omega (arith, b.depth)) in
        s 0 (suc m) (omega arith) (omega arith) (sym t.to_is ∙ ap (λ j. (edge_at E j).to) (sym e) ∙ u.to_is)

    by_case : (b : Bool) → stands_in (walk_edges V k (visit_at V i).before) (visit_at V i).edge ≡ b → not b ≡ true
    by_case true f = absurd (apart (among V k (visit_at V i).before (visit_at V i).edge f))
    by_case false f = refl

pub cycle-different : (n : ℕ) (E : List Edge) (V : List Visit) (L : List ℕ) (used : List ℕ) → AreWalks n E V L → IsCycle V used → are_different used ≡ true
cycle-different n E V L used w c = ap are_different c.used_is ∙ different-walk n E V L w c.edge_count c.end c.end_below c.deep c.simple

-- THE ROWS LEAD BACK along the cycle

-- the places of so many visits, the last one first
abbrev walk_places : List Visit → ℕ → ℕ → List ℕ
walk_places V zero i = []
walk_places V (suc k) i = (visit_at V i).place ∷ walk_places V k (visit_at V i).before

first-place : (V : List Visit) (k i start : ℕ) → (visit_at V (back V k i)).place ≡ start → (visit_at V i).place ≡ slice_index_or (walk_places V k i) 0 start
first-place V zero i start e = e
first-place V (suc k) i start e = refl

lead-back : (n : ℕ) (rows : List Row) (E : List Edge) (V : List Visit) (L : List ℕ) → AreEdges n rows E → AreWalks n E V L → (k i start : ℕ) → i < length V → k ≤ (visit_at V i).depth
    → (visit_at V (back V k i)).place ≡ start → LeadBack n rows (walk_edges V k i) (walk_places V k i) start
lead-back n rows E V L es w zero i start h d c = cc
lead-back n rows E V L es w (suc k) i start h d c =
    let s = (w.each i h).step (omega arith) in
    let b = (visit_at V i).before in (
      (visit_at V i).value -ℤ (visit_at V b).value,
      subst (λ (p : ℕ). Spans n (tightened (row_at rows (visit_at V i).edge)) p (visit_at V i).place ((visit_at V i).value -ℤ (visit_at V b).value)) (first-place V k b start c)
          (row-spans n rows E V L es w i h (omega arith)),
      lead-back n rows E V L es w k b start (omega (arith, s.earlier)) (omega (arith, s.depth_is)) c,
    )

places-within : (n : ℕ) (E : List Edge) (V : List Visit) (L : List ℕ) → AreWalks n E V L → (k i : ℕ) → i < length V → k ≤ (visit_at V i).depth → list_all (λ p. nat_le p n) (walk_places V k i) ≡ true
places-within n E V L w zero i h d = refl
places-within n E V L w (suc k) i h d =
    let s = (w.each i h).step (omega arith) in
    and_from (nat_le (visit_at V i).place n) (list_all (λ p. nat_le p n) (walk_places V k (visit_at V i).before))
    (leb (visit_at V i).place n (w.each i h).place_below)
    (places-within n E V L w k (visit_at V i).before (omega (arith, s.earlier)) (omega (arith, s.depth_is)))
  where
    leb : (a b : ℕ) → a ≤ b → nat_le a b ≡ true
    leb a b l = grind (arith, nat_tests)

place-among : (V : List Visit) (k i p : ℕ) → stands_in (walk_places V k i) p ≡ true → (m : ℕ) × (m < k) × ((visit_at V (back V m i)).place ≡ p)
place-among V zero i p h = absurd cc
place-among V (suc k) i p h = by_case (nat_eq (visit_at V i).place p) refl (λ l. place-among V k (visit_at V i).before p l) h
  where
    same : (a b : ℕ) → nat_eq a b ≡ true → a ≡ b
    same a b h = grind (arith, nat_tests)

    later : (m : ℕ) × (m < k) × ((visit_at V (back V m (visit_at V i).before)).place ≡ p) → (m : ℕ) × (m < suc k) × ((visit_at V (back V m i)).place ≡ p)
    later (m, l, f) = (suc m, omega arith, f)

    by_case : (b : Bool) → nat_eq (visit_at V i).place p ≡ b → (stands_in (walk_places V k (visit_at V i).before) p ≡ true → (m : ℕ) × (m < k) × ((visit_at V (back V m (visit_at V i).before)).place ≡ p))
        → (b || stands_in (walk_places V k (visit_at V i).before) p) ≡ true → (m : ℕ) × (m < suc k) × ((visit_at V (back V m i)).place ≡ p)
    by_case true f g h = (0, omega arith, same (visit_at V i).place p f)
    by_case false f g h = later (g h)

places-different : (V : List Visit) (k i : ℕ) → ((a b : ℕ) → a < b → b < k → (visit_at V (back V a i)).place ≡ (visit_at V (back V b i)).place → ⊥) → are_different (walk_places V k i) ≡ true
places-different V zero i s = refl
places-different V (suc k) i s =
    and_from (not (stands_in (walk_places V k (visit_at V i).before) (visit_at V i).place)) (are_different (walk_places V k (visit_at V i).before))
    (by_case (stands_in (walk_places V k (visit_at V i).before) (visit_at V i).place) refl)
    (places-different V k (visit_at V i).before (λ a b l m e. s (suc a) (suc b) (omega arith) (omega arith) e))
  where
    apart : (m : ℕ) × (m < k) × ((visit_at V (back V m (visit_at V i).before)).place ≡ (visit_at V i).place) → ⊥
    apart (m, l, e) = s 0 (suc m) (omega arith) (omega arith) (sym e)

    by_case : (b : Bool) → stands_in (walk_places V k (visit_at V i).before) (visit_at V i).place ≡ b → not b ≡ true
    by_case true f = absurd (apart (place-among V k (visit_at V i).before (visit_at V i).place f))
    by_case false f = refl

cycle-of-walk : (n : ℕ) (rows : List Row) (E : List Edge) (V : List Visit) (L : List ℕ) → AreEdges n rows E → AreWalks n E V L → (k i : ℕ) → i < length V → 0 < k → k ≤ (visit_at V i).depth
    → (visit_at V (back V k i)).place ≡ (visit_at V i).place → ((a b : ℕ) → a < b → b < k → (visit_at V (back V a i)).place ≡ (visit_at V (back V b i)).place → ⊥) → IsRowCycle n rows (walk_edges V k i)
cycle-of-walk n rows E V L es w zero i h p d c s = absurd (omega arith)
cycle-of-walk n rows E V L es w (suc k) i h p d c s = record {
  end = (visit_at V i).place;
  others = walk_places V k (visit_at V i).before;
  within = places-within n E V L w (suc k) i h d;
  simple = places-different V (suc k) i s;
  lead = lead-back n rows E V L es w (suc k) i (visit_at V i).place h d c;
}

pub cycle-rows : (n : ℕ) (rows : List Row) (E : List Edge) (V : List Visit) (L : List ℕ) (used : List ℕ) → AreEdges n rows E → AreWalks n E V L → IsCycle V used → IsRowCycle n rows used
cycle-rows n rows E V L used es w c =
    subst (IsRowCycle n rows) (sym c.used_is) (cycle-of-walk n rows E V L es w c.edge_count c.end c.end_below c.some c.deep c.closed c.simple)

pub steps-added : (used : List ℕ) (count : ℕ) (steps : List RowStep) → count ≡ length used → steps ≡ first_steps count (count - 1) → steps ≡ first_steps (length used) (length used - 1)
steps-added used count steps l e = e ∙ ap (λ k. first_steps k (k - 1)) l
