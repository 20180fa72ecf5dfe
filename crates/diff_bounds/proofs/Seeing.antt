use Rattle.std.proofs.Common.{◌≡◌, ℕ, zero, suc, ◌+◌, ◌-◌, ◌<◌, ◌≤◌, Bool, true, false, cond, List, [], ◌∷◌, ◌++◌, length, drop, replicate, get_or, refl, sym, ◌∙◌, ap, subst, arith, ◌⊎◌, inl, inr, Option, Some, None, is_none, Result, Ok, Err, IfOk}
use Rattle.std.specs.Prelude.{slice_set}
use Rattle.std.proofs.lemmas.Bool.{cases_eq, cases_lt}
use Rattle.std.proofs.lemmas.List.{get_or-set_same, get_or-set_other, length-set, length_push, length-replicate, get_or_read}
use Rattle.diff_bounds.specs.declared.edges.Edge.{Edge}
use Rattle.diff_bounds.specs.declared.walks.Visit.{Visit}
use Rattle.diff_bounds.specs.declared.walks.Walks.{Walks}
use Rattle.diff_bounds.specs.Walks.{no_visit, visit_at, back, walk_edges, AreWalks}
use Rattle.diff_bounds.specs.States.{AreKept, IsLongNow}
use Rattle.diff_bounds.specs.Cycles.{free_places, IsGoingBack, IsCycle}
use Rattle.diff_bounds.proofs.Backing.{IsBack, back-is, back-more, edges-more, back-back, edges-drop}

-- PLACES THAT WERE SEEN

free-replicate : (k : ℕ) → free_places (replicate k None) ≡ k
free-replicate zero = refl
free-replicate (suc k) = let h = free-replicate k in omega arith

free-set : (os : List (Option ℕ)) (p s : ℕ) → p < length os → get_or os p None ≡ None → free_places (slice_set os p (Some s)) + 1 ≡ free_places os
free-set [] p s h k = absurd (omega arith)
free-set (o ∷ os) zero s h k = subst (λ (q : Option ℕ). free_places os + 1 ≡ cond (is_none q) (1 + free_places os) (free_places os)) (sym k) (omega arith)
free-set (o ∷ os) (suc p) s h k = by_case (is_none o) (free-set os p s (omega arith) k)
  where
    by_case : (b : Bool) → free_places (slice_set os p (Some s)) + 1 ≡ free_places os
        → cond b (1 + free_places (slice_set os p (Some s))) (free_places (slice_set os p (Some s))) + 1 ≡ cond b (1 + free_places os) (free_places os)
    by_case true e = omega arith
    by_case false e = e

abbrev unseen : Option ℕ
unseen = None

none-at : (k p : ℕ) → get_or (replicate k unseen) p unseen ≡ unseen
none-at zero p = refl
none-at (suc k) zero = refl
none-at (suc k) (suc p) = none-at k p

going-first : (n : ℕ) (V : List Visit) (seen : List (Option ℕ)) (last : ℕ) → seen ≡ replicate (n + 1) None → IsGoingBack n V last seen [] last
going-first n V seen last e = record {
  at_is = refl;
  used_is = refl;
  seen_count = ap length e ∙ length-replicate (n + 1) None;
  free = (let f = ap free_places e ∙ free-replicate (n + 1) in omega arith);
  places = λ p s h. absurd (let f = sym (none-at (n + 1) p) ∙ ap (λ (os : List (Option ℕ)). get_or os p None) (sym e) ∙ h in cc);
  marked = λ i h. absurd (omega arith);
}

pub going-start : (n : ℕ) (V : List Visit) (seen : List (Option ℕ)) (last at : ℕ) (used : List ℕ) → seen ≡ replicate (n + 1) None → used ≡ [] → at ≡ last → IsGoingBack n V last seen used at
going-start n V seen last at used e f g =
    subst (λ (us : List ℕ). IsGoingBack n V last seen us at) (sym f) (subst (λ (k : ℕ). IsGoingBack n V last seen [] k) (sym g) (going-first n V seen last e))

pub going-more : (n : ℕ) (V : List Visit) (last : ℕ) (seen : List (Option ℕ)) (used : List ℕ) (at : ℕ) → IsGoingBack n V last seen used at → (visit_at V at).place ≤ n
    → get_or seen (visit_at V at).place None ≡ None
    → IsGoingBack n V last (slice_set seen (visit_at V at).place (Some (length used))) (used ++ (visit_at V at).edge ∷ []) (visit_at V at).before
going-more n V last seen used at g h k = record {
  at_is = ap (λ j. (visit_at V j).before) g.at_is ∙ sym (back-more V (length used) last) ∙ ap (λ j. back V j last) more;
  used_is = (λ i. g.used_is i ++ (visit_at V (g.at_is i)).edge ∷ []) ∙ sym (edges-more V (length used) last) ∙ ap (λ j. walk_edges V j last) more;
  seen_count = length-set seen (visit_at V at).place (Some (length used)) ∙ g.seen_count;
  free = (let f = free-set seen (visit_at V at).place (length used) (omega (arith, g.seen_count)) k in let l = length_push used (visit_at V at).edge in omega (arith, g.free));
  places = λ p s e. places p s e (cases_eq p (visit_at V at).place);
  marked = λ i l. marked i l (cases_lt i (length used));
}
  where
    more : suc (length used) ≡ length (used ++ (visit_at V at).edge ∷ [])
    more = let l = length_push used (visit_at V at).edge in omega arith

    places : (p s : ℕ) → get_or (slice_set seen (visit_at V at).place (Some (length used))) p None ≡ Some s → (p ≡ (visit_at V at).place) ⊎ (p ≡ (visit_at V at).place → ⊥)
        → (s < length (used ++ (visit_at V at).edge ∷ [])) × ((visit_at V (back V s last)).place ≡ p)
    places p s e (inl q) =
        let f = sym (get_or-set_same seen (visit_at V at).place (Some (length used)) None (omega (arith, g.seen_count))) ∙ ap (λ j. get_or (slice_set seen (visit_at V at).place (Some (length used))) j None) (sym q) ∙ e in
        let c : length used ≡ s = cc in
        (omega (arith, more), ap (λ j. (visit_at V (back V j last)).place) (sym c) ∙ ap (λ j. (visit_at V j).place) (sym g.at_is) ∙ sym q)
    places p s e (inr q) =
        let f = g.places p s (sym (get_or-set_other seen (visit_at V at).place p (Some (length used)) None q) ∙ e) in
        (omega (arith, more, f.0), f.1)

    some_none : (i : ℕ) (o : Option ℕ) → o ≡ Some i → o ≡ None → ⊥
    some_none i o e f = absurd (let b = ap (λ (q : Option ℕ). is_none q) (sym e ∙ f) in cc)

    marked : (i : ℕ) → i < length (used ++ (visit_at V at).edge ∷ []) → (i < length used) ⊎ (length used ≤ i) → get_or (slice_set seen (visit_at V at).place (Some (length used))) (visit_at V (back V i last)).place None ≡ Some i
    marked i l (inl q) =
        get_or-set_other seen (visit_at V at).place (visit_at V (back V i last)).place (Some (length used)) None
        (λ e. some_none i (get_or seen (visit_at V (back V i last)).place None) (g.marked i q) (ap (λ j. get_or seen j None) e ∙ k)) ∙ g.marked i q
    marked i l (inr q) =
        let e : length used ≡ i = omega (arith, more) in
        let a : (visit_at V (back V i last)).place ≡ (visit_at V at).place = ap (λ j. (visit_at V (back V j last)).place) (sym e) ∙ ap (λ j. (visit_at V j).place) (sym g.at_is) in
        ap (λ j. get_or (slice_set seen (visit_at V at).place (Some (length used))) j None) a
        ∙ get_or-set_same seen (visit_at V at).place (Some (length used)) None (omega (arith, g.seen_count)) ∙ ap (λ j. Some j) e

-- where the walk has come to is a visit
pub going-below : (n : ℕ) (E : List Edge) (V : List Visit) (L : List ℕ) (last : ℕ) (seen : List (Option ℕ)) (used : List ℕ) (at : ℕ) → AreWalks n E V L → last < length V → (visit_at V last).depth ≡ n + 1
    → IsGoingBack n V last seen used at → at < length V
going-below n E V L last seen used at w h d g =
    let b = back-is n E V L w (length used) last h (omega (arith, g.free)) in omega (arith, b.below, g.at_is)

-- and while its place wasn't seen, there is a visit before it
pub going-before : (n : ℕ) (E : List Edge) (V : List Visit) (L : List ℕ) (last : ℕ) (seen : List (Option ℕ)) (used : List ℕ) (at : ℕ) → AreWalks n E V L → last < length V → (visit_at V last).depth ≡ n + 1
    → IsGoingBack n V last seen used at → get_or seen (visit_at V at).place None ≡ None → (visit_at V at).before < at
going-before n E V L last seen used at w h d g k =
    let b = back-is n E V L w (length used) last h (omega (arith, g.free)) in
    let l = going-below n E V L last seen used at w h d g in
    let f = free-set seen (visit_at V at).place (length used) (omega (arith, g.seen_count, (w.each at l).place_below)) k in
    let e = ap (λ j. (visit_at V j).depth) g.at_is in
    ((w.each at l).step (omega (arith, g.free, b.depth))).earlier

-- the cycle between two visits of a place
pub going-end : (n : ℕ) (E : List Edge) (V : List Visit) (L : List ℕ) (last : ℕ) (seen : List (Option ℕ)) (used : List ℕ) (at s : ℕ) → AreWalks n E V L → last < length V → (visit_at V last).depth ≡ n + 1
    → IsGoingBack n V last seen used at → get_or seen (visit_at V at).place None ≡ Some s → IsCycle V (drop s used)
going-end n E V L last seen used at s w h d g k = record {
  end = back V s last;
  edge_count = length used - s;
  end_below = omega (arith, b.below);
  some = omega (arith, p.0);
  deep = omega (arith, b.depth, g.free);
  closed = ap (λ j. (visit_at V j).place) (back-back V s (length used - s) last ∙ ap (λ j. back V j last) whole ∙ sym g.at_is) ∙ sym p.1;
  simple = simple;
  used_is = ap (drop s) (g.used_is ∙ ap (λ j. walk_edges V j last) (sym whole)) ∙ edges-drop V s (length used - s) last;
}
  where
    p : (s < length used) × ((visit_at V (back V s last)).place ≡ (visit_at V at).place)
    p = g.places (visit_at V at).place s k

    whole : s + (length used - s) ≡ length used
    whole = omega (arith, p.0)

    number_of : (i j : ℕ) → Some i ≡ Some j → i ≡ j
    number_of i j e = cc

    simple : (i j : ℕ) → i < j → j < length used - s → (visit_at V (back V i (back V s last))).place ≡ (visit_at V (back V j (back V s last))).place → ⊥
    simple i j l m e =
        let f : (visit_at V (back V (s + i) last)).place ≡ (visit_at V (back V (s + j) last)).place = ap (λ q. (visit_at V q).place) (sym (back-back V s i last)) ∙ e ∙ ap (λ q. (visit_at V q).place) (back-back V s j last) in
        let q = number_of (s + i) (s + j) (sym (g.marked (s + i) (omega arith)) ∙ ap (λ r. get_or seen r None) f ∙ g.marked (s + j) (omega arith)) in
        absurd (omega arith)

    b : IsBack V s last
    b = back-is n E V L w s last h (omega (arith, p.0, g.free))

-- GOING BACK along walks that were kept, by the visit that was read

read : (V : List Visit) (at : ℕ) (v : Visit) → at < length V → v ≡ get_or V at v → v ≡ visit_at V at
read V at v h e = get_or_read V at v h e no_visit

pub at-below : (w : Walks) (E : List Edge) (seen : List (Option ℕ)) (used : List ℕ) (at : ℕ) → AreKept E w → IsLongNow w → IsGoingBack w.ints w.visits.items (length w.visits.items - 1) seen used at → at < length w.visits.items
at-below w E seen used at k l g = going-below w.ints E w.visits.items w.latest.items (length w.visits.items - 1) seen used at k (omega (arith, l.some)) l.deep g

pub place-seen : (w : Walks) (E : List Edge) (seen : List (Option ℕ)) (used : List ℕ) (at : ℕ) (v : Visit) → AreKept E w → IsLongNow w → IsGoingBack w.ints w.visits.items (length w.visits.items - 1) seen used at → v ≡ get_or w.visits.items at v
    → v.place < length seen
place-seen w E seen used at v k l g r =
    let h = at-below w E seen used at k l g in
    let e = ap (λ (u : Visit). u.place) (read w.visits.items at v h r) in
    omega (arith, e, (k.each at h).place_below, g.seen_count)

pub before-at : (w : Walks) (E : List Edge) (seen : List (Option ℕ)) (used : List ℕ) (at : ℕ) (v : Visit) → AreKept E w → IsLongNow w → IsGoingBack w.ints w.visits.items (length w.visits.items - 1) seen used at → v ≡ get_or w.visits.items at v
    → get_or seen v.place None ≡ None → v.before < at
before-at w E seen used at v k l g r o =
    let h = at-below w E seen used at k l g in
    let e = read w.visits.items at v h r in
    subst (λ (u : Visit). u.before < at) (sym e)
    (going-before w.ints E w.visits.items w.latest.items (length w.visits.items - 1) seen used at k (omega (arith, l.some)) l.deep g (subst (λ (u : Visit). get_or seen u.place None ≡ None) e o))

pub going-on : (w : Walks) (E : List Edge) (seen : List (Option ℕ)) (used : List ℕ) (at : ℕ) (v : Visit) (count : ℕ) (more : List ℕ) → AreKept E w → IsLongNow w
    → IsGoingBack w.ints w.visits.items (length w.visits.items - 1) seen used at → v ≡ get_or w.visits.items at v → get_or seen v.place None ≡ None → count ≡ length used → more ≡ used ++ v.edge ∷ []
    → IsGoingBack w.ints w.visits.items (length w.visits.items - 1) (slice_set seen v.place (Some count)) more v.before
going-on w E seen used at v count more k l g r o c m =
    let h = at-below w E seen used at k l g in
    let e = read w.visits.items at v h r in
    subst (λ (us : List ℕ). IsGoingBack w.ints w.visits.items (length w.visits.items - 1) (slice_set seen v.place (Some count)) us v.before) (sym m)
    (subst (λ (j : ℕ). IsGoingBack w.ints w.visits.items (length w.visits.items - 1) (slice_set seen v.place (Some j)) (used ++ v.edge ∷ []) v.before) (sym c)
    (subst (λ (u : Visit). IsGoingBack w.ints w.visits.items (length w.visits.items - 1) (slice_set seen u.place (Some (length used))) (used ++ u.edge ∷ []) u.before) (sym e)
    (going-more w.ints w.visits.items (length w.visits.items - 1) seen used at g (k.each at h).place_below (subst (λ (u : Visit). get_or seen u.place None ≡ None) e o))))

pub cycle-seen : (w : Walks) (E : List Edge) (seen : List (Option ℕ)) (used : List ℕ) (at : ℕ) (v : Visit) (s : ℕ) (cycle : List ℕ) → AreKept E w → IsLongNow w
    → IsGoingBack w.ints w.visits.items (length w.visits.items - 1) seen used at → v ≡ get_or w.visits.items at v → get_or seen v.place None ≡ Some s → cycle ≡ drop s used → IsCycle w.visits.items cycle
cycle-seen w E seen used at v s cycle k l g r o c =
    let h = at-below w E seen used at k l g in
    let e = read w.visits.items at v h r in
    subst (λ (us : List ℕ). IsCycle w.visits.items us) (sym c)
    (going-end w.ints E w.visits.items w.latest.items (length w.visits.items - 1) seen used at s k (omega (arith, l.some)) l.deep g (subst (λ (u : Visit). get_or seen u.place None ≡ Some s) e o))

pub ok_more : {A E : Type 0} (P Q : A → Type 0) → ((a : A) → P a → Q a) → (r : Result A E) → IfOk r P → IfOk r Q
ok_more P Q f (Ok a) h = f a h
ok_more P Q f (Err e) h = h
