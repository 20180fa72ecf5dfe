use Rattle.std.proofs.Common.{◌≡◌, ◌≢◌, ℕ, ◌+◌, ◌-◌, ◌^◌, ◌<◌, ◌≤◌, ◌*◌, pos, neg_ℤ, ◌+ℤ◌, ◌*ℤ◌, ◌≤ℤ◌, ◌<ℤ◌, List, [], ◌∷◌, ◌++◌, length, refl, sym, ◌∙◌, ap, subst, arith, ◌⊎◌, inl, inr}
use Rattle.std.specs.Prelude.{slice_set}
use Rattle.std.proofs.lemmas.Bool.{cases_lt, cases_eq}
use Rattle.std.proofs.lemmas.Int.{ints}
use Rattle.std.proofs.lemmas.List.{get_or_append_left, get_or_push, get_or-set_same, get_or-set_other, length-set, length_push}
use Rattle.diff_bounds.specs.declared.edges.Edge.{Edge}
use Rattle.diff_bounds.specs.declared.walks.Visit.{Visit}
use Rattle.diff_bounds.specs.Differences.{state_limit}
use Rattle.diff_bounds.specs.Edges.{edge_at, IsNear, AreNear}
use Rattle.diff_bounds.specs.Walks.{no_visit, visit_at, IsVisit, latest_at, now_at, AreWalks, IsNext, AreShort, IsLong, IsSettled, AreSettled, IsAhead, AreAhead}
use Rattle.diff_bounds.proofs.Bounding.{far-step, far-low}

-- ONE VISIT MORE

pub old_at : (V : List Visit) (v : Visit) (i : ℕ) → i < length V → visit_at (V ++ v ∷ []) i ≡ visit_at V i
old_at V v i h = get_or_append_left V (v ∷ []) no_visit i h

pub new_at : (V : List Visit) (v : Visit) (i : ℕ) → i ≡ length V → visit_at (V ++ v ∷ []) i ≡ v
new_at V v i h = get_or_push V v no_visit i (sym h)

visit-more : (n : ℕ) (E : List Edge) (V : List Visit) (v : Visit) (i : ℕ) → i < length V → IsVisit n E i (visit_at V i) (visit_at V (visit_at V i).before)
    → IsVisit n E i (visit_at (V ++ v ∷ []) i) (visit_at (V ++ v ∷ []) (visit_at (V ++ v ∷ []) i).before)
visit-more n E V v i h k =
    let e = old_at V v i h in
    let f = ap (λ (u : Visit). visit_at (V ++ v ∷ []) u.before) e ∙ old_at V v (visit_at V i).before (omega (arith, k.not_later)) in
    subst (λ (u : Visit). IsVisit n E i u (visit_at (V ++ v ∷ []) (visit_at (V ++ v ∷ []) i).before)) (sym e) (subst (λ (u : Visit). IsVisit n E i (visit_at V i) u) (sym f) k)

-- the latest visit of its place

pub latest-same : (L : List ℕ) (p q x : ℕ) → q ≡ p → p < length L → latest_at (slice_set L p x) q ≡ x
latest-same L p q x e h = ap (latest_at (slice_set L p x)) e ∙ get_or-set_same L p x 0 h

pub latest-other : (L : List ℕ) (p q x : ℕ) → q ≢ p → latest_at (slice_set L p x) q ≡ latest_at L q
latest-other L p q x h = get_or-set_other L p q x 0 h

-- the latest visits afterwards
pub now-same : (V : List Visit) (L : List ℕ) (v : Visit) (q : ℕ) → q ≡ v.place → v.place < length L → now_at (V ++ v ∷ []) (slice_set L v.place (length V)) q ≡ v
now-same V L v q e h = new_at V v (latest_at (slice_set L v.place (length V)) q) (latest-same L v.place q (length V) e h)

pub now-other : (V : List Visit) (L : List ℕ) (v : Visit) (q : ℕ) → q ≢ v.place → latest_at L q < length V → now_at (V ++ v ∷ []) (slice_set L v.place (length V)) q ≡ now_at V L q
now-other V L v q e h =
    ap (visit_at (V ++ v ∷ [])) (latest-other L v.place q (length V) e) ∙ old_at V v (latest_at L q) h

visit-new : (n : ℕ) (E : List Edge) (V : List Visit) (L : List ℕ) (i : ℕ) (v : Visit) → AreWalks n E V L → IsNear n (edge_at E i) → IsNext n E V L i v → IsVisit n E (length V) v (now_at V L (edge_at E i).from)
visit-new n E V L i v w near x =
    let u = w.each (latest_at L (edge_at E i).from) (w.there (edge_at E i).from near.from_below) in
    let t = w.each (latest_at L (edge_at E i).to) (w.there (edge_at E i).to near.to_below) in
    record {
      place_below = omega (arith, x.place_is, near.to_below);
      depth_below = omega (arith, x.depth_is, x.short);
      not_above = (let a = t.not_above in let b = x.lower in omega (arith, ints));
      not_below = subst (λ (d : ℕ). neg_ℤ (pos (d * 10 ^ 15)) ≤ℤ (pos (n + 1) *ℤ v.value)) (sym x.depth_is) (far-step n (now_at V L (edge_at E i).from).depth (now_at V L (edge_at E i).from).value (edge_at E i).bound v.value u.not_below near.not_below x.value_is);
      not_later = omega (arith, x.before_is, w.there (edge_at E i).from near.from_below);
      step = λ h. record {
        earlier = omega (arith, x.before_is, w.there (edge_at E i).from near.from_below);
        edge_below = omega (arith, x.edge_is, x.edge_below);
        from_is = ap (λ j. (edge_at E j).from) x.edge_is ∙ sym (w.same (edge_at E i).from near.from_below);
        to_is = ap (λ j. (edge_at E j).to) x.edge_is ∙ sym x.place_is;
        value_is = x.value_is ∙ ap (λ j. (now_at V L (edge_at E i).from).value +ℤ (edge_at E j).bound) (sym x.edge_is);
        depth_is = x.depth_is;
      };
    }

pub walks-push : (n : ℕ) (E : List Edge) (V : List Visit) (L : List ℕ) (i : ℕ) (v : Visit) → AreWalks n E V L → IsNear n (edge_at E i) → IsNext n E V L i v
    → AreWalks n E (V ++ v ∷ []) (slice_set L v.place (length V))
walks-push n E V L i v w near x = record {
  each = λ j h. each j (cases_lt j (length V)) h;
  falls = λ j k h m e. falls j k h (cases_lt k (length V)) m e;
  count = length-set L v.place (length V) ∙ w.count;
  there = λ p h. there p h (cases_eq p v.place);
  same = λ p h. same p h (cases_eq p v.place);
  last = λ j h. last j h (cases_lt j (length V));
}
  where
    room : v.place < length L
    room = omega (arith, x.place_is, near.to_below, w.count)

    longer : length (V ++ v ∷ []) ≡ length V + 1
    longer = length_push V v

    each : (j : ℕ) → (j < length V) ⊎ (length V ≤ j) → j < length (V ++ v ∷ []) → IsVisit n E j (visit_at (V ++ v ∷ []) j) (visit_at (V ++ v ∷ []) (visit_at (V ++ v ∷ []) j).before)
    each j (inl l) h = visit-more n E V v j l (w.each j l)
    each j (inr l) h =
        let e : j ≡ length V = omega (arith, longer) in
        let f = new_at V v j e in
        let g = ap (λ (u : Visit). visit_at (V ++ v ∷ []) u.before) f ∙ ap (visit_at (V ++ v ∷ [])) x.before_is ∙ old_at V v (latest_at L (edge_at E i).from) (w.there (edge_at E i).from near.from_below) in
        subst (λ (u : Visit). IsVisit n E j u (visit_at (V ++ v ∷ []) (visit_at (V ++ v ∷ []) j).before)) (sym f)
        (subst (λ (u : Visit). IsVisit n E j v u) (sym g) (subst (λ (k : ℕ). IsVisit n E k v (now_at V L (edge_at E i).from)) (sym e) (visit-new n E V L i v w near x)))

    -- what stood before at the place is higher
    higher : (j : ℕ) → j < length V → (visit_at V j).place ≡ v.place → v.value <ℤ (visit_at V j).value
    higher j h e =
        let p = e ∙ x.place_is in
        let l = subst (λ (q : ℕ). j ≤ latest_at L q) p (w.last j h) in
        by_order (cases_lt j (latest_at L (edge_at E i).to)) l p
      where
        by_order : (j < latest_at L (edge_at E i).to) ⊎ (latest_at L (edge_at E i).to ≤ j) → j ≤ latest_at L (edge_at E i).to → (visit_at V j).place ≡ (edge_at E i).to → v.value <ℤ (visit_at V j).value
        by_order (inl a) l p =
            let f = w.falls j (latest_at L (edge_at E i).to) a (w.there (edge_at E i).to near.to_below) (p ∙ sym (w.same (edge_at E i).to near.to_below)) in
            let g = x.lower in omega (arith, ints)
        by_order (inr a) l p =
            let q : latest_at L (edge_at E i).to ≡ j = omega arith in
            subst (λ (k : ℕ). v.value <ℤ (visit_at V k).value) q x.lower

    falls : (j k : ℕ) → j < k → (k < length V) ⊎ (length V ≤ k) → k < length (V ++ v ∷ []) → (visit_at (V ++ v ∷ []) j).place ≡ (visit_at (V ++ v ∷ []) k).place
        → (visit_at (V ++ v ∷ []) k).value <ℤ (visit_at (V ++ v ∷ []) j).value
    falls j k h (inl l) m e =
        let a = old_at V v j (omega arith) in
        let b = old_at V v k l in
        let f = w.falls j k h l (ap (λ (u : Visit). u.place) (sym a) ∙ e ∙ ap (λ (u : Visit). u.place) b) in
        subst (λ (u : Visit). (visit_at (V ++ v ∷ []) k).value <ℤ u.value) (sym a) (subst (λ (u : Visit). u.value <ℤ (visit_at V j).value) (sym b) f)
    falls j k h (inr l) m e =
        let a = old_at V v j (omega (arith, longer)) in
        let b = new_at V v k (omega (arith, longer)) in
        let f = higher j (omega (arith, longer)) (ap (λ (u : Visit). u.place) (sym a) ∙ e ∙ ap (λ (u : Visit). u.place) b) in
        subst (λ (u : Visit). (visit_at (V ++ v ∷ []) k).value <ℤ u.value) (sym a) (subst (λ (u : Visit). u.value <ℤ (visit_at V j).value) (sym b) f)

    there : (p : ℕ) → p ≤ n → (p ≡ v.place) ⊎ (p ≡ v.place → ⊥) → latest_at (slice_set L v.place (length V)) p < length (V ++ v ∷ [])
    there p h (inl e) = let f = latest-same L v.place p (length V) e room in omega (arith, longer)
    there p h (inr e) = let f = latest-other L v.place p (length V) e in omega (arith, longer, w.there p h)

    same : (p : ℕ) → p ≤ n → (p ≡ v.place) ⊎ (p ≡ v.place → ⊥) → (now_at (V ++ v ∷ []) (slice_set L v.place (length V)) p).place ≡ p
    same p h (inl e) = ap (λ (u : Visit). u.place) (now-same V L v p e room) ∙ sym e
    same p h (inr e) = ap (λ (u : Visit). u.place) (now-other V L v p e (w.there p h)) ∙ w.same p h

    last : (j : ℕ) → j < length (V ++ v ∷ []) → (j < length V) ⊎ (length V ≤ j) → j ≤ latest_at (slice_set L v.place (length V)) (visit_at (V ++ v ∷ []) j).place
    last j h (inl l) = subst (λ (u : Visit). j ≤ latest_at (slice_set L v.place (length V)) u.place) (sym (old_at V v j l)) (by_place (cases_eq (visit_at V j).place v.place))
      where
        by_place : ((visit_at V j).place ≡ v.place) ⊎ ((visit_at V j).place ≡ v.place → ⊥) → j ≤ latest_at (slice_set L v.place (length V)) (visit_at V j).place
        by_place (inl e) = let f = latest-same L v.place (visit_at V j).place (length V) e room in omega arith
        by_place (inr e) = let f = latest-other L v.place (visit_at V j).place (length V) e in omega (arith, w.last j l)
    last j h (inr l) =
        let f = latest-same L v.place v.place (length V) refl room in
        subst (λ (u : Visit). j ≤ latest_at (slice_set L v.place (length V)) u.place) (sym (new_at V v j (omega (arith, longer)))) (omega (arith, longer))

-- WHAT IS AHEAD

edge-ahead : (n : ℕ) (E : List Edge) (V : List Visit) (L : List ℕ) (i : ℕ) (v : Visit) (e : Edge) (d : ℕ) → AreWalks n E V L → IsNear n (edge_at E i) → IsNext n E V L i v → IsNear n e
    → d ≤ v.depth → IsAhead V L e d → IsAhead (V ++ v ∷ []) (slice_set L v.place (length V)) e d
edge-ahead n E V L i v e d w near x m h a = by_from (cases_eq e.from v.place) (cases_eq e.to v.place) a
  where
    room : v.place < length L
    room = omega (arith, x.place_is, near.to_below, w.count)

    lower : (e.to ≡ v.place) ⊎ (e.to ≡ v.place → ⊥) → (now_at (V ++ v ∷ []) (slice_set L v.place (length V)) e.to).value ≤ℤ (now_at V L e.to).value
    lower (inl p) =
        let q = ap (λ (u : Visit). u.value) (now-same V L v e.to p room) in
        let r = ap (λ k. (now_at V L k).value) (p ∙ x.place_is) in
        let s = x.lower in omega (arith, ints)
    lower (inr p) = let q = ap (λ (u : Visit). u.value) (now-other V L v e.to p (w.there e.to m.to_below)) in omega (arith, ints)

    by_from : (e.from ≡ v.place) ⊎ (e.from ≡ v.place → ⊥) → (e.to ≡ v.place) ⊎ (e.to ≡ v.place → ⊥) → IsAhead V L e d → IsAhead (V ++ v ∷ []) (slice_set L v.place (length V)) e d
    by_from (inl p) t a = inr (subst (λ (u : Visit). d ≤ u.depth) (sym (now-same V L v e.from p room)) h)
    by_from (inr p) t (inl s) =
        let q = ap (λ (u : Visit). u.value) (now-other V L v e.from p (w.there e.from m.from_below)) in
        let l = lower t in inl (omega (arith, ints))
    by_from (inr p) t (inr s) = inr (subst (λ (u : Visit). d ≤ u.depth) (sym (now-other V L v e.from p (w.there e.from m.from_below))) s)

pub ahead-push : (n : ℕ) (E : List Edge) (V : List Visit) (L : List ℕ) (i : ℕ) (v : Visit) (round : ℕ) → AreWalks n E V L → AreNear n E → IsNext n E V L i v
    → AreAhead V L E round i → AreAhead (V ++ v ∷ []) (slice_set L v.place (length V)) E round (i + 1)
ahead-push n E V L i v round w near x a = record { all = all; first = λ j h k. first j h (cases_lt j i) k }
  where
    room : v.place < length L
    room = omega (arith, x.place_is, (near i x.edge_below).to_below, w.count)

    -- the edge wasn't settled, so it leads on from a deep visit
    deep : IsAhead V L (edge_at E i) round → round + 1 ≤ v.depth
    deep (inl s) = absurd (let a = x.lower in let b = x.value_is in omega (arith, ints))
    deep (inr s) = omega (arith, x.depth_is)

    depth_is : round + 1 ≤ v.depth
    depth_is = deep (a.all i x.edge_below)

    all : (j : ℕ) → j < length E → IsAhead (V ++ v ∷ []) (slice_set L v.place (length V)) (edge_at E j) round
    all j h = edge-ahead n E V L i v (edge_at E j) round w (near i x.edge_below) x (near j h) (omega (arith, depth_is)) (a.all j h)

    own : ((edge_at E i).from ≡ v.place) ⊎ ((edge_at E i).from ≡ v.place → ⊥) → IsAhead (V ++ v ∷ []) (slice_set L v.place (length V)) (edge_at E i) (round + 1)
    own (inl p) = inr (subst (λ (u : Visit). round + 1 ≤ u.depth) (sym (now-same V L v (edge_at E i).from p room)) depth_is)
    own (inr p) =
        let q = ap (λ (u : Visit). u.value) (now-other V L v (edge_at E i).from p (w.there (edge_at E i).from (near i x.edge_below).from_below)) in
        let r = ap (λ (u : Visit). u.value) (now-same V L v (edge_at E i).to (sym x.place_is) room) in
        let s = x.value_is in inl (omega (arith, ints))

    first : (j : ℕ) → j < length E → (j < i) ⊎ (i ≤ j) → j < i + 1 → IsAhead (V ++ v ∷ []) (slice_set L v.place (length V)) (edge_at E j) (round + 1)
    first j h (inl l) k = edge-ahead n E V L i v (edge_at E j) (round + 1) w (near i x.edge_below) x (near j h) depth_is (a.first j h l)
    first j h (inr l) k = let e : i ≡ j = omega arith in subst (λ (q : ℕ). IsAhead (V ++ v ∷ []) (slice_set L v.place (length V)) (edge_at E q) (round + 1)) e (own (cases_eq (edge_at E i).from v.place))

-- an edge that is settled already
pub ahead-settled : (E : List Edge) (V : List Visit) (L : List ℕ) (i round : ℕ) → IsSettled V L (edge_at E i) → AreAhead V L E round i → AreAhead V L E round (i + 1)
ahead-settled E V L i round s a = record { all = a.all; first = λ j h k. first j h (cases_lt j i) k }
  where
    first : (j : ℕ) → j < length E → (j < i) ⊎ (i ≤ j) → j < i + 1 → IsAhead V L (edge_at E j) (round + 1)
    first j h (inl l) k = a.first j h l
    first j h (inr l) k = let e : i ≡ j = omega arith in subst (λ (q : ℕ). IsAhead V L (edge_at E q) (round + 1)) e (inl s)

pub ahead-round : (E : List Edge) (V : List Visit) (L : List ℕ) (done round : ℕ) → done ≡ length E → AreAhead V L E round done → AreAhead V L E (round + 1) 0
ahead-round E V L done round e a = record { all = λ j h. a.first j h (omega arith); first = λ j h k. absurd (omega arith) }

-- after one round more than there are integer names
pub ahead-end : (n : ℕ) (E : List Edge) (V : List Visit) (L : List ℕ) (round : ℕ) → round ≡ n + 1 → AreNear n E → AreShort n V L → AreAhead V L E round 0 → AreSettled V L E
ahead-end n E V L round r near s a j h = by_case (a.all j h)
  where
    by_case : IsAhead V L (edge_at E j) round → IsSettled V L (edge_at E j)
    by_case (inl p) = p
    by_case (inr p) = absurd (let q = s (edge_at E j).from (near j h).from_below in omega arith)

pub short-push : (n : ℕ) (E : List Edge) (V : List Visit) (L : List ℕ) (i : ℕ) (v : Visit) → AreWalks n E V L → IsNear n (edge_at E i) → IsNext n E V L i v → AreShort n V L → v.depth ≤ n
    → AreShort n (V ++ v ∷ []) (slice_set L v.place (length V))
short-push n E V L i v w near x s d p h = by_place (cases_eq p v.place)
  where
    by_place : (p ≡ v.place) ⊎ (p ≡ v.place → ⊥) → (now_at (V ++ v ∷ []) (slice_set L v.place (length V)) p).depth ≤ n
    by_place (inl e) = subst (λ (u : Visit). u.depth ≤ n) (sym (now-same V L v p e (omega (arith, x.place_is, near.to_below, w.count)))) d
    by_place (inr e) = subst (λ (u : Visit). u.depth ≤ n) (sym (now-other V L v p e (w.there p h))) (s p h)

pub long-push : (n : ℕ) (E : List Edge) (V : List Visit) (L : List ℕ) (i : ℕ) (v : Visit) → IsNext n E V L i v → n < v.depth → IsLong n (V ++ v ∷ [])
long-push n E V L i v x d =
    let l = length_push V v in
    record { some = omega arith; deep = ap (λ (u : Visit). u.depth) (new_at V v (length (V ++ v ∷ []) - 1) (omega arith)) ∙ (omega (arith, x.depth_is, x.short)) }

-- values of visits lie in the range of a state
pub value-low : (n : ℕ) (E : List Edge) (V : List Visit) (L : List ℕ) → AreWalks n E V L → (i : ℕ) → i < length V → neg_ℤ (pos state_limit) ≤ℤ (visit_at V i).value
value-low n E V L w i h = let v = w.each i h in far-low n (visit_at V i).depth (visit_at V i).value v.depth_below v.not_below

pub now-low : (n : ℕ) (E : List Edge) (V : List Visit) (L : List ℕ) → AreWalks n E V L → (p : ℕ) (u : Visit) → p ≤ n → u ≡ now_at V L p → neg_ℤ (pos state_limit) ≤ℤ u.value
now-low n E V L w p u h e = subst (λ (v : Visit). neg_ℤ (pos state_limit) ≤ℤ v.value) (sym e) (value-low n E V L w (latest_at L p) (w.there p h))

pub now-high : (n : ℕ) (E : List Edge) (V : List Visit) (L : List ℕ) → AreWalks n E V L → (p : ℕ) (u : Visit) → p ≤ n → u ≡ now_at V L p → u.value ≤ℤ pos 0
now-high n E V L w p u h e = subst (λ (v : Visit). v.value ≤ℤ pos 0) (sym e) (w.each (latest_at L p) (w.there p h)).not_above
