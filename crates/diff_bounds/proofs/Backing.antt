use Rattle.std.proofs.Common.{◌≡◌, ℕ, zero, suc, ◌+◌, ◌<◌, ◌≤◌, List, [], ◌∷◌, ◌++◌, length, drop, refl, ◌∙◌, ap, arith}
use Rattle.diff_bounds.specs.declared.edges.Edge.{Edge}
use Rattle.diff_bounds.specs.declared.walks.Visit.{Visit}
use Rattle.diff_bounds.specs.Walks.{visit_at, back, walk_edges, AreWalks}

-- GOING BACK along a walk

pub record IsBack (V : List Visit) (m i : ℕ) : Type 0 where
  pub below : back V m i ≤ i
  pub less : 0 < m → back V m i < i
  pub depth : (visit_at V (back V m i)).depth + m ≡ (visit_at V i).depth

pub back-is : (n : ℕ) (E : List Edge) (V : List Visit) (L : List ℕ) → AreWalks n E V L → (m i : ℕ) → i < length V → m ≤ (visit_at V i).depth → IsBack V m i
back-is n E V L w zero i h k = record { below = omega arith; less = λ j. absurd (omega arith); depth = omega arith }
back-is n E V L w (suc m) i h k =
    let s = (w.each i h).step (omega arith) in
    let b = back-is n E V L w m (visit_at V i).before (omega (arith, s.earlier)) (omega (arith, s.depth_is)) in
    record { below = omega (arith, s.earlier, b.below); less = λ j. omega (arith, s.earlier, b.below); depth = omega (arith, s.depth_is, b.depth) }

-- one visit further back
pub back-more : (V : List Visit) (n i : ℕ) → back V (suc n) i ≡ (visit_at V (back V n i)).before
back-more V zero i = refl
back-more V (suc n) i = back-more V n (visit_at V i).before

pub edges-more : (V : List Visit) (n i : ℕ) → walk_edges V (suc n) i ≡ walk_edges V n i ++ (visit_at V (back V n i)).edge ∷ []
edges-more V zero i = refl
edges-more V (suc n) i = ap (λ es. (visit_at V i).edge ∷ es) (edges-more V n (visit_at V i).before)

pub edges-length : (V : List Visit) (n i : ℕ) → length (walk_edges V n i) ≡ n
edges-length V zero i = refl
edges-length V (suc n) i = ap suc (edges-length V n (visit_at V i).before)

-- going back in two parts
pub back-back : (V : List Visit) (s m i : ℕ) → back V m (back V s i) ≡ back V (s + m) i
back-back V zero m i = let e : m ≡ 0 + m = omega arith in ap (λ k. back V k i) e
back-back V (suc s) m i = let e : suc (s + m) ≡ suc s + m = omega arith in back-back V s m (visit_at V i).before ∙ ap (λ k. back V k i) e

pub edges-drop : (V : List Visit) (s m i : ℕ) → drop s (walk_edges V (s + m) i) ≡ walk_edges V m (back V s i)
edges-drop V zero m i = let e : 0 + m ≡ m = omega arith in ap (λ k. walk_edges V k i) e
edges-drop V (suc s) m i = let e : suc s + m ≡ suc (s + m) = omega arith in ap (λ k. drop (suc s) (walk_edges V k i)) e ∙ edges-drop V s m (visit_at V i).before
