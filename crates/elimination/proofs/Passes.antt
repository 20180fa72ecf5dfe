use Rattle.std.proofs.Common.{◌≡◌, ℕ, zero, suc, ◌<◌, ◌+◌, length, List, [], ◌∷◌, get_or, sym, subst, arith, inl, inr}
use Rattle.std.proofs.lemmas.Bool.{cases_lt}
use Rattle.lin_rows.specs.Rows.{Row}
use Rattle.line_rows.specs.Steps.{row_at}
use Rattle.elimination.specs.declared.tableau.Tableau.{Tableau}
use Rattle.elimination.specs.Pairs.{IsCombinedAt}
use Rattle.elimination.specs.Tableaux.{IsTableau, CanMeet, IsGrown, CanAllMeet, AreCombined}
use Rattle.elimination.proofs.Growing.{grown-refl, grown-trans, below-grown, meet-grown, combined-grown}

-- PASSES over the upper and the lower rows of a place

pub grown-start : (rows : List Row) (t : Tableau) → IsTableau rows t → IsGrown rows t t
grown-start rows t g = record { tableau = g; grown = grown-refl t }

-- an upper row with one lower row more
pub lower-more : (rows : List Row) (t u v : Tableau) (place high : ℕ) (lows : List ℕ) (k : ℕ) → CanAllMeet t place (high ∷ []) lows → k < length lows → IsGrown rows t u
    → AreCombined u.held place (high ∷ []) 1 lows k → IsGrown rows u v × IsCombinedAt place v.held (row_at v.held high) (row_at v.held (get_or lows k 0))
    → IsGrown rows t v × AreCombined v.held place (high ∷ []) 1 lows (k + 1)
lower-more rows t u v place high lows k m l g c n = (record { tableau = n.0.tableau; grown = grown-trans t u v g.grown n.0.grown }, λ a b h j. at_high a b h j)
  where
    at : (b : ℕ) → b < k + 1 → IsCombinedAt place v.held (row_at v.held high) (row_at v.held (get_or lows b 0))
    at b j = elim (cases_lt b k) [
      | inl h ↦ (let o = m 0 b (omega arith) (omega arith) in combined-grown u v place high (get_or lows b 0) n.0.grown (below-grown t u high g.grown o.high_below) (below-grown t u (get_or lows b 0) g.grown o.low_below) (c 0 b (omega arith) h))
      | inr h ↦ (let e : b ≡ k = omega arith in subst (λ (i : ℕ). IsCombinedAt place v.held (row_at v.held high) (row_at v.held (get_or lows i 0))) (sym e) n.1)
    ]

    at_high : (a b : ℕ) → a < 1 → b < k + 1 → IsCombinedAt place v.held (row_at v.held (get_or (high ∷ []) a 0)) (row_at v.held (get_or lows b 0))
    at_high zero b h j = at b j
    at_high (suc a) b h j = absurd (omega arith)

-- one upper row more, with all lower rows
pub upper-more : (rows : List Row) (t u v : Tableau) (place : ℕ) (highs lows : List ℕ) (k : ℕ) → CanAllMeet t place highs lows → k < length highs → IsGrown rows t u
    → AreCombined u.held place highs k lows (length lows) → IsGrown rows u v × AreCombined v.held place (get_or highs k 0 ∷ []) 1 lows (length lows)
    → IsGrown rows t v × AreCombined v.held place highs (k + 1) lows (length lows)
upper-more rows t u v place highs lows k m l g c n = (record { tableau = n.0.tableau; grown = grown-trans t u v g.grown n.0.grown }, at)
  where
    at : (a b : ℕ) → a < k + 1 → b < length lows → IsCombinedAt place v.held (row_at v.held (get_or highs a 0)) (row_at v.held (get_or lows b 0))
    at a b h j = elim (cases_lt a k) [
      | inl i ↦ (let o = m a b (omega arith) j in combined-grown u v place (get_or highs a 0) (get_or lows b 0) n.0.grown (below-grown t u (get_or highs a 0) g.grown o.high_below) (below-grown t u (get_or lows b 0) g.grown o.low_below) (c a b i j))
      | inr i ↦ (let e : a ≡ k = omega arith in subst (λ (x : ℕ). IsCombinedAt place v.held (row_at v.held (get_or highs x 0)) (row_at v.held (get_or lows b 0))) (sym e) (n.1 0 b (omega arith) j))
    ]

-- the next lower row may be combined with the upper one
pub lower-meets : (rows : List Row) (t u : Tableau) (place high : ℕ) (lows : List ℕ) (k : ℕ) → CanAllMeet t place (high ∷ []) lows → k < length lows → IsGrown rows t u → CanMeet u place high (get_or lows k 0)
lower-meets rows t u place high lows k m l g = meet-grown t u place high (get_or lows k 0) g.grown (m 0 k (omega arith) l)

-- the next upper row may be combined with each lower one
pub upper-meets : (rows : List Row) (t u : Tableau) (place : ℕ) (highs lows : List ℕ) (k : ℕ) → CanAllMeet t place highs lows → k < length highs → IsGrown rows t u → CanAllMeet u place (get_or highs k 0 ∷ []) lows
upper-meets rows t u place highs lows k m l g zero b h j = meet-grown t u place (get_or highs k 0) (get_or lows b 0) g.grown (m k b l j)
upper-meets rows t u place highs lows k m l g (suc a) b h j = absurd (omega arith)
