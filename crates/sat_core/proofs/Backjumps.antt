use Rattle.std.proofs.Common.{◌≡◌, ℕ, true, ◌||◌, ◌⊎◌, inl, inr, List, [], ◌∷◌, refl, subst, Option, Some, None}
use Rattle.std.specs.Prelude.{is_none}
use Rattle.std.proofs.lemmas.Bool.{or_left, or_right}
use Rattle.proof_lines.specs.declared.clause.Lit.{Lit}
use Rattle.proof_lines.specs.Clauses.{same_lit}
use Rattle.sat_core.specs.declared.trail.Entry.{Entry}
use Rattle.sat_core.specs.Trails.{in_trail, after, before_last, is_decision, has_decision}
use Rattle.sat_core.specs.Searching.{IsBefore, IsBackjump}

-- Trails before the decisions of another.

-- it stands before the last decision, or before one that does
pub before-last : (u t : List Entry) → IsBefore u t → (u ≡ before_last t) ⊎ IsBefore u (before_last t)
before-last u [] h = absurd h
before-last u (e ∷ t) h = by_case e.reason h (before-last u t)
  where
    by_case : (r : Option ℕ) → ((is_none r ≡ true) × (u ≡ t)) ⊎ IsBefore u t → (IsBefore u t → (u ≡ before_last t) ⊎ IsBefore u (before_last t)) → (u ≡ after r t (before_last t)) ⊎ IsBefore u (after r t (before_last t))
    by_case None (inl p) f = inl p.1
    by_case None (inr p) f = inr p
    by_case (Some r) (inl p) f = absurd (let q = p.0 in cc)
    by_case (Some r) (inr p) f = f p

pub last-before : (u t : List Entry) → has_decision t ≡ true → (u ≡ before_last t) ⊎ IsBefore u (before_last t) → IsBefore u t
last-before u [] d h = absurd cc
last-before u (e ∷ t) d h = by_case e.reason d h (last-before u t)
  where
    by_case : (r : Option ℕ) → (is_none r || has_decision t) ≡ true → (u ≡ after r t (before_last t)) ⊎ IsBefore u (after r t (before_last t)) → (has_decision t ≡ true → (u ≡ before_last t) ⊎ IsBefore u (before_last t) → IsBefore u t)
        → ((is_none r ≡ true) × (u ≡ t)) ⊎ IsBefore u t
    by_case None d (inl p) f = inl (refl, p)
    by_case None d (inr p) f = inr p
    by_case (Some r) d h f = inr (f d h)

pub before-trans : (v u t : List Entry) → IsBefore v u → IsBefore u t → IsBefore v t
before-trans v u [] h k = absurd k
before-trans v u (e ∷ t) h (inl p) = inr (subst (λ (z : List Entry). IsBefore v z) p.1 h)
before-trans v u (e ∷ t) h (inr p) = inr (before-trans v u t h p)

pub before-decided : (u t : List Entry) → IsBefore u t → has_decision t ≡ true
before-decided u [] h = absurd h
before-decided u (e ∷ t) (inl p) = or_left (is_decision e) (has_decision t) p.0
before-decided u (e ∷ t) (inr p) = or_right (is_decision e) (has_decision t) (before-decided u t p)

-- what is in it is in the other
pub before-in : (u t : List Entry) (l : Lit) → IsBefore u t → in_trail u l ≡ true → in_trail t l ≡ true
before-in u [] l h k = absurd h
before-in u (e ∷ t) l (inl p) k = or_right (same_lit e.lit l) (in_trail t l) (subst (λ (z : List Entry). in_trail z l ≡ true) p.1 k)
before-in u (e ∷ t) l (inr p) k = or_right (same_lit e.lit l) (in_trail t l) (before-in u t l p k)

-- a backjump of a chain is one from where it began
pub backjump-from : (start cs : List (List Lit)) (s t : List Entry) (ds : List (List Lit)) (u : List Entry) → start ≡ cs → (IsBefore u s → IsBefore u t) → IsBackjump start s ds u → IsBackjump cs t ds u
backjump-from start cs s t ds u e f b = subst (λ (z : List (List Lit)). IsBackjump z t ds u) e (record { shorter = f b.shorter; grows = b.grows; none_false = b.none_false; wide = b.wide })

pub before-same : (u s t : List Entry) → before_last s ≡ before_last t → has_decision t ≡ true → IsBefore u s → IsBefore u t
before-same u s t e d h = last-before u t d (subst (λ (z : List Entry). (u ≡ z) ⊎ IsBefore u z) e (before-last u s h))

pub before-either : (u s t : List Entry) → (s ≡ t) ⊎ IsBefore s t → IsBefore u s → IsBefore u t
before-either u s t (inl e) h = subst (λ (z : List Entry). IsBefore u z) e h
before-either u s t (inr k) h = before-trans u s t h k
