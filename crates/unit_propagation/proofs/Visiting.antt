use Rattle.std.proofs.Common.{◌≡◌, ◌≢◌, ℕ, zero, suc, ◌<◌, true, false, not, ◌==◌, ◌⊎◌, inl, inr, List, [], ◌∷◌, ◌++◌, length, get_or, refl, sym, subst, slice_set, arith}
use Rattle.std.proofs.lemmas.Bool.{and_parts, and_from, or_cases, or_left, or_right, eqb-true, not_from_false}
use Rattle.std.proofs.lemmas.List.{get_or-set_same}
use Rattle.proof_lines.specs.declared.clause.Lit.{Lit}
use Rattle.proof_lines.specs.Clauses.{has}
use Rattle.sat_core.specs.declared.trail.Entry.{Entry}
use Rattle.sat_core.specs.Trails.{in_trail, negated}
use Rattle.unit_propagation.specs.declared.looking.Watched.{Watched}
use Rattle.unit_propagation.specs.Watches.{is_among, list_at, code, rests, is_open, turned, is_listed, is_quiet, Keeps, IsSteady, IsKept}
use Rattle.unit_propagation.proofs.Steady.{steady-turned, restless}

-- A clause that is looked at.

-- two literals, in this order or the other
abbrev pub Either : Watched → Watched → Type 0
Either p w = (p ≡ w) ⊎ (p ≡ turned w)

pub either-steady : (t : List Entry) (p w : Watched) → Either p w → IsSteady t w → IsSteady t p
either-steady t p w (inl e) s = subst (λ (z : Watched). IsSteady t z) (sym e) s
either-steady t p w (inr e) s = subst (λ (z : Watched). IsSteady t z) (sym e) (steady-turned t w s)

pub either-has : (c : List Lit) (p w : Watched) → Either p w → has c w.first ≡ true → has c w.second ≡ true → (has c p.first ≡ true) × (has c p.second ≡ true)
either-has c p w (inl e) h k = subst (λ (z : Watched). (has c z.first ≡ true) × (has c z.second ≡ true)) (sym e) (h, k)
either-has c p w (inr e) h k = subst (λ (z : Watched). (has c z.first ≡ true) × (has c z.second ≡ true)) (sym e) (k, h)

pub either-restless : (t : List Entry) (p w : Watched) → Either p w → rests t w ≡ false → (in_trail t p.first ≡ false) × (in_trail t p.second ≡ false)
either-restless t p w (inl e) h = subst (λ (z : Watched). (in_trail t z.first ≡ false) × (in_trail t z.second ≡ false)) (sym e) (restless t w h)
either-restless t p w (inr e) h = let r = restless t w h in subst (λ (z : Watched). (in_trail t z.first ≡ false) × (in_trail t z.second ≡ false)) (sym e) (r.1, r.0)

pub rest_quietly : (t : List Entry) (units : List ℕ) (i : ℕ) (w : Watched) → rests t w ≡ true → is_quiet t [] units i w ≡ true
rest_quietly t units i w h = or_left (rests t w) _ h

pub open_quietly : (t : List Entry) (units : List ℕ) (i : ℕ) (w : Watched) → is_open t w ≡ true → is_among i units ≡ true → is_quiet t [] units i w ≡ true
open_quietly t units i w h k = or_right (rests t w) _ (and_from (is_open t w) (is_among i units) h k)

-- where it stands already
pub was_listed : (lists : List (List ℕ)) (from i : ℕ) (l : Lit) → is_listed lists from (i ∷ []) i l ≡ true → code l ≢ from → is_among i (list_at lists (code l)) ≡ true
was_listed lists from i l h d = elim (or_cases (is_among i (list_at lists (code l))) _ h) [
  | inl p ↦ p
  | inr p ↦ absurd (d (eqb-true (code l) from (and_parts (code l == from) (is_among i (i ∷ [])) p).0))
]

-- it goes on watching what it watched
pub goes_on : (c : List Lit) (t : List Entry) (from : ℕ) (lists others : List (List ℕ)) (i : ℕ) (w : Watched) → IsKept c t from (i ∷ []) lists i w → Keeps lists others → is_among i (list_at others from) ≡ true → IsKept c t 0 [] others i w
goes_on c t from lists others i w x f h = record {
  has_first = x.has_first;
  has_second = x.has_second;
  first_listed = listed w.first x.first_listed;
  second_listed = listed w.second x.second_listed;
  steady = x.steady;
}
  where
    listed : (l : Lit) → is_listed lists from (i ∷ []) i l ≡ true → is_listed others 0 [] i l ≡ true
    listed l g = elim (or_cases (is_among i (list_at lists (code l))) _ g) [
      | inl p ↦ or_left (is_among i (list_at others (code l))) _ (f (code l) i p)
      | inr p ↦ or_left (is_among i (list_at others (code l))) _ (subst (λ (z : ℕ). is_among i (list_at others z) ≡ true) (sym (eqb-true (code l) from (and_parts (code l == from) (is_among i (i ∷ [])) p).0)) h)
    ]

-- it watches these literals from now on
pub watches_these : (c : List Lit) (t : List Entry) (lists : List (List ℕ)) (i : ℕ) (w u : Watched) → u ≡ w → has c w.first ≡ true → has c w.second ≡ true → is_among i (list_at lists (code w.first)) ≡ true → is_among i (list_at lists (code w.second)) ≡ true → IsSteady t w
    → IsKept c t 0 [] lists i u
watches_these c t lists i w u e a b h k s = subst (λ (z : Watched). IsKept c t 0 [] lists i z) (sym e) (record {
  has_first = a;
  has_second = b;
  first_listed = or_left (is_among i (list_at lists (code w.first))) _ h;
  second_listed = or_left (is_among i (list_at lists (code w.second))) _ k;
  steady = s;
})

-- the pair of a clause, once it is set
pub pair_set : (pairs : List Watched) (i : ℕ) (b d : Watched) → i < length pairs → get_or (slice_set pairs i b) i d ≡ b
pair_set pairs i b d h = get_or-set_same pairs i b d h

pub pair_pushed : (pairs : List Watched) (i : ℕ) (b d : Watched) → length pairs ≡ i → get_or (pairs ++ b ∷ []) i d ≡ b
pair_pushed [] i b d e = subst (λ (n : ℕ). get_or (b ∷ []) n d ≡ b) e refl
pair_pushed (p ∷ pairs) zero b d e = absurd (omega (arith, e))
pair_pushed (p ∷ pairs) (suc i) b d e = pair_pushed pairs i b d (omega (arith, e))

pub first_open : (t : List Entry) (w : Watched) → negated t w.first ≡ false → is_open t w ≡ true
first_open t w n = or_left (not (negated t w.first)) (not (negated t w.second)) (not_from_false (negated t w.first) n)
