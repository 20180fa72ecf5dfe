-- Parts that are joined as they are made are their conjunction.
use Rattle.std.proofs.Common.{◌≡◌, ℕ, zero, suc, ◌+◌, ◌<◌, Option, Some, None, Bool, true, false, cond, min, List, [], ◌∷◌, ◌++◌, length, drop, refl, sym, ◌∙◌, ap, arith}
use Rattle.std.specs.Prelude.{slice_get, ◌==◌}
use Rattle.std.proofs.lemmas.Bool.{true≢false}
use Rattle.std.proofs.lemmas.Bool.Decides.{Decides-eqb}
use Rattle.spec_core.specs.declared.update.Spot.{Spot}
use Rattle.spec_core.specs.declared.update.Spot.TheVariants.{Every, One}
use Rattle.ground_problem.specs.Symbols.{Symbolic, always, both, both_and, all_parts}
use Rattle.ground_problem.specs.Formulas.{Caller}
use Rattle.ground_problem.specs.Definitions.{spots_hold}
use Rattle.ground_numbers.specs.Numbered.{Numbered, known}
use Rattle.ground_atoms.specs.Known.{Known}
use Rattle.ground_atoms.specs.Making.{make}
use Rattle.stage_defs.specs.Parts.{joined, MadeParts, make_parts, made_parts, spot_at}

pub parts-append : (so_far : Option Numbered) (k : Known) (fs gs : List Symbolic) → make_parts so_far k (fs ++ gs) ≡ make_parts (make_parts so_far k fs).parts (make_parts so_far k fs).known gs
parts-append so_far k [] gs = refl
parts-append so_far k (f ∷ fs) gs = parts-append (Some (joined so_far (make k f).form)) (make k f).known fs gs

both_and-is : (k : Known) (f : Symbolic) (gs : List Symbolic) → make k (both_and f gs) ≡ made_parts (make_parts (Some (make k f).form) (make k f).known gs)
both_and-is k f [] = refl
both_and-is k f (g ∷ gs) = both_and-is k (both f g) gs

-- all parts of a list
pub all_parts-is : (k : Known) (fs : List Symbolic) → make k (all_parts fs) ≡ made_parts (make_parts None k fs)
all_parts-is k [] = refl
all_parts-is k (f ∷ fs) = both_and-is k f fs

-- all parts of a list and one more
pub all_parts-last : (k : Known) (fs : List Symbolic) (g : Symbolic) (o : Option Numbered) (n : Known) → make_parts None k fs ≡ record { known = n; parts = o }
    → make k (all_parts (fs ++ g ∷ [])) ≡ record { known = (make n g).known; form = joined o (make n g).form }
all_parts-last k fs g o n e =
    all_parts-is k (fs ++ g ∷ []) ∙ ap made_parts (parts-append None k fs (g ∷ []))
    ∙ ap (λ (m : MadeParts). made_parts (make_parts m.parts m.known (g ∷ []))) e

-- the spots from one place on
next_spot : (c : Caller) (ss : List Spot) (ts : List ℕ) (i : ℕ) → i < length ss → i < length ts → spots_hold c (drop i ss) (drop i ts) ≡ spot_at c (slice_get ss i) (slice_get ts i) ++ spots_hold c (drop (suc i) ss) (drop (suc i) ts)
next_spot c [] ts i h k = absurd (omega arith)
next_spot c (s ∷ ss) [] i h k = absurd (omega arith)
next_spot c (Every ∷ ss) (t ∷ ts) zero h k = refl
next_spot c (One e ∷ ss) (t ∷ ts) zero h k = refl
next_spot c (s ∷ ss) (t ∷ ts) (suc i) h k = next_spot c ss ts i (omega arith) (omega arith)

pub spots-next : (c : Caller) (ss : List Spot) (ts : List ℕ) (i : ℕ) → i < length ss → i < length ts → (so_far : Option Numbered) (k : Known) (more : Option Numbered) (l : Known)
    → make_parts so_far k (spot_at c (slice_get ss i) (slice_get ts i)) ≡ record { known = l; parts = more }
    → make_parts more l (spots_hold c (drop (i + 1) ss) (drop (i + 1) ts)) ≡ make_parts so_far k (spots_hold c (drop i ss) (drop i ts))
spots-next c ss ts i h g so_far k more l e =
    let q : i + 1 ≡ suc i = omega arith in
    let rest = spots_hold c (drop (suc i) ss) (drop (suc i) ts) in
    ap (λ (n : ℕ). make_parts more l (spots_hold c (drop n ss) (drop n ts))) q
    ∙ sym (ap (λ (m : MadeParts). make_parts m.parts m.known rest) e)
    ∙ sym (parts-append so_far k (spot_at c (slice_get ss i) (slice_get ts i)) rest)
    ∙ ap (make_parts so_far k) (sym (next_spot c ss ts i h g))

-- at the end of the shorter of the two lists
spots-equal : (c : Caller) (ss : List Spot) (ts : List ℕ) (n : ℕ) → n ≡ min (length ss) (length ts) → length ss ≡ length ts → spots_hold c (drop n ss) (drop n ts) ≡ []
spots-equal c [] [] zero e h = refl
spots-equal c [] (t ∷ ts) zero e h = absurd (omega arith)
spots-equal c (s ∷ ss) [] zero e h = absurd (omega arith)
spots-equal c (s ∷ ss) (t ∷ ts) zero e h = absurd (omega arith)
spots-equal c [] ts (suc n) e h = absurd (omega arith)
spots-equal c (s ∷ ss) [] (suc n) e h = absurd (omega arith)
spots-equal c (s ∷ ss) (t ∷ ts) (suc n) e h = spots-equal c ss ts n (omega arith) (omega arith)

spots-unequal : (c : Caller) (ss : List Spot) (ts : List ℕ) (n : ℕ) → n ≡ min (length ss) (length ts) → ¬ (length ss ≡ length ts) → spots_hold c (drop n ss) (drop n ts) ≡ always false ∷ []
spots-unequal c [] [] n e h = absurd (h refl)
spots-unequal c [] (t ∷ ts) zero e h = refl
spots-unequal c (s ∷ ss) [] zero e h = refl
spots-unequal c (s ∷ ss) (t ∷ ts) zero e h = absurd (omega arith)
spots-unequal c [] (t ∷ ts) (suc n) e h = absurd (omega arith)
spots-unequal c (s ∷ ss) [] (suc n) e h = absurd (omega arith)
spots-unequal c (s ∷ ss) (t ∷ ts) (suc n) e h = spots-unequal c ss ts n (omega arith) (λ g. h (ap suc g))

pub spots-done : (c : Caller) (ss : List Spot) (ts : List ℕ) (n : ℕ) → n ≡ min (length ss) (length ts) → (so_far : Option Numbered) (k : Known)
    → make_parts so_far k (spots_hold c (drop n ss) (drop n ts)) ≡ record { known = k; parts = cond (length ss == length ts) so_far (Some (joined so_far (known false))) }
spots-done c ss ts n e so_far k = by_test (length ss == length ts) refl
  where
    by_test : (b : Bool) → (length ss == length ts) ≡ b → make_parts so_far k (spots_hold c (drop n ss) (drop n ts)) ≡ record { known = k; parts = cond b so_far (Some (joined so_far (known false))) }
    by_test true g = ap (make_parts so_far k) (spots-equal c ss ts n e ((Decides-eqb (length ss) (length ts)).0 g))
    by_test false g = ap (make_parts so_far k) (spots-unequal c ss ts n e (λ h. true≢false (sym ((Decides-eqb (length ss) (length ts)).1 h) ∙ g)))
