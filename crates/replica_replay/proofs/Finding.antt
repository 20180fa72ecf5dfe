-- Searches from the front of a list: for an untaken event, and for an unseen one that conflicts.
use Rattle.std.specs.Prelude.{Option, None, Some, cond}
use Rattle.std.specs.List.{find}
use Rattle.std.proofs.Common.{◌≡◌, ℕ, zero, suc, ◌+◌, ◌<◌, ◌≤◌, Bool, true, false, not, ◌&&◌, List, [], ◌∷◌, length, get_or, drop, drop-cons, refl, ◌∙◌, ap, arith}
use Rattle.std.proofs.lemmas.Bool.{cond-true, cond-false}
use Rattle.spec_core.specs.declared.world.World.{World}
use Rattle.spec_core.specs.declared.world.Call.{Call}
use Rattle.spec_core.specs.Specification.{Specification}
use Rattle.token_rules.specs.Conflict.{conflicts}
use Rattle.replica_replay.specs.declared.keeping.Happened.{Happened}
use Rattle.replica_replay.specs.Held.{is_taken}
use Rattle.replica_replay.specs.Refusals.{least_unseen}
use Rattle.replica_replay.specs.Holding.{calls_of}

module _ {X : Type 0} (p : X → Bool) where
  find_at : (xs : List X) (i : ℕ) (x : X) → i < length xs → find p (drop i xs) ≡ cond (p (get_or xs i x)) (Some (get_or xs i x)) (find p (drop (i + 1) xs))
  find_at xs i x lt = ap (find p) (drop-cons xs i x lt) ∙ (let e : suc i ≡ i + 1 = omega arith in ap (λ n. cond (p (get_or xs i x)) (Some (get_or xs i x)) (find p (drop n xs))) e)

  pub find_here : (xs : List X) (i : ℕ) (x : X) → i < length xs → p (get_or xs i x) ≡ true → find p (drop i xs) ≡ Some (get_or xs i x)
  find_here xs i x lt h = find_at xs i x lt ∙ cond-true _ _ _ h

  pub find_later : (xs : List X) (i : ℕ) (x : X) → i < length xs → p (get_or xs i x) ≡ false → find p (drop i xs) ≡ find p (drop (i + 1) xs)
  find_later xs i x lt h = find_at xs i x lt ∙ cond-false _ _ _ h

  pub find_past : (xs : List X) (i : ℕ) → length xs ≤ i → find p (drop i xs) ≡ None
  find_past [] zero le = refl
  find_past [] (suc i) le = refl
  find_past (x ∷ xs) zero le = absurd (omega (arith, le))
  find_past (x ∷ xs) (suc i) le = find_past xs i (omega (arith, le))

module _ (d : Specification) (w : World) (taken : List ℕ) (call : Call) where
  abbrev pub is_unseen : Happened → ℕ → Bool
  is_unseen h n = conflicts d w h.call call && not (is_taken taken n)

  abbrev pub least_from : ℕ → List Happened → Option ℕ
  least_from n hs = least_unseen d w taken call n (calls_of hs)

  least_at : (hs : List Happened) (i : ℕ) (h : Happened) → i < length hs → least_from i (drop i hs) ≡ cond (is_unseen (get_or hs i h) i) (Some i) (least_from (i + 1) (drop (i + 1) hs))
  least_at hs i h lt = ap (least_from i) (drop-cons hs i h lt) ∙ (let e : suc i ≡ i + 1 = omega arith in ap (λ n. cond (is_unseen (get_or hs i h) i) (Some i) (least_from n (drop n hs))) e)

  pub least_here : (hs : List Happened) (i : ℕ) (h : Happened) → i < length hs → is_unseen (get_or hs i h) i ≡ true → least_from i (drop i hs) ≡ Some i
  least_here hs i h lt q = least_at hs i h lt ∙ cond-true _ _ _ q

  pub least_later : (hs : List Happened) (i : ℕ) (h : Happened) → i < length hs → is_unseen (get_or hs i h) i ≡ false → least_from i (drop i hs) ≡ least_from (i + 1) (drop (i + 1) hs)
  least_later hs i h lt q = least_at hs i h lt ∙ cond-false _ _ _ q

  pub least_past : (hs : List Happened) (n i : ℕ) → length hs ≤ i → least_from n (drop i hs) ≡ None
  least_past [] n zero le = refl
  least_past [] n (suc i) le = refl
  least_past (x ∷ xs) n zero le = absurd (omega (arith, le))
  least_past (x ∷ xs) n (suc i) le = least_past xs n i (omega (arith, le))
