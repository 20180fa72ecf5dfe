-- Clauses by their numbers, one more at a time.
use Rattle.std.proofs.Common.{◌≡◌, ℕ, zero, suc, ◌<◌, ◌≤◌, Bool, true, false, ◌&&◌, ◌||◌, List, [], ◌∷◌, ◌++◌, length, get_or, take, refl, sym, ◌∙◌, ap, arith, Option, Some, None, append-nil, drop, drop-cons}
use Rattle.proof_lines.specs.declared.clause.Lit.{Lit}
use Rattle.std.specs.List.{list_any}
use Rattle.proof_lines.specs.Clauses.{sub}
use Rattle.log_freshness.specs.Freshness.{live_of, is_new, each_new}
use Rattle.log_freshness.specs.Index.{slot_within}

-- the clauses among some slots and the next one
pub live_of-next : (slots : List (Option (List Lit))) (i : ℕ) (d : Option (List Lit)) → i < length slots → live_of (take (suc i) slots) ≡ live_of (take i slots) ++ live_of (get_or slots i d ∷ [])
live_of-next [] i d lt = absurd (omega arith)
live_of-next (x ∷ slots) zero d lt = refl
live_of-next (Some c ∷ slots) (suc i) d lt = ap (λ (z : List (List Lit)). c ∷ z) (live_of-next slots i d (omega arith))
live_of-next (None ∷ slots) (suc i) d lt = live_of-next slots i d (omega arith)

pub each_new-some : (slots : List (Option (List Lit))) (i j : ℕ) (d : Option (List Lit)) (c : List Lit) → j ≡ suc i → i < length slots → get_or slots i d ≡ Some c → is_new (live_of (take i slots)) c ≡ true
    → each_new (live_of (take i slots)) (live_of (drop i slots)) ≡ each_new (live_of (take j slots)) (live_of (drop j slots))
each_new-some slots i j d c e lt g n =
    let before : live_of (take j slots) ≡ live_of (take i slots) ++ c ∷ [] =
    ap (λ (k : ℕ). live_of (take k slots)) e ∙ live_of-next slots i d lt ∙ ap (λ (z : Option (List Lit)). live_of (take i slots) ++ live_of (z ∷ [])) g in
    let here : live_of (drop i slots) ≡ c ∷ live_of (drop j slots) =
    ap live_of (drop-cons slots i d lt) ∙ (λ t. live_of (g t ∷ drop (sym e t) slots)) in
    ap (each_new (live_of (take i slots))) here ∙ ap (λ (b : Bool). b && each_new (live_of (take i slots) ++ c ∷ []) (live_of (drop j slots))) n
    ∙ ap (λ (z : List (List Lit)). each_new z (live_of (drop j slots))) (sym before)

pub each_new-none : (slots : List (Option (List Lit))) (i j : ℕ) (d : Option (List Lit)) → j ≡ suc i → i < length slots → get_or slots i d ≡ None
    → each_new (live_of (take i slots)) (live_of (drop i slots)) ≡ each_new (live_of (take j slots)) (live_of (drop j slots))
each_new-none slots i j d e lt g =
    let before : live_of (take j slots) ≡ live_of (take i slots) ++ [] =
    ap (λ (k : ℕ). live_of (take k slots)) e ∙ live_of-next slots i d lt ∙ ap (λ (z : Option (List Lit)). live_of (take i slots) ++ live_of (z ∷ [])) g in
    let here : live_of (drop i slots) ≡ live_of (drop j slots) =
    ap live_of (drop-cons slots i d lt) ∙ (λ t. live_of (g t ∷ drop (sym e t) slots)) in
    (λ t. each_new ((sym (before ∙ append-nil (live_of (take i slots)))) t) (here t))

-- whether one of the clauses before a number, from another on, lies within a clause: the first of them does, or one behind it
pub within-step : (slots : List (Option (List Lit))) (n i j : ℕ) (c : List Lit) → j ≡ suc i → i < n → n ≤ length slots
    → list_any (λ d. sub d c) (live_of (drop i (take n slots))) ≡ (slot_within c (get_or slots i None) || list_any (λ d. sub d c) (live_of (drop j (take n slots))))
within-step slots n i j c e lt le = step slots n i lt le ∙ ap (λ (k : ℕ). slot_within c (get_or slots i None) || list_any (λ d. sub d c) (live_of (drop k (take n slots)))) (sym e)
  where
    first : (x : Option (List Lit)) (rest : List (Option (List Lit))) → list_any (λ d. sub d c) (live_of (x ∷ rest)) ≡ (slot_within c x || list_any (λ d. sub d c) (live_of rest))
    first (Some d) rest = refl
    first None rest = refl

    step : (slots : List (Option (List Lit))) (n i : ℕ) → i < n → n ≤ length slots
        → list_any (λ d. sub d c) (live_of (drop i (take n slots))) ≡ (slot_within c (get_or slots i None) || list_any (λ d. sub d c) (live_of (drop (suc i) (take n slots))))
    step [] n i lt le = absurd (omega (arith, lt, le))
    step (x ∷ slots) zero i lt le = absurd (omega (arith, lt))
    step (x ∷ slots) (suc n) zero lt le = first x (take n slots)
    step (x ∷ slots) (suc n) (suc i) lt le = step slots n i (omega (arith, lt)) (omega (arith, le))

pub within-end : (slots : List (Option (List Lit))) (n : ℕ) (c : List Lit) → list_any (λ d. sub d c) (live_of (drop n (take n slots))) ≡ false
within-end [] n c = nothing n
  where
    nothing : (n : ℕ) → list_any (λ d. sub d c) (live_of (drop n (take n []))) ≡ false
    nothing zero = refl
    nothing (suc n) = refl
within-end (x ∷ slots) zero c = refl
within-end (x ∷ slots) (suc n) c = within-end slots n c
