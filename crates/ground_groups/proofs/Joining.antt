-- Parts that are joined as they are made, over two lists.
use Rattle.std.proofs.Common.{◌≡◌, ℕ, zero, suc, ◌+◌, ◌<◌, Option, Bool, true, false, cond, min, List, [], ◌∷◌, ◌++◌, length, drop, take, drop-cons, slice_index, refl, sym, ◌∙◌, ap, arith}
use Rattle.std.specs.Prelude.{◌==◌, ◌||◌}
use Rattle.std.specs.List.{list_any}
use Rattle.std.proofs.lemmas.List.Folds.{list_any-append}
use Rattle.std.proofs.lemmas.Bool.Decides.{nat_tests}
use Rattle.ground_problem.specs.Symbols.{Symbolic, same_const}
use Rattle.ground_problem.specs.Entry.{same_later, one_element_each}
use Rattle.ground_numbers.specs.Numbered.{Numbered}
use Rattle.ground_atoms.specs.Known.{Known}
use Rattle.stage_defs.specs.Parts.{MadeParts, make_parts}
use Rattle.stage_defs.proofs.Joined.{parts-append}
use Rattle.ground_groups.specs.Rules.{each_from}

pub parts_step : (fs gs hs : List Symbolic) → hs ≡ fs ++ gs → (so_far more : Option Numbered) (k l : Known) → make_parts so_far k fs ≡ record { known = l; parts = more } → make_parts more l gs ≡ make_parts so_far k hs
parts_step fs gs hs s so_far more k l e =
    sym (ap (λ (m : MadeParts). make_parts m.parts m.known gs) e) ∙ sym (parts-append so_far k fs gs) ∙ ap (make_parts so_far k) (sym s)

-- ---- one variable at later places

later_cons : (v a u c : ℕ) (us cs : List ℕ) → same_later v a (u ∷ us) (c ∷ cs) ≡ cond (u == v) (same_const a c ∷ []) [] ++ same_later v a us cs
later_cons v a u c us cs = by_test (u == v)
  where
    by_test : (b : Bool) → cond b (same_const a c ∷ same_later v a us cs) (same_later v a us cs) ≡ cond b (same_const a c ∷ []) [] ++ same_later v a us cs
    by_test true = refl
    by_test false = refl

pub later_next : (v a : ℕ) (us cs : List ℕ) (i : ℕ) → i < length us → i < length cs
    → same_later v a (drop i us) (drop i cs) ≡ cond (slice_index us i == v) (same_const a (slice_index cs i) ∷ []) [] ++ same_later v a (drop (i + 1) us) (drop (i + 1) cs)
later_next v a us cs i h g =
    let e : suc i ≡ i + 1 = omega arith in
    let p = drop-cons us i 0 h in let q = drop-cons cs i 0 g in
    (λ j. same_later v a (p j) (q j)) ∙ later_cons v a (slice_index us i) (slice_index cs i) (drop (suc i) us) (drop (suc i) cs)
    ∙ (λ j. cond (slice_index us i == v) (same_const a (slice_index cs i) ∷ []) [] ++ same_later v a (drop (e j) us) (drop (e j) cs))

pub later_step : (v a : ℕ) (us cs : List ℕ) (i : ℕ) → i < length us → i < length cs → (so_far more : Option Numbered) (k l : Known)
    → make_parts so_far k (cond (slice_index us i == v) (same_const a (slice_index cs i) ∷ []) []) ≡ record { known = l; parts = more }
    → make_parts more l (same_later v a (drop (i + 1) us) (drop (i + 1) cs)) ≡ make_parts so_far k (same_later v a (drop i us) (drop i cs))
later_step v a us cs i h g so_far more k l e =
    parts_step (cond (slice_index us i == v) (same_const a (slice_index cs i) ∷ []) []) (same_later v a (drop (i + 1) us) (drop (i + 1) cs)) (same_later v a (drop i us) (drop i cs)) (later_next v a us cs i h g) so_far more k l e

pub later_end : (v a : ℕ) (us cs : List ℕ) (n : ℕ) → n ≡ min (length us) (length cs) → same_later v a (drop n us) (drop n cs) ≡ []
later_end v a [] cs zero e = refl
later_end v a (u ∷ us) [] zero e = refl
later_end v a (u ∷ us) (c ∷ cs) zero e = absurd (omega arith)
later_end v a [] cs (suc n) e = absurd (omega arith)
later_end v a (u ∷ us) [] (suc n) e = absurd (omega arith)
later_end v a (u ∷ us) (c ∷ cs) (suc n) e = later_end v a us cs n (omega arith)

-- ---- every variable

take_more : (vs : List ℕ) (i : ℕ) → i < length vs → take (i + 1) vs ≡ take i vs ++ slice_index vs i ∷ []
take_more [] i h = absurd (omega arith)
take_more (v ∷ vs) zero h = refl
take_more (v ∷ vs) (suc i) h =
    let e : suc i + 1 ≡ suc (i + 1) = omega arith in
    ap (λ (n : ℕ). take n (v ∷ vs)) e ∙ ap (λ (l : List ℕ). v ∷ l) (take_more vs i (omega arith))

pub each_next : (vs cs : List ℕ) (i : ℕ) → i < length vs → i < length cs
    → each_from (take i vs) (drop i vs) (drop i cs)
    ≡ cond (list_any (λ u. slice_index vs i == u) (take i vs)) [] (same_later (slice_index vs i) (slice_index cs i) (drop (i + 1) vs) (drop (i + 1) cs)) ++ each_from (take (i + 1) vs) (drop (i + 1) vs) (drop (i + 1) cs)
each_next vs cs i h g =
    let e : suc i ≡ i + 1 = omega arith in
    let p = drop-cons vs i 0 h in let q = drop-cons cs i 0 g in let t = take_more vs i h in
    (λ j. each_from (take i vs) (p j) (q j))
    ∙ (λ j. cond (list_any (λ u. slice_index vs i == u) (take i vs)) [] (same_later (slice_index vs i) (slice_index cs i) (drop (e j) vs) (drop (e j) cs)) ++ each_from (sym t j) (drop (e j) vs) (drop (e j) cs))

pub each_step : (vs cs : List ℕ) (i : ℕ) → i < length vs → i < length cs → (so_far more : Option Numbered) (k l : Known)
    → make_parts so_far k (cond (list_any (λ u. slice_index vs i == u) (take i vs)) [] (same_later (slice_index vs i) (slice_index cs i) (drop (i + 1) vs) (drop (i + 1) cs))) ≡ record { known = l; parts = more }
    → make_parts more l (each_from (take (i + 1) vs) (drop (i + 1) vs) (drop (i + 1) cs)) ≡ make_parts so_far k (each_from (take i vs) (drop i vs) (drop i cs))
each_step vs cs i h g so_far more k l e =
    parts_step (cond (list_any (λ u. slice_index vs i == u) (take i vs)) [] (same_later (slice_index vs i) (slice_index cs i) (drop (i + 1) vs) (drop (i + 1) cs))) (each_from (take (i + 1) vs) (drop (i + 1) vs) (drop (i + 1) cs)) (each_from (take i vs) (drop i vs) (drop i cs))
    (each_next vs cs i h g) so_far more k l e

pub each_end : (before vs cs : List ℕ) (n : ℕ) → n ≡ min (length vs) (length cs) → each_from before (drop n vs) (drop n cs) ≡ []
each_end before [] cs zero e = refl
each_end before (v ∷ vs) [] zero e = refl
each_end before (v ∷ vs) (c ∷ cs) zero e = absurd (omega arith)
each_end before [] cs (suc n) e = absurd (omega arith)
each_end before (v ∷ vs) [] (suc n) e = absurd (omega arith)
each_end before (v ∷ vs) (c ∷ cs) (suc n) e = each_end before vs cs n (omega arith)

-- what was met before, in whatever order
more_met : (before met : List ℕ) (v w : ℕ) → list_any (λ u. w == u) before ≡ list_any (λ u. w == u) met → list_any (λ u. w == u) (before ++ v ∷ []) ≡ (list_any (λ u. w == u) met || ((w == v) || false))
more_met before met v w h = list_any-append (λ u. w == u) before (v ∷ []) ∙ ap (λ (b : Bool). b || ((w == v) || false)) h

was_met : (before met : List ℕ) (v w : ℕ) → list_any (λ u. w == u) before ≡ list_any (λ u. w == u) met → list_any (λ u. v == u) met ≡ true → list_any (λ u. w == u) (before ++ v ∷ []) ≡ list_any (λ u. w == u) met
was_met before met v w h e = more_met before met v w h ∙ by_equal (w == v) refl (list_any (λ u. w == u) met) refl
  where
    known : (w == v) ≡ true → w ≡ v
    known e = grind (arith, nat_tests)

    by_equal : (b : Bool) → (w == v) ≡ b → (d : Bool) → list_any (λ u. w == u) met ≡ d → (d || (b || false)) ≡ d
    by_equal true p true q = refl
    by_equal true p false q = absurd (let r : list_any (λ u. v == u) met ≡ list_any (λ u. w == u) met = ap (λ (x : ℕ). list_any (λ u. x == u) met) (sym (known p)) in cc)
    by_equal false p true q = refl
    by_equal false p false q = refl

new_met : (before met : List ℕ) (v w : ℕ) → list_any (λ u. w == u) before ≡ list_any (λ u. w == u) met → list_any (λ u. w == u) (before ++ v ∷ []) ≡ list_any (λ u. w == u) (v ∷ met)
new_met before met v w h = more_met before met v w h ∙ swap (list_any (λ u. w == u) met) (w == v)
  where
    swap : (a b : Bool) → (a || (b || false)) ≡ (b || a)
    swap true true = refl
    swap true false = refl
    swap false true = refl
    swap false false = refl

pub each_from-is : (vs cs before met : List ℕ) → ((w : ℕ) → list_any (λ u. w == u) before ≡ list_any (λ u. w == u) met) → each_from before vs cs ≡ one_element_each met vs cs
each_from-is [] cs before met h = refl
each_from-is (v ∷ vs) [] before met h = refl
each_from-is (v ∷ vs) (c ∷ cs) before met h =
    ap (λ (b : Bool). cond b [] (same_later v c vs cs) ++ each_from (before ++ v ∷ []) vs cs) (h v)
    ∙ by_test (list_any (λ u. v == u) met) (λ e. each_from-is vs cs (before ++ v ∷ []) met (λ w. was_met before met v w (h w) e)) (each_from-is vs cs (before ++ v ∷ []) (v ∷ met) (λ w. new_met before met v w (h w))) refl
  where
    by_test : (b : Bool) → (list_any (λ u. v == u) met ≡ true → each_from (before ++ v ∷ []) vs cs ≡ one_element_each met vs cs) → each_from (before ++ v ∷ []) vs cs ≡ one_element_each (v ∷ met) vs cs → list_any (λ u. v == u) met ≡ b
        → cond b [] (same_later v c vs cs) ++ each_from (before ++ v ∷ []) vs cs ≡ cond b (one_element_each met vs cs) (same_later v c vs cs ++ one_element_each (v ∷ met) vs cs)
    by_test true f g e = f e
    by_test false f g e = ap (λ (fs : List Symbolic). same_later v c vs cs ++ fs) g
