use Rattle.std.proofs.Common.{◌≡◌, ◌≢◌, ℕ, zero, suc, ◌+◌, ◌<◌, ◌≤◌, Bool, true, false, not, cond, ◌&&◌, ◌||◌, ◌==◌, List, [], ◌∷◌, length, set, get_or, refl, sym, ◌∙◌, ap, subst, arith, Option, Some, None, is_some, nat_lt, nat_le}
use Rattle.std.specs.Prelude.{is_none}
use Rattle.std.specs.Option.{option_or}
use Rattle.std.specs.List.{count_by}
use Rattle.std.proofs.lemmas.List.Recursion.{is_count_by}
use Rattle.std.proofs.lemmas.Bool.Decides.{nat_tests}
use Rattle.std.proofs.lemmas.List.{get_or-set_same, get_or-set_other}
use Rattle.proof_lines.specs.declared.clause.Lit.{Lit}
use Rattle.proof_lines.specs.Clauses.{same_lit, same_bool, flip, lit_of}
use Rattle.std.proofs.lemmas.Bool.{eqb-true}
use Rattle.proof_lines.proofs.Sets.{same_nat-refl, same_lit-is, same_lit-refl}
use Rattle.sat_core.specs.declared.trail.Entry.{Entry}
use Rattle.sat_core.specs.Trails.{in_trail, negated, is_assigned, open_in, after, before_last, has_decision}
use Rattle.sat_core.specs.Places.{place_of, lies_before, lies_from, ArePlaces, with_decision, decision_places, some_place, top_place}

-- a literal has a place exactly where it is in the trail
pub place-in : (t : List Entry) (l : Lit) → in_trail t l ≡ is_some (place_of t l)
place-in [] l = refl
place-in (e ∷ t) l = by_case (same_lit e.lit l) (place_of t l) (place-in t l)
  where
    by_case : (b : Bool) (o : Option ℕ) → in_trail t l ≡ is_some o → (b || in_trail t l) ≡ is_some (option_or o (cond b (Some (length t)) None))
    by_case true (Some i) h = refl
    by_case true None h = refl
    by_case false (Some i) h = h
    by_case false None h = h

-- a place lies in the trail
pub place-below : (t : List Entry) (l : Lit) (i : ℕ) → place_of t l ≡ Some i → i < length t
place-below [] l i h = absurd cc
place-below (e ∷ t) l i h = by_case (same_lit e.lit l) (place_of t l) (λ j g. place-below t l j g) h
  where
    by_case : (b : Bool) (o : Option ℕ) → ((j : ℕ) → o ≡ Some j → j < length t) → option_or o (cond b (Some (length t)) None) ≡ Some i → i < suc (length t)
    by_case b (Some j) f h = let k : j ≡ i = cc in let g = f j refl in omega arith
    by_case true None f h = let k : length t ≡ i = cc in omega arith
    by_case false None f h = absurd cc

-- what stands before the last decision is the oldest part of the trail
before_last-short : (t : List Entry) → length (before_last t) ≤ length t
before_last-short [] = omega arith
before_last-short (e ∷ t) = by_case e.reason (before_last-short t)
  where
    by_case : (r : Option ℕ) → length (before_last t) ≤ length t → length (after r t (before_last t)) ≤ suc (length t)
    by_case None h = omega arith
    by_case (Some r) h = omega arith

pub place-before : (t : List Entry) (l : Lit) → in_trail (before_last t) l ≡ lies_before (length (before_last t)) (place_of t l)
place-before [] l = refl
place-before (e ∷ t) l = by_case e.reason (same_lit e.lit l) (place_of t l) refl (before_last-short t) (place-before t l)
  where
    less : (a b : ℕ) → a < b → true ≡ nat_lt a b
    less a b h = grind (arith, nat_tests)

    not_less : (a b : ℕ) → b ≤ a → false ≡ nat_lt a b
    not_less a b h = grind (arith, nat_tests)

    by_case : (r : Option ℕ) (b : Bool) (o : Option ℕ) → place_of t l ≡ o → length (before_last t) ≤ length t → in_trail (before_last t) l ≡ lies_before (length (before_last t)) o
        → in_trail (after r t (before_last t)) l ≡ lies_before (length (after r t (before_last t))) (option_or o (cond b (Some (length t)) None))
    by_case None b (Some i) p s h = place-in t l ∙ ap is_some p ∙ less i (length t) (place-below t l i p)
    by_case None true None p s h = place-in t l ∙ ap is_some p ∙ not_less (length t) (length t) (omega arith)
    by_case None false None p s h = place-in t l ∙ ap is_some p
    by_case (Some r) b (Some i) p s h = h
    by_case (Some r) true None p s h = h ∙ not_less (length t) (length (before_last t)) s
    by_case (Some r) false None p s h = h

-- an atom is assigned where one of its literals is in the trail
pub is_assigned-signs : (t : List Entry) (a : ℕ) → is_assigned t a ≡ (in_trail t (lit_of a true) || in_trail t (lit_of a false))
is_assigned-signs [] a = refl
is_assigned-signs (e ∷ t) a = by_sign (e.lit.atom == a) e.lit.positive (is_assigned t a) (in_trail t (lit_of a true)) (in_trail t (lit_of a false)) (is_assigned-signs t a)
  where
    by_sign : (q p n x y : Bool) → n ≡ (x || y) → (q || n) ≡ (((q && same_bool p true) || x) || ((q && same_bool p false) || y))
    by_sign true true n x y h = refl
    by_sign true false n true y h = refl
    by_sign true false n false y h = refl
    by_sign false p n x y h = h

-- one more entry gives no place where its literal has one already, and to no other literal
pub place-same : (e : Entry) (t : List Entry) (l : Lit) → (same_lit e.lit l ≡ true → in_trail t l ≡ true) → place_of (e ∷ t) l ≡ place_of t l
place-same e t l f = by_case (same_lit e.lit l) (place_of t l) (λ h. sym (place-in t l) ∙ f h)
  where
    by_case : (b : Bool) (o : Option ℕ) → (b ≡ true → is_some o ≡ true) → option_or o (cond b (Some (length t)) None) ≡ o
    by_case b (Some i) f = refl
    by_case true None f = absurd (let h = f refl in cc)
    by_case false None f = refl

pub places-same : (e : Entry) (t : List Entry) (places : List (Option ℕ)) (sign : Bool) → in_trail t e.lit ≡ true → ArePlaces places sign t → ArePlaces places sign (e ∷ t)
places-same e t places sign h w a = w a ∙ sym (place-same e t (lit_of a sign) (λ s. subst (λ (z : Lit). in_trail t z ≡ true) (same_lit-is e.lit (lit_of a sign) s) h))

-- the other sign's places stay
sign-apart : (l : Lit) (a : ℕ) (sign : Bool) → l.positive ≡ not sign → same_lit l (lit_of a sign) ≡ true → ⊥
sign-apart l a sign h s = by_sign sign (let e = same_lit-is l (lit_of a sign) s in sym (ap (λ (z : Lit). z.positive) e) ∙ h)
  where
    by_sign : (b : Bool) → b ≡ not b → ⊥
    by_sign true h = absurd cc
    by_sign false h = absurd cc

pub places-other : (e : Entry) (t : List Entry) (places : List (Option ℕ)) (sign : Bool) → e.lit.positive ≡ not sign → ArePlaces places sign t → ArePlaces places sign (e ∷ t)
places-other e t places sign h w a = w a ∙ sym (place-same e t (lit_of a sign) (λ s. absurd (sign-apart e.lit a sign h s)))

pub places-back : (e : Entry) (t : List Entry) (places : List (Option ℕ)) (sign : Bool) → e.lit.positive ≡ not sign → ArePlaces places sign (e ∷ t) → ArePlaces places sign t
places-back e t places sign h w a = w a ∙ place-same e t (lit_of a sign) (λ s. absurd (sign-apart e.lit a sign h s))

-- a new literal's place is the last one
pub places-put : (e : Entry) (t : List Entry) (places : List (Option ℕ)) (n : ℕ) → n ≡ length t → e.lit.atom < length places → in_trail t e.lit ≡ false
    → ArePlaces places e.lit.positive t → ArePlaces (set places e.lit.atom (Some n)) e.lit.positive (e ∷ t)
places-put e t places n m b h w a = by_case (e.lit.atom == a) refl
  where
    here : place_of (e ∷ t) e.lit ≡ Some (length t)
    here = new (place_of t e.lit) (sym (place-in t e.lit) ∙ h) (same_lit e.lit e.lit) (same_lit-refl e.lit)
      where
        new : (o : Option ℕ) → is_some o ≡ false → (b : Bool) → b ≡ true → option_or o (cond b (Some (length t)) None) ≡ Some (length t)
        new (Some i) h b p = absurd cc
        new None h true p = refl
        new None h false p = absurd cc

    apart : (e.lit.atom == a) ≡ false → a ≢ e.lit.atom
    apart p q = absurd (let r = same_nat-refl e.lit.atom in let s : (e.lit.atom == a) ≡ true = subst (λ (z : ℕ). (e.lit.atom == z) ≡ true) (sym q) r in cc)

    other : (e.lit.atom == a) ≡ false → same_lit e.lit (lit_of a e.lit.positive) ≡ true → in_trail t (lit_of a e.lit.positive) ≡ true
    other p s = absurd (let q = ap (λ (z : Lit). z.atom) (same_lit-is e.lit (lit_of a e.lit.positive) s) in apart p (sym q))

    by_case : (b : Bool) → (e.lit.atom == a) ≡ b → get_or (set places e.lit.atom (Some n)) a None ≡ place_of (e ∷ t) (lit_of a e.lit.positive)
    by_case true p = subst (λ (z : ℕ). get_or (set places e.lit.atom (Some n)) z None ≡ place_of (e ∷ t) (lit_of z e.lit.positive)) (eqb-true e.lit.atom a p)
        (get_or-set_same places e.lit.atom (Some n) None b ∙ ap (λ (k : ℕ). Some k) m ∙ sym here)
    by_case false p = get_or-set_other places e.lit.atom a (Some n) None (apart p) ∙ w a ∙ sym (place-same e t (lit_of a e.lit.positive) (other p))

-- the newest entry goes, and with it its literal's place, where that was the entry's
gone : (e : Entry) (t : List Entry) → place_of t e.lit ≡ cond (lies_from (length t) (place_of (e ∷ t) e.lit)) None (place_of (e ∷ t) e.lit)
gone e t = by_case (place_of t e.lit) refl (same_lit e.lit e.lit)
  where
    below : (i n : ℕ) → i < n → nat_le n i ≡ false
    below i n h = grind (arith, nat_tests)

    here : (n : ℕ) → nat_le n n ≡ true
    here n = grind (arith, nat_tests)

    by_case : (o : Option ℕ) → place_of t e.lit ≡ o → (b : Bool) → o ≡ cond (lies_from (length t) (option_or o (cond b (Some (length t)) None))) None (option_or o (cond b (Some (length t)) None))
    by_case (Some i) p b = λ j. cond (sym (below i (length t) (place-below t e.lit i p)) j) None (Some i)
    by_case None p true = λ j. cond (sym (here (length t)) j) None (Some (length t))
    by_case None p false = refl

pub places-stay : (e : Entry) (t : List Entry) (places : List (Option ℕ)) → lies_from (length t) (get_or places e.lit.atom None) ≡ false → ArePlaces places e.lit.positive (e ∷ t) → ArePlaces places e.lit.positive t
places-stay e t places h w a = w a ∙ by_case (e.lit.atom == a) refl
  where
    here : place_of (e ∷ t) e.lit ≡ place_of t e.lit
    here =
        let f : lies_from (length t) (place_of (e ∷ t) e.lit) ≡ false = ap (lies_from (length t)) (sym (w e.lit.atom)) ∙ h in
        sym (gone e t ∙ (λ j. cond (f j) None (place_of (e ∷ t) e.lit)))

    by_case : (b : Bool) → (e.lit.atom == a) ≡ b → place_of (e ∷ t) (lit_of a e.lit.positive) ≡ place_of t (lit_of a e.lit.positive)
    by_case true p = subst (λ (z : ℕ). place_of (e ∷ t) (lit_of z e.lit.positive) ≡ place_of t (lit_of z e.lit.positive)) (eqb-true e.lit.atom a p) here
    by_case false p = place-same e t (lit_of a e.lit.positive) (λ s. absurd (let q = ap (λ (z : Lit). z.atom) (same_lit-is e.lit (lit_of a e.lit.positive) s) in let r = same_nat-refl a in let u : (e.lit.atom == a) ≡ true = subst (λ (z : ℕ). (z == a) ≡ true) (sym q) r in cc))

pub places-cleared : (e : Entry) (t : List Entry) (places : List (Option ℕ)) → e.lit.atom < length places → lies_from (length t) (get_or places e.lit.atom None) ≡ true → ArePlaces places e.lit.positive (e ∷ t)
    → ArePlaces (set places e.lit.atom None) e.lit.positive t
places-cleared e t places b h w a = by_case (e.lit.atom == a) refl
  where
    here : place_of t e.lit ≡ None
    here =
        let f : lies_from (length t) (place_of (e ∷ t) e.lit) ≡ true = ap (lies_from (length t)) (sym (w e.lit.atom)) ∙ h in
        gone e t ∙ (λ j. cond (f j) None (place_of (e ∷ t) e.lit))

    apart : (e.lit.atom == a) ≡ false → a ≢ e.lit.atom
    apart p q = absurd (let r = same_nat-refl e.lit.atom in let s : (e.lit.atom == a) ≡ true = subst (λ (z : ℕ). (e.lit.atom == z) ≡ true) (sym q) r in cc)

    by_case : (b : Bool) → (e.lit.atom == a) ≡ b → get_or (set places e.lit.atom None) a None ≡ place_of t (lit_of a e.lit.positive)
    by_case true p = subst (λ (z : ℕ). get_or (set places e.lit.atom None) z None ≡ place_of t (lit_of z e.lit.positive)) (eqb-true e.lit.atom a p)
        (get_or-set_same places e.lit.atom None None b ∙ sym here)
    by_case false p = get_or-set_other places e.lit.atom a None None (apart p) ∙ w a
        ∙ place-same e t (lit_of a e.lit.positive) (λ s. absurd (let q = ap (λ (z : Lit). z.atom) (same_lit-is e.lit (lit_of a e.lit.positive) s) in apart p (sym q)))

-- a place in a list that is there
pub place-there : (places : List (Option ℕ)) (a n : ℕ) → lies_from n (get_or places a None) ≡ true → a < length places
place-there [] a n h = absurd cc
place-there (p ∷ places) zero n h = omega arith
place-there (p ∷ places) (suc a) n h = let g = place-there places a n h in omega arith

-- how many literals of a clause are open before the last decision, by their places
pub open_by_places : (t : List Entry) (n : ℕ) (c : List Lit) → length (before_last t) ≡ n → open_in (before_last t) c ≡ count_by (λ l. not (lies_before n (place_of t (flip l)))) c
open_by_places t n c h = is_count_by (open_in (before_last t)) (λ l. not (lies_before n (place_of t (flip l)))) refl (λ x xs. swap (negated (before_last t) x) (lies_before n (place_of t (flip x))) (open_in (before_last t) xs) (one x)) c
  where
    one : (l : Lit) → negated (before_last t) l ≡ lies_before n (place_of t (flip l))
    one l = place-before t (flip l) ∙ ap (λ (k : ℕ). lies_before k (place_of t (flip l))) h

    swap : (a b : Bool) (n : ℕ) → a ≡ b → cond a n (1 + n) ≡ cond (not b) (1 + n) n
    swap true true n h = refl
    swap true false n h = absurd cc
    swap false true n h = absurd cc
    swap false false n h = refl

-- a trail has a decision where there is a place of one
pub decision-some : (t : List Entry) → has_decision t ≡ some_place (decision_places t)
decision-some [] = refl
decision-some (e ∷ t) = by_case e.reason (decision-some t)
  where
    by_case : (r : Option ℕ) → has_decision t ≡ some_place (decision_places t) → (is_none r || has_decision t) ≡ some_place (with_decision r (length t) (decision_places t))
    by_case None h = refl
    by_case (Some r) h = h

-- what stands before the last decision ends at its place
pub before_last-place : (t : List Entry) → length (before_last t) ≡ top_place (decision_places t)
before_last-place [] = refl
before_last-place (e ∷ t) = by_case e.reason (before_last-place t)
  where
    by_case : (r : Option ℕ) → length (before_last t) ≡ top_place (decision_places t) → length (after r t (before_last t)) ≡ top_place (with_decision r (length t) (decision_places t))
    by_case None h = refl
    by_case (Some r) h = h

-- going back from a forced entry leaves what stands before the last decision
pub cut-more : (e : Entry) (t u s : List Entry) → u ≡ e ∷ t → is_none e.reason ≡ false → before_last u ≡ s → before_last t ≡ s
cut-more e t u s h d w = by_case e.reason d (sym (ap before_last h) ∙ w)
  where
    by_case : (r : Option ℕ) → is_none r ≡ false → after r t (before_last t) ≡ s → before_last t ≡ s
    by_case None d w = absurd cc
    by_case (Some r) d w = w

-- from a decision, it is that
pub cut-here : (e : Entry) (t u s : List Entry) → u ≡ e ∷ t → is_none e.reason ≡ true → before_last u ≡ s → t ≡ s
cut-here e t u s h d w = by_case e.reason d (sym (ap before_last h) ∙ w)
  where
    by_case : (r : Option ℕ) → is_none r ≡ true → after r t (before_last t) ≡ s → t ≡ s
    by_case None d w = w
    by_case (Some r) d w = absurd cc
