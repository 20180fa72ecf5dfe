-- What stands in a part of a tree lies among the words of the part, and what is wrong at an earlier place comes first.
use Rattle.std.proofs.Common.{◌≡◌, ℕ, suc, ◌+◌, ◌<◌, ◌≤◌, ◌⊎◌, inl, inr, List, [], ◌∷◌, ◌++◌, length, refl, sym, ◌∙◌, subst, append-nil, arith}
use Rattle.std.proofs.lemmas.List.{length-append}
use Rattle.std.specs.List.{AllByRecursion}
use Rattle.parser_combinators.specs.Words.{Spelt}
use Rattle.spec_trees.specs.Place.{IsPlaced}
use Rattle.typing_rules.specs.Fault.{Fault}
use Rattle.typing_rules.specs.Formulas.{node_count, first_word}
use Rattle.typing_rules.specs.Sites.{Site, declared, used, applied, one_more, formula, literal, stated, compared, claimed_exists, rule_variable, rule_place}
use Rattle.typing_rules.specs.FaultRules.{IsWrong, not_in_scope, in_scope_already, stated_already, not_as_needed, of_two_sorts, not_for_all, global_in_rule, at_two_sorts, wrong_number, one_too_many, too_many_nodes, too_large, word_of, IsBefore}

-- ---- members

pub all_append : {X : Type 0} (P : X → Type 0) (xs ys : List X) → AllByRecursion P xs → AllByRecursion P ys → AllByRecursion P (xs ++ ys)
all_append P [] ys h k = k
all_append P (x ∷ xs) ys h k = (h.0, all_append P xs ys h.1 k)

pub all_mono : {X : Type 0} (P Q : X → Type 0) → ((x : X) → P x → Q x) → (xs : List X) → AllByRecursion P xs → AllByRecursion Q xs
all_mono P Q f [] h = tt
all_mono P Q f (x ∷ xs) h = (f x h.0, all_mono P Q f xs h.1)

-- ---- the words of a part

abbrev pub Member : List ℕ → ℕ → Type 0
Member [] w = ⊥
Member (c ∷ cs) w = (c ≡ w) ⊎ Member cs w

-- one of these words is at this place
abbrev pub Claims : List Spelt → ℕ → Type 0
Claims [] w = ⊥
Claims (s ∷ ss) w = Member s.claims w ⊎ Claims ss w

pub claims_left : (xs ys : List Spelt) (w : ℕ) → Claims xs w → Claims (xs ++ ys) w
claims_left [] ys w h = absurd h
claims_left (x ∷ xs) ys w (inl h) = inl h
claims_left (x ∷ xs) ys w (inr h) = inr (claims_left xs ys w h)

pub claims_right : (xs ys : List Spelt) (w : ℕ) → Claims ys w → Claims (xs ++ ys) w
claims_right [] ys w h = h
claims_right (x ∷ xs) ys w h = inr (claims_right xs ys w h)

claim_at : (n : ℕ) (cs : List ℕ) (w : ℕ) → AllByRecursion (λ c. c ≡ n) cs → Member cs w → w ≡ n
claim_at n [] w h m = absurd m
claim_at n (c ∷ cs) w h (inl e) = sym e ∙ h.0
claim_at n (c ∷ cs) w h (inr m) = claim_at n cs w h.1 m

placed_claim : (n : ℕ) (xs : List Spelt) (w : ℕ) → IsPlaced n xs → Claims xs w → (n ≤ w) × (w < n + length xs)
placed_claim n [] w h c = absurd c
placed_claim n (x ∷ xs) w h (inl m) = let e : w ≡ n = claim_at n x.claims w h.0 m in ((let a : n ≤ w = omega arith in a), (let b : w < n + suc (length xs) = omega arith in b))
placed_claim n (x ∷ xs) w h (inr c) =
    let p = placed_claim (n + 1) xs w h.1 c in
    let a : n + 1 ≤ w = p.0 in
    let b : w < (n + 1) + length xs = p.1 in
    ((let c : n ≤ w = omega arith in c), (let d : w < n + suc (length xs) = omega arith in d))

placed_left : (n : ℕ) (xs ys : List Spelt) → IsPlaced n (xs ++ ys) → IsPlaced n xs
placed_left n [] ys h = tt
placed_left n (x ∷ xs) ys h = (h.0, placed_left (n + 1) xs ys h.1)

placed_right : (n : ℕ) (xs ys : List Spelt) → IsPlaced n (xs ++ ys) → IsPlaced (n + length xs) ys
placed_right n [] ys h = subst (λ k. IsPlaced k ys) (let e : n ≡ n + 0 = omega arith in e) h
placed_right n (x ∷ xs) ys h = subst (λ k. IsPlaced k ys) (let e : (n + 1) + length xs ≡ n + suc (length xs) = omega arith in e) (placed_right (n + 1) xs ys h.1)

-- what stands in a part of the words stands before what stands in the words behind it
apart : (n : ℕ) (xs ys : List Spelt) (v w : ℕ) → IsPlaced n (xs ++ ys) → Claims xs v → Claims ys w → v < w
apart n xs ys v w h c d =
    let p = placed_claim n xs v (placed_left n xs ys h) c in
    let q = placed_claim (n + length xs) ys w (placed_right n xs ys h) d in
    let a : v < n + length xs = p.1 in
    let b : n + length xs ≤ w = q.0 in
    omega arith

-- ---- sites

-- the word at which something stands
abbrev pub site_word : Site → ℕ
site_word (declared sc m) = m.word
site_word (used sc need m) = m.word
site_word (applied places n m) = m.word
site_word (one_more what most n word) = word
site_word (formula f) = first_word f
site_word (literal f) = f.word
site_word (stated k m) = m.word
site_word (compared sc a b) = b.word
site_word (claimed_exists word) = word
site_word (rule_variable k m) = m.word
site_word (rule_place k p q s m) = m.word

pub wrong_at : (s : Site) (f : Fault) → IsWrong s f → word_of f ≡ site_word s
wrong_at s f (not_in_scope sc need m h) = refl
wrong_at s f (in_scope_already sc m h) = refl
wrong_at s f (stated_already k m h i) = refl
wrong_at s f (not_as_needed sc need m h i) = refl
wrong_at s f (of_two_sorts sc a b h) = refl
wrong_at s f (not_for_all word) = refl
wrong_at s f (global_in_rule k m h) = refl
wrong_at s f (at_two_sorts k p q t m h) = refl
wrong_at s f (wrong_number places n m h) = refl
wrong_at s f (one_too_many what most n word h) = refl
wrong_at s f (too_many_nodes g h) = refl
wrong_at s f (too_large g h) = refl

-- how many words it has at least
abbrev pub weight : Site → ℕ
weight (declared sc m) = 0
weight (used sc need m) = 0
weight (applied places n m) = 0
weight (one_more what most n word) = 0
weight (formula f) = node_count f
weight (literal f) = 0
weight (stated k m) = 0
weight (compared sc a b) = 0
weight (claimed_exists word) = 0
weight (rule_variable k m) = 0
weight (rule_place k p q s m) = 0

-- it stands among these words
abbrev pub IsAmong : List Spelt → Site → Type 0
IsAmong xs s = Claims xs (site_word s) × (weight s ≤ length xs)

-- a fault is another, or before it
abbrev pub IsSameOrBefore : Fault → Fault → Type 0
IsSameOrBefore f g = (f ≡ g) ⊎ IsBefore f g

-- each fault of the one is before each fault of the other, or is the same
abbrev pub Precedes : Site → Site → Type 0
Precedes s t = (f g : Fault) → IsWrong s f → IsWrong t g → IsSameOrBefore f g

abbrev pub InOrder : List Site → Type 0
InOrder [] = Unit {0}
InOrder (s ∷ ss) = AllByRecursion (Precedes s) ss × InOrder ss

pub by_word : (s t : Site) → site_word s < site_word t → Precedes s t
by_word s t lt = λ f g h k. inr (inl (let e : word_of f ≡ site_word s = wrong_at s f h in let d : word_of g ≡ site_word t = wrong_at t g k in omega arith))

in_order_append : (ss ts : List Site) → InOrder ss → InOrder ts → AllByRecursion (λ s. AllByRecursion (Precedes s) ts) ss → InOrder (ss ++ ts)
in_order_append [] ts h k m = k
in_order_append (s ∷ ss) ts h k m = (all_append (Precedes s) ss ts h.0 m.0, in_order_append ss ts h.1 k m.1)

-- What stands in a part of a tree is spelled by these words.
pub record Spelled (ss : List Site) (xs : List Spelt) : Type 0 where
  pub among : AllByRecursion (IsAmong xs) ss
  pub rising : (n : ℕ) → IsPlaced n xs → InOrder ss

-- two parts, one behind the other
pub joint : (ss ts : List Site) (xs ys : List Spelt) → Spelled ss xs → Spelled ts ys → Spelled (ss ++ ts) (xs ++ ys)
joint ss ts xs ys a b = record {
  among = all_append (IsAmong (xs ++ ys)) ss ts
      (all_mono (IsAmong xs) (IsAmong (xs ++ ys)) (λ s h. (claims_left xs ys (site_word s) h.0, (let e = length-append xs ys in let le = h.1 in let r : weight s ≤ length (xs ++ ys) = omega arith in r))) ss a.among)
      (all_mono (IsAmong ys) (IsAmong (xs ++ ys)) (λ s h. (claims_right xs ys (site_word s) h.0, (let e = length-append xs ys in let le = h.1 in let r : weight s ≤ length (xs ++ ys) = omega arith in r))) ts b.among);
  rising = λ n h. in_order_append ss ts (a.rising n (placed_left n xs ys h)) (b.rising (n + length xs) (placed_right n xs ys h))
      (all_mono (IsAmong xs) (λ s. AllByRecursion (Precedes s) ts) (λ s i. all_mono (IsAmong ys) (Precedes s) (λ t j. by_word s t (apart n xs ys (site_word s) (site_word t) h i.0 j.0)) ts b.among) ss a.among);
}

-- words of which nothing is asked
pub quiet : (xs : List Spelt) → Spelled [] xs
quiet xs = record { among = tt; rising = λ n h. tt }

pub before : (ss : List Site) (xs ys : List Spelt) → Spelled ss ys → Spelled ss (xs ++ ys)
before ss xs ys a = joint [] ss xs ys (quiet xs) a

pub behind : (ss : List Site) (xs ys : List Spelt) → Spelled ss xs → Spelled ss (xs ++ ys)
behind ss xs ys a = subst (λ (ts : List Site). Spelled ts (xs ++ ys)) (append-nil ss) (joint ss [] xs ys a (quiet ys))

-- what stands at the first word, with more behind it
pub headed : (s : Site) (ss : List Site) (x : Spelt) (xs : List Spelt) → Member x.claims (site_word s) → weight s ≤ suc (length xs) → Spelled ss xs → Spelled (s ∷ ss) (x ∷ xs)
headed s ss x xs m le a = record {
  among = ((inl m, le), (before ss (x ∷ []) xs a).among);
  rising = λ n h. (all_mono (IsAmong xs) (Precedes s) (λ t i. by_word s t (apart n (x ∷ []) xs (site_word s) (site_word t) h (inl m) i.0)) ss a.among, a.rising (n + 1) h.1);
}

-- what stands at a word before all else, or can't be wrong
pub on_top : (s : Site) (ss : List Site) (xs : List Spelt) → IsAmong xs s → AllByRecursion (Precedes s) ss → Spelled ss xs → Spelled (s ∷ ss) xs
on_top s ss xs i p a = record { among = (i, a.among); rising = λ n h. (p, a.rising n h) }
