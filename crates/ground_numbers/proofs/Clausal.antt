-- True clauses make their formula true.
use Rattle.std.proofs.Common.{◌≡◌, ℕ, ◌+◌, Bool, true, false, cond, ◌&&◌, ◌||◌, inl, inr, Option, None, Some, List, [], ◌∷◌, ◌++◌, refl, sym, ◌∙◌, ap, arith}
use Rattle.std.proofs.lemmas.Bool.{and_parts, and_from, or_left, or_right, or_cases}
use Rattle.std.proofs.lemmas.List.Folds.{list_any-append, list_all-append}
use Rattle.proof_lines.specs.declared.clause.Lit.{Lit}
use Rattle.proof_lines.specs.Clauses.{same_bool, lit_of, lit_true, clause_true, all_true, has, insert, join}
use Rattle.proof_lines.proofs.Sets.{true_by}
use Rattle.ground_numbers.specs.Numbered.{Numbered, holds, all_hold}
use Rattle.ground_numbers.specs.Clauses.{Normal, lit, all, any, Folded, settled, unsettled, folded, names, inner_names, new_names, literals, in_front, clause_of, Role, whole, parts, written, clauses_of, names_of, all_clauses}
use Rattle.ground_numbers.proofs.Folding.{normal_true, folded_true, folded-true}

-- ---- clauses as sets

insert-true : (v : ℕ → Bool) (c : List Lit) (l : Lit) → clause_true v (insert c l) ≡ (clause_true v c || lit_true v l)
insert-true v c l = by_test (has c l) refl
  where
    held : (a b : Bool) → (b ≡ true → a ≡ true) → a ≡ (a || b)
    held true b h = refl
    held false true h = h refl
    held false false h = refl

    last : (a b : Bool) → (a || (b || false)) ≡ (a || b)
    last a b = grind arith

    by_test : (b : Bool) → has c l ≡ b → clause_true v (cond b c (c ++ l ∷ [])) ≡ (clause_true v c || lit_true v l)
    by_test true e = held (clause_true v c) (lit_true v l) (true_by v c l e)
    by_test false e = list_any-append (lit_true v) c (l ∷ []) ∙ last (clause_true v c) (lit_true v l)

pub join-true : (v : ℕ → Bool) (c d : List Lit) → clause_true v (join c d) ≡ (clause_true v c || clause_true v d)
join-true v c [] = none (clause_true v c)
  where
    none : (a : Bool) → a ≡ (a || false)
    none a = grind arith
join-true v c (l ∷ d) = join-true v (insert c l) d ∙ ap (λ b. b || clause_true v d) (insert-true v c l) ∙ grouped (clause_true v c) (lit_true v l) (clause_true v d)
  where
    grouped : (a b e : Bool) → ((a || b) || e) ≡ (a || (b || e))
    grouped a b e = grind arith

pub clause_of-true : (v : ℕ → Bool) (front : Option Lit) (p : ℕ) (f : Normal) → clause_true v (clause_of front p f) ≡ (clause_true v (in_front front) || clause_true v (literals p f))
clause_of-true v front p f = join-true v [] (in_front front ++ literals p f) ∙ list_any-append (lit_true v) (in_front front) (literals p f)

pub all-append : (v : ℕ → Bool) (xs ys : List (List Lit)) → all_true v (xs ++ ys) ≡ (all_true v xs && all_true v ys)
all-append v xs ys = list_all-append (clause_true v) xs ys

halves : (v : ℕ → Bool) (xs ys : List (List Lit)) → all_true v (xs ++ ys) ≡ true → (all_true v xs ≡ true) × (all_true v ys ≡ true)
halves v xs ys h = and_parts (all_true v xs) (all_true v ys) (sym (all-append v xs ys) ∙ h)

-- ---- true clauses

-- what is known beside the clauses: the literal in front is false, or some part of the "or" is true
abbrev Given : Role → (ℕ → Bool) → Normal → Type 0
Given (whole front) v f = clause_true v (in_front front) ≡ false
Given (parts p) v f = clause_true v (literals p f) ≡ true

other_true : (a b c : Bool) → c ≡ (a || b) → a ≡ false → c ≡ true → b ≡ true
other_true a b c p q r = grind arith

only : (a : Bool) → (a || false) ≡ true → a ≡ true
only a h = grind arith

unnamed : (a : Bool) → (same_bool a true || false) ≡ true → (same_bool a false || false) ≡ false
unnamed true h = refl
unnamed false h = absurd cc

pub sound : (role : Role) (v : ℕ → Bool) (n : ℕ) (f : Normal) → all_true v (written role n f) ≡ true → Given role v f → normal_true v f ≡ true
sound (whole front) v n (lit l) h e = only (lit_true v l) (other_true (clause_true v (in_front front)) (lit_true v l || false) (clause_true v (clause_of front n (lit l))) (clause_of-true v front n (lit l)) e (and_parts (clause_true v (clause_of front n (lit l))) true h).0)
sound (parts p) v n (lit l) h e = only (lit_true v l) e
sound (whole front) v n (all f g) h e =
    let k = halves v (written (whole front) n f) (written (whole front) (n + new_names f) g) h in
    and_from (normal_true v f) (normal_true v g) (sound (whole front) v n f k.0 e) (sound (whole front) v (n + new_names f) g k.1 e)
sound (parts p) v n (all f g) h e =
    let named = whole (Some (lit_of p false)) in
    let k = halves v (written named n f) (written named (n + new_names f) g) h in
    let no = unnamed (v p) e in
    and_from (normal_true v f) (normal_true v g) (sound named v n f k.0 no) (sound named v (n + new_names f) g k.1 no)
sound (whole front) v n (any f g) h e =
    let from = n + names f + names g in
    let c = clause_of front n (any f g) in
    let k = and_parts (clause_true v c) _ h in
    let l = halves v (written (parts n) from f) (written (parts (n + names f)) (from + inner_names f) g) k.1 in
    let q = other_true (clause_true v (in_front front)) (clause_true v (literals n (any f g))) (clause_true v c) (clause_of-true v front n (any f g)) e k.0 in
    elim (or_cases (clause_true v (literals n f)) (clause_true v (literals (n + names f) g)) (sym (list_any-append (lit_true v) (literals n f) (literals (n + names f) g)) ∙ q)) [
      | inl a ↦ or_left (normal_true v f) (normal_true v g) (sound (parts n) v from f l.0 a)
      | inr b ↦ or_right (normal_true v f) (normal_true v g) (sound (parts (n + names f)) v (from + inner_names f) g l.1 b)
    ]
sound (parts p) v n (any f g) h e =
    let l = halves v (written (parts p) n f) (written (parts (p + names f)) (n + inner_names f) g) h in
    elim (or_cases (clause_true v (literals p f)) (clause_true v (literals (p + names f) g)) (sym (list_any-append (lit_true v) (literals p f) (literals (p + names f) g)) ∙ e)) [
      | inl a ↦ or_left (normal_true v f) (normal_true v g) (sound (parts p) v n f l.0 a)
      | inr b ↦ or_right (normal_true v f) (normal_true v g) (sound (parts (p + names f)) v (n + inner_names f) g l.1 b)
    ]

folded-sound : (v : ℕ → Bool) (n : ℕ) (f : Folded) → all_true v (clauses_of n f) ≡ true → folded_true v f ≡ true
folded-sound v n (settled true) h = refl
folded-sound v n (settled false) h = absurd cc
folded-sound v n (unsettled f) h = sound (whole None) v n f h refl

-- What makes the clauses of a list true makes its formulas true.
pub clauses-sound : (v : ℕ → Bool) (n : ℕ) (fs : List Numbered) → all_true v (all_clauses n fs) ≡ true → all_hold v fs ≡ true
clauses-sound v n [] h = refl
clauses-sound v n (f ∷ fs) h =
    let k = halves v (clauses_of n (folded true f)) (all_clauses (n + names_of (folded true f)) fs) h in
    and_from (holds v f) (all_hold v fs) (sym (folded-true v true f) ∙ folded-sound v n (folded true f) k.0) (clauses-sound v (n + names_of (folded true f)) fs k.1)
