-- True formulas make their clauses true, once the naming atoms have the truth values of what they name.
use Rattle.std.proofs.Common.{◌≡◌, ℕ, zero, suc, ◌+◌, ◌<◌, Bool, true, false, cond, ◌||◌, ◌⊎◌, inl, inr, None, Some, List, [], ◌∷◌, ◌++◌, length, get_or, refl, sym, ◌∙◌, ap, subst, arith, length-append}
use Rattle.std.specs.Prelude.{nat_lt, ◌-◌}
use Rattle.std.specs.List.{list_all}
use Rattle.std.proofs.lemmas.Bool.{and_parts, and_from}
use Rattle.std.proofs.lemmas.Bool.Decides.{nat_tests}
use Rattle.std.proofs.lemmas.List.Folds.{list_any-append}
use Rattle.proof_lines.specs.declared.clause.Lit.{Lit}
use Rattle.proof_lines.specs.Clauses.{same_bool, lit_of, lit_true, clause_true, all_true}
use Rattle.ground_numbers.specs.Numbered.{Numbered, known, literal, negation, conjunction, disjunction, holds, all_hold, is_below}
use Rattle.ground_numbers.specs.Clauses.{Normal, lit, all, any, Folded, settled, unsettled, fold_all, fold_any, folded, names, own_names, inner_names, new_names, literals, in_front, clause_of, Role, whole, parts, written, clauses_of, names_of, all_clauses}
use Rattle.ground_numbers.proofs.Folding.{normal_true, folded_true, folded-true}
use Rattle.ground_numbers.proofs.Clausal.{clause_of-true, all-append}

-- ---- what the naming atoms name

abbrev pub part_values : (ℕ → Bool) → Normal → List Bool
part_values v (lit l) = []
part_values v (all f g) = normal_true v (all f g) ∷ []
part_values v (any f g) = part_values v f ++ part_values v g

abbrev pub own_values : (ℕ → Bool) → Normal → List Bool
own_values v (lit l) = []
own_values v (all f g) = []
own_values v (any f g) = part_values v f ++ part_values v g

abbrev pub inner_values : (ℕ → Bool) → Normal → List Bool
inner_values v (lit l) = []
inner_values v (all f g) = (own_values v f ++ inner_values v f) ++ (own_values v g ++ inner_values v g)
inner_values v (any f g) = inner_values v f ++ inner_values v g

abbrev pub new_values : (ℕ → Bool) → Normal → List Bool
new_values v f = own_values v f ++ inner_values v f

length-both : (xs ys : List Bool) (m n : ℕ) → length xs ≡ m → length ys ≡ n → length (xs ++ ys) ≡ m + n
length-both xs ys m n p q = (let e = length-append xs ys in omega arith)

part-length : (v : ℕ → Bool) (f : Normal) → length (part_values v f) ≡ names f
part-length v (lit l) = refl
part-length v (all f g) = refl
part-length v (any f g) = length-both (part_values v f) (part_values v g) (names f) (names g) (part-length v f) (part-length v g)

own-length : (v : ℕ → Bool) (f : Normal) → length (own_values v f) ≡ own_names f
own-length v (lit l) = refl
own-length v (all f g) = refl
own-length v (any f g) = length-both (part_values v f) (part_values v g) (names f) (names g) (part-length v f) (part-length v g)

inner-length : (v : ℕ → Bool) (f : Normal) → length (inner_values v f) ≡ inner_names f
inner-length v (lit l) = refl
inner-length v (all f g) = length-both (new_values v f) (new_values v g) (new_names f) (new_names g) (length-both (own_values v f) (inner_values v f) _ _ (own-length v f) (inner-length v f)) (length-both (own_values v g) (inner_values v g) _ _ (own-length v g) (inner-length v g))
inner-length v (any f g) = length-both (inner_values v f) (inner_values v g) (inner_names f) (inner_names g) (inner-length v f) (inner-length v g)

new-length : (v : ℕ → Bool) (f : Normal) → length (new_values v f) ≡ new_names f
new-length v f = length-both (own_values v f) (inner_values v f) _ _ (own-length v f) (inner-length v f)

-- ---- the atoms from n on have these values

abbrev pub Hold : (ℕ → Bool) → ℕ → List Bool → Type 0
Hold u n list = (j : ℕ) → j < length list → u (n + j) ≡ get_or list j false

get-left : (xs ys : List Bool) (j : ℕ) → j < length xs → get_or (xs ++ ys) j false ≡ get_or xs j false
get-left [] ys j h = absurd (omega arith)
get-left (x ∷ xs) ys zero h = refl
get-left (x ∷ xs) ys (suc j) h = get-left xs ys j (omega arith)

get-right : (xs ys : List Bool) (j : ℕ) → get_or (xs ++ ys) (length xs + j) false ≡ get_or ys j false
get-right [] ys j = (let e : 0 + j ≡ j = omega arith in ap (λ (i : ℕ). get_or ys i false) e)
get-right (x ∷ xs) ys j = (let e : suc (length xs) + j ≡ suc (length xs + j) = omega arith in ap (λ (i : ℕ). get_or (x ∷ (xs ++ ys)) i false) e ∙ get-right xs ys j)

hold-left : (u : ℕ → Bool) (n : ℕ) (xs ys : List Bool) → Hold u n (xs ++ ys) → Hold u n xs
hold-left u n xs ys h j l = h j (let e = length-append xs ys in omega arith) ∙ get-left xs ys j l

hold-right : (u : ℕ → Bool) (n m : ℕ) (xs ys : List Bool) → length xs ≡ m → Hold u n (xs ++ ys) → Hold u (n + m) ys
hold-right u n m xs ys e h j l = (let a : n + m + j ≡ n + (length xs + j) = omega arith in ap u a) ∙ h (length xs + j) (let b = length-append xs ys in omega arith) ∙ get-right xs ys j

hold-at : (u : ℕ → Bool) (m n : ℕ) (xs : List Bool) → m ≡ n → Hold u m xs → Hold u n xs
hold-at u m n xs e h = subst (λ (k : ℕ). Hold u k xs) e h

-- ---- the clauses

-- the literals of a formula have the same truth
abbrev pub LitsSame : (ℕ → Bool) → (ℕ → Bool) → Normal → Type 0
LitsSame v u (lit l) = v l.atom ≡ u l.atom
LitsSame v u (all f g) = LitsSame v u f × LitsSame v u g
LitsSame v u (any f g) = LitsSame v u f × LitsSame v u g

or_false : (b : Bool) → (b || false) ≡ b
or_false b = grind arith

same_true : (b : Bool) → same_bool b true ≡ b
same_true true = refl
same_true false = refl

literals-true : (v u : ℕ → Bool) (p : ℕ) (f : Normal) → LitsSame v u f → Hold u p (part_values v f) → clause_true u (literals p f) ≡ normal_true v f
literals-true v u p (lit l) k h = ap (λ (b : Bool). same_bool b l.positive || false) (sym k) ∙ or_false (lit_true v l)
literals-true v u p (all f g) k h = or_false (same_bool (u p) true) ∙ same_true (u p) ∙ (let e : p ≡ p + 0 = omega arith in ap u e) ∙ h 0 (omega arith)
literals-true v u p (any f g) k h =
    list_any-append (lit_true u) (literals p f) (literals (p + names f) g)
    ∙ (let a = literals-true v u p f k.0 (hold-left u p (part_values v f) (part_values v g) h) in
    let b = literals-true v u (p + names f) g k.1 (hold-right u p (names f) (part_values v f) (part_values v g) (part-length v f) h) in
    λ i. a i || b i)

-- what makes the clauses true beside the values: the literal in front or the formula is true, or the named parts have their values
abbrev Ready : Role → (ℕ → Bool) → (ℕ → Bool) → Normal → Type 0
Ready (whole front) v u f = (clause_true u (in_front front) ≡ true) ⊎ (normal_true v f ≡ true)
Ready (parts p) v u f = Hold u p (part_values v f)

abbrev values_of : Role → (ℕ → Bool) → Normal → List Bool
values_of (whole front) v f = new_values v f
values_of (parts p) v f = inner_values v f

both_ready : (b : Bool) (v : ℕ → Bool) (f g : Normal) → (b ≡ true) ⊎ (normal_true v (all f g) ≡ true) → ((b ≡ true) ⊎ (normal_true v f ≡ true)) × ((b ≡ true) ⊎ (normal_true v g ≡ true))
both_ready b v f g h = elim h [ inl e ↦ (inl e, inl e) | inr e ↦ (let k = and_parts (normal_true v f) (normal_true v g) e in (inr k.0, inr k.1)) ]

named_ready : (v u : ℕ → Bool) (p : ℕ) (f : Normal) → u p ≡ normal_true v f → (clause_true u (lit_of p false ∷ []) ≡ true) ⊎ (normal_true v f ≡ true)
named_ready v u p f e = by_test (u p) e
  where
    by_test : (b : Bool) → b ≡ normal_true v f → ((same_bool b false || false) ≡ true) ⊎ (normal_true v f ≡ true)
    by_test true e = inr (sym e)
    by_test false e = inl refl

front_or : (a b c : Bool) → c ≡ b → (a ≡ true) ⊎ (b ≡ true) → (a || c) ≡ true
front_or a b c e h = grind arith

both_true : (u : ℕ → Bool) (xs ys : List (List Lit)) → all_true u xs ≡ true → all_true u ys ≡ true → all_true u (xs ++ ys) ≡ true
both_true u xs ys p q = all-append u xs ys ∙ and_from (all_true u xs) (all_true u ys) p q

pub complete : (role : Role) (v u : ℕ → Bool) (n : ℕ) (f : Normal) → LitsSame v u f → Hold u n (values_of role v f) → Ready role v u f → all_true u (written role n f) ≡ true
complete (whole front) v u n (lit l) k h r = and_from (clause_true u (clause_of front n (lit l))) true (clause_of-true u front n (lit l) ∙ front_or (clause_true u (in_front front)) (lit_true v l) (clause_true u (literals n (lit l))) (literals-true v u n (lit l) k (λ j l. absurd (omega arith))) r) refl
complete (parts p) v u n (lit l) k h r = refl
complete (whole front) v u n (all f g) k h r =
    let q = both_ready (clause_true u (in_front front)) v f g r in
    both_true u (written (whole front) n f) (written (whole front) (n + new_names f) g)
    (complete (whole front) v u n f k.0 (hold-left u n (new_values v f) (new_values v g) h) q.0)
    (complete (whole front) v u (n + new_names f) g k.1 (hold-right u n (new_names f) (new_values v f) (new_values v g) (new-length v f) h) q.1)
complete (parts p) v u n (all f g) k h r =
    let named = whole (Some (lit_of p false)) in
    let e : p ≡ p + 0 = omega arith in
    let q = both_ready (clause_true u (lit_of p false ∷ [])) v f g (named_ready v u p (all f g) (ap u e ∙ r 0 (omega arith))) in
    both_true u (written named n f) (written named (n + new_names f) g)
    (complete named v u n f k.0 (hold-left u n (new_values v f) (new_values v g) h) q.0)
    (complete named v u (n + new_names f) g k.1 (hold-right u n (new_names f) (new_values v f) (new_values v g) (new-length v f) h) q.1)
complete (whole front) v u n (any f g) k h r =
    let from = n + names f + names g in
    let ps = part_values v f ++ part_values v g in
    let vs = inner_values v f ++ inner_values v g in
    let hp = hold-left u n ps vs h in
    let e : n + (names f + names g) ≡ n + names f + names g = omega arith in
    let hv = hold-at u (n + (names f + names g)) from vs e (hold-right u n (names f + names g) ps vs (length-both (part_values v f) (part_values v g) _ _ (part-length v f) (part-length v g)) h) in
    and_from (clause_true u (clause_of front n (any f g))) _
    (clause_of-true u front n (any f g) ∙ front_or (clause_true u (in_front front)) (normal_true v (any f g)) (clause_true u (literals n (any f g))) (literals-true v u n (any f g) k hp) r)
    (both_true u (written (parts n) from f) (written (parts (n + names f)) (from + inner_names f) g)
    (complete (parts n) v u from f k.0 (hold-left u from (inner_values v f) (inner_values v g) hv) (hold-left u n (part_values v f) (part_values v g) hp))
    (complete (parts (n + names f)) v u (from + inner_names f) g k.1 (hold-right u from (inner_names f) (inner_values v f) (inner_values v g) (inner-length v f) hv) (hold-right u n (names f) (part_values v f) (part_values v g) (part-length v f) hp)))
complete (parts p) v u n (any f g) k h r =
    both_true u (written (parts p) n f) (written (parts (p + names f)) (n + inner_names f) g)
    (complete (parts p) v u n f k.0 (hold-left u n (inner_values v f) (inner_values v g) h) (hold-left u p (part_values v f) (part_values v g) r))
    (complete (parts (p + names f)) v u (n + inner_names f) g k.1 (hold-right u n (inner_names f) (inner_values v f) (inner_values v g) (inner-length v f) h) (hold-right u p (names f) (part_values v f) (part_values v g) (part-length v f) r))

-- ---- the whole list

abbrev pub folded_values : (ℕ → Bool) → Folded → List Bool
folded_values v (settled b) = []
folded_values v (unsettled f) = new_values v f

abbrev pub all_values : (ℕ → Bool) → List Numbered → List Bool
all_values v [] = []
all_values v (f ∷ fs) = folded_values v (folded true f) ++ all_values v fs

abbrev pub FoldedSame : (ℕ → Bool) → (ℕ → Bool) → Folded → Type 0
FoldedSame v u (settled b) = Unit {0}
FoldedSame v u (unsettled f) = LitsSame v u f

abbrev pub SameBelow : ℕ → (ℕ → Bool) → (ℕ → Bool) → Type 0
SameBelow n v u = (a : ℕ) → nat_lt a n ≡ true → v a ≡ u a

same_all : (v u : ℕ → Bool) (f g : Folded) → FoldedSame v u f → FoldedSame v u g → FoldedSame v u (fold_all f g)
same_all v u (settled true) g h k = k
same_all v u (settled false) g h k = tt
same_all v u (unsettled f) (settled true) h k = h
same_all v u (unsettled f) (settled false) h k = tt
same_all v u (unsettled f) (unsettled g) h k = (h, k)

same_any : (v u : ℕ → Bool) (f g : Folded) → FoldedSame v u f → FoldedSame v u g → FoldedSame v u (fold_any f g)
same_any v u (settled true) g h k = tt
same_any v u (settled false) g h k = k
same_any v u (unsettled f) (settled true) h k = tt
same_any v u (unsettled f) (settled false) h k = h
same_any v u (unsettled f) (unsettled g) h k = (h, k)

folded-same : (base : ℕ) (v u : ℕ → Bool) → SameBelow base v u → (s : Bool) (f : Numbered) → is_below base f ≡ true → FoldedSame v u (folded s f)
folded-same base v u e s (known b) h = tt
folded-same base v u e s (literal a t) h = e a h
folded-same base v u e true (negation f) h = folded-same base v u e false f h
folded-same base v u e false (negation f) h = folded-same base v u e true f h
folded-same base v u e true (conjunction f g) h = (let k = and_parts (is_below base f) (is_below base g) h in same_all v u (folded true f) (folded true g) (folded-same base v u e true f k.0) (folded-same base v u e true g k.1))
folded-same base v u e false (conjunction f g) h = (let k = and_parts (is_below base f) (is_below base g) h in same_any v u (folded false f) (folded false g) (folded-same base v u e false f k.0) (folded-same base v u e false g k.1))
folded-same base v u e true (disjunction f g) h = (let k = and_parts (is_below base f) (is_below base g) h in same_any v u (folded true f) (folded true g) (folded-same base v u e true f k.0) (folded-same base v u e true g k.1))
folded-same base v u e false (disjunction f g) h = (let k = and_parts (is_below base f) (is_below base g) h in same_all v u (folded false f) (folded false g) (folded-same base v u e false f k.0) (folded-same base v u e false g k.1))

folded-complete : (v u : ℕ → Bool) (n : ℕ) (f : Folded) → FoldedSame v u f → Hold u n (folded_values v f) → folded_true v f ≡ true → all_true u (clauses_of n f) ≡ true
folded-complete v u n (settled true) k h r = refl
folded-complete v u n (settled false) k h r = absurd cc
folded-complete v u n (unsettled f) k h r = complete (whole None) v u n f k h (inr r)

folded-length : (v : ℕ → Bool) (f : Folded) → length (folded_values v f) ≡ names_of f
folded-length v (settled b) = refl
folded-length v (unsettled f) = new-length v f

abbrev pub all_below : ℕ → List Numbered → Bool
all_below n fs = list_all (is_below n) fs

all-complete : (base : ℕ) (v u : ℕ → Bool) → SameBelow base v u → (n : ℕ) (fs : List Numbered) → all_below base fs ≡ true → Hold u n (all_values v fs) → all_hold v fs ≡ true → all_true u (all_clauses n fs) ≡ true
all-complete base v u e n [] b h r = refl
all-complete base v u e n (f ∷ fs) b h r =
    let k = and_parts (holds v f) (all_hold v fs) r in
    let l = and_parts (is_below base f) (all_below base fs) b in
    both_true u (clauses_of n (folded true f)) (all_clauses (n + names_of (folded true f)) fs)
    (folded-complete v u n (folded true f) (folded-same base v u e true f l.0) (hold-left u n (folded_values v (folded true f)) (all_values v fs) h) (folded-true v true f ∙ k.0))
    (all-complete base v u e (n + names_of (folded true f)) fs l.1 (hold-right u n (names_of (folded true f)) (folded_values v (folded true f)) (all_values v fs) (folded-length v (folded true f)) h) k.1)

-- ---- truth values with those of the naming atoms

abbrev pub extended : ℕ → (ℕ → Bool) → List Bool → ℕ → Bool
extended base v list a = cond (nat_lt a base) (v a) (get_or list (a - base) false)

extended-below : (base : ℕ) (v : ℕ → Bool) (list : List Bool) → SameBelow base v (extended base v list)
extended-below base v list a h = ap (λ (b : Bool). cond b (v a) (get_or list (a - base) false)) (sym h)

extended-hold : (base : ℕ) (v : ℕ → Bool) (list : List Bool) → Hold (extended base v list) base list
extended-hold base v list j l = ap (λ (b : Bool). cond b (v (base + j)) (get_or list (base + j - base) false)) (more base j) ∙ (let q : base + j - base ≡ j = omega arith in ap (λ (i : ℕ). get_or list i false) q)
  where
    more : (a b : ℕ) → nat_lt (a + b) a ≡ false
    more a b = grind (arith, nat_tests)

-- What makes formulas true, with values for the naming atoms, makes their clauses true.
pub clauses-complete : (base : ℕ) (v : ℕ → Bool) (fs : List Numbered) → all_below base fs ≡ true → all_hold v fs ≡ true → (u : ℕ → Bool) × SameBelow base v u × (all_true u (all_clauses base fs) ≡ true)
clauses-complete base v fs b h =
    let list = all_values v fs in
    let u = extended base v list in
    (u, extended-below base v list, all-complete base v u (extended-below base v list) base fs b (extended-hold base v list) h)
