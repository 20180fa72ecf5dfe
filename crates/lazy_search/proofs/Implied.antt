-- Formulas that say that two atoms imply a third one: each has one clause, and none names a part.
use Rattle.std.proofs.Common.{◌≡◌, ℕ, suc, ◌+◌, ◌-◌, ◌<◌, ◌≤◌, Bool, true, List, [], ◌∷◌, ◌++◌, length, map, take, drop, drop-cons, get_or, take-add, refl, sym, ◌∙◌, ap, subst, arith}
use Rattle.std.specs.List.{flat_map, list_all}
use Rattle.std.proofs.lemmas.Bool.{and_parts, and_from}
use Rattle.std.proofs.lemmas.List.{length-append, length-take-le, length-drop, take-append-drop, take-take, take-map, take_all, map-append, append_assoc}
use Rattle.std.proofs.lemmas.List.Folds.{list_all-append}
use Rattle.ground_numbers.specs.Numbered.{Numbered}
use Rattle.ground_numbers.specs.Clauses.{Folded, folded, clauses_of, names_of, all_clauses, all_names}
use Rattle.ground_atoms.specs.declared.formula.GroundFormula.{GroundFormula, Truth, Lit, NotAtom, BothAtoms, AtomImplies, Implied, Congruent, Not', And', Or'}
use Rattle.ground_atoms.specs.Formulas.{form_of}
use Rattle.lazy_ground.specs.declared.grounding.LazyGround.{LazyGround}
use Rattle.lazy_ground.specs.Pairs.{pair_forms}
use Rattle.lazy_ground.specs.Lazy.{lazy_forms}
use Rattle.lazy_search.specs.declared.places.Place.{Place}
use Rattle.lazy_search.specs.Chosen.{StandFrom, IsBehind, is_implied}
use Rattle.lazy_search.proofs.Standing.{stand_between, more_behind}

-- ---- one clause each

-- one clause, and no atom that names a part
abbrev IsSingle : Folded → Type 0
IsSingle f = ((n : ℕ) → length (clauses_of n f) ≡ 1) × (names_of f ≡ 0)

implied-single : (f : GroundFormula) → is_implied f ≡ true → IsSingle (folded true (form_of f))
implied-single (Truth b) h = absurd cc
implied-single (Lit n s) h = absurd cc
implied-single (NotAtom n) h = absurd cc
implied-single (BothAtoms m n) h = absurd cc
implied-single (AtomImplies m n) h = absurd cc
implied-single (Implied k m n) h = ((λ p. refl), refl)
implied-single (Congruent p a e g m n) h = absurd cc
implied-single (Not' l f) h = absurd cc
implied-single (And' l f g) h = absurd cc
implied-single (Or' l f g) h = absurd cc

single-clauses : (n : ℕ) (fs : List GroundFormula) → list_all is_implied fs ≡ true → length (all_clauses n (map form_of fs)) ≡ length fs
single-clauses n [] h = refl
single-clauses n (f ∷ fs) h =
    let p = and_parts (is_implied f) (list_all is_implied fs) h in
    let one = implied-single f p.0 in
    let m : ℕ = n + names_of (folded true (form_of f)) in
    let a = length-append (clauses_of n (folded true (form_of f))) (all_clauses m (map form_of fs)) in
    let b = one.0 n in
    let c = single-clauses m fs p.1 in omega (arith, a, b, c)

single-names : (fs : List GroundFormula) → list_all is_implied fs ≡ true → all_names (map form_of fs) ≡ 0
single-names [] h = refl
single-names (f ∷ fs) h =
    let p = and_parts (is_implied f) (list_all is_implied fs) h in
    let a = (implied-single f p.0).1 in
    let b = single-names fs p.1 in omega (arith, a, b)

all-take : (n : ℕ) (fs : List GroundFormula) → list_all is_implied fs ≡ true → list_all is_implied (take n fs) ≡ true
all-take n fs h =
    let both = sym (list_all-append is_implied (take n fs) (drop n fs)) ∙ ap (list_all is_implied) (take-append-drop n fs) ∙ h in
    (and_parts (list_all is_implied (take n fs)) (list_all is_implied (drop n fs)) both).0

-- one more of them in front
pub implied_more : (fs : List GroundFormula) (i : ℕ) (f : GroundFormula) → 0 < i → i ≤ length fs → f ≡ get_or fs (i - 1) f → is_implied f ≡ true
    → list_all is_implied (drop i fs) ≡ true → list_all is_implied (drop (i - 1) fs) ≡ true
implied_more fs i f some within e one rest =
    let next : suc (i - 1) ≡ i = omega (arith, some) in
    let there : i - 1 < length fs = omega (arith, some, within) in
    let shape : drop (i - 1) fs ≡ f ∷ drop i fs =
    drop-cons fs (i - 1) f there ∙ ap (λ (z : GroundFormula). z ∷ drop (suc (i - 1)) fs) (sym e) ∙ ap (λ (z : ℕ). f ∷ drop z fs) next in
    ap (list_all is_implied) shape ∙ and_from (is_implied f) (list_all is_implied (drop i fs)) one rest

-- ---- some of the formulas in front of the pairs

halves : (n : ℕ) (fs : List GroundFormula) → map form_of (take n fs) ++ map form_of (drop n fs) ≡ map form_of fs
halves n fs = sym (map-append form_of (take n fs) (drop n fs)) ∙ ap (map form_of) (take-append-drop n fs)

-- the first so many of the first ones
pub first_of_first : (count from : ℕ) (fs : List GroundFormula) → count ≤ from → take count (map form_of (take from fs)) ≡ take count (map form_of fs)
first_of_first count from fs le = ap (take count) (sym (take-map form_of from fs)) ∙ take-take count from (map form_of fs) le

-- the clauses of so many formulas from a place on stand among all behind those of the formulas before them
pub some_stand : (g : LazyGround) (name i n : ℕ) (at : Place) → IsBehind name (map form_of (take i g.front)) at
    → StandFrom (all_clauses name (lazy_forms g)) at.clause (all_clauses at.name (map form_of (take n (drop i g.front))))
some_stand g name i n at h =
    subst (λ (z : List Numbered). StandFrom (all_clauses name z) at.clause (all_clauses at.name mid)) shape (stand_between name before mid (rest ++ last) at h)
  where
    before : List Numbered
    before = map form_of (take i g.front)

    mid : List Numbered
    mid = map form_of (take n (drop i g.front))

    rest : List Numbered
    rest = map form_of (drop n (drop i g.front))

    last : List Numbered
    last = flat_map (pair_forms g.atoms.table) g.pairs ++ map form_of g.behind

    shape : before ++ (mid ++ (rest ++ last)) ≡ lazy_forms g
    shape =
        ap (λ (z : List Numbered). before ++ z) (sym (append_assoc mid rest last) ∙ ap (λ (z : List Numbered). z ++ last) (halves n (drop i g.front)))
        ∙ sym (append_assoc before (map form_of (drop i g.front)) last)
        ∙ ap (λ (z : List Numbered). z ++ last) (halves i g.front)

-- the clauses of the first so many stand from the beginning on
pub first_stand : (g : LazyGround) (name n : ℕ) → StandFrom (all_clauses name (lazy_forms g)) 0 (all_clauses name (map form_of (take n g.front)))
first_stand g name n =
    let start : Place = record { clause = 0; name = name } in
    let whole : name ≡ name + 0 = omega arith in
    some_stand g name 0 n start (refl, whole)

-- The place behind so many formulas more, each of which has one clause.
pub single_behind : (name from more : ℕ) (fs : List GroundFormula) (at next : Place) → IsBehind name (map form_of (take from fs)) at → list_all is_implied (drop from fs) ≡ true
    → from + more ≤ length fs → next.clause ≡ at.clause + more → next.name ≡ at.name → IsBehind name (map form_of (take (from + more) fs)) next
single_behind name from more fs at next h all within c n =
    let mid : List GroundFormula = take more (drop from fs) in
    let each : list_all is_implied mid ≡ true = all-take more (drop from fs) all in
    let room : more ≤ length (drop from fs) = let l = length-drop from fs in omega (arith, within, l) in
    let long : length mid ≡ more = length-take-le more (drop from fs) room in
    let clauses : length (all_clauses at.name (map form_of mid)) ≡ length mid = single-clauses at.name mid each in
    let named : all_names (map form_of mid) ≡ 0 = single-names mid each in
    let shape : map form_of (take from fs) ++ map form_of mid ≡ map form_of (take (from + more) fs) =
    sym (map-append form_of (take from fs) mid) ∙ ap (map form_of) (sym (take-add from more fs)) in
    subst (λ (z : List Numbered). IsBehind name z next) shape
    (more_behind name (map form_of (take from fs)) (map form_of mid) at next h (omega (arith, c, clauses, long)) (omega (arith, n, named)))

-- the place behind all formulas in front of the pairs
pub all_behind : (name from : ℕ) (fs : List GroundFormula) (at next : Place) → IsBehind name (map form_of (take from fs)) at → list_all is_implied (drop from fs) ≡ true
    → from ≤ length fs → next.clause ≡ at.clause + (length fs - from) → next.name ≡ at.name → IsBehind name (map form_of fs) next
all_behind name from fs at next h all within c n =
    let whole : from + (length fs - from) ≡ length fs = omega (arith, within) in
    let every : take (from + (length fs - from)) fs ≡ fs = take_all (from + (length fs - from)) fs (omega (arith, whole)) in
    subst (λ (z : List GroundFormula). IsBehind name (map form_of z) next) every (single_behind name from (length fs - from) fs at next h all (omega (arith, whole)) c n)
