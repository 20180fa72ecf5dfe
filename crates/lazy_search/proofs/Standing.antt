-- Where the clauses of formulas stand among all: those of any, and those of formulas that have three clauses and one name each.
use Rattle.std.proofs.Common.{◌≡◌, ℕ, zero, suc, ◌+◌, ◌*◌, ◌<◌, true, List, [], ◌∷◌, ◌++◌, length, map, take, slice_get, Some, refl, sym, ◌∙◌, ap, subst, arith}
use Rattle.std.proofs.lemmas.List.{length-append, length-take-le, append-nil, map-append}
use Rattle.std.proofs.lemmas.Option.{slice_get_within}
use Rattle.proof_lines.specs.declared.clause.Lit.{Lit}
use Rattle.spec_core.specs.declared.update.Thing.TheVariants as thing
use Rattle.ground_problem.specs.Equality.{congruent, congruent_pairs}
use Rattle.ground_numbers.specs.Numbered.{Numbered}
use Rattle.ground_numbers.specs.Numbers.{Table, numbered}
use Rattle.ground_numbers.specs.Clauses.{folded, clauses_of, names_of, all_clauses, all_names}
use Rattle.lazy_ground.specs.Pairs.{DiffersFrom, AreDifferent}
use Rattle.lazy_search.specs.declared.places.Place.{Place}
use Rattle.lazy_search.specs.Chosen.{StandFrom, IsBehind, IsMoved}
use Rattle.clausify.proofs.Appending.{clauses-append, names-append}
use Rattle.lazy_search.proofs.Pieces.{get-skip, get-front, piece}
use Rattle.lazy_search.proofs.Sizes.{IsSized, congruent-sized}

-- ---- any formulas

-- the clauses of formulas stand among all behind those of the formulas before them
pub stand_between : (n : ℕ) (before mid rest : List Numbered) (at : Place) → IsBehind n before at
    → StandFrom (all_clauses n (before ++ (mid ++ rest))) at.clause (all_clauses at.name mid)
stand_between n before mid rest at h j c e =
    let m : ℕ = n + all_names before in
    let own : slice_get (all_clauses m mid) j ≡ Some c = subst (λ (z : ℕ). slice_get (all_clauses z mid) j ≡ Some c) h.1 e in
    let one : slice_get (all_clauses m (mid ++ rest)) j ≡ Some c =
    ap (λ (z : List (List Lit)). slice_get z j) (clauses-append m mid rest) ∙ get-front (all_clauses m mid) (all_clauses (m + all_names mid) rest) j c own in
    ap (λ (z : List (List Lit)). slice_get z (at.clause + j)) (clauses-append n before (mid ++ rest))
    ∙ ap (λ (z : ℕ). slice_get (all_clauses n before ++ all_clauses m (mid ++ rest)) (z + j)) h.0
    ∙ get-skip (all_clauses n before) (all_clauses m (mid ++ rest)) j
    ∙ one

-- the place behind more formulas
pub more_behind : (n : ℕ) (before mid : List Numbered) (at next : Place) → IsBehind n before at
    → next.clause ≡ at.clause + length (all_clauses at.name mid) → next.name ≡ at.name + all_names mid → IsBehind n (before ++ mid) next
more_behind n before mid at next h c e = (clause_is, name_is)
  where
    m : ℕ
    m = n + all_names before

    same : length (all_clauses at.name mid) ≡ length (all_clauses m mid)
    same = ap (λ (z : ℕ). length (all_clauses z mid)) h.1

    whole : length (all_clauses n (before ++ mid)) ≡ length (all_clauses n before) + length (all_clauses m mid)
    whole = ap (λ (z : List (List Lit)). length z) (clauses-append n before mid) ∙ length-append (all_clauses n before) (all_clauses m mid)

    clause_is : next.clause ≡ length (all_clauses n (before ++ mid))
    clause_is = let x = h.0 in omega (arith, c, x, same, whole)

    name_is : next.name ≡ n + all_names (before ++ mid)
    name_is = let x = h.1 in let y = names-append before mid in omega (arith, e, x, y)

-- ---- formulas of three clauses

-- each has three clauses, and one atom that names a part
abbrev pub AreSized : List Numbered → Type 0
AreSized [] = Unit {0}
AreSized (f ∷ fs) = IsSized (folded true f) × AreSized fs

sized-clauses : (n : ℕ) (fs : List Numbered) → AreSized fs → length (all_clauses n fs) ≡ 3 * length fs
sized-clauses n [] h = refl
sized-clauses n (f ∷ fs) h =
    let m : ℕ = n + names_of (folded true f) in
    let a = length-append (clauses_of n (folded true f)) (all_clauses m fs) in
    let b = h.0.0 n in
    let c = sized-clauses m fs h.1 in omega (arith, a, b, c)

sized-names : (fs : List Numbered) → AreSized fs → all_names fs ≡ length fs
sized-names [] h = refl
sized-names (f ∷ fs) h = let a = h.0.1 in let b = sized-names fs h.1 in omega (arith, a, b)

sized-take : (k : ℕ) (fs : List Numbered) → AreSized fs → AreSized (take k fs)
sized-take zero [] h = tt
sized-take (suc k) [] h = tt
sized-take zero (f ∷ fs) h = tt
sized-take (suc k) (f ∷ fs) h = (h.0, sized-take k fs h.1)

pub sized-append : (fs gs : List Numbered) → AreSized fs → AreSized gs → AreSized (fs ++ gs)
sized-append [] gs h k = k
sized-append (f ∷ fs) gs h k = (h.0, sized-append fs gs h.1 k)

-- the place behind so many of them
pub sized_behind : (n : ℕ) (before mid : List Numbered) (first next : Place) → IsBehind n before first → AreSized mid → IsMoved first (length mid) next → IsBehind n (before ++ mid) next
sized_behind n before mid first next h s m =
    let a = sized-clauses first.name mid s in
    let b = sized-names mid s in
    let c = m.0 in
    let e = m.1 in
    more_behind n before mid first next h (omega (arith, a, c)) (omega (arith, b, e))

-- the clauses of one of them stand among all from its place on
pub stand_sized : (all : List (List Lit)) (fs : List Numbered) (k : ℕ) (f : Numbered) (first at : Place) → AreSized fs → slice_get fs k ≡ Some f → IsMoved first k at
    → StandFrom all first.clause (all_clauses first.name fs) → StandFrom all at.clause (all_clauses at.name (f ∷ []))
stand_sized all fs k f first at h e m s j c own =
    let within : k < length fs = slice_get_within fs k f e in
    let long : length (take k fs) ≡ k = length-take-le k fs (omega (arith, within)) in
    let clauses = sized-clauses first.name (take k fs) (sized-take k fs h) in
    let named = sized-names (take k fs) (sized-take k fs h) in
    let m0 = m.0 in
    let m1 = m.1 in
    let q : at.name ≡ first.name + all_names (take k fs) = omega (arith, m1, named, long) in
    let p : first.clause + (length (all_clauses first.name (take k fs)) + j) ≡ at.clause + j = omega (arith, m0, clauses, long) in
    let one : slice_get (clauses_of at.name (folded true f)) j ≡ Some c = sym (ap (λ (z : List (List Lit)). slice_get z j) (append-nil (clauses_of at.name (folded true f)))) ∙ own in
    let there = piece first.name fs k f j c e (subst (λ (z : ℕ). slice_get (clauses_of z (folded true f)) j ≡ Some c) q one) in
    subst (λ (z : ℕ). slice_get all z ≡ Some c) p (s (length (all_clauses first.name (take k fs)) + j) c there)

-- ---- those of different tuples

row-sized : (o : Table) (r : ℕ) (t : List ℕ) (us : List (List ℕ)) → DiffersFrom t us → AreSized (map (numbered o) (map (congruent (thing.Relation r) t) us))
row-sized o r t [] h = tt
row-sized o r t (u ∷ us) h = (congruent-sized o r t u h.0 h.1, row-sized o r t us h.2)

pub pairs-sized : (o : Table) (r : ℕ) (ts : List (List ℕ)) → AreDifferent ts → AreSized (map (numbered o) (congruent_pairs (thing.Relation r) ts))
pairs-sized o r [] h = tt
pairs-sized o r (t ∷ ts) h =
    subst AreSized (sym (map-append (numbered o) (map (congruent (thing.Relation r) t) ts) (congruent_pairs (thing.Relation r) ts)))
    (sized-append (map (numbered o) (map (congruent (thing.Relation r) t) ts)) (map (numbered o) (congruent_pairs (thing.Relation r) ts)) (row-sized o r t ts h.0) (pairs-sized o r ts h.1))
