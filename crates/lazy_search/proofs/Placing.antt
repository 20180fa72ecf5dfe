-- The places of relations' pairs in a lazy ground problem.
use Rattle.std.proofs.Common.{◌≡◌, ℕ, zero, suc, ◌+◌, ◌<◌, true, ◌⊎◌, inl, inr, List, [], ◌∷◌, ◌++◌, length, map, take, drop, get_or, slice_get, Some, option_map, refl, sym, ◌∙◌, ap, subst, arith}
use Rattle.std.specs.List.{flat_map, list_all}
use Rattle.std.proofs.lemmas.List.{length-append, length-map, append-nil, append_assoc}
use Rattle.std.proofs.lemmas.Option.{slice_get-map}
use Rattle.proof_lines.specs.declared.clause.Lit.{Lit}
use Rattle.spec_core.specs.declared.update.Thing.TheVariants as thing
use Rattle.ground_problem.specs.Equality.{congruent}
use Rattle.ground_numbers.specs.Numbered.{Numbered}
use Rattle.ground_numbers.specs.Numbers.{Table, numbered}
use Rattle.ground_numbers.specs.Clauses.{all_clauses, all_names}
use Rattle.ground_atoms.specs.Formulas.{form_of}
use Rattle.lazy_ground.specs.declared.pairs.ReadingPairs.{ReadingPairs}
use Rattle.lazy_ground.specs.declared.grounding.LazyGround.{LazyGround}
use Rattle.lazy_ground.specs.Pairs.{pairs_of, pair_forms, AreDifferent, HasAtoms}
use Rattle.lazy_ground.specs.Lazy.{lazy_forms, ArePairs}
use Rattle.lazy_search.specs.declared.places.Place.{Place}
use Rattle.lazy_search.specs.declared.places.Layout.{Layout}
use Rattle.lazy_search.specs.Chosen.{AreAt, StandFrom, IsBehind, forms_before, is_implied, IsLayout, pairs_among, all_pairs, pair_place, IsMoved, AreMoved}
use Rattle.lazy_search.proofs.Ranks.{pairs-length, placed-pair}
use Rattle.lazy_search.proofs.Standing.{stand_between, more_behind, AreSized, sized-append, sized_behind, stand_sized, pairs-sized}

-- ---- relations

pub pairs_at : (o : Table) (ss : List ReadingPairs) (r : ℕ) (s : ReadingPairs) → ArePairs o ss → slice_get ss r ≡ Some s → AreDifferent s.tuples × HasAtoms o s
pairs_at o [] r s h e = absurd cc
pairs_at o (x ∷ ss) zero s h e = let q : x ≡ s = cc in subst (λ (z : ReadingPairs). AreDifferent z.tuples × HasAtoms o z) q h.0
pairs_at o (x ∷ ss) (suc r) s h e = pairs_at o ss r s h.1 e

pairs-take : (o : Table) (r : ℕ) (ss : List ReadingPairs) → ArePairs o ss → ArePairs o (take r ss)
pairs-take o zero [] h = tt
pairs-take o (suc r) [] h = tt
pairs-take o zero (s ∷ ss) h = tt
pairs-take o (suc r) (s ∷ ss) h = (h.0, pairs-take o r ss h.1)

relations-sized : (o : Table) (ss : List ReadingPairs) → ArePairs o ss → AreSized (flat_map (pair_forms o) ss)
relations-sized o [] h = tt
relations-sized o (s ∷ ss) h = sized-append (pair_forms o s) (flat_map (pair_forms o) ss) (pairs-sized o s.relation s.tuples h.0.0) (relations-sized o ss h.1)

relations-length : (o : Table) (ss : List ReadingPairs) → length (flat_map (pair_forms o) ss) ≡ all_pairs ss
relations-length o [] = refl
relations-length o (s ∷ ss) =
    let a = length-append (pair_forms o s) (flat_map (pair_forms o) ss) in
    let b = length-map (pairs_of s) (numbered o) in
    let c = pairs-length (thing.Relation s.relation) s.tuples in
    let e = relations-length o ss in omega (arith, a, b, c, e)

-- the formulas of all relations are those before one, its own, and the rest
relations-split : (o : Table) (ss : List ReadingPairs) (r : ℕ) (s : ReadingPairs) → slice_get ss r ≡ Some s
    → flat_map (pair_forms o) ss ≡ flat_map (pair_forms o) (take r ss) ++ (pair_forms o s ++ flat_map (pair_forms o) (drop (suc r) ss))
relations-split o [] r s e = absurd cc
relations-split o (x ∷ ss) zero s e = let q : x ≡ s = cc in ap (λ (z : ReadingPairs). pair_forms o z ++ flat_map (pair_forms o) ss) q
relations-split o (x ∷ ss) (suc r) s e =
    ap (λ (z : List Numbered). pair_forms o x ++ z) (relations-split o ss r s e)
    ∙ sym (append_assoc (pair_forms o x) (flat_map (pair_forms o) (take r ss)) (pair_forms o s ++ flat_map (pair_forms o) (drop (suc r) ss)))

-- ---- the clauses of one pair

relation-stands : (g : LazyGround) (name : ℕ) (r : ℕ) (s : ReadingPairs) (first : Place) → slice_get g.pairs r ≡ Some s → IsBehind name (forms_before g r) first
    → StandFrom (all_clauses name (lazy_forms g)) first.clause (all_clauses first.name (pair_forms g.atoms.table s))
relation-stands g name r s first e h =
    subst (λ (z : List Numbered). StandFrom (all_clauses name z) first.clause (all_clauses first.name own)) (sym shape)
    (stand_between name (forms_before g r) own (after ++ last) first h)
  where
    front : List Numbered
    front = map form_of g.front

    before : List Numbered
    before = flat_map (pair_forms g.atoms.table) (take r g.pairs)

    own : List Numbered
    own = pair_forms g.atoms.table s

    after : List Numbered
    after = flat_map (pair_forms g.atoms.table) (drop (suc r) g.pairs)

    last : List Numbered
    last = map form_of g.behind

    shape : lazy_forms g ≡ (front ++ before) ++ (own ++ (after ++ last))
    shape =
        ap (λ (z : List Numbered). front ++ (z ++ last)) (relations-split g.atoms.table g.pairs r s e)
        ∙ ap (λ (z : List Numbered). front ++ z) (append_assoc before (own ++ after) last)
        ∙ ap (λ (z : List Numbered). front ++ (before ++ z)) (append_assoc own after last)
        ∙ sym (append_assoc front before (own ++ (after ++ last)))

-- the formula of two tuples is the one at their place
formula-at : (o : Table) (s : ReadingPairs) (i j : ℕ) → i < j → j < length s.tuples
    → slice_get (pair_forms o s) (pair_place (length s.tuples) i j) ≡ Some (numbered o (congruent (thing.Relation s.relation) (get_or s.tuples i []) (get_or s.tuples j [])))
formula-at o s i j a b =
    slice_get-map (numbered o) (pairs_of s) (pair_place (length s.tuples) i j)
    ∙ ap (option_map (numbered o)) (placed-pair (thing.Relation s.relation) s.tuples i j a b)

-- the clauses of two tuples stand among all from their place on
pub pair_stands : (g : LazyGround) (name : ℕ) (r i j : ℕ) (s : ReadingPairs) (f : Numbered) (first at : Place) → ArePairs g.atoms.table g.pairs
    → slice_get g.pairs r ≡ Some s → IsBehind name (forms_before g r) first → i < j → j < length s.tuples → IsMoved first (pair_place (length s.tuples) i j) at
    → f ≡ numbered g.atoms.table (congruent (thing.Relation s.relation) (get_or s.tuples i []) (get_or s.tuples j []))
    → StandFrom (all_clauses name (lazy_forms g)) at.clause (all_clauses at.name (f ∷ []))
pair_stands g name r i j s f first at p e h a b m q =
    let o : Table = g.atoms.table in
    stand_sized (all_clauses name (lazy_forms g)) (pair_forms o s) (pair_place (length s.tuples) i j) f first at
    (pairs-sized o s.relation s.tuples (pairs_at o g.pairs r s p e).0)
    (formula-at o s i j a b ∙ ap (λ (z : Numbered). Some z) (sym q)) m (relation-stands g name r s first e h)

-- ---- the clauses around the pairs

start-behind : (name : ℕ) (at : Place) → at.clause ≡ 0 → at.name ≡ name → IsBehind name [] at
start-behind name at c n = (c, omega (arith, n))

-- the place behind those in front
pub front_behind : (g : LazyGround) (name : ℕ) (at first : Place) → at.clause ≡ 0 → at.name ≡ name
    → first.clause ≡ at.clause + length (all_clauses at.name (map form_of g.front)) → first.name ≡ at.name + all_names (map form_of g.front)
    → IsBehind name (map form_of g.front) first
front_behind g name at first c n a b = more_behind name [] (map form_of g.front) at first (start-behind name at c n) a b

-- the place behind the pairs of some relations, the first ones
relations-behind : (g : LazyGround) (name : ℕ) (ss : List ReadingPairs) (first at : Place) → IsBehind name (map form_of g.front) first → ArePairs g.atoms.table ss
    → IsMoved first (all_pairs ss) at → IsBehind name (map form_of g.front ++ flat_map (pair_forms g.atoms.table) ss) at
relations-behind g name ss first at h p m =
    let o : Table = g.atoms.table in
    sized_behind name (map form_of g.front) (flat_map (pair_forms o) ss) first at h (relations-sized o ss p)
    (subst (λ (z : ℕ). IsMoved first z at) (sym (relations-length o ss)) m)

-- the clauses behind the pairs stand from the place behind these on
pub behind_stands : (g : LazyGround) (name : ℕ) (first at : Place) → IsBehind name (map form_of g.front) first → ArePairs g.atoms.table g.pairs → IsMoved first (all_pairs g.pairs) at
    → StandFrom (all_clauses name (lazy_forms g)) at.clause (all_clauses at.name (map form_of g.behind))
behind_stands g name first at h p m =
    subst (λ (z : List Numbered). StandFrom (all_clauses name z) at.clause (all_clauses at.name last)) (sym shape)
    (stand_between name (front ++ mid) last [] at (relations-behind g name g.pairs first at h p m))
  where
    front : List Numbered
    front = map form_of g.front

    mid : List Numbered
    mid = flat_map (pair_forms g.atoms.table) g.pairs

    last : List Numbered
    last = map form_of g.behind

    shape : lazy_forms g ≡ (front ++ mid) ++ (last ++ [])
    shape = sym (append_assoc front mid last) ∙ ap (λ (z : List Numbered). (front ++ mid) ++ z) (sym (append-nil last))

-- the places of all
pub laid_out : (g : LazyGround) (name : ℕ) (first at : Place) (layout : Layout) → IsBehind name (map form_of g.front) first → ArePairs g.atoms.table g.pairs
    → IsBehind name (map form_of (take layout.from g.front)) layout.transitive → list_all is_implied (drop layout.from g.front) ≡ true
    → AreMoved first g.pairs layout.firsts.items at
    → layout.behind.clause ≡ at.clause + length (all_clauses at.name (map form_of g.behind)) → layout.behind.name ≡ at.name + all_names (map form_of g.behind)
    → IsLayout g name layout
laid_out g name first at layout h p t i m c n = record {
  as_many = m.as_many;
  firsts = λ r a e. relations-behind g name (take r g.pairs) first a h (pairs-take g.atoms.table r g.pairs p) (m.each r a e);
  behind = subst (λ (z : List Numbered). IsBehind name z layout.behind) (append_assoc (map form_of g.front) (flat_map (pair_forms g.atoms.table) g.pairs) (map form_of g.behind))
      (more_behind name (map form_of g.front ++ flat_map (pair_forms g.atoms.table) g.pairs) (map form_of g.behind) at layout.behind
      (relations-behind g name g.pairs first at h p m.behind) c n);
  transitive = t;
  implied = i;
}

-- no clauses have no numbers
pub none_at : (all : List (List Lit)) → AreAt all [] []
none_at all = record { as_many = refl; there = λ i c e. absurd cc }

-- ---- the first places, relation by relation

pairs-next : (ss : List ReadingPairs) (k : ℕ) (s : ReadingPairs) → slice_get ss k ≡ Some s → all_pairs (take (suc k) ss) ≡ all_pairs (take k ss) + pairs_among (length s.tuples)
pairs-next [] k s e = absurd cc
pairs-next (x ∷ ss) zero s e = let q : x ≡ s = cc in ap (λ (z : ReadingPairs). pairs_among (length z.tuples) + 0) q ∙ (let w : pairs_among (length s.tuples) + 0 ≡ 0 + pairs_among (length s.tuples) = omega arith in w)
pairs-next (x ∷ ss) (suc k) s e = let a = pairs-next ss k s e in omega (arith, a)

-- the place behind one more relation's pairs
pub moved_next : (first at next : Place) (ss : List ReadingPairs) (k : ℕ) (s : ReadingPairs) → slice_get ss k ≡ Some s → IsMoved first (all_pairs (take k ss)) at
    → IsMoved at (pairs_among (length s.tuples)) next → IsMoved first (all_pairs (take (suc k) ss)) next
moved_next first at next ss k s e h m =
    let a = pairs-next ss k s e in
    let h0 = h.0 in
    let h1 = h.1 in
    let m0 = m.0 in
    let m1 = m.1 in (omega (arith, a, h0, m0), omega (arith, a, h1, m1))

last-or-before : (xs : List Place) (y a : Place) (r : ℕ) → slice_get (xs ++ y ∷ []) r ≡ Some a → (slice_get xs r ≡ Some a) ⊎ ((r ≡ length xs) × (y ≡ a))
last-or-before [] y a zero e = inr (refl, cc)
last-or-before [] y a (suc r) e = absurd cc
last-or-before (x ∷ xs) y a zero e = inl e
last-or-before (x ∷ xs) y a (suc r) e = elim (last-or-before xs y a r e) [ inl h ↦ inl h | inr h ↦ inr (ap suc h.0, h.1) ]

-- the first places of one more relation
pub firsts_more : (first : Place) (ss : List ReadingPairs) (firsts : List Place) (y : Place)
    → ((r : ℕ) (a : Place) → slice_get firsts r ≡ Some a → IsMoved first (all_pairs (take r ss)) a) → IsMoved first (all_pairs (take (length firsts) ss)) y
    → (r : ℕ) (a : Place) → slice_get (firsts ++ y ∷ []) r ≡ Some a → IsMoved first (all_pairs (take r ss)) a
firsts_more first ss firsts y h m r a e =
    elim (last-or-before firsts y a r e) [
      | inl k ↦ h r a k
      | inr k ↦ subst (λ (z : ℕ). IsMoved first (all_pairs (take z ss)) a) (sym k.0) (subst (λ (z : Place). IsMoved first (all_pairs (take (length firsts) ss)) z) k.1 m)
    ]
