-- Equality of constants, and that equal constants have equal readings.
use Rattle.std.specs.Prelude.{ℕ, suc, pos, false, cond, List, [], ◌∷◌, ◌++◌, map}
use Rattle.std.specs.Ordering.{nat_cmp, is_lt}
use Rattle.std.specs.Cmp.Lexicographic.{slice_cmp}
use Rattle.std.specs.List.{filter, flat_map}
use Rattle.spec_core.specs.declared.update.Thing.{Thing}
use Rattle.spec_core.specs.declared.update.Thing.TheVariants as thing
use Rattle.effectors.specs.Effect.{is_thing}
use Rattle.ground_problem.specs.Symbols.{reading, multiple, Symbolic, always, same, has, negated, both, either, all_parts, same_const, equal}
use Rattle.ground_problem.specs.Constants.{of_sort}
use Rattle.ground_problem.specs.Definitions.{Reading}

-- ---- 6: equality of constants

-- Equality of three constants goes over each of them to the other two.
abbrev pub three_agree : ℕ → ℕ → ℕ → List Symbolic
three_agree a b c =
    either (negated (both (same a b) (same b c))) (same a c)
    ∷ either (negated (both (same a b) (same a c))) (same b c)
    ∷ either (negated (both (same a c) (same b c))) (same a b)
    ∷ []

-- this constant with each two of these, which are rising
abbrev pub agree_with_pairs : ℕ → List ℕ → List Symbolic
agree_with_pairs a [] = []
agree_with_pairs a (b ∷ cs) = flat_map (three_agree a b) cs ++ agree_with_pairs a cs

-- For every three constants of one sort, the triples in rising order; the first of these sorts is that of the constant n.
abbrev pub equality : ℕ → List ℕ → List Symbolic
equality n [] = []
equality n (s ∷ ts) = agree_with_pairs n (of_sort (suc n) ts s) ++ equality (suc n) ts

-- ---- 7: equal constants have equal readings at the entry

-- the tuples are equal, place by place
abbrev pub tuples_same : List ℕ → List ℕ → List Symbolic
tuples_same [] [] = []
tuples_same [] (u ∷ us) = always false ∷ []
tuples_same (t ∷ ts) [] = always false ∷ []
tuples_same (t ∷ ts) (u ∷ us) = same_const t u ∷ tuples_same ts us

-- a thing reads the same at two tuples at the entry
abbrev pub readings_same : Thing → List ℕ → List ℕ → Symbolic
readings_same (thing.Relation r) t u =
    both (either (negated (has [] r t)) (has [] r u)) (either (has [] r t) (negated (has [] r u)))
readings_same (thing.Counter i) t u =
    equal (multiple (pos 1) (reading [] i t) ∷ []) (multiple (pos 1) (reading [] i u) ∷ [])

-- Where two tuples are equal, the thing reads the same at them.
abbrev pub congruent : Thing → List ℕ → List ℕ → Symbolic
congruent x t u = either (negated (all_parts (tuples_same t u))) (readings_same x t u)

-- each two of these tuples, the earlier of a pair first
abbrev pub congruent_pairs : Thing → List (List ℕ) → List Symbolic
congruent_pairs x [] = []
congruent_pairs x (t ∷ ts) = map (congruent x t) ts ++ congruent_pairs x ts

-- a tuple put into rising ones
abbrev pub insert_rising : List ℕ → List (List ℕ) → List (List ℕ)
insert_rising t [] = t ∷ []
insert_rising t (u ∷ us) =
    cond (is_lt (slice_cmp nat_cmp t u)) (t ∷ u ∷ us) (u ∷ insert_rising t us)

-- the tuples of these readings, in rising order
abbrev pub rising : List Reading → List (List ℕ)
rising [] = []
rising (q ∷ qs) = insert_rising q.tuple (rising qs)

-- For each of these things, every two tuples at which it is among these readings.
abbrev pub congruence : List Reading → List Thing → List Symbolic
congruence qs xs =
    flat_map (λ x. congruent_pairs x (rising (filter (λ q. is_thing q.thing x) qs))) xs
