-- Some clauses of a lazy ground problem, with the numbers that they have among all.
use Rattle.std.specs.Prelude.{◌≡◌, ℕ, zero, suc, ◌+◌, ◌-◌, ◌*◌, Bool, true, false, List, [], ◌∷◌, ◌++◌, length, map, take, drop, slice_get, slice_index_or, Some}
use Rattle.std.specs.List.{flat_map, list_all}
use Rattle.proof_lines.specs.declared.clause.Lit.{Lit}
use Rattle.ground_numbers.specs.Numbered.{Numbered}
use Rattle.ground_numbers.specs.Clauses.{all_clauses, all_names}
use Rattle.ground_atoms.specs.declared.formula.GroundFormula.{GroundFormula, Implied}
use Rattle.ground_atoms.specs.Formulas.{form_of}
use Rattle.lazy_ground.specs.declared.pairs.ReadingPairs.{ReadingPairs}
use Rattle.lazy_ground.specs.declared.grounding.LazyGround.{LazyGround}
use Rattle.lazy_ground.specs.Pairs.{pair_forms}
use Rattle.lazy_ground.specs.Lazy.{lazy_forms}
use Rattle.lazy_search.specs.declared.places.Place.{Place}
use Rattle.lazy_search.specs.declared.places.Layout.{Layout}

-- ---- numbers among all

-- some clauses are those that have these numbers among all
pub record AreAt (all some : List (List Lit)) (numbers : List ℕ) : Type 0 where
  pub as_many : length numbers ≡ length some
  pub there : (i : ℕ) (c : List Lit) → slice_get some i ≡ Some c
      → slice_get all (slice_index_or numbers i 0) ≡ Some c

-- clauses stand among all from a number on
abbrev pub StandFrom : List (List Lit) → ℕ → List (List Lit) → Type 0
StandFrom all from cs =
    (j : ℕ) (c : List Lit) → slice_get cs j ≡ Some c → slice_get all (from + j) ≡ Some c

-- ---- places

-- The place behind these formulas, where the first atom that names a part has this number: the number of the next clause, and of the
-- next atom that names a part.
abbrev pub IsBehind : ℕ → List Numbered → Place → Type 0
IsBehind name fs at = (at.clause ≡ length (all_clauses name fs)) × (at.name ≡ name + all_names fs)

-- the formulas in front of the pairs of the relation at a place
abbrev pub forms_before : LazyGround → ℕ → List Numbered
forms_before g r = map form_of g.front ++ flat_map (pair_forms g.atoms.table) (take r g.pairs)

-- Whether a formula says that two atoms imply a third one, as each does that says that equality is transitive.
abbrev pub is_implied : GroundFormula → Bool
is_implied (Implied k m n) = true
is_implied _ = false

-- The first place of each relation's pairs, and the place behind all clauses, where the first atom that names a part has this number. From
-- a place on, the formulas in front of the pairs say that two atoms imply a third one, and this is the place of their first clause.
pub record IsLayout (g : LazyGround) (name : ℕ) (layout : Layout) : Type 0 where
  pub as_many : length layout.firsts.items ≡ length g.pairs
  pub firsts : (r : ℕ) (at : Place) → slice_get layout.firsts.items r ≡ Some at
      → IsBehind name (forms_before g r) at
  pub behind : IsBehind name (lazy_forms g) layout.behind
  pub transitive : IsBehind name (map form_of (take layout.from g.front)) layout.transitive
  pub implied : list_all is_implied (drop layout.from g.front) ≡ true

-- ---- pairs

-- how many pairs so many tuples have
abbrev pub pairs_among : ℕ → ℕ
pairs_among zero = 0
pairs_among (suc n) = n + pairs_among n

-- how many pairs the tuples of these relations have
abbrev pub all_pairs : List ReadingPairs → ℕ
all_pairs [] = 0
all_pairs (s ∷ more) = pairs_among (length s.tuples) + all_pairs more

-- The place among the pairs of so many tuples of those at two places: behind the pairs whose earlier tuple comes before this one, and
-- behind those of this one with the tuples before the later.
abbrev pub pair_place : ℕ → ℕ → ℕ → ℕ
pair_place many earlier later =
    (pairs_among many - pairs_among (many - earlier)) + (later - suc earlier)

-- the place behind so many pairs: each has three clauses, and one atom that names a part
abbrev pub IsMoved : Place → ℕ → Place → Type 0
IsMoved first pairs at = (at.clause ≡ first.clause + 3 * pairs) × (at.name ≡ first.name + pairs)

-- The first place of each of these relations' pairs, where the first of all has this one, and the place behind all of them.
pub record AreMoved (first : Place) (pairs : List ReadingPairs) (firsts : List Place) (last : Place) : Type 0 where
  pub as_many : length firsts ≡ length pairs
  pub each : (r : ℕ) (at : Place) → slice_get firsts r ≡ Some at
      → IsMoved first (all_pairs (take r pairs)) at
  pub behind : IsMoved first (all_pairs pairs) last
