-- A private index of literals by which freshness is checked; it mirrors src/freshness.rt, and a reader of the rules passes it by.
use Rattle.std.specs.Prelude.{◌≡◌, ℕ, ◌+◌, ◌*◌, ◌%◌, ◌<◌, ◌==◌, Bool, true, false, ◌&&◌, ◌||◌, List, [], ◌∷◌, ◌++◌, length, map, slice_index_or, slice_set, Option, Some, None}
use Rattle.std.specs.List.{list_any, list_all, fold}
use Rattle.proof_lines.specs.declared.clause.Lit.{Lit}
use Rattle.log_freshness.specs.declared.freshness.Entry.{Entry}
use Rattle.proof_lines.specs.Clauses.{sub, flip, holds_both_ways}
use Rattle.proof_lines.specs.Numbers.{stands_in}
use Rattle.log_freshness.specs.Freshness.{is_new}

-- THE INDEX by which fresh logs are checked. No clause of a call outside src/freshness.rt names it.

-- the number of a sign, by which the two literals of an atom differ
abbrev pub sign_number : Bool → ℕ
sign_number true = 2
sign_number false = 1

-- the spot of a literal among m spots
abbrev pub spot : ℕ → Lit → ℕ
spot m l = (2 * l.atom + sign_number l.positive) % m

-- the spots of a clause: 0, where clauses without literals stand, and those of its literals
abbrev pub spots : ℕ → List Lit → List ℕ
spots m c = 0 ∷ map (spot m) c

-- the clause of a slot lies within another one
abbrev pub slot_within : List Lit → Option (List Lit) → Bool
slot_within c (Some d) = sub d c
slot_within c None = false

-- the spots of an entry are spots of a clause
abbrev pub spots_among : ℕ → List Lit → Entry → Bool
spots_among m c e =
    stands_in (spots m c) e.second && (stands_in (spots m c) e.third
    && stands_in (spots m c) e.fourth)

-- the spots of an entry are spots of a clause, and the clause of its number lies within that clause
abbrev pub entry_within : ℕ → List (Option (List Lit)) → List Lit → Entry → Bool
entry_within m slots c e = spots_among m c e && slot_within c (slice_index_or slots e.number None)

-- an entry within a clause stands in a list of the clause's spots
abbrev pub finds : ℕ → List (Option (List Lit)) → List (List Entry) → List Lit → Bool
finds m slots lists c =
    list_any (λ k. list_any (entry_within m slots c) (slice_index_or lists k [])) (spots m c)

-- the lists have one entry more, for the clause of a number, in the list of one of its spots
pub record PutsOne (m : ℕ) (c : List Lit) (number : ℕ) (old new : List (List Entry)) : Type 0 where
  pub at : ℕ
  pub second : ℕ
  pub third : ℕ
  pub fourth : ℕ
  pub within : at < length old
  pub at_spot : stands_in (spots m c) at ≡ true
  pub second_spot : stands_in (spots m c) second ≡ true
  pub third_spot : stands_in (spots m c) third ≡ true
  pub fourth_spot : stands_in (spots m c) fourth ≡ true
  pub lists : new ≡ slice_set old at (slice_index_or old at [] ++ record {
    number = number;
    second = second;
    third = third;
    fourth = fourth;
  } ∷ [])

-- marks on the spots of some literals, set or taken away
abbrev pub with_marks : ℕ → List Bool → List Lit → Bool → List Bool
with_marks m marks c b = fold (λ ms l. slice_set ms (spot m l) b) marks c

-- a spot is marked, as spot 0 always is
abbrev pub marked : List Bool → ℕ → Bool
marked marks k = (0 == k) || slice_index_or marks k false

-- the three spots of an entry are marked
abbrev pub all_marked : List Bool → Entry → Bool
all_marked marks e = marked marks e.second && (marked marks e.third && marked marks e.fourth)

-- the spots of all literals are marked
abbrev pub lits_marked : ℕ → List Bool → List Lit → Bool
lits_marked m marks d = list_all (λ l. marked marks (spot m l)) d

-- the spot of some literal's opposite is marked
abbrev pub any_opposite_marked : ℕ → List Bool → List Lit → Bool
any_opposite_marked m marks c = list_any (λ l. marked marks (spot m (flip l))) c

-- the spot of some literal's opposite is marked, and the clause holds some atom both ways
abbrev pub marked_both_ways : ℕ → List Bool → List Lit → Bool
marked_both_ways m marks c = any_opposite_marked m marks c && holds_both_ways c

-- the clause of a slot has marked spots alone, and lies within another one
abbrev pub marked_slot_within : ℕ → List Bool → List Lit → Option (List Lit) → Bool
marked_slot_within m marks c (Some d) = lits_marked m marks d && sub d c
marked_slot_within m marks c None = false

-- an entry has marked spots alone, and so has its clause, which lies within another one
abbrev pub marked_within : ℕ → List Bool → List (Option (List Lit)) → List Lit → Entry → Bool
marked_within m marks slots c e =
    all_marked marks e && marked_slot_within m marks c (slice_index_or slots e.number None)

-- an entry with marked spots whose clause lies within this one stands in a list of this clause's spots
abbrev pub finds_marked : ℕ → List Bool → List (Option (List Lit)) → List (List Entry) → List Lit
    → Bool
finds_marked m marks slots lists c =
    list_any (λ k. list_any (marked_within m marks slots c) (slice_index_or lists k [])) (spots m c)

-- the marked spots are those of a clause
abbrev pub MarksAre : ℕ → List Bool → List Lit → Type 0
MarksAre m marks c = (k : ℕ) → marked marks k ≡ stands_in (spots m c) k

-- no spot is marked
abbrev pub HasNoMark : List Bool → Type 0
HasNoMark marks = (k : ℕ) → slice_index_or marks k false ≡ false

-- all lists are empty
abbrev pub HasNoEntry : List (List Entry) → Type 0
HasNoEntry lists = (k : ℕ) → slice_index_or lists k [] ≡ []

-- a slot has no clause, or one that is new among earlier ones
abbrev pub slot_new : List (List Lit) → Option (List Lit) → Bool
slot_new earlier (Some c) = is_new earlier c
slot_new earlier None = true
