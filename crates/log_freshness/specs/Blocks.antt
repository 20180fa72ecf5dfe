-- The private blocks of clauses by which freshness is checked; they mirror src/blocks.rt, and a reader of the rules passes them by.
use Rattle.std.specs.Prelude.{◌≡◌, ℕ, ◌<◌, ◌≤◌, Bool, true, false, ◌||◌, List, [], ◌∷◌, ◌++◌, length, map, slice_index_or, Option, Some, None, ◌⊎◌}
use Rattle.std.specs.Int.{bit_at}
use Rattle.std.specs.List.{list_any}
use Rattle.proof_lines.specs.declared.clause.Lit.{Lit}
use Rattle.proof_lines.specs.Numbers.{stands_in}
use Rattle.log_freshness.specs.declared.blocks.Block.{Block}
use Rattle.log_freshness.specs.declared.blocks.Blocks.{Blocks}
use Rattle.log_freshness.specs.Index.{spots, slot_within, marked}

-- the clause of a number lies within another one
abbrev pub number_within : List (Option (List Lit)) → List Lit → ℕ → Bool
number_within slots c n = slot_within c (slice_index_or slots n None)

-- one of the clauses of a block lies within another one
abbrev pub block_within : List (Option (List Lit)) → List Lit → Block → Bool
block_within slots c b = list_any (number_within slots c) b.numbers

-- one of the clauses of all blocks lies within another one
abbrev pub finds_in_blocks : List (Option (List Lit)) → Blocks → List Lit → Bool
finds_in_blocks slots blocks c =
    list_any (block_within slots c) blocks.full.items || block_within slots c blocks.last

-- the clause of a slot has a literal of a spot
abbrev pub slot_has : ℕ → ℕ → Option (List Lit) → Bool
slot_has m k (Some d) = stands_in (spots m d) k
slot_has m k None = false

-- the clause of a number has a literal of a spot
abbrev pub number_has : ℕ → List (Option (List Lit)) → ℕ → ℕ → Bool
number_has m slots k n = slot_has m k (slice_index_or slots n None)

-- the bit of a place in the mask of a spot
abbrev pub mask_bit : List ℕ → ℕ → ℕ → ℕ
mask_bit masks k i = bit_at (slice_index_or masks k 0) i

-- a set bit of a block tells that the clause at its place has a literal of its spot
pub record BlockFits (m : ℕ) (slots : List (Option (List Lit))) (b : Block) : Type 0 where
  pub few : length b.numbers ≤ 128
  pub sized : length b.masks.items ≡ m
  pub told : (k i : ℕ) → mask_bit b.masks.items k i ≡ 1
      → slice_index_or (map (number_has m slots k) b.numbers) i false ≡ true

-- the set bits of each block tell so
abbrev pub AllFit : ℕ → List (Option (List Lit)) → List Block → Type 0
AllFit m slots [] = Unit {0}
AllFit m slots (b ∷ bs) = BlockFits m slots b × AllFit m slots bs

-- the set bits of all blocks tell so, and the last one has room
pub record BlocksFit (m : ℕ) (slots : List (Option (List Lit))) (blocks : Blocks) : Type 0 where
  pub full : AllFit m slots blocks.full.items
  pub last : BlockFits m slots blocks.last
  pub room : length blocks.last.numbers < 128

-- no mask of a spot without a mark has the bit of a place
abbrev pub IsClearAt : List Bool → List ℕ → ℕ → Type 0
IsClearAt marks masks i = (k : ℕ) → marked marks k ≡ false → mask_bit masks k i ≡ 0

-- each bit that is set stands in the mask of a spot without a mark
abbrev pub RulesOut : List Bool → List ℕ → ℕ → Type 0
RulesOut marks masks out = (i : ℕ) → IsClearAt marks masks i → bit_at out i ≡ 0

-- the clause at each place whose bit is set doesn't lie within another one
abbrev pub AreNotWithin : List (Option (List Lit)) → List Lit → List ℕ → ℕ → Type 0
AreNotWithin slots c numbers out =
    (i d : ℕ) → i < length numbers → bit_at out i ≡ 1
    → number_within slots c (slice_index_or numbers i d) ≡ false

-- a bit that is set was set before, or is that of a place in the mask of a clause's spot
abbrev pub BitsAre : ℕ → List Lit → ℕ → List ℕ → List ℕ → Type 0
BitsAre m c place old new =
    (k i : ℕ) → mask_bit new k i ≡ 1 → (mask_bit old k i ≡ 1)
    ⊎ ((i ≡ place) × (stands_in (spots m c) k ≡ true))

-- a block has one clause more, at the next place
pub record PutsNumber (m : ℕ) (c : List Lit) (number : ℕ) (old new : Block) : Type 0 where
  pub numbers : new.numbers ≡ old.numbers ++ number ∷ []
  pub sized : length new.masks.items ≡ m
  pub bits : BitsAre m c (length old.numbers) old.masks.items new.masks.items

-- a block without clauses
pub record IsEmptyBlock (m : ℕ) (b : Block) : Type 0 where
  pub none : b.numbers ≡ []
  pub fits : (slots : List (Option (List Lit))) → BlockFits m slots b

-- blocks without clauses
pub record HasNoClause (m : ℕ) (blocks : Blocks) : Type 0 where
  pub none : (slots : List (Option (List Lit))) (c : List Lit)
      → finds_in_blocks slots blocks c ≡ false
  pub fits : (slots : List (Option (List Lit))) → BlocksFit m slots blocks

-- the last block stands behind the full ones, and an empty one has its place
pub record MovesLast (m : ℕ) (old new : Blocks) : Type 0 where
  pub full : new.full.items ≡ old.full.items ++ old.last ∷ []
  pub last : IsEmptyBlock m new.last

-- the blocks have one clause more
pub record PutsInBlocks (m : ℕ) (c : List Lit) (number : ℕ) (old new : Blocks) : Type 0 where
  pub found : (slots : List (Option (List Lit))) (d : List Lit)
      → finds_in_blocks slots new d ≡ (finds_in_blocks slots old d || number_within slots d number)
  pub fits : (slots : List (Option (List Lit))) → slice_index_or slots number None ≡ Some c
      → BlocksFit m slots old → BlocksFit m slots new
