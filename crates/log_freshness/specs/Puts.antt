-- The private index of earlier clauses, of lists and blocks; it mirrors src/freshness.rt, and a reader of the rules passes it by.
use Rattle.std.specs.Prelude.{◌≡◌, ℕ, ◌<◌, ◌||◌, List, Option, length, ◌⊎◌}
use Rattle.std.specs.List.{list_any}
use Rattle.proof_lines.specs.declared.clause.Lit.{Lit}
use Rattle.proof_lines.specs.Clauses.{sub}
use Rattle.log_freshness.specs.declared.freshness.Entry.{Entry}
use Rattle.log_freshness.specs.declared.freshness.Index.{Index}
use Rattle.log_freshness.specs.declared.blocks.Blocks.{Blocks}
use Rattle.log_freshness.specs.Index.{finds, PutsOne}
use Rattle.log_freshness.specs.Blocks.{finds_in_blocks, BlocksFit, PutsInBlocks}

-- the lists and the blocks find a clause within another one exactly where one of the earlier clauses is
abbrev pub IsIndex : ℕ → List (Option (List Lit)) → List (List Entry) → Blocks → List (List Lit)
    → Type 0
IsIndex m slots lists blocks earlier =
    (c : List Lit) → (finds m slots lists c || finds_in_blocks slots blocks c)
    ≡ list_any (λ d. sub d c) earlier

-- the lists or the blocks have one clause more, and the others are as they were
abbrev pub PutsEither : ℕ → List Lit → ℕ → List (List Entry) → List (List Entry) → Blocks → Blocks
    → Type 0
PutsEither m c number old_lists new_lists old new =
    (PutsOne m c number old_lists new_lists × (new ≡ old))
    ⊎ ((new_lists ≡ old_lists) × PutsInBlocks m c number old new)

-- an index has spots, a list for each of them, and blocks whose set bits tell the truth
pub record IndexFits (slots : List (Option (List Lit))) (index : Index) : Type 0 where
  pub some : 0 < index.count
  pub listed : length index.lists.items ≡ index.count
  pub blocks : BlocksFit index.count slots index.blocks

-- an index finds a clause within another one exactly where one of the earlier clauses is
abbrev pub IsIndexOf : List (Option (List Lit)) → Index → List (List Lit) → Type 0
IsIndexOf slots index earlier = IsIndex index.count slots index.lists.items index.blocks earlier

-- an index has one clause more, and as many spots as before
pub record PutsClause (c : List Lit) (number : ℕ) (old new : Index) : Type 0 where
  pub count : new.count ≡ old.count
  pub listed : length new.lists.items ≡ new.count
  pub either : PutsEither old.count c number old.lists.items new.lists.items old.blocks new.blocks
