-- The world that truth values give, and the element of each constant in it, as a program makes them.
use Rattle.std.specs.Prelude.{◌≡◌, ℕ, Bool, false, List, map, length, slice_index, slice_index_or}
use Rattle.std.specs.List.{range_with_len}
use Rattle.spec_core.specs.declared.world.World.{World}
use Rattle.spec_core.specs.Specification.{Specification}
use Rattle.ground_numbers.specs.Numbers.{Table}
use Rattle.model_back.specs.declared.classed.Classed.{Classed}
use Rattle.model_back.specs.Equals.{equals_from, alike_by, classes_by, element_by}

-- which constants are equal, by the truth values of a table's atoms
abbrev pub like_in : Table → List Bool → ℕ → ℕ → Bool
like_in o truths = alike_by (equals_from (λ n. slice_index_or truths n false) 0 o.atoms)

-- the element of each constant, where they have these sorts
abbrev pub elements_in : (ℕ → ℕ → Bool) → List ℕ → List ℕ
elements_in like sorts = map (element_by like sorts) (range_with_len 0 (length sorts))

-- the world of the classes of equal constants
abbrev pub world_in : Specification → (ℕ → ℕ → Bool) → List ℕ → World
world_in d like sorts = record {
  sizes = map length (map (classes_by like sorts) (range_with_len 0 (length d.sorts)));
  consts = map (slice_index (elements_in like sorts)) (range_with_len 0 (length d.consts));
}

-- It is that world, with the element of each constant.
pub record IsClassed (d : Specification) (o : Table) (sorts : List ℕ) (truths : List Bool)
    (c : Classed) : Type 0 where
  pub elements : c.elements.items ≡ elements_in (like_in o truths) sorts
  pub world : c.world ≡ world_in d (like_in o truths) sorts
