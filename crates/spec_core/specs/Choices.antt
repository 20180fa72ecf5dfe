-- Tests of choices of elements, sort by sort, as the code makes them; for proofs alone.
use Rattle.std.specs.Prelude.{ℕ, zero, suc, Bool, true, not, cond, ◌&&◌, List, ◌++◌}
use Rattle.std.specs.List.{list_all}
use Rattle.spec_core.specs.declared.world.World.{World}
use Rattle.spec_core.specs.World.{tuples}

-- a test of each number below a size
abbrev pub all_below : ℕ → (ℕ → Bool) → Bool
all_below zero p = true
all_below (suc n) p = all_below n p && p n

-- a test of each choice of elements for variables of these sorts, behind those chosen before
abbrev pub all_choices : World → List ℕ → List ℕ → (List ℕ → Bool) → Bool
all_choices w chosen sorts p = list_all (λ t. p (chosen ++ t)) (tuples w sorts)

-- whether a truth value is the one that is sought
abbrev pub agrees : Bool → Bool → Bool
agrees wanted b = cond wanted b (not b)
