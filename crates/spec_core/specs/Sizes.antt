-- Elements that a number of a tuple can hold; for proofs alone.
use Rattle.std.specs.Prelude.{ℕ, ◌^◌, ℤ, nat_lt, Bool, List}
use Rattle.spec_core.specs.declared.formula.Elem.{Elem}
use Rattle.spec_core.specs.declared.world.World.{World}
use Rattle.spec_core.specs.Truth.{elem_of}

-- an element that the numbers of a tuple can hold
abbrev pub is_small : World → List ℤ → List ℕ → Elem → Bool
is_small w args vars e = nat_lt (elem_of w args vars e) (2 ^ 32)
