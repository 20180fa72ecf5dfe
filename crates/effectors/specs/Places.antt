-- Tuples and keys of declared things.
use Rattle.std.specs.Prelude.{ℕ, nat_lt, Bool, ◌&&◌, List, length}
use Rattle.spec_core.specs.declared.world.World.{World}
use Rattle.spec_core.specs.Specification.{Specification, relation_places, counter_keys}
use Rattle.spec_core.specs.Fits.{fits_places}

-- a relation that is declared, and a tuple of elements of its sorts
abbrev pub fits_relation : Specification → World → ℕ → List ℕ → Bool
fits_relation d w k t = nat_lt k (length d.relations) && fits_places w (relation_places d k) t

-- a counter that is declared, and a key of elements of its sorts
abbrev pub fits_counter : Specification → World → ℕ → List ℕ → Bool
fits_counter d w k t = nat_lt k (length d.counters) && fits_places w (counter_keys d k) t
