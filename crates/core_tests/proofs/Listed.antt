-- A state that fits has a list for each relation and each counter that a specification declares.
use Rattle.std.proofs.Common.{◌≡◌, ℕ, ◌<◌, true, length, sym, subst}
use Rattle.std.specs.Prelude.{Some, slice_get}
use Rattle.std.proofs.lemmas.Option.{slice_get_within}
use Rattle.spec_core.specs.declared.world.World.{World}
use Rattle.spec_core.specs.declared.spec.Relation.{Relation}
use Rattle.spec_core.specs.declared.spec.Counter.{Counter}
use Rattle.spec_core.specs.Specification.{Specification}
use Rattle.spec_core.specs.State.{Listing}
use Rattle.spec_core.specs.Fits.{is_state}
use Rattle.effectors.proofs.Sized.{relations_sized, counters_sized}

pub relation_listed : (d : Specification) (w : World) (s : Listing) (k : ℕ) (it : Relation) → is_state d w s ≡ true → slice_get d.relations k ≡ Some it → k < length s.relations
relation_listed d w s k it fits found = subst (λ n. k < n) (sym (relations_sized d w s fits)) (slice_get_within d.relations k it found)

pub counter_listed : (d : Specification) (w : World) (s : Listing) (k : ℕ) (it : Counter) → is_state d w s ≡ true → slice_get d.counters k ≡ Some it → k < length s.counters
counter_listed d w s k it fits found = subst (λ n. k < n) (sym (counters_sized d w s fits)) (slice_get_within d.counters k it found)
