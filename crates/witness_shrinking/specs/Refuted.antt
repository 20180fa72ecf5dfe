-- When a witness refutes an obligation.
use Rattle.std.specs.Prelude.{◌≤◌, length}
use Rattle.spec_core.specs.Specification.{Specification}
use Rattle.spec_core.specs.State.{Listing}
use Rattle.obligation_list.specs.declared.obligation.Obligation.{Obligation}
use Rattle.obligation_list.specs.declared.witness.Witness.{Witness}
use Rattle.obligation_list.specs.Obligations.{IsObligation}
use Rattle.obligation_list.specs.Refuting.{IsRefutation}

-- A witness refutes an obligation.
abbrev pub IsRefutedBy : Specification → Obligation → Witness → Type 0
IsRefutedBy d ob w = IsRefutation d ob w.world w.state w.calls w.elements

-- A state has a list for each relation and for each counter.
pub record HasLists (d : Specification) (s : Listing) : Type 0 where
  pub relations : length d.relations ≤ length s.relations
  pub counters : length d.counters ≤ length s.counters

-- An obligation is one of the specification, and the state of a witness has all lists.
pub record IsShrinking (d : Specification) (ob : Obligation) (w : Witness) : Type 0 where
  pub member : IsObligation d ob
  pub lists : HasLists d w.state
