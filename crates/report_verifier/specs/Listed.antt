-- The list of a specification's obligations.
use Rattle.std.specs.Prelude.{◌≡◌, List}
use Rattle.std.specs.List.{Contains}
use Rattle.spec_core.specs.Specification.{Specification}
use Rattle.obligation_list.specs.declared.obligation.Obligation.{Obligation}
use Rattle.obligation_list.specs.Obligations.{IsObligation, obligations_of}
use Rattle.report_verifier.specs.declared.obligations.Listed.{Listed}

-- These are all obligations of a specification, in order.
pub record AreListed (d : Specification) (obs : List Obligation) : Type 0 where
  pub list : obs ≡ obligations_of d
  pub members : (ob : Obligation) → Contains obs ob → IsObligation d ob

-- so it is with the list beside a specification
abbrev pub IsListed : Listed → Type 0
IsListed l = AreListed l.spec.now l.obligations.now
