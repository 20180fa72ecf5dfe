-- The problem of an obligation, as it is posed. It mirrors the code.
use Rattle.std.specs.Prelude.{◌≡◌, true, false}
use Rattle.spec_core.specs.Specification.{Specification}
use Rattle.obligation_list.specs.declared.obligation.Obligation.{Obligation}
use Rattle.instances.specs.Ground.{IsGrounded}
use Rattle.instances.specs.Entry.{HasEntry}
use Rattle.lazy_ground.specs.declared.grounding.LazyGround.{LazyGround}
use Rattle.lazy_ground.specs.Lazy.{IsLazyGround}
use Rattle.lazy_ground.specs.Kept.{HasClauses, HasLazyKept}
use Rattle.report_verifier.specs.declared.posing.Posed.{Posed}
use Rattle.report_verifier.specs.declared.posing.Posed.TheVariants.{Many, Lazy, Whole}
use Rattle.report_verifier.specs.Rules.{has_many}

-- A lazy ground problem is an obligation's, with the clauses of its entry, and what it leaves for others can be taken back.
pub record IsLazyOf (d : Specification) (ob : Obligation) (g : LazyGround) : Type 0 where
  pub ground : IsLazyGround d ob g
  pub clauses : HasClauses g
  pub left : HasLazyKept d g

-- there are too many formulas, or few enough, and the problem is there
abbrev pub IsPosed : Specification → Obligation → Posed → Type 0
IsPosed d ob Many = has_many d ob ≡ true
IsPosed d ob (Lazy g) = (has_many d ob ≡ false) × IsLazyOf d ob g
IsPosed d ob (Whole g) = (has_many d ob ≡ false) × IsGrounded d ob g × HasEntry d g
