-- The obligation at a place of the list, and the list as it is held.
use Rattle.std.proofs.Common.{◌≡◌, ℕ, List, Some, slice_get, subst, ◌∙◌}
use Rattle.std.specs.List.{Contains}
use Rattle.std.proofs.lemmas.Option.{get_or_from_slice_get}
use Rattle.spec_core.specs.Specification.{Specification}
use Rattle.obligation_list.specs.declared.obligation.Obligation.{Obligation}
use Rattle.obligation_list.specs.Obligations.{IsObligation, obligations_of}
use Rattle.proof_report.specs.Verdicts.{obligation_at}
use Rattle.report_verifier.specs.Listed.{AreListed}

-- the obligation at a place is the one that is found there
pub obligation_at-found : (d : Specification) (obs : List Obligation) (n : ℕ) (ob : Obligation) → AreListed d obs → slice_get obs n ≡ Some ob → obligation_at d n ≡ ob
obligation_at-found d obs n ob l h = get_or_from_slice_get (obligations_of d) n ob _ (subst (λ (z : List Obligation). slice_get z n ≡ Some ob) l.list h)

-- the same obligations, as they are held
pub listed-held : (d : Specification) (obs held : List Obligation) → held ≡ obs → obs ≡ obligations_of d → ((ob : Obligation) → Contains obs ob → IsObligation d ob) → AreListed d held
listed-held d obs held e l m = record { list = e ∙ l; members = λ ob h. m ob (subst (λ (z : List Obligation). Contains z ob) e h) }
