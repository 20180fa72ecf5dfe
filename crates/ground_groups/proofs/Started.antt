-- The list with the definitions of the readings that it names.
use Rattle.std.proofs.Common.{◌≡◌, ℕ, Some, List, [], length, map, filter, sym, ◌∙◌, ap, subst}
use Rattle.std.specs.Prelude.{◌==◌, Result}
use Rattle.std.specs.List.{flat_map}
use Rattle.spec_core.specs.Specification.{Specification}
use Rattle.obligation_list.specs.declared.obligation.Obligation.{Obligation}
use Rattle.ground_problem.specs.Symbols.{Symbolic}
use Rattle.ground_problem.specs.Constants.{constants_of}
use Rattle.ground_problem.specs.Definitions.{Reading, definition, readings_after, with_definitions}
use Rattle.ground_atoms.specs.Making.{MadeList}
use Rattle.ground_atoms.proofs.Numbering.{readings_after-made}
use Rattle.ground_groups.specs.Calls.{numbered_arguments}
use Rattle.ground_groups.specs.Limited.{make_upto, made_in, Appends, Makes}
use Rattle.ground_groups.specs.declared.grounding.Grounding.{Grounding}
use Rattle.ground_groups.specs.declared.refused.GroundRefused.{GroundRefused}
use Rattle.ground_groups.proofs.Lists.{makes_then, upto_made}

-- a list with the definitions of the readings that it names
pub defined_then : (d : Specification) (ob : Obligation) (n : ℕ) (list : List Symbolic) (r : Result (Unit {0}) GroundRefused) (mid new : Grounding)
    → make_upto [] (numbered_arguments d ob) list ≡ Some (made_in mid)
    → Appends r mid (flat_map (definition d ob (constants_of d ob)) (filter (λ q. length q.stage == n) mid.atoms.named)) new
    → Makes r (numbered_arguments d ob) (with_definitions d ob (constants_of d ob) n list) new
defined_then d ob n list r mid new e g =
    let named : readings_after n list ≡ filter (λ q. length q.stage == n) mid.atoms.named =
    readings_after-made d ob [] n list ∙ ap (λ (m : MadeList). filter (λ q. length q.stage == n) m.known.named) (upto_made [] (numbered_arguments d ob) list (made_in mid) e) in
    makes_then r (numbered_arguments d ob) mid new list (flat_map (definition d ob (constants_of d ob)) (readings_after n list)) e
    (subst (λ (qs : List Reading). Appends r mid (flat_map (definition d ob (constants_of d ob)) qs) new) (sym named) g)
