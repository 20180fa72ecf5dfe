use Rattle.std.proofs.Common.{◌≡◌, true, false, take}
use Rattle.std.specs.Prelude.{MatchOption}
use Rattle.std.specs.List.{list_any}
use Rattle.proof_lines.specs.Clauses.{has}
use Rattle.implicants.specs.Choosing.{is_candidate}
use Rattle.implicants.proofs.choosing.first_in.Given as goal

abbrev pub invariant-loop-lit : goal.invariant-loop-lit
invariant-loop-lit l = MatchOption l.best (list_any (is_candidate l.atoms l.trail) (take l.lit-index l.lits) ≡ false) (λ x. (has l.lits x ≡ true) × (is_candidate l.atoms l.trail x ≡ true))
