use Rattle.std.proofs.Common.{◌≡◌, drop}
use Rattle.std.specs.List.{find}
use Rattle.token_protocol.specs.Ids.{same_id}
use Rattle.token_manager.proofs.manager.grant_of.Given as goal

-- the first grant of the id is the first one from here on
abbrev pub invariant-loop-found : goal.invariant-loop-found
invariant-loop-found l = find (λ g. same_id g.id l.id) l.granted ≡ find (λ g. same_id g.id l.id) (drop l.found-index l.granted)
