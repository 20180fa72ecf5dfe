use Rattle.std.proofs.Common.{◌≡◌, not, drop}
use Rattle.std.specs.List.{find}
use Rattle.token_protocol.specs.Ids.{is_among}
use Rattle.token_core.proofs.ids.Ids.first_outside.Given as goal

-- the first id outside is the first one from here on
abbrev pub invariant-loop-id : goal.invariant-loop-id
invariant-loop-id l = find (λ id. not (is_among l.self id)) l.ids ≡ find (λ id. not (is_among l.self id)) (drop l.id-index l.ids)
