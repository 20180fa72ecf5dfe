use Rattle.std.proofs.Common.{◌≡◌, take, drop}
use Rattle.std.specs.List.{list_any}
use Rattle.proof_lines.specs.Clauses.{sub}
use Rattle.log_freshness.specs.Freshness.{live_of}
use Rattle.log_freshness.proofs.freshness.holds_one_within.Given as goal

abbrev pub invariant-loop-i : goal.invariant-loop-i
invariant-loop-i l = list_any (λ d. sub d l.lits) (live_of (take l.number l.slots)) ≡ list_any (λ d. sub d l.lits) (live_of (drop l.i (take l.number l.slots)))
