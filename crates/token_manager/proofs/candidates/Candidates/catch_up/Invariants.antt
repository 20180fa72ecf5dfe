use Rattle.std.proofs.Common.{◌≡◌}
use Rattle.token_manager.specs.Index.{IsUpTo}
use Rattle.token_manager.proofs.candidates.Candidates.catch_up.Given as goal

abbrev pub invariant-loop-number : goal.invariant-loop-number
invariant-loop-number l = IsUpTo l.granted l.self × (l.self.gone_through ≡ l.number) × (l.self.rivals ≡ l.initial.self.rivals)
