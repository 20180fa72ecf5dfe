-- What stands after a log, and after the upgraded one.
use Rattle.std.specs.Prelude.{◌≡◌, ℕ, true, length, Result, Ok, Err}
use Rattle.proof_lines.specs.declared.line.Why.{Why}
use Rattle.proof_kernel.specs.Rules.{State, is_live, live_clause}
use Rattle.proof_kernel.specs.declared.answer.Checked.{Checked}
use Rattle.proof_kernel.specs.declared.answer.KernelRefused.{KernelRefused}
use Rattle.proof_kernel.specs.declared.answer.KernelRefused.TheVariants.{BadLine, NoEmptyClause, Memory as NoMemory}

-- Two states agree but for dropped clauses: they have the same atoms and as many clauses, a clause that both hold is the same in
-- both, and an empty clause was met in both or in none.
pub record AgreeButDropped (s t : State) : Type 0 where
  pub atoms : s.atoms ≡ t.atoms
  pub ints : s.ints ≡ t.ints
  pub given : s.given ≡ t.given
  pub count : length s.slots ≡ length t.slots
  pub clauses : (n : ℕ) → is_live s n ≡ true → is_live t n ≡ true
      → live_clause s n ≡ live_clause t n
  pub empty : s.empty ≡ t.empty

-- a log is accepted: it breaks no rule, and an empty clause was among the clauses
abbrev pub IsAccepted : Result State (ℕ × Why) → Type 0
IsAccepted (Ok s) = s.empty ≡ true
IsAccepted (Err e) = ⊥

-- a log that breaks no rule does so upgraded too, and what then stands agrees but for dropped clauses
abbrev pub StandsUpgraded : Result State (ℕ × Why) → Result State (ℕ × Why) → Type 0
StandsUpgraded (Ok s) (Ok t) = AgreeButDropped s t
StandsUpgraded (Ok s) (Err e) = ⊥
StandsUpgraded (Err e) other = Unit {0}

-- an answer to a log accepts it, unless memory was wanting
abbrev pub Accepts : Result Checked KernelRefused → Type 0
Accepts (Ok c) = Unit {0}
Accepts (Err (BadLine k w)) = ⊥
Accepts (Err NoEmptyClause) = ⊥
Accepts (Err NoMemory) = Unit {0}
