use Rattle.std.proofs.Common.{◌≡◌, ℕ, ℤ, take}
use Rattle.std.specs.List.{list_any}
use Rattle.line_rows.specs.Splits.{is_at_most}
use Rattle.proof_kernel.specs.Atoms.{has_pair}
use Rattle.proof_kernel.proofs.atoms.pairs_of.Given as goal

abbrev pub invariant-loop-atom : goal.invariant-loop-atom
invariant-loop-atom l = (p : ℕ) (k : ℤ) → has_pair l.pairs p k ≡ list_any (is_at_most p k) (take l.atom-index l.atoms)
