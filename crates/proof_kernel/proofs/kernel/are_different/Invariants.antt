use Rattle.std.proofs.Common.{◌≡◌, ℕ, ◌≤◌, drop, length, true}
use Rattle.std.specs.Prelude.{nat_eq}
use Rattle.std.specs.HashSet.{contains}
use Rattle.proof_lines.specs.Numbers.{are_different, stands_in}
use Rattle.proof_kernel.proofs.kernel.are_different.Given as goal

abbrev pub invariant-loop-i : goal.invariant-loop-i
invariant-loop-i l = record {
  within : l.i ≤ length l.numbers;
  seen : (q : ℕ) → contains nat_eq l.seen q ≡ stands_in (drop l.i l.numbers) q;
  different : are_different (drop l.i l.numbers) ≡ true;
}

abbrev pub decreases-loop-i : goal.decreases-loop-i
decreases-loop-i l = l.i
