use Rattle.std.proofs.Common.{length, ◌∙◌, ap, arith}
use Rattle.proof_lines.specs.Problems.{PlainProblem}
use Rattle.sat_core.proofs.checking.interpretation.Goals as goal

pub truths-requires : goal.truths-requires
truths-requires c = let n = c.len.ensures ∙ ap (λ (z : PlainProblem). length z.atoms) c.problem.view_is in omega (arith, n, c.requires)
