use Rattle.std.proofs.Common.{◌≡◌, ◌++◌, replicate}
use Rattle.proof_lines.specs.declared.problem.AtomKind.TheVariants.{Plain}
use Rattle.clausify.proofs.problem.with_names.Given as goal

abbrev pub invariant-loop-i : goal.invariant-loop-i
invariant-loop-i l = l.kinds ≡ l.fn.kinds ++ replicate l.i Plain
