use Rattle.std.proofs.Common.{◌≡◌, ◌+◌, suc, take}
use Rattle.report_verifier.specs.Verifier.{log_all}
use Rattle.report_verifier.proofs.deferring.add_lines.Given as goal

abbrev pub invariant-loop-line : goal.invariant-loop-line
invariant-loop-line l = record {
  number : l.number ≡ l.initial.judgement.line + l.line-index;
  taken : l.judgement ≡ log_all (suc l.initial.judgement.line) (take l.line-index l.lines) l.initial.judgement;
}
