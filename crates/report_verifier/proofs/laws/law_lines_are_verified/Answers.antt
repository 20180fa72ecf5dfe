use Rattle.report_verifier.proofs.Lines.{finished}
use Rattle.report_verifier.proofs.laws.law_lines_are_verified.Goals as goal

pub returns : goal.returns
returns c = λ d bytes result ok few over h. finished d bytes ok result few over h
