use Rattle.report_lines.proofs.StateLines.{fact_line, reading_line}
use Rattle.report_lines.proofs.laws.law_states.Goals as goal

pub returns-clause-fact : goal.returns-clause-fact
returns-clause-fact c = fact_line

pub returns-clause-reading : goal.returns-clause-reading
returns-clause-reading c = reading_line
