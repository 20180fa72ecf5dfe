use Rattle.std.proofs.Common.{refl}
use Rattle.report_lines.specs.declared.head.Outcome.TheVariants as outcomes
use Rattle.report_lines.specs.Heads.{title_format, budget_format, obligations_format, summary_format, outcome_format}
use Rattle.report_lines.proofs.WholeLines.{HasWord, line_of}
use Rattle.report_lines.proofs.HeadLines.{title_exact, title_clean, budget_exact, budget_clean, obligations_exact, obligations_clean, summary_exact, summary_clean, outcome_exact, outcome_clean}
use Rattle.report_lines.proofs.laws.law_heads.Goals as goal

pub returns-clause-title : goal.returns-clause-title
returns-clause-title c = line_of title_format (λ a. refl) title_exact title_clean

pub returns-clause-budget : goal.returns-clause-budget
returns-clause-budget c = line_of budget_format (λ a. refl) budget_exact budget_clean

pub returns-clause-obligations : goal.returns-clause-obligations
returns-clause-obligations c = line_of obligations_format (λ a. refl) obligations_exact obligations_clean

pub returns-clause-summary : goal.returns-clause-summary
returns-clause-summary c = line_of summary_format (λ a. refl) summary_exact summary_clean

outcome_word : HasWord outcome_format
outcome_word outcomes.Accepted = refl
outcome_word outcomes.Rejected = refl
outcome_word outcomes.Undecided = refl

pub returns-clause-outcome : goal.returns-clause-outcome
returns-clause-outcome c = line_of outcome_format outcome_word outcome_exact outcome_clean
