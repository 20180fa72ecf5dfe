use Rattle.std.proofs.Common.{◌≡◌, ℕ, ◌+◌, ◌<◌, ◌≤◌, true, refl, arith, length}
use Rattle.word_cut.specs.Whole.{greatest}
use Rattle.spec_core.specs.Specification.{Specification, op_of}
use Rattle.spec_core.specs.Typed.{is_specification}
use Rattle.obligation_list.specs.declared.obligation.Obligation.{Obligation}
use Rattle.obligation_list.specs.declared.obligation.Obligation.TheVariants.{Init, Safety, Commute, Stable}
use Rattle.obligation_list.specs.Obligations.{IsObligation}
use Rattle.report_lines.specs.declared.verdict.VerdictWord.TheVariants as words
use Rattle.obligation_list.proofs.LineFits.{few_requires}
use Rattle.spec_core.specs.Limits.{most_requires}
use Rattle.report_lines.specs.Blocks.{obligation_format, verdict_format}
use Rattle.report_lines.proofs.WholeLines.{HasWord, line_of}
use Rattle.report_lines.proofs.BlockLines.{obligation_exact, obligation_clean, IsCounted, verdict_exact, verdict_clean}
use Rattle.report_lines.proofs.laws.law_blocks.Goals as goal

obligation_word : (d : Specification) (ob : Obligation) → HasWord (obligation_format d ob)
obligation_word d (Init i) u = refl
obligation_word d (Safety o i) u = refl
obligation_word d (Commute o p x) u = refl
obligation_word d (Stable o l p) u = refl

counted : (d : Specification) (ob : Obligation) → is_specification d ≡ true → IsObligation d ob → IsCounted ob
counted d (Init i) h m = tt
counted d (Safety o i) h m = tt
counted d (Commute o p x) h m = tt
counted d (Stable o l p) h m = small l (length (op_of d o).requires_) (few_requires d h o) m.1
  where
    small : (l n : ℕ) → n ≤ most_requires → l < n → l + 1 ≤ greatest
    small l n few lt = omega (arith, few, lt)

pub returns-clause-obligation : goal.returns-clause-obligation
returns-clause-obligation c = λ d ob h m. line_of (obligation_format d ob) (obligation_word d ob) (obligation_exact d ob) (obligation_clean d ob h (counted d ob h m))

verdict_word : HasWord verdict_format
verdict_word (words.Proved n) = refl
verdict_word words.Refuted = refl
verdict_word words.Instances = refl
verdict_word (words.Lines n) = refl
verdict_word (words.Rows n) = refl
verdict_word (words.Range n) = refl

pub returns-clause-verdict : goal.returns-clause-verdict
returns-clause-verdict c = line_of verdict_format verdict_word verdict_exact verdict_clean
