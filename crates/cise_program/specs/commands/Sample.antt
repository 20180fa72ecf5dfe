-- What `sample` answers: the verdicts on a generated specification, counted.
use Rattle.std.specs.Prelude.{◌≡◌, ℕ, List, [], ◌∷◌, ◌++◌, codes, decimal}
use Rattle.byte_ports.specs.Ending.{IsFrontOfOne}
use Rattle.report_lines.specs.declared.head.Tally.{Tally}
use Rattle.proof_report.specs.Verdicts.{obligation_count}
use Rattle.proof_report.specs.Events.{outcome_of}
use Rattle.proof_report.specs.Texts.{end_text}
use Rattle.spec_from_bytes.specs.Lines.{line}
use Rattle.check_run.specs.Reports.{IsDecided, status_of}
use Rattle.sample_specs.specs.Sample.{sample}
use Rattle.cise_program.specs.Words.{default_budget}

-- which sample, how many obligations it has, how many verdicts of each kind, and what they come to
abbrev pub sample_text : ℕ → Tally → List ℕ
sample_text n tally =
    line (codes "cise" ∷ codes "sample" ∷ decimal n ∷ [])
    ++ (line (codes "obligations" ∷ decimal (obligation_count (sample n)) ∷ []) ++ end_text tally)

-- The generated specification with a good verdict on each of its obligations, with the default budget, counted; and the status that they
-- come to: 0 where all are proved, 1 where one is refuted, else 5.
pub record IsSampled (n : ℕ) (status : ℕ) (text : List ℕ) : Type 0 where
  pub tally : Tally
  pub decided : IsDecided (sample n) default_budget tally
  pub status_is : status ≡ status_of (outcome_of tally)
  pub text_is : text ≡ sample_text n tally

-- what is left of it where it is stopped
abbrev pub IsSampleFront : ℕ → List ℕ → Type 0
IsSampleFront n front = IsFrontOfOne (IsSampled n) front
