-- The report that a check writes, what its verdicts come to, and what a stopped check has written.
use Rattle.std.specs.Prelude.{◌≡◌, ◌⊎◌, ℕ, List, ◌++◌, map, take}
use Rattle.spec_core.specs.Specification.{Specification}
use Rattle.obligation_list.specs.declared.obligation.Obligation.{Obligation}
use Rattle.obligation_list.specs.Obligations.{obligations_of}
use Rattle.report_lines.specs.declared.head.Tally.{Tally}
use Rattle.report_lines.specs.declared.head.Outcome.{Outcome}
use Rattle.report_lines.specs.declared.head.Outcome.TheVariants as outcome
use Rattle.proof_report.specs.declared.verdict.Verdict.{Verdict}
use Rattle.proof_report.specs.Verdicts.{VerdictForm}
use Rattle.proof_report.specs.Events.{no_verdicts}
use Rattle.proof_report.specs.Texts.{head_text}
use Rattle.report_bytes.specs.Showing.{shown_verdict, counted, blocks_text, written_text, AllFit}
use Rattle.check_run.specs.Good.{AreGood, AreGoodSoFar}

-- ---- what verdicts come to

-- how many verdicts of each kind there are
abbrev pub tally_of : List VerdictForm → Tally
tally_of vs = counted no_verdicts vs

-- 0 where all are proved; 1 where one is refuted; else 5
abbrev pub status_of : Outcome → ℕ
status_of outcome.Accepted = 0
status_of outcome.Rejected = 1
status_of outcome.Undecided = 5

-- Verdicts on these obligations were counted, which are good.
pub record AreDecided (d : Specification) (budget : ℕ) (obs : List Obligation)
    (tally : Tally) : Type 0 where
  pub verdicts : List VerdictForm
  pub good : AreGood d budget obs verdicts
  pub tally_is : tally ≡ tally_of verdicts

-- All obligations of a specification have good verdicts, counted.
abbrev pub IsDecided : Specification → ℕ → Tally → Type 0
IsDecided d budget tally = AreDecided d budget (obligations_of d) tally

-- ---- reports

-- what a report shows of verdicts
abbrev pub forms_of : Specification → List Verdict → List VerdictForm
forms_of d vs = map (shown_verdict d) vs

-- a check writes reports of this version
abbrev pub written_version : ℕ
written_version = 1

-- the head, and the blocks of the first obligations
abbrev pub opening_text : Specification → ℕ → List Verdict → List ℕ
opening_text d budget vs = head_text d written_version budget ++ blocks_text d 0 vs

-- A report of a specification with a good verdict on each obligation, in order, each of which can stand in a report, and how many
-- there are of each kind.
pub record IsChecked (d : Specification) (budget : ℕ) (tally : Tally) (text : List ℕ) : Type 0 where
  pub verdicts : List Verdict
  pub good : AreGood d budget (obligations_of d) (forms_of d verdicts)
  pub fit : AllFit d written_version 0 verdicts
  pub tally_is : tally ≡ tally_of (forms_of d verdicts)
  pub text_is : text ≡ written_text d written_version budget verdicts

-- A stopped check has written a front of such a report; or of the head and the blocks of good verdicts on the first obligations.
-- Nothing is said of verdicts that it didn't reach.
abbrev pub IsFront : Specification → ℕ → List ℕ → Type 0
IsFront d budget front =
    ((tally : Tally) × (text : List ℕ) × (n : ℕ) × IsChecked d budget tally text
    × (front ≡ take n text))
    ⊎ ((vs : List Verdict) × (n : ℕ) × AreGoodSoFar d budget (obligations_of d) (forms_of d vs)
    × (front ≡ take n (opening_text d budget vs)))
