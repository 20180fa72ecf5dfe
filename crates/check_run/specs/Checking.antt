-- What the code of a check has done after each of its steps.
use Rattle.std.specs.Prelude.{◌≡◌, ◌≤◌, ℕ, suc, List, [], ◌∷◌, length, Option, Result, Ok, Err, IfErr, take}
use Rattle.std.specs.List.{Contains}
use Rattle.std.specs.Io.KnownBytes.{Appends}
use Rattle.spec_core.specs.Specification.{Specification}
use Rattle.obligation_list.specs.declared.obligation.Obligation.{Obligation}
use Rattle.obligation_list.specs.Obligations.{IsObligation, obligations_of}
use Rattle.report_lines.specs.declared.head.Tally.{Tally}
use Rattle.proof_report.specs.declared.verdict.Verdict.{Verdict}
use Rattle.proof_report.specs.Verdicts.{VerdictForm, obligation_at}
use Rattle.proof_report.specs.Events.{with_verdict}
use Rattle.proof_report.specs.Texts.{block_text}
use Rattle.report_bytes.specs.Showing.{shown_verdict, blocks_text, IsFit}
use Rattle.byte_ports.specs.Faults.{IsFault}
use Rattle.byte_ports.specs.declared.text.WriteOut.{WriteOut}
use Rattle.byte_ports.specs.declared.text.WriteOut.TheVariants.{Fault, Memory}
use Rattle.check_run.specs.Good.{IsGood, AreGood, AreGoodSoFar}
use Rattle.check_run.specs.Reports.{tally_of, forms_of, written_version, IsChecked, IsFront}

-- a good verdict was counted
abbrev pub IsCounted : Specification → ℕ → Obligation → Tally → Tally → Type 0
IsCounted d budget ob told counted =
    (v : VerdictForm) × IsGood d budget ob v × (counted ≡ with_verdict v told)

-- a verdict on an obligation is good, and can stand in a report
pub record IsWritable (d : Specification) (budget : ℕ) (ob : Obligation)
    (v : Verdict) : Type 0 where
  pub good : IsGood d budget ob (shown_verdict d v)
  pub fit : IsFit d written_version ob v

-- These are the obligations of a specification, in their order, and few enough to be counted in a report.
pub record AreListed (d : Specification) (obs : List Obligation) : Type 0 where
  pub list : obs ≡ obligations_of d
  pub members : (ob : Obligation) → Contains obs ob → IsObligation d ob
  pub few : length obs ≤ 12208

-- where a sink's fault is answered, the sink has told of one
abbrev pub HasTold : {A : Type 0} → ℕ → ℕ → Result A WriteOut → Type 0
HasTold before after result = IfErr result (λ why. why ≡ Fault → IsFault before after)

-- How far a text was written: what was counted so far, and what the sink holds.
pub record Progress (T : Type 0) : Type 0 where
  pub tally : T
  pub held : Option (List ℕ)

-- the progress with this tally and a sink that holds this
abbrev pub progress : {T : Type 0} → T → Option (List ℕ) → Progress T
progress tally held = record { tally = tally; held = held }

-- the block of such a verdict was written, and the verdict counted; or a front of the block was written; or nothing
abbrev pub IsBlock : Specification → ℕ → Obligation → Progress Tally → Progress Tally
    → Result (Unit {0}) WriteOut → Type 0
IsBlock d budget ob before after (Ok x) =
    (v : Verdict) × IsWritable d budget ob v
    × (after.tally ≡ with_verdict (shown_verdict d v) before.tally)
    × Appends before.held after.held (block_text d ob v)
IsBlock d budget ob before after (Err Fault) =
    (v : Verdict) × (n : ℕ) × IsWritable d budget ob v
    × Appends before.held after.held (take n (block_text d ob v))
IsBlock d budget ob before after (Err Memory) = Appends before.held after.held []

-- each of some verdicts, on the obligations from a place on, can stand in a report
abbrev pub AreFit : Specification → ℕ → List Verdict → Type 0
AreFit d i [] = Unit {0}
AreFit d i (v ∷ vs) = IsFit d written_version (obligation_at d i) v × AreFit d (suc i) vs

-- the blocks of so many obligations were written
pub record AreWritten (d : Specification) (budget n : ℕ) (tally : Tally)
    (before after : Option (List ℕ)) : Type 0 where
  pub verdicts : List Verdict
  pub many : length verdicts ≡ n
  pub good : AreGood d budget (take n (obligations_of d)) (forms_of d verdicts)
  pub fit : AreFit d 0 verdicts
  pub tally_is : tally ≡ tally_of (forms_of d verdicts)
  pub written : Appends before after (blocks_text d 0 verdicts)

-- the blocks of all obligations were written, or a front of the first of them
abbrev pub AreBlocks : Specification → ℕ → Option (List ℕ) → Option (List ℕ) → Result Tally WriteOut
    → Type 0
AreBlocks d budget before after (Ok tally) =
    AreWritten d budget (length (obligations_of d)) tally before after
AreBlocks d budget before after (Err why) =
    (vs : List Verdict) × (n : ℕ) × AreGoodSoFar d budget (obligations_of d) (forms_of d vs)
    × Appends before after (take n (blocks_text d 0 vs))

-- The report of a specification was written, and the verdicts counted; or what a stopped check leaves.
abbrev pub IsReport : Specification → ℕ → Option (List ℕ) → Option (List ℕ) → Result Tally WriteOut
    → Type 0
IsReport d budget before after (Ok tally) =
    (text : List ℕ) × IsChecked d budget tally text × Appends before after text
IsReport d budget before after (Err why) =
    (front : List ℕ) × IsFront d budget front × Appends before after front
