use Rattle.std.proofs.Common.{◌≡◌, ℕ, ◌+◌, subst, arith}
use Rattle.spec_core.specs.State.{Listing, reads}
use Rattle.obligation_list.specs.Breaking.{Breaks}
use Rattle.proof_report.specs.Verdicts.{obligation_at}
use Rattle.report_reader.specs.Reader.{reads_of}
use Rattle.report_verifier.proofs.Same.{report_verdicts}
use Rattle.report_verifier.proofs.Valid.{valid_at}
use Rattle.proof_report.specs.Verdicts.{refuted}
use Rattle.report_verifier.proofs.laws.law_refuted_breaks.Goals as goal

pub returns : goal.returns
returns c = λ d r i p es ok none e.
    let b = valid_at d r.version r.budget 3 0 r.verdicts (report_verdicts d r ok) none i (refuted p es) e in
    let place : 0 + i ≡ i = omega arith in
    subst (λ (k : ℕ). (s : Listing) × (reads s ≡ reads_of p) × Breaks d (obligation_at d k) p.world s p.calls es) place (b.state, b.reads_so, b.breaks.breaks)
