-- Bytes have one answer.
use Rattle.std.proofs.Common.{◌≡◌, ℕ, true, List, Option, Some, None, Result, Ok, Err, inl, inr, sym, ap, ◌∙◌}
use Rattle.spec_core.specs.Specification.{Specification}
use Rattle.spec_core.specs.Typed.{is_specification}
use Rattle.report_lines.specs.declared.head.Tally.{Tally}
use Rattle.proof_report.specs.declared.kind.Fault.{Fault}
use Rattle.proof_report.specs.Verdicts.{ReportForm}
use Rattle.report_bytes.specs.Reading.{first_fault}
use Rattle.report_bytes.proofs.BytesOfReports.{one_report_of_bytes}
use Rattle.report_bytes.proofs.NoFault.{report_has_no_fault}
use Rattle.report_verifier.specs.declared.refused.VerifyRefused.{VerifyRefused}
use Rattle.report_verifier.specs.declared.refused.VerifyRefused.TheVariants as refused
use Rattle.report_verifier.specs.Rules.{verdict_fault}
use Rattle.report_verifier.specs.Verified.{tally_of, AreBytesOf, IsAccepted, IsFaultOf, IsVerified, IsOnAll}

none_some : (o : Option Fault) (f : Fault) → o ≡ None → o ≡ Some f → ⊥
none_some None f a b = absurd cc
none_some (Some g) f a b = absurd cc

some_is : (o : Option Fault) (f g : Fault) → o ≡ Some f → o ≡ Some g → f ≡ g
some_is o f g a b = inner f g (sym a ∙ b)
  where
    inner : (f g : Fault) → ◌≡◌ {A = Option Fault} (Some f) (Some g) → f ≡ g
    inner f g e = cc

abbrev line_of : Fault → Result Tally VerifyRefused
line_of f = Err (refused.Line f.number f.kind)

module _ (d : Specification) (bytes : List ℕ) (ok : is_specification d ≡ true) where
  same_report : (r q : ReportForm) → AreBytesOf d bytes r → AreBytesOf d bytes q → r ≡ q
  same_report r q a b = one_report_of_bytes d r q ok a.can_stand b.can_stand (sym a.same ∙ b.same)

  no_text_fault : (r : ReportForm) → AreBytesOf d bytes r → first_fault d bytes ≡ None
  no_text_fault r a = ap (first_fault d) a.same ∙ report_has_no_fault d r ok a.can_stand

  not_both : (t : Tally) (f : Fault) → IsAccepted d bytes t → IsFaultOf d bytes f → ⊥
  not_both t f a (inl e) = none_some (first_fault d bytes) f (no_text_fault a.report a.bytes_of) e
  not_both t f a (inr q) = none_some (verdict_fault d a.report) f a.sound (ap (verdict_fault d) (same_report a.report q.0 a.bytes_of q.1) ∙ q.2)

  one_tally : (t u : Tally) → IsAccepted d bytes t → IsAccepted d bytes u → t ≡ u
  one_tally t u a b = a.counts ∙ ap (λ (r : ReportForm). tally_of r.verdicts) (same_report a.report b.report a.bytes_of b.bytes_of) ∙ sym b.counts

  one_fault : (f g : Fault) → IsFaultOf d bytes f → IsFaultOf d bytes g → f ≡ g
  one_fault f g (inl a) (inl b) = some_is (first_fault d bytes) f g a b
  one_fault f g (inl a) (inr q) = absurd (none_some (first_fault d bytes) f (no_text_fault q.0 q.1) a)
  one_fault f g (inr q) (inl a) = absurd (none_some (first_fault d bytes) g (no_text_fault q.0 q.1) a)
  one_fault f g (inr p) (inr q) = some_is (verdict_fault d p.0) f g p.2 (ap (verdict_fault d) (same_report p.0 q.0 p.1 q.1) ∙ q.2)

  pub one_answer : (x y : Result Tally VerifyRefused) → IsOnAll x → IsOnAll y → IsVerified d bytes x → IsVerified d bytes y → x ≡ y
  one_answer (Ok t) (Ok u) a b v w = ap (λ (z : Tally). Ok z) (one_tally t u v.1 w.1)
  one_answer (Ok t) (Err (refused.Line n k)) a b v w = absurd (not_both t (record { number = n; kind = k }) v.1 w.1)
  one_answer (Err (refused.Line n k)) (Ok t) a b v w = absurd (not_both t (record { number = n; kind = k }) w.1 v.1)
  one_answer (Err (refused.Line n k)) (Err (refused.Line m j)) a b v w = ap line_of (one_fault (record { number = n; kind = k }) (record { number = m; kind = j }) v.1 w.1)
  one_answer (Err refused.Long) y a b v w = absurd a
  one_answer (Err refused.Fault) y a b v w = absurd a
  one_answer (Err refused.Memory) y a b v w = absurd a
  one_answer x (Err refused.Long) a b v w = absurd b
  one_answer x (Err refused.Fault) a b v w = absurd b
  one_answer x (Err refused.Memory) a b v w = absurd b
