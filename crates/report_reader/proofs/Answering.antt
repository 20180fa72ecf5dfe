-- What a reader answers to a line that was taken, and to a line of a log.
use Rattle.std.proofs.Common.{◌≡◌, ℕ, zero, suc, ◌+◌, ◌<◌, List, Option, None, Some, Ok, refl, sym, ap, ◌∙◌, subst, arith}
use Rattle.spec_core.specs.Specification.{Specification}
use Rattle.proof_lines.specs.declared.line.Line.{Line}
use Rattle.report_lines.specs.declared.head.Tally.{Tally}
use Rattle.report_lines.specs.Formats.{read}
use Rattle.proof_report.specs.declared.event.Event.TheVariants as events
use Rattle.proof_report.specs.declared.place.LogOf.{LogOf}
use Rattle.proof_report.specs.declared.place.Place.{Place}
use Rattle.proof_report.specs.declared.place.Place.TheVariants as places
use Rattle.proof_report.specs.declared.place.State.{State}
use Rattle.proof_report.specs.declared.verdict.Fed.{Fed}
use Rattle.report_reader.specs.declared.feeding.Told.{Told}
use Rattle.report_lines.specs.Words.{parts}
use Rattle.proof_report.specs.Feeding.{log_line, drops_in, judged, one_less}
use Rattle.report_reader.specs.Reader.{ReaderForm, IsEnd, IsStep, IsAnswered, log_end_at, read_behind, read_on, stated, budget_of}
use Rattle.proof_report.proofs.Sound.{at}

pub answered : (r : ReaderForm) (text : List ℕ) (u : State) (x : Told) (n : ℕ) (b : Option ℕ) → r.fault ≡ None → IsStep r.spec r.state (parts text) u (Ok x) → n ≡ r.number + 1 → b ≡ stated x.budget r.budget
    → IsAnswered r text (record { spec = r.spec; state = u; number = n; budget = b; fault = r.fault }) (Ok x.fed)
answered r text u x n b clear s m k =
    let more : suc r.number ≡ n = omega (arith, m) in
    let said : stated (budget_of s.0) r.budget ≡ b = ap (λ (o : Option ℕ). stated o r.budget) (sym s.3) ∙ sym k in (
      s.0,
      ap (read_behind r (parts text)) clear ∙ ap (read_on r) s.1 ∙ (λ i. Ok (s.0, record { spec = r.spec; state = u; number = more i; budget = said i; fault = sym clear i })),
      s.2,
    )

-- ---- lines of a log

-- a line of a log that was read is the next line
pub logged : (d : Specification) (ver : ℕ) (t : Tally) (p : Place) (k : LogOf) (n : ℕ) (words : List (List ℕ)) (l : Line) (f : Fed) → p ≡ places.Log k n → 0 < n
    → read (log_line (drops_in ver k)) words ≡ Some (events.Log l) → f.begin ≡ None → f.log ≡ Some l → IsEnd d (log_end_at p) f.ended
    → IsStep d (at ver t p) words (one_less p ver t) (Ok (record { fed = f; budget = None }))
logged d ver t p k zero words l f is some was b g e = absurd (omega (arith, some))
logged d ver t p k (suc n) words l f is some was b g e =
    subst (λ (q : Place). IsEnd d (log_end_at q) f.ended → IsStep d (at ver t q) words (one_less q ver t) (Ok (record { fed = f; budget = None }))) (sym is)
    (λ ended. (events.Log l, ap (judged d (at ver t (places.Log k (suc n)))) was, record { begin = b; log = g; ended = ended }, refl)) e
