-- What is gathered of a text, and written.
use Rattle.std.proofs.Common.{◌≡◌, ℕ, ◌+◌, ◌≤◌, List, [], ◌++◌, length, take, min, Option, Result, Ok, Err, sym, ap, subst, ◌∙◌, append_assoc, arith}
use Rattle.std.specs.Prelude.{OnOk, OnErr}
use Rattle.std.specs.Io.KnownBytes.{Appends}
use Rattle.std.proofs.Math.Seq.{take-append-add}
use Rattle.std.proofs.lemmas.List.{take-append-le, take_min}
use Rattle.std.proofs.KnownBytes.{Appends-trans, Appends-nil}
use Rattle.byte_ports.specs.Written.{IsFrontWritten}
use Rattle.proof_lines.specs.declared.line.Line.{Line}
use Rattle.proof_report.specs.Texts.{log_text}
use Rattle.report_upgrader.specs.Passing.{IsGathered, verdict_text, proved_text}

-- before anything is written
pub gathered_first : (whole : List ℕ) (before : Option (List ℕ)) (text rest : List ℕ) → text ++ rest ≡ whole → IsGathered whole before before text rest
gathered_first whole before text rest is = record { front = []; written = Appends-nil before; sum = is }

-- what is gathered and what is left come to the same
pub gathered_same : (whole : List ℕ) (before after : Option (List ℕ)) (text rest new left : List ℕ) → IsGathered whole before after text rest → new ++ left ≡ text ++ rest → IsGathered whole before after new left
gathered_same whole before after text rest new left so same = record { front = so.front; written = so.written; sum = ap (λ (t : List ℕ). so.front ++ t) same ∙ so.sum }

pub gathered_rest : (whole : List ℕ) (before after : Option (List ℕ)) (text rest left : List ℕ) → IsGathered whole before after text rest → rest ≡ left → IsGathered whole before after text left
gathered_rest whole before after text rest left so same = subst (λ (t : List ℕ). IsGathered whole before after text t) same so

-- more is gathered
pub gathered_more : (whole : List ℕ) (before after : Option (List ℕ)) (text more rest new : List ℕ) → IsGathered whole before after text (more ++ rest) → new ≡ text ++ more → IsGathered whole before after new rest
gathered_more whole before after text more rest new so is =
    gathered_same whole before after text (more ++ rest) new rest so (ap (λ (t : List ℕ). t ++ rest) is ∙ append_assoc text more rest)

-- what is gathered was written
pub gathered_out : (whole : List ℕ) (before after later : Option (List ℕ)) (text new rest : List ℕ) → IsGathered whole before after text rest → Appends after later text → new ≡ [] → IsGathered whole before later new rest
gathered_out whole before after later text new rest so more none = record {
  front = so.front ++ text;
  written = Appends-trans before after later so.front text so.written more;
  sum = ap (λ (t : List ℕ). (so.front ++ text) ++ (t ++ rest)) none ∙ append_assoc so.front text rest ∙ so.sum;
}

-- a front of what is gathered was written
pub gathered_stopped : (whole : List ℕ) (before after later : Option (List ℕ)) (text rest : List ℕ) → IsGathered whole before after text rest → IsFrontWritten text after later → IsFrontWritten whole before later
gathered_stopped whole before after later text rest so (n, more) =
    let m : ℕ = min n (length text) in
    let few : m ≤ length text = omega arith in
    let same : so.front ++ take n text ≡ take (length so.front + m) whole =
    ap (λ (x : List ℕ). so.front ++ x) (sym (take_min n text) ∙ sym (take-append-le m text rest few))
    ∙ sym (take-append-add so.front (text ++ rest) m) ∙ ap (take (length so.front + m)) so.sum in
    (length so.front + m, subst (Appends before later) same (Appends-trans before after later so.front (take n text) so.written more))

-- nothing more was written
pub gathered_still : (whole : List ℕ) (before after : Option (List ℕ)) (text rest : List ℕ) → IsGathered whole before after text rest → IsFrontWritten whole before after
gathered_still whole before after text rest so = gathered_stopped whole before after after text rest so (0, Appends-nil after)

-- how the writing of what is gathered ended
pub out_ok : {E : Type 0} (result : Result (Unit {0}) E) (whole : List ℕ) (before after later : Option (List ℕ)) (text new rest : List ℕ) → IsGathered whole before after text rest
    → OnOk result (Appends after later text) → OnOk result (new ≡ []) → OnOk result (IsGathered whole before later new rest)
out_ok (Ok x) whole before after later text new rest so more none = gathered_out whole before after later text new rest so more none
out_ok (Err e) whole before after later text new rest so more none = tt

pub out_err : {E : Type 0} (result : Result (Unit {0}) E) (whole : List ℕ) (before after later : Option (List ℕ)) (text rest : List ℕ) → IsGathered whole before after text rest
    → OnErr result (IsFrontWritten text after later) → OnErr result (IsFrontWritten whole before later)
out_err (Ok x) whole before after later text rest so more = tt
out_err (Err e) whole before after later text rest so more = gathered_stopped whole before after later text rest so more

-- where what is left was added, and where it wasn't
pub added_ok : {A E : Type 0} (result : Result A E) (whole : List ℕ) (before after : Option (List ℕ)) (text new rest : List ℕ) → IsGathered whole before after text rest → OnOk result (new ≡ text) → OnOk result (IsGathered whole before after new rest)
added_ok (Ok x) whole before after text new rest so is = subst (λ (t : List ℕ). IsGathered whole before after t rest) (sym is) so
added_ok (Err e) whole before after text new rest so is = tt

pub added_err : {A E : Type 0} (result : Result A E) (whole : List ℕ) (before after : Option (List ℕ)) (text rest : List ℕ) → IsGathered whole before after text rest → OnErr result (IsFrontWritten whole before after)
added_err (Ok x) whole before after text rest so = tt
added_err (Err e) whole before after text rest so = gathered_still whole before after text rest so

-- the verdict of a log is gathered before it
pub verdict_gathered : (log : List Line) (whole : List ℕ) (before after : Option (List ℕ)) (text new rest : List ℕ) → IsGathered whole before after text (proved_text log ++ rest) → new ≡ text ++ verdict_text log → IsGathered whole before after new (log_text log ++ rest)
verdict_gathered log whole before after text new rest so is =
    gathered_more whole before after text (verdict_text log) (log_text log ++ rest) new
    (gathered_rest whole before after text (proved_text log ++ rest) (verdict_text log ++ (log_text log ++ rest)) so (append_assoc (verdict_text log) (log_text log) rest)) is
