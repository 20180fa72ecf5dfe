-- A verifier that is fed the lines of bytes.
use Rattle.std.proofs.Common.{◌≡◌, ℕ, ◌+◌, ◌<◌, ◌≤◌, Bool, true, List, [], ◌∷◌, ◌++◌, length, take, Option, Some, None, Result, Ok, Err, refl, sym, ap, subst, ◌∙◌, arith, append-nil}
use Rattle.std.specs.Prelude.{IfSome, IfOk, OnOk, is_ok, if◌then◌else◌}
use Rattle.std.specs.Io.KnownBytes.{Consumes, IsAtEnd}
use Rattle.std.proofs.KnownBytes.{Consumes-nil, Consumes-trans, Consumes-whole}
use Rattle.std.proofs.lemmas.List.{length-append, nil_from_length}
use Rattle.byte_ports.proofs.Sources.{long_told, some_told}
use Rattle.spec_core.specs.Specification.{Specification}
use Rattle.spec_core.specs.Typed.{is_specification}
use Rattle.report_lines.specs.declared.head.Tally.{Tally}
use Rattle.proof_report.specs.declared.kind.Fault.{Fault}
use Rattle.proof_report.specs.Feeding.{is_over}
use Rattle.report_reader.specs.Reader.{ReaderForm, end_fault}
use Rattle.report_verifier.specs.Rules.{or_else}
use Rattle.report_bytes.specs.Bytes.{pieces, before_last, last_of, lines_of, unended}
use Rattle.report_bytes.proofs.Cutting.{front_more, pieces_some, no_bytes}
use Rattle.report_verifier.specs.declared.refused.VerifyRefused.{VerifyRefused}
use Rattle.report_verifier.specs.declared.refused.VerifyRefused.TheVariants as refused
use Rattle.report_verifier.specs.Verified.{most_report_bytes, IsVerified, IsVerifiedFrom}
use Rattle.report_verifier.specs.Pieces.{IsUnended, AreTaken}
use Rattle.report_verifier.specs.Notes.{NoteForm, AreNotedTo, AreNoted}
use Rattle.report_verifier.specs.Verifier.{VerifierForm, first_verifier, next_verifier, verifier_after, IsFinished, IsCutOff, IsEnded, AreFed}
use Rattle.report_verifier.proofs.Lines.{finished, cut_off, uncounted}
use Rattle.report_verifier.proofs.CutPieces.{begun_cut, cut_append, unended_free}

-- behind some of the lines
abbrev pub IsOnward : VerifierForm → List ℕ → VerifierForm → List ℕ → Type 0
IsOnward v bytes w rest = (verifier_after v (lines_of bytes) ≡ verifier_after w (lines_of rest)) × (unended bytes ≡ unended rest)

pub onward_more : (v : VerifierForm) (bytes : List ℕ) (w : VerifierForm) (rest line behind : List ℕ) (u : VerifierForm) → IsOnward v bytes w rest → pieces rest ≡ line ∷ pieces behind → u ≡ next_verifier w line → IsOnward v bytes u behind
unfolding verifier_after
onward_more v bytes w rest line behind u o cut e =
    let m = front_more line (pieces behind) (pieces_some behind) in
    let lines : lines_of rest ≡ line ∷ lines_of behind = ap before_last cut ∙ m.0 in
    (o.0 ∙ ap (verifier_after w) lines ∙ ap (λ (x : VerifierForm). verifier_after x (lines_of behind)) (sym e), o.1 ∙ ap last_of cut ∙ m.1)

pub onward_end : (v : VerifierForm) (bytes : List ℕ) (w : VerifierForm) (rest : List ℕ) → IsOnward v bytes w rest → pieces rest ≡ rest ∷ [] → AreFed v bytes w rest
unfolding verifier_after
onward_end v bytes w rest o cut = (o.0 ∙ ap (verifier_after w) (ap before_last cut), o.1 ∙ ap last_of cut)

-- the lines that were left are fed
pub onward_fed : {T E : Type 0} (result : Result T E) (now : T → List ℕ) (v : VerifierForm) (bytes : List ℕ) (w : VerifierForm) (rest : List ℕ) (u : VerifierForm) → IsOnward v bytes w rest → IfOk result (λ x. AreFed w rest u (now x)) → IfOk result (λ x. AreFed v bytes u (now x))
onward_fed (Ok x) now v bytes w rest u o f = (o.0 ∙ f.0, o.1 ∙ f.1)
onward_fed (Err error) now v bytes w rest u o f = tt

-- nothing need be noted where a line wasn't counted
pub unnoted : {T E : Type 0} (result : Result T E) (now : T → List ℕ) (notes : List NoteForm) (bytes : List ℕ) (v : VerifierForm) (line : List ℕ) (u : VerifierForm) (behind : List ℕ) (w : VerifierForm)
    → u ≡ next_verifier v line → u.reader.number ≡ v.reader.number → IfOk result (λ x. AreFed u behind w (now x)) → IfOk result (λ x. w.reader.fault ≡ None → AreNotedTo notes bytes (now x))
unnoted (Ok x) now notes bytes v line u behind w e same f = λ none. absurd (uncounted v line u (lines_of behind) w e same f.0 none)
unnoted (Err error) now notes bytes v line u behind w e same f = tt

-- a line that was begun is ended by a piece, or isn't
pub onward_line : (v : VerifierForm) (bytes : List ℕ) (w : VerifierForm) (line rest front behind begun : List ℕ) (u : VerifierForm) → IsOnward v bytes w (line ++ rest) → IsUnended line → pieces rest ≡ front ∷ pieces behind
    → u ≡ next_verifier w (line ++ front) → begun ≡ [] → IsOnward v bytes u (begun ++ behind)
onward_line v bytes w line rest front behind begun u o free cut e none =
    let one = onward_more v bytes w (line ++ rest) (line ++ front) behind u o (begun_cut line rest front (pieces behind) free cut) e in
    subst (λ (x : List ℕ). IsOnward v bytes u (x ++ behind)) (sym none) one

onward_rest : (v : VerifierForm) (bytes : List ℕ) (w : VerifierForm) (line rest : List ℕ) → IsOnward v bytes w (line ++ rest) → IsUnended line → pieces rest ≡ rest ∷ [] → AreFed v bytes w (line ++ rest)
onward_rest v bytes w line rest o free cut = onward_end v bytes w (line ++ rest) o (begun_cut line rest rest [] free cut)

pub onward_kept : {E : Type 0} (v : VerifierForm) (bytes : List ℕ) (w : VerifierForm) (line rest kept : List ℕ) (result : Result (Unit {0}) E) → IsOnward v bytes w (line ++ rest) → IsUnended line → pieces rest ≡ rest ∷ []
    → kept ≡ (if is_ok result then line ++ rest else line) → OnOk result (AreFed v bytes w kept)
onward_kept v bytes w line rest kept (Ok u) o free cut e = subst (λ (x : List ℕ). AreFed v bytes w x) (sym e) (onward_rest v bytes w line rest o free cut)
onward_kept v bytes w line rest kept (Err error) o free cut e = tt

pub onward_over : (v : VerifierForm) (bytes : List ℕ) (w : VerifierForm) (line rest : List ℕ) (taken size : ℕ) → IsOnward v bytes w (line ++ rest) → IsUnended line → length rest + taken ≤ size → size ≤ taken → AreFed v bytes w line
onward_over v bytes w line rest taken size o free few all =
    let none : rest ≡ [] = nil_from_length rest (omega (arith, few, all)) in
    let same : line ++ rest ≡ line = ap (λ (x : List ℕ). line ++ x) none ∙ append-nil line in
    subst (λ (x : List ℕ). AreFed v bytes w x) same (onward_rest v bytes w line rest o free (no_bytes rest (omega (arith, few, all))))

-- ---- piece by piece

after_append : (v : VerifierForm) (lines more : List (List ℕ)) → verifier_after v (lines ++ more) ≡ verifier_after (verifier_after v lines) more
unfolding verifier_after
after_append v [] more = refl
after_append v (line ∷ lines) more = after_append (next_verifier v line) lines more

pub fed_none : (v : VerifierForm) (line : List ℕ) → line ≡ [] → AreFed v [] v line
unfolding verifier_after
fed_none v line none = (refl, sym none)

pub fed_more : (v : VerifierForm) (bytes : List ℕ) (w : VerifierForm) (line piece : List ℕ) (u : VerifierForm) (rest : List ℕ) → AreFed v bytes w line → AreFed w (line ++ piece) u rest → AreFed v (bytes ++ piece) u rest
fed_more v bytes w line piece u rest f g =
    let c = cut_append bytes piece in
    let same : unended bytes ++ piece ≡ line ++ piece = ap (λ (x : List ℕ). x ++ piece) f.1 in
    (ap (verifier_after v) c.0 ∙ after_append v (lines_of bytes) (lines_of (unended bytes ++ piece)) ∙ (λ i. verifier_after (f.0 i) (lines_of (same i))) ∙ g.0, c.1 ∙ ap unended same ∙ g.1)

-- what is kept of a line that isn't ended has no line feed
pub fed_unended : (v : VerifierForm) (bytes : List ℕ) (w : VerifierForm) (line : List ℕ) → AreFed v bytes w line → IsUnended line
fed_unended v bytes w line f = subst (λ (x : List ℕ). IsUnended x) f.1 (unended_free bytes)

-- ---- what is answered

pub bytes_ended : (d : Specification) (bytes : List ℕ) (w : VerifierForm) (rest : List ℕ) (result : Result Tally VerifyRefused) → is_specification d ≡ true → length bytes ≤ most_report_bytes → AreFed (first_verifier d) bytes w rest → IsEnded w rest result → IsVerified d bytes result
bytes_ended d bytes w rest result ok few f e = by_rest rest f.1 e
  where
    by_rest : (rest : List ℕ) → unended bytes ≡ rest → IsEnded w rest result → IsVerified d bytes result
    by_rest [] u e = finished d bytes ok result few u (subst (λ (x : VerifierForm). IsFinished x result) (sym f.0) e)
    by_rest (b ∷ bs) u e = cut_off d bytes ok result b bs few u (subst (λ (x : VerifierForm). IsCutOff x result) (sym f.0) e)

-- no read fails behind the last one
pub not_read : (v : VerifierForm) (rest : List ℕ) (result : Result Tally VerifyRefused) → IsEnded v rest result → result ≡ Err refused.Fault → ⊥
not_read v rest result h e = by_rest rest (subst (λ (r : Result Tally VerifyRefused). IsEnded v rest r) e h)
  where
    by_rest : (rest : List ℕ) → IsEnded v rest (Err refused.Fault) → ⊥
    by_rest [] h = h
    by_rest (b ∷ bs) h = h

-- where no fault is answered, the reader has none
no_fault_met : (r : ReaderForm) (over : Bool) (o p : Option Fault) → or_else (end_fault r over o) p ≡ None → o ≡ None
no_fault_met r over None p h = refl
no_fault_met r over (Some f) p h = absurd cc

-- where a report stands, this was noted of its lines
pub ended_noted : (w : VerifierForm) (rest : List ℕ) (result : Result Tally VerifyRefused) (notes : List NoteForm) (bytes : List ℕ) → IsEnded w rest result → (w.reader.fault ≡ None → AreNotedTo notes bytes rest) → pieces rest ≡ rest ∷ [] → OnOk result (AreNoted notes bytes)
ended_noted w [] (Ok tally) notes bytes e noted over = ([], (noted (no_fault_met w.reader (is_over w.reader.state.place) w.reader.fault w.judgement.fault e.1), over))
ended_noted w (b ∷ bs) (Ok tally) notes bytes e noted over = absurd e
ended_noted w rest (Err why) notes bytes e noted over = tt

-- ---- the bytes of a source

told_bytes : (d : Specification) (left : Option (List ℕ)) (bytes : List ℕ) (result : Result Tally VerifyRefused) → IfSome left (λ told. bytes ≡ told) → IsVerified d bytes result → IsVerifiedFrom d left result
told_bytes d None bytes result h v = (bytes, tt, v)
told_bytes d (Some told) bytes result h v = (bytes, sym h, v)

pub too_long : (d : Specification) (left : Option (List ℕ)) → IfSome left (λ told. most_report_bytes < length told) → IsVerifiedFrom d left (Err refused.Long)
too_long d left h = long_told most_report_bytes (λ bytes. most_report_bytes < length bytes) left h (λ bytes long. long)

pub not_told : (d : Specification) (left : Option (List ℕ)) → IsVerifiedFrom d left (Err refused.Memory) × IsVerifiedFrom d left (Err refused.Fault)
not_told d left = let b = some_told left in ((b.0, b.1, tt), (b.0, b.1, tt))

-- ---- piece by piece from a source

-- A source has given so many bytes: their lines are fed, and what isn't ended of them is kept.
pub record Taking (left_then left_now : Option (List ℕ)) (faults_then faults_now count : ℕ) (v w : VerifierForm) (line : List ℕ) : Type 0 where
  pub bytes : List ℕ
  pub given : Consumes left_then left_now bytes
  pub fed : AreFed v bytes w line
  pub counted : count ≡ length bytes
  pub within : count ≤ most_report_bytes
  pub never_falls : faults_then ≤ faults_now

pub taking_none : (left : Option (List ℕ)) (faults : ℕ) (v : VerifierForm) (line : List ℕ) → line ≡ [] → Taking left left faults faults 0 v v line
taking_none left faults v line none = record {
  bytes = [];
  given = Consumes-nil left;
  fed = fed_none v line none;
  counted = refl;
  within = omega arith;
  never_falls = omega arith;
}

pub taking_more : (left_then left_now left_next : Option (List ℕ)) (faults_then faults_now faults_next count : ℕ) (v w : VerifierForm) (line piece : List ℕ) (more : ℕ) (u : VerifierForm) (rest : List ℕ)
    → Taking left_then left_now faults_then faults_now count v w line → Consumes left_now left_next piece → faults_now ≤ faults_next → AreFed w (line ++ piece) u rest → more ≡ count + length piece → more ≤ most_report_bytes
    → Taking left_then left_next faults_then faults_next more v u rest
taking_more left_then left_now left_next faults_then faults_now faults_next count v w line piece more u rest t given falls fed counts few = record {
  bytes = t.bytes ++ piece;
  given = Consumes-trans left_then left_now left_next t.bytes piece t.given given;
  fed = fed_more v t.bytes w line piece u rest t.fed fed;
  counted = let l = length-append t.bytes piece in omega (arith, l, counts, t.counted);
  within = few;
  never_falls = omega (arith, falls, t.never_falls);
}

-- what is kept has no line feed
pub taking_unended : (left_then left_now : Option (List ℕ)) (faults_then faults_now count : ℕ) (v w : VerifierForm) (line : List ℕ) → Taking left_then left_now faults_then faults_now count v w line → IsUnended line
taking_unended left_then left_now faults_then faults_now count v w line t = fed_unended v t.bytes w line t.fed

-- nothing more comes
pub taken_all : (left_then left_now left_next : Option (List ℕ)) (faults_then faults_now count : ℕ) (v w : VerifierForm) (line buf : List ℕ) (n : ℕ) → Taking left_then left_now faults_then faults_now count v w line → Consumes left_now left_next (take n buf) → n ≡ 0
    → AreTaken left_then left_next v w line
taken_all left_then left_now left_next faults_then faults_now count v w line buf n t given none =
    let nothing : Consumes left_now left_next [] = subst (λ (k : ℕ). Consumes left_now left_next (take k buf)) none given in
    let all : Consumes left_then left_next (t.bytes ++ []) = Consumes-trans left_then left_now left_next t.bytes [] t.given nothing in
    record {
      bytes = t.bytes;
      given = subst (λ (bytes : List ℕ). Consumes left_then left_next bytes) (append-nil t.bytes) all;
      few = omega (arith, t.counted, t.within);
      fed = t.fed;
    }

-- more comes than may be
longer : (left_then left_next : Option (List ℕ)) (bytes : List ℕ) (most : ℕ) → Consumes left_then left_next bytes → most < length bytes → IfSome left_then (λ told. most < length told)
longer None left_next bytes most given many = tt
longer (Some told) None bytes most given many = absurd given
longer (Some told) (Some rest) bytes most given many = let l = ap length given in let m = length-append bytes rest in omega (arith, l, m, many)

pub taken_long : (left_then left_now left_next : Option (List ℕ)) (faults_then faults_now count : ℕ) (v w : VerifierForm) (line piece : List ℕ) (more : ℕ)
    → Taking left_then left_now faults_then faults_now count v w line → Consumes left_now left_next piece → more ≡ count + length piece → most_report_bytes < more → IfSome left_then (λ told. most_report_bytes < length told)
taken_long left_then left_now left_next faults_then faults_now count v w line piece more t given counts many =
    let l = length-append t.bytes piece in
    longer left_then left_next (t.bytes ++ piece) most_report_bytes (Consumes-trans left_then left_now left_next t.bytes piece t.given given) (omega (arith, l, counts, many, t.counted))

-- so all bytes are verified
pub taken_ended : (d : Specification) (left_then left_now : Option (List ℕ)) (v w : VerifierForm) (line : List ℕ) (result : Result Tally VerifyRefused)
    → is_specification d ≡ true → v ≡ first_verifier d → AreTaken left_then left_now v w line → IsAtEnd left_now → IsEnded w line result → IsVerifiedFrom d left_then result
taken_ended d left_then left_now v w line result ok first t over e =
    let fed = subst (λ (x : VerifierForm). AreFed x t.bytes w line) first t.fed in
    told_bytes d left_then t.bytes result (Consumes-whole left_then left_now t.bytes (λ (told : List ℕ). t.bytes ≡ told) t.given over refl) (bytes_ended d t.bytes w line result ok t.few fed e)
