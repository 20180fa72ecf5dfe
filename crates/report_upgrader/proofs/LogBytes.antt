-- The lines of a log, gone through one by one in their bytes.
use Rattle.std.proofs.Common.{◌≡◌, ℕ, zero, suc, ◌+◌, ◌-◌, ◌<◌, ◌≤◌, Bool, true, false, cond, List, [], ◌∷◌, ◌++◌, length, length-append, take, take_all, drop, Option, Result, Ok, Err, refl, sym, ap, subst, ◌∙◌, arith, append_assoc, append-nil}
use Rattle.std.specs.Prelude.{slice_index_or, slice_set, IfOk}
use Rattle.std.proofs.Math.Seq.{take-add, take-append_seam, drop-append-add}
use Rattle.std.proofs.lemmas.List.{drop-drop, drop_all, drop_more, drop-set, length-drop}
use Rattle.report_bytes.specs.Bytes.{pieces}
use Rattle.proof_lines.specs.declared.line.Line.{Line}
use Rattle.report_upgrader.specs.UpgradedLogs.{is_named, upgraded}
use Rattle.report_verifier.specs.declared.notes.ResolvedPair.{ResolvedPair}
use Rattle.report_verifier.specs.Notes.{NoteForm, IsLong, IsPair, AreNotedTo, AreNoted}
use Rattle.report_upgrader.specs.declared.log_bytes.LogLine.{LogLine}
use Rattle.proof_report.specs.Texts.{log_text}
use Rattle.report_upgrader.specs.declared.planning.Rewritten.{Rewritten}
use Rattle.report_upgrader.specs.Plans.{IsKind, IsSeen, with_drops, written_for, AreWritten, place_of}
use Rattle.report_upgrader.specs.Passing.{IsText, say_log, IsPlanned, IsGathered}
use Rattle.report_upgrader.proofs.Plans.{upgraded_on, upgraded_long, text_on, text_alone}
use Rattle.report_upgrader.proofs.Gathered.{gathered_more, gathered_rest}

-- So many lines of a log were gone through, and the others come first in what is left.
pub record IsAmid (ls : List Line) (at : ℕ) (texts : List (List ℕ)) (done later : List Line) : Type 0 where
  pub parts_are : ls ≡ done ++ later
  pub long : length done ≡ at
  pub left : say_log later texts

-- before the first
amid_first : (ls : List Line) (texts : List (List ℕ)) → say_log ls texts → IsAmid ls 0 texts [] ls
amid_first ls texts says = record { parts_are = refl; long = refl; left = says }

-- the next line
pub record IsNext (ls : List Line) (at : ℕ) (line : List ℕ) (texts : List (List ℕ)) (done later : List Line) : Type 0 where
  pub line_said : Line
  pub others : List Line
  pub are : later ≡ line_said ∷ others
  pub text : IsText line_said line
  pub onward : IsAmid ls (at + 1) texts (done ++ line_said ∷ []) others

next_of : (ls done later : List Line) (at count : ℕ) (line : List ℕ) (texts : List (List ℕ)) → at < count → length ls ≡ count → IsAmid ls at (line ∷ texts) done later → IsNext ls at line texts done later
unfolding say_log
next_of ls done [] at count line texts lt whole way =
    let all = length-append done [] in
    let same : length ls ≡ length (done ++ []) = ap (λ (x : List Line). length x) way.parts_are in
    let long = way.long in
    absurd (omega (arith, lt, whole, all, same, long))
next_of ls done (l ∷ later) at count line texts lt whole way =
    let long = way.long in
    let more = length-append done (l ∷ []) in
    record {
      line_said = l;
      others = later;
      are = refl;
      text = way.left.0;
      onward = record { parts_are = way.parts_are ∙ sym (append_assoc done (l ∷ []) later); long = omega (arith, long, more); left = way.left.1 };
    }

-- behind the last
no_more : (ls done later : List Line) (at count : ℕ) (texts : List (List ℕ)) → count ≤ at → length ls ≡ count → IsAmid ls at texts done later → later ≡ []
no_more ls done [] at count texts le whole way = refl
no_more ls done (l ∷ later) at count texts le whole way =
    let all = length-append done (l ∷ later) in
    let same : length ls ≡ length (done ++ l ∷ later) = ap (λ (x : List Line). length x) way.parts_are in
    let long = way.long in
    absurd (omega (arith, le, whole, all, same, long))

-- ---- what is written

-- what is written for the next line
record IsWrittenNext (x : Rewritten) (plan : List Rewritten) (ls : List Line) (at : ℕ) (line : List ℕ) (texts : List (List ℕ)) (done later : List Line) : Type 0 where
  next : IsNext ls at line texts done later
  upgraded_is : upgraded later ≡ written_for x next.line_said ++ upgraded next.others
  written : AreWritten (drop (at + 1) plan) next.others

written_next : (x : Rewritten) (plan : List Rewritten) (ls : List Line) (at count : ℕ) (line : List ℕ) (cut texts all : List (List ℕ)) (done later : List Line) → at < count → count ≤ length plan → x ≡ slice_index_or plan at x → cut ≡ line ∷ texts → IsPlanned ls count all plan
    → AreWritten (drop at plan) later → IsAmid ls at cut done later → IsWrittenNext x plan ls at line texts done later
written_next x plan ls at count line cut texts all done later lt enough is cuts planned so way =
    let m = next_of ls done later at count line texts lt planned.long (subst (λ (c : List (List ℕ)). IsAmid ls at c done later) cuts way) in
    let l = m.line_said in
    let front : drop at plan ≡ x ∷ drop (at + 1) plan = drop_more plan at x (omega (arith, lt, enough)) ∙ ap (λ (y : Rewritten). y ∷ drop (at + 1) plan) (sym is) in
    let both : AreWritten (x ∷ drop (at + 1) plan) (l ∷ m.others) = subst (λ (p : List Rewritten). AreWritten p (l ∷ m.others)) front (subst (λ (t : List Line). AreWritten (drop at plan) t) m.are so) in
    record {
      next = m;
      upgraded_is = ap upgraded m.are ∙ upgraded_on x l m.others both.0;
      written = both.1;
    }

-- the lines so far are gathered, and this is left to gather of the log and of what comes behind it
pub record IsWriting (plan : List Rewritten) (ls : List Line) (at : ℕ) (texts : List (List ℕ)) (whole : List ℕ) (before after : Option (List ℕ)) (text rest : List ℕ) : Type 0 where
  pub done : List Line
  pub later : List Line
  pub way : IsAmid ls at texts done later
  pub written : AreWritten (drop at plan) later
  pub gathered : IsGathered whole before after text (log_text (upgraded later) ++ rest)

pub writing_first : (plan : List Rewritten) (ls : List Line) (texts whole : List ℕ) (before after : Option (List ℕ)) (text rest : List ℕ) → AreWritten plan ls → say_log ls (pieces texts) → IsGathered whole before after text (log_text (upgraded ls) ++ rest)
    → IsWriting plan ls 0 (pieces texts) whole before after (text ++ []) rest
writing_first plan ls texts whole before after text rest written says so =
    record {
      done = [];
      later = ls;
      way = amid_first ls (pieces texts) says;
      written = written;
      gathered = subst (λ (t : List ℕ). IsGathered whole before after t (log_text (upgraded ls) ++ rest)) (sym (append-nil text)) so;
    }

-- a line that is copied with those before it
pub copied_next : (x : Rewritten) (l : Line) (line run more text whole rest : List ℕ) (before after : Option (List ℕ)) → IsText l line → written_for x l ≡ l ∷ [] → more ≡ run ++ (line ++ 10 ∷ [])
    → IsGathered whole before after (text ++ run) (log_text (written_for x l) ++ rest) → IsGathered whole before after (text ++ more) rest
copied_next x l line run more text whole rest before after says alone longer so =
    let ended : List ℕ = line ++ 10 ∷ [] in
    let one : log_text (written_for x l) ≡ ended = ap log_text alone ∙ text_alone l line says in
    gathered_more whole before after (text ++ run) ended rest (text ++ more)
    (gathered_rest whole before after (text ++ run) (log_text (written_for x l) ++ rest) (ended ++ rest) so (ap (λ (t : List ℕ). t ++ rest) one))
    (ap (λ (t : List ℕ). text ++ t) longer ∙ sym (append_assoc text run ended))

-- what is asked of the writing of the next line
pub record IsNextWriting (x : Rewritten) (plan : List Rewritten) (ls : List Line) (at : ℕ) (line : List ℕ) (texts : List (List ℕ)) (whole : List ℕ) (before after : Option (List ℕ)) (text rest : List ℕ) : Type 0 where
  pub line_said : Line
  pub says : IsText line_said line
  pub left : List ℕ
  pub gathered : IsGathered whole before after text (log_text (written_for x line_said) ++ left)
  pub onward : (later : Option (List ℕ)) (new : List ℕ) → IsGathered whole before later new left → IsWriting plan ls (at + 1) texts whole before later new rest

pub next_writing : (x : Rewritten) (plan : List Rewritten) (ls : List Line) (at count : ℕ) (line : List ℕ) (cut texts all : List (List ℕ)) (whole : List ℕ) (before after : Option (List ℕ)) (text rest : List ℕ) → at < count → count ≤ length plan → x ≡ slice_index_or plan at x → cut ≡ line ∷ texts → IsPlanned ls count all plan
    → IsWriting plan ls at cut whole before after text rest → IsNextWriting x plan ls at line texts whole before after text rest
next_writing x plan ls at count line cut texts all whole before after text rest lt enough is cuts planned so =
    let w = written_next x plan ls at count line cut texts all so.done so.later lt enough is cuts planned so.written so.way in
    let l = w.next.line_said in
    let others : List ℕ = log_text (upgraded w.next.others) ++ rest in
    record {
      line_said = l;
      says = w.next.text;
      left = others;
      gathered = gathered_rest whole before after text (log_text (upgraded so.later) ++ rest) (log_text (written_for x l) ++ others) so.gathered
          (text_on (upgraded so.later) (written_for x l) (upgraded w.next.others) rest w.upgraded_is);
      onward = λ later new more. record {
        done = so.done ++ l ∷ [];
        later = w.next.others;
        way = w.next.onward;
        written = w.written;
        gathered = more;
      };
    }

pub all_written_lines : (plan : List Rewritten) (ls : List Line) (at count : ℕ) (texts : List (List ℕ)) (whole : List ℕ) (before after : Option (List ℕ)) (text rest : List ℕ) → count ≤ at → length ls ≡ count → IsWriting plan ls at texts whole before after text rest
    → IsGathered whole before after text rest
all_written_lines plan ls at count texts whole before after text rest le long now =
    let none = no_more ls now.done now.later at count texts le long now.way in
    gathered_rest whole before after text (log_text (upgraded now.later) ++ rest) rest now.gathered (ap (λ (x : List Line). log_text (upgraded x) ++ rest) none)

-- ---- what is behind

pub behind_on : (all : List (List ℕ)) (at : ℕ) (line : List ℕ) (cut texts : List (List ℕ)) → drop at all ≡ cut → cut ≡ line ∷ texts → drop (at + 1) all ≡ texts
behind_on all zero line cut texts h is = ap (drop 1) (h ∙ is)
behind_on [] (suc at) line cut texts h is = absurd (let e : [] ≡ line ∷ texts = h ∙ is in cc)
behind_on (x ∷ all) (suc at) line cut texts h is = let k : suc at + 1 ≡ suc (at + 1) = omega arith in ap (λ (j : ℕ). drop j (x ∷ all)) k ∙ behind_on all at line cut texts h is

-- ---- how long the lines are

-- the next line
pub noted_at : (ns : List NoteForm) (i : ℕ) (n : NoteForm) (bytes end : List ℕ) → i < length ns → n ≡ slice_index_or ns i n → AreNotedTo (drop i ns) bytes end → (h : IsLong n.len bytes) × (IsPair n.pair h.line × AreNotedTo (drop (i + 1) ns) h.behind end)
noted_at [] i n bytes end lt is are = absurd (omega arith)
noted_at (x ∷ ns) zero n bytes end lt is are = subst (λ (z : NoteForm). (h : IsLong z.len bytes) × (IsPair z.pair h.line × AreNotedTo ns h.behind end)) (sym is) are
noted_at (x ∷ ns) (suc i) n bytes end lt is are =
    let e : suc i + 1 ≡ suc (i + 1) = omega arith in
    let w = noted_at ns i n bytes end (omega arith) is are in
    (w.0, (w.1.0, subst (λ (k : ℕ). AreNotedTo (drop k (x ∷ ns)) w.0.behind end) (sym e) w.1.1))

-- the same where its length was asked for
pub noted_of : (ns : List NoteForm) (i : ℕ) (n : NoteForm) (bytes end : List ℕ) (len : ℕ) → i < length ns → n ≡ slice_index_or ns i n → len ≡ n.len → AreNotedTo (drop i ns) bytes end → (h : IsLong len bytes) × (IsPair n.pair h.line × AreNotedTo (drop (i + 1) ns) h.behind end)
noted_of ns i n bytes end len lt is long are = subst (λ (k : ℕ). (h : IsLong k bytes) × (IsPair n.pair h.line × AreNotedTo (drop (i + 1) ns) h.behind end)) (sym long) (noted_at ns i n bytes end lt is are)

-- a line that is so long stands within the bytes
pub long_within : (len : ℕ) (bytes : List ℕ) → IsLong len bytes → len < length bytes
long_within len bytes h =
    let n = length-append h.line (10 ∷ h.behind) in
    let l : length bytes ≡ length (h.line ++ 10 ∷ h.behind) = ap (λ (x : List ℕ). length x) h.are in
    let k = h.long in
    omega (arith, n, l, k)

pub long_line : (len : ℕ) (bytes : List ℕ) → (h : IsLong len bytes) → take len bytes ≡ h.line
long_line len bytes h =
    ap (λ (k : ℕ). take k bytes) (sym h.long) ∙ ap (λ (x : List ℕ). take (length h.line) x) h.are ∙ take-append_seam h.line (10 ∷ h.behind)

behind_first : (len : ℕ) (bytes : List ℕ) (h : IsLong len bytes) → drop (len + 1) bytes ≡ h.behind
behind_first len bytes h = ap (λ (m : ℕ). drop (m + 1) bytes) (sym h.long) ∙ ap (λ (x : List ℕ). drop (length h.line + 1) x) h.are ∙ drop-append-add h.line (10 ∷ h.behind) 1

pub long_behind : (len : ℕ) (bytes : List ℕ) → (h : IsLong len bytes) → take (length bytes - (len + 1)) (drop (len + 1) bytes) ≡ h.behind
long_behind len bytes h =
    let n = length-append h.line (10 ∷ h.behind) in
    let l : length bytes ≡ length (h.line ++ 10 ∷ h.behind) = ap (λ (x : List ℕ). length x) h.are in
    let k = h.long in
    ap (λ (x : List ℕ). take (length bytes - (len + 1)) x) (behind_first len bytes h) ∙ take_all (length bytes - (len + 1)) h.behind (omega (arith, n, l, k))

-- the pieces of bytes whose next line was cut off by its length
pub long_pieces : (len : ℕ) (bytes line behind : List ℕ) → (h : IsLong len bytes) → (line ≡ h.line) × (behind ≡ h.behind) → pieces bytes ≡ line ∷ pieces behind
long_pieces len bytes line behind h is = h.cut ∙ (λ i. sym is.0 i ∷ pieces (sym is.1 i))

pub long_fewer : (len : ℕ) (bytes behind : List ℕ) → (h : IsLong len bytes) → behind ≡ h.behind → length behind < length bytes
long_fewer len bytes behind h is =
    let n = length-append h.line (10 ∷ h.behind) in
    let l : length bytes ≡ length (h.line ++ 10 ∷ h.behind) = ap (λ (x : List ℕ). length x) h.are in
    let e : length behind ≡ length h.behind = ap (λ (x : List ℕ). length x) is in
    omega (arith, n, l, e)

-- ---- a line behind so many bytes

pub within_at : (place len : ℕ) (bytes : List ℕ) → IsLong len (drop place bytes) → place + len < length bytes
within_at place len bytes h =
    let inside = long_within len (drop place bytes) h in
    let long = length-drop place bytes in
    omega (arith, inside, long)

pub line_is : (place len : ℕ) (bytes : List ℕ) (h : IsLong len (drop place bytes)) → take len (drop place bytes) ≡ h.line
line_is place len bytes h = long_line len (drop place bytes) h

pub ended_at : (place len : ℕ) (bytes : List ℕ) (h : IsLong len (drop place bytes)) → take (place + len + 1) bytes ≡ take place bytes ++ (h.line ++ 10 ∷ [])
ended_at place len bytes h =
    let n = length-append h.line (10 ∷ []) in
    let k = h.long in
    let size : len + 1 ≡ length (h.line ++ 10 ∷ []) = omega (arith, n, k) in
    let parts : drop place bytes ≡ (h.line ++ 10 ∷ []) ++ h.behind = h.are ∙ sym (append_assoc h.line (10 ∷ []) h.behind) in
    let sum : place + len + 1 ≡ place + (len + 1) = omega arith in
    ap (λ (m : ℕ). take m bytes) sum ∙ take-add place (len + 1) bytes
    ∙ ap (λ (x : List ℕ). take place bytes ++ x) ((λ i. take (size i) (parts i)) ∙ take-append_seam (h.line ++ 10 ∷ []) h.behind)

pub behind_at : (place len : ℕ) (bytes : List ℕ) (h : IsLong len (drop place bytes)) → drop (place + len + 1) bytes ≡ h.behind
behind_at place len bytes h =
    let sum : place + len + 1 ≡ place + (len + 1) = omega arith in
    ap (λ (m : ℕ). drop m bytes) sum ∙ sym (drop-drop (len + 1) place bytes)
    ∙ ap (λ (m : ℕ). drop (m + 1) (drop place bytes)) (sym h.long) ∙ ap (λ (x : List ℕ). drop (length h.line + 1) x) h.are ∙ drop-append-add h.line (10 ∷ h.behind) 1

pub pieces_at : (place len : ℕ) (bytes : List ℕ) (h : IsLong len (drop place bytes)) → pieces (drop place bytes) ≡ h.line ∷ pieces (drop (place + len + 1) bytes)
pieces_at place len bytes h = h.cut ∙ ap (λ (x : List ℕ). h.line ∷ pieces x) (sym (behind_at place len bytes h))

-- ---- the lines from the last one on

-- a line of a log
pub record IsLineAt (ls : List Line) (i : ℕ) (line : List ℕ) : Type 0 where
  pub line_said : Line
  pub are : drop i ls ≡ line_said ∷ drop (suc i) ls
  pub says : IsText line_said line

first_line : (ls : List Line) (texts : List (List ℕ)) (line : List ℕ) (more : List (List ℕ)) → 0 < length ls → texts ≡ line ∷ more → say_log ls texts → IsLineAt ls 0 line
unfolding say_log
first_line [] texts line more inside cut says = absurd (omega arith)
first_line (l ∷ later) texts line more inside cut says =
    let all : say_log (l ∷ later) (line ∷ more) = subst (λ (t : List (List ℕ)). say_log (l ∷ later) t) cut says in
    record { line_said = l; are = refl; says = all.0 }

later_line : (ls : List Line) (texts : List (List ℕ)) (line : List ℕ) (more : List (List ℕ)) (i : ℕ) (found : List ℕ) → suc i < length ls → texts ≡ line ∷ more → say_log ls texts
    → ((xs : List Line) → i < length xs → say_log xs more → IsLineAt xs i found) → IsLineAt ls (suc i) found
unfolding say_log
later_line [] texts line more i found inside cut says there = absurd (omega arith)
later_line (l ∷ later) texts line more i found inside cut says there =
    let all : say_log (l ∷ later) (line ∷ more) = subst (λ (t : List (List ℕ)). say_log (l ∷ later) t) cut says in
    let at = there later (omega arith) all.1 in
    record { line_said = at.line_said; are = at.are; says = at.says }

-- a line of which this was noted begins these bytes, and it is the one of this number among all lines
abbrev pub IsPlaced : Option ResolvedPair → ℕ → ℕ → List (List ℕ) → List ℕ → Type 0
IsPlaced pair len i texts bytes = (h : IsLong len bytes) × (IsPair pair h.line × ((ls : List Line) → i < length ls → say_log ls texts → IsLineAt ls i h.line))

placed : (ns : List NoteForm) (i : ℕ) (n : NoteForm) (bytes end : List ℕ) → i < length ns → n ≡ slice_index_or ns i n → AreNotedTo ns bytes end → IsPlaced n.pair n.len i (pieces bytes) (drop (place_of ns i) bytes)
placed [] i n bytes end inside is are = absurd (omega arith)
placed (x ∷ ns) zero n bytes end inside is are =
    let h = are.0 in
    subst (λ (z : NoteForm). IsPlaced z.pair z.len 0 (pieces bytes) bytes) (sym is) (h, (are.1.0, λ ls within says. first_line ls (pieces bytes) h.line (pieces h.behind) within h.cut says))
placed (x ∷ ns) (suc i) n bytes end inside is are =
    let h = are.0 in
    let place = place_of ns i in
    let w = placed ns i n h.behind end (omega arith) is are.1.1 in
    let cut : drop (x.len + 1) bytes ≡ h.behind = behind_first x.len bytes h in
    let same : drop place h.behind ≡ drop (x.len + 1 + place) bytes = ap (λ (b : List ℕ). drop place b) (sym cut) ∙ drop-drop place (x.len + 1) bytes in
    subst (λ (b : List ℕ). IsPlaced n.pair n.len (suc i) (pieces bytes) b) same
    (w.0, (w.1.0, λ ls within says. later_line ls (pieces bytes) h.line (pieces h.behind) i w.0.line within h.cut says w.1.1))

place_next : (ns : List NoteForm) (i : ℕ) (n : NoteForm) → i < length ns → n ≡ slice_index_or ns i n → place_of ns (suc i) ≡ place_of ns i + n.len + 1
place_next [] i n inside is = absurd (omega arith)
place_next (x ∷ ns) zero n inside is =
    let long : n.len ≡ x.len = ap (λ (z : NoteForm). z.len) is in
    let sum : x.len + 1 + 0 ≡ 0 + n.len + 1 = omega (arith, long) in
    sum
place_next (x ∷ ns) (suc i) n inside is =
    let more = place_next ns i n (omega arith) is in
    let sum : x.len + 1 + place_of ns (suc i) ≡ x.len + 1 + place_of ns i + n.len + 1 = omega (arith, more) in
    sum

-- the same where its place and its length were found
pub placed_at : (ns : List NoteForm) (i : ℕ) (n : NoteForm) (bytes end : List ℕ) (place len : ℕ) → i < length ns → n ≡ slice_index_or ns i n → len ≡ n.len → place ≡ place_of ns i → AreNotedTo ns bytes end → IsPlaced n.pair len i (pieces bytes) (drop place bytes)
placed_at ns i n bytes end place len inside is long at are =
    subst (λ (k : ℕ). IsPlaced n.pair k i (pieces bytes) (drop place bytes)) (sym long)
    (subst (λ (p : ℕ). IsPlaced n.pair n.len i (pieces bytes) (drop p bytes)) (sym at) (placed ns i n bytes end inside is are))

pub place_within : (ns : List NoteForm) (i : ℕ) (n : NoteForm) (bytes end : List ℕ) (place len : ℕ) → i < length ns → n ≡ slice_index_or ns i n → len ≡ n.len → place ≡ place_of ns i → AreNotedTo ns bytes end → place + len < length bytes
place_within ns i n bytes end place len inside is long at are = within_at place len bytes (placed_at ns i n bytes end place len inside is long at are).0

-- where the next line stands
pub place_step : (ns : List NoteForm) (i : ℕ) (n : NoteForm) (place len : ℕ) → i < length ns → n ≡ slice_index_or ns i n → len ≡ n.len → place ≡ place_of ns i → place + len + 1 ≡ place_of ns (i + 1)
place_step ns i n place len inside is long at =
    let next = place_next ns i n inside is in
    let number : suc i ≡ i + 1 = omega arith in
    let sum : place + len + 1 ≡ place_of ns (suc i) = omega (arith, next, long, at) in
    sum ∙ ap (place_of ns) number

-- and the one before
pub place_before : (ns : List NoteForm) (at i : ℕ) (n : NoteForm) (place len : ℕ) → at ≡ suc i → i < length ns → n ≡ slice_index_or ns i n → len ≡ n.len → place ≡ place_of ns at → place ≡ place_of ns i + len + 1
place_before ns at i n place len number inside is long found =
    let next = place_next ns i n inside is in
    let same : place ≡ place_of ns (suc i) = found ∙ ap (place_of ns) number in
    omega (arith, next, long, same)

-- For the lines from one on it is known what is written for them and which clauses they name.
pub record IsPlanning (ls : List Line) (at : ℕ) (seen : List Bool) (plan : List Rewritten) (lines : ℕ) : Type 0 where
  pub seen_are : IsSeen seen (drop at ls)
  pub written : AreWritten (drop at plan) (drop at ls)
  pub sum : lines ≡ length (upgraded (drop at ls))

pub planning_first : (ls : List Line) (count : ℕ) (seen : List Bool) (plan : List Rewritten) → seen ≡ [] → length plan ≡ count → length ls ≡ count → IsPlanning ls count seen plan 0
planning_first ls count seen plan none enough long =
    let behind : drop count ls ≡ [] = drop_all count ls (omega (arith, long)) in
    let rest : drop count plan ≡ [] = drop_all count plan (omega (arith, enough)) in
    record {
      seen_are = λ n. ap (λ (t : List Bool). slice_index_or t n false) none ∙ ap (λ (x : List Line). is_named x n) (sym behind);
      written = subst (λ (x : List Line). AreWritten (drop count plan) x) (sym behind) (subst (λ (p : List Rewritten). AreWritten p []) (sym rest) tt);
      sum = ap (λ (x : List Line). length (upgraded x)) (sym behind);
    }

pub planning_on : (ls : List Line) (at i : ℕ) (line : List ℕ) (old new : List Bool) (plan next : List Rewritten) (x : Rewritten) (lines more sum : ℕ) (kind : LogLine) → at ≡ suc i → i < length plan → next ≡ slice_set plan i x → IsLineAt ls i line
    → ((l : Line) (later : List Line) → IsKind kind l → IsSeen old later → IsSeen new (l ∷ later)) → ((l : Line) (later : List Line) → IsKind kind l → IsSeen old later → written_for x l ≡ with_drops l later)
    → ((l : Line) → more ≡ length (written_for x l)) → ((l : Line) → IsText l line → IsKind kind l) → sum ≡ lines + more → IsPlanning ls at old plan lines → IsPlanning ls i new next sum
planning_on ls at i line old new plan next x lines more sum kind number inside set here see write many said add now =
    let l = here.line_said in
    let is = said l here.says in
    let later = drop (suc i) ls in
    let before = subst (λ (k : ℕ). IsPlanning ls k old plan lines) number now in
    let this : written_for x l ≡ with_drops l later = write l later is before.seen_are in
    let long = upgraded_long x l later this in
    let one = many l in
    let so = before.sum in
    let total : sum ≡ length (upgraded (l ∷ later)) = omega (arith, add, long, one, so) in
    let e : i + 1 ≡ suc i = omega arith in
    let front : drop i next ≡ x ∷ drop (suc i) plan = ap (λ (p : List Rewritten). drop i p) set ∙ drop-set plan i x inside ∙ ap (λ (k : ℕ). x ∷ drop k plan) e in
    record {
      seen_are = subst (λ (t : List Line). IsSeen new t) (sym here.are) (see l later is before.seen_are);
      written = subst (λ (t : List Line). AreWritten (drop i next) t) (sym here.are) (subst (λ (p : List Rewritten). AreWritten p (l ∷ later)) (sym front) (this, before.written));
      sum = total ∙ ap (λ (t : List Line). length (upgraded t)) (sym here.are);
    }

pub planned_all : (ls : List Line) (at : ℕ) (seen : List Bool) (plan : List Rewritten) (lines : ℕ) → at ≡ 0 → IsPlanning ls at seen plan lines → IsPlanning ls 0 seen plan lines
planned_all ls at seen plan lines none now = subst (λ (k : ℕ). IsPlanning ls k seen plan lines) none now

-- what is left is noted
pub noted_left : {A E : Type 0} (result : Result A E) (bytes : A → List ℕ) (notes : A → List NoteForm) (b : List ℕ) (ns : List NoteForm) → AreNoted ns b → IfOk result (λ x. bytes x ≡ b) → IfOk result (λ x. notes x ≡ ns) → IfOk result (λ x. AreNoted (notes x) (bytes x))
noted_left (Ok x) bytes notes b ns are same these = subst (λ (t : List ℕ). AreNoted (notes x) t) (sym same) (subst (λ (t : List NoteForm). AreNoted t b) (sym these) are)
noted_left (Err e) bytes notes b ns are same these = tt
