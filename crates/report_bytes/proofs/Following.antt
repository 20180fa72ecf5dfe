-- What the program keeps of lines is what is kept of what they say, and at their end a report.
use Rattle.std.proofs.Common.{◌≡◌, ℕ, suc, ◌+◌, Bool, true, false, ◌≤◌, List, [], ◌∷◌, ◌++◌, map, length, Option, Some, None, Result, Ok, Err, inl, inr, arith, refl, sym, ap, subst, ◌∙◌}
use Rattle.spec_core.specs.Specification.{Specification}
use Rattle.spec_core.specs.Typed.{is_specification}
use Rattle.proof_lines.specs.declared.line.Line.{Line}
use Rattle.report_lines.specs.declared.verdict.VerdictWord.{VerdictWord}
use Rattle.report_lines.specs.Words.{parts}
use Rattle.report_lines.specs.Formats.{read}
use Rattle.report_lines.proofs.Exact.{chosen}
use Rattle.proof_report.specs.declared.event.Event.{Event}
use Rattle.proof_report.specs.declared.kind.Fault.{Fault}
use Rattle.proof_report.specs.declared.kind.ReportKind.{ReportKind}
use Rattle.proof_report.specs.declared.kind.ReportRefused.{ReportRefused}
use Rattle.proof_report.specs.declared.kind.ReportRefused.TheVariants as refused
use Rattle.proof_report.specs.declared.place.State.{State}
use Rattle.proof_report.specs.declared.verdict.Block.{Block}
use Rattle.proof_report.specs.declared.verdict.Report.{Report}
use Rattle.proof_report.specs.declared.verdict.Ended.{Ended}
use Rattle.proof_report.specs.declared.verdict.Ended.TheVariants as ended
use Rattle.proof_report.specs.declared.verdict.Fed.{Fed}
use Rattle.proof_report.specs.Verdicts.{ReportForm, is_report}
use Rattle.proof_report.specs.Events.{report_lines}
use Rattle.proof_report.specs.Feeding.{line_at, says, judged, after, fed, fed_all, start, is_over}
use Rattle.proof_report.specs.Gathering.{report_of}
use Rattle.report_reader.specs.Reader.{EndForm, end_proved, end_refuted, end_instances, end_lines, end_rows, end_range, IsEnd, begin_of, log_of_event, ended_by, budget_of, stated, ReaderForm, read_on, read_behind, read_line, first_reader, fault_at_end, end_fault, Tells}
use Rattle.proof_report.proofs.Whole.{all_ok}
use Rattle.proof_report.proofs.Sound.{admitted_is_report}
use Rattle.report_bytes.specs.declared.reading.Collected.{Collected}
use Rattle.report_bytes.specs.Bytes.{pieces, before_last, last_of, lines_of, unended, report_bytes}
use Rattle.report_bytes.specs.Reading.{◌>>=◌, BlockForm, AreBlocks, IsVerdict, IsReport, IsRead, read_lines, fault_behind, first_fault, blocks_of}
use Rattle.report_bytes.specs.Collecting.{verdict_of, with_begin, with_line, with_end, collect, Kept, nothing_kept, end_verdict, kept_begin, kept_line, kept_end, keep, keep_all, read_kept, Holds, IsTaken, AreTaken, IsRefused, IsEnded, AreRead, IsFaulty, budget_in}
use Rattle.report_bytes.proofs.Cutting.{front_more, pieces_some, no_bytes}
use Rattle.report_bytes.proofs.BytesOfReports.{bytes_are_text}
use Rattle.report_bytes.proofs.Keeping.{AllKept, report_kept}

-- ---- one line

are_more : (d : Specification) (fs : List BlockForm) (bs : List Block) (f : BlockForm) (b : Block) → AreBlocks d fs bs → b.line ≡ f.line → IsVerdict d f.verdict b.verdict → AreBlocks d (fs ++ f ∷ []) (bs ++ b ∷ [])
are_more d [] [] f b h e v = (e, v, tt)
are_more d [] (c ∷ bs) f b h e v = absurd h
are_more d (g ∷ fs) [] f b h e v = absurd h
are_more d (g ∷ fs) (c ∷ bs) f b h e v = (h.0, h.1, are_more d fs bs f b h.2 e v)

holds_begin : (d : Specification) (n : ℕ) (b : Option VerdictWord) (k : Kept) (c : Collected) → Holds d k c → Holds d (kept_begin n b k) (with_begin n b c)
holds_begin d n None k c h = h
holds_begin d n (Some b) k c h = record { line = refl; log = h.log; blocks = h.blocks }

holds_line : (d : Specification) (l : Option Line) (k : Kept) (c : Collected) → Holds d k c → Holds d (kept_line l k) (with_line l c)
holds_line d None k c h = h
holds_line d (Some l) k c h = record { line = h.line; log = ap (λ (x : List Line). x ++ l ∷ []) h.log; blocks = h.blocks }

end_is : (d : Specification) (e : EndForm) (x : Ended) (log l : List Line) → IsEnd d (Some e) (Some x) → l ≡ log → IsVerdict d (end_verdict e log) (verdict_of x l)
end_is d end_proved ended.Proved log l h s = s
end_is d (end_refuted p es) (ended.Refuted w) log l h s = h
end_is d end_instances ended.Instances log l h s = tt
end_is d end_lines ended.Lines log l h s = s
end_is d (end_rows r) (ended.Rows used steps) log l h s = (s, h.0, h.1)
end_is d (end_range r) (ended.Range used steps what) log l h s = (s, h.0, h.1, h.2)
end_is d _ _ log l h s = absurd h

holds_end : (d : Specification) (e : Option EndForm) (x : Option Ended) (k : Kept) (c : Collected) → IsEnd d e x → Holds d k c → Holds d (kept_end e k) (with_end x c)
holds_end d None None k c i h = h
holds_end d None (Some x) k c i h = absurd i
holds_end d (Some end_proved) None k c i h = absurd i
holds_end d (Some (end_refuted p es)) None k c i h = absurd i
holds_end d (Some end_instances) None k c i h = absurd i
holds_end d (Some end_lines) None k c i h = absurd i
holds_end d (Some (end_rows r)) None k c i h = absurd i
holds_end d (Some (end_range r)) None k c i h = absurd i
holds_end d (Some e) (Some x) k c i h = record { line = h.line; log = refl; blocks = are_more d k.blocks c.blocks _ _ h.blocks h.line (end_is d e x k.log c.log i h.log) }

holds_on : (d : Specification) (n : ℕ) (s : State) (e : Event) (f : Fed) (k : Kept) (c : Collected) → Tells d s e f → Holds d k c → Holds d (keep n s e k) (collect n f c)
holds_on d n s e f k c t h =
    let a = subst (λ (b : Option VerdictWord). Holds d (kept_begin n (begin_of e) k) (with_begin n b c)) (sym t.begin) (holds_begin d n (begin_of e) k c h) in
    let b = subst (λ (l : Option Line). Holds d (kept_line (log_of_event e) (kept_begin n (begin_of e) k)) (with_line l (with_begin n f.begin c))) (sym t.log) (holds_line d (log_of_event e) _ _ a) in
    let g = holds_end d (ended_by s e) f.ended _ _ t.ended b in
    record { line = g.line; log = g.log; blocks = g.blocks }

-- ---- many lines

not_ok : {A : Type 0} (f : Fault) (y : A) → ◌≡◌ {A = Result A Fault} (Err f) (Ok y) → ⊥
not_ok f y e = cc

not_fed : {A : Type 0} (k : ReportKind) (y : A) → ◌≡◌ {A = Result A ReportKind} (Err k) (Ok y) → ⊥
not_fed k y e = cc

abbrev fine : {A : Type 0} → A → Result A Fault
fine x = Ok x

fine_is : {A : Type 0} (x y : A) → fine x ≡ fine y → x ≡ y
fine_is x y e = cc

abbrev good : {A : Type 0} → A → Result A ReportKind
good x = Ok x

good_is : {A : Type 0} (x y : A) → good x ≡ good y → x ≡ y
good_is x y e = cc

bind_ok : {A B : Type 0} (r : Result A Fault) (f : A → Result B Fault) (y : B) → (r >>= f) ≡ Ok y → (x : A) × (r ≡ Ok x) × (f x ≡ Ok y)
bind_ok (Ok x) f y e = (x, refl, e)
bind_ok (Err k) f y e = absurd (not_ok k y e)

moves : (d : Specification) (s : State) (o : Option Event) (y : Event × State) → judged d s o ≡ Ok y → y.1 ≡ after d s y.0
moves d s None y h = absurd (not_fed _ y h)
moves d s (Some e) y h = elim (chosen (says d s e) _ _ _ h) [
  | inl k ↦ subst (λ (x : Event × State). x.1 ≡ after d s x.0) (good_is (e, after d s e) y k.1) refl
  | inr k ↦ absurd (not_fed _ y k.1)
]

-- a line that is read moves the reader
record Moved (r : ReaderForm) (line : List ℕ) (e : Event) (q : ReaderForm) : Type 0 where
  fed : fed r.spec r.state (parts line) ≡ Ok (e, q.state)
  state : q.state ≡ after r.spec r.state e
  spec : q.spec ≡ r.spec
  number : q.number ≡ suc r.number
  budget : q.budget ≡ stated (budget_of e) r.budget

moved_on : (r : ReaderForm) (line : List ℕ) (z : Result (Event × State) ReportKind) (x : Event × ReaderForm) → fed r.spec r.state (parts line) ≡ z → read_on r z ≡ Ok x → Moved r line x.0 x.1
moved_on r line (Err k) x g h = absurd (not_ok _ x h)
moved_on r line (Ok y) x g h =
    let next : ReaderForm = record { spec = r.spec; state = y.1; number = suc r.number; budget = stated (budget_of y.0) r.budget; fault = None } in
    subst (λ (z : Event × ReaderForm). Moved r line z.0 z.1) (fine_is (y.0, next) x h) (record { fed = g; state = moves r.spec r.state (read (line_at r.spec r.state) (parts line)) y g; spec = refl; number = refl; budget = refl })

moved_behind : (r : ReaderForm) (line : List ℕ) (o : Option Fault) (x : Event × ReaderForm) → read_behind r (parts line) o ≡ Ok x → Moved r line x.0 x.1
moved_behind r line None x h = moved_on r line (fed r.spec r.state (parts line)) x refl h
moved_behind r line (Some f) x h = absurd (not_ok f x h)

moved : (r : ReaderForm) (line : List ℕ) (x : Event × ReaderForm) → read_line r line ≡ Ok x → Moved r line x.0 x.1
moved r line x h = moved_behind r line r.fault x h

abbrev IsForgotten : ReaderForm → Kept → List (List ℕ) → Type 0
IsForgotten r k lines = read_lines r lines ≡ (read_kept r k lines >>= λ x. Ok x.0)

forgotten_behind : (r : ReaderForm) (k : Kept) (lines : List (List ℕ)) (z : Result (Event × ReaderForm) Fault) → ((x : Event × ReaderForm) → IsForgotten x.1 (keep (suc r.number) r.state x.0 k) lines)
    → (z >>= λ x. read_lines x.1 lines) ≡ ((z >>= λ x. read_kept x.1 (keep (suc r.number) r.state x.0 k) lines) >>= λ y. Ok y.0)
forgotten_behind r k lines (Ok x) h = h x
forgotten_behind r k lines (Err f) h = refl

-- what is kept doesn't change what is read
forgotten : (r : ReaderForm) (k : Kept) (lines : List (List ℕ)) → IsForgotten r k lines
unfolding read_lines read_kept
forgotten r k [] = refl
forgotten r k (line ∷ lines) = forgotten_behind r k lines (read_line r line) (λ x. forgotten x.1 (keep (suc r.number) r.state x.0 k) lines)

-- what lines say that are read to the end
record Followed (r : ReaderForm) (k : Kept) (lines : List (List ℕ)) (x : ReaderForm × Kept) : Type 0 where
  said : List Event
  fed : fed_all r.spec r.state (map parts lines) ≡ Ok (said, x.0.state)
  kept : keep_all r.spec r.number r.state k said ≡ (x.0.state, x.1)
  budget : x.0.budget ≡ x.1.budget

followed : (lines : List (List ℕ)) (r : ReaderForm) (k : Kept) (x : ReaderForm × Kept) → read_kept r k lines ≡ Ok x → r.budget ≡ k.budget → Followed r k lines x
unfolding read_kept keep_all fed_all
followed [] r k x h b = subst (λ (z : ReaderForm × Kept). Followed r k [] z) (fine_is (r, k) x h) (record { said = []; fed = refl; kept = refl; budget = b })
followed (line ∷ lines) r k x h b =
    let y = bind_ok (read_line r line) (λ (x : Event × ReaderForm). read_kept x.1 (keep (suc r.number) r.state x.0 k) lines) x h in
    let e = y.0.0 in
    let q = y.0.1 in
    let m = moved r line y.0 y.1 in
    let f = followed lines q (keep (suc r.number) r.state e k) x y.2 (m.budget ∙ ap (stated (budget_of e)) b) in
    let rest : fed_all r.spec q.state (map parts lines) ≡ Ok (f.said, x.0.state) = subst (λ (d : Specification). fed_all d q.state (map parts lines) ≡ Ok (f.said, x.0.state)) m.spec f.fed in
    let one = m.fed in
    record {
      said = e ∷ f.said;
      fed = rw one (rw rest refl);
      kept = (λ i. keep_all (sym m.spec i) (sym m.number i) (sym m.state i) (keep (suc r.number) r.state e k) f.said) ∙ f.kept;
      budget = f.budget;
    }

-- ---- a whole report

no_fault : (r : ReaderForm) (over : Bool) (o : Option Fault) → end_fault r over o ≡ None → over ≡ true
no_fault r true o h = refl
no_fault r false None h = absurd cc
no_fault r false (Some f) h = absurd cc

abbrev read_report : ReaderForm → Collected → Report
read_report q c = record { version = q.state.version; budget = budget_in q.budget; blocks = c.blocks }

pub report_is_read : (d : Specification) (bytes : List ℕ) (q : ReaderForm) (k : Kept) (c : Collected) → is_specification d ≡ true → read_kept (first_reader d) nothing_kept (lines_of bytes) ≡ Ok (q, k) → unended bytes ≡ [] → fault_at_end q ≡ None → Holds d k c
    → (r : ReportForm) × (is_report d r ≡ true) × (bytes ≡ report_bytes d r) × IsReport d r (read_report q c)
report_is_read d bytes q k c ok h over end holds =
    let f = followed (lines_of bytes) (first_reader d) nothing_kept (q, k) h refl in
    let at_end : is_over q.state.place ≡ true = no_fault q (is_over q.state.place) q.fault end in
    let t = bytes_are_text d bytes f.said ok over (q.state, f.fed, at_end) in
    let a = all_ok d start (map parts (lines_of bytes)) f.said q.state ok f.fed at_end in
    let s = admitted_is_report d f.said a.1 in
    let r = report_of f.said in
    let same : keep_all d 0 start nothing_kept (report_lines d r) ≡ (q.state, k) = ap (keep_all d 0 start nothing_kept) (sym s.0) ∙ f.kept in
    let all = subst (λ (x : State × Kept). AllKept r.version (blocks_of r) (Some r.budget) x) same (report_kept d r t.1) in
    let budget : q.budget ≡ Some r.budget = f.budget ∙ all.budget in
    (r, t.1, t.0, record { version = all.version; budget = ap budget_in budget; blocks = subst (λ (fs : List BlockForm). AreBlocks d fs c.blocks) all.blocks holds.blocks })

-- ---- the reader of lines

-- behind some of the lines
abbrev pub Onward : ReaderForm → Kept → List ℕ → ReaderForm → Collected → List ℕ → Type 0
Onward r k bytes q c rest = (l : Kept) × Holds q.spec l c × (read_kept r k (lines_of bytes) ≡ read_kept q l (lines_of rest)) × (unended bytes ≡ unended rest) × (q.spec ≡ r.spec)

pub onward_more : (r : ReaderForm) (k : Kept) (bytes : List ℕ) (q : ReaderForm) (c : Collected) (rest line behind : List ℕ) (p : ReaderForm) (e : Collected)
    → Onward r k bytes q c rest → pieces rest ≡ line ∷ pieces behind → IsTaken q c line p e (Ok tt) → Onward r k bytes p e behind
unfolding read_kept
onward_more r k bytes q c rest line behind p e o cut t =
    let m = front_more line (pieces behind) (pieces_some behind) in
    let lines : lines_of rest ≡ line ∷ lines_of behind = ap before_last cut ∙ m.0 in
    let l = keep (suc q.number) q.state t.0 o.0 in
    let one = t.2 in
    let on : read_kept q o.0 (line ∷ lines_of behind) ≡ read_kept p l (lines_of behind) = rw one refl in
    let spec = (moved q line (t.0, p) t.2).spec in
    let holds : Holds q.spec l e = subst (λ (x : Collected). Holds q.spec l x) (sym t.4) (holds_on q.spec (suc q.number) q.state t.0 t.1 o.0 c t.3 o.1) in
    (l, subst (λ (d : Specification). Holds d l e) (sym spec) holds, o.2 ∙ ap (read_kept q o.0) lines ∙ on, o.3 ∙ ap last_of cut ∙ m.1, spec ∙ o.4)

pub onward_refused : (r : ReaderForm) (k : Kept) (bytes : List ℕ) (q : ReaderForm) (c : Collected) (rest line behind : List ℕ) (f : Fault)
    → Onward r k bytes q c rest → pieces rest ≡ line ∷ pieces behind → read_line q line ≡ Err f → read_lines r (lines_of bytes) ≡ Err f
unfolding read_kept
onward_refused r k bytes q c rest line behind f o cut t =
    let m = front_more line (pieces behind) (pieces_some behind) in
    let lines : lines_of rest ≡ line ∷ lines_of behind = ap before_last cut ∙ m.0 in
    let on : read_kept q o.0 (line ∷ lines_of behind) ≡ Err f = rw t refl in
    forgotten r k (lines_of bytes) ∙ ap (λ (z : Result (ReaderForm × Kept) Fault). z >>= λ x. Ok x.0) (o.2 ∙ ap (read_kept q o.0) lines ∙ on)

pub onward_end : (r : ReaderForm) (k : Kept) (bytes : List ℕ) (q : ReaderForm) (c : Collected) (rest : List ℕ) → Onward r k bytes q c rest → pieces rest ≡ rest ∷ [] → AreTaken r k bytes q c rest
unfolding read_kept
onward_end r k bytes q c rest o cut = (o.0, o.1, o.2 ∙ ap (read_kept q o.0) (ap before_last cut), o.3 ∙ ap last_of cut, o.4)

pub refused_there : (r : ReaderForm) (k : Kept) (bytes : List ℕ) (q : ReaderForm) (c : Collected) (rest line behind : List ℕ) (p : ReaderForm) (e : Collected) (error : ReportRefused)
    → Onward r k bytes q c rest → pieces rest ≡ line ∷ pieces behind → IsTaken q c line p e (Err error) → IsRefused r bytes error
refused_there r k bytes q c rest line behind p e (refused.Line n x) o cut t = onward_refused r k bytes q c rest line behind (record { number = n; kind = x }) o cut t
refused_there r k bytes q c rest line behind p e refused.Memory o cut t = tt

pub onward_over : (r : ReaderForm) (k : Kept) (bytes : List ℕ) (q : ReaderForm) (c : Collected) (rest : List ℕ) (taken : ℕ) → Onward r k bytes q c rest → length rest + taken ≤ length bytes → length bytes ≤ taken → AreTaken r k bytes q c rest
onward_over r k bytes q c rest taken o few all = onward_end r k bytes q c rest o (no_bytes rest (omega (arith, few, all)))

-- ---- what is answered

-- behind all lines, a fault at the end is the first one
fault_is_first : (d : Specification) (bytes : List ℕ) (q : ReaderForm) (k : Kept) (rest : List ℕ) (o : Option Fault) → read_kept (first_reader d) nothing_kept (lines_of bytes) ≡ Ok (q, k) → unended bytes ≡ rest → fault_behind (Ok q) rest ≡ o → first_fault d bytes ≡ o
fault_is_first d bytes q k rest o h e f =
    let lines : read_lines (first_reader d) (lines_of bytes) ≡ Ok q = forgotten (first_reader d) nothing_kept (lines_of bytes) ∙ ap (λ (z : Result (ReaderForm × Kept) Fault). z >>= λ x. Ok x.0) h in
    (λ i. fault_behind (lines i) (e i)) ∙ f

taken_first : (d : Specification) (r : ReaderForm) (bytes : List ℕ) (q : ReaderForm) (c : Collected) (rest : List ℕ) → r ≡ first_reader d → AreTaken r nothing_kept bytes q c rest → AreTaken (first_reader d) nothing_kept bytes q c rest
taken_first d r bytes q c rest e t = subst (λ (x : ReaderForm). AreTaken x nothing_kept bytes q c rest) e t

pub end_refused : (d : Specification) (r : ReaderForm) (bytes : List ℕ) (q : ReaderForm) (c : Collected) (rest : List ℕ) (error : ReportRefused) → r ≡ first_reader d → AreTaken r nothing_kept bytes q c rest → IsEnded q rest (Err error) → IsRead d bytes (Err error)
end_refused d r bytes q c rest (refused.Line n x) e t h = let a = taken_first d r bytes q c rest e t in fault_is_first d bytes q a.0 rest (Some (record { number = n; kind = x })) a.2 a.3 h
end_refused d r bytes q c rest refused.Memory e t h = tt

pub lines_refused : (d : Specification) (r : ReaderForm) (bytes : List ℕ) (error : ReportRefused) → r ≡ first_reader d → IsRefused r bytes error → IsRead d bytes (Err error)
lines_refused d r bytes (refused.Line n x) e h = ap (λ (z : Result ReaderForm Fault). fault_behind z (unended bytes)) (ap (λ (y : ReaderForm). read_lines y (lines_of bytes)) (sym e) ∙ h)
lines_refused d r bytes refused.Memory e h = tt

no_rest : (q : ReaderForm) (rest : List ℕ) → fault_behind (Ok q) rest ≡ None → (rest ≡ []) × (fault_at_end q ≡ None)
no_rest q [] h = (refl, h)
no_rest q (b ∷ bs) h = absurd cc

pub read_done : (d : Specification) (r : ReaderForm) (bytes : List ℕ) (q : ReaderForm) (c : Collected) (rest : List ℕ) (version budget : ℕ) → is_specification d ≡ true → r ≡ first_reader d → AreTaken r nothing_kept bytes q c rest → IsEnded q rest (Ok tt)
    → version ≡ q.state.version → budget ≡ budget_in q.budget → IsRead d bytes (Ok (record { version = version; budget = budget; blocks = c.blocks }))
read_done d r bytes q c rest version budget ok e t h v b =
    let a = taken_first d r bytes q c rest e t in
    let n = no_rest q rest h in
    let holds : Holds d a.0 c = subst (λ (x : Specification). Holds x a.0 c) a.4 a.1 in
    let x = report_is_read d bytes q a.0 c ok a.2 (a.3 ∙ n.0) n.1 holds in
    (x.0, x.1, x.2, record { version = v ∙ x.3.version; budget = b ∙ x.3.budget; blocks = x.3.blocks })

pub are_read : (r : ReaderForm) (bytes : List ℕ) (q : ReaderForm) (c : Collected) (rest : List ℕ) (version budget : ℕ) → AreTaken r nothing_kept bytes q c rest → IsEnded q rest (Ok tt)
    → version ≡ q.state.version → budget ≡ budget_in q.budget → AreRead r bytes c version budget
are_read r bytes q c rest version budget t h v b = λ d ok e. read_done d r bytes q c rest version budget ok e t h v b

pub faulty_end : (r : ReaderForm) (bytes : List ℕ) (q : ReaderForm) (c : Collected) (rest : List ℕ) (error : ReportRefused) → AreTaken r nothing_kept bytes q c rest → IsEnded q rest (Err error) → IsFaulty r bytes error
faulty_end r bytes q c rest error t h = λ d e. end_refused d r bytes q c rest error e t h

pub faulty_lines : (r : ReaderForm) (bytes : List ℕ) (error : ReportRefused) → IsRefused r bytes error → IsFaulty r bytes error
faulty_lines r bytes error h = λ d e. lines_refused d r bytes error e h
