-- What a verifier answers behind the lines of bytes.
use Rattle.std.proofs.Common.{◌≡◌, ℕ, suc, Bool, true, false, ◌≤◌, List, [], ◌∷◌, map, length, Option, Some, None, Result, Ok, Err, inl, inr, refl, sym, ap, subst, ◌∙◌, arith}
use Rattle.spec_core.specs.Specification.{Specification}
use Rattle.spec_core.specs.Typed.{is_specification}
use Rattle.report_lines.specs.declared.head.Tally.{Tally}
use Rattle.report_lines.specs.Words.{parts}
use Rattle.report_lines.specs.Formats.{read}
use Rattle.report_lines.proofs.Exact.{chosen}
use Rattle.proof_report.specs.declared.event.Event.{Event}
use Rattle.proof_report.specs.declared.kind.Fault.{Fault}
use Rattle.proof_report.specs.declared.kind.ReportKind.{ReportKind}
use Rattle.proof_report.specs.declared.kind.ReportKind.TheVariants as kinds
use Rattle.proof_report.specs.declared.place.State.{State}
use Rattle.proof_report.specs.declared.verdict.Fed.{Fed}
use Rattle.proof_report.specs.Verdicts.{ReportForm}
use Rattle.proof_report.specs.Events.{report_lines}
use Rattle.proof_report.specs.Feeding.{line_at, says, judged, after, fed, fed_all, start, is_over}
use Rattle.proof_report.specs.Gathering.{report_of}
use Rattle.report_verifier.specs.Taking.{taken_as, IsTold}
use Rattle.report_verifier.proofs.Taken.{taken_same}
use Rattle.report_reader.specs.Reader.{Tells, IsAnswered, log_of_event, budget_of, stated, ReaderForm, read_on, read_behind, read_line, first_reader, fault_at_end, end_fault}
use Rattle.std.proofs.lemmas.Option.{none-some, same_Some}
use Rattle.proof_lines.specs.declared.line.Line.{Line}
use Rattle.proof_lines.specs.declared.line.Line.TheVariants.{Resolve}
use Rattle.report_lines.specs.Logs.{line_format}
use Rattle.proof_report.specs.declared.event.Event.TheVariants as events
use Rattle.proof_report.specs.Events.{words}
use Rattle.proof_report.proofs.Lines.{line_ok}
use Rattle.report_reader.specs.declared.resolving.ResolveLine.{ResolveLine}
use Rattle.report_reader.specs.Resolving.{resolve_told}
use Rattle.proof_report.proofs.Whole.{all_ok}
use Rattle.proof_report.proofs.Sound.{admitted_is_report}
use Rattle.report_bytes.specs.Bytes.{lines_of, unended}
use Rattle.report_bytes.specs.Reading.{◌>>=◌, read_lines, fault_behind, first_fault}
use Rattle.report_bytes.specs.Collecting.{budget_in}
use Rattle.report_bytes.proofs.BytesOfReports.{bytes_are_text}
use Rattle.report_verifier.specs.declared.judgement.Judgement.{Judgement}
use Rattle.report_verifier.specs.declared.refused.VerifyRefused.{VerifyRefused}
use Rattle.report_verifier.specs.declared.refused.VerifyRefused.TheVariants as refused
use Rattle.report_verifier.specs.Rules.{fault_at, or_else, verdict_fault}
use Rattle.report_verifier.specs.Verified.{most_report_bytes, tally_of, AreBytesOf, IsFaultOf, IsVerified}
use Rattle.report_verifier.specs.Verifier.{no_judgement, judge, VerifierForm, first_verifier, behind, next_verifier, verifier_after, IsTaken, IsFinished, unended_fault, IsCutOff, judge_all}
use Rattle.report_verifier.proofs.Blocks.{AllJudged, report_is_judged}

not_ok : {A : Type 0} (f : Fault) (y : A) → ◌≡◌ {A = Result A Fault} (Err f) (Ok y) → ⊥
not_ok f y e = cc

not_fed : {A : Type 0} (k : ReportKind) (y : A) → ◌≡◌ {A = Result A ReportKind} (Err k) (Ok y) → ⊥
not_fed k y e = cc

abbrev fine : {A : Type 0} → A → Result A Fault
fine x = Ok x

fine_is : {A : Type 0} (x y : A) → fine x ≡ fine y → x ≡ y
fine_is x y e = cc

bind_ok : {A B : Type 0} (r : Result A Fault) (f : A → Result B Fault) (y : B) → (r >>= f) ≡ Ok y → (x : A) × (r ≡ Ok x) × (f x ≡ Ok y)
bind_ok (Ok x) f y e = (x, refl, e)
bind_ok (Err k) f y e = absurd (not_ok k y e)

abbrev good : {A : Type 0} → A → Result A ReportKind
good x = Ok x

good_is : {A : Type 0} (x y : A) → good x ≡ good y → x ≡ y
good_is x y e = cc

moves : (d : Specification) (s : State) (o : Option Event) (y : Event × State) → judged d s o ≡ Ok y → y.1 ≡ after d s y.0
moves d s None y h = absurd (not_fed _ y h)
moves d s (Some e) y h = elim (chosen (says d s e) _ _ _ h) [
  | inl k ↦ subst (λ (x : Event × State). x.1 ≡ after d s x.0) (good_is (e, after d s e) y k.1) refl
  | inr k ↦ absurd (not_fed _ y k.1)
]

-- a line that is read moves the reader
record Moved (r : ReaderForm) (line : List ℕ) (e : Event) (q : ReaderForm) : Type 0 where
  fed : fed r.spec r.state (parts line) ≡ Ok (e, q.state)
  state : q.state ≡ after r.spec r.state e
  spec : q.spec ≡ r.spec
  number : q.number ≡ suc r.number
  budget : q.budget ≡ stated (budget_of e) r.budget

moved_on : (r : ReaderForm) (line : List ℕ) (z : Result (Event × State) ReportKind) (x : Event × ReaderForm) → fed r.spec r.state (parts line) ≡ z → read_on r z ≡ Ok x → Moved r line x.0 x.1
moved_on r line (Err k) x g h = absurd (not_ok _ x h)
moved_on r line (Ok y) x g h =
    let next : ReaderForm = record { spec = r.spec; state = y.1; number = suc r.number; budget = stated (budget_of y.0) r.budget; fault = None } in
    subst (λ (z : Event × ReaderForm). Moved r line z.0 z.1) (fine_is (y.0, next) x h) (record { fed = g; state = moves r.spec r.state (read (line_at r.spec r.state) (parts line)) y g; spec = refl; number = refl; budget = refl })

moved_behind : (r : ReaderForm) (line : List ℕ) (o : Option Fault) (x : Event × ReaderForm) → read_behind r (parts line) o ≡ Ok x → Moved r line x.0 x.1
moved_behind r line None x h = moved_on r line (fed r.spec r.state (parts line)) x refl h
moved_behind r line (Some f) x h = absurd (not_ok f x h)

moved : (r : ReaderForm) (line : List ℕ) (x : Event × ReaderForm) → read_line r line ≡ Ok x → Moved r line x.0 x.1
moved r line x h = moved_behind r line r.fault x h

-- the words of a line are those of what it says
words_read : (d : Specification) (s : State) (ws : List (List ℕ)) (x : Event × State) → is_specification d ≡ true → (z : Option Event) → read (line_at d s) ws ≡ z → judged d s z ≡ Ok x → ws ≡ words d x.0
words_read d s ws x ok None r h = absurd (not_fed _ x h)
words_read d s ws x ok (Some e) r h = elim (chosen (says d s e) _ _ _ h) [
  | inl k ↦ (line_ok d s ws e ok r).0 ∙ ap (λ (y : Event × State). words d y.0) (good_is (e, after d s e) x k.1)
  | inr k ↦ absurd (not_fed _ x k.1)
]

log_words : (d : Specification) (e : Event) (l : Line) → log_of_event e ≡ Some l → words d e ≡ line_format.put l
log_words d (events.Log k) l h = ap line_format.put (same_Some _ _ h)
log_words d _ l h = absurd (none-some _ h)

-- a line that resolves two clauses, of which a reader tells
pub resolve_words : (r : ReaderForm) (text : List ℕ) (q : ReaderForm) (l : ResolveLine) → is_specification r.spec ≡ true → IsAnswered r text q (Ok (resolve_told l)) → parts text ≡ line_format.put (Resolve l.left l.right l.pivot)
resolve_words r text q l ok (e, h, t) =
    let m = moved r text (e, q) h in
    words_read r.spec r.state (parts text) (e, q.state) ok (read (line_at r.spec r.state) (parts text)) refl m.fed ∙ log_words r.spec e (Resolve l.left l.right l.pivot) (sym t.log)

-- the specification stays
pub spec_stays : (v : VerifierForm) (line : List ℕ) → (next_verifier v line).reader.spec ≡ v.reader.spec
spec_stays v line = by_answer (read_line v.reader line) refl
  where
    by_answer : (z : Result (Event × ReaderForm) Fault) → read_line v.reader line ≡ z → (behind v z).reader.spec ≡ v.reader.spec
    by_answer (Ok x) e = (moved v.reader line x e).spec
    by_answer (Err f) e = refl

-- what was taken of what a reader tells of a line
pub told_taken : (v : VerifierForm) (text : List ℕ) (q : ReaderForm) (e : Event) (f : Fed) (w : VerifierForm) → read_line v.reader text ≡ Ok (e, q) → Tells v.reader.spec v.reader.state e f
    → w ≡ record { reader = q; judgement = taken_as q.spec (budget_in q.budget) q.number f v.judgement; failed = false } → w ≡ next_verifier v text
told_taken v text q e f w h t k =
    let m = moved v.reader text (e, q) h in
    let same : taken_as q.spec (budget_in q.budget) q.number f v.judgement ≡ judge v.reader.spec (budget_in q.budget) q.number v.reader.state e v.judgement =
    ap (λ (d : Specification). taken_as d (budget_in q.budget) q.number f v.judgement) m.spec ∙ taken_same v.reader.spec (budget_in q.budget) q.number v.reader.state e f v.judgement t in
    k ∙ (λ i. record { reader = q; judgement = same i; failed = false }) ∙ sym (ap (behind v) h)

-- what is answered to a line that a reader takes
pub fed_so : {E : Type 0} (v : VerifierForm) (r q : ReaderForm) (j : Judgement) (b : Bool) (text : List ℕ) (f : Fed) (w : VerifierForm) (x : Result (Unit {0}) E) → ◌≡◌ {A = VerifierForm} (record { reader = r; judgement = j; failed = b }) v → b ≡ false
    → IsAnswered r text q (Ok f) → IsTold (record { reader = q; judgement = j; failed = b }) f w x → IsTaken v text w x
fed_so v r q j b text f w (Ok y) view works a t =
    subst (λ (z : VerifierForm). (z.failed ≡ false) × (w ≡ next_verifier z text)) view (works, told_taken (record { reader = r; judgement = j; failed = b }) text q a.0 f w a.1 a.2 t)
fed_so v r q j b text f w (Err y) view works a t = t

pub read_spec : (r : ReaderForm) (text : List ℕ) (q : ReaderForm) (e : Event) → read_line r text ≡ Ok (e, q) → q.spec ≡ r.spec
read_spec r text q e h = (moved r text (e, q) h).spec

-- ---- many lines

-- what the lines say, and what is kept of them
record Followed (r : ReaderForm) (j : Judgement) (lines : List (List ℕ)) (q : ReaderForm) (w : VerifierForm) : Type 0 where
  said : List Event
  reader : w.reader ≡ q
  failed : w.failed ≡ false
  fed : fed_all r.spec r.state (map parts lines) ≡ Ok (said, q.state)
  kept : judge_all r.spec r.budget r.number r.state j said ≡ (q.state, w.judgement)

followed : (lines : List (List ℕ)) (r : ReaderForm) (j : Judgement) (q : ReaderForm) → read_lines r lines ≡ Ok q → Followed r j lines q (verifier_after (record { reader = r; judgement = j; failed = false }) lines)
unfolding read_lines verifier_after judge_all fed_all
followed [] r j q h = record { said = []; reader = fine_is r q h; failed = refl; fed = ap (λ (x : ReaderForm). Ok ([], x.state)) (fine_is r q h); kept = ap (λ (x : ReaderForm). (x.state, j)) (fine_is r q h) }
followed (line ∷ lines) r j q h =
    let c = bind_ok (read_line r line) (λ (x : Event × ReaderForm). read_lines x.1 lines) q h in
    let x = c.0 in
    let m = moved r line x c.1 in
    let v : VerifierForm = record { reader = r; judgement = j; failed = false } in
    let i : Judgement = judge r.spec (budget_in x.1.budget) x.1.number r.state x.0 j in
    let f = followed lines x.1 i q c.2 in
    let rest : fed_all r.spec x.1.state (map parts lines) ≡ Ok (f.said, q.state) = subst (λ (d : Specification). fed_all d x.1.state (map parts lines) ≡ Ok (f.said, q.state)) m.spec f.fed in
    let one = m.fed in
    let same : judge r.spec (budget_in (stated (budget_of x.0) r.budget)) (suc r.number) r.state x.0 j ≡ i = λ k. judge r.spec (budget_in (sym m.budget k)) (sym m.number k) r.state x.0 j in
    let all : Followed r j (line ∷ lines) q (verifier_after (behind v (Ok x)) lines) = record {
      said = x.0 ∷ f.said;
      reader = f.reader;
      failed = f.failed;
      fed = rw one (rw rest refl);
      kept = (λ k. judge_all (sym m.spec k) (sym m.budget k) (sym m.number k) (sym m.state k) (same k) f.said) ∙ f.kept;
    } in
    subst (λ (z : Result (Event × ReaderForm) Fault). Followed r j (line ∷ lines) q (verifier_after (behind v z) lines)) (sym c.1) all

-- a fault of the text stays
faulty : (lines : List (List ℕ)) (v : VerifierForm) (f : Fault) → v.reader.fault ≡ Some f → v.failed ≡ false → ((verifier_after v lines).reader.fault ≡ Some f) × ((verifier_after v lines).failed ≡ false)
unfolding verifier_after
faulty [] v f e g = (e, g)
faulty (line ∷ lines) v f e g =
    let one : read_line v.reader line ≡ Err f = ap (read_behind v.reader (parts line)) e in
    let next : next_verifier v line ≡ behind v (Err f) = ap (behind v) one in
    let w : VerifierForm = behind v (Err f) in
    let r = faulty lines w f refl refl in
    (ap (λ (x : VerifierForm). (verifier_after x lines).reader.fault) next ∙ r.0, ap (λ (x : VerifierForm). (verifier_after x lines).failed) next ∙ r.1)

abbrev Stays : List (List ℕ) → Fault → VerifierForm → Type 0
Stays lines f w = ((verifier_after w lines).reader.fault ≡ Some f) × ((verifier_after w lines).failed ≡ false)

refused_at : (lines : List (List ℕ)) (r : ReaderForm) (j : Judgement) (f : Fault) → read_lines r lines ≡ Err f
    → ((verifier_after (record { reader = r; judgement = j; failed = false }) lines).reader.fault ≡ Some f) × ((verifier_after (record { reader = r; judgement = j; failed = false }) lines).failed ≡ false)
unfolding read_lines verifier_after
refused_at [] r j f h = absurd cc
refused_at (line ∷ lines) r j f h = by_answer (λ x i k. refused_at lines x i f k) (read_line r line) h
  where
    same : (f g : Fault) → ◌≡◌ {A = Result ReaderForm Fault} (Err g) (Err f) → g ≡ f
    same f g e = cc

    by_answer : ((x : ReaderForm) (i : Judgement) → read_lines x lines ≡ Err f → Stays lines f (record { reader = x; judgement = i; failed = false })) → (z : Result (Event × ReaderForm) Fault) → (z >>= λ x. read_lines x.1 lines) ≡ Err f
        → Stays lines f (behind (record { reader = r; judgement = j; failed = false }) z)
    by_answer more_of (Ok x) h = more_of x.1 (judge r.spec (budget_in x.1.budget) x.1.number r.state x.0 j) h
    by_answer more_of (Err g) h = faulty lines (behind (record { reader = r; judgement = j; failed = false }) (Err g)) f (ap (λ (y : Fault). Some y) (same f g h)) refl

no_line_fault : (r : ReaderForm) (z : Result (Event × State) ReportKind) (x : Event × ReaderForm) → read_on r z ≡ Ok x → x.1.fault ≡ None
no_line_fault r (Ok y) x g =
    let next : ReaderForm = record { spec = r.spec; state = y.1; number = suc r.number; budget = stated (budget_of y.0) r.budget; fault = None } in
    ap (λ (w : Event × ReaderForm). w.1.fault) (sym (fine_is (y.0, next) x g))
no_line_fault r (Err k) x g = absurd (not_ok _ x g)

-- a reader that has no fault has none behind lines that are read
no_reader_fault : (lines : List (List ℕ)) (r q : ReaderForm) → r.fault ≡ None → read_lines r lines ≡ Ok q → q.fault ≡ None
unfolding read_lines
no_reader_fault [] r q e h = ap (λ (x : ReaderForm). x.fault) (sym (fine_is r q h)) ∙ e
no_reader_fault (line ∷ lines) r q e h =
    let c = bind_ok (read_line r line) (λ (x : Event × ReaderForm). read_lines x.1 lines) q h in
    no_reader_fault lines c.0.1 q (no_line_fault r (fed r.spec r.state (parts line)) c.0 (sym (ap (read_behind r (parts line)) e) ∙ c.1)) c.2

-- ---- the end of the lines

no_fault : (r : ReaderForm) (over : Bool) (o : Option Fault) → end_fault r over o ≡ None → over ≡ true
no_fault r true o h = refl
no_fault r false None h = absurd cc
no_fault r false (Some f) h = absurd cc

some_is : (f g : Fault) → ◌≡◌ {A = Option Fault} (Some f) (Some g) → f ≡ g
some_is f g e = cc

none_some : (f : Fault) → ◌≡◌ {A = Option Fault} None (Some f) → ⊥
none_some f e = cc

some_none : (f : Fault) → ◌≡◌ {A = Option Fault} (Some f) None → ⊥
some_none f e = cc

-- a line that isn't counted has a fault, and so has the text behind any more
pub uncounted : (v : VerifierForm) (line : List ℕ) (u : VerifierForm) (lines : List (List ℕ)) (w : VerifierForm) → u ≡ next_verifier v line → u.reader.number ≡ v.reader.number → verifier_after u lines ≡ w → w.reader.fault ≡ None → ⊥
uncounted v line u lines w e same after none =
    by_answer (read_line v.reader line) refl (ap (λ (x : VerifierForm). x.reader.number) (sym e) ∙ same)
    (ap (λ (x : VerifierForm). (verifier_after x lines).reader.fault) (sym e) ∙ ap (λ (x : VerifierForm). x.reader.fault) after ∙ none)
  where
    by_answer : (z : Result (Event × ReaderForm) Fault) → read_line v.reader line ≡ z → (behind v z).reader.number ≡ v.reader.number → (verifier_after (behind v z) lines).reader.fault ≡ None → ⊥
    by_answer (Ok x) h same none =
        let one = (moved v.reader line x h).number in
        absurd (omega (arith, one, same))
    by_answer (Err f) h same none = some_none f ((sym (faulty lines (behind v (Err f)) f refl refl).0) ∙ none)

module _ (d : Specification) (bytes : List ℕ) (ok : is_specification d ≡ true) where
  abbrev pub last : VerifierForm
  last = verifier_after (first_verifier d) (lines_of bytes)

  -- lines that are read to the end are those of a report, whose verdicts were judged
  record Whole : Type 0 where
    report : ReportForm
    bytes_of : AreBytesOf d bytes report
    tally : last.judgement.tally ≡ tally_of report.verdicts
    fault : last.judgement.fault ≡ verdict_fault d report

  whole : (q : ReaderForm) → read_lines (first_reader d) (lines_of bytes) ≡ Ok q → unended bytes ≡ [] → fault_at_end q ≡ None → Whole
  unfolding verifier_after
  whole q h over end =
      let f = followed (lines_of bytes) (first_reader d) no_judgement q h in
      let at_end : is_over q.state.place ≡ true = no_fault q (is_over q.state.place) q.fault end in
      let t = bytes_are_text d bytes f.said ok over (q.state, f.fed, at_end) in
      let a = all_ok d start (map parts (lines_of bytes)) f.said q.state ok f.fed at_end in
      let s = admitted_is_report d f.said a.1 in
      let r = report_of f.said in
      let same : judge_all d None 0 start no_judgement (report_lines d r) ≡ (q.state, last.judgement) = ap (judge_all d None 0 start no_judgement) (sym s.0) ∙ f.kept in
      let all = subst (λ (x : State × Judgement). AllJudged (tally_of r.verdicts) (verdict_fault d r) x) same (report_is_judged d r t.1) in
      record { report = r; bytes_of = record { can_stand = t.1; same = t.0 }; tally = all.tally_is; fault = all.fault_is }

  -- what is wrong at the end, where nothing stands behind the last line
  at_end : (o : Option Fault) → unended bytes ≡ [] → fault_at_end last.reader ≡ o → (first_fault d bytes ≡ o) × (o ≡ None → Whole)
  unfolding verifier_after
  at_end o over e = by_lines (read_lines (first_reader d) (lines_of bytes)) refl
    where
      by_lines : (z : Result ReaderForm Fault) → read_lines (first_reader d) (lines_of bytes) ≡ z → (first_fault d bytes ≡ o) × (o ≡ None → Whole)
      by_lines (Ok q) h =
          let f = followed (lines_of bytes) (first_reader d) no_judgement q h in
          let same : fault_at_end q ≡ o = ap fault_at_end (sym f.reader) ∙ e in
          ((λ i. fault_behind (h i) (over i)) ∙ same, λ n. whole q h over (same ∙ n))
      by_lines (Err g) h =
          let r = refused_at (lines_of bytes) (first_reader d) no_judgement g h in
          let same : Some g ≡ o = sym (ap (end_fault last.reader (is_over last.reader.state.place)) r.0) ∙ e in
          ((λ i. fault_behind (h i) (over i)) ∙ same, λ n. absurd (some_none g (same ∙ n)))

  by_final : (o : Option Fault) (p : Option Fault) → fault_at_end last.reader ≡ o → unended bytes ≡ [] → last.judgement.fault ≡ p
      → ((f : Fault) → or_else o p ≡ Some f → IsFaultOf d bytes f) × (or_else o p ≡ None → Whole × (p ≡ None))
  by_final (Some g) p e over q = ((λ f h. inl ((at_end (Some g) over e).0 ∙ h)), λ h. absurd (some_none g h))
  by_final None p e over q =
      let w = (at_end None over e).1 refl in
      ((λ f h. inr (w.report, w.bytes_of, sym w.fault ∙ q ∙ h)), λ h. (w, h))

  -- so what is finished is what is answered to the bytes
  pub finished : (result : Result Tally VerifyRefused) → length bytes ≤ most_report_bytes → unended bytes ≡ [] → IsFinished last result → IsVerified d bytes result
  finished (Ok t) few over h =
      let r = (by_final (fault_at_end last.reader) last.judgement.fault refl over refl).1 h.1 in
      (few, record { report = r.0.report; bytes_of = r.0.bytes_of; sound = sym r.0.fault ∙ r.1; counts = h.2 ∙ r.0.tally })
  finished (Err (refused.Line n k)) few over h = (few, (by_final (fault_at_end last.reader) last.judgement.fault refl over refl).0 (record { number = n; kind = k }) h.1)
  finished (Err refused.Long) few over h = absurd h
  finished (Err refused.Fault) few over h = absurd h
  finished (Err refused.Memory) few over h = tt

  -- where bytes stand behind the last line
  cut_fault : (b : ℕ) (bs : List ℕ) → unended bytes ≡ b ∷ bs → first_fault d bytes ≡ unended_fault last
  unfolding verifier_after
  cut_fault b bs over = by_lines (read_lines (first_reader d) (lines_of bytes)) refl
    where
      by_lines : (z : Result ReaderForm Fault) → read_lines (first_reader d) (lines_of bytes) ≡ z → first_fault d bytes ≡ unended_fault last
      by_lines (Ok q) h =
          let f = followed (lines_of bytes) (first_reader d) no_judgement q h in
          let none = no_reader_fault (lines_of bytes) (first_reader d) q refl h in
          (λ i. fault_behind (h i) (over i)) ∙ sym (ap (λ (x : ReaderForm). or_else x.fault (fault_at (suc x.number) kinds.Form)) f.reader ∙ ap (λ (x : Option Fault). or_else x (fault_at (suc q.number) kinds.Form)) none)
      by_lines (Err g) h =
          let r = refused_at (lines_of bytes) (first_reader d) no_judgement g h in
          (λ i. fault_behind (h i) (over i)) ∙ sym (ap (λ (x : Option Fault). or_else x (fault_at (suc last.reader.number) kinds.Form)) r.0)

  pub cut_off : (result : Result Tally VerifyRefused) (b : ℕ) (bs : List ℕ) → length bytes ≤ most_report_bytes → unended bytes ≡ b ∷ bs → IsCutOff last result → IsVerified d bytes result
  cut_off (Ok t) b bs few over h = absurd h
  cut_off (Err (refused.Line n k)) b bs few over h = (few, inl (cut_fault b bs over ∙ h.1))
  cut_off (Err refused.Long) b bs few over h = absurd h
  cut_off (Err refused.Fault) b bs few over h = absurd h
  cut_off (Err refused.Memory) b bs few over h = tt
