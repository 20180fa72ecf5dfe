-- Bytes are read to the end exactly where they are those of a report, and of one alone.
use Rattle.std.proofs.Common.{◌≡◌, ℕ, ◌≤◌, Bool, true, false, not, ◌||◌, eqb, List, [], ◌∷◌, ◌++◌, map, refl, sym, ap, subst, ◌∙◌, arith}
use Rattle.std.specs.Prelude.{◌==◌}
use Rattle.std.specs.List.{list_all, flat_map}
use Rattle.std.proofs.lemmas.Bool.{and_parts, and_from, false≢true}
use Rattle.std.proofs.lemmas.List.{append-nil}
use Rattle.std.proofs.lemmas.List.Folds.{list_all-append}
use Rattle.spec_core.specs.Specification.{Specification}
use Rattle.spec_core.specs.Typed.{is_specification}
use Rattle.report_lines.specs.declared.verdict.VerdictWord.TheVariants as word
use Rattle.report_lines.specs.declared.head.Outcome.TheVariants as outcomes
use Rattle.report_lines.specs.declared.witness.Shown.TheVariants as shown
use Rattle.proof_lines.specs.declared.line.Line.TheVariants as lines
use Rattle.proof_lines.specs.declared.clause.Lit.{Lit}
use Rattle.proof_lines.specs.declared.line.RowStep.{RowStep}
use Rattle.proof_lines.specs.declared.line.RangeWhat.{RangeWhat}
use Rattle.proof_lines.specs.declared.line.RangeWhat.TheVariants as whats
use Rattle.report_lines.specs.Evidence.{range_format}
use Rattle.obligation_list.specs.declared.obligation.Obligation.{Obligation}
use Rattle.obligation_list.specs.declared.obligation.Obligation.TheVariants.{Init, Safety, Commute, Stable}
use Rattle.report_lines.specs.Words.{parts, joined, line_text, is_part}
use Rattle.report_lines.specs.Blocks.{obligation_words}
use Rattle.report_lines.proofs.Splitting.{parts_joined, joined_parts}
use Rattle.proof_report.specs.declared.event.Event.{Event}
use Rattle.proof_report.specs.declared.event.Event.TheVariants as events
use Rattle.proof_report.specs.declared.place.State.{State}
use Rattle.proof_report.specs.Verdicts.{ReportForm, is_report, obligation_at, obligation_count}
use Rattle.proof_report.specs.Events.{report_lines, words, text}
use Rattle.proof_report.specs.Feeding.{line_at, says, after, start, goes, admits, IsFed}
use Rattle.proof_report.specs.Gathering.{report_of}
use Rattle.proof_report.proofs.Lines.{line_says}
use Rattle.proof_report.proofs.Complete.{report_is_admitted}
use Rattle.proof_report.proofs.Whole.{fed_is_text, report_text_is_fed, report_is_one}
use Rattle.obligation_list.proofs.Counting.{few_obligations}
use Rattle.report_bytes.specs.Bytes.{report_bytes, lines_of, unended}
use Rattle.report_bytes.proofs.Cutting.{no_feed, ended, IsSome, cut_ended, bytes_again}
use Rattle.report_bytes.proofs.CleanLines.{place_clean}

-- ---- the words of a line

obligation_some : (d : Specification) (ob : Obligation) → IsSome (obligation_words d ob)
obligation_some d (Init i) = tt
obligation_some d (Safety o i) = tt
obligation_some d (Commute o p x) = tt
obligation_some d (Stable o l p) = tt

range_some : (used : List Lit) (steps : List RowStep) (w : RangeWhat) → IsSome (range_format.put (record { used = used; steps = steps; what = w }))
range_some used steps (whats.Product l r p) = tt
range_some used steps (whats.Value r p v) = tt
range_some used steps (whats.Sum r p v) = tt

words_some : (d : Specification) (e : Event) → IsSome (words d e)
words_some d (events.Opened i) = obligation_some d (obligation_at d i)
words_some d (events.Begin (word.Proved n)) = tt
words_some d (events.Begin word.Refuted) = tt
words_some d (events.Begin word.Instances) = tt
words_some d (events.Begin (word.Lines n)) = tt
words_some d (events.Begin (word.Rows n)) = tt
words_some d (events.Begin (word.Range n)) = tt
words_some d (events.Log (lines.Resolve l r p)) = tt
words_some d (events.Log (lines.Farkas u s)) = tt
words_some d (events.Log (lines.Split p a u s l h v)) = tt
words_some d (events.Log (lines.Drop cs)) = tt
words_some d (events.Shown (shown.Fact f)) = tt
words_some d (events.Shown (shown.Reading r)) = tt
words_some d (events.Shown (shown.Call c)) = tt
words_some d (events.Shown (shown.At es)) = tt
words_some d (events.Range r) = range_some r.used r.steps r.what
words_some d (events.Last outcomes.Accepted) = tt
words_some d (events.Last outcomes.Rejected) = tt
words_some d (events.Last outcomes.Undecided) = tt
words_some d _ = tt

again_some : (ws : List (List ℕ)) → IsSome ws → list_all is_part ws ≡ true → parts (joined ws) ≡ ws
again_some [] s h = absurd s
again_some (w ∷ ws) s h = parts_joined w ws h

-- a part has no line feed, and so has no line of parts
free_of : (b : ℕ) → not ((b == 32) || (b == 10)) ≡ true → no_feed b ≡ true
free_of b h = second (eqb b 32) (eqb b 10) h
  where
    second : (x y : Bool) → not (x || y) ≡ true → not y ≡ true
    second true y h = absurd (false≢true h)
    second false y h = h

part_free : (w : List ℕ) → is_part w ≡ true → list_all no_feed w ≡ true
part_free [] h = refl
part_free (b ∷ bs) h = let p = and_parts (not ((b == 32) || (b == 10))) (is_part bs) h in and_from _ _ (free_of b p.0) (part_free bs p.1)

line_free : (ws : List (List ℕ)) → list_all is_part ws ≡ true → list_all no_feed (joined ws) ≡ true
line_free [] h = refl
line_free (w ∷ []) h = part_free w (and_parts (is_part w) true h).0
line_free (w ∷ v ∷ ws) h =
    let p = and_parts (is_part w) (list_all is_part (v ∷ ws)) h in
    list_all-append no_feed w (32 ∷ joined (v ∷ ws)) ∙ and_from _ _ (part_free w p.0) (and_from _ _ refl (line_free (v ∷ ws) p.1))

-- ---- many lines

clean_words : (d : Specification) (s : State) (e : Event) → is_specification d ≡ true → (line_at d s).fits e ≡ true → list_all is_part (words d e) ≡ true
clean_words d s e ok fit = subst (λ (ws : List (List ℕ)). list_all is_part ws ≡ true) (line_says d s e ok fit) ((place_clean d s.version s.tally s.place ok).parts e fit)

abbrev AllClean : Specification → List Event → Type 0
AllClean d es = (map parts (map joined (map (words d) es)) ≡ map (words d) es) × (list_all (λ l. list_all no_feed l) (map joined (map (words d) es)) ≡ true)

all_clean : (d : Specification) (s : State) (es : List Event) → is_specification d ≡ true → admits d s es ≡ true → AllClean d es
unfolding admits
all_clean d s [] ok h = (refl, refl)
all_clean d s (e ∷ es) ok h =
    let p = and_parts (goes d s e) (admits d (after d s e) es) h in
    let q = and_parts ((line_at d s).fits e) (says d s e) p.0 in
    let c = clean_words d s e ok q.0 in
    let a = again_some (words d e) (words_some d e) c in
    let b = all_clean d (after d s e) es ok p.1 in
    ((λ i. a i ∷ b.0 i), and_from _ _ (line_free (words d e) c) b.1)

each_joined : (lines : List (List ℕ)) → map joined (map parts lines) ≡ lines
each_joined [] = refl
each_joined (l ∷ ls) = let a = joined_parts l in let b = each_joined ls in λ i. a i ∷ b i

with_feeds : (ws : List (List (List ℕ))) → flat_map line_text ws ≡ flat_map ended (map joined ws)
with_feeds [] = refl
with_feeds (w ∷ ws) = ap (λ (x : List ℕ). line_text w ++ x) (with_feeds ws)

-- ---- the laws

-- bytes whose lines are fed to the end, and that end with one of them, are those of a report
pub bytes_are_text : (d : Specification) (bytes : List ℕ) (es : List Event) → is_specification d ≡ true → unended bytes ≡ [] → IsFed d (map parts (lines_of bytes)) es → (bytes ≡ report_bytes d (report_of es)) × (is_report d (report_of es) ≡ true)
bytes_are_text d bytes es ok over h =
    let f = fed_is_text d (map parts (lines_of bytes)) es ok h in
    let lines : lines_of bytes ≡ map joined (text d (report_of es)) = sym (each_joined (lines_of bytes)) ∙ ap (map joined) f.0 in
    (bytes_again bytes ∙ (λ i. flat_map ended (lines i) ++ over i) ∙ append-nil (flat_map ended (map joined (text d (report_of es)))) ∙ sym (with_feeds (text d (report_of es))), f.1)

small : (d : Specification) → is_specification d ≡ true → obligation_count d ≤ 4294967295
small d ok = let f = few_obligations d ok in omega (arith, f)

-- and the bytes of a report end with a line, and their lines are fed to the end
pub text_bytes_are_fed : (d : Specification) (r : ReportForm) → is_specification d ≡ true → is_report d r ≡ true → (unended (report_bytes d r) ≡ []) × IsFed d (map parts (lines_of (report_bytes d r))) (report_lines d r)
text_bytes_are_fed d r ok v =
    let c = all_clean d start (report_lines d r) ok (report_is_admitted d r (small d ok) v) in
    let cut = cut_ended (map joined (text d r)) c.1 in
    let f = with_feeds (text d r) in
    let lines : map parts (lines_of (report_bytes d r)) ≡ text d r = ap (λ (b : List ℕ). map parts (lines_of b)) f ∙ ap (map parts) cut.0 ∙ c.0 in
    (ap unended f ∙ cut.1, subst (λ (ls : List (List (List ℕ))). IsFed d ls (report_lines d r)) (sym lines) (report_text_is_fed d r ok v))

-- the lines of a report are found again in its bytes
lines_again : (d : Specification) (r : ReportForm) → is_specification d ≡ true → is_report d r ≡ true → map parts (lines_of (report_bytes d r)) ≡ text d r
lines_again d r ok v =
    let c = all_clean d start (report_lines d r) ok (report_is_admitted d r (small d ok) v) in
    ap (λ (b : List ℕ). map parts (lines_of b)) (with_feeds (text d r)) ∙ ap (map parts) (cut_ended (map joined (text d r)) c.1).0 ∙ c.0

pub one_report_of_bytes : (d : Specification) (r q : ReportForm) → is_specification d ≡ true → is_report d r ≡ true → is_report d q ≡ true → report_bytes d r ≡ report_bytes d q → r ≡ q
one_report_of_bytes d r q ok v w e = report_is_one d r q ok v w (sym (lines_again d r ok v) ∙ ap (λ (b : List ℕ). map parts (lines_of b)) e ∙ lines_again d q ok w)
