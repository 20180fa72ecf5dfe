-- What is written block by block is the bytes of a report.
use Rattle.std.proofs.Common.{◌≡◌, ℕ, suc, ℤ, negsuc, true, List, [], ◌∷◌, ◌++◌, map, length, refl, sym, ap, ◌∙◌, append_assoc}
use Rattle.std.specs.Prelude.{pos, codes}
use Rattle.std.specs.List.{flat_map, list_all}
use Rattle.std.specs.Fmt.{decimal, signed_decimal}
use Rattle.std.proofs.lemmas.Bool.{and_parts, false≢true}
use Rattle.std.proofs.lemmas.List.{append-nil}
use Rattle.spec_core.specs.declared.operation.Kind.{Kind}
use Rattle.spec_core.specs.declared.operation.Kind.TheVariants.{Sort, Int}
use Rattle.spec_core.specs.declared.operation.Param.{Param as Parameter}
use Rattle.spec_core.specs.declared.world.World.{World}
use Rattle.spec_core.specs.declared.world.Call.{Call}
use Rattle.spec_core.specs.Specification.{Specification, op_of}
use Rattle.spec_core.specs.State.{reads}
use Rattle.spec_states.specs.StateText.{state_text}
use Rattle.spec_core.specs.Fits.{is_argument, are_arguments, is_call, call_fits}
use Rattle.obligation_list.specs.declared.witness.Witness.{Witness}
use Rattle.proof_lines.specs.declared.line.Line.{Line}
use Rattle.report_lines.specs.declared.head.Tally.{Tally}
use Rattle.report_lines.specs.declared.witness.Fact.{Fact}
use Rattle.report_lines.specs.declared.witness.Reading.{Reading}
use Rattle.report_lines.specs.declared.witness.Shown.TheVariants as shown
use Rattle.report_lines.specs.declared.verdict.VerdictWord.TheVariants as word
use Rattle.report_lines.specs.Words.{line_text}
use Rattle.report_lines.specs.Fields.{count_format}
use Rattle.report_lines.specs.Witnesses.{arguments_words, argument_format, call_format}
use Rattle.proof_report.specs.declared.event.Event.{Event}
use Rattle.proof_report.specs.declared.event.Event.TheVariants as events
use Rattle.proof_report.specs.declared.verdict.Verdict.{Verdict}
use Rattle.proof_report.specs.declared.verdict.Verdict.TheVariants as verdicts
use Rattle.proof_report.specs.declared.verdict.Cause.{Cause}
use Rattle.proof_report.specs.declared.verdict.Cause.TheVariants as causes
use Rattle.proof_report.specs.Verdicts.{VerdictForm, proved, refuted, instances, lines, rows, range, obligation_count}
use Rattle.proof_report.specs.Events.{told, no_verdicts, with_verdict, log_lines, size_lines, const_lines, fact_lines, reading_lines, call_lines, witness_lines, verdict_lines, block_lines, words, shown_words}
use Rattle.proof_report.specs.Texts.{log_text, sizes_text, consts_text, calls_text, witness_text, cause_text, verdict_text, end_text, CanStand}
use Rattle.proof_report.proofs.Sound.{one_told}
use Rattle.report_bytes.specs.Bytes.{report_bytes}
use Rattle.report_bytes.specs.Showing.{shown_by, shown_cause, shown_verdict, report_on, blocks_text, counted, AllStand, written_text}
use Rattle.report_bytes.proofs.StateWords.{fact_text, reading_text, state_shown}

-- ---- the words of a call and of elements

argument_put : (w : World) (k : Kind) (z : ℤ) → is_argument w k z ≡ true → (argument_format k).put z ≡ signed_decimal z ∷ []
argument_put w (Sort s) (pos n) h = refl
argument_put w (Sort s) (negsuc n) h = absurd (false≢true h)
argument_put w Int z h = refl

arguments_put : (w : World) (ps : List Parameter) (zs : List ℤ) → are_arguments w ps zs ≡ true → (arguments_words ps).put zs ≡ map signed_decimal zs
arguments_put w [] [] h = refl
arguments_put w [] (z ∷ zs) h = absurd (false≢true h)
arguments_put w (p ∷ ps) [] h = absurd (false≢true h)
arguments_put w (p ∷ ps) (z ∷ zs) h =
    let c = and_parts (is_argument w p.kind z) (are_arguments w ps zs) h in
    let a = argument_put w p.kind z c.0 in
    let b = arguments_put w ps zs c.1 in
    λ i. a i ++ b i

elements_put : (es : List ℕ) → flat_map count_format.put es ≡ map decimal es
elements_put [] = refl
elements_put (e ∷ es) = ap (λ (x : List (List ℕ)). decimal e ∷ x) (elements_put es)

module _ (d : Specification) where
  -- the bytes of what lines say
  abbrev pub bytes_of : List Event → List ℕ
  bytes_of es = flat_map line_text (map (words d) es)

  log_bytes : (log : List Line) (es : List Event) → bytes_of (log_lines log es) ≡ log_text log ++ bytes_of es
  log_bytes [] es = refl
  log_bytes (l ∷ ls) es = let t = line_text (words d (events.Log l)) in ap (λ (x : List ℕ). t ++ x) (log_bytes ls es) ∙ sym (append_assoc t (log_text ls) (bytes_of es))

  sizes_bytes : (i : ℕ) (ns : List ℕ) (es : List Event) → bytes_of (size_lines i ns es) ≡ sizes_text d i ns ++ bytes_of es
  sizes_bytes i [] es = refl
  sizes_bytes i (n ∷ ns) es = let t = line_text (words d (events.Size i n)) in ap (λ (x : List ℕ). t ++ x) (sizes_bytes (suc i) ns es) ∙ sym (append_assoc t (sizes_text d (suc i) ns) (bytes_of es))

  consts_bytes : (j : ℕ) (xs : List ℕ) (es : List Event) → bytes_of (const_lines j xs es) ≡ consts_text d j xs ++ bytes_of es
  consts_bytes j [] es = refl
  consts_bytes j (x ∷ xs) es = let t = line_text (words d (events.Const j x)) in ap (λ (y : List ℕ). t ++ y) (consts_bytes (suc j) xs es) ∙ sym (append_assoc t (consts_text d (suc j) xs) (bytes_of es))

  facts_bytes : (fs : List Fact) (es : List Event) → bytes_of (fact_lines fs es) ≡ flat_map (fact_text d) fs ++ bytes_of es
  facts_bytes [] es = refl
  facts_bytes (f ∷ fs) es = let t = fact_text d f in ap (λ (x : List ℕ). t ++ x) (facts_bytes fs es) ∙ sym (append_assoc t (flat_map (fact_text d) fs) (bytes_of es))

  readings_bytes : (rs : List Reading) (es : List Event) → bytes_of (reading_lines rs es) ≡ flat_map (reading_text d) rs ++ bytes_of es
  readings_bytes [] es = refl
  readings_bytes (r ∷ rs) es = let t = reading_text d r in ap (λ (x : List ℕ). t ++ x) (readings_bytes rs es) ∙ sym (append_assoc t (flat_map (reading_text d) rs) (bytes_of es))

  call_line : (w : World) (c : Call) → call_fits d w c ≡ true → line_text (shown_words d (shown.Call c)) ≡ line_text (codes "call" ∷ (call_format d).put c)
  call_line w c h =
      let p = and_parts (is_call d w c) _ h in
      let q = and_parts _ (are_arguments w (op_of d c.op).params c.args) p.0 in
      ap (λ (x : List (List ℕ)). line_text (codes "call" ∷ Rattle.std.specs.Prelude.get_or (Rattle.report_lines.specs.Witnesses.operation_names d) c.op [] ∷ x)) (sym (arguments_put w (op_of d c.op).params c.args q.1))

  calls_bytes : (w : World) (cs : List Call) (es : List Event) → list_all (call_fits d w) cs ≡ true → bytes_of (call_lines cs es) ≡ calls_text d cs ++ bytes_of es
  calls_bytes w [] es h = refl
  calls_bytes w (c ∷ cs) es h =
      let p = and_parts (call_fits d w c) (list_all (call_fits d w) cs) h in
      let a = call_line w c p.0 in
      let b = calls_bytes w cs es p.1 in
      let t = line_text (codes "call" ∷ (call_format d).put c) in
      (λ i. a i ++ b i) ∙ sym (append_assoc t (calls_text d cs) (bytes_of es))

  at_line : (es : List ℕ) → line_text (shown_words d (shown.At es)) ≡ line_text (codes "at" ∷ flat_map count_format.put es)
  at_line es = ap (λ (x : List (List ℕ)). line_text (codes "at" ∷ x)) (sym (elements_put es))

  witness_bytes : (w : Witness) (es : List Event) → list_all (call_fits d w.world) w.calls ≡ true → bytes_of (witness_lines (shown_by d w) w.elements es) ≡ witness_text d w ++ bytes_of es
  witness_bytes w es h =
      let p = shown_by d w in
      let end = events.Shown (shown.At w.elements) ∷ es in
      let calls = call_lines p.calls end in
      let readings = reading_lines p.readings calls in
      let facts = fact_lines p.facts readings in
      let consts = const_lines 0 w.world.consts facts in
      let A = sizes_text d 0 w.world.sizes in
      let B = consts_text d 0 w.world.consts in
      let F = flat_map (fact_text d) p.facts in
      let R = flat_map (reading_text d) p.readings in
      let S = state_text d w.world (reads w.state) in
      let C = calls_text d w.calls in
      let E = line_text (codes "at" ∷ flat_map count_format.put w.elements) in
      let Z = bytes_of es in
      let e : bytes_of end ≡ E ++ Z = ap (λ (x : List ℕ). x ++ Z) (at_line w.elements) in
      let c : bytes_of calls ≡ (C ++ E) ++ Z = calls_bytes w.world w.calls end h ∙ ap (λ (x : List ℕ). C ++ x) e ∙ sym (append_assoc C E Z) in
      let s : F ++ R ≡ S = sym (state_shown d w.world (reads w.state)) in
      let f : bytes_of facts ≡ (S ++ (C ++ E)) ++ Z =
      facts_bytes p.facts readings ∙ ap (λ (x : List ℕ). F ++ x) (readings_bytes p.readings calls ∙ ap (λ (x : List ℕ). R ++ x) c) ∙ sym (append_assoc F R ((C ++ E) ++ Z)) ∙ ap (λ (x : List ℕ). x ++ ((C ++ E) ++ Z)) s ∙ sym (append_assoc S (C ++ E) Z) in
      let b : bytes_of consts ≡ (B ++ (S ++ (C ++ E))) ++ Z = consts_bytes 0 w.world.consts facts ∙ ap (λ (x : List ℕ). B ++ x) f ∙ sym (append_assoc B (S ++ (C ++ E)) Z) in
      sizes_bytes 0 w.world.sizes consts ∙ ap (λ (x : List ℕ). A ++ x) b ∙ sym (append_assoc A (B ++ (S ++ (C ++ E))) Z)

  -- ---- verdicts

  -- a first line, a log, and what follows
  headed : (t : List ℕ) (log : List Line) (es : List Event) → t ++ bytes_of (log_lines log es) ≡ (t ++ log_text log) ++ bytes_of es
  headed t log es = ap (λ (x : List ℕ). t ++ x) (log_bytes log es) ∙ sym (append_assoc t (log_text log) (bytes_of es))

  headed_line : (t : List ℕ) (log : List Line) (e : Event) (es : List Event) → t ++ bytes_of (log_lines log (e ∷ es)) ≡ (t ++ (log_text log ++ line_text (words d e))) ++ bytes_of es
  headed_line t log e es =
      let L = log_text log in
      let E = line_text (words d e) in
      ap (λ (x : List ℕ). t ++ x) (log_bytes log (e ∷ es) ∙ sym (append_assoc L E (bytes_of es))) ∙ sym (append_assoc t (L ++ E) (bytes_of es))

  cause_bytes : (c : Cause) (es : List Event) → bytes_of (verdict_lines (shown_cause c) es) ≡ cause_text c ++ bytes_of es
  cause_bytes causes.Instances es = refl
  cause_bytes (causes.Lines log) es = headed (line_text (words d (events.Begin (word.Lines (length log))))) log es
  cause_bytes (causes.Rows e) es = headed_line (line_text (words d (events.Begin (word.Rows (length e.log))))) e.log (events.Rows (record { used = e.used; steps = e.steps })) es
  cause_bytes (causes.Range e) es = headed_line (line_text (words d (events.Begin (word.Range (length e.log))))) e.log (events.Range (record { used = e.used; steps = e.steps; what = e.what })) es

  verdict_bytes : (v : Verdict) (es : List Event) → CanStand d v → bytes_of (verdict_lines (shown_verdict d v) es) ≡ verdict_text d v ++ bytes_of es
  verdict_bytes (verdicts.Proved log) es h = headed (line_text (words d (events.Begin (word.Proved (length log))))) log es
  verdict_bytes (verdicts.Refuted w) es h =
      let t = line_text (words d (events.Begin word.Refuted)) in
      ap (λ (x : List ℕ). t ++ x) (witness_bytes w es h.calls) ∙ sym (append_assoc t (witness_text d w) (bytes_of es))
  verdict_bytes (verdicts.Undecided c) es h = cause_bytes c es

  -- ---- a whole report

  one_more : (v : VerdictForm) (t : Tally) → told (with_verdict v t) ≡ suc (told t)
  one_more (proved log) t = (one_told t).0
  one_more (refuted p xs) t = (one_told t).1
  one_more instances t = (one_told t).2
  one_more (lines log) t = (one_told t).2
  one_more (rows log r) t = (one_told t).2
  one_more (range log r) t = (one_told t).2

  blocks_bytes : (t : Tally) (vs : List Verdict) → AllStand d vs → bytes_of (block_lines t (map (shown_verdict d) vs)) ≡ blocks_text d (told t) vs ++ end_text (counted t (map (shown_verdict d) vs))
  blocks_bytes t [] h = ap (λ (x : List ℕ). line_text (words d (events.Summary t)) ++ x) (append-nil _)
  blocks_bytes t (v ∷ vs) h =
      let f = shown_verdict d v in
      let rest = block_lines (with_verdict f t) (map (shown_verdict d) vs) in
      let O = line_text (words d (events.Opened (told t))) in
      let V = verdict_text d v in
      let B = blocks_text d (suc (told t)) vs in
      let E = end_text (counted (with_verdict f t) (map (shown_verdict d) vs)) in
      let r : bytes_of rest ≡ B ++ E = blocks_bytes (with_verdict f t) vs h.1 ∙ ap (λ (i : ℕ). blocks_text d i vs ++ E) (one_more f t) in
      ap (λ (x : List ℕ). O ++ x) (verdict_bytes v rest h.0 ∙ ap (λ (x : List ℕ). V ++ x) r ∙ sym (append_assoc V B E)) ∙ sym (append_assoc O (V ++ B) E)
      ∙ ap (λ (x : List ℕ). x ++ E) (sym (append_assoc O V B))

  pub written_is_report : (version budget : ℕ) (vs : List Verdict) → AllStand d vs → written_text d version budget vs ≡ report_bytes d (report_on d version budget vs)
  written_is_report version budget vs h =
      let T = line_text (words d (events.Title version)) in
      let B = line_text (words d (events.Budget budget)) in
      let C = line_text (words d (events.Count (obligation_count d))) in
      let R = bytes_of (block_lines no_verdicts (map (shown_verdict d) vs)) in
      let b = blocks_bytes no_verdicts vs h in
      ap (λ (x : List ℕ). (T ++ (B ++ C)) ++ x) (sym b) ∙ append_assoc T (B ++ C) R ∙ ap (λ (x : List ℕ). T ++ x) (append_assoc B C R)
