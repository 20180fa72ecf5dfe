-- A line whose first word is that of a proved verdict begins one, and no other line does.
use Rattle.std.proofs.Common.{◌≡◌, ℕ, Bool, true, false, List, [], ◌∷◌, Some, None, refl, sym, ap, subst, ◌∙◌}
use Rattle.std.specs.Prelude.{codes, ◌≤◌}
use Rattle.std.specs.Fmt.{decimal}
use Rattle.std.proofs.lemmas.Option.{none-some, some_pair_parts}
use Rattle.spec_core.specs.Specification.{Specification}
use Rattle.obligation_list.specs.declared.obligation.Obligation.{Obligation}
use Rattle.obligation_list.specs.declared.obligation.Obligation.TheVariants.{Init, Safety, Commute, Stable}
use Rattle.proof_lines.specs.declared.line.Line.TheVariants.{Resolve, Farkas, Split, Drop}
use Rattle.proof_lines.specs.declared.line.RangeWhat.{RangeWhat}
use Rattle.proof_lines.specs.declared.line.RangeWhat.TheVariants.{Product, Value, Sum}
use Rattle.report_lines.specs.declared.head.Outcome.TheVariants as outcomes
use Rattle.report_lines.specs.declared.verdict.VerdictWord.TheVariants as word
use Rattle.report_lines.specs.declared.witness.Shown.TheVariants as shown
use Rattle.report_lines.specs.Blocks.{obligation_words}
use Rattle.report_lines.specs.Evidence.{of_what, range_words}
use Rattle.report_lines.specs.Fields.{most_count, count_format}
use Rattle.report_lines.specs.Formats.{Read, key_at}
use Rattle.proof_lines.specs.declared.clause.Lit.{Lit}
use Rattle.proof_lines.specs.declared.line.RowStep.{RowStep}
use Rattle.proof_report.specs.declared.event.Event.{Event}
use Rattle.proof_report.specs.declared.event.Event.TheVariants as events
use Rattle.proof_report.specs.Verdicts.{obligation_at}
use Rattle.proof_report.specs.Events.{words}
use Rattle.report_upgrader.specs.Passing.{begins_proof, is_followed, IsLogAhead}
use Rattle.report_upgrader.proofs.LineKinds.{number_is}

abbrev after_proved : List (List ℕ) → Read (Unit {0})
after_proved ws = key_at (codes "proved") ws

opened_apart : (d : Specification) (ob : Obligation) → after_proved (obligation_words d ob) ≡ None
opened_apart d (Init i) = refl
opened_apart d (Safety o i) = refl
opened_apart d (Commute o p x) = refl
opened_apart d (Stable o l p) = refl

range_apart : (rows : List Lit × List RowStep) (what : RangeWhat) → after_proved (range_words.put (of_what rows what)) ≡ None
range_apart rows (Product left right place) = refl
range_apart rows (Value row place values) = refl
range_apart rows (Sum row place values) = refl

-- the first word of any other line is another
apart : (d : Specification) (e : Event) → begins_proof e ≡ false → after_proved (words d e) ≡ None
apart d (events.Begin (word.Proved n)) h = absurd (let t : true ≡ false = h in cc)
apart d (events.Begin word.Refuted) h = refl
apart d (events.Begin word.Instances) h = refl
apart d (events.Begin (word.Lines n)) h = refl
apart d (events.Begin (word.Rows n)) h = refl
apart d (events.Begin (word.Range n)) h = refl
apart d (events.Title v) h = refl
apart d (events.Budget n) h = refl
apart d (events.Count n) h = refl
apart d (events.Opened i) h = opened_apart d (obligation_at d i)
apart d (events.Log (Resolve left right pivot)) h = refl
apart d (events.Log (Farkas used steps)) h = refl
apart d (events.Log (Split place at used steps low high values)) h = refl
apart d (events.Log (Drop clauses)) h = refl
apart d (events.Size i n) h = refl
apart d (events.Const j x) h = refl
apart d (events.Shown (shown.Fact f)) h = refl
apart d (events.Shown (shown.Reading r)) h = refl
apart d (events.Shown (shown.Call c)) h = refl
apart d (events.Shown (shown.At es)) h = refl
apart d (events.Rows r) h = refl
apart d (events.Range r) h = range_apart (r.used, r.steps) r.what
apart d (events.Summary t) h = refl
apart d (events.Last outcomes.Accepted) h = refl
apart d (events.Last outcomes.Rejected) h = refl
apart d (events.Last outcomes.Undecided) h = refl

proof_is : (e : Event) → begins_proof e ≡ true → (n : ℕ) × (e ≡ events.Begin (word.Proved n))
proof_is (events.Begin (word.Proved n)) h = (n, refl)
proof_is (events.Begin word.Refuted) h = absurd (let t : false ≡ true = h in cc)
proof_is (events.Begin word.Instances) h = absurd (let t : false ≡ true = h in cc)
proof_is (events.Begin (word.Lines n)) h = absurd (let t : false ≡ true = h in cc)
proof_is (events.Begin (word.Rows n)) h = absurd (let t : false ≡ true = h in cc)
proof_is (events.Begin (word.Range n)) h = absurd (let t : false ≡ true = h in cc)
proof_is _ h = absurd (let t : false ≡ true = h in cc)

there : (d : Specification) (n : ℕ) → after_proved (words d (events.Begin (word.Proved n))) ≡ Some (tt, decimal n ∷ [])
there d n = refl

begun : (d : Specification) (n m : ℕ) (ws rest : List (List ℕ)) → n ≤ most_count → after_proved (words d (events.Begin (word.Proved n))) ≡ Some (tt, ws) → count_format.get ws ≡ Some (m, rest) → n ≡ m
begun d n m ws rest few k c = number_is n m [] ws rest few (some_pair_parts tt tt (decimal n ∷ []) ws (sym (there d n) ∙ k)).1 c

by_kind : (d : Specification) (e : Event) (es : List Event) (ws rest : List (List ℕ)) (m : ℕ) (b : Bool) → begins_proof e ≡ b → is_followed e es → after_proved (words d e) ≡ Some (tt, ws) → count_format.get ws ≡ Some (m, rest) → e ≡ events.Begin (word.Proved m)
by_kind d e es ws rest m true h f k c =
    let p = proof_is e h in
    let ahead : IsLogAhead p.0 es = subst (λ (x : Event). is_followed x es) p.1 f in
    let same : p.0 ≡ m = begun d p.0 m ws rest ahead.few (ap (λ (x : Event). after_proved (words d x)) (sym p.1) ∙ k) c in
    p.1 ∙ ap (λ (x : ℕ). events.Begin (word.Proved x)) same
by_kind d e es ws rest m false h f k c = absurd (none-some _ (sym (apart d e h) ∙ k))

pub proved_word : (d : Specification) (e : Event) (es : List Event) (texts ws rest : List (List ℕ)) (n : ℕ) → texts ≡ words d e → is_followed e es → key_at (codes "proved") texts ≡ Some (tt, ws) → count_format.get ws ≡ Some (n, rest) → e ≡ events.Begin (word.Proved n)
proved_word d e es texts ws rest n is f k c = by_kind d e es ws rest n (begins_proof e) refl f (ap after_proved (sym is) ∙ k) c

pub other_word : (d : Specification) (e : Event) (texts : List (List ℕ)) → texts ≡ words d e → key_at (codes "proved") texts ≡ None → begins_proof e ≡ false
other_word d e texts is k = by_test (begins_proof e) refl
  where
    by_test : (b : Bool) → begins_proof e ≡ b → begins_proof e ≡ false
    by_test true h =
        let p = proof_is e h in
        absurd (none-some _ (sym k ∙ ap after_proved is ∙ ap (λ (x : Event). after_proved (words d x)) p.1))
    by_test false h = h
