-- The first two lines of a block: the obligation, and the verdict's word.
use Rattle.std.specs.Prelude.{ℕ, ◌+◌, List, [], ◌∷◌, get_or, ◌⊎◌, codes}
use Rattle.std.proofs.Common.{inl, inr}
use Rattle.std.specs.Fmt.{decimal}
use Rattle.spec_core.specs.declared.update.Thing.{Thing}
use Rattle.spec_core.specs.declared.update.Thing.TheVariants as thing
use Rattle.spec_core.specs.Specification.{Specification, no_relation, no_counter, no_invariant, op_of}
use Rattle.obligation_list.specs.declared.obligation.Obligation.{Obligation}
use Rattle.obligation_list.specs.declared.obligation.Obligation.TheVariants.{Init, Safety, Commute, Stable}
use Rattle.report_lines.specs.declared.verdict.VerdictWord.{VerdictWord}
use Rattle.report_lines.specs.declared.verdict.VerdictWord.TheVariants as words
use Rattle.report_lines.specs.Formats.{Format, nothing, behind, these, seen, or_else}
use Rattle.report_lines.specs.Fields.{count_format}

-- ---- the obligation

-- the name of an invariant
abbrev pub invariant_name : Specification → ℕ → List ℕ
invariant_name d i = (get_or d.invariants i no_invariant).name

-- the name of an operation
abbrev pub operation_name : Specification → ℕ → List ℕ
operation_name d o = (op_of d o).name

-- the name of a relation or a counter
abbrev pub thing_name : Specification → Thing → List ℕ
thing_name d (thing.Relation k) = (get_or d.relations k no_relation).name
thing_name d (thing.Counter k) = (get_or d.counters k no_counter).name

-- `init INV`, `safety OP INV`, `commute OP OP THING` or `stable OP LINE OP`, where lines are counted from 1
abbrev pub obligation_words : Specification → Obligation → List (List ℕ)
obligation_words d (Init i) = codes "init" ∷ invariant_name d i ∷ []
obligation_words d (Safety o i) = codes "safety" ∷ operation_name d o ∷ invariant_name d i ∷ []
obligation_words d (Commute o p x) =
    codes "commute" ∷ operation_name d o ∷ operation_name d p ∷ thing_name d x ∷ []
obligation_words d (Stable o l p) =
    codes "stable" ∷ operation_name d o ∷ decimal (l + 1) ∷ operation_name d p ∷ []

-- the words of this obligation, and no others
abbrev pub obligation_format : Specification → Obligation → Format (Unit {0})
obligation_format d ob = these (obligation_words d ob)

-- ---- the verdict's word

-- behind `undecided`: `instances`, or `lines K`, `rows K` or `range K`, with the number of log lines
abbrev pub to_cause : Unit {0} ⊎ (ℕ ⊎ (ℕ ⊎ ℕ)) → VerdictWord
to_cause (inl u) = words.Instances
to_cause (inr (inl n)) = words.Lines n
to_cause (inr (inr (inl n))) = words.Rows n
to_cause (inr (inr (inr n))) = words.Range n

-- a verdict's word of its parts
abbrev pub to_verdict : ℕ ⊎ (Unit {0} ⊎ (Unit {0} ⊎ (ℕ ⊎ (ℕ ⊎ ℕ)))) → VerdictWord
to_verdict (inl n) = words.Proved n
to_verdict (inr (inl u)) = words.Refuted
to_verdict (inr (inr c)) = to_cause c

-- the parts of a verdict's word
abbrev pub of_verdict : VerdictWord → ℕ ⊎ (Unit {0} ⊎ (Unit {0} ⊎ (ℕ ⊎ (ℕ ⊎ ℕ))))
of_verdict (words.Proved n) = inl n
of_verdict words.Refuted = inr (inl tt)
of_verdict words.Instances = inr (inr (inl tt))
of_verdict (words.Lines n) = inr (inr (inr (inl n)))
of_verdict (words.Rows n) = inr (inr (inr (inr (inl n))))
of_verdict (words.Range n) = inr (inr (inr (inr (inr n))))

-- the word of a cause, with the number of log lines where there is a log
abbrev pub cause_words : Format (Unit {0} ⊎ (ℕ ⊎ (ℕ ⊎ ℕ)))
cause_words =
    or_else (codes "instances") nothing (or_else (codes "lines") count_format
    (or_else (codes "rows") count_format (behind (codes "range") count_format)))

-- `undecided` and a cause
abbrev pub undecided_words : Format (Unit {0} ⊎ (ℕ ⊎ (ℕ ⊎ ℕ)))
undecided_words = behind (codes "undecided") cause_words

-- the words of a verdict, by the first
abbrev pub verdict_words : Format (ℕ ⊎ (Unit {0} ⊎ (Unit {0} ⊎ (ℕ ⊎ (ℕ ⊎ ℕ)))))
verdict_words =
    or_else (codes "proved") count_format (or_else (codes "refuted") nothing undecided_words)

-- `proved K`, `refuted`, or `undecided` and a cause
abbrev pub verdict_format : Format VerdictWord
verdict_format = seen to_verdict of_verdict verdict_words
