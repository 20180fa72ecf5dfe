-- The first two lines of a block are exact and clean.
use Rattle.std.proofs.Common.{◌≡◌, ℕ, zero, suc, ◌+◌, ◌≤◌, true, List, [], ◌∷◌, map, get_or, ◌⊎◌, inl, inr, refl, sym, subst}
use Rattle.std.specs.Prelude.{codes}
use Rattle.std.specs.List.{list_all}
use Rattle.std.proofs.lemmas.Bool.{and_from}
use Rattle.word_cut.specs.Whole.{greatest}
use Rattle.spec_core.specs.declared.spec.Invariant.{Invariant}
use Rattle.spec_core.specs.declared.spec.Relation.{Relation}
use Rattle.spec_core.specs.declared.spec.Counter.{Counter}
use Rattle.spec_core.specs.declared.operation.Operation.{Operation}
use Rattle.spec_core.specs.declared.update.Thing.{Thing}
use Rattle.spec_core.specs.declared.update.Thing.TheVariants as thing
use Rattle.spec_core.specs.Specification.{Specification, no_relation, no_counter, no_invariant, no_operation}
use Rattle.spec_core.specs.Typed.{is_specification}
use Rattle.obligation_list.specs.declared.obligation.Obligation.{Obligation}
use Rattle.obligation_list.specs.declared.obligation.Obligation.TheVariants.{Init, Safety, Commute, Stable}
use Rattle.report_lines.specs.declared.verdict.VerdictWord.{VerdictWord}
use Rattle.report_lines.specs.declared.verdict.VerdictWord.TheVariants as words
use Rattle.report_lines.specs.Words.{is_part}
use Rattle.report_lines.specs.Formats.{Format, IsExact, IsClean, nothing, behind}
use Rattle.report_lines.specs.Fields.{count_format}
use Rattle.report_lines.specs.Blocks.{invariant_name, operation_name, thing_name, obligation_words, obligation_format, to_verdict, of_verdict, cause_words, undecided_words, verdict_words, verdict_format}
use Rattle.report_lines.proofs.Exact.{nothing_exact, these_exact, behind_exact, seen_exact, or_exact, or_apart, behind_apart}
use Rattle.report_lines.proofs.Clean.{decimal_part, nothing_clean, these_clean, behind_clean, seen_clean, or_clean}
use Rattle.report_lines.proofs.SpecNames.{names_of, name_part}
use Rattle.report_lines.proofs.NumberFields.{count_exact, count_clean}

-- ---- the obligation

pub obligation_exact : (d : Specification) (ob : Obligation) → IsExact (obligation_format d ob)
obligation_exact d ob = these_exact (obligation_words d ob)

named : {A : Type 0} (name : A → List ℕ) (xs : List A) (k : ℕ) (none : A) → name none ≡ [] → list_all is_part (map name xs) ≡ true → is_part (name (get_or xs k none)) ≡ true
named name xs k none e h = subst (λ (w : List ℕ). is_part w ≡ true) (same xs k) (name_part (map name xs) k h)
  where
    same : (xs : List _) (k : ℕ) → get_or (map name xs) k [] ≡ name (get_or xs k none)
    same [] k = sym e
    same (x ∷ xs) zero = refl
    same (x ∷ xs) (suc k) = same xs k

invariant_part : (d : Specification) (i : ℕ) → is_specification d ≡ true → is_part (invariant_name d i) ≡ true
invariant_part d i h = named (λ (v : Invariant). v.name) d.invariants i no_invariant refl (names_of d h).invariant_parts

operation_part : (d : Specification) (o : ℕ) → is_specification d ≡ true → is_part (operation_name d o) ≡ true
operation_part d o h = named (λ (v : Operation). v.name) d.operations o no_operation refl (names_of d h).operation_parts

thing_part : (d : Specification) (x : Thing) → is_specification d ≡ true → is_part (thing_name d x) ≡ true
thing_part d (thing.Relation k) h = named (λ (v : Relation). v.name) d.relations k no_relation refl (names_of d h).relation_parts
thing_part d (thing.Counter k) h = named (λ (v : Counter). v.name) d.counters k no_counter refl (names_of d h).counter_parts

-- the line of a requires line can be counted
abbrev pub IsCounted : Obligation → Type 0
IsCounted (Stable o l p) = l + 1 ≤ greatest
IsCounted _ = Unit {0}

words_part : (d : Specification) (ob : Obligation) → is_specification d ≡ true → IsCounted ob → list_all is_part (obligation_words d ob) ≡ true
words_part d (Init i) h c = and_from _ _ refl (and_from _ _ (invariant_part d i h) refl)
words_part d (Safety o i) h c = and_from _ _ refl (and_from _ _ (operation_part d o h) (and_from _ _ (invariant_part d i h) refl))
words_part d (Commute o p x) h c = and_from _ _ refl (and_from _ _ (operation_part d o h) (and_from _ _ (operation_part d p h) (and_from _ _ (thing_part d x h) refl)))
words_part d (Stable o l p) h c = and_from _ _ refl (and_from _ _ (operation_part d o h) (and_from _ _ (decimal_part (l + 1) c) (and_from _ _ (operation_part d p h) refl)))

pub obligation_clean : (d : Specification) (ob : Obligation) → is_specification d ≡ true → IsCounted ob → IsClean (obligation_format d ob)
obligation_clean d ob h c = these_clean (obligation_words d ob) (words_part d ob h c)

-- ---- the verdict's word

abbrev range_line : Format ℕ
range_line = behind (codes "range") count_format

cause_exact : IsExact cause_words
cause_exact =
    or_exact _ nothing _ (or_apart _ _ count_format _ refl (or_apart _ _ count_format range_line refl (behind_apart _ _ count_format refl))) nothing_exact
    (or_exact _ count_format _ (or_apart _ _ count_format range_line refl (behind_apart _ _ count_format refl)) count_exact
    (or_exact _ count_format range_line (behind_apart _ _ count_format refl) count_exact (behind_exact _ count_format count_exact)))

cause_clean : IsClean cause_words
cause_clean = or_clean _ nothing _ refl nothing_clean (or_clean _ count_format _ refl count_clean (or_clean _ count_format _ refl count_clean (behind_clean _ count_format refl count_clean)))

verdict_words_exact : IsExact verdict_words
verdict_words_exact =
    or_exact _ count_format _ (or_apart _ _ nothing undecided_words refl (behind_apart _ _ cause_words refl)) count_exact
    (or_exact _ nothing undecided_words (behind_apart _ _ cause_words refl) nothing_exact (behind_exact _ cause_words cause_exact))

verdict_words_clean : IsClean verdict_words
verdict_words_clean = or_clean _ count_format _ refl count_clean (or_clean _ nothing undecided_words refl nothing_clean (behind_clean _ cause_words refl cause_clean))

verdict_back : (a : ℕ ⊎ (Unit {0} ⊎ (Unit {0} ⊎ (ℕ ⊎ (ℕ ⊎ ℕ))))) → of_verdict (to_verdict a) ≡ a
verdict_back (inl n) = refl
verdict_back (inr (inl u)) = refl
verdict_back (inr (inr (inl u))) = refl
verdict_back (inr (inr (inr (inl n)))) = refl
verdict_back (inr (inr (inr (inr (inl n))))) = refl
verdict_back (inr (inr (inr (inr (inr n))))) = refl

verdict_there : (v : VerdictWord) → to_verdict (of_verdict v) ≡ v
verdict_there (words.Proved n) = refl
verdict_there words.Refuted = refl
verdict_there words.Instances = refl
verdict_there (words.Lines n) = refl
verdict_there (words.Rows n) = refl
verdict_there (words.Range n) = refl

pub verdict_exact : IsExact verdict_format
verdict_exact = seen_exact to_verdict of_verdict verdict_words verdict_back verdict_there verdict_words_exact

pub verdict_clean : IsClean verdict_format
verdict_clean = seen_clean to_verdict of_verdict verdict_words verdict_words_clean
