-- The lines of a witness are exact and clean.
use Rattle.std.proofs.Common.{◌≡◌, ℕ, true, List, Some, ◌⊎◌, inl, inr, refl, ap}
use Rattle.std.specs.Prelude.{codes, ℤ, pos, negsuc}
use Rattle.std.proofs.lemmas.Option.{none-some, same_Some}
use Rattle.spec_core.specs.declared.operation.Kind.{Kind}
use Rattle.spec_core.specs.declared.operation.Kind.TheVariants.{Sort, Int}
use Rattle.spec_core.specs.declared.operation.Param.{Param as Parameter}
use Rattle.spec_core.specs.declared.world.World.{World}
use Rattle.spec_core.specs.declared.world.Call.{Call}
use Rattle.spec_core.specs.Specification.{Specification, relation_places, counter_keys, op_of}
use Rattle.spec_core.specs.World.{size_of}
use Rattle.spec_core.specs.Typed.{is_specification}
use Rattle.report_lines.specs.declared.witness.Reading.{Reading}
use Rattle.report_lines.specs.declared.witness.Due.{Due}
use Rattle.report_lines.specs.declared.witness.Shown.{Shown}
use Rattle.report_lines.specs.declared.witness.Shown.TheVariants as shown
use Rattle.report_lines.specs.Words.{is_part}
use Rattle.report_lines.specs.Formats.{Format, IsExact, IsClean, among, both, behind, only, or_else}
use Rattle.report_lines.specs.Fields.{count_format, value_format, element_format}
use Rattle.report_lines.specs.Witnesses.{size_format, const_format, tuple_words, relation_names, counter_names, operation_names, to_fact, of_fact, fact_words, fact_format, to_reading, of_reading, is_other, reading_words, reading_format, natural, natural_of, argument_format, arguments_words, to_call, of_call, call_words, call_format, at_format, ShownParts, to_shown, of_shown, shown_words, shown_format}
use Rattle.report_lines.proofs.Exact.{IsCase, chain_exact, behind_exact, seen_exact, only_exact, case_exact, times_exact, each_exact, or_exact, or_apart, behind_apart}
use Rattle.report_lines.proofs.Clean.{chain_clean, behind_clean, seen_clean, only_clean, case_clean, times_clean, each_clean, or_clean, among_clean}
use Rattle.report_lines.proofs.Among.{among_exact}
use Rattle.report_lines.proofs.SpecNames.{names_of}
use Rattle.report_lines.proofs.NumberFields.{count_exact, count_clean, value_exact, value_clean, elements_exact, elements_clean, element_exact, element_clean}

-- ---- the world

pub size_exact : (sort : List ℕ) → IsExact (size_format sort)
size_exact sort = behind_exact _ _ (behind_exact _ _ elements_exact)

pub size_clean : (sort : List ℕ) → is_part sort ≡ true → IsClean (size_format sort)
size_clean sort h = behind_clean _ _ refl (behind_clean _ _ h elements_clean)

pub const_exact : (name : List ℕ) (size : ℕ) → IsExact (const_format name size)
const_exact name size = behind_exact _ _ (behind_exact _ (element_format size) (element_exact size))

pub const_clean : (name : List ℕ) (size : ℕ) → is_part name ≡ true → IsClean (const_format name size)
const_clean name size h = behind_clean _ _ refl (behind_clean _ (element_format size) h (element_clean size))

-- ---- what holds

tuple_exact : (w : World) (sorts : List ℕ) → IsExact (tuple_words w sorts)
tuple_exact w sorts = each_exact (λ s. element_format (size_of w s)) sorts (λ s. element_exact (size_of w s))

tuple_clean : (w : World) (sorts : List ℕ) → IsClean (tuple_words w sorts)
tuple_clean w sorts = each_clean (λ s. element_format (size_of w s)) sorts (λ s. element_clean (size_of w s))

pub fact_exact : (d : Specification) (w : World) (from : ℕ) → is_specification d ≡ true → IsExact (fact_format d w from)
fact_exact d w from h = seen_exact to_fact of_fact (fact_words d w from) (λ a. refl) (λ b. refl)
    (chain_exact (among from (relation_names d)) (λ k. tuple_words w (relation_places d k)) (among_exact from (relation_names d) (names_of d h).relations) (λ k. tuple_exact w (relation_places d k)))

pub fact_clean : (d : Specification) (w : World) (from : ℕ) → is_specification d ≡ true → IsClean (fact_format d w from)
fact_clean d w from h = seen_clean to_fact of_fact (fact_words d w from)
    (chain_clean (among from (relation_names d)) (λ k. tuple_words w (relation_places d k)) (among_clean from (relation_names d) (names_of d h).relation_parts) (λ k. tuple_clean w (relation_places d k)))

abbrev keyed : Specification → World → ℕ → Format (List ℕ × ℤ)
keyed d w k = both (tuple_words w (counter_keys d k)) (only is_other value_format)

keyed_exact : (d : Specification) (w : World) (k : ℕ) → IsExact (keyed d w k)
keyed_exact d w k = chain_exact (tuple_words w (counter_keys d k)) (λ a. only is_other value_format) (tuple_exact w (counter_keys d k)) (λ a. only_exact is_other value_format value_exact)

keyed_clean : (d : Specification) (w : World) (k : ℕ) → IsClean (keyed d w k)
keyed_clean d w k = chain_clean (tuple_words w (counter_keys d k)) (λ a. only is_other value_format) (tuple_clean w (counter_keys d k)) (λ a. only_clean is_other value_format value_clean)

pub reading_exact : (d : Specification) (w : World) (from : ℕ) → is_specification d ≡ true → IsExact (reading_format d w from)
reading_exact d w from h = seen_exact to_reading of_reading (reading_words d w from) (λ a. refl) (λ b. refl)
    (chain_exact (among from (counter_names d)) (λ k. keyed d w k) (among_exact from (counter_names d) (names_of d h).counters) (λ k. keyed_exact d w k))

pub reading_clean : (d : Specification) (w : World) (from : ℕ) → is_specification d ≡ true → IsClean (reading_format d w from)
reading_clean d w from h = seen_clean to_reading of_reading (reading_words d w from)
    (chain_clean (among from (counter_names d)) (λ k. keyed d w k) (among_clean from (counter_names d) (names_of d h).counter_parts) (λ k. keyed_clean d w k))

-- ---- the calls and the elements

natural_case : IsCase natural
natural_case = record { back = λ a. refl; there = there }
  where
    there : (z : ℤ) (n : ℕ) → natural_of z ≡ Some n → z ≡ pos n
    there (pos m) n h = ap pos (same_Some m n h)
    there (negsuc m) n h = absurd (none-some n h)

argument_exact : (k : Kind) → IsExact (argument_format k)
argument_exact (Sort s) = case_exact natural count_format natural_case count_exact
argument_exact Int = value_exact

argument_clean : (k : Kind) → IsClean (argument_format k)
argument_clean (Sort s) = case_clean natural count_format count_clean
argument_clean Int = value_clean

arguments_exact : (params : List Parameter) → IsExact (arguments_words params)
arguments_exact params = each_exact (λ (p : Parameter). argument_format p.kind) params (λ p. argument_exact p.kind)

arguments_clean : (params : List Parameter) → IsClean (arguments_words params)
arguments_clean params = each_clean (λ (p : Parameter). argument_format p.kind) params (λ p. argument_clean p.kind)

pub call_exact : (d : Specification) → is_specification d ≡ true → IsExact (call_format d)
call_exact d h = seen_exact to_call of_call (call_words d) (λ a. refl) (λ b. refl)
    (chain_exact (among 0 (operation_names d)) (λ o. arguments_words (op_of d o).params) (among_exact 0 (operation_names d) (names_of d h).operations) (λ o. arguments_exact (op_of d o).params))

pub call_clean : (d : Specification) → is_specification d ≡ true → IsClean (call_format d)
call_clean d h = seen_clean to_call of_call (call_words d)
    (chain_clean (among 0 (operation_names d)) (λ o. arguments_words (op_of d o).params) (among_clean 0 (operation_names d) (names_of d h).operation_parts) (λ o. arguments_clean (op_of d o).params))

pub at_exact : (count : ℕ) → IsExact (at_format count)
at_exact count = times_exact count_format count count_exact

pub at_clean : (count : ℕ) → IsClean (at_format count)
at_clean count = times_clean count_format count count_clean

-- ---- one line behind those of the world

abbrev at_line : ℕ → Format (List ℕ)
at_line n = behind (codes "at") (at_format n)

abbrev call_line : Specification → ℕ → Format (Call ⊎ List ℕ)
call_line d n = or_else (codes "call") (call_format d) (at_line n)

abbrev count_line : Specification → World → Due → Format (Reading ⊎ (Call ⊎ List ℕ))
count_line d w due = or_else (codes "count") (reading_format d w due.counter) (call_line d due.elements)

shown_words_exact : (d : Specification) (w : World) (due : Due) → is_specification d ≡ true → IsExact (shown_words d w due)
shown_words_exact d w due h =
    let f = fact_format d w due.relation in let r = reading_format d w due.counter in let c = call_format d in let a = at_format due.elements in
    or_exact (codes "true") f (count_line d w due) (or_apart (codes "true") (codes "count") r (call_line d due.elements) refl (or_apart (codes "true") (codes "call") c (at_line due.elements) refl (behind_apart (codes "true") (codes "at") a refl))) (fact_exact d w due.relation h)
    (or_exact (codes "count") r (call_line d due.elements) (or_apart (codes "count") (codes "call") c (at_line due.elements) refl (behind_apart (codes "count") (codes "at") a refl)) (reading_exact d w due.counter h)
    (or_exact (codes "call") c (at_line due.elements) (behind_apart (codes "call") (codes "at") a refl) (call_exact d h) (behind_exact (codes "at") a (at_exact due.elements))))

shown_words_clean : (d : Specification) (w : World) (due : Due) → is_specification d ≡ true → IsClean (shown_words d w due)
shown_words_clean d w due h =
    let f = fact_format d w due.relation in let r = reading_format d w due.counter in let c = call_format d in let a = at_format due.elements in
    or_clean (codes "true") f (count_line d w due) refl (fact_clean d w due.relation h)
    (or_clean (codes "count") r (call_line d due.elements) refl (reading_clean d w due.counter h)
    (or_clean (codes "call") c (at_line due.elements) refl (call_clean d h) (behind_clean (codes "at") a refl (at_clean due.elements))))

shown_back : (a : ShownParts) → of_shown (to_shown a) ≡ a
shown_back (inl f) = refl
shown_back (inr (inl r)) = refl
shown_back (inr (inr (inl c))) = refl
shown_back (inr (inr (inr es))) = refl

shown_there : (s : Shown) → to_shown (of_shown s) ≡ s
shown_there (shown.Fact f) = refl
shown_there (shown.Reading r) = refl
shown_there (shown.Call c) = refl
shown_there (shown.At es) = refl

pub shown_exact : (d : Specification) (w : World) (due : Due) → is_specification d ≡ true → IsExact (shown_format d w due)
shown_exact d w due h = seen_exact to_shown of_shown (shown_words d w due) shown_back shown_there (shown_words_exact d w due h)

pub shown_clean : (d : Specification) (w : World) (due : Due) → is_specification d ≡ true → IsClean (shown_format d w due)
shown_clean d w due h = seen_clean to_shown of_shown (shown_words d w due) (shown_words_clean d w due h)
