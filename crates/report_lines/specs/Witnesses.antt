-- The lines of a witness: the world, what holds in its state, the calls and the elements.
use Rattle.std.specs.Prelude.{ℕ, ℤ, pos, negsuc, Bool, not, List, map, Option, Some, None, ◌⊎◌, codes}
use Rattle.std.proofs.Common.{inl, inr}
use Rattle.spec_core.specs.declared.operation.Kind.{Kind}
use Rattle.spec_core.specs.declared.operation.Kind.TheVariants.{Sort, Int}
use Rattle.spec_core.specs.declared.operation.Param.{Param as Parameter}
use Rattle.spec_core.specs.declared.world.World.{World}
use Rattle.spec_core.specs.declared.world.Call.{Call}
use Rattle.spec_core.specs.Specification.{Specification, relation_places, counter_keys, op_of}
use Rattle.spec_core.specs.World.{size_of}
use Rattle.spec_core.specs.Truth.{int_eq}
use Rattle.report_lines.specs.declared.witness.Fact.{Fact}
use Rattle.report_lines.specs.declared.witness.Reading.{Reading}
use Rattle.report_lines.specs.declared.witness.Due.{Due}
use Rattle.report_lines.specs.declared.witness.Shown.{Shown}
use Rattle.report_lines.specs.declared.witness.Shown.TheVariants as shown
use Rattle.report_lines.specs.Formats.{Format, among, chain, both, behind, seen, only, Case, case, or_else, times, each_of}
use Rattle.report_lines.specs.Fields.{count_format, value_format, elements_format, element_format}

-- ---- the world

-- `size SORT N`, for the sort of this name
abbrev pub size_format : List ℕ → Format ℕ
size_format sort = behind (codes "size") (behind sort elements_format)

-- `const NAME E`, for the constant of this name, of a sort of this size
abbrev pub const_format : List ℕ → ℕ → Format ℕ
const_format name size = behind (codes "const") (behind name (element_format size))

-- ---- what holds

-- elements of these sorts, one for each
abbrev pub tuple_words : World → List ℕ → Format (List ℕ)
tuple_words w sorts = each_of (λ s. element_format (size_of w s)) sorts

-- the names of the relations
abbrev pub relation_names : Specification → List (List ℕ)
relation_names d = map (λ r. r.name) d.relations

-- the names of the counters
abbrev pub counter_names : Specification → List (List ℕ)
counter_names d = map (λ c. c.name) d.counters

-- the names of the operations
abbrev pub operation_names : Specification → List (List ℕ)
operation_names d = map (λ o. o.name) d.operations

-- a tuple of its relation and its elements
abbrev pub to_fact : ℕ × List ℕ → Fact
to_fact x = record { relation = x.0; tuple = x.1 }

-- the parts of a tuple: its relation and its elements
abbrev pub of_fact : Fact → ℕ × List ℕ
of_fact f = (f.relation, f.tuple)

-- behind `true`: a relation, which isn't before one of this number, and a tuple of it
abbrev pub fact_words : Specification → World → ℕ → Format (ℕ × List ℕ)
fact_words d w from =
    chain (among from (relation_names d)) (λ k. tuple_words w (relation_places d k))

-- a tuple that is true
abbrev pub fact_format : Specification → World → ℕ → Format Fact
fact_format d w from = seen to_fact of_fact (fact_words d w from)

-- a value of its counter, its key and itself
abbrev pub to_reading : ℕ × (List ℕ × ℤ) → Reading
to_reading x = record { counter = x.0; key = x.1.0; value = x.1.1 }

-- the parts of a value: its counter, its key and itself
abbrev pub of_reading : Reading → ℕ × (List ℕ × ℤ)
of_reading r = (r.counter, (r.key, r.value))

-- a value that isn't 0
abbrev pub is_other : ℤ → Bool
is_other v = not (int_eq v (pos 0))

-- behind `count`: a counter, which isn't before one of this number, a key of it, and the value there, which isn't 0
abbrev pub reading_words : Specification → World → ℕ → Format (ℕ × (List ℕ × ℤ))
reading_words d w from =
    chain (among from (counter_names d)) (λ k. both (tuple_words w (counter_keys d k))
    (only is_other value_format))

-- a value that isn't 0
abbrev pub reading_format : Specification → World → ℕ → Format Reading
reading_format d w from = seen to_reading of_reading (reading_words d w from)

-- ---- the calls and the elements

-- a number that isn't negative, as a whole number
abbrev pub natural_of : ℤ → Option ℕ
natural_of (pos n) = Some n
natural_of (negsuc n) = None

-- a whole number that isn't negative, as a number
abbrev pub natural : Case ℤ ℕ
natural = record { to = pos; from = natural_of }

-- an element of any size, or a whole number in the range of a state
abbrev pub argument_format : Kind → Format ℤ
argument_format (Sort s) = case natural count_format
argument_format Int = value_format

-- an argument for each parameter
abbrev pub arguments_words : List Parameter → Format (List ℤ)
arguments_words params = each_of (λ p. argument_format p.kind) params

-- a call of its operation and its arguments
abbrev pub to_call : ℕ × List ℤ → Call
to_call x = record { op = x.0; args = x.1 }

-- the parts of a call: its operation and its arguments
abbrev pub of_call : Call → ℕ × List ℤ
of_call c = (c.op, c.args)

-- behind `call`: an operation and its arguments
abbrev pub call_words : Specification → Format (ℕ × List ℤ)
call_words d = chain (among 0 (operation_names d)) (λ o. arguments_words (op_of d o).params)

-- a call
abbrev pub call_format : Specification → Format Call
call_format d = seen to_call of_call (call_words d)

-- behind `at`: so many elements
abbrev pub at_format : ℕ → Format (List ℕ)
at_format count = times count_format count

-- ---- one line behind those of the world

-- the parts of a line of a witness, by its first word
abbrev pub ShownParts : Type 0
ShownParts = Fact ⊎ (Reading ⊎ (Call ⊎ List ℕ))

-- what these parts show
abbrev pub to_shown : ShownParts → Shown
to_shown (inl f) = shown.Fact f
to_shown (inr (inl r)) = shown.Reading r
to_shown (inr (inr (inl c))) = shown.Call c
to_shown (inr (inr (inr es))) = shown.At es

-- the parts of what a line of a witness shows
abbrev pub of_shown : Shown → ShownParts
of_shown (shown.Fact f) = inl f
of_shown (shown.Reading r) = inr (inl r)
of_shown (shown.Call c) = inr (inr (inl c))
of_shown (shown.At es) = inr (inr (inr es))

-- the words of a line of a witness, by its first
abbrev pub shown_words : Specification → World → Due → Format ShownParts
shown_words d w due =
    or_else (codes "true") (fact_format d w due.relation)
    (or_else (codes "count") (reading_format d w due.counter)
    (or_else (codes "call") (call_format d) (behind (codes "at") (at_format due.elements))))

-- `true REL E ..`, `count CTR E .. V`, `call OP A ..` or `at E ..`
abbrev pub shown_format : Specification → World → Due → Format Shown
shown_format d w due = seen to_shown of_shown (shown_words d w due)
