-- The conclusion of an obligation fails.
use Rattle.std.specs.Prelude.{pos, cond, List, [], ◌∷◌, map, ℕ}
use Rattle.spec_core.specs.declared.update.Thing.{Thing}
use Rattle.spec_core.specs.declared.update.Thing.TheVariants as thing
use Rattle.spec_core.specs.Line.{Line}
use Rattle.spec_core.specs.Specification.{Specification}
use Rattle.spec_core.specs.Truth.{is_exists}
use Rattle.spec_core.specs.Meaning.{invariant_line}
use Rattle.obligation_list.specs.declared.obligation.Obligation.{Obligation}
use Rattle.obligation_list.specs.declared.obligation.Obligation.TheVariants.{Init, Safety, Commute, Stable}
use Rattle.obligation_list.specs.Breaking.{requires_line}
use Rattle.ground_problem.specs.Symbols.{Stage, reading, multiple, Symbolic, has, negated, both, either, unequal}
use Rattle.ground_problem.specs.Constants.{Constants}
use Rattle.ground_problem.specs.Formulas.{Caller, caller, nobody, Readings, at_stage, at_start, formula, instances}

-- A line is false: with `exists` once for each assignment, else at the elements.
abbrev pub line_fails : Constants → Readings → Caller → Line → List Symbolic
line_fails z r c l =
    cond (is_exists l.prefix)
    (map negated (instances z r c l.vars l.body))
    (negated (formula r c z.elements l.body) ∷ [])

-- A thing reads differently at two stages.
abbrev pub differ : Thing → Stage → Stage → List ℕ → Symbolic
differ (thing.Relation r) j k t =
    either (both (has j r t) (negated (has k r t))) (both (negated (has j r t)) (has k r t))
differ (thing.Counter c) j k t =
    unequal (multiple (pos 1) (reading j c t) ∷ []) (multiple (pos 1) (reading k c t) ∷ [])

-- The conclusion fails: an invariant in the initial state, an invariant after a call, the agreement of the two orders of two
-- calls, a requires line of the first call after the second.
abbrev pub conclusion : Specification → Obligation → Constants → List Symbolic
conclusion d (Init i) z = line_fails z (at_start d) nobody (invariant_line d i)
conclusion d (Safety o i) z = line_fails z (at_stage (0 ∷ [])) nobody (invariant_line d i)
conclusion d (Commute o p x) z = differ x (1 ∷ 0 ∷ []) (0 ∷ 1 ∷ []) z.elements ∷ []
conclusion d (Stable o l p) z = line_fails z (at_stage (1 ∷ [])) (caller z 0) (requires_line d o l)
