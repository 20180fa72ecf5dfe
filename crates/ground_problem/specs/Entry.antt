-- What is true at the entry: the invariants, the requires lines of the calls, and that two calls don't conflict.
use Rattle.std.specs.Prelude.{ℕ, suc, ◌==◌, Bool, not, cond, ◌&&◌, List, [], ◌∷◌, ◌++◌}
use Rattle.std.specs.List.{flat_map, list_any}
use Rattle.spec_core.specs.declared.operation.Take.{Take}
use Rattle.spec_core.specs.declared.spec.Rule.{Rule}
use Rattle.spec_core.specs.Line.{Line}
use Rattle.spec_core.specs.Specification.{Specification, op_of}
use Rattle.spec_core.specs.Truth.{is_exists}
use Rattle.obligation_list.specs.declared.obligation.Obligation.{Obligation}
use Rattle.obligation_list.specs.declared.obligation.Obligation.TheVariants.{Init, Safety, Commute, Stable}
use Rattle.obligation_list.specs.Breaking.{operations_of}
use Rattle.ground_problem.specs.Symbols.{Symbolic, negated, all_parts, same_const}
use Rattle.ground_problem.specs.Constants.{Constants}
use Rattle.ground_problem.specs.Formulas.{Caller, caller, nobody, at_stage, consts_of, formula, instances}

-- ---- 1: the invariants

-- Each invariant, once for each assignment.
abbrev pub invariants_hold : Specification → Constants → List Symbolic
invariants_hold d z =
    flat_map (λ i. instances z (at_stage []) nobody i.line.vars i.line.body) d.invariants

-- ---- 2: the preconditions

-- A requires line: with `exists` at its own constants, else once for each assignment. A plain line has no variables, and one
-- assignment.
abbrev pub line_holds : Constants → Caller → Line → List ℕ → List Symbolic
line_holds z c l own =
    cond (is_exists l.prefix)
    (formula (at_stage []) c own l.body ∷ [])
    (instances z (at_stage []) c l.vars l.body)

-- requires lines, each with its own constants
abbrev pub lines_hold : Constants → Caller → List Line → List (List ℕ) → List Symbolic
lines_hold z c [] owns = []
lines_hold z c (l ∷ ls) [] = []
lines_hold z c (l ∷ ls) (own ∷ owns) = line_holds z c l own ++ lines_hold z c ls owns

-- Each requires line of each of these operations' calls, which stand from this place on.
abbrev pub calls_ready : Specification → Constants → ℕ → List ℕ → List (List (List ℕ))
    → List Symbolic
calls_ready d z n [] chosen = []
calls_ready d z n (o ∷ os) [] = []
calls_ready d z n (o ∷ os) (own ∷ chosen) =
    lines_hold z (caller z n) (op_of d o).requires_ own ++ calls_ready d z (suc n) os chosen

-- ---- 3: no conflict

-- the equalities of a constant with each later one at a place of its variable
abbrev pub same_later : ℕ → ℕ → List ℕ → List ℕ → List Symbolic
same_later v a [] cs = []
same_later v a (u ∷ us) [] = []
same_later v a (u ∷ us) (c ∷ cs) =
    cond (u == v) (same_const a c ∷ same_later v a us cs) (same_later v a us cs)

-- One assignment gives these constants to the variables of a rule: of each variable that wasn't met before, the first place is
-- equal to each later one.
abbrev pub one_element_each : List ℕ → List ℕ → List ℕ → List Symbolic
one_element_each met [] cs = []
one_element_each met (v ∷ vs) [] = []
one_element_each met (v ∷ vs) (c ∷ cs) =
    cond (list_any (λ u. v == u) met)
    (one_element_each met vs cs)
    (same_later v c vs cs ++ one_element_each (v ∷ met) vs cs)

-- the tokens of two takes lines are those of a rule's patterns, and the lines aren't both shared
abbrev pub are_ruled : Rule → Take → Take → Bool
are_ruled rule t u =
    not (t.shared && u.shared) && (rule.left.token == t.token) && (rule.right.token == u.token)

-- A rule doesn't match two takes lines, by its left pattern the first and by its right pattern the second.
abbrev pub unmatched : Rule → Caller → Take → Caller → Take → List Symbolic
unmatched rule a t b u = cond (are_ruled rule t u)
    (negated (all_parts
    (one_element_each [] (rule.left.vars ++ rule.right.vars)
    (consts_of a [] t.args ++ consts_of b [] u.args))) ∷ [])
    []

-- A rule matches no takes line of the one call and none of the other: first with its left pattern at the one, then at the other.
abbrev pub rule_unmatched : Caller → List Take → Caller → List Take → Rule → List Symbolic
rule_unmatched a ts b us rule =
    flat_map (λ t. flat_map (λ u. unmatched rule a t b u) us) ts
    ++ flat_map (λ t. flat_map (λ u. unmatched rule b u a t) us) ts

-- Two calls don't conflict; one call alone has none to conflict with.
abbrev pub calls_free : Specification → Constants → List ℕ → List Symbolic
calls_free d z [] = []
calls_free d z (o ∷ []) = []
calls_free d z (o ∷ p ∷ os) =
    flat_map (rule_unmatched (caller z 0) (op_of d o).takes (caller z 1) (op_of d p).takes) d.rules

-- ---- together

-- What is true at the entry. In the initial state nothing is asked.
abbrev pub entry : Specification → Obligation → Constants → List Symbolic
entry d (Init i) z = []
entry d (Safety o i) z = invariants_hold d z
entry d (Commute o p x) z = invariants_hold d z
entry d (Stable o l p) z = invariants_hold d z

-- what is true before the conclusion: at the entry, of the calls' preconditions, and that the calls don't conflict
abbrev pub before_conclusion : Specification → Obligation → Constants → List Symbolic
before_conclusion d ob z =
    entry d ob z
    ++ (calls_ready d z 0 (operations_of ob) z.chosen ++ calls_free d z (operations_of ob))
