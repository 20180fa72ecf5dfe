-- What a specification asks of states: invariants, preconditions and observations, and the initial state.
use Rattle.std.specs.Prelude.{ℕ, ℤ, Bool, not, cond, Option, List, [], map, get_or}
use Rattle.std.specs.List.{position_from}
use Rattle.spec_core.specs.declared.world.World.{World}
use Rattle.spec_core.specs.declared.world.Call.{Call}
use Rattle.spec_core.specs.Line.{Line}
use Rattle.spec_core.specs.Specification.{Specification, op_of, no_invariant}
use Rattle.spec_core.specs.State.{Listing, Reads}
use Rattle.spec_core.specs.World.{tuples}
use Rattle.spec_core.specs.Truth.{line_true, lines_true}

-- the line of an invariant, and of a precondition
abbrev pub invariant_line : Specification → ℕ → Line
invariant_line d i = (get_or d.invariants i no_invariant).line

-- Every invariant is true.
abbrev pub inv : Specification → World → Reads → Bool
inv d w r = lines_true w r [] (map (λ i. i.line) d.invariants)

-- the place of the first of these lines that is false
abbrev pub first_false : World → Reads → List ℤ → List Line → Option ℕ
first_false w r args lines = position_from (λ l. not (line_true w r args l)) 0 lines

-- The place of the first invariant that is false.
abbrev pub broken_at : Specification → World → Reads → Option ℕ
broken_at d w r = position_from (λ i. not (line_true w r [] i.line)) 0 d.invariants

-- The precondition of a call: all its operation's requires lines are true.
abbrev pub pre : Specification → World → Call → Reads → Bool
pre d w c r = lines_true w r c.args (op_of d c.op).requires_

-- The observation of a call: all its operation's observes lines are true.
abbrev pub observed : Specification → World → Call → Reads → Bool
observed d w c r = lines_true w r c.args (op_of d c.op).observes

-- The initial state: each relation and each counter has its one stated value at all tuples and keys.
abbrev pub initial : Specification → World → Listing
initial d w = record {
  relations = map (λ r. cond r.initial (tuples w r.places) []) d.relations;
  counters = map (λ c. map (λ key. (key, c.initial)) (tuples w c.keys)) d.counters;
}
