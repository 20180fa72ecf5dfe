-- The logs of a search: Split lines, and chains of resolvents along a trail.
use Rattle.std.specs.Prelude.{◌≡◌, ℕ, ◌+◌, ◌<◌, ℤ, Bool, true, false, cond, List, [], ◌∷◌, ◌++◌, length, map, slice_index_or, Option, Some, None, Ok}
use Rattle.std.specs.List.{list_any, list_all}
use Rattle.lin_rows.specs.Rows.{Row}
use Rattle.proof_lines.specs.declared.clause.Lit.{Lit}
use Rattle.proof_lines.specs.declared.problem.AtomKind.{AtomKind}
use Rattle.proof_lines.specs.declared.problem.AtomKind.TheVariants.{Row as OfRow}
use Rattle.proof_lines.specs.declared.line.RowStep.{RowStep}
use Rattle.proof_lines.specs.declared.line.RangeWhat.{RangeWhat}
use Rattle.proof_lines.specs.declared.line.Line.{Line}
use Rattle.proof_lines.specs.declared.line.Line.TheVariants.{Resolve, Farkas, Split, Drop}
use Rattle.proof_lines.specs.Clauses.{resolvent, negations, is_empty}
use Rattle.proof_lines.specs.Problems.{PlainProblem}
use Rattle.line_rows.specs.Steps.{line_rows, row_at}
use Rattle.line_rows.specs.Splits.{other_names, at_most}
use Rattle.proof_kernel.specs.Rules.{State, run}
use Rattle.proof_kernel.specs.Evidence.{is_fresh}
use Rattle.theory_api.specs.Chosen.{AreChosen}
use Rattle.theory_api.specs.Elimination.{AreEliminations}
use Rattle.sat_core.specs.declared.trail.Entry.{Entry}
use Rattle.sat_core.specs.Trails.{in_trail, is_false, is_unit, Settled, IsTrail, is_done, from_last}

-- THE LOGS OF A SEARCH. A log is a list of Split lines and of chains; only a chain with which it ends may be cut short.

-- a problem with one more clause
abbrev pub with_clause : PlainProblem → List Lit → PlainProblem
with_clause q c = record { atoms = q.atoms; ints = q.ints; clauses = q.clauses ++ c ∷ [] }

-- a problem with one more atom, for a row
abbrev pub with_row : PlainProblem → Row → PlainProblem
with_row q r = record { atoms = q.atoms ++ OfRow r ∷ []; ints = q.ints; clauses = q.clauses }

-- what stands in the proof kernel where nothing was dropped: the first clauses are those of the problem, the others those of lines
abbrev pub standing : ℕ → PlainProblem → State
standing given q =
    record {
      atoms = q.atoms;
      ints = q.ints;
      given = given;
      slots = map (λ c. Some c) q.clauses;
      empty = list_any is_empty q.clauses;
    }

-- the line that resolves a clause with a reason of a literal
abbrev pub resolve_line : Lit → ℕ → ℕ → Line
resolve_line l reason reached =
    cond l.positive (Resolve reason reached l.atom) (Resolve reached reason l.atom)

-- the clause that it gives
abbrev pub resolved_on : Lit → List Lit → List Lit → List Lit
resolved_on l reason reached =
    cond l.positive (resolvent l.atom reason reached) (resolvent l.atom reached reason)

-- where the log stands: between chains, or in a chain that began with these clauses and this trail and has reached this clause
pub data Phase : Type 0 where
  between : Phase
  within : List (List Lit) → List Entry → List Lit → Phase

-- the line resolves the clause reached with a reason of the last literal of the trail whose negation the clause holds
pub record IsNext (start : List (List Lit)) (trail : List Entry) (now : List (List Lit))
    (reached : List Lit) (line : Line) (gives : List Lit) : Type 0 where
  pub entry : Entry
  pub rest : List Entry
  pub last : from_last trail reached ≡ entry ∷ rest
  pub reason : ℕ
  pub reason_there : reason < length start
  pub reason_unit : is_unit rest (slice_index_or start reason []) entry.lit ≡ true
  pub place : ℕ
  pub place_there : place < length now
  pub place_is : slice_index_or now place [] ≡ reached
  pub line_is : line ≡ resolve_line entry.lit reason place
  pub gives_is : gives ≡ resolved_on entry.lit (slice_index_or start reason []) reached

-- a settled trail for all clauses
abbrev pub IsSettledTrail : List (List Lit) → List Entry → Type 0
IsSettledTrail cs t = IsTrail cs t × Settled t cs

-- rows are held: those of used literals, which stand in a trail, and those of steps, which eliminate
pub record AreHeldRows (atoms : List AtomKind) (t : List Entry) (used : List Lit)
    (steps : List RowStep) (what : Option RangeWhat) (held : List Row) : Type 0 where
  pub in_it : list_all (in_trail t) used ≡ true
  pub held_is : line_rows atoms used steps ≡ Ok held
  pub eliminated : AreEliminations held steps what

-- the values of the names other than one in two held rows are chosen
abbrev pub AreChosenBetween : List Row → ℕ → ℕ → ℕ → List ℤ → Type 0
AreChosenBetween held place low high values =
    AreChosen held (other_names place (row_at held low ∷ row_at held high ∷ [])) values

-- a list of Split lines and chains, with the problem that it makes of the given one
pub data SearchLog (problem : PlainProblem) : List Line → PlainProblem → Phase → Type 0 where
  none : SearchLog problem [] problem between
  conflict : {ls : List Line} {q : PlainProblem} → SearchLog problem ls q between → (t : List Entry)
      → IsTrail q.clauses t → (i : ℕ) → i < length q.clauses
      → is_false t (slice_index_or q.clauses i []) ≡ true
      → SearchLog problem ls q (within q.clauses t (slice_index_or q.clauses i []))
  farkas : {ls : List Line} {q : PlainProblem} → SearchLog problem ls q between → (t : List Entry)
      → IsSettledTrail q.clauses t → (used : List Lit) (steps : List RowStep)
      → is_false t (negations used) ≡ true
      → SearchLog problem (ls ++ Farkas used steps ∷ []) (with_clause q (negations used))
      (within q.clauses t (negations used))
  step : {ls : List Line} {q : PlainProblem} {start : List
      (List Lit)} {t : List Entry} {c : List Lit} → SearchLog problem ls q (within start t c)
      → (l : Line) (d : List Lit) → is_done t c ≡ false → IsNext start t q.clauses c l d
      → SearchLog problem (ls ++ l ∷ []) (with_clause q d) (within start t d)
  finish : {ls : List Line} {q : PlainProblem} {start : List
      (List Lit)} {t : List Entry} {c : List Lit} → SearchLog problem ls q (within start t c)
      → is_done t c ≡ true → SearchLog problem ls q between
  split : {ls : List Line} {q : PlainProblem} → SearchLog problem ls q between → (t : List Entry)
      → IsSettledTrail q.clauses t
      → (place : ℕ) (at : ℤ) (used : List Lit) (steps : List RowStep) (low high : ℕ)
      (values : List ℤ) (held : List Row) → AreHeldRows q.atoms t used steps None held
      → AreChosenBetween held place low high values
      → SearchLog problem (ls ++ Split place at used steps low high values ∷ [])
      (with_row q (at_most place at)) between

-- how many lines of a log are Split lines
abbrev pub is_split : Line → Bool
is_split (Resolve left right pivot) = false
is_split (Farkas used steps) = false
is_split (Split place at used steps low high values) = true
is_split (Drop clauses) = false

-- how many Split lines there are
abbrev pub splits : List Line → ℕ
splits [] = 0
splits (l ∷ ls) = cond (is_split l) (1 + splits ls) (splits ls)

-- a fresh search log, with the problem that it makes of the given one: its lines keep their rules
pub record IsSearched (p : PlainProblem) (log : List Line) (q : PlainProblem) : Type 0 where
  pub runs : run p log ≡ Ok (standing (length p.clauses) q)
  pub fresh : is_fresh (standing (length p.clauses) q) ≡ true
  pub phase : Phase
  pub search : SearchLog p log q phase
