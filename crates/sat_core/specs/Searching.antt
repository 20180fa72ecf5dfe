-- Where a search stands: the states of its private functions, which a reader of its answers passes by.
use Rattle.std.specs.Prelude.{◌≡◌, ◌⊎◌, ℕ, ◌+◌, ◌-◌, ◌*◌, ◌^◌, ◌<◌, ◌≤◌, Bool, true, false, not, List, [], ◌∷◌, length, slice_index_or, slice_get, Some, Ok, ◌==◌}
use Rattle.std.specs.List.{list_all, list_any}
use Rattle.proof_lines.specs.declared.clause.Lit.{Lit}
use Rattle.proof_lines.specs.declared.line.Line.{Line}
use Rattle.lin_rows.specs.Rows.{Row}
use Rattle.proof_lines.specs.declared.problem.AtomKind.{AtomKind}
use Rattle.proof_lines.specs.declared.problem.AtomKind.TheVariants.{Plain, Row as OfRow}
use Rattle.proof_lines.specs.declared.line.RowStep.{RowStep}
use Rattle.proof_lines.specs.declared.line.Line.TheVariants.{Farkas}
use Rattle.proof_lines.specs.Clauses.{negations, distinct}
use Rattle.proof_lines.specs.Forced.{Forced}
use Rattle.line_rows.specs.Steps.{is_negative}
use Rattle.proof_lines.specs.Problems.{PlainProblem, fits}
use Rattle.proof_kernel.specs.Rules.{run, next}
use Rattle.sat_core.specs.declared.trail.Entry.{Entry}
use Rattle.sat_core.specs.Trails.{in_trail, has_decision, is_decision, before_last, open_in, is_assigned, is_false, is_unit, is_done, Settled, NoneFalse, IsTrail, IsCalm, free}
use Rattle.sat_core.specs.Fresh.{IsFresh}
use Rattle.sat_core.specs.Chains.{Grows, Analyzing, Begins}
use Rattle.sat_core.specs.SearchLogs.{between, within, SearchLog, standing, splits, with_clause}
use Rattle.sat_core.specs.Forcing.{AreRefuted, are_plain}
use Rattle.sat_core.specs.declared.finding.Found.{Found}
use Rattle.sat_core.specs.declared.finding.Found.TheVariants.{Conflict, Forced as OfForced, Nothing}
use Rattle.sat_core.specs.declared.analyzing.Chained.{Chained}
use Rattle.sat_core.specs.declared.analyzing.Chained.TheVariants.{Done, BudgetExhausted, Memory}
use Rattle.sat_core.specs.declared.analyzing.Analyzed.{Analyzed}
use Rattle.sat_core.specs.declared.analyzing.Analyzed.TheVariants.{Empty, Cut, BudgetExhausted as ExhaustedThere, Memory as NoMemory}
use Rattle.sat_core.specs.declared.state.SearchState.{SearchState}
use Rattle.sat_core.specs.Answers.{AreRowsOf, IsEasy, IsRefuted, IsExhausted}

-- WHERE A SEARCH STANDS. These words are the search's own: its private functions hand them on.

-- what stands in the way of a decision
abbrev pub IsFound : Found → List (List Lit) → List Entry → Type 0
IsFound (Conflict i) cs t =
    (i < length cs) × (is_false t (slice_index_or cs i []) ≡ true)
    × (distinct (slice_index_or cs i []) ≡ true)
IsFound (OfForced i l) cs t =
    (i < length cs) × (is_unit t (slice_index_or cs i []) l ≡ true) × NoneFalse t cs
IsFound Nothing cs t = Settled t cs × NoneFalse t cs

-- what a search is for: its problem, and whether its solver of rows may split
pub record Aim : Type 0 where
  pub problem : PlainProblem
  pub split : Bool

-- a state with another trail
abbrev pub with_trail : SearchState → List Entry → SearchState
with_trail s t = record { grown = s.grown; trail = t; log = s.log }

-- the lines so far make `q` of the problem
pub record Keeps (a : Aim) (budget : ℕ) (q : PlainProblem) (ls : List Line) : Type 0 where
  pub room : length ls ≤ budget
  pub runs : run a.problem ls ≡ Ok (standing (length a.problem.clauses) q)
  pub fresh : IsFresh (length a.problem.clauses) q.clauses
  pub first : Grows a.problem.clauses q.clauses
  pub atoms : (i : ℕ) → i < length a.problem.atoms
      → slice_get q.atoms i ≡ slice_get a.problem.atoms i
  pub atom_count : length q.atoms ≡ length a.problem.atoms + splits ls
  pub ints : q.ints ≡ a.problem.ints
  pub clause_count : length q.clauses + splits ls ≡ length a.problem.clauses + length ls
  pub unsplit : a.split ≡ false → q.atoms ≡ a.problem.atoms
  pub plain : are_plain a.problem.atoms ≡ true → q.atoms ≡ a.problem.atoms
  pub fits : fits q ≡ true
  pub few_clauses : length q.clauses < 2 ^ 32
  pub few_atoms : length q.atoms < 2 ^ 32

-- a state BETWEEN CHAINS: its trail is one for all clauses, no clause is false before its newest literal, and while forced literals
-- alone decide, nothing else was done
pub record InSearch (a : Aim) (budget : ℕ) (s : SearchState) : Type 0 where
  pub keeps : Keeps a budget s.grown s.log
  pub trail : IsTrail s.grown.clauses s.trail
  pub calm : IsCalm s.grown.clauses s.trail
  pub below : (x : ℕ) → is_assigned s.trail x ≡ true → x < length s.grown.atoms
  pub search : SearchLog a.problem s.log s.grown between
  pub early : AreRefuted a.problem.clauses → (has_decision s.trail ≡ false) × (s.log ≡ [])
      × (s.grown.clauses ≡ a.problem.clauses)
  pub easy : IsEasy a.problem → (s.log ≡ []) × (s.grown.clauses ≡ a.problem.clauses)
      × (has_decision s.trail ≡ false → (l : Lit) → in_trail s.trail l ≡ true
      → Forced a.problem.clauses l)

-- a state IN A CHAIN, which has reached the clause with number i; the log had `before` lines when the clause was met with which the
-- chain began
pub record InChain (a : Aim) (budget before : ℕ) (s : SearchState) (i : ℕ) : Type 0 where
  pub keeps : Keeps a budget s.grown s.log
  pub start : List (List Lit)
  pub from : List Entry
  pub ex : Analyzing start from s.grown.clauses s.trail i
  pub below : (x : ℕ) → is_assigned s.trail x ≡ true → x < length s.grown.atoms
  pub search : SearchLog a.problem s.log s.grown
      (within start from (slice_index_or s.grown.clauses i []))
  pub since : before ≤ length s.log
  pub grew : is_done from (slice_index_or s.grown.clauses i []) ≡ true → before < length s.log
  pub early : AreRefuted a.problem.clauses → (has_decision s.trail ≡ false)
      × (length s.log + length s.trail ≤ length a.problem.atoms)
  pub uneasy : IsEasy a.problem → ⊥

-- a chain on its way, whatever search it belongs to
pub record IsChain (budget : ℕ) (s : SearchState) (i : ℕ) : Type 0 where
  pub aim : Aim
  pub before : ℕ
  pub chain : InChain aim budget before s i

-- a trail is what stands BEFORE one of the decisions of another
abbrev pub IsBefore : List Entry → List Entry → Type 0
IsBefore u [] = ⊥
IsBefore u (e ∷ t) = ((is_decision e ≡ true) × (u ≡ t)) ⊎ IsBefore u t

-- A BACKJUMP from a trail for some clauses to a shorter one for more clauses, none of which is false: the further clauses are open in
-- two literals before the last decision that is left
pub record IsBackjump (cs : List (List Lit)) (t : List Entry) (ds : List (List Lit))
    (u : List Entry) : Type 0 where
  pub shorter : IsBefore u t
  pub grows : Grows cs ds
  pub none_false : NoneFalse u ds
  pub wide : has_decision u ≡ true → (k : ℕ) → length cs ≤ k → k < length ds
      → 2 ≤ open_in (before_last u) (slice_index_or ds k [])

-- whatever search a chain belongs to, its going on to another state belongs to it too, and is of the same chain
abbrev pub GoesOn : ℕ → SearchState → ℕ → SearchState → ℕ → Type 0
GoesOn budget s i n j =
    (a : Aim) (before : ℕ) (x : InChain a budget before s i)
    → (y : InChain a budget before n j) × (y.start ≡ x.start) × (y.from ≡ x.from)

-- how the resolving of a chain ended, and in which state
abbrev pub IsChained : Chained → ℕ → SearchState → ℕ → SearchState → Type 0
IsChained (Done j) budget s i n =
    GoesOn budget s i n j × (is_done n.trail (slice_index_or n.grown.clauses j []) ≡ true)
IsChained (BudgetExhausted j) budget s i n =
    GoesOn budget s i n j × (is_done n.trail (slice_index_or n.grown.clauses j []) ≡ false)
    × (budget ≤ length n.log)
IsChained Memory budget s i n = Unit {0}

-- the trail is cut back after a chain, whatever search it belongs to
abbrev pub IsBackjumpAfter : SearchState → ℕ → SearchState → Type 0
IsBackjumpAfter s i n =
    (a : Aim) (budget before : ℕ) (x : InChain a budget before s i)
    → is_done s.trail (slice_index_or s.grown.clauses i []) ≡ true → has_decision s.trail ≡ true
    → InSearch a budget n × (before < length n.log)
    × IsBackjump x.start s.trail n.grown.clauses n.trail

-- the trail is cut back to where the chain of a false clause may begin
abbrev pub IsLevel : List Entry → List Entry → List Lit → Type 0
IsLevel t u c =
    (cs : List (List Lit)) → IsTrail cs t → Settled t cs → is_false t c ≡ true
    → Begins cs u c × ((x : ℕ) → is_assigned u x ≡ true → is_assigned t x ≡ true)
    × ((u ≡ t) ⊎ IsBefore u t)

-- how a chain ended, whatever search it belongs to, and in which state
abbrev pub IsAnalyzed : Analyzed → ℕ → SearchState → ℕ → SearchState → Type 0
IsAnalyzed Empty budget s i n =
    (a : Aim) (before : ℕ) → InChain a budget before s i
    → IsRefuted a.split a.problem budget n.log
IsAnalyzed Cut budget s i n =
    (a : Aim) (before : ℕ) (x : InChain a budget before s i)
    → InSearch a budget n × (before < length n.log)
    × IsBackjump x.start s.trail n.grown.clauses n.trail
IsAnalyzed ExhaustedThere budget s i n =
    (a : Aim) (before : ℕ) → InChain a budget before s i
    → IsExhausted a.split a.problem budget n.log
IsAnalyzed NoMemory budget s i n = Unit {0}

-- what is left to do: lines, and then atoms. There are never more atoms than the problem's and one for each line
abbrev pub work : Aim → ℕ → SearchState → ℕ
work a budget s =
    (budget - length s.log) * (length a.problem.atoms + budget + 1)
    + free (length s.grown.atoms) s.trail

-- the literals with some numbers
abbrev pub lit_at : List Lit → ℕ → Lit
lit_at lits u = slice_index_or lits u (record { atom = 0; positive = true })

-- the literals of a trail over the first atoms that stand for rows, and their rows
pub record IsRowAssignment (atoms : List AtomKind) (t : List Entry) (first : ℕ) (lits : List Lit)
    (rows : List Row) : Type 0 where
  pub stand : AreRowsOf atoms lits rows
  pub in_it : list_all (in_trail t) lits ≡ true
  pub covers : (x : ℕ) (r : Row) → x < first → slice_get atoms x ≡ Some (OfRow r)
      → list_any (λ l. l.atom == x) lits ≡ true

-- a Farkas line over literals of a settled trail keeps its rule, in whatever search
pub record IsRefutation (budget : ℕ) (s : SearchState) (used : List Lit)
    (steps : List RowStep) : Type 0 where
  pub aim : Aim
  pub search : InSearch aim budget s
  pub settled : Settled s.trail s.grown.clauses
  pub in_it : list_all (in_trail s.trail) used ≡ true
  pub taken : (given : ℕ) → next (standing given s.grown) (Farkas used steps)
      ≡ Ok (standing given (with_clause s.grown (negations used)))
  pub uneasy : (a : Aim) → InSearch a budget s → IsEasy a.problem → ⊥

-- how the learning from rows in conflict ended, whatever search it belongs to, and in which state
abbrev pub IsLearned : Analyzed → ℕ → SearchState → SearchState → Type 0
IsLearned Empty budget s n =
    (a : Aim) → InSearch a budget s → IsRefuted a.split a.problem budget n.log
IsLearned Cut budget s n =
    (a : Aim) → InSearch a budget s → InSearch a budget n × (length s.log < length n.log)
    × IsBackjump s.grown.clauses s.trail n.grown.clauses n.trail
IsLearned ExhaustedThere budget s n =
    (a : Aim) → InSearch a budget s → IsExhausted a.split a.problem budget n.log
IsLearned NoMemory budget s n = Unit {0}

-- THE SIGN OF A DECISION: an atom's row is decided by its truth where all numbers are 0, and a plain atom to true.
abbrev pub is_true_at_zero : AtomKind → Bool
is_true_at_zero Plain = true
is_true_at_zero (OfRow r) = not (is_negative r.bound)
