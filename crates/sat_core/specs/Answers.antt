-- What the search answers, and what each answer promises.
use Rattle.std.specs.Prelude.{◌≡◌, ℕ, ◌+◌, ◌^◌, ◌<◌, ◌≤◌, Bool, true, false, List, length, map, slice_index_or, Option, Some, None, Ok}
use Rattle.std.specs.List.{list_all}
use Rattle.lin_rows.specs.Rows.{Row}
use Rattle.proof_lines.specs.declared.clause.Lit.{Lit}
use Rattle.proof_lines.specs.declared.problem.AtomKind.{AtomKind}
use Rattle.proof_lines.specs.declared.problem.Interpretation.{Interpretation}
use Rattle.proof_lines.specs.declared.line.RowStep.{RowStep}
use Rattle.proof_lines.specs.declared.line.RangeWhat.{RangeWhat}
use Rattle.proof_lines.specs.declared.line.Line.{Line}
use Rattle.proof_lines.specs.declared.line.RowsEvidence.{RowsEvidence}
use Rattle.proof_lines.specs.declared.line.RangeEvidence.{RangeEvidence}
use Rattle.proof_lines.specs.Problems.{PlainProblem, HasNoInterpretation, meaning_of, makes_true, atom_true}
use Rattle.line_rows.specs.Steps.{lit_row}
use Rattle.proof_kernel.specs.Rules.{State, run}
use Rattle.line_rows.specs.Evidence.{in_state}
use Rattle.proof_kernel.specs.Answers.{lines_judged, rows_judged, range_judged}
use Rattle.theory_api.specs.Laws.{HasChosen}
use Rattle.sat_core.specs.declared.trail.Entry.{Entry}
use Rattle.sat_core.specs.Forcing.{AreRefuted, AreSatisfied, are_plain}
use Rattle.sat_core.specs.SearchLogs.{IsSettledTrail, AreHeldRows, IsSearched, splits}
use Rattle.sat_core.specs.declared.answer.Answer.{Answer}
use Rattle.sat_core.specs.declared.answer.Answer.TheVariants.{Unsat, Sat, Lines, Rows, Range, Memory}

-- WHAT THE SEARCH ANSWERS. `split` and `stop` are what its solver of rows may do.

-- rows stand for literals of a problem, one for each: the atom's row, or for a negative literal its negation
abbrev pub AreRowsOf : List AtomKind → List Lit → List Row → Type 0
AreRowsOf atoms lits rows = map (lit_row atoms) lits ≡ map (λ r. Some r) rows

-- a log has a Split line only where the solver may split, and there are few lines: each one that isn't a Split line gives a new
-- clause without an atom both ways, of which there are 3^m over m atoms
pub record IsShort (split : Bool) (p : PlainProblem) (log : List Line) : Type 0 where
  pub unsplit : split ≡ false → splits log ≡ 0
  pub plain : are_plain p.atoms ≡ true → splits log ≡ 0
  pub few : length log ≤ 3 ^ (length p.atoms + splits log) + splits log

-- no atom stands for a row, and forced literals satisfy all clauses
abbrev pub IsEasy : PlainProblem → Type 0
IsEasy p = (are_plain p.atoms ≡ true) × AreSatisfied p.clauses

-- UNSAT: a log of at most `budget` lines that the proof kernel accepts
pub record IsRefuted (split : Bool) (p : PlainProblem) (budget : ℕ) (log : List Line) : Type 0 where
  pub state : State
  pub runs : run p log ≡ Ok state
  pub empty : state.empty ≡ true
  pub within : length log ≤ budget
  pub short : IsShort split p log
  pub uneasy : IsEasy p → ⊥

-- SAT: numbers in the range of a state, and truth values, such that every clause is true and each atom of a row is true exactly
-- where its row is
pub record IsModelOf (p : PlainProblem) (i : Interpretation) : Type 0 where
  pub truths : length i.truths ≡ length p.atoms
  pub ints : length i.ints ≡ p.ints
  pub in_range : list_all in_state i.ints ≡ true
  pub makes_true : makes_true (meaning_of i) p ≡ true
  pub atoms_true : (a : ℕ) → a < length p.atoms
      → atom_true (meaning_of i) p.atoms a ≡ slice_index_or i.truths a false
  pub unrefuted : AreRefuted p.clauses → ⊥

-- LINES: a fresh search log of exactly `budget` lines
pub record IsExhausted (split : Bool) (p : PlainProblem) (budget : ℕ)
    (log : List Line) : Type 0 where
  pub judged : lines_judged p log budget ≡ Ok tt
  pub whole : length log ≡ budget
  pub makes : PlainProblem
  pub searched : IsSearched p log makes
  pub short : IsShort split p log
  pub uneasy : IsEasy p → ⊥
  pub hard : AreRefuted p.clauses → length p.atoms ≤ budget → ⊥

-- the literals of a stop stand in a settled trail for all clauses of the problem and of the log, and the steps eliminate
pub record IsStopped (split : Bool) (p : PlainProblem) (budget : ℕ) (log : List Line)
    (used : List Lit) (steps : List RowStep) (what : Option RangeWhat)
    (held : List Row) : Type 0 where
  pub within : length log ≤ budget
  pub makes : PlainProblem
  pub searched : IsSearched p log makes
  pub trail : List Entry
  pub settled : IsSettledTrail makes.clauses trail
  pub met : AreHeldRows makes.atoms trail used steps what held
  pub short : IsShort split p log
  pub uneasy : IsEasy p → ⊥
  pub unrefuted : AreRefuted p.clauses → ⊥

-- ROWS: evidence that the rows became too many
pub record IsTooLong (split : Bool) (p : PlainProblem) (budget : ℕ)
    (e : RowsEvidence) : Type 0 where
  pub judged : rows_judged p e ≡ Ok tt
  pub held : List Row
  pub stopped : IsStopped split p budget e.log e.used e.steps None held

-- RANGE: evidence of a number beyond its range, with chosen values
pub record IsTooLarge (split : Bool) (p : PlainProblem) (budget : ℕ)
    (e : RangeEvidence) : Type 0 where
  pub judged : range_judged p e ≡ Ok tt
  pub held : List Row
  pub stopped : IsStopped split p budget e.log e.used e.steps (Some e.what) held
  pub chosen : HasChosen held e.what

-- Unsat says that no interpretation makes all clauses of the problem true
abbrev pub ShowsNone : PlainProblem → Answer → Type 0
ShowsNone p (Unsat log) = HasNoInterpretation p
ShowsNone p (Sat i) = Unit {0}
ShowsNone p (Lines log) = Unit {0}
ShowsNone p (Rows e) = Unit {0}
ShowsNone p (Range e) = Unit {0}
ShowsNone p Memory = Unit {0}

-- what an answer promises; want of memory may come at any time
abbrev pub IsAnswer : Bool → Bool → PlainProblem → ℕ → Answer → Type 0
IsAnswer split stop p budget (Unsat log) = IsRefuted split p budget log
IsAnswer split stop p budget (Sat i) = IsModelOf p i
IsAnswer split stop p budget (Lines log) = IsExhausted split p budget log
IsAnswer split stop p budget (Rows e) = (stop ≡ true) × IsTooLong split p budget e
IsAnswer split stop p budget (Range e) = (stop ≡ true) × IsTooLarge split p budget e
IsAnswer split stop p budget Memory = Unit {0}
