-- The rules of a log: what stands after a line, or the first rule that the line breaks.
use Rattle.std.specs.Prelude.{◌≡◌, ℕ, ◌<◌, ◌≤◌, ◌^◌, ◌+◌, nat_lt, ℤ, Bool, true, false, not, ◌&&◌, ◌||◌, List, [], ◌∷◌, ◌++◌, length, map, slice_index_or, Option, Some, None, is_some, Result, Ok, Err}
use Rattle.std.specs.List.{list_any, list_all}
use Rattle.lin_rows.specs.Rows.{Row}
use Rattle.proof_lines.specs.declared.clause.Lit.{Lit}
use Rattle.proof_lines.specs.declared.problem.AtomKind.{AtomKind}
use Rattle.proof_lines.specs.declared.problem.AtomKind.TheVariants.{Row as OfRow}
use Rattle.proof_lines.specs.declared.line.RowStep.{RowStep}
use Rattle.proof_lines.specs.declared.line.Line.{Line}
use Rattle.proof_lines.specs.declared.line.Line.TheVariants.{Resolve, Farkas, Split, Drop}
use Rattle.proof_lines.specs.declared.line.Why.{Why}
use Rattle.proof_lines.specs.declared.line.Why.TheVariants.{Place, Pivot, Contradiction, SplitAgain, Dropped}
use Rattle.proof_lines.specs.Clauses.{has, lit_of, resolvent, negations, is_empty, all_true}
use Rattle.proof_lines.specs.Problems.{PlainProblem, Meaning, atom_true, atoms_below, names_below, has_good_row}
use Rattle.line_rows.specs.Refusals.{need, then_}
use Rattle.line_rows.specs.Steps.{line_rows, ends_badly, row_at}
use Rattle.line_rows.specs.Splits.{split_fits, split_cause, at_most, is_at_most}
use Rattle.proof_lines.specs.Numbers.{are_different}
use Rattle.log_freshness.specs.Clearing as clearing
use Rattle.log_freshness.specs.Freshness.{live_of}

-- What stands after some lines: the atoms, the number of integer names, how many clauses the problem has, the clauses by their
-- numbers without the dropped ones, and whether an empty clause was ever among them.
pub record State : Type 0 where
  pub atoms : List AtomKind
  pub ints : ℕ
  pub given : ℕ
  pub slots : List (Option (List Lit))
  pub empty : Bool

-- what a kernel keeps of its state
pub record StateFits (s : State) : Type 0 where
  pub few_clauses : length s.slots < 2 ^ 32
  pub few_atoms : length s.atoms < 2 ^ 32
  pub given_first : s.given ≤ length s.slots
  pub atoms_named : list_all (atoms_below (length s.atoms)) (live_of s.slots) ≡ true
  pub places_named : list_all (names_below s.ints) s.atoms ≡ true
  pub rows_good : list_all has_good_row s.atoms ≡ true

-- what stands before the first line
abbrev pub start : PlainProblem → State
start p =
    record {
      atoms = p.atoms;
      ints = p.ints;
      given = length p.clauses;
      slots = map (λ c. Some c) p.clauses;
      empty = list_any is_empty p.clauses;
    }

-- the clause of a number, where it is there and wasn't dropped
abbrev pub live_clause : State → ℕ → Option (List Lit)
live_clause s i = slice_index_or s.slots i None

-- a clause has this number and isn't dropped
abbrev pub is_live : State → ℕ → Bool
is_live s i = is_some (live_clause s i)

-- the clause, or the empty one where there is none
abbrev pub clause_or_empty : Option (List Lit) → List Lit
clause_or_empty (Some c) = c
clause_or_empty None = []

-- the clause of a number, or the empty one where none is live
abbrev pub clause_at : State → ℕ → List Lit
clause_at s i = clause_or_empty (live_clause s i)

-- the state with one more clause
abbrev pub grown : State → List Lit → State
grown s c =
    record {
      atoms = s.atoms;
      ints = s.ints;
      given = s.given;
      slots = s.slots ++ Some c ∷ [];
      empty = s.empty || is_empty c;
    }

-- RESOLVE. Place: `left` or `right` isn't below the number of clauses, or `pivot` isn't below the number of atoms. Dropped: an
-- earlier line dropped `left` or `right`. Pivot: the left clause lacks `+pivot`, or the right one lacks `-pivot`.
abbrev pub resolved : State → ℕ → ℕ → ℕ → Result State Why
resolved s left right pivot =
    need (nat_lt left (length s.slots) && (nat_lt right (length s.slots)
    && nat_lt pivot (length s.atoms))) Place
    (need (is_live s left && is_live s right) Dropped
    (need (has (clause_at s left) (lit_of pivot true)
    && has (clause_at s right) (lit_of pivot false)) Pivot
    (Ok (grown s (resolvent pivot (clause_at s left) (clause_at s right))))))

-- FARKAS. The rules of the used literals and of the steps, then Contradiction. The clause is the opposites of the used literals.
abbrev pub combined_after : State → List Lit → List Row → Result State Why
combined_after s used rows = need (ends_badly rows) Contradiction (Ok (grown s (negations used)))

-- a Farkas line, by the rows of its used literals and of its steps
abbrev pub combined : State → List Lit → List RowStep → Result State Why
combined s used steps = then_ (line_rows s.atoms used steps) (combined_after s used)

-- SPLIT, by the order of its tests.

-- the state with one more atom, which has this row
abbrev pub named : State → Row → State
named s r =
    record {
      atoms = s.atoms ++ OfRow r ∷ [];
      ints = s.ints;
      given = s.given;
      slots = s.slots;
      empty = s.empty;
    }

-- SplitAgain: an atom has exactly the row `place <= at`
abbrev pub split_after : State → ℕ → ℤ → List Row → ℕ → ℕ → List ℤ → Result State Why
split_after s place at rows low high values =
    need (split_fits rows place low high values) Place
    (need (not (list_any (is_at_most place at) s.atoms)) SplitAgain
    (then_ (split_cause place at (row_at rows low) (row_at rows high) values)
    (λ _. Ok (named s (at_most place at)))))

-- the place isn't below the number of integer names; the rules of the used literals and of the steps; then the rest
abbrev pub split : State → ℕ → ℤ → List Lit → List RowStep → ℕ → ℕ → List ℤ → Result State Why
split s place at used steps low high values =
    need (nat_lt place s.ints) Place
    (then_ (line_rows s.atoms used steps) (λ rows. split_after s place at rows low high values))

-- DROP, by the order of its tests.

-- the line names a number
abbrev pub is_some_number : List ℕ → Bool
is_some_number [] = false
is_some_number (n ∷ ns) = true

-- the clauses without those of some numbers
abbrev pub cleared : List (Option (List Lit)) → List ℕ → List (Option (List Lit))
cleared slots ns = clearing.cleared slots ns

-- the state with the clauses of these numbers dropped
abbrev pub without_clauses : State → List ℕ → State
without_clauses s ns =
    record {
      atoms = s.atoms;
      ints = s.ints;
      given = s.given;
      slots = cleared s.slots ns;
      empty = s.empty;
    }

-- Place: the list is empty, or one of its numbers isn't below the number of clauses. Dropped: a number stands in it twice,
-- or an earlier line dropped it.
abbrev pub dropped : State → List ℕ → Result State Why
dropped s ns =
    need (is_some_number ns && list_all (λ n. nat_lt n (length s.slots)) ns) Place
    (need (are_different ns && list_all (is_live s) ns) Dropped
    (Ok (without_clauses s ns)))

-- THE RULES: what stands after a line, or the first rule that it breaks.
abbrev pub next : State → Line → Result State Why
next s (Resolve left right pivot) = resolved s left right pivot
next s (Farkas used steps) = combined s used steps
next s (Split place at used steps low high values) = split s place at used steps low high values
next s (Drop clauses) = dropped s clauses

-- what stands after some lines, or the number of the first that breaks a rule, counted on from k, with that rule
abbrev pub run_from : ℕ → State → List Line → Result State (ℕ × Why)
run_from k s [] = Ok s
run_from k s (l ∷ ls) = elim (next s l) [ Ok t ↦ run_from (k + 1) t ls | Err w ↦ Err (k, w) ]

-- a log, from the first line on
abbrev pub run : PlainProblem → List Line → Result State (ℕ × Why)
run p ls = run_from 0 (start p) ls

-- WHAT A LOG MEANS. The clauses that stand are true, and none was empty, dropped or not.
abbrev pub holds : Meaning → State → Bool
holds m s = all_true (atom_true m s.atoms) (live_of s.slots) && not s.empty
