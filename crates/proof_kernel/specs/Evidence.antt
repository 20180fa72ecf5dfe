-- Fresh logs, and the evidence of undecided verdicts over the state after a log.
use Rattle.std.specs.Prelude.{◌+◌, ◌==◌, Bool, not, ◌&&◌, List, length, take, drop, is_some}
use Rattle.std.specs.List.{list_all}
use Rattle.proof_lines.specs.declared.clause.Lit.{Lit}
use Rattle.proof_lines.specs.declared.line.RowStep.{RowStep}
use Rattle.proof_lines.specs.declared.line.RangeWhat.{RangeWhat}
use Rattle.proof_lines.specs.Clauses.{holds_both_ways}
use Rattle.line_rows.specs.Steps.{line_rows}
use Rattle.log_freshness.specs.Freshness.{live_of, each_new}
use Rattle.proof_kernel.specs.Rules.{State}
use Rattle.line_rows.specs.Evidence.{row_limit, rows_shown, range_shown}

-- A FRESH LOG.

-- no line dropped a clause, and the clause of each line is new among the problem's clauses and those of earlier lines
abbrev pub is_fresh : State → Bool
is_fresh s =
    list_all (λ o. is_some o) s.slots && each_new (live_of (take s.given s.slots))
    (live_of (drop s.given s.slots))

-- THE EVIDENCE AFTER A LOG. In both, no atom is used both ways, and the rows and steps keep the rules of a Farkas line but for its
-- contradiction.

-- too many rows, all different
abbrev pub rows_hold : State → List Lit → List RowStep → Bool
rows_hold s used steps =
    (length used + length steps == row_limit)
    && (not (holds_both_ways used) && rows_shown steps (line_rows s.atoms used steps))

-- a number beyond the range
abbrev pub range_holds : State → List Lit → List RowStep → RangeWhat → Bool
range_holds s used steps what =
    not (holds_both_ways used) && range_shown steps what (line_rows s.atoms used steps)
