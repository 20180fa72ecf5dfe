-- Why a search for values stops, and what stands then.
use Rattle.std.specs.Prelude.{ℕ, List}
use Rattle.lin_rows.specs.Rows.{Row}
use Rattle.theory_api.specs.Laws.{IsConflict, IsSplit, IsTooMany, IsBeyond}
use Rattle.elimination.specs.declared.tableau.Tableau.{Tableau}
use Rattle.elimination.specs.declared.stop.Stop.{Stop}
use Rattle.elimination.specs.declared.stop.Stop.TheVariants.{Contradiction, Full, Gap, Beyond, Memory}

-- WHY A SEARCH FOR VALUES STOPS: each reason stands with its certificate in the tableau.
abbrev pub IsStop : ℕ → List Row → Tableau → Stop → Type 0
IsStop ints rows t Contradiction = IsConflict rows t.used t.steps
IsStop ints rows t Full = IsTooMany rows t.used t.steps
IsStop ints rows t (Gap place at low high values) =
    IsSplit ints rows place at t.used t.steps low high values
IsStop ints rows t (Beyond what) = IsBeyond rows t.used t.steps what
IsStop ints rows t Memory = Unit {0}
