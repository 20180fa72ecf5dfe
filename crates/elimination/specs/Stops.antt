-- Why an elimination stops, and what stands then.
use Rattle.std.specs.Prelude.{List}
use Rattle.lin_rows.specs.Rows.{Row}
use Rattle.theory_api.specs.Laws.{IsConflict, IsTooMany, IsBeyond}
use Rattle.elimination.specs.declared.tableau.Tableau.{Tableau}
use Rattle.elimination.specs.declared.stop.Stop.{Stop}
use Rattle.elimination.specs.declared.stop.Stop.TheVariants.{Contradiction, Full, Gap, Beyond, Memory}

-- while rows are taken and places are eliminated there are no gaps yet
abbrev pub IsEarlyStop : List Row → Tableau → Stop → Type 0
IsEarlyStop rows t Contradiction = IsConflict rows t.used t.steps
IsEarlyStop rows t Full = IsTooMany rows t.used t.steps
IsEarlyStop rows t (Gap place at low high values) = ⊥
IsEarlyStop rows t (Beyond what) = IsBeyond rows t.used t.steps what
IsEarlyStop rows t Memory = Unit {0}
