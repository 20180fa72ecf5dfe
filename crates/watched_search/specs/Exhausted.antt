-- When a search has spent its budget, and another order of decisions is tried.
use Rattle.std.specs.Prelude.{Bool, true, false}
use Rattle.sat_core.specs.declared.answer.Answer.{Answer}
use Rattle.sat_core.specs.declared.answer.Answer.TheVariants.{Unsat, Sat, Lines, Rows, Range, Memory}

-- the budget of lines was spent
abbrev pub is_exhausted : Answer → Bool
is_exhausted (Unsat log) = false
is_exhausted (Sat i) = false
is_exhausted (Lines log) = true
is_exhausted (Rows e) = false
is_exhausted (Range e) = false
is_exhausted Memory = false
