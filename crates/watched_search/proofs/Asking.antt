use Rattle.std.proofs.Common.{ℕ, Bool, true, List, refl}
use Rattle.lin_rows.specs.Rows.{Row}
use Rattle.theory_api.specs.declared.answer.TheoryAnswer.{TheoryAnswer}
use Rattle.theory_api.specs.declared.answer.TheoryAnswer.TheVariants.{Model, Conflict, Split, Rows, Range, Memory}
use Rattle.theory_api.specs.Laws.{IsAnswer}

-- WHAT ANSWERS OF ANY SOLVER OF ROWS PROMISE

pub answer-loose : (split stop : Bool) (ints : ℕ) (rows : List Row) (a : TheoryAnswer) → IsAnswer split stop ints rows a → IsAnswer true true ints rows a
answer-loose split stop ints rows (Model values) h = h
answer-loose split stop ints rows (Conflict used steps) h = h
answer-loose split stop ints rows (Split place at used steps low high values) h = (refl, h.1)
answer-loose split stop ints rows (Rows used steps) h = (refl, h.1)
answer-loose split stop ints rows (Range used steps what) h = (refl, h.1)
answer-loose split stop ints rows Memory h = tt
