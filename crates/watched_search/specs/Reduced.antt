-- The solver of rows asked about an implicant of a whole trail: what its numbers are tested for, and what is known then.
use Rattle.std.specs.Prelude.{◌≡◌, ℕ, ◌<◌, ℤ, Bool, false, List, slice_index_or}
use Rattle.lin_rows.specs.Rows.{point_of}
use Rattle.proof_lines.specs.declared.problem.AtomKind.{AtomKind}
use Rattle.proof_lines.specs.declared.problem.AtomKind.TheVariants.{Plain, Row as OfRow}
use Rattle.proof_lines.specs.Problems.{PlainProblem, row_true}
use Rattle.sat_core.specs.declared.state.SearchState.{SearchState}
use Rattle.sat_core.specs.Answers.{IsModelOf}
use Rattle.watched_search.specs.declared.reducing.Reduced.{Reduced}
use Rattle.watched_search.specs.declared.reducing.Reduced.TheVariants.{Found, Clash, Nothing}
use Rattle.watched_search.specs.Early.{IsClash}

-- the truth value of an atom; one beyond the list is false
abbrev pub truth_in : List Bool → ℕ → Bool
truth_in truths a = slice_index_or truths a false

-- an atom that stands for a row has the row's truth
abbrev pub HasTruth : AtomKind → List ℤ → Bool → Type 0
HasTruth Plain numbers value = Unit {0}
HasTruth (OfRow r) numbers value = row_true (point_of numbers) r ≡ value

-- each of the first atoms does
abbrev pub HaveTruths : ℕ → List AtomKind → List ℤ → List Bool → Type 0
HaveTruths n atoms numbers truths =
    (a : ℕ) → a < n → HasTruth (slice_index_or atoms a Plain) numbers (truth_in truths a)

-- what is known of a whole trail from an implicant: an interpretation of the problem, or literals of the trail whose rows are
-- refuted, or nothing
abbrev pub IsReduced : Reduced → PlainProblem → SearchState → Type 0
IsReduced (Found i) p s = IsModelOf p i
IsReduced (Clash c) p s = IsClash s.grown s.trail c.used c.steps
IsReduced Nothing p s = Unit {0}
