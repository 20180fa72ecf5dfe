-- Where the literals and the decisions of a trail stand; it mirrors src/places.rt and src/decisions.rt.
use Rattle.std.specs.Prelude.{◌≡◌, ℕ, nat_lt, nat_le, Bool, true, false, cond, List, [], ◌∷◌, length, reverse, slice_index_or, Option, Some, None}
use Rattle.std.specs.Option.{option_or}
use Rattle.proof_lines.specs.declared.clause.Lit.{Lit}
use Rattle.proof_lines.specs.Clauses.{same_lit, lit_of}
use Rattle.sat_core.specs.declared.trail.Entry.{Entry}

-- WHERE THE LITERALS AND THE DECISIONS OF A TRAIL STAND. Places are counted from the oldest entry on.

-- the place of the oldest entry with a literal
abbrev pub place_of : List Entry → Lit → Option ℕ
place_of [] l = None
place_of (e ∷ t) l = option_or (place_of t l) (cond (same_lit e.lit l) (Some (length t)) None)

-- there is a place, and it lies before a number
abbrev pub lies_before : ℕ → Option ℕ → Bool
lies_before n (Some i) = nat_lt i n
lies_before n None = false

-- there is a place, and it doesn't lie before a number
abbrev pub lies_from : ℕ → Option ℕ → Bool
lies_from n (Some i) = nat_le n i
lies_from n None = false

-- the places of the literals with one sign, by their atoms
abbrev pub ArePlaces : List (Option ℕ) → Bool → List Entry → Type 0
ArePlaces places sign t = (a : ℕ) → slice_index_or places a None ≡ place_of t (lit_of a sign)

-- the places of decisions, the last first, with that of one entry more, which is a decision where it has no reason
abbrev pub with_decision : Option ℕ → ℕ → List ℕ → List ℕ
with_decision None n places = n ∷ places
with_decision (Some r) n places = places

-- the places of the decisions of a trail, the last first
abbrev pub decision_places : List Entry → List ℕ
decision_places [] = []
decision_places (e ∷ t) = with_decision e.reason (length t) (decision_places t)

-- there is a place
abbrev pub some_place : List ℕ → Bool
some_place [] = false
some_place (n ∷ places) = true

-- the first place of a list, or 0 where there is none
abbrev pub top_place : List ℕ → ℕ
top_place [] = 0
top_place (n ∷ places) = n

-- the places of all literals and of the decisions
pub record IsIndexed (positive negative : List (Option ℕ)) (decisions : List ℕ)
    (t : List Entry) : Type 0 where
  pub positive_places : ArePlaces positive true t
  pub negative_places : ArePlaces negative false t
  pub decisions_places : reverse decisions ≡ decision_places t
