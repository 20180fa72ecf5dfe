-- Trails: what is false, unit and settled under one, and when a list of entries is one.
use Rattle.std.specs.Prelude.{◌≡◌, ℕ, zero, suc, ◌+◌, ◌<◌, ◌==◌, nat_le, Bool, true, false, not, cond, ◌&&◌, ◌||◌, List, [], ◌∷◌, length, slice_index_or, Option, Some, None, is_none}
use Rattle.std.specs.List.{list_any, list_all}
use Rattle.proof_lines.specs.declared.clause.Lit.{Lit}
use Rattle.proof_lines.specs.Clauses.{has, same_lit, flip}
use Rattle.sat_core.specs.declared.trail.Entry.{Entry}

-- A TRAIL is a list of literals that are taken to be true, each with the number of the clause that forced it, or with none where
-- it was decided. The newest stands first, so what stands before a literal is the rest of the list.

-- the literal is in the trail
abbrev pub in_trail : List Entry → Lit → Bool
in_trail t l = list_any (λ e. same_lit e.lit l) t

-- the negation of the literal is in the trail
abbrev pub negated : List Entry → Lit → Bool
negated t l = in_trail t (flip l)

-- an atom is ASSIGNED by a trail: it has a literal of the atom
abbrev pub is_assigned : List Entry → ℕ → Bool
is_assigned t a = list_any (λ e. e.lit.atom == a) t

-- a clause is FALSE under a trail: all its literals have their negations there
abbrev pub is_false : List Entry → List Lit → Bool
is_false t c = list_all (negated t) c

-- all literals of a clause but one have their negations in the trail
abbrev pub others_false : List Entry → List Lit → Lit → Bool
others_false t c l = list_all (λ x. same_lit x l || negated t x) c

-- a clause is UNIT under a trail, with this remaining literal: all its other literals have their negations there, and the trail
-- doesn't assign the atom of this one
abbrev pub is_unit : List Entry → List Lit → Lit → Bool
is_unit t c l = has c l && (others_false t c l && not (is_assigned t l.atom))

-- a clause is neither unit nor false
abbrev pub quiet : List Entry → List Lit → Bool
quiet t c = not (is_false t c) && not (list_any (is_unit t c) c)

-- a trail is SETTLED for some clauses: none is unit or false
abbrev pub Settled : List Entry → List (List Lit) → Type 0
Settled t cs = (i : ℕ) → i < length cs → quiet t (slice_index_or cs i []) ≡ true

-- none of some clauses is false
abbrev pub NoneFalse : List Entry → List (List Lit) → Type 0
NoneFalse t cs = (i : ℕ) → i < length cs → is_false t (slice_index_or cs i []) ≡ false

-- how many literals of a clause don't have their negations in the trail
abbrev pub open_in : List Entry → List Lit → ℕ
open_in t [] = 0
open_in t (l ∷ c) = cond (negated t l) (open_in t c) (1 + open_in t c)

-- a decision has no reason
abbrev pub is_decision : Entry → Bool
is_decision e = is_none e.reason

-- a trail has a decision
abbrev pub has_decision : List Entry → Bool
has_decision t = list_any is_decision t

-- the first of two lists of entries where there is no reason, else the second
abbrev pub after : Option ℕ → List Entry → List Entry → List Entry
after None t s = t
after (Some r) t s = s

-- what stands before the last decision
abbrev pub before_last : List Entry → List Entry
before_last [] = []
before_last (e ∷ t) = after e.reason t (before_last t)

-- a decision stands only where the rest is settled; a forced literal is the remaining one of a clause that is unit there
abbrev pub IsStep : List (List Lit) → List Entry → Lit → Option ℕ → Type 0
IsStep cs t l None = Settled t cs
IsStep cs t l (Some r) = (r < length cs) × (is_unit t (slice_index_or cs r []) l ≡ true)

-- a list is a trail for some clauses: its atoms are different, and each literal is a step over what stands before it
abbrev pub IsTrail : List (List Lit) → List Entry → Type 0
IsTrail cs [] = Unit {0}
IsTrail cs (e ∷ t) = (is_assigned t e.lit.atom ≡ false) × IsStep cs t e.lit e.reason × IsTrail cs t

-- without the newest literal
abbrev pub older : List Entry → List Entry
older [] = []
older (e ∷ t) = t

-- no clause is false before the newest literal
abbrev pub IsCalm : List (List Lit) → List Entry → Type 0
IsCalm cs t = NoneFalse (older t) cs

-- the trail from the last literal on whose negation a clause holds
abbrev pub from_last : List Entry → List Lit → List Entry
from_last [] c = []
from_last (e ∷ t) c = cond (has c (flip e.lit)) (e ∷ t) (from_last t c)

-- a chain is done with a clause: it holds the negation of at most one literal from the last decision on, or, where nothing was
-- decided, no literal at all
abbrev pub is_done : List Entry → List Lit → Bool
is_done t c = cond (has_decision t) (nat_le (open_in (before_last t) c) 1) (nat_le (length c) 0)

-- how many atoms below a number a trail doesn't assign
abbrev pub free : ℕ → List Entry → ℕ
free zero t = 0
free (suc n) t = cond (is_assigned t n) (free n t) (1 + free n t)
