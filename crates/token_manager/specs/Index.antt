-- The grants that can conflict with the calls of an operation. This serves the speed of the code.
use Rattle.std.specs.Prelude.{◌≡◌, ℕ, suc, ◌≤◌, Bool, true, false, cond, List, [], ◌∷◌, Option, None, Some, length, take, get_or, slice_get}
use Rattle.token_rules.specs.declared.rivals.Rivalry.{Rivalry}
use Rattle.token_rules.specs.declared.rivals.Rivalry.TheVariants.{Never, Tied, Free}
use Rattle.token_protocol.specs.declared.granted.Granted.{Granted}
use Rattle.token_manager.specs.declared.candidates.Candidates.{Candidates}

-- whether there can be a conflict
abbrev pub may_happen : Rivalry → Bool
may_happen Never = false
may_happen (Tied j k) = true
may_happen Free = true

-- calls of this operation can conflict, as far as the rivals say
abbrev pub can_conflict : List Rivalry → ℕ → Bool
can_conflict rivals op = may_happen (get_or rivals op Free)

-- the numbers, from one on, of the grants of calls that can conflict
abbrev pub numbers_from : List Rivalry → ℕ → List Granted → List ℕ
numbers_from rivals k [] = []
numbers_from rivals k (g ∷ gs) =
    cond (can_conflict rivals g.call.op)
    (k ∷ numbers_from rivals (suc k) gs)
    (numbers_from rivals (suc k) gs)

-- a list has the numbers among the grants that were gone through
pub record IsUpTo (granted : List Granted) (list : Candidates) : Type 0 where
  pub within : list.gone_through ≤ length granted
  pub numbers : list.numbers ≡ numbers_from list.rivals 0 (take list.gone_through granted)

-- each list of an index has the numbers among the grants that were gone through
abbrev pub AreUpTo : List Granted → List Candidates → Type 0
AreUpTo granted lists =
    (op : ℕ) (list : Candidates) → slice_get lists op ≡ Some list → IsUpTo granted list

-- the numbers on the list of an operation
abbrev pub numbers_in : Option Candidates → List ℕ
numbers_in None = []
numbers_in (Some list) = list.numbers

-- the numbers that an index lists for an operation
abbrev pub numbers_at : List Candidates → ℕ → List ℕ
numbers_at lists op = numbers_in (slice_get lists op)
