-- Values beyond the range of a state: which one a refusal names.
use Rattle.std.specs.Prelude.{◌≡◌, ℕ, suc, ◌<◌, ℤ, Bool, true, false, cond, List, [], ◌∷◌, ◌++◌, get_or, Option, None, Some}
use Rattle.std.specs.List.{list_all}
use Rattle.spec_core.specs.State.{Listing}
use Rattle.spec_core.specs.Fits.{in_state_range}

-- A value at a key of a counter.
pub record Beyond : Type 0 where
  pub counter : ℕ
  pub key : List ℕ
  pub value : ℤ

-- the values at these keys are in the range of a state
abbrev pub all_in_range : List (List ℕ × ℤ) → Bool
all_in_range es = list_all (λ (e : List ℕ × ℤ). in_state_range e.1) es

-- all values of a listing are in the range of a state
abbrev pub AllInRange : Listing → Type 0
AllInRange s = (k : ℕ) → all_in_range (get_or s.counters k []) ≡ true

-- The first value of a listing that is beyond the range of a state: it is listed at its key by its counter, it is not in range, and
-- all before it are, those of the counters before and those that its counter lists before.
pub record IsFirstBeyond (s : Listing) (b : Beyond) : Type 0 where
  pub before : List (List ℕ × ℤ)
  pub behind : List (List ℕ × ℤ)
  pub listed : get_or s.counters b.counter [] ≡ before ++ (b.key, b.value) ∷ behind
  pub out : in_state_range b.value ≡ false
  pub in_counter : all_in_range before ≡ true
  pub in_earlier : (k : ℕ) → k < b.counter → all_in_range (get_or s.counters k []) ≡ true

-- The search for it, among counters that are numbered on from k.
abbrev pub first_beyond : ℕ → List (List (List ℕ × ℤ)) → Option Beyond
first_beyond k [] = None
first_beyond k ([] ∷ counters) = first_beyond (suc k) counters
first_beyond k ((e ∷ es) ∷ counters) =
    cond (in_state_range e.1) (first_beyond k (es ∷ counters))
    (Some (record { counter = k; key = e.0; value = e.1 }))
