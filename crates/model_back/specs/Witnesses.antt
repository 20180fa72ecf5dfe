-- The witness that an interpretation gives, and its state as a program makes it.
use Rattle.std.specs.Prelude.{◌≡◌, ℕ, ℤ, pos, Bool, true, false, List, slice_index_or}
use Rattle.spec_core.specs.declared.world.World.{World}
use Rattle.spec_core.specs.declared.world.Call.{Call}
use Rattle.spec_core.specs.Specification.{Specification}
use Rattle.spec_core.specs.State.{Listing, Reads, reads, nothing}
use Rattle.spec_core.specs.Meaning.{initial}
use Rattle.spec_core.specs.Fits.{is_state}
use Rattle.obligation_list.specs.declared.obligation.Obligation.{Obligation}
use Rattle.obligation_list.specs.declared.obligation.Obligation.TheVariants.{Init, Safety, Commute, Stable}
use Rattle.ground_problem.specs.Symbols.{Interpretation}
use Rattle.ground_problem.specs.Readback.{world_of, calls_of, elements_at, IsEntry}
use Rattle.ground_numbers.specs.Numbers.{Table}
use Rattle.model_back.specs.Filling.{filled, filled_integers, AtomsFit, IntegersFit}

-- An interpretation gives a world, whose elements are the classes of equal constants, each numbered by its least one; a state, which
-- reads at the entry what is named, and false or 0 elsewhere; calls; and the elements of the conclusion.
pub record IsGivenBy (d : Specification) (ob : Obligation) (m : Interpretation) (w : World)
    (s : Listing) (cs : List Call) (es : List ℕ) : Type 0 where
  pub world : w ≡ world_of d ob m
  pub state : IsEntry d ob m s
  pub calls : cs ≡ calls_of d ob m
  pub elements : es ≡ elements_at d ob m

-- ---- as a program makes the state

-- what truth values and whole numbers of a table say of the entry
abbrev pub read_from : Specification → (ℕ → ℕ) → List Bool → List ℤ → Table → Reads
read_from d val truths ints o =
    filled_integers d val (λ n. slice_index_or ints n (pos 0)) 0 o.ints
    (filled d val (λ n. slice_index_or truths n false) 0 o.atoms nothing)

-- a state that reads so, and fits where what it lists does
abbrev pub IsReadFrom : Specification → World → (ℕ → ℕ) → List Bool → List ℤ → Table → Listing
    → Type 0
IsReadFrom d w val truths ints o s =
    (reads s ≡ read_from d val truths ints o)
    × (AtomsFit d w val o.atoms → IntegersFit d w val o.ints → is_state d w s ≡ true)

-- the initial state for an initial obligation, else that state
abbrev pub IsStateFor : Specification → Obligation → World → (ℕ → ℕ) → List Bool → List ℤ → Table
    → Listing → Type 0
IsStateFor d (Init i) w val truths ints o s =
    (reads s ≡ reads (initial d w)) × (is_state d w s ≡ true)
IsStateFor d (Safety p i) w val truths ints o s = IsReadFrom d w val truths ints o s
IsStateFor d (Commute p q x) w val truths ints o s = IsReadFrom d w val truths ints o s
IsStateFor d (Stable p l q) w val truths ints o s = IsReadFrom d w val truths ints o s
