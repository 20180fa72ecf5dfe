-- The numbers of equalities that were numbered before.
use Rattle.std.specs.Prelude.{◌≡◌, ℕ, true}
use Rattle.ground_numbers.specs.Numbers.{same_atom, has_number, number_of}
use Rattle.ground_atoms.specs.Known.{Known}

-- the equality of two constants, the lesser first, has this number
abbrev pub HasNumber : Known → ℕ → ℕ → ℕ → Type 0
HasNumber k a b n =
    (has_number k.table (same_atom a b) ≡ true) × (n ≡ number_of k.table (same_atom a b))

-- The equalities of three constants have these numbers: that of the first two, of the last two, of the first and the last.
pub record AreNumbered (k : Known) (a b c ab bc ac : ℕ) : Type 0 where
  pub front : HasNumber k a b ab
  pub back : HasNumber k b c bc
  pub ends : HasNumber k a c ac
