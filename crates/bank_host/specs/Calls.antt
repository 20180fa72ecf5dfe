-- The account and the amount of a call of the bank, and what its code may be asked.
use Rattle.std.specs.Prelude.{◌≡◌, ℕ, ℤ, pos, ◌-ℤ◌, int_lt, true, cond, ◌&&◌, ◌==◌, [], ◌∷◌, Option, None, Some, slice_index_or, unsigned_abs}
use Rattle.spec_core.specs.declared.world.World.{World}
use Rattle.spec_core.specs.declared.world.Call.{Call}
use Rattle.spec_core.specs.State.{Listing, Reads}
use Rattle.spec_core.specs.Fits.{world_fits, call_fits, is_state}
use Rattle.bank_host.specs.Bank.{bank, balance}

-- the account of a call
abbrev pub account_of : Call → ℕ
account_of c = unsigned_abs (slice_index_or c.args 0 (pos 0))

-- the amount of a call
abbrev pub amount_of : Call → ℤ
amount_of c = slice_index_or c.args 1 (pos 0)

-- how a call changes the balance: a deposit adds the amount, a withdrawal takes it away
abbrev pub change_of : Call → ℤ
change_of c = cond (c.op == 0) (amount_of c) (pos 0 -ℤ amount_of c)

-- A state and a call of the bank, in this world.
pub record FitIn (w : World) (s : Listing) (c : Call) : Type 0 where
  pub world : world_fits bank w ≡ true
  pub state : is_state bank w s ≡ true
  pub call : call_fits bank w c ≡ true

-- a state and a call of the bank, in some world
abbrev pub Fit : Listing → Call → Type 0
Fit s c = (w : World) × FitIn w s c

-- The first requires line of a call that is false, counted from 1: an amount below 0, or a withdrawal of more than the balance.
abbrev pub false_line : Reads → Call → Option ℕ
false_line r c =
    cond (int_lt (amount_of c) (pos 0))
    (Some 1)
    (cond ((c.op == 1) && int_lt (r.count balance (account_of c ∷ [])) (amount_of c)) (Some 2) None)
