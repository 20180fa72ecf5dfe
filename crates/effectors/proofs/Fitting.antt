-- The updates of an operation fit at the arguments of its calls.
use Rattle.std.proofs.Common.{◌≡◌, ◌≤◌, true, length}
use Rattle.std.specs.List.{list_all}
use Rattle.spec_core.specs.declared.world.World.{World}
use Rattle.spec_core.specs.declared.world.Call.{Call}
use Rattle.spec_core.specs.Limits.{most_updates}
use Rattle.spec_core.specs.Specification.{Specification, op_of}
use Rattle.spec_core.specs.Fits.{in_state_range, world_fits, call_fits, update_fits}
use Rattle.spec_core.specs.Typed.{is_specification}
use Rattle.spec_core.proofs.Operations.{fitting_call, call_operation_fits}

-- the updates that a call makes fit at its arguments, which are in range
pub record CallUpdates (d : Specification) (w : World) (c : Call) : Type 0 where
  pub few : length (op_of d c.op).updates ≤ most_updates
  pub fit : list_all (update_fits d w c.args) (op_of d c.op).updates ≡ true
  pub args : list_all in_state_range c.args ≡ true

pub call_updates : (d : Specification) (w : World) (c : Call) → is_specification d ≡ true → world_fits d w ≡ true → call_fits d w c ≡ true → CallUpdates d w c
call_updates d w c s v h =
    let fits = call_operation_fits d w c s v h in
    record { few = fits.few_updates; fit = fits.updates; args = (fitting_call d w c h).1 }
