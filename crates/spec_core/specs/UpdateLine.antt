-- Updates as plain data.
use Rattle.std.specs.Prelude.{List}
use Rattle.spec_core.specs.declared.update.Thing.{Thing}
use Rattle.spec_core.specs.declared.update.Spot.{Spot}
use Rattle.spec_core.specs.declared.update.Change.{Change}
use Rattle.spec_core.specs.Form.{Form}

-- A line of an operation that changes a thing where its spots match and its guard is true.
pub record UpdateLine : Type 0 where
  pub thing : Thing
  pub at : List Spot
  pub change : Change
  pub guard : Form
