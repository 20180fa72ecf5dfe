-- Lines: formulas under a prefix.
use Rattle.std.specs.Prelude.{ℕ, List}
use Rattle.spec_core.specs.declared.line.Prefix.{Prefix}
use Rattle.spec_core.specs.Form.{Form}

-- A formula under a prefix, with the sort of each variable.
pub record Line : Type 0 where
  pub prefix : Prefix
  pub vars : List ℕ
  pub body : Form
