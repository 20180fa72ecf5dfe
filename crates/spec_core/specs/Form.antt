-- Formulas as plain data.
use Rattle.std.specs.Prelude.{ℕ, List}
use Rattle.spec_core.specs.declared.formula.Elem.{Elem}
use Rattle.spec_core.specs.declared.formula.Cmp.{Cmp}
use Rattle.spec_core.specs.declared.formula.Term.{Term}
use Rattle.spec_core.specs.declared.formula.Formula.{Formula, True, False, Not', And', Or', Implies', Has, Same, Differ, Compare}

-- A formula, wherever its parts lie in memory.
pub data Form : Type 0 where
  true_form : Form
  false_form : Form
  not_form : Form → Form
  and_form : Form → Form → Form
  or_form : Form → Form → Form
  implies_form : Form → Form → Form
  has_form : ℕ → List Elem → Form
  same_form : Elem → Elem → Form
  differ_form : Elem → Elem → Form
  compare_form : Term → Cmp → Term → Form

-- the formula that a program holds
abbrev pub form_of : Formula → Form
form_of True = true_form
form_of False = false_form
form_of (Not' l f) = not_form (form_of f)
form_of (And' l f m g) = and_form (form_of f) (form_of g)
form_of (Or' l f m g) = or_form (form_of f) (form_of g)
form_of (Implies' l f m g) = implies_form (form_of f) (form_of g)
form_of (Has k es) = has_form k es
form_of (Same a b) = same_form a b
form_of (Differ a b) = differ_form a b
form_of (Compare t c u) = compare_form t c u
