-- How a formula is stored, for the types that hold one; for the check alone.
use Rattle.std.specs.Prelude.{◌≡◌, refl, Box}
use Rattle.std.specs.declared.alloc.Global.{Global}
use Rattle.std.specs.Coded.{Coded, code_by}
use Rattle.spec_core.specs.Form.{Form, true_form, false_form, not_form, and_form, or_form, implies_form, has_form, same_form, differ_form, compare_form, form_of}
use Rattle.spec_core.specs.declared.formula.Formula.{Formula, True, False, Not', And', Or', Implies', Has, Same, Differ, Compare}
use denote.RawPtr.{null_ptr}
use Rattle.spec_core.specs.contracts.formula.Formula as formula

-- some address
abbrev pub at : Box (Unit {0}) Global
at = record { ptr = null_ptr; alloc = record { memory = record { seal = tt } }; value = tt }

-- a formula of this form
abbrev pub formula_of : Form → Formula
formula_of true_form = True
formula_of false_form = False
formula_of (not_form f) = Not' at (formula_of f)
formula_of (and_form f g) = And' at (formula_of f) at (formula_of g)
formula_of (or_form f g) = Or' at (formula_of f) at (formula_of g)
formula_of (implies_form f g) = Implies' at (formula_of f) at (formula_of g)
formula_of (has_form k es) = Has k es
formula_of (same_form a b) = Same a b
formula_of (differ_form a b) = Differ a b
formula_of (compare_form t c u) = Compare t c u

-- the formula that is made of a form has this form
pub form_of-formula_of : (f : Form) → form_of (formula_of f) ≡ f
form_of-formula_of true_form = refl
form_of-formula_of false_form = refl
form_of-formula_of (not_form f) = λ i. not_form (form_of-formula_of f i)
form_of-formula_of (and_form f g) = λ i. and_form (form_of-formula_of f i) (form_of-formula_of g i)
form_of-formula_of (or_form f g) = λ i. or_form (form_of-formula_of f i) (form_of-formula_of g i)
form_of-formula_of (implies_form f g) =
    λ i. implies_form (form_of-formula_of f i) (form_of-formula_of g i)
form_of-formula_of (has_form k es) = refl
form_of-formula_of (same_form a b) = refl
form_of-formula_of (differ_form a b) = refl
form_of-formula_of (compare_form t c u) = refl

-- a form is stored as a formula of it
abbrev pub coded_form : Coded Form
coded_form = code_by Formula formula.the_row.coded formula_of form_of form_of-formula_of
