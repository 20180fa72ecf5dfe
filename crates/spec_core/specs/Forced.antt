-- Formulas whose truth the first variables of a line force: whatever stands for the others, the truth is the same.
use Rattle.std.specs.Prelude.{ℕ, ℤ, nat_lt, Bool, true, false, not, cond, ◌&&◌, ◌||◌, List}
use Rattle.std.specs.List.{list_all}
use Rattle.spec_core.specs.declared.formula.Elem.{Elem}
use Rattle.spec_core.specs.declared.formula.Elem.TheVariants.{Const, Param, Var}
use Rattle.spec_core.specs.declared.formula.Body.{Body}
use Rattle.spec_core.specs.declared.formula.Body.TheVariants as body
use Rattle.spec_core.specs.declared.formula.Summand.{Summand}
use Rattle.spec_core.specs.declared.formula.Term.{Term}
use Rattle.spec_core.specs.declared.world.World.{World}
use Rattle.spec_core.specs.Form.{Form, true_form, false_form, not_form, and_form, or_form, implies_form, has_form, same_form, differ_form, compare_form}
use Rattle.spec_core.specs.State.{Reads}
use Rattle.spec_core.specs.Truth.{truth}
use Rattle.spec_core.specs.Choices.{agrees}

-- a constant, an argument, or one of the first n variables
abbrev pub is_bound : ℕ → Elem → Bool
is_bound n (Const k) = true
is_bound n (Param k) = true
is_bound n (Var k) = nat_lt k n

-- no other variable stands in a body
abbrev pub body_bound : ℕ → Body → Bool
body_bound n body.One = true
body_bound n (body.Param k) = true
body_bound n (body.Count k es) = list_all (is_bound n) es

-- nor in a term
abbrev pub term_bound : ℕ → Term → Bool
term_bound n t = list_all (λ (s : Summand). body_bound n s.body) t.summands

-- nor in an atom
abbrev pub atom_bound : ℕ → Form → Bool
atom_bound n true_form = true
atom_bound n false_form = true
atom_bound n (not_form f) = false
atom_bound n (and_form f g) = false
atom_bound n (or_form f g) = false
atom_bound n (implies_form f g) = false
atom_bound n (has_form k es) = list_all (is_bound n) es
atom_bound n (same_form a b) = is_bound n a && is_bound n b
atom_bound n (differ_form a b) = is_bound n a && is_bound n b
atom_bound n (compare_form t c u) = term_bound n t && term_bound n u

-- an atom in which no other variable stands has this truth value
abbrev pub atom_forced : World → Reads → List ℤ → List ℕ → ℕ → Form → Bool → Bool
atom_forced w r args vars n f b = atom_bound n f && agrees b (truth w r args vars f)

-- The first n variables force a formula to have this truth value: atoms in which no other variable stands have values by which it has.
abbrev pub is_forced : World → Reads → List ℤ → List ℕ → ℕ → Form → Bool → Bool
is_forced w r args vars n true_form b = b
is_forced w r args vars n false_form b = not b
is_forced w r args vars n (not_form f) b = is_forced w r args vars n f (not b)
is_forced w r args vars n (and_form f g) b =
    cond b (is_forced w r args vars n f true && is_forced w r args vars n g true)
    (is_forced w r args vars n f false || is_forced w r args vars n g false)
is_forced w r args vars n (or_form f g) b =
    cond b (is_forced w r args vars n f true || is_forced w r args vars n g true)
    (is_forced w r args vars n f false && is_forced w r args vars n g false)
is_forced w r args vars n (implies_form f g) b =
    cond b (is_forced w r args vars n f false || is_forced w r args vars n g true)
    (is_forced w r args vars n f true && is_forced w r args vars n g false)
is_forced w r args vars n (has_form k es) b = atom_forced w r args vars n (has_form k es) b
is_forced w r args vars n (same_form x y) b = atom_forced w r args vars n (same_form x y) b
is_forced w r args vars n (differ_form x y) b = atom_forced w r args vars n (differ_form x y) b
is_forced w r args vars n (compare_form t c u) b =
    atom_forced w r args vars n (compare_form t c u) b
