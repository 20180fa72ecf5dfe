-- The values of elements and terms, and the truth of formulas and lines.
use Rattle.std.specs.Prelude.{ℕ, ℤ, pos, ◌+ℤ◌, ◌*ℤ◌, int_lt, int_le, unsigned_abs, Bool, true, false, not, cond, ◌&&◌, ◌||◌, ◌==◌, List, [], ◌∷◌, map, slice_index, slice_index_or}
use Rattle.std.specs.List.{list_all, list_any}
use Rattle.spec_core.specs.declared.formula.Elem.{Elem}
use Rattle.spec_core.specs.declared.formula.Elem.TheVariants.{Const, Param, Var}
use Rattle.spec_core.specs.declared.formula.Cmp.{Cmp}
use Rattle.spec_core.specs.declared.formula.Cmp.TheVariants.{Less, AtMost, Equal, Unequal, AtLeast, Greater}
use Rattle.spec_core.specs.declared.formula.Body.{Body}
use Rattle.spec_core.specs.declared.formula.Body.TheVariants as body
use Rattle.spec_core.specs.declared.formula.Summand.{Summand}
use Rattle.spec_core.specs.declared.formula.Term.{Term}
use Rattle.spec_core.specs.declared.line.Prefix.{Prefix}
use Rattle.spec_core.specs.declared.line.Prefix.TheVariants.{Plain, Forall, Exists}
use Rattle.spec_core.specs.declared.world.World.{World}
use Rattle.spec_core.specs.Form.{Form, true_form, false_form, not_form, and_form, or_form, implies_form, has_form, same_form, differ_form, compare_form}
use Rattle.spec_core.specs.Line.{Line}
use Rattle.spec_core.specs.State.{Reads}
use Rattle.spec_core.specs.World.{tuples}

-- The element that a constant, an argument or a variable is.
abbrev pub elem_of : World → List ℤ → List ℕ → Elem → ℕ
elem_of w args vars (Const n) = slice_index w.consts n
elem_of w args vars (Param n) = unsigned_abs (slice_index_or args n (pos 0))
elem_of w args vars (Var n) = slice_index vars n

-- the elements that stand at some places
abbrev pub elems_of : World → List ℤ → List ℕ → List Elem → List ℕ
elems_of w args vars es = map (elem_of w args vars) es

-- the number that a body is
abbrev pub body_of : World → Reads → List ℤ → List ℕ → Body → ℤ
body_of w r args vars body.One = pos 1
body_of w r args vars (body.Param n) = slice_index_or args n (pos 0)
body_of w r args vars (body.Count k es) = r.count k (elems_of w args vars es)

-- the sum of coefficients times bodies
abbrev pub sum_of : World → Reads → List ℤ → List ℕ → List Summand → ℤ
sum_of w r args vars [] = pos 0
sum_of w r args vars (s ∷ ss) = s.coef *ℤ body_of w r args vars s.body +ℤ sum_of w r args vars ss

-- the value of a term
abbrev pub term_of : World → Reads → List ℤ → List ℕ → Term → ℤ
term_of w r args vars t = sum_of w r args vars t.summands

-- whether two whole numbers are equal
abbrev pub int_eq : ℤ → ℤ → Bool
int_eq a b = int_le a b && int_le b a

-- what a comparison says of two whole numbers
abbrev pub compare_of : Cmp → ℤ → ℤ → Bool
compare_of Less a b = int_lt a b
compare_of AtMost a b = int_le a b
compare_of Equal a b = int_eq a b
compare_of Unequal a b = not (int_eq a b)
compare_of AtLeast a b = int_le b a
compare_of Greater a b = int_lt b a

-- The truth of a formula in a world and a state, at arguments and variables.
abbrev pub truth : World → Reads → List ℤ → List ℕ → Form → Bool
truth w r args vars true_form = true
truth w r args vars false_form = false
truth w r args vars (not_form f) = not (truth w r args vars f)
truth w r args vars (and_form f g) = truth w r args vars f && truth w r args vars g
truth w r args vars (or_form f g) = truth w r args vars f || truth w r args vars g
truth w r args vars (implies_form f g) = not (truth w r args vars f) || truth w r args vars g
truth w r args vars (has_form k es) = r.has k (elems_of w args vars es)
truth w r args vars (same_form a b) = elem_of w args vars a == elem_of w args vars b
truth w r args vars (differ_form a b) = not (elem_of w args vars a == elem_of w args vars b)
truth w r args vars (compare_form t c u) =
    compare_of c (term_of w r args vars t) (term_of w r args vars u)

-- a line begins with `exists`
abbrev pub is_exists : Prefix → Bool
is_exists Plain = false
is_exists Forall = false
is_exists Exists = true

-- The truth of a line. A quantifier ranges over the elements below the size of its sort: `forall` over an empty sort holds,
-- `exists` fails. A plain line has no variables, and one choice of elements for them.
abbrev pub line_true : World → Reads → List ℤ → Line → Bool
line_true w r args l = cond (is_exists l.prefix)
    (list_any (λ vars. truth w r args vars l.body) (tuples w l.vars))
    (list_all (λ vars. truth w r args vars l.body) (tuples w l.vars))

-- whether all these lines are true
abbrev pub lines_true : World → Reads → List ℤ → List Line → Bool
lines_true w r args lines = list_all (line_true w r args) lines
