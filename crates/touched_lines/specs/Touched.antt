-- At which elements a line reads what updates may have changed, and the truth of a line at these.
use Rattle.std.specs.Prelude.{ℕ, suc, ℤ, Bool, true, false, cond, nat_lt, ◌&&◌, ◌==◌, List, [], ◌∷◌}
use Rattle.std.specs.List.{list_all}
use Rattle.spec_core.specs.declared.formula.Elem.{Elem}
use Rattle.spec_core.specs.declared.formula.Elem.TheVariants.{Const, Param, Var}
use Rattle.spec_core.specs.declared.formula.Body.{Body}
use Rattle.spec_core.specs.declared.formula.Body.TheVariants as body
use Rattle.spec_core.specs.declared.formula.Summand.{Summand}
use Rattle.spec_core.specs.declared.formula.Term.{Term}
use Rattle.spec_core.specs.declared.update.Spot.{Spot}
use Rattle.spec_core.specs.declared.update.Spot.TheVariants.{Every, One}
use Rattle.spec_core.specs.declared.update.Thing.{Thing}
use Rattle.spec_core.specs.declared.update.Thing.TheVariants as thing
use Rattle.spec_core.specs.declared.world.World.{World}
use Rattle.spec_core.specs.Form.{Form, true_form, false_form, not_form, and_form, or_form, implies_form, has_form, same_form, differ_form, compare_form}
use Rattle.spec_core.specs.Line.{Line}
use Rattle.spec_core.specs.State.{Reads}
use Rattle.spec_core.specs.UpdateLine.{UpdateLine}
use Rattle.spec_core.specs.World.{size_of}
use Rattle.spec_core.specs.Truth.{elem_of, truth}
use Rattle.effectors.specs.Effect.{is_thing}
use Rattle.touched_lines.specs.declared.spans.Span.{Span}
use Rattle.touched_lines.specs.Spans.{all_within}

-- ---- the elements at which a reading is one that an update reaches

-- all elements of a sort of this size
abbrev pub whole : ℕ → Span
whole size = record { from = 0; to = size }

-- one element alone, if the sort has it
abbrev pub single_if : Bool → ℕ → Span
single_if true v = record { from = v; to = suc v }
single_if false v = record { from = 0; to = 0 }

-- the element of this number, of a sort of this size
abbrev pub single : ℕ → ℕ → Span
single v size = single_if (nat_lt v size) v

-- the variable of this number
abbrev pub is_var : ℕ → Elem → Bool
is_var n (Const k) = false
is_var n (Param k) = false
is_var n (Var k) = k == n

-- what a spot leaves to the variable that stands there
abbrev pub spot_span : World → List ℤ → ℕ → Spot → Span → Span
spot_span w args size Every rest = rest
spot_span w args size (One y) rest = single (elem_of w args [] y) size

-- what the spots of an update leave to a variable of a reading at these places: the element that stands at the first of its places which isn't every element
abbrev pub span_at : World → List ℤ → ℕ → ℕ → List Elem → List Spot → Span
span_at w args size n [] xs = whole size
span_at w args size n (e ∷ es) [] = whole size
span_at w args size n (e ∷ es) (x ∷ xs) =
    cond (is_var n e) (spot_span w args size x (span_at w args size n es xs))
    (span_at w args size n es xs)

-- and to variables of these sorts, numbered on from n
abbrev pub spans_from : World → List ℤ → List Elem → List Spot → ℕ → List ℕ → List Span
spans_from w args es xs n [] = []
spans_from w args es xs n (s ∷ ss) =
    span_at w args (size_of w s) n es xs ∷ spans_from w args es xs (suc n) ss

-- ---- the truth of a line's body there

-- at all elements at which the reading at these places is one that the spots reach
abbrev pub true_where : World → Reads → List ℤ → Line → List Elem → List Spot → Bool
true_where w r args l es xs =
    all_within (spans_from w args es xs 0 l.vars) [] (λ vars. truth w r [] vars l.body)

-- at all elements at which the reading of a thing at these places is one that an update reaches
abbrev pub true_reached : World → Reads → List ℤ → Line → List UpdateLine → Thing → List Elem → Bool
true_reached w r args l us x es =
    list_all (λ (u : UpdateLine). cond (is_thing u.thing x) (true_where w r args l es u.at) true) us

-- the same of each reading in a body
abbrev pub body_true : World → Reads → List ℤ → Line → List UpdateLine → Body → Bool
body_true w r args l us body.One = true
body_true w r args l us (body.Param k) = true
body_true w r args l us (body.Count k es) = true_reached w r args l us (thing.Counter k) es

-- in a term
abbrev pub term_true : World → Reads → List ℤ → Line → List UpdateLine → Term → Bool
term_true w r args l us t = list_all (λ (s : Summand). body_true w r args l us s.body) t.summands

-- and in a formula
abbrev pub form_true : World → Reads → List ℤ → Line → List UpdateLine → Form → Bool
form_true w r args l us true_form = true
form_true w r args l us false_form = true
form_true w r args l us (not_form f) = form_true w r args l us f
form_true w r args l us (and_form f g) = form_true w r args l us f && form_true w r args l us g
form_true w r args l us (or_form f g) = form_true w r args l us f && form_true w r args l us g
form_true w r args l us (implies_form f g) = form_true w r args l us f && form_true w r args l us g
form_true w r args l us (has_form k es) = true_reached w r args l us (thing.Relation k) es
form_true w r args l us (same_form a b) = true
form_true w r args l us (differ_form a b) = true
form_true w r args l us (compare_form t c u) =
    term_true w r args l us t && term_true w r args l us u
