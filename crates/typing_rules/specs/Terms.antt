-- Elements, and the terms that are compared and added.
use Rattle.std.specs.Prelude.{ℕ, ◌+◌, ◌==◌, nat_lt, nat_le, ℤ, pos, ◌-ℤ◌, Bool, true, false, ◌&&◌, if◌then◌else◌, List, [], ◌∷◌, length, map, position, Option, None, Some, option_map, option_and_then, unwrap_or}
use Rattle.std.specs.Str.{bytes_eq}
use Rattle.spec_core.specs.declared.formula.Elem.{Elem}
use Rattle.spec_core.specs.declared.formula.Elem.TheVariants as elem
use Rattle.spec_core.specs.declared.formula.Body.{Body}
use Rattle.spec_core.specs.declared.formula.Body.TheVariants as body
use Rattle.spec_core.specs.declared.formula.Summand.{Summand as CoreSummand}
use Rattle.spec_core.specs.declared.formula.Term.{Term as CoreTerm}
use Rattle.spec_core.specs.Limits.{most_summands, greatest_literal}
use Rattle.spec_core.specs.Specification.{Specification, counter_keys}
use Rattle.spec_core.specs.Typed.{sort_of, is_sort}
use Rattle.spec_trees.specs.declared.tree.Mark.{Mark}
use Rattle.spec_trees.specs.declared.tree.Figure.{Figure}
use Rattle.spec_trees.specs.declared.tree.Reading.{Reading}
use Rattle.spec_trees.specs.declared.tree.Product.{Product}
use Rattle.spec_trees.specs.declared.tree.Product.TheVariants as products
use Rattle.spec_trees.specs.declared.tree.Summand.{Summand}
use Rattle.spec_trees.specs.declared.tree.Sign.{Sign}
use Rattle.spec_trees.specs.declared.tree.Sign.TheVariants as signs
use Rattle.spec_trees.specs.declared.tree.Signed.{Signed}
use Rattle.spec_trees.specs.declared.tree.Term.{Term}
use Rattle.spec_trees.specs.declared.tree.ParamKind.{ParamKind}
use Rattle.spec_trees.specs.declared.tree.ParamKind.TheVariants as kinds
use Rattle.spec_trees.specs.declared.tree.Param.{Param}
use Rattle.typing_rules.specs.declared.which.Which.TheVariants.{Summands, Literal}
use Rattle.typing_rules.specs.Fault.{Fault, limit_fault, ◌otherwise◌, first_fault, kind_at, count_at, limit_at}
use Rattle.typing_rules.specs.Scope.{Names, Scope, stranger_fault, const_meant, counter_meant, var_sorts, params_of}

-- ---- elements

-- a place that a byte can number
abbrev pub small : Option ℕ → Option ℕ
small None = None
small (Some n) = if nat_lt n 256 then Some n else None

-- a variable before a parameter, and that before a constant: no two have one name
abbrev pub elem_by : Option ℕ → Option ℕ → Option ℕ → Option Elem
elem_by (Some k) param const = Some (elem.Var k)
elem_by None (Some k) const = Some (elem.Param k)
elem_by None None const = option_map elem.Const const

-- A name stands for an element where it is a variable, a parameter or a constant.
abbrev pub elem_named : Scope → List ℕ → Option Elem
elem_named sc name =
    elem_by (small (position (λ v. bytes_eq v.name.text name) sc.vars))
    (small (position (λ p. bytes_eq p.name.text name) sc.params)) (const_meant (sc.names name))

-- the sort of an element
abbrev pub sort_of_elem : Scope → Option Elem → Option ℕ
sort_of_elem sc None = None
sort_of_elem sc (Some e) =
    sort_of sc.design (params_of sc.names sc.params) (var_sorts sc.names sc.vars) e

-- the sort of the element that a name stands for; none where it stands for no element, as a parameter that is a number
abbrev pub sort_named : Scope → List ℕ → Option ℕ
sort_named sc name = sort_of_elem sc (elem_named sc name)

-- what is no element stands for the first constant, and is refused
abbrev pub elem_of : Scope → Mark → Elem
elem_of sc m = unwrap_or (elem_named sc m.text) (elem.Const 0)

-- a name that needs to be an element of a sort
abbrev pub elem_fault : Scope → ℕ → Mark → Option Fault
elem_fault sc s m = if is_sort (sort_named sc m.text) s then None else stranger_fault sc m

-- the names that stand at places of these sorts
abbrev pub elems_fault : Scope → List ℕ → List Mark → Option Fault
elems_fault sc (s ∷ ss) (m ∷ ms) = elem_fault sc s m otherwise elems_fault sc ss ms
elems_fault sc ss ms = None

-- the elements that names stand for
abbrev pub elems_of : Scope → List Mark → List Elem
elems_of sc ms = map (elem_of sc) ms

-- a name needs as many arguments as it has places
abbrev pub places_fault : Mark → List ℕ → ℕ → Option Fault
places_fault m places n = if length places == n then None else count_at m

-- a name with arguments at its places
abbrev pub args_fault : Scope → Reading → List ℕ → Option Fault
args_fault sc r places =
    places_fault r.name places (length r.args) otherwise elems_fault sc places r.args

-- ---- terms

-- literals and coefficients have a greatest size
abbrev pub literal_fault : Figure → Option Fault
literal_fault f =
    if nat_le f.value greatest_literal then None else Some (limit_fault Literal f.value f.word)

-- what is too large stands for 0, and is refused
abbrev pub literal_of : Bool → Figure → ℤ
literal_of minus f =
    if nat_le f.value greatest_literal then (if minus then pos 0 -ℤ pos f.value else pos f.value)
    else pos 0

-- a parameter of this kind is a whole number
abbrev pub is_whole : ParamKind → Bool
is_whole (kinds.Sort m) = false
is_whole kinds.Int = true

-- a parameter that is a whole number
abbrev pub number_named : Scope → List ℕ → Option ℕ
number_named sc name =
    small (position (λ p. bytes_eq p.name.text name && is_whole p.kind) sc.params)

-- A counter is read where all its keys are given.
abbrev pub counter_fault : Scope → Reading → Option ℕ → Option Fault
counter_fault sc r (Some k) = args_fault sc r (counter_keys sc.design k)
counter_fault sc r None = stranger_fault sc r.name

-- A name alone is a parameter that is a whole number, or a counter without keys.
abbrev pub lone_fault : Scope → Mark → Option ℕ → Option ℕ → Option Fault
lone_fault sc m (Some n) counter = None
lone_fault sc m None (Some k) = if length (counter_keys sc.design k) == 0 then None else kind_at m
lone_fault sc m None None = stranger_fault sc m

-- a name alone, or a counter with its keys
abbrev pub amount_fault_by : Scope → Reading → List Mark → Option Fault
amount_fault_by sc r [] =
    lone_fault sc r.name (number_named sc r.name.text) (counter_meant (sc.names r.name.text))
amount_fault_by sc r (m ∷ ms) = counter_fault sc r (counter_meant (sc.names r.name.text))

-- what is read in a term
abbrev pub amount_fault : Scope → Reading → Option Fault
amount_fault sc r = amount_fault_by sc r r.args

-- what is wrong with a product: its number, and then its reading
abbrev pub product_fault : Scope → Product → Option Fault
product_fault sc (products.Number f) = literal_fault f
product_fault sc (products.Times f r) = literal_fault f otherwise amount_fault sc r
product_fault sc (products.Reading r) = amount_fault sc r

-- a summand behind the first, which is numbered 0
abbrev pub signed_fault : Scope → ℕ → Signed → Option Fault
signed_fault sc n s =
    limit_at Summands most_summands
    (n + 1) s.summand.word otherwise product_fault sc s.summand.product

-- what is wrong with a term: its summands, in their order
abbrev pub term_fault : Scope → Term → Option Fault
term_fault sc t = product_fault sc t.first.product otherwise first_fault (signed_fault sc) 0 t.more

-- ---- the term that a tree's term is

-- the coefficient of a reading without a number
abbrev pub unit_of : Bool → ℤ
unit_of minus = if minus then pos 0 -ℤ pos 1 else pos 1

-- the coefficient of a product, by the sign before it
abbrev pub coef_of : Bool → Product → ℤ
coef_of minus (products.Number f) = literal_of minus f
coef_of minus (products.Times f r) = literal_of minus f
coef_of minus (products.Reading r) = unit_of minus

-- what is no counter stands for the first one, and is refused
abbrev pub count_of : Scope → Reading → Body
count_of sc r = body.Count (unwrap_or (counter_meant (sc.names r.name.text)) 0) (elems_of sc r.args)

-- a parameter where the name is one, and else a counter without keys
abbrev pub lone_body : Scope → Reading → Option ℕ → Body
lone_body sc r (Some n) = body.Param n
lone_body sc r None = count_of sc r

-- a name alone, or a counter with its keys
abbrev pub amount_by : Scope → Reading → List Mark → Body
amount_by sc r [] = lone_body sc r (number_named sc r.name.text)
amount_by sc r (m ∷ ms) = count_of sc r

-- what a reading in a term stands for
abbrev pub amount_of : Scope → Reading → Body
amount_of sc r = amount_by sc r r.args

-- what the coefficient of a product multiplies
abbrev pub body_of : Scope → Product → Body
body_of sc (products.Number f) = body.One
body_of sc (products.Times f r) = amount_of sc r
body_of sc (products.Reading r) = amount_of sc r

-- the summand of a product, by the sign before it
abbrev pub summand_of : Scope → Bool → Product → CoreSummand
summand_of sc minus p = record { coef = coef_of minus p; body = body_of sc p }

-- the sign is `-`
abbrev pub is_minus : Sign → Bool
is_minus signs.Plus = false
is_minus signs.Minus = true

-- the summand of a signed one
abbrev pub signed_of : Scope → Signed → CoreSummand
signed_of sc s = summand_of sc (is_minus s.sign) s.summand.product

-- The term that a tree's term is: its summands, in their order.
abbrev pub term_of : Scope → Term → CoreTerm
term_of sc t =
    record { summands = summand_of sc t.minus t.first.product ∷ map (signed_of sc) t.more }
