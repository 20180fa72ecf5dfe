-- The keyed specification: the bare one, in which calls of two operations conflict where they agree on a parameter of each.
use Rattle.std.specs.Prelude.{◌≡◌, ℕ, suc, ◌<◌, ◌≤◌, true, false, not, ◌==◌, if◌then◌else◌, List, [], ◌∷◌, ◌++◌, map, length, get_or, slice_get, unwrap_or, Option, codes}
use Rattle.std.specs.List.{filter, flat_map}
use Rattle.std.specs.Fmt.{decimal}
use Rattle.spec_core.specs.declared.formula.Elem.TheVariants as elem
use Rattle.spec_core.specs.declared.operation.Take.{Take}
use Rattle.spec_core.specs.declared.operation.Operation.{Operation}
use Rattle.spec_core.specs.declared.spec.Token.{Token}
use Rattle.spec_core.specs.declared.spec.Pattern.{Pattern}
use Rattle.spec_core.specs.declared.spec.Rule.{Rule}
use Rattle.spec_core.specs.Specification.{Specification, op_of}
use Rattle.spec_core.specs.State.{is_in}
use Rattle.spec_core.specs.World.{below}
use Rattle.spec_core.specs.Typed.{sort_of_param, same_sort, parameter_names, global_names}
use Rattle.conflict_variants.specs.Takes.{with_takes}
use Rattle.conflict_variants.specs.Bare.{with_tokens, bare}

-- ---- the names of the two tokens

-- the names that are in use: those that the bare specification declares, and those of parameters
abbrev pub names_in_use : Specification → List (List ℕ)
names_in_use d = global_names (bare d) ++ flat_map (λ o. parameter_names o.params) d.operations

-- t0, t1, t2 and so on
abbrev pub token_name : ℕ → List ℕ
token_name n = codes "t" ++ decimal n

-- No specification has more than 248 names: 8 sorts, 32 constants, 16 relations, 8 counters, 16 invariants, and 24 operations with 6
-- parameters each. So at least two of 250 aren't in use.
abbrev pub enough_names : ℕ
enough_names = 250

-- the names that aren't in use among the first n of t0, t1 and so on
abbrev pub unused_below : Specification → ℕ → List (List ℕ)
unused_below d n = filter (λ name. not (is_in name (names_in_use d))) (map token_name (below n))

-- the names that aren't in use among the first 250, of which there are at least two
unfoldable pub unused_names : Specification → List (List ℕ)
unused_names d = unused_below d enough_names

-- the first name that isn't in use
abbrev pub first_name : Specification → List ℕ
first_name d = get_or (unused_names d) 0 []

-- the second name that isn't in use
abbrev pub second_name : Specification → List ℕ
second_name d = get_or (unused_names d) 1 []

-- ---- the specification

-- the sort of a parameter of an operation; none where there is no such parameter or it is a number
abbrev pub sort_of_parameter : Specification → ℕ → ℕ → Option ℕ
sort_of_parameter d o p = sort_of_param (slice_get (op_of d o).params p)

-- Two operations can be keyed on a parameter of each: both exist, the first isn't the later one, and the parameters have one sort.
pub record CanBeKeyed (d : Specification) (a p b q : ℕ) : Type 0 where
  pub ordered : a ≤ b
  pub operation : b < length d.operations
  pub one_sort : same_sort (sort_of_parameter d a p) (sort_of_parameter d b q) ≡ true

-- a token of one place
abbrev pub keyed_token : List ℕ → ℕ → Token
keyed_token name sort = record { name = name; places = sort ∷ [] }

-- a token at the one variable of a rule
abbrev pub keyed_pattern : ℕ → Pattern
keyed_pattern t = record { token = t; vars = 0 ∷ [] }

-- `conflict t0 ( v ) t1 ( v )`
abbrev pub keyed_rule : Rule
keyed_rule = record { left = keyed_pattern 0; right = keyed_pattern 1 }

-- `takes t ( p )`, not shared
abbrev pub keyed_take : ℕ → ℕ → Take
keyed_take t p = record { token = t; args = elem.Param p ∷ []; shared = false }

-- the takes lines of the operation numbered n: of the first token at p where it is the first operation, of the second token at q
-- where it is the second, and both, in this order, where it is the one and the other
abbrev pub keyed_takes : ℕ → ℕ → ℕ → ℕ → ℕ → List Take
keyed_takes a p b q n =
    (if n == a then keyed_take 0 p ∷ [] else []) ++ (if n == b then keyed_take 1 q ∷ [] else [])

-- operations, from the one numbered n on, with these takes lines
abbrev pub keyed_from : ℕ → ℕ → ℕ → ℕ → ℕ → List Operation → List Operation
keyed_from a p b q n [] = []
keyed_from a p b q n (o ∷ os) = with_takes o (keyed_takes a p b q n) ∷ keyed_from a p b q (suc n) os

-- the sort that both parameters have
abbrev pub key_sort : Specification → ℕ → ℕ → ℕ
key_sort d a p = unwrap_or (sort_of_parameter d a p) 0

-- The keyed specification of two operations at a parameter of each: the bare one with two tokens of the parameters' sort, a rule by
-- which they conflict at equal elements, and a taking of the first token at the first operation's parameter, and of the second at
-- the second's.
abbrev pub keyed : Specification → ℕ → ℕ → ℕ → ℕ → Specification
keyed d a p b q =
    with_tokens d
    (keyed_token (first_name d) (key_sort d a p) ∷ keyed_token (second_name d) (key_sort d a p)
    ∷ [])
    (keyed_rule ∷ [])
    (keyed_from a p b q 0 d.operations)
