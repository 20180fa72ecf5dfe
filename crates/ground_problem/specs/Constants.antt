-- The constants of an obligation: names for the elements that its formulas speak of.
use Rattle.std.specs.Prelude.{ℕ, suc, ◌+◌, ◌==◌, cond, Option, None, Some, List, [], ◌∷◌, ◌++◌, map, length}
use Rattle.std.specs.List.{filter_map, flat_map, range_with_len}
use Rattle.spec_core.specs.declared.operation.Param.{Param as Parameter}
use Rattle.spec_core.specs.Line.{Line}
use Rattle.spec_core.specs.Specification.{Specification, op_of}
use Rattle.spec_core.specs.World.{each_before}
use Rattle.spec_core.specs.Truth.{is_exists}
use Rattle.spec_core.specs.Typed.{sort_of_kind, is_int}
use Rattle.obligation_list.specs.declared.obligation.Obligation.{Obligation}
use Rattle.obligation_list.specs.Breaking.{operations_of, elements_of}

-- The constants of an obligation are numbers below the number of their sorts. They stand in this order: those that are declared;
-- the parameters of a sort, call by call; the variables of each requires line with `exists`, call by call and line by line; the
-- elements at which the conclusion fails.
pub record Constants : Type 0 where
  -- the sort of each constant
  pub sorts : List ℕ
  -- for each call the constants of its parameters, none for a whole number
  pub params : List (List (Option ℕ))
  -- for each call the constants of its requires lines, an empty list for a line without `exists`
  pub chosen : List (List (List ℕ))
  -- the constants of the elements at which the conclusion fails
  pub elements : List ℕ

-- the sorts of parameters that have one
abbrev pub sorts_of_params : List Parameter → List ℕ
sorts_of_params ps = filter_map (λ p. sort_of_kind p.kind) ps

-- the constants of parameters, from this number on
abbrev pub params_from : ℕ → List Parameter → List (Option ℕ)
params_from n [] = []
params_from n (p ∷ ps) =
    cond (is_int p.kind) (None ∷ params_from n ps) (Some n ∷ params_from (suc n) ps)

-- the constants of the parameters of calls, call by call, from this number on
abbrev pub all_params_from : ℕ → List (List Parameter) → List (List (Option ℕ))
all_params_from n [] = []
all_params_from n (ps ∷ more) =
    params_from n ps ∷ all_params_from (n + length (sorts_of_params ps)) more

-- the sorts of the constants of a requires line
abbrev pub chosen_vars : Line → List ℕ
chosen_vars l = cond (is_exists l.prefix) l.vars []

-- the constants of lines, from this number on, one for each of these sorts
abbrev pub chosen_from : ℕ → List (List ℕ) → List (List ℕ)
chosen_from n [] = []
chosen_from n (ss ∷ more) = range_with_len n (length ss) ∷ chosen_from (n + length ss) more

-- lists, one behind the other
abbrev pub concatenated : List (List ℕ) → List ℕ
concatenated lists = flat_map (λ xs. xs) lists

-- the constants of the requires lines of calls, call by call, from this number on
abbrev pub all_chosen_from : ℕ → List (List (List ℕ)) → List (List (List ℕ))
all_chosen_from n [] = []
all_chosen_from n (lines ∷ more) =
    chosen_from n lines ∷ all_chosen_from (n + length (concatenated lines)) more

-- the parameters of the calls
abbrev pub params_of : Specification → Obligation → List (List Parameter)
params_of d ob = map (λ o. (op_of d o).params) (operations_of ob)

-- the sorts of the constants of their requires lines
abbrev pub chosen_of : Specification → Obligation → List (List (List ℕ))
chosen_of d ob = map (λ o. map chosen_vars (op_of d o).requires_) (operations_of ob)

-- The constants of an obligation.
abbrev pub constants_of : Specification → Obligation → Constants
constants_of d ob =
    let declared = map (λ c. c.sort) d.consts in
    let params = flat_map sorts_of_params (params_of d ob) in
    let chosen = flat_map concatenated (chosen_of d ob) in
    let elements = elements_of d ob in
    record {
      sorts = declared ++ (params ++ (chosen ++ elements));
      params = all_params_from (length declared) (params_of d ob);
      chosen = all_chosen_from (length declared + length params) (chosen_of d ob);
      elements = range_with_len (length declared + length params + length chosen) (length elements);
    }

-- ---- assignments

-- the constants of a sort, in rising order, where the first constant has this number
abbrev pub of_sort : ℕ → List ℕ → ℕ → List ℕ
of_sort n [] s = []
of_sort n (t ∷ ts) s = cond (t == s) (n ∷ of_sort (suc n) ts s) (of_sort (suc n) ts s)

-- every choice of one from each list, in rising order, the last list fastest
abbrev pub choices : List (List ℕ) → List (List ℕ)
choices [] = [] ∷ []
choices (xs ∷ lists) = each_before xs (choices lists)

-- The assignments of constants to variables of these sorts, in rising order, the last variable fastest.
abbrev pub assignments : Constants → List ℕ → List (List ℕ)
assignments z vars = choices (map (of_sort 0 z.sorts) vars)
