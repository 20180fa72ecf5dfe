-- Which calls can conflict, by their operations and by one argument of each. This serves the speed of the code.
use Rattle.std.specs.Prelude.{ℕ, Bool, true, false, not, cond, ◌&&◌, ◌||◌, ◌==◌, List, [], ◌∷◌, ℤ, pos, unsigned_abs, map, slice_index_or}
use Rattle.std.specs.List.{list_all, list_any}
use Rattle.spec_core.specs.declared.formula.Elem.{Elem}
use Rattle.spec_core.specs.declared.formula.Elem.TheVariants.{Const, Param, Var}
use Rattle.spec_core.specs.declared.operation.Take.{Take}
use Rattle.spec_core.specs.declared.spec.Rule.{Rule}
use Rattle.spec_core.specs.Specification.{Specification, op_of}
use Rattle.token_rules.specs.declared.rivals.Rivalry.{Rivalry}
use Rattle.token_rules.specs.declared.rivals.Rivalry.TheVariants.{Never, Tied, Free}

-- a rule matches the tokens of two takes lines that aren't both shared, its left pattern at the first
abbrev pub tokens_match : Rule → Take → Take → Bool
tokens_match rule t u =
    not (t.shared && u.shared) && (rule.left.token == t.token) && (rule.right.token == u.token)

-- some rule matches the tokens of a line of each list, its left pattern at the first list
abbrev pub some_rule_may : List Rule → List Take → List Take → Bool
some_rule_may rules first second =
    list_any (λ rule. list_any (λ t. list_any (λ u. tokens_match rule t u) second) first) rules

-- some rule matches the tokens of a line of the one list and of a line of the other, in either order
abbrev pub are_rivals : List Rule → List Take → List Take → Bool
are_rivals rules one other = some_rule_may rules one other || some_rule_may rules other one

-- the first of some elements is this parameter
abbrev pub starts_with : ℕ → List Elem → Bool
starts_with n [] = false
starts_with n (Const m ∷ es) = false
starts_with n (Param m ∷ es) = m == n
starts_with n (Var m ∷ es) = false

-- two lists of variables begin with one and the same
abbrev pub same_first : List ℕ → List ℕ → Bool
same_first [] us = false
same_first (v ∷ vs) [] = false
same_first (v ∷ vs) (u ∷ us) = v == u

-- where the rule matches the tokens of two takes lines, it asks for one element for these parameters, j at the first line and k at
-- the second
abbrev pub tied_by : ℕ → ℕ → Rule → Take → Take → Bool
tied_by j k rule t u =
    not (tokens_match rule t u)
    || (same_first rule.left.vars rule.right.vars && (starts_with j t.args && starts_with k u.args))

-- each rule that matches the tokens of a line of each list, its left pattern at the first list, asks for one element for
-- these parameters
abbrev pub all_tied : ℕ → ℕ → List Rule → List Take → List Take → Bool
all_tied j k rules first second =
    list_all (λ rule. list_all (λ t. list_all (λ u. tied_by j k rule t u) second) first) rules

-- each rule that matches tokens of a line of the one list and of a line of the other, in either order, asks for one element for
-- these parameters, j of the one and k of the other
abbrev pub are_tied : ℕ → ℕ → List Rule → List Take → List Take → Bool
are_tied j k rules one other = all_tied j k rules one other && all_tied k j rules other one

-- the parameter with which a takes line begins, or else another number
abbrev pub key_in : List Elem → ℕ → ℕ
key_in [] next = next
key_in (Const m ∷ es) next = next
key_in (Param m ∷ es) next = m
key_in (Var m ∷ es) next = next

-- the first parameter with which a takes line begins; 0 where there is none
abbrev pub key_of : List Take → ℕ
key_of [] = 0
key_of (t ∷ ts) = key_in t.args (key_of ts)

-- how calls with the one list of takes lines can conflict with calls with the other
abbrev pub rivalry : List Rule → List Take → List Take → Rivalry
rivalry rules one other =
    cond (are_rivals rules one other)
    (cond (are_tied (key_of one) (key_of other) rules one other)
    (Tied (key_of one) (key_of other)) Free)
    Never

-- for each operation, how its calls can conflict with calls of this one
abbrev pub rivals_of : Specification → ℕ → List Rivalry
rivals_of d op = map (λ o. rivalry d.rules o.takes (op_of d op).takes) d.operations

-- the element that an argument names
abbrev pub element_at : List ℤ → ℕ → ℕ
element_at args n = unsigned_abs (slice_index_or args n (pos 0))

-- whether the call of another event can conflict with a call, as far as this says
abbrev pub may_conflict : Rivalry → List ℤ → List ℤ → Bool
may_conflict Never other own = false
may_conflict (Tied j k) other own = element_at other j == element_at own k
may_conflict Free other own = true
