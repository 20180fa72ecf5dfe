-- Formulas as clauses, with new atoms that name parts.
use Rattle.std.specs.Prelude.{ℕ, ◌+◌, Bool, true, false, not, Option, None, Some, List, [], ◌∷◌, ◌++◌}
use Rattle.proof_lines.specs.declared.clause.Lit.{Lit}
use Rattle.proof_lines.specs.Clauses.{same_bool, lit_of, join}
use Rattle.ground_numbers.specs.Numbered.{Numbered, known, literal, negation, conjunction, disjunction}

-- ---- folding

-- A formula with "not" at its literals alone, and without truth values.
pub data Normal : Type 0 where
  lit : Lit → Normal
  all : Normal → Normal → Normal
  any : Normal → Normal → Normal

-- a truth value, or a formula without any
pub data Folded : Type 0 where
  settled : Bool → Folded
  unsettled : Normal → Folded

-- the folded "and" of two folded formulas
abbrev pub fold_all : Folded → Folded → Folded
fold_all (settled true) g = g
fold_all (settled false) g = settled false
fold_all (unsettled f) (settled true) = unsettled f
fold_all (unsettled f) (settled false) = settled false
fold_all (unsettled f) (unsettled g) = unsettled (all f g)

-- the folded "or" of two folded formulas
abbrev pub fold_any : Folded → Folded → Folded
fold_any (settled true) g = settled true
fold_any (settled false) g = g
fold_any (unsettled f) (settled true) = settled true
fold_any (unsettled f) (settled false) = unsettled f
fold_any (unsettled f) (unsettled g) = unsettled (any f g)

-- A formula, or its negation where the sign is false: truth values are folded, and "not" is moved to the literals.
abbrev pub folded : Bool → Numbered → Folded
folded s (known b) = settled (same_bool s b)
folded s (literal a t) = unsettled (lit (lit_of a (same_bool s t)))
folded s (negation f) = folded (not s) f
folded true (conjunction f g) = fold_all (folded true f) (folded true g)
folded false (conjunction f g) = fold_any (folded false f) (folded false g)
folded true (disjunction f g) = fold_any (folded true f) (folded true g)
folded false (disjunction f g) = fold_all (folded false f) (folded false g)

-- ---- clauses

-- how many atoms name the "and"s among the parts of an "or"
abbrev pub names : Normal → ℕ
names (lit l) = 0
names (all f g) = 1
names (any f g) = names f + names g

-- how many naming atoms the clause of an "or" has; an "and" has no clause of its own
abbrev pub own_names : Normal → ℕ
own_names (lit l) = 0
own_names (all f g) = 0
own_names (any f g) = names f + names g

-- how many naming atoms the clauses on the named parts have
abbrev pub inner_names : Normal → ℕ
inner_names (lit l) = 0
inner_names (all f g) = (own_names f + inner_names f) + (own_names g + inner_names g)
inner_names (any f g) = inner_names f + inner_names g

-- how many naming atoms the clauses of a formula bring
abbrev pub new_names : Normal → ℕ
new_names f = own_names f + inner_names f

-- the parts of an "or" as literals, where p names the first "and"
abbrev pub literals : ℕ → Normal → List Lit
literals p (lit l) = l ∷ []
literals p (all f g) = lit_of p true ∷ []
literals p (any f g) = literals p f ++ literals (p + names f) g

-- the literals that stand in front of a clause: one, or none
abbrev pub in_front : Option Lit → List Lit
in_front None = []
in_front (Some l) = l ∷ []

-- a literal in front, if there is one, and the parts of an "or", each literal once
abbrev pub clause_of : Option Lit → ℕ → Normal → List Lit
clause_of front p f = join [] (in_front front ++ literals p f)

-- What clauses say: a formula, or else the literal in front, if there is one; or that each "and" among the parts of an "or" is true
-- where the atom that names it is, the first of which has this number.
pub data Role : Type 0 where
  whole : Option Lit → Role
  parts : ℕ → Role

-- The clauses, where n is the next naming atom. Those of an "and" are those of its parts in turn. An "or" gives one clause of its
-- parts, in which an "and" is named by a new atom; after it come, for each of these atoms p in turn, the clauses of "not p or part"
-- for each part of what it names.
abbrev pub written : Role → ℕ → Normal → List (List Lit)
written (whole front) n (lit l) = clause_of front n (lit l) ∷ []
written (whole front) n (all f g) =
    written (whole front) n f ++ written (whole front) (n + new_names f) g
written (whole front) n (any f g) =
    let from = n + names f + names g in
    clause_of front n (any f g) ∷ written (parts n) from f
    ++ written (parts (n + names f)) (from + inner_names f) g
written (parts p) n (lit l) = []
written (parts p) n (all f g) =
    let named = whole (Some (lit_of p false)) in
    written named n f ++ written named (n + new_names f) g
written (parts p) n (any f g) =
    written (parts p) n f ++ written (parts (p + names f)) (n + inner_names f) g

-- ---- of folded formulas

-- how many naming atoms the clauses of a folded formula bring
abbrev pub names_of : Folded → ℕ
names_of (settled b) = 0
names_of (unsettled f) = new_names f

-- true gives no clause, and false the empty one
abbrev pub clauses_of : ℕ → Folded → List (List Lit)
clauses_of n (settled true) = []
clauses_of n (settled false) = [] ∷ []
clauses_of n (unsettled f) = written (whole None) n f

-- how many naming atoms a list of formulas brings
abbrev pub all_names : List Numbered → ℕ
all_names [] = 0
all_names (f ∷ fs) = names_of (folded true f) + all_names fs

-- The clauses of a list of formulas in turn, where n is the next naming atom.
abbrev pub all_clauses : ℕ → List Numbered → List (List Lit)
all_clauses n [] = []
all_clauses n (f ∷ fs) =
    clauses_of n (folded true f) ++ all_clauses (n + names_of (folded true f)) fs
