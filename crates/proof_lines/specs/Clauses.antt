-- Literals, and clauses as sets of literals: membership, what joins and resolvents are, and truth.
use Rattle.std.specs.Prelude.{ℕ, Bool, true, false, not, cond, ◌&&◌, ◌==◌, List, [], ◌∷◌, ◌++◌, map}
use Rattle.std.specs.List.{filter, list_any, list_all, fold}
use Rattle.proof_lines.specs.declared.clause.Lit.{Lit}

-- two truth values are equal
abbrev pub same_bool : Bool → Bool → Bool
same_bool true b = b
same_bool false b = not b

-- two literals have one atom and one sign
abbrev pub same_lit : Lit → Lit → Bool
same_lit a b = (a.atom == b.atom) && same_bool a.positive b.positive

-- the literal of an atom: the atom itself where the sign is true, else its negation
abbrev pub lit_of : ℕ → Bool → Lit
lit_of a p = record { atom = a; positive = p }

-- the opposite literal
abbrev pub flip : Lit → Lit
flip l = record { atom = l.atom; positive = not l.positive }

-- A clause is a set of literals, written as a list of different ones.

-- the literal is one of the clause
abbrev pub has : List Lit → Lit → Bool
has c l = list_any (λ x. same_lit x l) c

-- each literal of the first is one of the second, so the second contains the first
abbrev pub sub : List Lit → List Lit → Bool
sub c d = list_all (has d) c

-- no literal stands twice in the list
abbrev pub distinct : List Lit → Bool
distinct [] = true
distinct (x ∷ xs) = not (has xs x) && distinct xs

-- the clause has no literal
abbrev pub is_empty : List Lit → Bool
is_empty [] = true
is_empty (l ∷ c) = false

-- some atom stands in it both ways
abbrev pub holds_both_ways : List Lit → Bool
holds_both_ways c = list_any (λ l. has c (flip l)) c

-- the clause with one more literal, unless it is there
abbrev pub insert : List Lit → Lit → List Lit
insert c l = cond (has c l) c (c ++ l ∷ [])

-- the first clause with the literals of the second
abbrev pub join : List Lit → List Lit → List Lit
join c d = fold insert c d

-- the clause without one literal
abbrev pub without : Lit → List Lit → List Lit
without l c = filter (λ x. not (same_lit x l)) c

-- the left clause without the positive literal of an atom, joined with the right one without the negative literal
abbrev pub resolvent : ℕ → List Lit → List Lit → List Lit
resolvent a left right = join (without (lit_of a true) left) (without (lit_of a false) right)

-- the clause of the opposites of some literals
abbrev pub negations : List Lit → List Lit
negations ls = join [] (map flip ls)

-- a literal is true where its atom has its sign
abbrev pub lit_true : (ℕ → Bool) → Lit → Bool
lit_true v l = same_bool (v l.atom) l.positive

-- a clause is true where one of its literals is
abbrev pub clause_true : (ℕ → Bool) → List Lit → Bool
clause_true v c = list_any (lit_true v) c

-- each of these clauses is true
abbrev pub all_true : (ℕ → Bool) → List (List Lit) → Bool
all_true v cs = list_all (clause_true v) cs
