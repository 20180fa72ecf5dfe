-- What has a number stands at its place alone.
use Rattle.std.proofs.Common.{◌≡◌, ℕ, zero, suc, ◌<◌, Bool, true, false, cond, ◌⊎◌, inl, inr, List, [], ◌∷◌, ◌++◌, map, length, get_or, refl, sym, ◌∙◌, ap, subst, arith, length-append}
use Rattle.std.specs.List.{list_any, position_or_len}
use Rattle.std.proofs.lemmas.Bool.{or_left, or_right}
use Rattle.spec_core.specs.declared.operation.Param.{Param as Parameter}
use Rattle.spec_core.specs.Specification.{Specification}
use Rattle.obligation_list.specs.declared.obligation.Obligation.{Obligation}
use Rattle.lin_rows.specs.declared.term.RowTerm.{RowTerm}
use Rattle.lin_rows.specs.Rows.{Row}
use Rattle.ground_problem.specs.Symbols.{Integer, argument, reading, partial, Part, number, multiple, Symbolic, always, same, has, at_most, negated, both, either}
use Rattle.ground_problem.specs.Constants.{params_of}
use Rattle.ground_problem.specs.Problem.{formulas_of}
use Rattle.ground_numbers.specs.Numbers.{Atom, same_atom, has_atom, row_atom, same_atoms, same_integers, Table, with_atom, with_integer, with_integers, with_row, with_sums, naming, naming_all}
use Rattle.ground_numbers.specs.Problem.{numbers_from, arguments_from, arguments_of, table_of}
use Rattle.ground_numbers.proofs.Lookups.{position-front, position-next}
use Rattle.ground_numbers.proofs.Sameness.{same_atoms-refl, same_integers-refl}
use Rattle.model_back.proofs.Numbered.{no_atom, no_integer}

compare : (i n : ℕ) → i < suc n → (i < n) ⊎ (i ≡ n)
compare i n h = grind arith

get-front : {X : Type 0} (xs ys : List X) (i : ℕ) (d : X) → i < length xs → get_or (xs ++ ys) i d ≡ get_or xs i d
get-front [] ys i d h = absurd (omega arith)
get-front (x ∷ xs) ys zero d h = refl
get-front (x ∷ xs) ys (suc i) d h = get-front xs ys i d (omega arith)

get-last : {X : Type 0} (xs : List X) (x d : X) → get_or (xs ++ x ∷ []) (length xs) d ≡ x
get-last [] x d = refl
get-last (y ∷ xs) x d = get-last xs x d

pub any-at : {X : Type 0} (p : X → Bool) (xs : List X) (i : ℕ) (d : X) → i < length xs → p (get_or xs i d) ≡ true → list_any p xs ≡ true
any-at p [] i d h k = absurd (omega arith)
any-at p (x ∷ xs) zero d h k = or_left (p x) (list_any p xs) k
any-at p (x ∷ xs) (suc i) d h k = or_right (p x) (list_any p xs) (any-at p xs i d (omega arith) k)

-- each of a list that is wanted stands at the first place of an equal one
module _ {X : Type 0} (eq : X → X → Bool) (self : (x : X) → eq x x ≡ true) (d : X) (Want : X → Type 0) where
  abbrev pub Apart : List X → Type 0
  Apart xs = (i : ℕ) → i < length xs → Want (get_or xs i d) → position_or_len (eq (get_or xs i d)) xs ≡ i

  push-apart : (xs : List X) (b : X) → Apart xs → list_any (eq b) xs ≡ false → Apart (xs ++ b ∷ [])
  push-apart xs b h none i l w = elim (compare i (length xs) (let e = length-append xs (b ∷ []) in omega arith)) [
    | inl k ↦ (let g = get-front xs (b ∷ []) i d k in
        ap (λ x. position_or_len (eq x) (xs ++ b ∷ [])) g ∙ position-front (eq (get_or xs i d)) xs (b ∷ []) (any-at (eq (get_or xs i d)) xs i d k (self (get_or xs i d))) ∙ h i k (subst Want g w))
    | inr k ↦ (let g : get_or (xs ++ b ∷ []) i d ≡ b = ap (λ n. get_or (xs ++ b ∷ []) n d) k ∙ get-last xs b d in
        ap (λ x. position_or_len (eq x) (xs ++ b ∷ [])) g ∙ position-next (eq b) xs b none (self b) ∙ sym k)
  ]

  pub added-apart : (xs : List X) (b : X) → Apart xs → Apart (cond (list_any (eq b) xs) xs (xs ++ b ∷ []))
  added-apart xs b h = by_test (list_any (eq b) xs) refl
    where
      by_test : (c : Bool) → list_any (eq b) xs ≡ c → Apart (cond c xs (xs ++ b ∷ []))
      by_test true e = h
      by_test false e = push-apart xs b h e

-- ---- tables

abbrev Any : Atom → Type 0
Any a = Unit {0}

-- a counter's reading
abbrev pub IsReading : Integer → Type 0
IsReading (argument c p) = ⊥
IsReading (reading k i u) = Unit {0}
IsReading (partial n k i u) = ⊥

pub record Placed (t : Table) : Type 0 where
  pub atoms : Apart same_atoms same_atoms-refl no_atom Any t.atoms
  pub ints : Apart same_integers same_integers-refl no_integer IsReading t.ints

with_atom-placed : (t : Table) (a : Atom) → Placed t → Placed (with_atom t a)
with_atom-placed t a h = record { atoms = added-apart same_atoms same_atoms-refl no_atom Any t.atoms a h.atoms; ints = h.ints }

with_integer-placed : (t : Table) (x : Integer) → Placed t → Placed (with_integer t x)
with_integer-placed t x h = record { atoms = h.atoms; ints = added-apart same_integers same_integers-refl no_integer IsReading t.ints x h.ints }

with_integers-placed : (t : Table) (ps : List Part) → Placed t → Placed (with_integers t ps)
with_integers-placed t [] h = h
with_integers-placed t (number n ∷ ps) h = with_integers-placed t ps h
with_integers-placed t (multiple c x ∷ ps) h = with_integers-placed (with_integer t x) ps (with_integer-placed t x h)

with_row-placed : (t : Table) (ts : List RowTerm) (r : Row) → Placed t → Placed (with_row t ts r)
with_row-placed t [] r h = h
with_row-placed t (x ∷ xs) r h = with_atom-placed t (row_atom r) h

naming-placed : (t : Table) (f : Symbolic) → Placed t → Placed (naming t f)
naming-placed t (always b) h = h
naming-placed t (same a b) h = with_atom-placed t (same_atom a b) h
naming-placed t (has k r u) h = with_atom-placed t (has_atom k r u) h
naming-placed t (at_most x y n) h = with_row-placed (with_sums t x y) _ _ (with_integers-placed (with_integers t x) y (with_integers-placed t x h))
naming-placed t (negated f) h = naming-placed t f h
naming-placed t (both f g) h = naming-placed (naming t f) g (naming-placed t f h)
naming-placed t (either f g) h = naming-placed (naming t f) g (naming-placed t f h)

naming_all-placed : (t : Table) (fs : List Symbolic) → Placed t → Placed (naming_all t fs)
naming_all-placed t [] h = h
naming_all-placed t (f ∷ fs) h = naming_all-placed (naming t f) fs (naming-placed t f h)

-- ---- the table of an obligation

abbrev NoReadings : List Integer → Type 0
NoReadings [] = Unit {0}
NoReadings (x ∷ xs) = (IsReading x → ⊥) × NoReadings xs

at-none : (xs : List Integer) → NoReadings xs → (i : ℕ) → i < length xs → IsReading (get_or xs i no_integer) → ⊥
at-none [] h i l = absurd (omega arith)
at-none (x ∷ xs) h zero l = h.0
at-none (x ∷ xs) h (suc i) l = at-none xs h.1 i (omega arith)

arguments-none : (n : ℕ) (ps : List ℕ) (more : List Integer) → NoReadings more → NoReadings (map (argument n) ps ++ more)
arguments-none n [] more h = h
arguments-none n (p ∷ ps) more h = (λ k. k, arguments-none n ps more h)

all-none : (n : ℕ) (lists : List (List Parameter)) → NoReadings (arguments_from n lists)
all-none n [] = tt
all-none n (ps ∷ more) = arguments-none n (numbers_from 0 ps) (arguments_from (suc n) more) (all-none (suc n) more)

pub table-placed : (d : Specification) (ob : Obligation) → Placed (table_of d ob)
table-placed d ob = naming_all-placed (record { atoms = []; ints = arguments_of d ob }) (formulas_of d ob) (record { atoms = λ i l w. absurd (none i l); ints = λ i l w. absurd (at-none (arguments_of d ob) (all-none 0 (params_of d ob)) i l w) })
  where
    none : (i : ℕ) → i < 0 → ⊥
    none i l = absurd (omega arith)
