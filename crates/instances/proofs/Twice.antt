-- Readings that stand in a formula twice: the second time nothing is new.
use Rattle.std.proofs.Common.{◌≡◌, ℕ, Bool, true, cond, pos, List, [], ◌∷◌, ◌++◌, refl, sym, ◌∙◌, ap}
use Rattle.std.specs.Prelude.{Result, Ok, Err, IfOk}
use Rattle.std.specs.List.{list_any, position_or_len}
use Rattle.spec_core.specs.declared.update.Thing.TheVariants as thing
use Rattle.ground_problem.specs.Symbols.{Integer, reading, multiple, at_most}
use Rattle.ground_problem.specs.Definitions.{reading_of_integer}
use Rattle.ground_problem.specs.Equality.{readings_same}
use Rattle.ground_numbers.specs.Numbered.{Numbered, literal, negation, conjunction, disjunction}
use Rattle.ground_numbers.specs.Numbers.{has_atom, has_number, number_of, has_integer, integer_of, same_integers, added_up}
use Rattle.ground_numbers.proofs.Stepping.{with_atom-number, with_integer-number}
use Rattle.ground_numbers.proofs.Growing.{with_atom-extends, with_atom-has, with_integer-extends, with_integer-has}
use Rattle.ground_atoms.specs.Known.{Known, know_atom, know_integer, unless_known}
use Rattle.ground_atoms.specs.Making.{Made, make, make_row, make_sum, difference, make_at_most_name}
use Rattle.ground_atoms.proofs.Same.{atom_stays}

-- both readings, or neither, over these numbers
abbrev same_readings : ℕ → ℕ → ℕ → ℕ → Numbered
same_readings n m p q =
    conjunction (disjunction (negation (literal n true)) (literal m true))
    (disjunction (literal p true) (negation (literal q true)))

pub read_twice : (k : Known) (r : ℕ) (t u : List ℕ)
    → make k (readings_same (thing.Relation r) t u)
    ≡ record {
      known = know_atom (know_atom k (has_atom [] r t)) (has_atom [] r u);
      form = conjunction
          (disjunction (negation (literal (number_of k.table (has_atom [] r t)) true))
          (literal (number_of (know_atom k (has_atom [] r t)).table (has_atom [] r u)) true))
          (disjunction (literal (number_of k.table (has_atom [] r t)) true)
          (negation (literal (number_of (know_atom k (has_atom [] r t)).table (has_atom [] r u)) true)));
    }
read_twice k r t u =
    let a = has_atom [] r t in
    let b = has_atom [] r u in
    let k1 = know_atom k a in
    let k2 = know_atom k1 b in
    let n = number_of k.table a in
    let m = number_of k1.table b in
    let more = (with_atom-extends k1.table b).atoms a (with_atom-has k.table a) in
    let there : has_number k2.table b ≡ true = with_atom-has k1.table b in
    ap (λ (z : Known). record { known = know_atom z b; form = same_readings n m (number_of k2.table a) (number_of z.table b) }) (sym (atom_stays k2 a more.0))
    ∙ ap (λ (z : Known). record { known = z; form = same_readings n m (number_of k2.table a) (number_of k2.table b) }) (sym (atom_stays k2 b there))
    ∙ ap (λ (p : ℕ). record { known = k2; form = same_readings n m p (number_of k2.table b) }) (more.1 ∙ with_atom-number k.table a)
    ∙ ap (λ (q : ℕ). record { known = k2; form = same_readings n m n q }) (with_atom-number k1.table b)

-- ---- a counter's reading

-- a name that has a number: nothing is new
name_stays : (k : Known) (x : Integer) → has_integer k.table x ≡ true → k ≡ know_integer k x
name_stays k x e =
    ap (λ (b : Bool). record { table = record { atoms = k.table.atoms; ints = cond b k.table.ints (k.table.ints ++ x ∷ []) }; named = unless_known b k.named (reading_of_integer x) }) (sym e)

-- a list is empty, or has a first element
list_cases : {A : Type 0} (P : List A → Type 0) → P [] → ((x : A) (xs : List A) → P (x ∷ xs)) → (xs : List A) → P xs
list_cases P e f [] = e
list_cases P e f (x ∷ xs) = f x xs

-- a row names no whole number
row-names : (k : Known) (m n : ℕ) → (make_at_most_name k m n).known.table.ints ≡ k.table.ints
row-names k m n = list_cases (λ ts. (make_row k ts (record { terms = added_up (difference m n); bound = pos 0 })).known.table.ints ≡ k.table.ints) refl (λ t ts. refl) (added_up (difference m n))

-- one name is at most another one, where both have numbers
at_most-known : (k : Known) (x y : Integer) (m n : ℕ) → has_integer k.table x ≡ true → has_integer k.table y ≡ true → integer_of k.table x ≡ m → integer_of k.table y ≡ n
    → make k (at_most (multiple (pos 1) x ∷ []) (multiple (pos 1) y ∷ []) (pos 0)) ≡ make_at_most_name k m n
at_most-known k x y m n hx hy mx ny =
    ap (λ (z : Known). make_sum (record { known = know_integer z y; terms = difference (integer_of k.table x) (integer_of z.table y) }) (pos 0)) (sym (name_stays k x hx))
    ∙ ap (λ (z : Known). make_sum (record { known = z; terms = difference (integer_of k.table x) (integer_of k.table y) }) (pos 0)) (sym (name_stays k y hy))
    ∙ ap (λ (p : ℕ). make_at_most_name k p (integer_of k.table y)) mx
    ∙ ap (λ (q : ℕ). make_at_most_name k m q) ny

-- the first comparison of two names, and the second one, which turns it round
pub count_twice : (k : Known) (i : ℕ) (t u : List ℕ) (l o : Known) (m n : ℕ) (up down : Made)
    → l ≡ know_integer k (reading [] i t) → m ≡ integer_of k.table (reading [] i t)
    → o ≡ know_integer l (reading [] i u) → n ≡ integer_of l.table (reading [] i u)
    → make_at_most_name o m n ≡ up → make_at_most_name up.known n m ≡ down
    → make k (readings_same (thing.Counter i) t u) ≡ record { known = down.known; form = conjunction up.form down.form }
count_twice k i t u l o m n up down el em eo en eu ed =
    let x = reading [] i t in
    let y = reading [] i u in
    let k1 = know_integer k x in
    let k2 = know_integer k1 y in
    let p = integer_of k.table x in
    let q = integer_of k1.table y in
    let first = make_at_most_name k2 p q in
    let k3 = first.known in
    let ints : k3.table.ints ≡ k2.table.ints = row-names k2 p q in
    let more = (with_integer-extends k1.table y).ints x (with_integer-has k.table x) in
    let has_x : has_integer k3.table x ≡ true = ap (list_any (same_integers x)) ints ∙ more.0 in
    let has_y : has_integer k3.table y ≡ true = ap (list_any (same_integers y)) ints ∙ with_integer-has k1.table y in
    let number_x : integer_of k3.table x ≡ p = ap (position_or_len (same_integers x)) ints ∙ (more.1 ∙ with_integer-number k.table x) in
    let number_y : integer_of k3.table y ≡ q = ap (position_or_len (same_integers y)) ints ∙ with_integer-number k1.table y in
    let on : n ≡ q = en ∙ ap (λ (z : Known). integer_of z.table y) el in
    let oo : o ≡ k2 = eo ∙ ap (λ (z : Known). know_integer z y) el in
    let one : first ≡ up = (λ j. make_at_most_name (sym oo j) (sym em j) (sym on j)) ∙ eu in
    let two : make_at_most_name k3 q p ≡ down = (λ j. make_at_most_name (one j).known (sym on j) (sym em j)) ∙ ed in
    ap (λ (b : Made). record { known = b.known; form = conjunction first.form b.form }) (at_most-known k3 y x q p has_y has_x number_y number_x)
    ∙ (λ j. record { known = (two j).known; form = conjunction (one j).form (two j).form })

-- what is weaker holds of an answer, too
pub ok_weaker : {A E : Type 0} {P Q : A → Type 0} (r : Result A E) → ((a : A) → P a → Q a) → IfOk r P → IfOk r Q
ok_weaker (Ok a) f h = f a h
ok_weaker (Err e) f h = tt
