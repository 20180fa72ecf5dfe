-- What the program's tests find equal is what stands for equal ones.
use Rattle.std.proofs.Common.{◌≡◌, ℕ, zero, suc, ◌+◌, Bool, true, false, not, cond, ◌&&◌, ◌||◌, List, [], ◌∷◌, ◌++◌, map, refl, sym, ◌∙◌, ap, arith}
use Rattle.std.specs.Prelude.{◌==◌, nat_eq, if◌then◌else◌}
use Rattle.std.specs.List.{list_any, position_or_len}
use Rattle.std.specs.Str.{bytes_eq}
use Rattle.std.specs.Bool.{Decides, one_answer}
use Rattle.std.specs.Cmp.{unsigned_Decides}
use Rattle.std.specs.Cmp.Lexicographic.{bytes_decides}
use Rattle.ground_numbers.specs.Numbers.{Atom, has_number, same_atoms, same_integers}
use Rattle.ground_numbers.specs.Stages.{stage_of}
use Rattle.ground_atoms.specs.declared.atom.Atom.{Atom as CodeAtom}
use Rattle.ground_atoms.specs.declared.atom.Atom.TheVariants as atom
use Rattle.ground_atoms.specs.declared.atom.IntName.{IntName}
use Rattle.ground_atoms.specs.declared.atom.IntName.TheVariants as name
use Rattle.ground_atoms.specs.Known.{Known, reading_of_atom, unless_known, know_atom}
use Rattle.ground_atoms.specs.Symbols.{atom_of, integer_of}
use Rattle.ground_atoms.specs.contracts.atom.AtomPartialEq.TheImpl as atoms
use Rattle.ground_atoms.specs.contracts.atom.IntNamePartialEq.TheImpl as names

-- ---- stages and their numbers

abbrev number_of_stage : List ℕ → ℕ
number_of_stage [] = 0
number_of_stage (zero ∷ []) = 1
number_of_stage (suc zero ∷ []) = 3
number_of_stage (suc (suc n) ∷ []) = suc (suc n)
number_of_stage (zero ∷ m ∷ k) = 4
number_of_stage (suc n ∷ m ∷ k) = 2

number_back : (k : ℕ) → number_of_stage (stage_of k) ≡ k
number_back zero = refl
number_back (suc zero) = refl
number_back (suc (suc zero)) = refl
number_back (suc (suc (suc zero))) = refl
number_back (suc (suc (suc (suc zero)))) = refl
number_back (suc (suc (suc (suc (suc n))))) = refl

-- different numbers name different stages
pub stages_same : (k j : ℕ) → nat_eq k j ≡ bytes_eq (stage_of k) (stage_of j)
stages_same k j = one_answer (nat_eq k j) (bytes_eq (stage_of k) (stage_of j)) (unsigned_Decides k j) decided
  where
    decided : Decides (bytes_eq (stage_of k) (stage_of j)) (k ≡ j)
    decided = (λ h. sym (number_back k) ∙ ap number_of_stage ((bytes_decides (stage_of k) (stage_of j)).0 h) ∙ number_back j, λ e. (bytes_decides (stage_of k) (stage_of j)).1 (ap stage_of e))

-- ---- one test and another

atom_test : (a b : CodeAtom) → atoms.eq-value.it a b ≡ same_atoms (atom_of a) (atom_of b)
atom_test (atom.Same a b) (atom.Same x y) = refl
atom_test (atom.Same a b) (atom.Has k r t) = refl
atom_test (atom.Same a b) (atom.Row r) = refl
atom_test (atom.Has k r t) (atom.Same a b) = refl
atom_test (atom.Has k r t) (atom.Has j q u) = ap (λ (c : Bool). c && ((r == q) && bytes_eq t u)) (stages_same k j)
atom_test (atom.Has k r t) (atom.Row s) = refl
atom_test (atom.Row r) (atom.Same a b) = refl
atom_test (atom.Row r) (atom.Has k q t) = refl
atom_test (atom.Row r) (atom.Row s) = refl

falls : (a b c : Bool) → b ≡ false → (a && (b && c)) ≡ false
falls true b c e = ap (λ (z : Bool). z && c) e
falls false b c e = refl

not_before : (n : ℕ) → nat_eq 0 (suc n) ≡ false
not_before n = grind arith

not_after : (n : ℕ) → nat_eq (suc n) 0 ≡ false
not_after n = grind arith

turned : (a b c : Bool) → (a && (b && c)) ≡ (b && (a && c))
turned true true c = refl
turned true false c = refl
turned false true c = refl
turned false false c = refl

integer_test : (x y : IntName) → names.eq-value.it x y ≡ same_integers (integer_of x) (integer_of y)
integer_test (name.Count k zero c t) (name.Count j zero d u) = ap (λ (b : Bool). b && ((c == d) && bytes_eq t u)) (stages_same k j)
integer_test (name.Count k zero c t) (name.Count j (suc m) d u) = falls (nat_eq k j) (nat_eq 0 (suc m)) _ (not_before m)
integer_test (name.Count k (suc n) c t) (name.Count j zero d u) = falls (nat_eq k j) (nat_eq (suc n) 0) _ (not_after n)
integer_test (name.Count k (suc n) c t) (name.Count j (suc m) d u) =
    ap (λ (b : Bool). b && (nat_eq (suc n) (suc m) && ((c == d) && bytes_eq t u))) (stages_same k j)
    ∙ turned (bytes_eq (stage_of k) (stage_of j)) (nat_eq (suc n) (suc m)) ((c == d) && bytes_eq t u)
integer_test (name.Count k zero c t) (name.Arg a p) = refl
integer_test (name.Count k (suc n) c t) (name.Arg a p) = refl
integer_test (name.Arg a p) (name.Count k zero c t) = refl
integer_test (name.Arg a p) (name.Count k (suc n) c t) = refl
integer_test (name.Arg a p) (name.Arg b q) = refl

-- ---- lists of keys, where the one test at keys is the other at what they stand for

any_along : {X Y : Type 0} (f : X → Y) (p : X → Bool) (q : Y → Bool) → ((x : X) → p x ≡ q (f x)) → (xs : List X) → list_any p xs ≡ list_any q (map f xs)
any_along f p q e [] = refl
any_along f p q e (x ∷ xs) = (let a = e x in let b = any_along f p q e xs in λ i. a i || b i)

place_along : {X Y : Type 0} (f : X → Y) (p : X → Bool) (q : Y → Bool) → ((x : X) → p x ≡ q (f x)) → (xs : List X) → position_or_len p xs ≡ position_or_len q (map f xs)
place_along f p q e [] = refl
place_along f p q e (x ∷ xs) = (let a = e x in let b = place_along f p q e xs in λ i. cond (not (a i)) (1 + b i) 0)

map_last : {X Y : Type 0} (f : X → Y) (xs : List X) (x : X) → map f (xs ++ x ∷ []) ≡ map f xs ++ f x ∷ []
map_last f [] x = refl
map_last f (y ∷ xs) x = ap (λ z. f y ∷ z) (map_last f xs x)

inserted : {X Y : Type 0} (f : X → Y) (xs : List X) (x : X) (b c : Bool) → b ≡ c → map f (if b then xs else xs ++ x ∷ []) ≡ cond c (map f xs) (map f xs ++ f x ∷ [])
inserted f xs x true true e = refl
inserted f xs x false false e = map_last f xs x
inserted f xs x true false e = absurd cc
inserted f xs x false true e = absurd cc

-- ---- for atoms and integer names

pub atom_among : (a : CodeAtom) (bs : List CodeAtom) → list_any (atoms.eq-value.it a) bs ≡ list_any (same_atoms (atom_of a)) (map atom_of bs)
atom_among a bs = any_along atom_of (atoms.eq-value.it a) (same_atoms (atom_of a)) (atom_test a) bs

pub atom_place : (a : CodeAtom) (bs : List CodeAtom) → position_or_len (atoms.eq-value.it a) bs ≡ position_or_len (same_atoms (atom_of a)) (map atom_of bs)
atom_place a bs = place_along atom_of (atoms.eq-value.it a) (same_atoms (atom_of a)) (atom_test a) bs

pub atoms_known : (a : CodeAtom) (bs : List CodeAtom) → map atom_of (if list_any (atoms.eq-value.it a) bs then bs else bs ++ a ∷ []) ≡ cond (list_any (same_atoms (atom_of a)) (map atom_of bs)) (map atom_of bs) (map atom_of bs ++ atom_of a ∷ [])
atoms_known a bs = inserted atom_of bs a _ _ (atom_among a bs)

pub integer_among : (x : IntName) (ys : List IntName) → list_any (names.eq-value.it x) ys ≡ list_any (same_integers (integer_of x)) (map integer_of ys)
integer_among x ys = any_along integer_of (names.eq-value.it x) (same_integers (integer_of x)) (integer_test x) ys

pub integer_place : (x : IntName) (ys : List IntName) → position_or_len (names.eq-value.it x) ys ≡ position_or_len (same_integers (integer_of x)) (map integer_of ys)
integer_place x ys = place_along integer_of (names.eq-value.it x) (same_integers (integer_of x)) (integer_test x) ys

pub integers_known : (x : IntName) (ys : List IntName) → map integer_of (if list_any (names.eq-value.it x) ys then ys else ys ++ x ∷ []) ≡ cond (list_any (same_integers (integer_of x)) (map integer_of ys)) (map integer_of ys) (map integer_of ys ++ integer_of x ∷ [])
integers_known x ys = inserted integer_of ys x _ _ (integer_among x ys)

-- ---- an atom that has a number: nothing is new

pub atom_stays : (k : Known) (a : Atom) → has_number k.table a ≡ true → k ≡ know_atom k a
atom_stays k a e =
    ap (λ (b : Bool). record { table = record { atoms = cond b k.table.atoms (k.table.atoms ++ a ∷ []); ints = k.table.ints }; named = unless_known b k.named (reading_of_atom a) }) (sym e)
