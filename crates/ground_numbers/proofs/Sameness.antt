-- The tests of equality of atoms and of names tell equality.
use Rattle.std.proofs.Common.{◌≡◌, ℕ, true, ◌&&◌, List, refl, ap}
use Rattle.std.specs.Prelude.{◌==◌}
use Rattle.std.specs.Str.{bytes_eq}
use Rattle.std.proofs.lemmas.Bool.{and_parts, and_from}
use Rattle.std.proofs.lemmas.Bool.Decides.{Decides-eqb}
use Rattle.std.proofs.lemmas.Slice.Eq.{bytes_eq-Decides}
use Rattle.line_rows.proofs.Certificates.{same_row-refl, same_row-is}
use Rattle.ground_problem.specs.Symbols.{Integer, argument, reading, partial}
use Rattle.ground_numbers.specs.Numbers.{Atom, same_atom, has_atom, row_atom, same_atoms, same_integers}

nat-refl : (a : ℕ) → (a == a) ≡ true
nat-refl a = (Decides-eqb a a).1 refl

nat-is : (a b : ℕ) → (a == b) ≡ true → a ≡ b
nat-is a b h = (Decides-eqb a b).0 h

list-refl : (a : List ℕ) → bytes_eq a a ≡ true
list-refl a = (bytes_eq-Decides a a).1 refl

list-is : (a b : List ℕ) → bytes_eq a b ≡ true → a ≡ b
list-is a b h = (bytes_eq-Decides a b).0 h

both-refl : (k : List ℕ) (i : ℕ) (t : List ℕ) → (bytes_eq k k && ((i == i) && bytes_eq t t)) ≡ true
both-refl k i t = and_from (bytes_eq k k) _ (list-refl k) (and_from (i == i) (bytes_eq t t) (nat-refl i) (list-refl t))

both-is : (k j : List ℕ) (i h : ℕ) (t u : List ℕ) → (bytes_eq k j && ((i == h) && bytes_eq t u)) ≡ true → (k ≡ j) × (i ≡ h) × (t ≡ u)
both-is k j i h t u e =
    let p = and_parts (bytes_eq k j) _ e in
    let q = and_parts (i == h) (bytes_eq t u) p.1 in
    (list-is k j p.0, nat-is i h q.0, list-is t u q.1)

pub same_atoms-refl : (a : Atom) → same_atoms a a ≡ true
same_atoms-refl (same_atom a b) = and_from (a == a) (b == b) (nat-refl a) (nat-refl b)
same_atoms-refl (has_atom k r t) = both-refl k r t
same_atoms-refl (row_atom r) = same_row-refl r

pub same_atoms-is : (a b : Atom) → same_atoms a b ≡ true → a ≡ b
same_atoms-is (same_atom a b) (same_atom c d) h = (let p = and_parts (a == c) (b == d) h in let e = nat-is a c p.0 in let f = nat-is b d p.1 in λ i. same_atom (e i) (f i))
same_atoms-is (same_atom a b) (has_atom k r t) h = absurd cc
same_atoms-is (same_atom a b) (row_atom s) h = absurd cc
same_atoms-is (has_atom k r t) (same_atom a b) h = absurd cc
same_atoms-is (has_atom k r t) (has_atom j q u) h = (let p = both-is k j r q t u h in λ i. has_atom (p.0 i) (p.1 i) (p.2 i))
same_atoms-is (has_atom k r t) (row_atom s) h = absurd cc
same_atoms-is (row_atom r) (same_atom a b) h = absurd cc
same_atoms-is (row_atom r) (has_atom k q t) h = absurd cc
same_atoms-is (row_atom r) (row_atom s) h = ap row_atom (same_row-is r s h)

pub same_integers-refl : (x : Integer) → same_integers x x ≡ true
same_integers-refl (argument c p) = and_from (c == c) (p == p) (nat-refl c) (nat-refl p)
same_integers-refl (reading k i t) = both-refl k i t
same_integers-refl (partial n k i t) = and_from (n == n) _ (nat-refl n) (both-refl k i t)

pub same_integers-is : (x y : Integer) → same_integers x y ≡ true → x ≡ y
same_integers-is (argument c p) (argument d q) h = (let k = and_parts (c == d) (p == q) h in let e = nat-is c d k.0 in let f = nat-is p q k.1 in λ i. argument (e i) (f i))
same_integers-is (argument c p) (reading k i t) h = absurd cc
same_integers-is (argument c p) (partial n k i t) h = absurd cc
same_integers-is (reading k i t) (argument c p) h = absurd cc
same_integers-is (reading k i t) (reading j q u) h = (let p = both-is k j i q t u h in λ z. reading (p.0 z) (p.1 z) (p.2 z))
same_integers-is (reading k i t) (partial n j q u) h = absurd cc
same_integers-is (partial n k i t) (argument c p) h = absurd cc
same_integers-is (partial n k i t) (reading j q u) h = absurd cc
same_integers-is (partial n k i t) (partial m j q u) h =
    let o = and_parts (n == m) _ h in
    let e = nat-is n m o.0 in
    let p = both-is k j i q t u o.1 in
    λ z. partial (e z) (p.0 z) (p.1 z) (p.2 z)
