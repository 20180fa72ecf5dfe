-- A numbering that grows keeps the numbers that it gave.
use Rattle.std.proofs.Common.{◌≡◌, Bool, true, false, List, [], ◌∷◌, ◌++◌, map, refl, ap}
use Rattle.std.specs.Prelude.{if◌then◌else◌}
use Rattle.ground_problem.specs.Symbols.{Integer}
use Rattle.ground_numbers.specs.Numbers.{Atom, has_number, has_integer}
use Rattle.ground_atoms.specs.Known.{Known, know_atom, know_integer}
use Rattle.ground_atoms.specs.Staying.{Begins, NumbersStay}
use Rattle.ground_atoms.proofs.Cutting.{same_list, then_more, unless}

map_more : {X Y : Type 0} (f : X → Y) (xs : List X) (x : X) → map f (xs ++ x ∷ []) ≡ map f xs ++ f x ∷ []
map_more f [] x = refl
map_more f (y ∷ xs) x = ap (λ z. f y ∷ z) (map_more f xs x)

-- what keys stand for, with one more unless it is there
pub begins-inserted : {X Y : Type 0} (f : X → Y) (b : Bool) (xs : List X) (x : X) → Begins (map f xs) (map f (if b then xs else xs ++ x ∷ []))
begins-inserted f true xs x = same_list (map f xs)
begins-inserted f false xs x = record { more = f x ∷ []; is = map_more f xs x }

pub stay : (k : Known) → NumbersStay k k
stay k = record { atoms = same_list k.table.atoms; ints = same_list k.table.ints }

pub stay_then : {a b c : Known} → NumbersStay a b → NumbersStay b c → NumbersStay a c
stay_then {a} {b} {c} p q = record {
  atoms = then_more a.table.atoms b.table.atoms c.table.atoms p.atoms q.atoms;
  ints = then_more a.table.ints b.table.ints c.table.ints p.ints q.ints;
}

pub stay_atom : (k : Known) (a : Atom) → NumbersStay k (know_atom k a)
stay_atom k a = record { atoms = unless (has_number k.table a) k.table.atoms (a ∷ []); ints = same_list k.table.ints }

pub stay_integer : (k : Known) (x : Integer) → NumbersStay k (know_integer k x)
stay_integer k x = record { atoms = same_list k.table.atoms; ints = unless (has_integer k.table x) k.table.ints (x ∷ []) }
