-- What a state reads once the readings at the entry are filled in, by number.
use Rattle.std.specs.Prelude.{◌≡◌, ℕ, suc, ℤ, nat_lt, Bool, true, cond, ◌&&◌, List, [], ◌∷◌, map, length}
use Rattle.spec_core.specs.declared.world.World.{World}
use Rattle.spec_core.specs.Specification.{Specification, relation_places, counter_keys}
use Rattle.spec_core.specs.Fits.{fits_places}
use Rattle.spec_core.specs.State.{Reads, with_has, with_count}
use Rattle.ground_problem.specs.Symbols.{Integer, argument, reading, partial}
use Rattle.ground_numbers.specs.Numbers.{Atom, same_atom, has_atom, row_atom}

-- the tuple of an atom at the entry is put in where the atom is true
abbrev pub fill_atom : Specification → (ℕ → ℕ) → Bool → Atom → Reads → Reads
fill_atom d val b (same_atom a c) r = r
fill_atom d val b (has_atom [] k u) r =
    cond (b && nat_lt k (length d.relations)) (with_has r k (map val u) true) r
fill_atom d val b (has_atom (n ∷ s) k u) r = r
fill_atom d val b (row_atom q) r = r

-- the readings with the tuples of these atoms put in, in their order; the first of them has this number
abbrev pub filled : Specification → (ℕ → ℕ) → (ℕ → Bool) → ℕ → List Atom → Reads → Reads
filled d val v n [] r = r
filled d val v n (a ∷ more) r = filled d val v (suc n) more (fill_atom d val (v n) a r)

-- the value of a counter at the entry is set
abbrev pub fill_integer : Specification → (ℕ → ℕ) → ℤ → Integer → Reads → Reads
fill_integer d val x (argument c p) r = r
fill_integer d val x (reading [] k u) r =
    cond (nat_lt k (length d.counters)) (with_count r k (map val u) x) r
fill_integer d val x (reading (n ∷ s) k u) r = r
fill_integer d val x (partial m s k u) r = r

-- the readings with the values of these names set, in their order; the first of them has this number
abbrev pub filled_integers : Specification → (ℕ → ℕ) → (ℕ → ℤ) → ℕ → List Integer → Reads → Reads
filled_integers d val v n [] r = r
filled_integers d val v n (x ∷ xs) r =
    filled_integers d val v (suc n) xs (fill_integer d val (v n) x r)

-- the tuple of a relation that is read at the entry fits it in a world
abbrev pub AtomFits : Specification → World → (ℕ → ℕ) → Atom → Type 0
AtomFits d w val (same_atom a c) = Unit {0}
AtomFits d w val (has_atom [] k u) = fits_places w (relation_places d k) (map val u) ≡ true
AtomFits d w val (has_atom (n ∷ s) k u) = Unit {0}
AtomFits d w val (row_atom q) = Unit {0}

-- the key of a counter that is read at the entry fits it in a world
abbrev pub IntegerFits : Specification → World → (ℕ → ℕ) → Integer → Type 0
IntegerFits d w val (argument c p) = Unit {0}
IntegerFits d w val (reading [] k u) = fits_places w (counter_keys d k) (map val u) ≡ true
IntegerFits d w val (reading (n ∷ s) k u) = Unit {0}
IntegerFits d w val (partial m s k u) = Unit {0}

-- the tuples of all relations that are read at the entry fit them
abbrev pub AtomsFit : Specification → World → (ℕ → ℕ) → List Atom → Type 0
AtomsFit d w val [] = Unit {0}
AtomsFit d w val (a ∷ more) = AtomFits d w val a × AtomsFit d w val more

-- the keys of all counters that are read at the entry fit them
abbrev pub IntegersFit : Specification → World → (ℕ → ℕ) → List Integer → Type 0
IntegersFit d w val [] = Unit {0}
IntegersFit d w val (x ∷ more) = IntegerFits d w val x × IntegersFit d w val more
