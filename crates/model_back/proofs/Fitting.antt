-- What is read at the entry fits the world: its constants are of the sorts of its thing.
use Rattle.std.proofs.Common.{◌≡◌, ℕ, suc, ◌<◌, nat_lt, ℤ, Bool, true, cond, ◌&&◌, List, [], ◌∷◌, map, length, get_or, refl, sym, ◌∙◌, ap, subst, arith}
use Rattle.spec_core.specs.declared.update.Thing.TheVariants as thing
use Rattle.spec_core.specs.Specification.{Specification, relation_places, counter_keys}
use Rattle.spec_core.specs.Fits.{fits_places}
use Rattle.spec_core.specs.Typed.{is_specification}
use Rattle.obligation_list.specs.declared.obligation.Obligation.{Obligation}
use Rattle.obligation_list.specs.Obligations.{IsObligation}
use Rattle.proof_lines.specs.Problems.{Meaning}
use Rattle.ground_problem.specs.Symbols.{Integer, argument, reading, partial, Interpretation, all_true}
use Rattle.ground_problem.specs.Problem.{formulas_of}
use Rattle.ground_problem.specs.Readback.{element_at, world_of}
use Rattle.ground_problem.proofs.Given as given
use Rattle.ground_numbers.specs.Numbers.{Atom, same_atom, has_atom, row_atom, same_atoms, same_integers, Table, has_number, has_integer}
use Rattle.ground_numbers.specs.Problem.{table_of, interpretation_of}
use Rattle.model_back.proofs.Numbered.{no_atom, no_integer}
use Rattle.ground_numbers.proofs.Sameness.{same_atoms-refl, same_integers-refl}
use Rattle.spec_core.specs.declared.world.World.{World}
use Rattle.spec_core.specs.State.{Reads, nothing, with_has, with_count}
use Rattle.ground_problem.specs.Constants.{constants_of}
use Rattle.ground_problem.proofs.Rows.{HaveSorts}
use Rattle.ground_problem.proofs.Worlds.{sort_of}
use Rattle.model_back.specs.Filling.{fill_atom, filled, fill_integer, filled_integers, AtomFits, AtomsFit, IntegerFits, IntegersFit}
use Rattle.model_back.proofs.Naming.{table-named}
use Rattle.model_back.proofs.Places.{any-at}

module _ (d : Specification) (ob : Obligation) (mu : Meaning) (t : is_specification d ≡ true) (io : IsObligation d ob) (h : all_true (interpretation_of (table_of d ob) mu) (formulas_of d ob) ≡ true) where
  abbrev o : Table
  o = table_of d ob

  abbrev m : Interpretation
  m = interpretation_of o mu

  abbrev val : ℕ → ℕ
  val = element_at d ob m

  atom-fits : (a : Atom) → has_number o a ≡ true → AtomFits d (world_of d ob m) val a
  atom-fits (same_atom a b) k = tt
  atom-fits (has_atom [] r u) k = given.sorted_fit d ob m h t io (relation_places d r) u (given.row_sorted d ob m h t io (thing.Relation r) u ((table-named d ob).atoms (has_atom [] r u) k refl))
  atom-fits (has_atom (n ∷ s) r u) k = tt
  atom-fits (row_atom q) k = tt

  integer-fits : (x : Integer) → has_integer o x ≡ true → IntegerFits d (world_of d ob m) val x
  integer-fits (argument c p) k = tt
  integer-fits (reading [] i u) k = given.sorted_fit d ob m h t io (counter_keys d i) u (given.row_sorted d ob m h t io (thing.Counter i) u ((table-named d ob).ints (reading [] i u) k refl))
  integer-fits (reading (n ∷ s) i u) k = tt
  integer-fits (partial n s i u) k = tt

  each-atom : (atoms : List Atom) → ((i : ℕ) → i < length atoms → AtomFits d (world_of d ob m) val (get_or atoms i no_atom)) → AtomsFit d (world_of d ob m) val atoms
  each-atom [] f = tt
  each-atom (a ∷ more) f = (f 0 (omega arith), each-atom more (λ i l. f (suc i) (omega arith)))

  each-integer : (ints : List Integer) → ((i : ℕ) → i < length ints → IntegerFits d (world_of d ob m) val (get_or ints i no_integer)) → IntegersFit d (world_of d ob m) val ints
  each-integer [] f = tt
  each-integer (x ∷ more) f = (f 0 (omega arith), each-integer more (λ i l. f (suc i) (omega arith)))

  -- the atoms and the names of the table
  pub atoms-fit : AtomsFit d (world_of d ob m) val o.atoms
  atoms-fit = each-atom o.atoms (λ i l. atom-fits (get_or o.atoms i no_atom) (any-at (same_atoms (get_or o.atoms i no_atom)) o.atoms i no_atom l (same_atoms-refl (get_or o.atoms i no_atom))))

  pub integers-fit : IntegersFit d (world_of d ob m) val o.ints
  integers-fit = each-integer o.ints (λ i l. integer-fits (get_or o.ints i no_integer) (any-at (same_integers (get_or o.ints i no_integer)) o.ints i no_integer l (same_integers-refl (get_or o.ints i no_integer))))

-- ---- elements as a program lists them

abbrev AtomSame : (ℕ → ℕ) → (ℕ → ℕ) → Atom → Type 0
AtomSame f g (same_atom a b) = Unit {0}
AtomSame f g (has_atom [] k u) = map f u ≡ map g u
AtomSame f g (has_atom (n ∷ s) k u) = Unit {0}
AtomSame f g (row_atom q) = Unit {0}

abbrev IntegerSame : (ℕ → ℕ) → (ℕ → ℕ) → Integer → Type 0
IntegerSame f g (argument c p) = Unit {0}
IntegerSame f g (reading [] k u) = map f u ≡ map g u
IntegerSame f g (reading (n ∷ s) k u) = Unit {0}
IntegerSame f g (partial m s k u) = Unit {0}

fill-same : (d : Specification) (f g : ℕ → ℕ) (b : Bool) (a : Atom) (r : Reads) → AtomSame f g a → fill_atom d f b a r ≡ fill_atom d g b a r
fill-same d f g b (same_atom x y) r h = refl
fill-same d f g b (has_atom [] k u) r h = ap (λ (t : List ℕ). cond (b && nat_lt k (length d.relations)) (with_has r k t true) r) h
fill-same d f g b (has_atom (n ∷ s) k u) r h = refl
fill-same d f g b (row_atom q) r h = refl

fill-integer-same : (d : Specification) (f g : ℕ → ℕ) (x : ℤ) (y : Integer) (r : Reads) → IntegerSame f g y → fill_integer d f x y r ≡ fill_integer d g x y r
fill-integer-same d f g x (argument c p) r h = refl
fill-integer-same d f g x (reading [] k u) r h = ap (λ (t : List ℕ). cond (nat_lt k (length d.counters)) (with_count r k t x) r) h
fill-integer-same d f g x (reading (n ∷ s) k u) r h = refl
fill-integer-same d f g x (partial m s k u) r h = refl

filled-same : (d : Specification) (f g : ℕ → ℕ) (v : ℕ → Bool) (n : ℕ) (atoms : List Atom) (r : Reads) → ((i : ℕ) → i < length atoms → AtomSame f g (get_or atoms i no_atom)) → filled d f v n atoms r ≡ filled d g v n atoms r
filled-same d f g v n [] r h = refl
filled-same d f g v n (a ∷ more) r h = ap (filled d f v (suc n) more) (fill-same d f g (v n) a r (h 0 (omega arith))) ∙ filled-same d f g v (suc n) more (fill_atom d g (v n) a r) (λ i l. h (suc i) (omega arith))

filled-integers-same : (d : Specification) (f g : ℕ → ℕ) (v : ℕ → ℤ) (n : ℕ) (ints : List Integer) (r : Reads) → ((i : ℕ) → i < length ints → IntegerSame f g (get_or ints i no_integer)) → filled_integers d f v n ints r ≡ filled_integers d g v n ints r
filled-integers-same d f g v n [] r h = refl
filled-integers-same d f g v n (x ∷ more) r h = ap (filled_integers d f v (suc n) more) (fill-integer-same d f g (v n) x r (h 0 (omega arith))) ∙ filled-integers-same d f g v (suc n) more (fill_integer d g (v n) x r) (λ i l. h (suc i) (omega arith))

fit-same : (d : Specification) (w : World) (f g : ℕ → ℕ) (a : Atom) → AtomSame f g a → AtomFits d w g a → AtomFits d w f a
fit-same d w f g (same_atom x y) h k = tt
fit-same d w f g (has_atom [] r u) h k = subst (λ (t : List ℕ). fits_places w (relation_places d r) t ≡ true) (sym h) k
fit-same d w f g (has_atom (n ∷ s) r u) h k = tt
fit-same d w f g (row_atom q) h k = tt

fit-integer-same : (d : Specification) (w : World) (f g : ℕ → ℕ) (x : Integer) → IntegerSame f g x → IntegerFits d w g x → IntegerFits d w f x
fit-integer-same d w f g (argument c p) h k = tt
fit-integer-same d w f g (reading [] i u) h k = subst (λ (t : List ℕ). fits_places w (counter_keys d i) t ≡ true) (sym h) k
fit-integer-same d w f g (reading (n ∷ s) i u) h k = tt
fit-integer-same d w f g (partial m s i u) h k = tt

pub map-same : (f g : ℕ → ℕ) (all ss us : List ℕ) → ((c : ℕ) → c < length all → f c ≡ g c) → HaveSorts all ss us → map f us ≡ map g us
map-same f g all [] [] e h = refl
map-same f g all [] (u ∷ us) e h = absurd h
map-same f g all (s ∷ ss) [] e h = absurd h
map-same f g all (s ∷ ss) (u ∷ us) e h = (let p = e u (sort_of all s u h.0).0 in let q = map-same f g all ss us e h.1 in λ i. p i ∷ q i)

module _ (d : Specification) (ob : Obligation) (mu : Meaning) (t : is_specification d ≡ true) (io : IsObligation d ob) (h : all_true (interpretation_of (table_of d ob) mu) (formulas_of d ob) ≡ true) (elements : ℕ → ℕ) (own : (c : ℕ) → c < length (constants_of d ob).sorts → elements c ≡ element_at d ob (interpretation_of (table_of d ob) mu) c) where
  abbrev o2 : Table
  o2 = table_of d ob

  abbrev m2 : Interpretation
  m2 = interpretation_of o2 mu

  abbrev val2 : ℕ → ℕ
  val2 = element_at d ob m2

  atom-same : (a : Atom) → has_number o2 a ≡ true → AtomSame elements val2 a
  atom-same (same_atom a b) k = tt
  atom-same (has_atom [] r u) k = map-same elements val2 (constants_of d ob).sorts (relation_places d r) u own (given.row_sorted d ob m2 h t io (thing.Relation r) u ((table-named d ob).atoms (has_atom [] r u) k refl))
  atom-same (has_atom (n ∷ s) r u) k = tt
  atom-same (row_atom q) k = tt

  integer-same : (x : Integer) → has_integer o2 x ≡ true → IntegerSame elements val2 x
  integer-same (argument c p) k = tt
  integer-same (reading [] i u) k = map-same elements val2 (constants_of d ob).sorts (counter_keys d i) u own (given.row_sorted d ob m2 h t io (thing.Counter i) u ((table-named d ob).ints (reading [] i u) k refl))
  integer-same (reading (n ∷ s) i u) k = tt
  integer-same (partial n s i u) k = tt

  same-at : (i : ℕ) → i < length o2.atoms → AtomSame elements val2 (get_or o2.atoms i no_atom)
  same-at i l = atom-same (get_or o2.atoms i no_atom) (any-at (same_atoms (get_or o2.atoms i no_atom)) o2.atoms i no_atom l (same_atoms-refl (get_or o2.atoms i no_atom)))

  integer-same-at : (i : ℕ) → i < length o2.ints → IntegerSame elements val2 (get_or o2.ints i no_integer)
  integer-same-at i l = integer-same (get_or o2.ints i no_integer) (any-at (same_integers (get_or o2.ints i no_integer)) o2.ints i no_integer l (same_integers-refl (get_or o2.ints i no_integer)))

  -- a program's elements give the same readings
  pub read-same : filled_integers d elements mu.number 0 o2.ints (filled d elements mu.truth 0 o2.atoms nothing) ≡ filled_integers d val2 mu.number 0 o2.ints (filled d val2 mu.truth 0 o2.atoms nothing)
  read-same = filled-integers-same d elements val2 mu.number 0 o2.ints (filled d elements mu.truth 0 o2.atoms nothing) integer-same-at ∙ ap (filled_integers d val2 mu.number 0 o2.ints) (filled-same d elements val2 mu.truth 0 o2.atoms nothing same-at)

  same-atoms : (atoms : List Atom) → ((i : ℕ) → i < length atoms → AtomSame elements val2 (get_or atoms i no_atom)) → AtomsFit d (world_of d ob m2) val2 atoms → AtomsFit d (world_of d ob m2) elements atoms
  same-atoms [] f k = tt
  same-atoms (a ∷ more) f k = (fit-same d (world_of d ob m2) elements val2 a (f 0 (omega arith)) k.0, same-atoms more (λ i l. f (suc i) (omega arith)) k.1)

  same-integers : (ints : List Integer) → ((i : ℕ) → i < length ints → IntegerSame elements val2 (get_or ints i no_integer)) → IntegersFit d (world_of d ob m2) val2 ints → IntegersFit d (world_of d ob m2) elements ints
  same-integers [] f k = tt
  same-integers (x ∷ more) f k = (fit-integer-same d (world_of d ob m2) elements val2 x (f 0 (omega arith)) k.0, same-integers more (λ i l. f (suc i) (omega arith)) k.1)

  -- and fit the world
  pub elements-fit : AtomsFit d (world_of d ob m2) elements o2.atoms
  elements-fit = same-atoms o2.atoms same-at (atoms-fit d ob mu t io h)

  pub integer-elements-fit : IntegersFit d (world_of d ob m2) elements o2.ints
  integer-elements-fit = same-integers o2.ints integer-same-at (integers-fit d ob mu t io h)
