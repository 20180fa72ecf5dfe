-- Formulas whose atoms all have numbers name nothing new.
use Rattle.std.proofs.Common.{◌≡◌, ℕ, suc, ◌<◌, Bool, true, cond, List, [], ◌∷◌, ◌++◌, length, map, get_or, zero, refl, ◌∙◌, ap, subst, arith}
use Rattle.spec_core.specs.declared.update.Thing.{Thing}
use Rattle.spec_core.specs.declared.update.Thing.TheVariants as thing
use Rattle.ground_problem.specs.Definitions.{Reading, reading_of_integer}
use Rattle.ground_problem.specs.Equality.{congruent, congruent_pairs}
use Rattle.ground_problem.specs.Symbols.{Integer, Part, number, multiple, Symbolic, always, same, has, at_most, negated, both, either}
use Rattle.ground_numbers.specs.Numbers.{Atom, same_atom, has_atom, row_atom, Table, has_number, has_integer, with_atom, with_integer, with_integers, row_of, numbered, with_row, with_sums, naming, naming_all}
use Rattle.ground_numbers.proofs.Growing.{Extends, IntegersIn, RowIn, NamesIn, AllNamesIn, names-stay, numbered-stays, naming_all-has}
use Rattle.ground_numbers.proofs.Meeting.{named_integer, named_parts, named_by}
use Rattle.ground_atoms.specs.Known.{Known}
use Rattle.ground_atoms.specs.Making.{make}
use Rattle.ground_atoms.proofs.Numbering.{make-is}

atom_there : (o : Table) (a : Atom) → has_number o a ≡ true → with_atom o a ≡ o
atom_there o a h = ap (λ (b : Bool). record { atoms = cond b o.atoms (o.atoms ++ a ∷ []); ints = o.ints }) h

integer_there : (o : Table) (x : Integer) → has_integer o x ≡ true → with_integer o x ≡ o
integer_there o x h = ap (λ (b : Bool). record { atoms = o.atoms; ints = cond b o.ints (o.ints ++ x ∷ []) }) h

integers_there : (o : Table) (ps : List Part) → IntegersIn o ps → with_integers o ps ≡ o
integers_there o [] h = refl
integers_there o (number n ∷ ps) h = integers_there o ps h
integers_there o (multiple k x ∷ ps) h = ap (λ (t : Table). with_integers t ps) (integer_there o x h.0) ∙ integers_there o ps h.1

row_there : (o : Table) (ts : _) (r : _) → RowIn o ts r → with_row o ts r ≡ o
row_there o [] r h = refl
row_there o (t ∷ ts) r h = atom_there o (row_atom r) h

pub names_there : (o : Table) (f : Symbolic) → NamesIn o f → naming o f ≡ o
names_there o (always b) h = refl
names_there o (same a b) h = atom_there o (same_atom a b) h
names_there o (has k r t) h = atom_there o (has_atom k r t) h
names_there o (at_most t u n) h =
    let e : with_sums o t u ≡ o = ap (λ (z : Table). with_integers z u) (integers_there o t h.0) ∙ integers_there o u h.1 in
    ap (λ (z : Table). with_row z (row_of z t u n).terms (row_of z t u n)) e ∙ row_there o (row_of o t u n).terms (row_of o t u n) h.2
names_there o (negated f) h = names_there o f h
names_there o (both f g) h = ap (λ (z : Table). naming z g) (names_there o f h.0) ∙ names_there o g h.1
names_there o (either f g) h = ap (λ (z : Table). naming z g) (names_there o f h.0) ∙ names_there o g h.1

pub all_names_there : (o : Table) (fs : List Symbolic) → AllNamesIn o fs → naming_all o fs ≡ o
all_names_there o [] h = refl
all_names_there o (f ∷ fs) h = ap (λ (z : Table). naming_all z fs) (names_there o f h.0) ∙ all_names_there o fs h.1

-- ---- lists, one behind the other

pub all_names-append : (o : Table) (fs gs : List Symbolic) → AllNamesIn o fs → AllNamesIn o gs → AllNamesIn o (fs ++ gs)
all_names-append o [] gs h k = k
all_names-append o (f ∷ fs) gs h k = (h.0, all_names-append o fs gs h.1 k)

pub naming_all-append : (o : Table) (fs gs : List Symbolic) → naming_all o (fs ++ gs) ≡ naming_all (naming_all o fs) gs
naming_all-append o [] gs = refl
naming_all-append o (f ∷ fs) gs = naming_all-append (naming o f) fs gs

-- ---- numbers stay

pub all_numbered-stay : (t o : Table) → Extends t o → (fs : List Symbolic) → AllNamesIn t fs → map (numbered o) fs ≡ map (numbered t) fs
all_numbered-stay t o e [] h = refl
all_numbered-stay t o e (f ∷ fs) h =
    let p = numbered-stays t o e f h.0 in
    let q = all_numbered-stay t o e fs h.1 in
    λ i. p i ∷ q i

-- what has numbers in a table has numbers in a larger one
pub all_names-stay : (t o : Table) → Extends t o → (fs : List Symbolic) → AllNamesIn t fs → AllNamesIn o fs
all_names-stay t o e [] h = tt
all_names-stay t o e (f ∷ fs) h = (names-stay t o e f h.0, all_names-stay t o e fs h.1)

-- formulas that name nothing new have numbers
pub all_names_in : (o : Table) (fs : List Symbolic) → naming_all o fs ≡ o → AllNamesIn o fs
all_names_in o fs e = subst (λ (t : Table). AllNamesIn t fs) e (naming_all-has o fs)

-- ---- a formula that names nothing new, made

parts_met : (o : Table) (met : List Reading) (ps : List Part) → IntegersIn o ps → named_parts o met ps ≡ met
parts_met o met [] h = refl
parts_met o met (number n ∷ ps) h = parts_met o met ps h
parts_met o met (multiple k x ∷ ps) h =
    let e = integer_there o x h.0 in
    let q : named_integer o met x ≡ met = ap (λ (b : Bool). cond b met (met ++ reading_of_integer x)) h.0 in
    (λ i. named_parts (e i) (q i) ps) ∙ parts_met o met ps h.1

named_met : (o : Table) (met : List Reading) (f : Symbolic) → NamesIn o f → named_by o met f ≡ met
named_met o met (always b) h = refl
named_met o met (same a b) h = ap (λ (c : Bool). cond c met (met ++ [])) h
named_met o met (has k r t) h = ap (λ (c : Bool). cond c met (met ++ record { stage = k; thing = thing.Relation r; tuple = t } ∷ [])) h
named_met o met (at_most t u n) h =
    let e = integers_there o t h.0 in
    let q = parts_met o met t h.0 in
    (λ i. named_parts (e i) (q i) u) ∙ parts_met o met u h.1
named_met o met (negated f) h = named_met o met f h
named_met o met (both f g) h =
    let e = names_there o f h.0 in
    let q = named_met o met f h.0 in
    (λ i. named_by (e i) (q i) g) ∙ named_met o met g h.1
named_met o met (either f g) h =
    let e = names_there o f h.0 in
    let q = named_met o met f h.0 in
    (λ i. named_by (e i) (q i) g) ∙ named_met o met g h.1

pub made_there : (k : Known) (f : Symbolic) → NamesIn k.table f → make k f ≡ record { known = k; form = numbered k.table f }
made_there k f h =
    let e = names_there k.table f h in
    let q = named_met k.table k.named f h in
    make-is k f ∙ (λ i. record { known = record { table = e i; named = q i }; form = numbered (e i) f })

-- ---- the formula of two tuples

pub names_apart : (o : Table) (fs gs : List Symbolic) → AllNamesIn o (fs ++ gs) → AllNamesIn o fs × AllNamesIn o gs
names_apart o [] gs h = (tt, h)
names_apart o (f ∷ fs) gs h = (let k = names_apart o fs gs h.1 in ((h.0, k.0), k.1))

with_each_in : (o : Table) (x : Thing) (t : List ℕ) (us : List (List ℕ)) (j : ℕ) → j < length us → AllNamesIn o (map (congruent x t) us) → NamesIn o (congruent x t (get_or us j []))
with_each_in o x t [] j b h = absurd (omega (arith, b))
with_each_in o x t (u ∷ us) zero b h = h.0
with_each_in o x t (u ∷ us) (suc j) b h = with_each_in o x t us j (omega (arith, b)) h.1

pub pair_in : (o : Table) (x : Thing) (ts : List (List ℕ)) (i j : ℕ) → i < j → j < length ts → AllNamesIn o (congruent_pairs x ts) → NamesIn o (congruent x (get_or ts i []) (get_or ts j []))
pair_in o x [] i j a b h = absurd (omega (arith, b))
pair_in o x (t ∷ ts) i zero a b h = absurd (omega (arith, a))
pair_in o x (t ∷ ts) zero (suc j) a b h = with_each_in o x t ts j (omega (arith, b)) (names_apart o (map (congruent x t) ts) (congruent_pairs x ts) h).0
pair_in o x (t ∷ ts) (suc i) (suc j) a b h = pair_in o x ts i j (omega (arith, a)) (omega (arith, b)) (names_apart o (map (congruent x t) ts) (congruent_pairs x ts) h).1
