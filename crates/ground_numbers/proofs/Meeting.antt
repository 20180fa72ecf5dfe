-- The readings that a table has numbers for, in the order in which numbering first meets them, are the distinct readings of the formulas.
use Rattle.std.proofs.Common.{◌≡◌, ℕ, suc, Bool, true, false, cond, ◌&&◌, ◌||◌, List, [], ◌∷◌, ◌++◌, length, map, flat_map, filter, refl, sym, ◌∙◌, ap, arith, append_assoc}
use Rattle.std.specs.Prelude.{◌==◌}
use Rattle.std.specs.Str.{bytes_eq}
use Rattle.std.specs.List.{list_all, list_any}
use Rattle.std.proofs.lemmas.Bool.{and_parts, and_from}
use Rattle.std.proofs.lemmas.List.{append-nil}
use Rattle.std.proofs.lemmas.List.Folds.{list_any-append}
use Rattle.std.proofs.lemmas.Slice.Eq.{bytes_eq-Decides}
use Rattle.spec_core.specs.declared.operation.Param.{Param as Parameter}
use Rattle.spec_core.specs.declared.update.Thing.{Thing}
use Rattle.spec_core.specs.declared.update.Thing.TheVariants as thing
use Rattle.spec_core.specs.Specification.{Specification}
use Rattle.spec_core.specs.Typed.{is_int}
use Rattle.obligation_list.specs.declared.obligation.Obligation.{Obligation}
use Rattle.ground_problem.specs.Constants.{params_of}
use Rattle.ground_numbers.specs.Problem.{numbers_from, arguments_from, arguments_of}
use Rattle.ground_problem.specs.Symbols.{Stage, Integer, argument, reading, partial, Part, number, multiple, Symbolic, always, same, has, at_most, negated, both, either}
use Rattle.ground_problem.specs.Definitions.{Reading, reading_of_integer, readings_of_part, readings, same_reading, distinct, readings_after}
use Rattle.ground_numbers.specs.Numbers.{Atom, same_atom, has_atom, row_atom, same_atoms, same_integers, Table, has_number, has_integer, with_atom, with_integer, with_integers, row_of, with_row, with_sums, naming, naming_all}
use Rattle.lin_rows.specs.declared.term.RowTerm.{RowTerm}
use Rattle.lin_rows.specs.Rows.{Row}

-- ---- distinct readings

abbrev is_met : List Reading → Reading → Bool
is_met met q = list_any (same_reading q) met

or_none : (b : Bool) → (b || false) ≡ b
or_none b = grind arith

-- what was met counts by what it holds alone, at readings that pass a test
pub distinct-met : (p : Reading → Bool) (m n : List Reading) → ((q : Reading) → p q ≡ true → is_met m q ≡ is_met n q) → (qs : List Reading) → list_all p qs ≡ true → distinct m qs ≡ distinct n qs
distinct-met p m n e [] h = refl
distinct-met p m n e (q ∷ qs) h =
    let k = and_parts (p q) (list_all p qs) h in
    let rest = distinct-met p m n e qs k.1 in
    let new = distinct-met p (q ∷ m) (q ∷ n) (λ r t. ap (λ b. same_reading r q || b) (e r t)) qs k.1 in
    ap (λ b. cond b (distinct m qs) (q ∷ distinct (q ∷ m) qs)) (e q k.0) ∙ (λ i. cond (is_met n q) (rest i) (q ∷ new i))

any_reading : (qs : List Reading) → list_all (λ (q : Reading). true) qs ≡ true
any_reading [] = refl
any_reading (q ∷ qs) = any_reading qs

same_met : (m n : List Reading) → ((q : Reading) → is_met m q ≡ is_met n q) → (qs : List Reading) → distinct m qs ≡ distinct n qs
same_met m n e qs = distinct-met (λ q. true) m n (λ q t. e q) qs (any_reading qs)

-- one more at either end, or in between
met_last : (m : List Reading) (x q : Reading) → is_met (m ++ x ∷ []) q ≡ is_met (x ∷ m) q
met_last m x q = list_any-append (same_reading q) m (x ∷ []) ∙ swapped (is_met m q) (same_reading q x)
  where
    swapped : (a b : Bool) → (a || (b || false)) ≡ (b || a)
    swapped a b = grind arith

met_between : (m : List Reading) (x : Reading) (ds : List Reading) (q : Reading) → is_met (x ∷ (m ++ ds)) q ≡ is_met (m ++ x ∷ ds) q
met_between m x ds q = ap (λ b. same_reading q x || b) (list_any-append (same_reading q) m ds) ∙ swapped (same_reading q x) (is_met m q) (is_met ds q) ∙ sym (list_any-append (same_reading q) m (x ∷ ds))
  where
    swapped : (a b c : Bool) → (a || (b || c)) ≡ (b || (a || c))
    swapped a b c = grind arith

pub distinct-append : (m xs ys : List Reading) → distinct m (xs ++ ys) ≡ distinct m xs ++ distinct (m ++ distinct m xs) ys
distinct-append m [] ys = ap (λ n. distinct n ys) (sym (append-nil m))
distinct-append m (x ∷ xs) ys = by_test (is_met m x) (distinct-append m xs ys) (distinct-append (x ∷ m) xs ys)
  where
    by_test : (b : Bool) → distinct m (xs ++ ys) ≡ distinct m xs ++ distinct (m ++ distinct m xs) ys → distinct (x ∷ m) (xs ++ ys) ≡ distinct (x ∷ m) xs ++ distinct ((x ∷ m) ++ distinct (x ∷ m) xs) ys
        → cond b (distinct m (xs ++ ys)) (x ∷ distinct (x ∷ m) (xs ++ ys)) ≡ cond b (distinct m xs) (x ∷ distinct (x ∷ m) xs) ++ distinct (m ++ cond b (distinct m xs) (x ∷ distinct (x ∷ m) xs)) ys
    by_test true e f = e
    by_test false e f = ap (λ ds. x ∷ ds) (f ∙ ap (λ ds. distinct (x ∷ m) xs ++ ds) (same_met ((x ∷ m) ++ distinct (x ∷ m) xs) (m ++ x ∷ distinct (x ∷ m) xs) (met_between m x (distinct (x ∷ m) xs)) ys))

-- ---- tests that equal readings pass alike

abbrev pub Respects : (Reading → Bool) → Type 0
Respects p = (q r : Reading) → same_reading q r ≡ true → p q ≡ p r

filter-all : (p : Reading → Bool) (qs : List Reading) → list_all p (filter p qs) ≡ true
filter-all p [] = refl
filter-all p (q ∷ qs) = by_test (p q) refl (filter-all p qs)
  where
    by_test : (b : Bool) → p q ≡ b → list_all p (filter p qs) ≡ true → list_all p (cond b (q ∷ filter p qs) (filter p qs)) ≡ true
    by_test true e h = and_from (p q) _ e h
    by_test false e h = h

-- The distinct readings that pass such a test are the distinct ones of those that pass it.
pub distinct-filter : (p : Reading → Bool) → Respects p → (m qs : List Reading) → filter p (distinct m qs) ≡ distinct m (filter p qs)
distinct-filter p s m [] = refl
distinct-filter p s m (q ∷ qs) = by_tests (is_met m q) (p q) refl refl (distinct-filter p s m qs) (distinct-filter p s (q ∷ m) qs)
  where
    other : p q ≡ false → (r : Reading) → p r ≡ true → is_met (q ∷ m) r ≡ is_met m r
    other e r h = by_same (same_reading r q) refl
      where
        by_same : (b : Bool) → same_reading r q ≡ b → (b || is_met m r) ≡ is_met m r
        by_same true t = absurd (let k = s r q t in cc)
        by_same false t = refl

    by_tests : (b c : Bool) → is_met m q ≡ b → p q ≡ c → filter p (distinct m qs) ≡ distinct m (filter p qs) → filter p (distinct (q ∷ m) qs) ≡ distinct (q ∷ m) (filter p qs)
        → filter p (cond b (distinct m qs) (q ∷ distinct (q ∷ m) qs)) ≡ distinct m (cond c (q ∷ filter p qs) (filter p qs))
    by_tests true true d e x y = x ∙ sym (ap (λ b. cond b (distinct m (filter p qs)) (q ∷ distinct (q ∷ m) (filter p qs))) d)
    by_tests true false d e x y = x
    by_tests false true d e x y =
        ap (λ c. cond c (q ∷ filter p (distinct (q ∷ m) qs)) (filter p (distinct (q ∷ m) qs))) e
        ∙ ap (λ ds. q ∷ ds) y
        ∙ sym (ap (λ b. cond b (distinct m (filter p qs)) (q ∷ distinct (q ∷ m) (filter p qs))) d)
    by_tests false false d e x y =
        ap (λ c. cond c (q ∷ filter p (distinct (q ∷ m) qs)) (filter p (distinct (q ∷ m) qs))) e
        ∙ y
        ∙ distinct-met p (q ∷ m) m (other e) (filter p qs) (filter-all p qs)

stage_respected : (n : ℕ) → Respects (λ q. length q.stage == n)
stage_respected n q r h = (let k = and_parts (bytes_eq q.stage r.stage) _ h in ap (λ (s : List ℕ). length s == n) ((bytes_eq-Decides q.stage r.stage).0 k.0))

-- The readings after so many calls, among the distinct readings of a list.
pub readings_after-distinct : (n : ℕ) (list : List Symbolic) → readings_after n list ≡ filter (λ q. length q.stage == n) (distinct [] (flat_map readings list))
readings_after-distinct n list = sym (distinct-filter (λ q. length q.stage == n) (stage_respected n) [] (flat_map readings list))

-- ---- the readings of a table

abbrev pub reading_of_atom : Atom → List Reading
reading_of_atom (same_atom a b) = []
reading_of_atom (has_atom k r u) = record { stage = k; thing = thing.Relation r; tuple = u } ∷ []
reading_of_atom (row_atom r) = []

abbrev pub has_reading : Table → Stage → Thing → List ℕ → Bool
has_reading t k (thing.Relation r) u = has_number t (has_atom k r u)
has_reading t k (thing.Counter i) u = has_integer t (reading k i u)

-- a table has numbers for the readings that were met, and for no others
abbrev pub Meets : Table → List Reading → Type 0
Meets t met = (k : Stage) (x : Thing) (u : List ℕ) → has_reading t k x u ≡ is_met met (record { stage = k; thing = x; tuple = u })

none_met : (b : Bool) → false ≡ (b && false)
none_met b = grind arith

-- an atom with its reading, unless it has a number
abbrev pub named_atom : Table → List Reading → Atom → List Reading
named_atom t met a = cond (has_number t a) met (met ++ reading_of_atom a)

abbrev pub named_integer : Table → List Reading → Integer → List Reading
named_integer t met x = cond (has_integer t x) met (met ++ reading_of_integer x)

-- whether a list with one more holds an equal one
last_any : {X : Type 0} (p : X → Bool) (xs : List X) (x : X) (b : Bool) → p x ≡ b → list_any p (xs ++ x ∷ []) ≡ (list_any p xs || b)
last_any p xs x b e = list_any-append p xs (x ∷ []) ∙ ap (λ c. list_any p xs || c) (or_none (p x) ∙ e)

new_reading : (met : List Reading) (y q : Reading) (b : Bool) → same_reading q y ≡ b → is_met (met ++ y ∷ []) q ≡ (is_met met q || b)
new_reading met y q b e = last_any (same_reading q) met y b e

with_atom-meets : (t : Table) (met : List Reading) (a : Atom) → Meets t met → Meets (with_atom t a) (named_atom t met a)
with_atom-meets t met a m = by_test (has_number t a)
  where
    added : (a : Atom) (k : Stage) (x : Thing) (u : List ℕ) → has_reading (record { atoms = t.atoms ++ a ∷ []; ints = t.ints }) k x u ≡ is_met (met ++ reading_of_atom a) (record { stage = k; thing = x; tuple = u })
    added (same_atom c d) k (thing.Relation r) u = last_any (same_atoms (has_atom k r u)) t.atoms (same_atom c d) false refl ∙ or_none (has_number t (has_atom k r u)) ∙ m k (thing.Relation r) u ∙ ap (λ n. is_met n (record { stage = k; thing = thing.Relation r; tuple = u })) (sym (append-nil met))
    added (same_atom c d) k (thing.Counter i) u = m k (thing.Counter i) u ∙ ap (λ n. is_met n (record { stage = k; thing = thing.Counter i; tuple = u })) (sym (append-nil met))
    added (row_atom q) k (thing.Relation r) u = last_any (same_atoms (has_atom k r u)) t.atoms (row_atom q) false refl ∙ or_none (has_number t (has_atom k r u)) ∙ m k (thing.Relation r) u ∙ ap (λ n. is_met n (record { stage = k; thing = thing.Relation r; tuple = u })) (sym (append-nil met))
    added (row_atom q) k (thing.Counter i) u = m k (thing.Counter i) u ∙ ap (λ n. is_met n (record { stage = k; thing = thing.Counter i; tuple = u })) (sym (append-nil met))
    added (has_atom j s v) k (thing.Relation r) u =
        last_any (same_atoms (has_atom k r u)) t.atoms (has_atom j s v) (bytes_eq k j && ((r == s) && bytes_eq u v)) refl
        ∙ ap (λ b. b || (bytes_eq k j && ((r == s) && bytes_eq u v))) (m k (thing.Relation r) u)
        ∙ sym (new_reading met (record { stage = j; thing = thing.Relation s; tuple = v }) (record { stage = k; thing = thing.Relation r; tuple = u }) (bytes_eq k j && ((r == s) && bytes_eq u v)) refl)
    added (has_atom j s v) k (thing.Counter i) u =
        m k (thing.Counter i) u
        ∙ sym (or_none (is_met met (record { stage = k; thing = thing.Counter i; tuple = u })))
        ∙ sym (new_reading met (record { stage = j; thing = thing.Relation s; tuple = v }) (record { stage = k; thing = thing.Counter i; tuple = u }) false (sym (none_met (bytes_eq k j))))

    by_test : (b : Bool) → Meets (record { atoms = cond b t.atoms (t.atoms ++ a ∷ []); ints = t.ints }) (cond b met (met ++ reading_of_atom a))
    by_test true = m
    by_test false = added a

with_integer-meets : (t : Table) (met : List Reading) (y : Integer) → Meets t met → Meets (with_integer t y) (named_integer t met y)
with_integer-meets t met y m = by_test (has_integer t y)
  where
    added : (y : Integer) (k : Stage) (x : Thing) (u : List ℕ) → has_reading (record { atoms = t.atoms; ints = t.ints ++ y ∷ [] }) k x u ≡ is_met (met ++ reading_of_integer y) (record { stage = k; thing = x; tuple = u })
    added (argument c p) k (thing.Relation r) u = m k (thing.Relation r) u ∙ ap (λ n. is_met n (record { stage = k; thing = thing.Relation r; tuple = u })) (sym (append-nil met))
    added (argument c p) k (thing.Counter i) u = last_any (same_integers (reading k i u)) t.ints (argument c p) false refl ∙ or_none (has_integer t (reading k i u)) ∙ m k (thing.Counter i) u ∙ ap (λ n. is_met n (record { stage = k; thing = thing.Counter i; tuple = u })) (sym (append-nil met))
    added (partial o j s v) k (thing.Relation r) u = m k (thing.Relation r) u ∙ ap (λ n. is_met n (record { stage = k; thing = thing.Relation r; tuple = u })) (sym (append-nil met))
    added (partial o j s v) k (thing.Counter i) u = last_any (same_integers (reading k i u)) t.ints (partial o j s v) false refl ∙ or_none (has_integer t (reading k i u)) ∙ m k (thing.Counter i) u ∙ ap (λ n. is_met n (record { stage = k; thing = thing.Counter i; tuple = u })) (sym (append-nil met))
    added (reading j s v) k (thing.Relation r) u =
        m k (thing.Relation r) u
        ∙ sym (or_none (is_met met (record { stage = k; thing = thing.Relation r; tuple = u })))
        ∙ sym (new_reading met (record { stage = j; thing = thing.Counter s; tuple = v }) (record { stage = k; thing = thing.Relation r; tuple = u }) false (sym (none_met (bytes_eq k j))))
    added (reading j s v) k (thing.Counter i) u =
        last_any (same_integers (reading k i u)) t.ints (reading j s v) (bytes_eq k j && ((i == s) && bytes_eq u v)) refl
        ∙ ap (λ b. b || (bytes_eq k j && ((i == s) && bytes_eq u v))) (m k (thing.Counter i) u)
        ∙ sym (new_reading met (record { stage = j; thing = thing.Counter s; tuple = v }) (record { stage = k; thing = thing.Counter i; tuple = u }) (bytes_eq k j && ((i == s) && bytes_eq u v)) refl)

    by_test : (b : Bool) → Meets (record { atoms = t.atoms; ints = cond b t.ints (t.ints ++ y ∷ []) }) (cond b met (met ++ reading_of_integer y))
    by_test true = m
    by_test false = added y

-- ---- the readings that a formula names, after those so far

abbrev pub named_parts : Table → List Reading → List Part → List Reading
named_parts t met [] = met
named_parts t met (number n ∷ ps) = named_parts t met ps
named_parts t met (multiple k x ∷ ps) = named_parts (with_integer t x) (named_integer t met x) ps

abbrev pub named_by : Table → List Reading → Symbolic → List Reading
named_by t met (always b) = met
named_by t met (same a b) = named_atom t met (same_atom a b)
named_by t met (has k r u) = named_atom t met (has_atom k r u)
named_by t met (at_most x y n) = named_parts (with_integers t x) (named_parts t met x) y
named_by t met (negated f) = named_by t met f
named_by t met (both f g) = named_by (naming t f) (named_by t met f) g
named_by t met (either f g) = named_by (naming t f) (named_by t met f) g

pub record Named (t : Table) (after qs met : List Reading) : Type 0 where
  pub named : after ≡ met ++ distinct met qs
  pub meets : Meets t after

-- one reading, which is met or not
one_named : (met : List Reading) (b : Bool) (q : Reading) → b ≡ is_met met q → cond b met (met ++ q ∷ []) ≡ met ++ distinct met (q ∷ [])
one_named met true q e = sym (ap (λ c. met ++ cond c [] (q ∷ [])) (sym e) ∙ append-nil met)
one_named met false q e = sym (ap (λ c. met ++ cond c [] (q ∷ [])) (sym e))

none_named : (met : List Reading) (b : Bool) → cond b met (met ++ []) ≡ met ++ []
none_named met true = sym (append-nil met)
none_named met false = refl

named_then : (met xs ys : List Reading) → (met ++ distinct met xs) ++ distinct (met ++ distinct met xs) ys ≡ met ++ distinct met (xs ++ ys)
named_then met xs ys = append_assoc met (distinct met xs) (distinct (met ++ distinct met xs) ys) ∙ ap (λ ds. met ++ ds) (sym (distinct-append met xs ys))

named_integer-is : (t : Table) (met : List Reading) (x : Integer) → Meets t met → named_integer t met x ≡ met ++ distinct met (reading_of_integer x)
named_integer-is t met (argument c p) m = none_named met (has_integer t (argument c p))
named_integer-is t met (reading k i u) m = one_named met (has_integer t (reading k i u)) (record { stage = k; thing = thing.Counter i; tuple = u }) (m k (thing.Counter i) u)
named_integer-is t met (partial n k i u) m = none_named met (has_integer t (partial n k i u))

pub parts-named : (t : Table) (met : List Reading) (ps : List Part) → Meets t met → Named (with_integers t ps) (named_parts t met ps) (flat_map readings_of_part ps) met
parts-named t met [] m = record { named = sym (append-nil met); meets = m }
parts-named t met (number n ∷ ps) m = parts-named t met ps m
parts-named t met (multiple k x ∷ ps) m =
    let e = named_integer-is t met x m in
    let r = parts-named (with_integer t x) (named_integer t met x) ps (with_integer-meets t met x m) in
    record { named = r.named ∙ ap (λ n. n ++ distinct n (flat_map readings_of_part ps)) e ∙ named_then met (reading_of_integer x) (flat_map readings_of_part ps); meets = r.meets }

with_row-meets : (t : Table) (met : List Reading) (ts : List RowTerm) (r : Row) → Meets t met → Meets (with_row t ts r) met
with_row-meets t met [] r m = m
with_row-meets t met (x ∷ ts) r m = λ k y u. with_atom-meets t met (row_atom r) m k y u ∙ ap (λ n. is_met n (record { stage = k; thing = y; tuple = u })) (none_named met (has_number t (row_atom r)) ∙ append-nil met)

-- Numbering a formula meets its distinct readings, after those that were met.
pub naming-named : (t : Table) (met : List Reading) (f : Symbolic) → Meets t met → Named (naming t f) (named_by t met f) (readings f) met
naming-named t met (always b) m = record { named = sym (append-nil met); meets = m }
naming-named t met (same a b) m = record { named = none_named met (has_number t (same_atom a b)); meets = with_atom-meets t met (same_atom a b) m }
naming-named t met (has k r u) m = record { named = one_named met (has_number t (has_atom k r u)) (record { stage = k; thing = thing.Relation r; tuple = u }) (m k (thing.Relation r) u); meets = with_atom-meets t met (has_atom k r u) m }
naming-named t met (at_most x y n) m =
    let a = parts-named t met x m in
    let b = parts-named (with_integers t x) (named_parts t met x) y a.meets in
    record {
      named = b.named ∙ ap (λ n. n ++ distinct n (flat_map readings_of_part y)) a.named ∙ named_then met (flat_map readings_of_part x) (flat_map readings_of_part y);
      meets = with_row-meets (with_sums t x y) (named_by t met (at_most x y n)) (row_of (with_sums t x y) x y n).terms (row_of (with_sums t x y) x y n) b.meets;
    }
naming-named t met (negated f) m = naming-named t met f m
naming-named t met (both f g) m =
    let a = naming-named t met f m in
    let b = naming-named (naming t f) (named_by t met f) g a.meets in
    record { named = b.named ∙ ap (λ n. n ++ distinct n (readings g)) a.named ∙ named_then met (readings f) (readings g); meets = b.meets }
naming-named t met (either f g) m =
    let a = naming-named t met f m in
    let b = naming-named (naming t f) (named_by t met f) g a.meets in
    record { named = b.named ∙ ap (λ n. n ++ distinct n (readings g)) a.named ∙ named_then met (readings f) (readings g); meets = b.meets }

abbrev pub named_by_all : Table → List Reading → List Symbolic → List Reading
named_by_all t met [] = met
named_by_all t met (f ∷ fs) = named_by_all (naming t f) (named_by t met f) fs

pub naming_all-named : (t : Table) (met : List Reading) (fs : List Symbolic) → Meets t met → Named (naming_all t fs) (named_by_all t met fs) (flat_map readings fs) met
naming_all-named t met [] m = record { named = sym (append-nil met); meets = m }
naming_all-named t met (f ∷ fs) m =
    let a = naming-named t met f m in
    let b = naming_all-named (naming t f) (named_by t met f) fs a.meets in
    record { named = b.named ∙ ap (λ n. n ++ distinct n (flat_map readings fs)) a.named ∙ named_then met (readings f) (flat_map readings fs); meets = b.meets }

-- ---- of an obligation

no_reading : (n i : ℕ) (ps : List Parameter) (k : Stage) (c : ℕ) (u : List ℕ) → list_any (same_integers (reading k c u)) (map (argument n) (numbers_from i ps)) ≡ false
no_reading n i [] k c u = refl
no_reading n i (p ∷ ps) k c u = by_kind (is_int p.kind) (no_reading n (suc i) ps k c u)
  where
    by_kind : (b : Bool) → list_any (same_integers (reading k c u)) (map (argument n) (numbers_from (suc i) ps)) ≡ false → list_any (same_integers (reading k c u)) (map (argument n) (cond b (i ∷ numbers_from (suc i) ps) (numbers_from (suc i) ps))) ≡ false
    by_kind true h = h
    by_kind false h = h

no_readings : (n : ℕ) (pss : List (List Parameter)) (k : Stage) (c : ℕ) (u : List ℕ) → list_any (same_integers (reading k c u)) (arguments_from n pss) ≡ false
no_readings n [] k c u = refl
no_readings n (ps ∷ pss) k c u = list_any-append (same_integers (reading k c u)) (map (argument n) (numbers_from 0 ps)) (arguments_from (suc n) pss) ∙ (let p = no_reading n 0 ps k c u in let q = no_readings (suc n) pss k c u in λ i. p i || q i)

-- the arguments alone name no readings
pub arguments-meet : (d : Specification) (ob : Obligation) → Meets (record { atoms = []; ints = arguments_of d ob }) []
arguments-meet d ob k (thing.Relation r) u = refl
arguments-meet d ob k (thing.Counter i) u = no_readings 0 (params_of d ob) k i u

-- The readings after so many calls that a list names are those among the readings in the order in which numbering meets them.
pub readings_after-named : (d : Specification) (ob : Obligation) (n : ℕ) (list : List Symbolic) → readings_after n list ≡ filter (λ q. length q.stage == n) (named_by_all (record { atoms = []; ints = arguments_of d ob }) [] list)
readings_after-named d ob n list =
    readings_after-distinct n list
    ∙ ap (filter (λ q. length q.stage == n)) (sym ((naming_all-named (record { atoms = []; ints = arguments_of d ob }) [] list (arguments-meet d ob)).named))
