-- Pairs that are kept: where their readings and their numbers stand for another obligation.
use Rattle.std.proofs.Common.{◌≡◌, ℕ, zero, suc, ◌+◌, ◌<◌, Bool, true, false, not, cond, List, [], ◌∷◌, length, map, take, drop, drop-cons, get_or, filter, Option, Some, None, refl, sym, ◌∙◌, ap, subst, arith}
use Rattle.std.specs.Prelude.{◌||◌, ◌==◌, ltb, IfSome}
use Rattle.std.specs.Str.{bytes_eq}
use Rattle.std.specs.List.{list_all, list_any, position_or_len}
use Rattle.std.proofs.lemmas.Bool.{and_parts, and_from, ltb-true}
use Rattle.std.proofs.lemmas.Bool.Decides.{Decides-eqb}
use Rattle.std.proofs.lemmas.Slice.Eq.{bytes_eq-Decides}
use Rattle.spec_core.specs.declared.update.Thing.{Thing}
use Rattle.spec_core.specs.declared.update.Thing.TheVariants as thing
use Rattle.effectors.specs.Effect.{is_thing}
use Rattle.ground_problem.specs.Definitions.{Reading}
use Rattle.ground_numbers.specs.Numbers.{Atom, has_atom, same_atoms, Table, has_number, number_of}
use Rattle.ground_atoms.specs.Known.{Known}
use Rattle.ground_atoms.specs.Symbols.{reading_of}
use Rattle.ground_atoms.specs.declared.atom.NamedReading.{NamedReading}
use Rattle.instances.specs.declared.entry.Entry.{Entry}
use Rattle.instances.specs.declared.entry.Begun.{Begun}
use Rattle.instances.specs.Entry.{IsCutBack}
use Rattle.lazy_ground.specs.declared.pairs.ReadingPairs.{ReadingPairs}
use Rattle.lazy_ground.specs.declared.keeping.KeptPairs.{KeptPairs}
use Rattle.lazy_ground.specs.Pairs.{readings_known, AllNumbered}
use Rattle.lazy_ground.specs.Kept.{HaveNumbers}
use Rattle.lazy_ground.specs.Named.{numbers_below}

pub same_thing : (x y : Thing) → is_thing x y ≡ true → x ≡ y
same_thing (thing.Relation k) (thing.Relation j) h = ap (λ (n : ℕ). thing.Relation n) ((Decides-eqb k j).0 h)
same_thing (thing.Relation k) (thing.Counter j) h = absurd cc
same_thing (thing.Counter k) (thing.Relation j) h = absurd cc
same_thing (thing.Counter k) (thing.Counter j) h = ap (λ (n : ℕ). thing.Counter n) ((Decides-eqb k j).0 h)

-- a list among lists that all pass a test passes it
pub among_passes : (p : List ℕ → Bool) (ls : List (List ℕ)) (l : List ℕ) → list_all p ls ≡ true → list_any (λ k. bytes_eq k l) ls ≡ true → p l ≡ true
among_passes p [] l h k = absurd cc
among_passes p (m ∷ ls) l h k = (let q = and_parts (p m) (list_all p ls) h in by_test (bytes_eq m l) refl k q.0 (among_passes p ls l q.1))
  where
    by_test : (b : Bool) → bytes_eq m l ≡ b → (b || list_any (λ k. bytes_eq k l) ls) ≡ true → p m ≡ true → (list_any (λ k. bytes_eq k l) ls ≡ true → p l ≡ true) → p l ≡ true
    by_test true e k h g = sym (ap p ((bytes_eq-Decides m l).0 e)) ∙ h
    by_test false e k h g = g k

-- ---- the readings at the entry

-- readings at the entry from one place on are these from another place on
abbrev pub AreReadFrom : List NamedReading → ℕ → List NamedReading → ℕ → Type 0
AreReadFrom named i rs j = map reading_of (drop j rs) ≡ filter (λ q. length q.stage == 0) (map reading_of (drop i named))

filter_cons : (p : Reading → Bool) (q : Reading) (qs : List Reading) (b : Bool) → p q ≡ b → filter p (q ∷ qs) ≡ cond b (q ∷ filter p qs) (filter p qs)
filter_cons p q qs b e = ap (λ (c : Bool). cond c (q ∷ filter p qs) (filter p qs)) e

-- a reading at the entry, which is the next of these
pub read_one : (named : List NamedReading) (i : ℕ) (rs : List NamedReading) (j : ℕ) (x y d e : NamedReading) → i < length named → x ≡ get_or named i d → j < length rs → y ≡ get_or rs j e
    → true ≡ (length (reading_of x).stage == 0) → x ≡ y → AreReadFrom named (i + 1) rs (j + 1) → AreReadFrom named i rs j
read_one named i rs j x y d e h is k there at same rest =
    let n : suc i ≡ i + 1 = omega arith in
    let m : suc j ≡ j + 1 = omega arith in
    let p : drop i named ≡ x ∷ drop (i + 1) named = drop-cons named i d h ∙ (λ z. sym is z ∷ drop (n z) named) in
    let q : drop j rs ≡ x ∷ drop (j + 1) rs = drop-cons rs j e k ∙ (λ z. (sym there ∙ sym same) z ∷ drop (m z) rs) in
    ap (map reading_of) q
    ∙ ap (λ (l : List Reading). reading_of x ∷ l) rest
    ∙ sym (ap (λ (l : List NamedReading). filter (λ q. length q.stage == 0) (map reading_of l)) p ∙ filter_cons (λ q. length q.stage == 0) (reading_of x) (map reading_of (drop (i + 1) named)) true (sym at))

-- a reading after a call
pub read_none : (named : List NamedReading) (i : ℕ) (rs : List NamedReading) (j : ℕ) (x d : NamedReading) → i < length named → x ≡ get_or named i d
    → false ≡ (length (reading_of x).stage == 0) → AreReadFrom named (i + 1) rs j → AreReadFrom named i rs j
read_none named i rs j x d h is at rest =
    let n : suc i ≡ i + 1 = omega arith in
    let p : drop i named ≡ x ∷ drop (i + 1) named = drop-cons named i d h ∙ (λ z. sym is z ∷ drop (n z) named) in
    rest ∙ sym (ap (λ (l : List NamedReading). filter (λ q. length q.stage == 0) (map reading_of l)) p ∙ filter_cons (λ q. length q.stage == 0) (reading_of x) (map reading_of (drop (i + 1) named)) false (sym at))

-- ---- numbers in the front of a table

-- what stands below a place in a list stands there in the list's front
front_position : (p : Atom → Bool) (n : ℕ) (xs : List Atom) → list_any p xs ≡ true → position_or_len p xs < length (take n xs)
    → (list_any p (take n xs) ≡ true) × (position_or_len p (take n xs) ≡ position_or_len p xs)
front_position p n [] h b = absurd cc
front_position p zero (x ∷ xs) h b = absurd (omega (arith, b))
front_position p (suc n) (x ∷ xs) h b = by_test (p x) (front_position p n xs) h b
  where
    by_test : (c : Bool)
        → (list_any p xs ≡ true → position_or_len p xs < length (take n xs) → (list_any p (take n xs) ≡ true) × (position_or_len p (take n xs) ≡ position_or_len p xs))
        → (c || list_any p xs) ≡ true → cond (not c) (1 + position_or_len p xs) 0 < suc (length (take n xs))
        → ((c || list_any p (take n xs)) ≡ true) × (cond (not c) (1 + position_or_len p (take n xs)) 0 ≡ cond (not c) (1 + position_or_len p xs) 0)
    by_test true g h b = (refl, refl)
    by_test false g h b = (let q = g h (omega (arith, b)) in (q.0, ap (λ (k : ℕ). 1 + k) q.1))

-- a number that is below the size of the front is the number in it
number_in_front : (t o : Table) (n : ℕ) (a : Atom) → o.atoms ≡ take n t.atoms → has_number t a ≡ true → number_of t a < length o.atoms → (has_number o a ≡ true) × (number_of o a ≡ number_of t a)
number_in_front t o n a e h b =
    let q = front_position (same_atoms a) n t.atoms h (subst (λ (l : List Atom). number_of t a < length l) e b) in
    (ap (list_any (same_atoms a)) e ∙ q.0, ap (position_or_len (same_atoms a)) e ∙ q.1)

numbers_in_front : (t o : Table) (n r : ℕ) (ts : List (List ℕ)) → o.atoms ≡ take n t.atoms → readings_known t r ts ≡ true
    → list_all (λ m. ltb m (length o.atoms)) (map (λ u. number_of t (has_atom [] r u)) ts) ≡ true
    → (readings_known o r ts ≡ true) × (map (λ u. number_of t (has_atom [] r u)) ts ≡ map (λ u. number_of o (has_atom [] r u)) ts)
numbers_in_front t o n r [] e h b = (refl, refl)
numbers_in_front t o n r (u ∷ us) e h b =
    let p = and_parts (has_number t (has_atom [] r u)) (readings_known t r us) h in
    let l = and_parts (ltb (number_of t (has_atom [] r u)) (length o.atoms)) _ b in
    let q = number_in_front t o n (has_atom [] r u) e p.0 (ltb-true (number_of t (has_atom [] r u)) (length o.atoms) l.0) in
    let g = numbers_in_front t o n r us e p.1 l.1 in
    (and_from (has_number o (has_atom [] r u)) (readings_known o r us) q.0 g.0, λ i. sym q.1 i ∷ g.1 i)

numbered_in_front : (t o : Table) (n : ℕ) (ss : List ReadingPairs) → o.atoms ≡ take n t.atoms → numbers_below (length o.atoms) ss ≡ true → AllNumbered t ss → AllNumbered o ss
numbered_in_front t o n [] e b h = tt
numbered_in_front t o n (s ∷ ss) e b h =
    let p = and_parts (list_all (λ m. ltb m (length o.atoms)) s.atoms) (numbers_below (length o.atoms) ss) b in
    let q = numbers_in_front t o n s.relation s.tuples e h.0.known (ap (list_all (λ m. ltb m (length o.atoms))) (sym h.0.numbers) ∙ p.0) in
    (record { known = q.0; numbers = h.0.numbers ∙ q.1 }, numbered_in_front t o n ss e p.1 h.1)

-- the numbers of pairs that were kept stand where what is known was cut back, and has their readings
pub still_numbered : (entry : Option Entry) (b : Begun) (kept : Option KeptPairs) (k : KeptPairs) → kept ≡ Some k → b.is_cut ≡ true → numbers_below (length b.grounding.atoms.table.atoms) k.pairs ≡ true
    → HaveNumbers entry kept → IsCutBack entry b → AllNumbered b.grounding.atoms.table k.pairs
still_numbered None b kept k is cut below h back = absurd (not_both b.is_cut cut back)
  where
    not_both : (c : Bool) → c ≡ true → c ≡ false → ⊥
    not_both true e f = absurd cc
    not_both false e f = absurd cc
still_numbered (Some e) b kept k is cut below h back =
    numbered_in_front e.atoms.table b.grounding.atoms.table e.part.size.known.atoms k.pairs (ap (λ (z : Known). z.table.atoms) (back cut)) below
    (subst (HaveNumbers (Some e)) is h)

-- ---- the numbers that are kept

-- what is kept with an entry whose numbers these are
pub have_numbers : (entry : Option Entry) (kept : Option KeptPairs) (k : Known) → IfSome entry (λ e. e.atoms ≡ k) → IfSome kept (λ p. AllNumbered k.table p.pairs) → HaveNumbers entry kept
have_numbers None kept k h n = tt
have_numbers (Some e) None k h n = tt
have_numbers (Some e) (Some p) k h n = subst (λ (z : Known). AllNumbered z.table p.pairs) (sym h) n
