-- What the tests of a relation's readings tell: its tuples are different, and its pairs name nothing new.
use Rattle.std.proofs.Common.{◌≡◌, ℕ, suc, ◌<◌, ◌⊎◌, inl, inr, arith, Bool, true, false, cond, ◌||◌, List, [], ◌∷◌, length, map, refl, sym, ◌∙◌, ap}
use Rattle.std.specs.Prelude.{ltb, ◌==◌, Option, Some, None, Result, Ok, Err, IfOk, IfSome}
use Rattle.std.specs.List.{list_all, list_any}
use Rattle.std.specs.Ordering.{nat_cmp, is_lt, ordering_reverse}
use Rattle.std.specs.declared.cmp.Ordering.{Ordering}
use Rattle.std.specs.declared.cmp.Ordering.TheVariants.{Less, Equal, Greater}
use Rattle.std.specs.Cmp.Lexicographic.{slice_cmp}
use Rattle.std.proofs.lemmas.Cmp.{nat_list_cmp_total}
use Rattle.std.proofs.lemmas.Bool.{and_parts, cases_order, lt-ltb, le-ltb}
use Rattle.std.proofs.lemmas.Bool.Decides.{Decides-eqb}
use Rattle.spec_core.specs.declared.update.Thing.TheVariants as thing
use Rattle.ground_problem.specs.Symbols.{Symbolic, always, same, both, both_and, all_parts, same_const}
use Rattle.ground_problem.specs.Equality.{tuples_same, congruent, congruent_pairs}
use Rattle.ground_numbers.specs.Numbers.{Table, same_atom, has_atom, has_number}
use Rattle.ground_numbers.proofs.Growing.{NamesIn, AllNamesIn}
use Rattle.lazy_ground.specs.Pairs.{DiffersFrom, AreDifferent, readings_known, AreNumbers}
use Rattle.lazy_ground.specs.Equal.{equality_known, all_known, fits}
use Rattle.lazy_ground.specs.Named.{rise_from, all_rise, AreNumbersOfPairs}
use Rattle.lazy_ground.proofs.Stays.{all_names-append}

-- ---- equalities

const_named : (o : Table) (a b : ℕ) → equality_known o a b ≡ true → NamesIn o (same_const a b)
const_named o a b = by_test (a == b) (ltb a b)
  where
    by_test : (c d : Bool) → cond c true (cond d (has_number o (same_atom a b)) (has_number o (same_atom b a))) ≡ true → NamesIn o (cond c (always true) (cond d (same a b) (same b a)))
    by_test true d h = tt
    by_test false true h = h
    by_test false false h = h

-- a member of a list whose members all pass a test
member_passes : (p : ℕ → Bool) (cs : List ℕ) (x : ℕ) → list_all p cs ≡ true → list_any (λ c. c == x) cs ≡ true → p x ≡ true
member_passes p [] x h k = absurd cc
member_passes p (c ∷ cs) x h k = (let q = and_parts (p c) (list_all p cs) h in by_test (c == x) refl k q.0 (member_passes p cs x q.1))
  where
    by_test : (b : Bool) → (c == x) ≡ b → (b || list_any (λ c. c == x) cs) ≡ true → p c ≡ true → (list_any (λ c. c == x) cs ≡ true → p x ≡ true) → p x ≡ true
    by_test true e k h g = sym (ap p ((Decides-eqb c x).0 e)) ∙ h
    by_test false e k h g = g k

self_known : (o : Table) (a : ℕ) → equality_known o a a ≡ true
self_known o a = ap (λ (t : Bool). cond t true (cond (ltb a a) (has_number o (same_atom a a)) (has_number o (same_atom a a)))) ((Decides-eqb a a).1 refl)

unequal : (a b : ℕ) → (a ≡ b → ⊥) → (a == b) ≡ false
unequal a b n = by_test (a == b) refl
  where
    by_test : (t : Bool) → (a == b) ≡ t → t ≡ false
    by_test true e = absurd (n ((Decides-eqb a b).0 e))
    by_test false e = refl

-- the lesser first, whichever is asked for first
rising_known : (o : Table) (a b : ℕ) → a < b → equality_known o a b ≡ equality_known o b a
rising_known o a b l =
    let p = unequal a b (λ e. omega (arith, l, e)) in
    let q = unequal b a (λ e. omega (arith, l, e)) in
    let u = lt-ltb a b l in
    let v = le-ltb b a (omega (arith, l)) in
    (λ i. cond (p i) true (cond (u i) (has_number o (same_atom a b)) (has_number o (same_atom b a))))
    ∙ sym (λ i. cond (q i) true (cond (v i) (has_number o (same_atom b a)) (has_number o (same_atom a b))))

swapped_known : (o : Table) (a b : ℕ) → equality_known o a b ≡ true → equality_known o b a ≡ true
swapped_known o a b h = by_order (cases_order a b)
  where
    by_order : (a ≡ b) ⊎ ((a < b) ⊎ (b < a)) → equality_known o b a ≡ true
    by_order (inl e) = ap (equality_known o b) e ∙ self_known o b
    by_order (inr (inl l)) = sym (rising_known o a b l) ∙ h
    by_order (inr (inr l)) = rising_known o b a l ∙ h

-- two members of a list, each two of which are known
two_known : (o : Table) (cs : List ℕ) (a b : ℕ) → all_known o cs ≡ true → list_any (λ c. c == a) cs ≡ true → list_any (λ c. c == b) cs ≡ true → equality_known o a b ≡ true
two_known o [] a b h k l = absurd cc
two_known o (c ∷ cs) a b h k l = (let q = and_parts (list_all (equality_known o c) cs) (all_known o cs) h in by_tests (c == a) (c == b) refl refl k l q.0 (two_known o cs a b q.1))
  where
    by_tests : (s t : Bool) → (c == a) ≡ s → (c == b) ≡ t → (s || list_any (λ x. x == a) cs) ≡ true → (t || list_any (λ x. x == b) cs) ≡ true → list_all (equality_known o c) cs ≡ true
        → (list_any (λ x. x == a) cs ≡ true → list_any (λ x. x == b) cs ≡ true → equality_known o a b ≡ true) → equality_known o a b ≡ true
    by_tests true true e f k l p q = ap (λ (x : ℕ). equality_known o x b) (sym ((Decides-eqb c a).0 e) ∙ (Decides-eqb c b).0 f) ∙ self_known o b
    by_tests true false e f k l p q = ap (λ (x : ℕ). equality_known o x b) (sym ((Decides-eqb c a).0 e)) ∙ member_passes (equality_known o c) cs b p l
    by_tests false true e f k l p q = swapped_known o b a (ap (λ (x : ℕ). equality_known o x a) (sym ((Decides-eqb c b).0 f)) ∙ member_passes (equality_known o c) cs a p k)
    by_tests false false e f k l p g = g k l

-- two tuples that fit one list of columns have one length, and the equality of each place has a number
same_length : (columns : List (List ℕ)) (t u : List ℕ) → fits columns t ≡ true → fits columns u ≡ true → length t ≡ length u
same_length [] [] [] h k = refl
same_length [] [] (y ∷ u) h k = absurd cc
same_length [] (x ∷ t) u h k = absurd cc
same_length (cs ∷ columns) [] u h k = absurd cc
same_length (cs ∷ columns) (x ∷ t) [] h k = absurd cc
same_length (cs ∷ columns) (x ∷ t) (y ∷ u) h k =
    ap suc (same_length columns t u (and_parts (list_any (λ c. c == x) cs) (fits columns t) h).1 (and_parts (list_any (λ c. c == y) cs) (fits columns u) k).1)

places_named : (o : Table) (columns : List (List ℕ)) (t u : List ℕ) → list_all (all_known o) columns ≡ true → fits columns t ≡ true → fits columns u ≡ true → AllNamesIn o (tuples_same t u)
places_named o [] [] [] a h k = tt
places_named o [] [] (y ∷ u) a h k = absurd cc
places_named o [] (x ∷ t) u a h k = absurd cc
places_named o (cs ∷ columns) [] u a h k = absurd cc
places_named o (cs ∷ columns) (x ∷ t) [] a h k = absurd cc
places_named o (cs ∷ columns) (x ∷ t) (y ∷ u) a h k =
    let b = and_parts (all_known o cs) (list_all (all_known o) columns) a in
    let p = and_parts (list_any (λ c. c == x) cs) (fits columns t) h in
    let q = and_parts (list_any (λ c. c == y) cs) (fits columns u) k in
    (const_named o x y (two_known o cs x y b.0 p.0 q.0), places_named o columns t u b.1 p.1 q.1)

both_named : (o : Table) (f : Symbolic) (gs : List Symbolic) → NamesIn o f → AllNamesIn o gs → NamesIn o (both_and f gs)
both_named o f [] h k = h
both_named o f (g ∷ gs) h k = both_named o (both f g) gs (h, k.0) k.1

parts_named : (o : Table) (fs : List Symbolic) → AllNamesIn o fs → NamesIn o (all_parts fs)
parts_named o [] h = tt
parts_named o (f ∷ fs) h = both_named o f fs h.0 h.1

-- ---- pairs

congruent_named : (o : Table) (r : ℕ) (columns : List (List ℕ)) (t u : List ℕ) → list_all (all_known o) columns ≡ true → fits columns t ≡ true → fits columns u ≡ true
    → has_number o (has_atom [] r t) ≡ true → has_number o (has_atom [] r u) ≡ true → NamesIn o (congruent (thing.Relation r) t u)
congruent_named o r columns t u a h k p q = (parts_named o (tuples_same t u) (places_named o columns t u a h k), ((p, q), (p, q)))

with_each_named : (o : Table) (r : ℕ) (columns : List (List ℕ)) (t : List ℕ) (us : List (List ℕ)) → list_all (all_known o) columns ≡ true → fits columns t ≡ true → list_all (fits columns) us ≡ true
    → has_number o (has_atom [] r t) ≡ true → readings_known o r us ≡ true → AllNamesIn o (map (congruent (thing.Relation r) t) us)
with_each_named o r columns t [] a h k p q = tt
with_each_named o r columns t (u ∷ us) a h k p q =
    let l = and_parts (fits columns u) (list_all (fits columns) us) k in
    let m = and_parts (has_number o (has_atom [] r u)) (readings_known o r us) q in
    (congruent_named o r columns t u a h l.0 p m.0, with_each_named o r columns t us a h l.1 p m.1)

pub pairs_named : (o : Table) (r : ℕ) (columns : List (List ℕ)) (ts : List (List ℕ)) → list_all (all_known o) columns ≡ true → list_all (fits columns) ts ≡ true → readings_known o r ts ≡ true
    → AllNamesIn o (congruent_pairs (thing.Relation r) ts)
pairs_named o r columns [] a k q = tt
pairs_named o r columns (t ∷ ts) a k q =
    let l = and_parts (fits columns t) (list_all (fits columns) ts) k in
    let m = and_parts (has_number o (has_atom [] r t)) (readings_known o r ts) q in
    all_names-append o _ _ (with_each_named o r columns t ts a l.0 l.1 m.0 m.1) (pairs_named o r columns ts a l.1 m.1)

-- ---- rising tuples are different

less : (c : Ordering) → is_lt c ≡ true → c ≡ Less
less Less h = refl
less Equal h = absurd cc
less Greater h = absurd cc

less_apart : (t u : List ℕ) → slice_cmp nat_cmp t u ≡ Less → t ≡ u → ⊥
less_apart t u h e = not_own (slice_cmp nat_cmp t t) (ap (λ (v : List ℕ). slice_cmp nat_cmp t v) e ∙ h) (nat_list_cmp_total.antisymm t t)
  where
    not_own : (c : Ordering) → c ≡ Less → c ≡ ordering_reverse c → ⊥
    not_own Less h e = absurd cc
    not_own Equal h e = absurd cc
    not_own Greater h e = absurd cc

differs_from : (columns : List (List ℕ)) (t u : List ℕ) (us : List (List ℕ)) → slice_cmp nat_cmp t u ≡ Less → rise_from u us ≡ true → fits columns t ≡ true → list_all (fits columns) us ≡ true → DiffersFrom t us
differs_from columns t u [] l h k q = tt
differs_from columns t u (v ∷ vs) l h k q =
    let a = and_parts (is_lt (slice_cmp nat_cmp u v)) (rise_from v vs) h in
    let b = and_parts (fits columns v) (list_all (fits columns) vs) q in
    let c = nat_list_cmp_total.trans t u v l (less (slice_cmp nat_cmp u v) a.0) in
    (same_length columns t v k b.0, less_apart t v c, differs_from columns t v vs c a.1 k b.1)

differ_behind : (columns : List (List ℕ)) (t : List ℕ) (us : List (List ℕ)) → rise_from t us ≡ true → fits columns t ≡ true → list_all (fits columns) us ≡ true → DiffersFrom t us
differ_behind columns t [] h k q = tt
differ_behind columns t (u ∷ us) h k q =
    let a = and_parts (is_lt (slice_cmp nat_cmp t u)) (rise_from u us) h in
    let b = and_parts (fits columns u) (list_all (fits columns) us) q in
    let c = less (slice_cmp nat_cmp t u) a.0 in
    (same_length columns t u k b.0, less_apart t u c, differs_from columns t u us c a.1 k b.1)

different_from : (columns : List (List ℕ)) (t : List ℕ) (us : List (List ℕ)) → rise_from t us ≡ true → fits columns t ≡ true → list_all (fits columns) us ≡ true → AreDifferent (t ∷ us)
different_from columns t [] h k q = (tt, tt)
different_from columns t (u ∷ us) h k q =
    let a = and_parts (is_lt (slice_cmp nat_cmp t u)) (rise_from u us) h in
    let b = and_parts (fits columns u) (list_all (fits columns) us) q in
    (differ_behind columns t (u ∷ us) h k q, different_from columns u us a.1 b.0 b.1)

pub rising_different : (columns ts : List (List ℕ)) → all_rise ts ≡ true → list_all (fits columns) ts ≡ true → AreDifferent ts
rising_different columns [] h k = tt
rising_different columns (t ∷ us) h k = (let b = and_parts (fits columns t) (list_all (fits columns) us) k in different_from columns t us h b.0 b.1)

-- ---- a relation whose tests succeed

pub numbered_if : {E : Type 0} (o : Table) (r : ℕ) (ts columns : List (List ℕ)) → all_rise ts ≡ true → list_all (fits columns) ts ≡ true → (found : Result (Option (List ℕ)) E)
    → IfOk found (λ f. IfSome f (AreNumbers o r ts)) → IfOk found (λ f. IfSome f (AreNumbersOfPairs o r ts columns))
numbered_if o r ts columns rise fit (Err e) h = tt
numbered_if o r ts columns rise fit (Ok None) h = tt
numbered_if o r ts columns rise fit (Ok (Some ns)) h = record { different = rising_different columns ts rise fit; numbers = h; fit = fit }
