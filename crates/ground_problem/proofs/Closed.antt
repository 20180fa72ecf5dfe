-- The readings that a list names: each has its definition, and each of the entry is among the rows.
use Rattle.std.proofs.Common.{◌≡◌, ℕ, ◌==◌, Bool, true, false, cond, ◌&&◌, ◌||◌, ◌⊎◌, inl, inr, List, [], ◌∷◌, ◌++◌, length, bytes_eq, flat_map, filter, refl, sym, ap, subst, arith}
use Rattle.std.specs.List.{list_any}
use Rattle.std.specs.Ordering.{nat_cmp, is_lt}
use Rattle.std.specs.Cmp.Lexicographic.{slice_cmp}
use Rattle.std.proofs.lemmas.Bool.{eqb-true, or_cases}
use Rattle.std.proofs.lemmas.Bool.Decides.{nat_tests}
use Rattle.std.proofs.lemmas.Slice.Eq.{bytes_eq-Decides}
use Rattle.spec_core.specs.declared.update.Thing.{Thing}
use Rattle.spec_core.specs.declared.update.Thing.TheVariants as thing
use Rattle.spec_core.specs.Specification.{Specification}
use Rattle.spec_core.specs.State.{is_in}
use Rattle.effectors.specs.Effect.{is_thing}
use Rattle.obligation_list.specs.declared.obligation.Obligation.{Obligation}
use Rattle.ground_problem.specs.Symbols.{Stage, Symbolic, Interpretation, all_true}
use Rattle.ground_problem.specs.Constants.{constants_of}
use Rattle.ground_problem.specs.Definitions.{Reading, definition, readings, same_reading, distinct, readings_after, with_definitions}
use Rattle.ground_problem.specs.Equality.{insert_rising, rising}
use Rattle.ground_problem.proofs.Names.{Each, EachOf}
use Rattle.ground_problem.proofs.Worlds.{append_left, append_right}

pub thing_is : (x y : Thing) → is_thing x y ≡ true → x ≡ y
thing_is (thing.Relation i) (thing.Relation j) h = ap (λ (n : ℕ). thing.Relation n) (eqb-true i j h)
thing_is (thing.Relation i) (thing.Counter j) h = absurd cc
thing_is (thing.Counter i) (thing.Relation j) h = absurd cc
thing_is (thing.Counter i) (thing.Counter j) h = ap (λ (n : ℕ). thing.Counter n) (eqb-true i j h)

abbrev pub In : Reading → List Reading → Type 0
In q [] = ⊥
In q (x ∷ xs) = (q ≡ x) ⊎ In q xs

pub each_in : (P : Reading → Type 0) (qs : List Reading) → ((q : Reading) → In q qs → P q) → Each P qs
each_in P [] h = tt
each_in P (q ∷ qs) h = (h q (inl refl), each_in P qs (λ x k. h x (inr k)))

pub at_in : (P : Reading → Type 0) (qs : List Reading) → Each P qs → (q : Reading) → In q qs → P q
at_in P [] h q k = absurd k
at_in P (x ∷ qs) h q k = elim k [ inl e ↦ subst P (sym e) h.0 | inr l ↦ at_in P qs h.1 q l ]

pub in_left : (q : Reading) (a b : List Reading) → In q a → In q (a ++ b)
in_left q [] b h = absurd h
in_left q (x ∷ a) b h = elim h [ inl e ↦ inl e | inr l ↦ inr (in_left q a b l) ]

pub in_right : (q : Reading) (a b : List Reading) → In q b → In q (a ++ b)
in_right q [] b h = h
in_right q (x ∷ a) b h = inr (in_right q a b h)

pub each_left : (P : Reading → Type 0) (a b : List Reading) → Each P (a ++ b) → Each P a
each_left P [] b h = tt
each_left P (x ∷ a) b h = (h.0, each_left P a b h.1)

pub each_right : (P : Reading → Type 0) (a b : List Reading) → Each P (a ++ b) → Each P b
each_right P [] b h = h
each_right P (x ∷ a) b h = each_right P a b h.1

pub of_left : (P : Reading → Type 0) (a b : List Symbolic) → EachOf P (a ++ b) → EachOf P a
of_left P [] b h = tt
of_left P (x ∷ a) b h = (h.0, of_left P a b h.1)

pub of_right : (P : Reading → Type 0) (a b : List Symbolic) → EachOf P (a ++ b) → EachOf P b
of_right P [] b h = h
of_right P (x ∷ a) b h = of_right P a b h.1

-- a list names what its formulas name
pub names_of : (list : List Symbolic) → EachOf (λ q. In q (flat_map readings list)) list
names_of list = go list (λ q h. h)
  where
    go : (part : List Symbolic) → ((q : Reading) → In q (flat_map readings part) → In q (flat_map readings list)) → EachOf (λ q. In q (flat_map readings list)) part
    go [] h = tt
    go (f ∷ fs) h = (each_in (λ q. In q (flat_map readings list)) (readings f) (λ q k. h q (in_left q (readings f) (flat_map readings fs) k)), go fs (λ q k. h q (in_right q (readings f) (flat_map readings fs) k)))

pub in_front : (a b : List Symbolic) (q : Reading) → In q (flat_map readings a) → In q (flat_map readings (a ++ b))
in_front [] b q h = absurd h
in_front (f ∷ a) b q h = by_place (readings f) h (in_front a b q)
  where
    by_place : (xs : List Reading) → In q (xs ++ flat_map readings a) → (In q (flat_map readings a) → In q (flat_map readings (a ++ b))) → In q (xs ++ flat_map readings (a ++ b))
    by_place [] h k = k h
    by_place (x ∷ xs) h k = elim h [ inl e ↦ inl e | inr l ↦ inr (by_place xs l k) ]

-- ---- each once, and those after some calls
is_reading : (p q : Reading) → same_reading p q ≡ true → p ≡ q
is_reading p q h = by_parts p.stage q.stage p.thing q.thing p.tuple q.tuple h
  where
    three_true : (a b c : Bool) → (a && (b && c)) ≡ true → (a ≡ true) × (b ≡ true) × (c ≡ true)
    three_true a b c h = grind arith

    made : Stage → Thing → List ℕ → Reading
    made s x t = record { stage = s; thing = x; tuple = t }

    by_parts : (s u : Stage) (x y : Thing) (t v : List ℕ) → (bytes_eq s u && (is_thing x y && bytes_eq t v)) ≡ true → made s x t ≡ made u y v
    by_parts s u x y t v h = (let k = three_true (bytes_eq s u) (is_thing x y) (bytes_eq t v) h in let a = (bytes_eq-Decides s u).0 k.0 in let b = thing_is x y k.1 in let c = (bytes_eq-Decides t v).0 k.2 in λ i. record { stage = a i; thing = b i; tuple = c i })

pub from_distinct : (F : Reading → Type 0) (seen qs : List Reading) → ((q : Reading) → list_any (same_reading q) seen ≡ true → F q) → Each F (distinct seen qs) → Each F qs
from_distinct F seen [] h k = tt
from_distinct F seen (q ∷ qs) h k = by_test (list_any (same_reading q) seen) refl k (from_distinct F seen qs h) (from_distinct F (q ∷ seen) qs)
  where
    by_test : (b : Bool) → list_any (same_reading q) seen ≡ b → Each F (cond b (distinct seen qs) (q ∷ distinct (q ∷ seen) qs)) → (Each F (distinct seen qs) → Each F qs) → (((p : Reading) → list_any (same_reading p) (q ∷ seen) ≡ true → F p) → Each F (distinct (q ∷ seen) qs) → Each F qs) → F q × Each F qs
    by_test true e k f g = (h q e, f k)
    by_test false e k f g = (k.0, g (λ p l. elim (or_cases (same_reading p q) (list_any (same_reading p) seen) l) [ inl s ↦ subst F (sym (is_reading p q s)) k.0 | inr n ↦ h p n ]) k.1)

pub from_after : (F : Reading → Type 0) (n : ℕ) (qs : List Reading) → Each F (filter (λ q. length q.stage == n) qs) → Each (λ q. length q.stage ≡ n → F q) qs
from_after F n [] h = tt
from_after F n (q ∷ qs) h = by_test (length q.stage == n) refl h (from_after F n qs)
  where
    by_test : (b : Bool) → (length q.stage == n) ≡ b → Each F (cond b (q ∷ filter (λ q. length q.stage == n) qs) (filter (λ q. length q.stage == n) qs)) → (Each F (filter (λ q. length q.stage == n) qs) → Each (λ q. length q.stage ≡ n → F q) qs) → (length q.stage ≡ n → F q) × Each (λ q. length q.stage ≡ n → F q) qs
    by_test true e k f = (λ l. k.0, f k.1)
    by_test false e k f = (λ l. absurd (differ (length q.stage) n e l), f k)
      where
        differ : (a b : ℕ) → (a == b) ≡ false → a ≡ b → ⊥
        differ a b h e = grind (arith, nat_tests)

-- ---- the definition of each reading after some calls is in the list
module _ (m : Interpretation) (P : Reading → Type 0) (d : Specification) (ob : Obligation) where
  abbrev pub Defined : Reading → Type 0
  Defined q = (all_true m (definition d ob (constants_of d ob) q) ≡ true) × EachOf P (definition d ob (constants_of d ob) q)

  each_defined : (qs : List Reading) → all_true m (flat_map (definition d ob (constants_of d ob)) qs) ≡ true → EachOf P (flat_map (definition d ob (constants_of d ob)) qs) → Each Defined qs
  each_defined [] h k = tt
  each_defined (q ∷ qs) h k =
      let f = definition d ob (constants_of d ob) q in
      let g = flat_map (definition d ob (constants_of d ob)) qs in
      ((append_left m f g h, of_left P f g k), each_defined qs (append_right m f g h) (of_right P f g k))

  pub all_defined : (n : ℕ) (list : List Symbolic) → all_true m (with_definitions d ob (constants_of d ob) n list) ≡ true → EachOf P (with_definitions d ob (constants_of d ob) n list) → Each (λ q. length q.stage ≡ n → Defined q) (flat_map readings list)
  all_defined n list h k =
      let ds = flat_map (definition d ob (constants_of d ob)) (readings_after n list) in
      let qs = filter (λ q. length q.stage == n) (flat_map readings list) in
      from_after Defined n (flat_map readings list) (from_distinct Defined [] qs (λ q e. absurd (no q e)) (each_defined (distinct [] qs) (append_right m list ds h) (of_right P list ds k)))
    where
      no : (q : Reading) → list_any (same_reading q) [] ≡ true → ⊥
      no q e = cc

-- ---- and its tuple is among those at the entry
inserted : (t u : List ℕ) (us : List (List ℕ)) → (bytes_eq t u || is_in t us) ≡ true → is_in t (insert_rising u us) ≡ true
inserted t u [] h = h
inserted t u (x ∷ us) h = by_test (is_lt (slice_cmp nat_cmp u x)) (inserted t u us)
  where
    shuffle : (a b c d : Bool) → (a || (b || c)) ≡ true → ((a || c) ≡ true → d ≡ true) → (b || d) ≡ true
    shuffle true b c d h k = (let q = k refl in grind arith)
    shuffle false b true d h k = (let q = k refl in grind arith)
    shuffle false b false d h k = grind arith

    by_test : (b : Bool) → ((bytes_eq t u || is_in t us) ≡ true → is_in t (insert_rising u us) ≡ true) → is_in t (cond b (u ∷ x ∷ us) (x ∷ insert_rising u us)) ≡ true
    by_test true k = h
    by_test false k = shuffle (bytes_eq t u) (bytes_eq t x) (is_in t us) (is_in t (insert_rising u us)) h k

inserted_only : (t u : List ℕ) (us : List (List ℕ)) → is_in t (insert_rising u us) ≡ true → (bytes_eq t u || is_in t us) ≡ true
inserted_only t u [] h = h
inserted_only t u (x ∷ us) h = by_test (is_lt (slice_cmp nat_cmp u x)) h (inserted_only t u us)
  where
    shuffle : (a b c d : Bool) → (b || d) ≡ true → (d ≡ true → (a || c) ≡ true) → (a || (b || c)) ≡ true
    shuffle a true c d h k = grind arith
    shuffle a false c true h k = (let q = k refl in grind arith)
    shuffle a false c false h k = absurd cc

    by_test : (b : Bool) → is_in t (cond b (u ∷ x ∷ us) (x ∷ insert_rising u us)) ≡ true → (is_in t (insert_rising u us) ≡ true → (bytes_eq t u || is_in t us) ≡ true) → (bytes_eq t u || is_in t (x ∷ us)) ≡ true
    by_test true h k = h
    by_test false h k = shuffle (bytes_eq t u) (bytes_eq t x) (is_in t us) (is_in t (insert_rising u us)) h k

thing_self : (x : Thing) → is_thing x x ≡ true
thing_self (thing.Relation i) = eq_self i
  where
    eq_self : (a : ℕ) → (a == a) ≡ true
    eq_self a = grind (arith, nat_tests)
thing_self (thing.Counter i) = eq_self i
  where
    eq_self : (a : ℕ) → (a == a) ≡ true
    eq_self a = grind (arith, nat_tests)

pub in_rows : (qs : List Reading) (q : Reading) → In q qs → is_in q.tuple (rising (filter (λ p. is_thing p.thing q.thing) qs)) ≡ true
in_rows [] q h = absurd h
in_rows (x ∷ qs) q h = elim h [
  | inl e ↦ subst (λ (y : Reading). is_in q.tuple (rising (cond (is_thing y.thing q.thing) (y ∷ filter (λ p. is_thing p.thing q.thing) qs) (filter (λ p. is_thing p.thing q.thing) qs))) ≡ true) e (here (is_thing q.thing q.thing) (thing_self q.thing))
  | inr l ↦ later (is_thing x.thing q.thing) (in_rows qs q l)
]
  where
    left : (a b : Bool) → a ≡ true → (a || b) ≡ true
    left a b h = grind arith

    right : (a b : Bool) → b ≡ true → (a || b) ≡ true
    right a b h = grind arith

    here : (b : Bool) → b ≡ true → is_in q.tuple (rising (cond b (q ∷ filter (λ p. is_thing p.thing q.thing) qs) (filter (λ p. is_thing p.thing q.thing) qs))) ≡ true
    here true e = inserted q.tuple q.tuple (rising (filter (λ p. is_thing p.thing q.thing) qs)) (left (bytes_eq q.tuple q.tuple) (is_in q.tuple (rising (filter (λ p. is_thing p.thing q.thing) qs))) ((bytes_eq-Decides q.tuple q.tuple).1 refl))
    here false e = absurd cc

    later : (b : Bool) → is_in q.tuple (rising (filter (λ p. is_thing p.thing q.thing) qs)) ≡ true → is_in q.tuple (rising (cond b (x ∷ filter (λ p. is_thing p.thing q.thing) qs) (filter (λ p. is_thing p.thing q.thing) qs))) ≡ true
    later true k = inserted q.tuple x.tuple (rising (filter (λ p. is_thing p.thing q.thing) qs)) (right (bytes_eq q.tuple x.tuple) (is_in q.tuple (rising (filter (λ p. is_thing p.thing q.thing) qs))) k)
    later false k = k

-- what holds of each named place holds of each row
pub rows_in : (T : List ℕ → Type 0) (x : Thing) (qs : List Reading) → Each (λ q. q.thing ≡ x → T q.tuple) qs → (t : List ℕ) → is_in t (rising (filter (λ p. is_thing p.thing x) qs)) ≡ true → T t
rows_in T x [] h t k = absurd cc
rows_in T x (q ∷ qs) h t k = by_test (is_thing q.thing x) refl k (rows_in T x qs h.1 t)
  where
    by_test : (b : Bool) → is_thing q.thing x ≡ b → is_in t (rising (cond b (q ∷ filter (λ p. is_thing p.thing x) qs) (filter (λ p. is_thing p.thing x) qs))) ≡ true → (is_in t (rising (filter (λ p. is_thing p.thing x) qs)) ≡ true → T t) → T t
    by_test true e k f = elim (or_cases (bytes_eq t q.tuple) (is_in t (rising (filter (λ p. is_thing p.thing x) qs))) (inserted_only t q.tuple (rising (filter (λ p. is_thing p.thing x) qs)) k)) [
      | inl s ↦ subst T (sym ((bytes_eq-Decides t q.tuple).0 s)) (h.0 (thing_is q.thing x e))
      | inr l ↦ f l
    ]
    by_test false e k f = f k
