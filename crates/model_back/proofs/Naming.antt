-- What has a number is named, and what is named has a number.
use Rattle.std.proofs.Common.{◌≡◌, ℕ, suc, ◌==◌, pos, Bool, true, false, cond, inl, inr, List, [], ◌∷◌, ◌++◌, map, length, bytes_eq, flat_map, filter, refl, sym, ◌∙◌, ap, subst, arith}
use Rattle.std.specs.List.{list_any}
use Rattle.std.proofs.lemmas.Bool.{or_cases, or_left, or_right}
use Rattle.std.proofs.lemmas.Bool.Decides.{nat_tests}
use Rattle.std.proofs.lemmas.Slice.Eq.{bytes_eq-Decides}
use Rattle.std.proofs.lemmas.List.Folds.{list_any-append}
use Rattle.spec_core.specs.declared.update.Thing.{Thing}
use Rattle.spec_core.specs.declared.update.Thing.TheVariants as thing
use Rattle.spec_core.specs.Specification.{Specification}
use Rattle.spec_core.specs.State.{is_in}
use Rattle.effectors.specs.Effect.{is_thing}
use Rattle.obligation_list.specs.declared.obligation.Obligation.{Obligation}
use Rattle.obligation_list.specs.Obligations.{things}
use Rattle.lin_rows.specs.declared.term.RowTerm.{RowTerm}
use Rattle.lin_rows.specs.Rows.{Row}
use Rattle.ground_problem.specs.Symbols.{Stage, Integer, argument, reading, partial, Part, number, multiple, Symbolic, always, same, has, at_most, negated, both, either, all_parts}
use Rattle.ground_problem.specs.Constants.{constants_of, of_sort, params_of}
use Rattle.ground_problem.specs.Definitions.{Reading, readings_of_part, readings, same_reading, readings_after}
use Rattle.ground_problem.specs.Equality.{three_agree, agree_with_pairs, equality, tuples_same, readings_same, congruent, congruent_pairs, congruence, rising}
use Rattle.ground_problem.specs.Problem.{defined, formulas_of}
use Rattle.ground_problem.specs.Readback.{named_at}
use Rattle.ground_problem.proofs.Names.{Each, EachOf, of_sum, each_append, of_append, same_names, parts_names, after_names, each_distinct}
use Rattle.ground_problem.proofs.Closed.{In, each_in, at_in, each_left, each_right, of_left, names_of, from_distinct, from_after, in_rows, rows_in}
use Rattle.ground_numbers.specs.Numbers.{Atom, same_atom, has_atom, row_atom, same_atoms, same_integers, Table, has_number, has_integer, with_atom, with_integer, with_integers, with_row, with_sums, naming, naming_all}
use Rattle.ground_numbers.specs.Problem.{numbers_from, arguments_from, arguments_of, table_of}
use Rattle.spec_core.specs.declared.operation.Param.{Param as Parameter}
use Rattle.ground_numbers.proofs.Sameness.{same_atoms-is, same_integers-is}
use Rattle.ground_numbers.proofs.Growing.{NamesIn, AllNamesIn, IntegersIn, naming_all-has}

abbrev pub made : Stage → Thing → List ℕ → Reading
made k x u = record { stage = k; thing = x; tuple = u }

-- ---- the readings of a table

module _ (P : Reading → Type 0) where
  abbrev AtomNamed : Atom → Type 0
  AtomNamed (same_atom a b) = Unit {0}
  AtomNamed (has_atom k r u) = P (made k (thing.Relation r) u)
  AtomNamed (row_atom r) = Unit {0}

  abbrev IntegerNamed : Integer → Type 0
  IntegerNamed (argument c p) = Unit {0}
  IntegerNamed (reading k i u) = P (made k (thing.Counter i) u)
  IntegerNamed (partial n k i u) = Unit {0}

  -- what has a number is named
  pub record Named (t : Table) : Type 0 where
    pub atoms : (a : Atom) → has_number t a ≡ true → AtomNamed a
    pub ints : (x : Integer) → has_integer t x ≡ true → IntegerNamed x

  with_atom-named : (t : Table) (b : Atom) → AtomNamed b → Named t → Named (with_atom t b)
  with_atom-named t b n h = record { atoms = by_test (has_number t b); ints = h.ints }
    where
      by_test : (c : Bool) (a : Atom) → list_any (same_atoms a) (cond c t.atoms (t.atoms ++ b ∷ [])) ≡ true → AtomNamed a
      by_test true a k = h.atoms a k
      by_test false a k = elim (or_cases (list_any (same_atoms a) t.atoms) (list_any (same_atoms a) (b ∷ [])) (sym (list_any-append (same_atoms a) t.atoms (b ∷ [])) ∙ k)) [
        | inl l ↦ h.atoms a l
        | inr l ↦ elim (or_cases (same_atoms a b) false l) [ inl e ↦ subst AtomNamed (sym (same_atoms-is a b e)) n | inr e ↦ absurd cc ]
      ]

  with_integer-named : (t : Table) (y : Integer) → IntegerNamed y → Named t → Named (with_integer t y)
  with_integer-named t y n h = record { atoms = h.atoms; ints = by_test (has_integer t y) }
    where
      by_test : (c : Bool) (x : Integer) → list_any (same_integers x) (cond c t.ints (t.ints ++ y ∷ [])) ≡ true → IntegerNamed x
      by_test true x k = h.ints x k
      by_test false x k = elim (or_cases (list_any (same_integers x) t.ints) (list_any (same_integers x) (y ∷ [])) (sym (list_any-append (same_integers x) t.ints (y ∷ [])) ∙ k)) [
        | inl l ↦ h.ints x l
        | inr l ↦ elim (or_cases (same_integers x y) false l) [ inl e ↦ subst IntegerNamed (sym (same_integers-is x y e)) n | inr e ↦ absurd cc ]
      ]

  -- the reading of a name, if it has one
  one-named : (x : Integer) → Each P (readings_of_part (multiple (pos 0) x)) → IntegerNamed x
  one-named (argument c p) h = tt
  one-named (reading k i u) h = h.0
  one-named (partial n k i u) h = tt

  with_integers-named : (t : Table) (ps : List Part) → Each P (of_sum ps) → Named t → Named (with_integers t ps)
  with_integers-named t [] h k = k
  with_integers-named t (number n ∷ ps) h k = with_integers-named t ps h k
  with_integers-named t (multiple c x ∷ ps) h k = with_integers-named (with_integer t x) ps (each_right P (readings_of_part (multiple c x)) (of_sum ps) h) (with_integer-named t x (one-named x (each_left P (readings_of_part (multiple c x)) (of_sum ps) h)) k)

  with_row-named : (t : Table) (ts : List RowTerm) (r : Row) → Named t → Named (with_row t ts r)
  with_row-named t [] r k = k
  with_row-named t (x ∷ xs) r k = with_atom-named t (row_atom r) tt k

  naming-named : (t : Table) (f : Symbolic) → Each P (readings f) → Named t → Named (naming t f)
  naming-named t (always b) h k = k
  naming-named t (same a b) h k = with_atom-named t (same_atom a b) tt k
  naming-named t (has s r u) h k = with_atom-named t (has_atom s r u) h.0 k
  naming-named t (at_most x y n) h k = with_row-named (with_sums t x y) _ _ (with_integers-named (with_integers t x) y (each_right P (of_sum x) (of_sum y) h) (with_integers-named t x (each_left P (of_sum x) (of_sum y) h) k))
  naming-named t (negated f) h k = naming-named t f h k
  naming-named t (both f g) h k = naming-named (naming t f) g (each_right P (readings f) (readings g) h) (naming-named t f (each_left P (readings f) (readings g) h) k)
  naming-named t (either f g) h k = naming-named (naming t f) g (each_right P (readings f) (readings g) h) (naming-named t f (each_left P (readings f) (readings g) h) k)

  naming_all-named : (t : Table) (fs : List Symbolic) → EachOf P fs → Named t → Named (naming_all t fs)
  naming_all-named t [] h k = k
  naming_all-named t (f ∷ fs) h k = naming_all-named (naming t f) fs h.1 (naming-named t f h.0 k)

  -- ---- equality names no readings, and congruence those of its tuples
  agree-named : (a b : ℕ) (cs : List ℕ) → EachOf P (flat_map (three_agree a b) cs)
  agree-named a b [] = tt
  agree-named a b (c ∷ cs) = (tt, (tt, (tt, agree-named a b cs)))

  pairs-named : (a : ℕ) (cs : List ℕ) → EachOf P (agree_with_pairs a cs)
  pairs-named a [] = tt
  pairs-named a (b ∷ cs) = of_append P (flat_map (three_agree a b) cs) (agree_with_pairs a cs) (agree-named a b cs) (pairs-named a cs)

  equality-named : (n : ℕ) (ss : List ℕ) → EachOf P (equality n ss)
  equality-named n [] = tt
  equality-named n (s ∷ ts) = of_append P (agree_with_pairs n (of_sort (suc n) ts s)) (equality (suc n) ts) (pairs-named n (of_sort (suc n) ts s)) (equality-named (suc n) ts)

  tuples-named : (t u : List ℕ) → EachOf P (tuples_same t u)
  tuples-named [] [] = tt
  tuples-named [] (u ∷ us) = (tt, tt)
  tuples-named (t ∷ ts) [] = (tt, tt)
  tuples-named (t ∷ ts) (u ∷ us) = (same_names P t u, tuples-named ts us)

  same-named : (x : Thing) (t u : List ℕ) → P (made [] x t) → P (made [] x u) → Each P (readings (readings_same x t u))
  same-named (thing.Relation r) t u h k = (h, (k, (h, (k, tt))))
  same-named (thing.Counter i) t u h k = (h, (k, (k, (h, tt))))

  congruent-named : (x : Thing) (t u : List ℕ) → P (made [] x t) → P (made [] x u) → Each P (readings (congruent x t u))
  congruent-named x t u h k = each_append P (readings (all_parts (tuples_same t u))) (readings (readings_same x t u)) (parts_names P (tuples_same t u) (tuples-named t u)) (same-named x t u h k)

  row-named : (x : Thing) (t : List ℕ) (ts : List (List ℕ)) → P (made [] x t) → ((u : List ℕ) → is_in u ts ≡ true → P (made [] x u)) → EachOf P (map (congruent x t) ts)
  row-named x t [] h k = tt
  row-named x t (u ∷ us) h k = (congruent-named x t u h (k u (or_left (bytes_eq u u) (is_in u us) ((bytes_eq-Decides u u).1 refl))), row-named x t us h (λ v l. k v (or_right (bytes_eq v u) (is_in v us) l)))

  rows-named : (x : Thing) (ts : List (List ℕ)) → ((u : List ℕ) → is_in u ts ≡ true → P (made [] x u)) → EachOf P (congruent_pairs x ts)
  rows-named x [] h = tt
  rows-named x (t ∷ ts) h =
      of_append P (map (congruent x t) ts) (congruent_pairs x ts)
      (row-named x t ts (h t (or_left (bytes_eq t t) (is_in t ts) ((bytes_eq-Decides t t).1 refl))) (λ v l. h v (or_right (bytes_eq v t) (is_in v ts) l)))
      (rows-named x ts (λ v l. h v (or_right (bytes_eq v t) (is_in v ts) l)))

  things-named : (qs : List Reading) (xs : List Thing) → ((x : Thing) (u : List ℕ) → is_in u (rising (filter (λ q. is_thing q.thing x) qs)) ≡ true → P (made [] x u)) → EachOf P (congruence qs xs)
  things-named qs [] h = tt
  things-named qs (x ∷ xs) h = of_append P (congruent_pairs x (rising (filter (λ q. is_thing q.thing x) qs))) (congruence qs xs) (rows-named x (rising (filter (λ q. is_thing q.thing x) qs)) (h x)) (things-named qs xs h)

-- ---- the table of an obligation

-- a reading at the entry is among the named ones
abbrev pub AtEntry : Specification → Obligation → Reading → Type 0
AtEntry d ob q = q.stage ≡ [] → is_in q.tuple (named_at d ob q.thing) ≡ true

pub named-in : (d : Specification) (ob : Obligation) (q : Reading) → In q (flat_map readings (defined d ob (constants_of d ob))) → AtEntry d ob q
named-in d ob q k e =
    let list = defined d ob (constants_of d ob) in
    let F = λ (q : Reading). is_in q.tuple (named_at d ob q.thing) ≡ true in
    let names = flat_map readings list in
    at_in (λ q. length q.stage ≡ 0 → F q) names (from_after F 0 names (from_distinct F [] (filter (λ q. length q.stage == 0) names) (λ q n. absurd (no q n)) (each_in F (readings_after 0 list) (λ q l. in_rows (readings_after 0 list) q l)))) q k (ap length e)
  where
    no : (q : Reading) → list_any (same_reading q) [] ≡ true → ⊥
    no q n = cc

list-named : (d : Specification) (ob : Obligation) → EachOf (AtEntry d ob) (formulas_of d ob)
list-named d ob =
    let z = constants_of d ob in
    let list = defined d ob z in
    let qs = readings_after 0 list in
    of_append (AtEntry d ob) list (equality 0 z.sorts ++ congruence qs (things d)) (each_of list (names_of list))
    (of_append (AtEntry d ob) (equality 0 z.sorts) (congruence qs (things d)) (equality-named (AtEntry d ob) 0 z.sorts) (things-named (AtEntry d ob) qs (things d) (λ x u h e. h)))
  where
    each_one : (qs : List Reading) → Each (λ q. In q (flat_map readings (defined d ob (constants_of d ob)))) qs → Each (AtEntry d ob) qs
    each_one [] h = tt
    each_one (q ∷ qs) h = (named-in d ob q h.0, each_one qs h.1)

    each_of : (fs : List Symbolic) → EachOf (λ q. In q (flat_map readings (defined d ob (constants_of d ob)))) fs → EachOf (AtEntry d ob) fs
    each_of [] h = tt
    each_of (f ∷ fs) h = (each_one (readings f) h.0, each_of fs h.1)

-- ---- what has a number is named

no_reading : (k : Stage) (i : ℕ) (u : List ℕ) (n : ℕ) (ps : List ℕ) (more : List Integer) → list_any (same_integers (reading k i u)) more ≡ false → list_any (same_integers (reading k i u)) (map (argument n) ps ++ more) ≡ false
no_reading k i u n [] more h = h
no_reading k i u n (p ∷ ps) more h = no_reading k i u n ps more h

arguments-named : (k : Stage) (i : ℕ) (u : List ℕ) (n : ℕ) (lists : List (List Parameter)) → list_any (same_integers (reading k i u)) (arguments_from n lists) ≡ false
arguments-named k i u n [] = refl
arguments-named k i u n (ps ∷ more) = no_reading k i u n (numbers_from 0 ps) (arguments_from (suc n) more) (arguments-named k i u (suc n) more)

start-named : (P : Reading → Type 0) (d : Specification) (ob : Obligation) → Named P (record { atoms = []; ints = arguments_of d ob })
start-named P d ob = record { atoms = λ a h. absurd cc; ints = by_name }
  where
    by_name : (x : Integer) → list_any (same_integers x) (arguments_of d ob) ≡ true → IntegerNamed P x
    by_name (argument c p) h = tt
    by_name (reading k i u) h = absurd (let e = arguments-named k i u 0 (params_of d ob) in cc)
    by_name (partial n k i u) h = tt

pub table-named : (d : Specification) (ob : Obligation) → Named (AtEntry d ob) (table_of d ob)
table-named d ob = naming_all-named (AtEntry d ob) (record { atoms = []; ints = arguments_of d ob }) (formulas_of d ob) (list-named d ob) (start-named (AtEntry d ob) d ob)

-- ---- what is named has a number

abbrev has_reading : Table → Stage → Thing → List ℕ → Bool
has_reading o k (thing.Relation r) u = has_number o (has_atom k r u)
has_reading o k (thing.Counter i) u = has_integer o (reading k i u)

abbrev HasNumber : Table → Reading → Type 0
HasNumber o q = has_reading o q.stage q.thing q.tuple ≡ true

sum-numbered : (o : Table) (ps : List Part) → IntegersIn o ps → Each (HasNumber o) (of_sum ps)
sum-numbered o [] h = tt
sum-numbered o (number n ∷ ps) h = sum-numbered o ps h
sum-numbered o (multiple c (argument a p) ∷ ps) h = sum-numbered o ps h.1
sum-numbered o (multiple c (reading k i u) ∷ ps) h = (h.0, sum-numbered o ps h.1)
sum-numbered o (multiple c (partial n k i u) ∷ ps) h = sum-numbered o ps h.1

form-numbered : (o : Table) (f : Symbolic) → NamesIn o f → Each (HasNumber o) (readings f)
form-numbered o (always b) h = tt
form-numbered o (same a b) h = tt
form-numbered o (has k r u) h = (h, tt)
form-numbered o (at_most x y n) h = each_append (HasNumber o) (of_sum x) (of_sum y) (sum-numbered o x h.0) (sum-numbered o y h.1)
form-numbered o (negated f) h = form-numbered o f h
form-numbered o (both f g) h = each_append (HasNumber o) (readings f) (readings g) (form-numbered o f h.0) (form-numbered o g h.1)
form-numbered o (either f g) h = each_append (HasNumber o) (readings f) (readings g) (form-numbered o f h.0) (form-numbered o g h.1)

forms-numbered : (o : Table) (fs : List Symbolic) → AllNamesIn o fs → EachOf (HasNumber o) fs
forms-numbered o [] h = tt
forms-numbered o (f ∷ fs) h = (form-numbered o f h.0, forms-numbered o fs h.1)

at_start : (q : Reading) → (length q.stage == 0) ≡ true → q.stage ≡ []
at_start q h = by_stage q.stage h
  where
    by_stage : (k : Stage) → (length k == 0) ≡ true → k ≡ []
    by_stage [] h = refl
    by_stage (n ∷ k) h = absurd (grind (arith, nat_tests))

filter_start : (qs : List Reading) → Each (λ q. q.stage ≡ []) (filter (λ q. length q.stage == 0) qs)
filter_start [] = tt
filter_start (q ∷ qs) = by_test (length q.stage == 0) refl (filter_start qs)
  where
    by_test : (b : Bool) → (length q.stage == 0) ≡ b → Each (λ q. q.stage ≡ []) (filter (λ q. length q.stage == 0) qs) → Each (λ q. q.stage ≡ []) (cond b (q ∷ filter (λ q. length q.stage == 0) qs) (filter (λ q. length q.stage == 0) qs))
    by_test true e h = (at_start q e, h)
    by_test false e h = h

-- each named tuple has a number
pub named-numbered : (d : Specification) (ob : Obligation) (x : Thing) (u : List ℕ) → is_in u (named_at d ob x) ≡ true → has_reading (table_of d ob) [] x u ≡ true
named-numbered d ob x u h =
    let list = defined d ob (constants_of d ob) in
    let o = table_of d ob in
    let numbers = forms-numbered o (formulas_of d ob) (naming_all-has (record { atoms = []; ints = arguments_of d ob }) (formulas_of d ob)) in
    let front = of_left (HasNumber o) list _ numbers in
    let starts = each_distinct (λ (q : Reading). q.stage ≡ []) [] (filter (λ q. length q.stage == 0) (flat_map readings list)) (filter_start (flat_map readings list)) in
    rows_in (λ v. has_reading o [] x v ≡ true) x (readings_after 0 list) (both_of o x (readings_after 0 list) (after_names (HasNumber o) 0 list front) starts) u h
  where
    both_of : (o : Table) (x : Thing) (qs : List Reading) → Each (HasNumber o) qs → Each (λ q. q.stage ≡ []) qs → Each (λ q. q.thing ≡ x → has_reading o [] x q.tuple ≡ true) qs
    both_of o x [] h k = tt
    both_of o x (q ∷ qs) h k = (λ e. subst (λ (y : Thing). has_reading o [] y q.tuple ≡ true) e (subst (λ (s : Stage). has_reading o s q.thing q.tuple ≡ true) k.0 h.0), both_of o x qs h.1 k.1)
