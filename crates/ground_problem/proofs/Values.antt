-- The lists of a world, a state and a call, made from functions.
use Rattle.std.proofs.Common.{◌≡◌, ℕ, zero, suc, ◌+◌, ◌<◌, ◌≤◌, nat_lt, ℤ, pos, int_le, unsigned_abs, Bool, true, false, cond, ◌&&◌, ◌||◌, ◌⊎◌, List, [], ◌∷◌, map, length, get_or, slice_get, slice_index, slice_index_or, bytes_eq, filter, refl, sym, ◌∙◌, ap, subst, arith}
use Rattle.std.specs.List.{list_all, range_with_len}
use Rattle.std.proofs.lemmas.Bool.{lt-ltb, eq-eqb, and_from, or_left, or_right}
use Rattle.std.proofs.lemmas.Int.{ints}
use Rattle.std.proofs.lemmas.Slice.Eq.{bytes_eq-Decides}
use Rattle.spec_core.specs.declared.operation.Kind.{Kind}
use Rattle.spec_core.specs.declared.operation.Kind.TheVariants.{Sort, Int}
use Rattle.spec_core.specs.declared.operation.Param.{Param as Parameter}
use Rattle.spec_core.specs.declared.spec.Relation.{Relation}
use Rattle.spec_core.specs.declared.spec.Counter.{Counter}
use Rattle.spec_core.specs.declared.world.World.{World}
use Rattle.spec_core.specs.World.{size_of}
use Rattle.spec_core.specs.State.{is_in, count_in}
use Rattle.spec_core.specs.Fits.{fits_places, is_argument, are_arguments, lists_fit, values_fit}
use Rattle.spec_core.specs.Specification.{no_relation, no_counter}
use Rattle.spec_core.specs.Typed.{sort_of_kind, sort_of_param, is_sort, is_int, is_number}
use Rattle.ground_problem.specs.Readback.{argument_of, arguments_from, held, held_count}

pub split_at : (k n : ℕ) → (k < n) ⊎ (n ≤ k)
split_at k n = grind arith

-- ---- numbers in rising order

pub numbers_length : {X : Type 0} (f : ℕ → X) (from n : ℕ) → length (map f (range_with_len from n)) ≡ n
numbers_length f from zero = refl
numbers_length f from (suc n) = ap suc (numbers_length f (from + 1) n)

pub numbers_at : (f : ℕ → ℕ) (from n k : ℕ) → k < n → slice_index (map f (range_with_len from n)) k ≡ f (from + k)
numbers_at f from zero k h = absurd (omega arith)
numbers_at f from (suc n) zero h = (let e : from ≡ from + 0 = omega arith in ap f e)
numbers_at f from (suc n) (suc k) h = (let e : from + 1 + k ≡ from + suc k = omega arith in numbers_at f (from + 1) n k (omega arith) ∙ ap f e)

pub numbers_out : (f : ℕ → ℕ) (from n k : ℕ) → n ≤ k → slice_index (map f (range_with_len from n)) k ≡ 0
numbers_out f from zero k h = refl
numbers_out f from (suc n) zero h = absurd (omega arith)
numbers_out f from (suc n) (suc k) h = numbers_out f (from + 1) n k (omega arith)

pub list_at : {X : Type 0} (f : ℕ → List X) (from n k : ℕ) → k < n → get_or (map f (range_with_len from n)) k [] ≡ f (from + k)
list_at f from zero k h = absurd (omega arith)
list_at f from (suc n) zero h = (let e : from ≡ from + 0 = omega arith in ap f e)
list_at f from (suc n) (suc k) h = (let e : from + 1 + k ≡ from + suc k = omega arith in list_at f (from + 1) n k (omega arith) ∙ ap f e)

-- ---- arguments

module _ (e : ℕ → ℕ) (f : ℕ → ℤ) where
  pub element_at : (from : ℕ) (ps : List Parameter) (i s : ℕ) → is_sort (sort_of_param (slice_get ps i)) s ≡ true → e (from + i) ≡ unsigned_abs (slice_index_or (arguments_from e f from ps) i (pos 0))
  element_at from [] i s h = absurd cc
  element_at from (p ∷ ps) zero s h = (let q : from + 0 ≡ from = omega arith in ap e q ∙ by_kind p.kind h)
    where
      by_kind : (k : Kind) → is_sort (sort_of_kind k) s ≡ true → e from ≡ unsigned_abs (argument_of k (e from) (f from))
      by_kind (Sort x) h = refl
      by_kind Int h = absurd cc
  element_at from (p ∷ ps) (suc i) s h = (let q : from + suc i ≡ from + 1 + i = omega arith in ap e q ∙ element_at (from + 1) ps i s h)

  pub number_at : (from : ℕ) (ps : List Parameter) (i : ℕ) → is_number (slice_get ps i) ≡ true → f (from + i) ≡ slice_index_or (arguments_from e f from ps) i (pos 0)
  number_at from [] i h = absurd cc
  number_at from (p ∷ ps) zero h = (let q : from + 0 ≡ from = omega arith in ap f q ∙ by_kind p.kind h)
    where
      by_kind : (k : Kind) → is_int k ≡ true → f from ≡ argument_of k (e from) (f from)
      by_kind (Sort x) h = absurd cc
      by_kind Int h = refl
  number_at from (p ∷ ps) (suc i) h = (let q : from + suc i ≡ from + 1 + i = omega arith in ap f q ∙ number_at (from + 1) ps i h)

  pub arguments_fit : (w : World) (from : ℕ) (ps : List Parameter) → ((i s : ℕ) → is_sort (sort_of_param (slice_get ps i)) s ≡ true → e (from + i) < size_of w s) → are_arguments w ps (arguments_from e f from ps) ≡ true
  arguments_fit w from [] h = refl
  arguments_fit w from (p ∷ ps) h = and_from (is_argument w p.kind (argument_of p.kind (e from) (f from))) (are_arguments w ps (arguments_from e f (from + 1) ps))
      (by_kind p.kind (λ s k. (let q : from + 0 ≡ from = omega arith in subst (λ (x : ℕ). e x < size_of w s) q (h 0 s k))))
      (arguments_fit w (from + 1) ps (λ i s k. (let q : from + suc i ≡ from + 1 + i = omega arith in subst (λ (x : ℕ). e x < size_of w s) q (h (suc i) s k))))
    where
      not_negative : (a : ℕ) → int_le (pos 0) (pos a) ≡ true
      not_negative a = grind (arith, ints)

      by_kind : (k : Kind) → ((s : ℕ) → is_sort (sort_of_kind k) s ≡ true → e from < size_of w s) → is_argument w k (argument_of k (e from) (f from)) ≡ true
      by_kind (Sort s) h = and_from (int_le (pos 0) (pos (e from))) (nat_lt (e from) (size_of w s)) (not_negative (e from)) (lt-ltb (e from) (size_of w s) (h s (eq-eqb s s refl)))
      by_kind Int h = refl

-- ---- a state

bytes_swap : (t u : List ℕ) → bytes_eq t u ≡ bytes_eq u t
bytes_swap t u = by_tests (bytes_eq t u) (bytes_eq u t) (λ h. (bytes_eq-Decides u t).1 (sym ((bytes_eq-Decides t u).0 h))) (λ h. (bytes_eq-Decides t u).1 (sym ((bytes_eq-Decides u t).0 h)))
  where
    by_tests : (a b : Bool) → (a ≡ true → b ≡ true) → (b ≡ true → a ≡ true) → a ≡ b
    by_tests a b f g = grind arith

-- the tuples that a relation holds, and what they read
pub listed_has : (val : List ℕ → List ℕ) (p : List ℕ → Bool) (us : List (List ℕ)) (t : List ℕ) → is_in t (map val (filter p us)) ≡ held val p us t
listed_has val p [] t = refl
listed_has val p (u ∷ us) t = by_test (p u) (listed_has val p us t)
  where
    here : (a b c d : Bool) → a ≡ b → c ≡ d → (a || c) ≡ ((b && true) || d)
    here a b c d e f = grind arith

    none : (a c d : Bool) → c ≡ d → c ≡ ((a && false) || d)
    none a c d f = grind arith

    by_test : (b : Bool) → is_in t (map val (filter p us)) ≡ held val p us t → is_in t (map val (cond b (u ∷ filter p us) (filter p us))) ≡ ((bytes_eq (val u) t && b) || held val p us t)
    by_test true e = here (bytes_eq t (val u)) (bytes_eq (val u) t) (is_in t (map val (filter p us))) (held val p us t) (bytes_swap t (val u)) e
    by_test false e = none (bytes_eq (val u) t) (is_in t (map val (filter p us))) (held val p us t) e

-- the entries of a counter, and what they read
pub listed_count : (val : List ℕ → List ℕ) (at : List ℕ → ℤ) (us : List (List ℕ)) (t : List ℕ) → count_in (map (λ u. (val u, at u)) us) t ≡ held_count val at us t
listed_count val at [] t = refl
listed_count val at (u ∷ us) t = ap (λ (b : Bool). cond b (at u) (count_in (map (λ u. (val u, at u)) us) t)) (bytes_swap t (val u)) ∙ ap (λ (x : ℤ). cond (bytes_eq (val u) t) (at u) x) (listed_count val at us t)

-- each of the tuples held fits where all do
pub held_fit : (w : World) (ss : List ℕ) (val : List ℕ → List ℕ) (p : List ℕ → Bool) (us : List (List ℕ)) → ((u : List ℕ) → is_in u us ≡ true → fits_places w ss (val u) ≡ true) → list_all (λ t. fits_places w ss t) (map val (filter p us)) ≡ true
held_fit w ss val p [] h = refl
held_fit w ss val p (u ∷ us) h = by_test (p u) (held_fit w ss val p us (λ t l. h t (or_right (bytes_eq t u) (is_in t us) l)))
  where
    by_test : (b : Bool) → list_all (λ t. fits_places w ss t) (map val (filter p us)) ≡ true → list_all (λ t. fits_places w ss t) (map val (cond b (u ∷ filter p us) (filter p us))) ≡ true
    by_test true k = and_from (fits_places w ss (val u)) _ (h u (or_left (bytes_eq u u) (is_in u us) ((bytes_eq-Decides u u).1 refl))) k
    by_test false k = k

pub entries_fit : (w : World) (ss : List ℕ) (val : List ℕ → List ℕ) (at : List ℕ → ℤ) (us : List (List ℕ)) → ((u : List ℕ) → is_in u us ≡ true → fits_places w ss (val u) ≡ true) → list_all (λ (x : List ℕ × ℤ). fits_places w ss x.0) (map (λ u. (val u, at u)) us) ≡ true
entries_fit w ss val at [] h = refl
entries_fit w ss val at (u ∷ us) h = and_from (fits_places w ss (val u)) _ (h u (or_left (bytes_eq u u) (is_in u us) ((bytes_eq-Decides u u).1 refl))) (entries_fit w ss val at us (λ t l. h t (or_right (bytes_eq t u) (is_in t us) l)))

-- one list for each relation, and for each counter
pub all_lists_fit : (w : World) (rs : List Relation) (f : ℕ → List (List ℕ)) (from : ℕ) → ((i : ℕ) → i < length rs → list_all (λ t. fits_places w (get_or rs i no_relation).places t) (f (from + i)) ≡ true) → lists_fit w rs (map f (range_with_len from (length rs))) ≡ true
all_lists_fit w [] f from h = refl
all_lists_fit w (r ∷ rs) f from h = and_from (list_all (λ t. fits_places w r.places t) (f from)) _
    (let q : from + 0 ≡ from = omega arith in subst (λ (x : ℕ). list_all (λ t. fits_places w r.places t) (f x) ≡ true) q (h 0 (omega arith)))
    (all_lists_fit w rs f (from + 1) (λ i l. (let q : from + suc i ≡ from + 1 + i = omega arith in subst (λ (x : ℕ). list_all (λ t. fits_places w (get_or rs i no_relation).places t) (f x) ≡ true) q (h (suc i) (omega arith)))))

pub all_values_fit : (w : World) (cs : List Counter) (f : ℕ → List (List ℕ × ℤ)) (from : ℕ) → ((i : ℕ) → i < length cs → list_all (λ (x : List ℕ × ℤ). fits_places w (get_or cs i no_counter).keys x.0) (f (from + i)) ≡ true) → values_fit w cs (map f (range_with_len from (length cs))) ≡ true
all_values_fit w [] f from h = refl
all_values_fit w (c ∷ cs) f from h = and_from (list_all (λ (x : List ℕ × ℤ). fits_places w c.keys x.0) (f from)) _
    (let q : from + 0 ≡ from = omega arith in subst (λ (x : ℕ). list_all (λ (y : List ℕ × ℤ). fits_places w c.keys y.0) (f x) ≡ true) q (h 0 (omega arith)))
    (all_values_fit w cs f (from + 1) (λ i l. (let q : from + suc i ≡ from + 1 + i = omega arith in subst (λ (x : ℕ). list_all (λ (y : List ℕ × ℤ). fits_places w (get_or cs i no_counter).keys y.0) (f x) ≡ true) q (h (suc i) (omega arith)))))
