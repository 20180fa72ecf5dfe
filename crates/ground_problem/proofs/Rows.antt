-- The state that an interpretation gives: named readings at the entry, read back.
use Rattle.std.proofs.Common.{◌≡◌, ℕ, ◌==◌, ℤ, pos, ◌+ℤ◌, ◌*ℤ◌, int_le, Bool, true, false, not, cond, ◌&&◌, ◌||◌, ◌⊎◌, inl, inr, List, [], ◌∷◌, map, bytes_eq, refl, sym, ◌∙◌, ap, subst, arith}
use Rattle.std.specs.List.{list_any}
use Rattle.std.proofs.lemmas.Bool.{and_parts, and_from, or_cases}
use Rattle.std.proofs.lemmas.Bool.Decides.{nat_tests}
use Rattle.std.proofs.lemmas.Slice.Eq.{bytes_eq-Decides}
use Rattle.std.proofs.lemmas.Int.{ints}
use Rattle.spec_core.specs.declared.update.Thing.{Thing}
use Rattle.spec_core.specs.declared.update.Thing.TheVariants as thing
use Rattle.spec_core.specs.State.{is_in}
use Rattle.ground_problem.specs.Readback.{held, held_count}
use Rattle.ground_problem.specs.Symbols.{reading, Interpretation, is_true, all_true, all_parts, same_const}
use Rattle.ground_problem.specs.Equality.{equality, tuples_same, readings_same, congruent, congruent_pairs}
use Rattle.ground_problem.proofs.Updated.{parts_mean}
use Rattle.ground_problem.proofs.Choices.{find_one, some_at}
use Rattle.ground_problem.proofs.Worlds.{HasSort, element, element_same, append_left, append_right}

-- constants of these sorts
abbrev pub HaveSorts : List ℕ → List ℕ → List ℕ → Type 0
HaveSorts sorts [] [] = Unit {0}
HaveSorts sorts [] (n ∷ ns) = ⊥
HaveSorts sorts (s ∷ ss) [] = ⊥
HaveSorts sorts (s ∷ ss) (n ∷ ns) = HasSort sorts s n × HaveSorts sorts ss ns

not_both : (b : Bool) → b ≡ true → b ≡ false → ⊥
not_both b p q = cc

and_left : (a b : Bool) → (a && b) ≡ true → a ≡ true
and_left a b h = (and_parts a b h).0

and_right : (a b : Bool) → (a && b) ≡ true → b ≡ true
and_right a b h = (and_parts a b h).1

-- where equal values have equal readings, the reading of each is found again
pub has_found : (val : List ℕ → List ℕ) (at : List ℕ → Bool) (us : List (List ℕ)) → ((t u : List ℕ) → is_in t us ≡ true → is_in u us ≡ true → val t ≡ val u → at t ≡ at u) → (u : List ℕ) → is_in u us ≡ true → held val at us (val u) ≡ at u
has_found val at us h u k = by_test (at u) refl
  where
    yes : at u ≡ true → list_any (λ t. bytes_eq (val t) (val u) && at t) us ≡ true
    yes e = some_at (λ t. bytes_eq (val t) (val u) && at t) us u k (and_from (bytes_eq (val u) (val u)) (at u) ((bytes_eq-Decides (val u) (val u)).1 refl) e)

    no : at u ≡ false → list_any (λ t. bytes_eq (val t) (val u) && at t) us ≡ true → ⊥
    no e y = (let f = find_one (λ t. bytes_eq (val t) (val u) && at t) us y in
        let same = (bytes_eq-Decides (val f.it) (val u)).0 (and_left (bytes_eq (val f.it) (val u)) (at f.it) f.fine) in
        not_both (at u) (sym (h f.it u f.there k same) ∙ and_right (bytes_eq (val f.it) (val u)) (at f.it) f.fine) e)

    is_false : (b : Bool) → (b ≡ true → ⊥) → b ≡ false
    is_false true h = absurd (h refl)
    is_false false h = refl

    by_test : (b : Bool) → at u ≡ b → list_any (λ t. bytes_eq (val t) (val u) && at t) us ≡ at u
    by_test true e = yes e ∙ sym e
    by_test false e = is_false _ (no e) ∙ sym e

pub count_found : (val : List ℕ → List ℕ) (at : List ℕ → ℤ) (us : List (List ℕ)) → ((t u : List ℕ) → is_in t us ≡ true → is_in u us ≡ true → val t ≡ val u → at t ≡ at u) → (u : List ℕ) → is_in u us ≡ true → held_count val at us (val u) ≡ at u
count_found val at [] h u k = absurd cc
count_found val at (x ∷ us) h u k = by_test (bytes_eq (val x) (val u)) refl (λ l. count_found val at us (λ t v p q. h t v (right (bytes_eq t x) (is_in t us) p) (right (bytes_eq v x) (is_in v us) q)) u l)
  where
    right : (a b : Bool) → b ≡ true → (a || b) ≡ true
    right a b h = grind arith

    here : is_in x (x ∷ us) ≡ true
    here = (let e = (bytes_eq-Decides x x).1 refl in left (bytes_eq x x) (is_in x us) e)
      where
        left : (a b : Bool) → a ≡ true → (a || b) ≡ true
        left a b h = grind arith

    by_test : (b : Bool) → bytes_eq (val x) (val u) ≡ b → (is_in u us ≡ true → held_count val at us (val u) ≡ at u) → cond b (at x) (held_count val at us (val u)) ≡ at u
    by_test true e ih = h x u here k ((bytes_eq-Decides (val x) (val u)).0 e)
    by_test false e ih = elim (or_cases (bytes_eq u x) (is_in u us) k) [
      | inr l ↦ ih l
      | inl s ↦ absurd (let q = (bytes_eq-Decides u x).0 s in not_both (bytes_eq (val x) (val u)) ((bytes_eq-Decides (val x) (val u)).1 (ap val (sym q))) e)
    ]

module _ (m : Interpretation) (sorts : List ℕ) (axioms : all_true m (equality 0 sorts) ≡ true) where
  abbrev pub val : ℕ → ℕ
  val = element m sorts axioms

  same_places : (ss t u : List ℕ) → HaveSorts sorts ss t → HaveSorts sorts ss u → map val t ≡ map val u → all_true m (tuples_same t u) ≡ true
  same_places [] [] [] h k e = refl
  same_places [] [] (y ∷ u) h k e = absurd k
  same_places [] (x ∷ t) u h k e = absurd h
  same_places (s ∷ ss) [] u h k e = absurd h
  same_places (s ∷ ss) (x ∷ t) [] h k e = absurd k
  same_places (s ∷ ss) (x ∷ t) (y ∷ u) h k e =
      let p : val x ≡ val y = cc in let q : map val t ≡ map val u = cc in
      and_from (is_true m (same_const x y)) (all_true m (tuples_same t u)) (sym (element_same m sorts axioms s x y h.0 k.0) ∙ eq_true (val x) (val y) p) (same_places ss t u h.1 k.1 q)
    where
      eq_true : (a b : ℕ) → a ≡ b → (a == b) ≡ true
      eq_true a b e = grind (arith, nat_tests)

  map_at : (x : Thing) (t : List ℕ) (us : List (List ℕ)) (u : List ℕ) → is_in u us ≡ true → all_true m (map (congruent x t) us) ≡ true → is_true m (congruent x t u) ≡ true
  map_at x t [] u k h = absurd cc
  map_at x t (y ∷ us) u k h = elim (or_cases (bytes_eq u y) (is_in u us) k) [
    | inl e ↦ subst (λ (v : List ℕ). is_true m (congruent x t v) ≡ true) (sym ((bytes_eq-Decides u y).0 e)) (and_left (is_true m (congruent x t y)) (all_true m (map (congruent x t) us)) h)
    | inr l ↦ map_at x t us u l (and_right (is_true m (congruent x t y)) (all_true m (map (congruent x t) us)) h)
  ]

  pairs_at : (x : Thing) (us : List (List ℕ)) (t u : List ℕ) → is_in t us ≡ true → is_in u us ≡ true → all_true m (congruent_pairs x us) ≡ true → (t ≡ u) ⊎ ((is_true m (congruent x t u) ≡ true) ⊎ (is_true m (congruent x u t) ≡ true))
  pairs_at x [] t u a b h = absurd cc
  pairs_at x (y ∷ us) t u a b h =
      let here = append_left m (map (congruent x y) us) (congruent_pairs x us) h in
      let more = append_right m (map (congruent x y) us) (congruent_pairs x us) h in
      elim (or_cases (bytes_eq t y) (is_in t us) a) [
        | inl e ↦ elim (or_cases (bytes_eq u y) (is_in u us) b) [
          | inl f ↦ inl ((bytes_eq-Decides t y).0 e ∙ sym ((bytes_eq-Decides u y).0 f))
          | inr l ↦ inr (inl (subst (λ (v : List ℕ). is_true m (congruent x v u) ≡ true) (sym ((bytes_eq-Decides t y).0 e)) (map_at x y us u l here)))
        ]
        | inr k ↦ elim (or_cases (bytes_eq u y) (is_in u us) b) [
          | inl f ↦ inr (inr (subst (λ (v : List ℕ). is_true m (congruent x v t) ≡ true) (sym ((bytes_eq-Decides u y).0 f)) (map_at x y us t k here)))
          | inr l ↦ pairs_at x us t u k l more
        ]
      ]

  abbrev pub SameRead : Thing → List ℕ → List ℕ → Type 0
  SameRead (thing.Relation i) t u = m.has [] i t ≡ m.has [] i u
  SameRead (thing.Counter i) t u = m.int (reading [] i t) ≡ m.int (reading [] i u)

  read_self : (x : Thing) (t u : List ℕ) → t ≡ u → SameRead x t u
  read_self (thing.Relation i) t u e = ap (m.has [] i) e
  read_self (thing.Counter i) t u e = ap (λ (v : List ℕ). m.int (reading [] i v)) e

  read_swap : (x : Thing) (t u : List ℕ) → SameRead x t u → SameRead x u t
  read_swap (thing.Relation i) t u h = sym h
  read_swap (thing.Counter i) t u h = sym h

  reads_same : (x : Thing) (t u : List ℕ) → is_true m (readings_same x t u) ≡ true → SameRead x t u
  reads_same (thing.Relation i) t u h = iff (m.has [] i t) (m.has [] i u) h
    where
      iff : (a b : Bool) → ((not a || b) && (a || not b)) ≡ true → a ≡ b
      iff a b h = grind arith
  reads_same (thing.Counter i) t u h = by_numbers (m.int (reading [] i t)) (m.int (reading [] i u)) h
    where
      by_numbers : (a b : ℤ) → (int_le (pos 1 *ℤ a +ℤ pos 0) ((pos 1 *ℤ b +ℤ pos 0) +ℤ pos 0) && int_le (pos 1 *ℤ b +ℤ pos 0) ((pos 1 *ℤ a +ℤ pos 0) +ℤ pos 0)) ≡ true → a ≡ b
      by_numbers a b h = grind (arith, ints)

  congruent_same : (x : Thing) (ss t u : List ℕ) → HaveSorts sorts ss t → HaveSorts sorts ss u → map val t ≡ map val u → is_true m (congruent x t u) ≡ true → SameRead x t u
  congruent_same x ss t u h k e c = reads_same x t u (given (is_true m (all_parts (tuples_same t u))) (is_true m (readings_same x t u)) (parts_mean m (tuples_same t u) ∙ same_places ss t u h k e) c)
    where
      given : (a b : Bool) → a ≡ true → (not a || b) ≡ true → b ≡ true
      given a b p h = grind arith

  pub rows_same : (x : Thing) (ss : List ℕ) (us : List (List ℕ)) → ((t : List ℕ) → is_in t us ≡ true → HaveSorts sorts ss t) → all_true m (congruent_pairs x us) ≡ true → (t u : List ℕ) → is_in t us ≡ true → is_in u us ≡ true → map val t ≡ map val u → SameRead x t u
  rows_same x ss us so h t u a b e = elim (pairs_at x us t u a b h) [
    | inl s ↦ read_self x t u s
    | inr (inl c) ↦ congruent_same x ss t u (so t a) (so u b) e c
    | inr (inr c) ↦ read_swap x u t (congruent_same x ss u t (so u b) (so t a) (sym e) c)
  ]
