-- What is filled in, by number, is what an interpretation says of the entry.
use Rattle.std.proofs.Common.{◌≡◌, ℕ, zero, suc, ◌+◌, ◌<◌, ◌==◌, nat_lt, ℤ, pos, Bool, true, false, cond, ◌&&◌, ◌||◌, ◌⊎◌, inl, inr, List, [], ◌∷◌, map, length, get_or, bytes_eq, refl, sym, ◌∙◌, ap, subst, arith}
use Rattle.std.proofs.lemmas.Bool.{or_left, or_right, or_cases, and_parts, and_from, eqb-true, eq-eqb}
use Rattle.std.proofs.lemmas.Slice.Eq.{bytes_eq-Decides}
use Rattle.spec_core.specs.Specification.{Specification}
use Rattle.spec_core.specs.State.{Reads, is_in, with_has, with_count}
use Rattle.ground_problem.specs.Symbols.{Integer, argument, reading, partial}
use Rattle.ground_problem.specs.Readback.{held, held_count}
use Rattle.ground_numbers.specs.Numbers.{Atom, same_atom, has_atom, row_atom}
use Rattle.model_back.proofs.Numbered.{no_atom, no_integer}
use Rattle.model_back.specs.Filling.{fill_atom, filled, fill_integer, filled_integers}

same_list : (t u : List ℕ) → bytes_eq t u ≡ true → t ≡ u
same_list t u h = (bytes_eq-Decides t u).0 h

list_same : (t u : List ℕ) → t ≡ u → bytes_eq t u ≡ true
list_same t u e = (bytes_eq-Decides t u).1 e

same_self : (n : ℕ) → (n == n) ≡ true
same_self n = eq-eqb n n refl

-- ---- relations

module _ (d : Specification) (val : ℕ → ℕ) (v : ℕ → Bool) (k : ℕ) (t : List ℕ) where
  abbrev pub told_one : Bool → Atom → Bool
  told_one b (same_atom a c) = false
  told_one b (has_atom [] j u) = (b && nat_lt j (length d.relations)) && ((k == j) && bytes_eq t (map val u))
  told_one b (has_atom (n ∷ s) j u) = false
  told_one b (row_atom q) = false

  -- some atom from this number on is true and says it
  abbrev pub told : ℕ → List Atom → Bool
  told n [] = false
  told n (a ∷ more) = told_one (v n) a || told (suc n) more

  fill_one : (b : Bool) (a : Atom) (r : Reads) → (fill_atom d val b a r).has k t ≡ (told_one b a || r.has k t)
  fill_one b (same_atom a c) r = refl
  fill_one b (has_atom [] j u) r = by_test (b && nat_lt j (length d.relations)) ((k == j) && bytes_eq t (map val u)) refl
    where
      by_test : (c e : Bool) → ((k == j) && bytes_eq t (map val u)) ≡ e → (cond c (with_has r j (map val u) true) r).has k t ≡ ((c && ((k == j) && bytes_eq t (map val u))) || r.has k t)
      by_test false e h = refl
      by_test true true h = ap (λ (x : Bool). cond x true (r.has k t)) h ∙ sym (ap (λ (x : Bool). x || r.has k t) h)
      by_test true false h = ap (λ (x : Bool). cond x true (r.has k t)) h ∙ sym (ap (λ (x : Bool). x || r.has k t) h)
  fill_one b (has_atom (n ∷ s) j u) r = refl
  fill_one b (row_atom q) r = refl

  pub filled-has : (n : ℕ) (atoms : List Atom) (r : Reads) → (filled d val v n atoms r).has k t ≡ (told n atoms || r.has k t)
  filled-has n [] r = refl
  filled-has n (a ∷ more) r = filled-has (suc n) more (fill_atom d val (v n) a r) ∙ ap (λ b. told (suc n) more || b) (fill_one (v n) a r) ∙ shuffle (told (suc n) more) (told_one (v n) a) (r.has k t)
    where
      shuffle : (a b c : Bool) → (a || (b || c)) ≡ ((b || a) || c)
      shuffle a b c = grind arith

  -- an atom that says it
  abbrev pub Tells : ℕ → List Atom → Type 0
  Tells n atoms = (i : ℕ) × (u : List ℕ) × (i < length atoms) × (get_or atoms i no_atom ≡ has_atom [] k u) × (v (n + i) ≡ true) × (map val u ≡ t)

  one-tells : (b : Bool) (a : Atom) → told_one b a ≡ true → (u : List ℕ) × (a ≡ has_atom [] k u) × (b ≡ true) × (map val u ≡ t)
  one-tells b (same_atom a c) h = absurd cc
  one-tells b (has_atom [] j u) h =
      let p = and_parts (b && nat_lt j (length d.relations)) ((k == j) && bytes_eq t (map val u)) h in
      let q = and_parts (k == j) (bytes_eq t (map val u)) p.1 in
      (u, ap (λ x. has_atom [] x u) (sym (eqb-true k j q.0)), (and_parts b (nat_lt j (length d.relations)) p.0).0, sym (same_list t (map val u) q.1))
  one-tells b (has_atom (n ∷ s) j u) h = absurd cc
  one-tells b (row_atom q) h = absurd cc

  pub told-tells : (n : ℕ) (atoms : List Atom) → told n atoms ≡ true → Tells n atoms
  told-tells n [] h = absurd cc
  told-tells n (a ∷ more) h = elim (or_cases (told_one (v n) a) (told (suc n) more) h) [
    | inl e ↦ (let p = one-tells (v n) a e in (0, p.0, (let l : 0 < suc (length more) = omega arith in l), p.1, (let z : n + 0 ≡ n = omega arith in ap v z ∙ p.2), p.3))
    | inr e ↦ (let p = told-tells (suc n) more e in (suc p.0, p.1, (let l = p.2 in omega arith), p.3, (let z : n + suc p.0 ≡ suc n + p.0 = omega arith in ap v z ∙ p.4), p.5))
  ]

  pub says-it : nat_lt k (length d.relations) ≡ true → (n i : ℕ) (u : List ℕ) (atoms : List Atom) → i < length atoms → get_or atoms i no_atom ≡ has_atom [] k u → v (n + i) ≡ true → map val u ≡ t → told n atoms ≡ true
  says-it there n i u [] l e h f = absurd (omega arith)
  says-it there n zero u (a ∷ more) l e h f =
      or_left (told_one (v n) a) (told (suc n) more)
      (subst (λ (x : Atom). told_one (v n) x ≡ true) (sym e)
      (and_from (v n && nat_lt k (length d.relations)) ((k == k) && bytes_eq t (map val u)) (and_from (v n) (nat_lt k (length d.relations)) (let z : n ≡ n + 0 = omega arith in ap v z ∙ h) there) (and_from (k == k) (bytes_eq t (map val u)) (same_self k) (list_same t (map val u) (sym f)))))
  says-it there n (suc i) u (a ∷ more) l e h f = or_right (told_one (v n) a) (told (suc n) more) (says-it there (suc n) i u more (omega arith) e (let z : suc n + i ≡ n + suc i = omega arith in ap v z ∙ h) f)

-- ---- counters

module _ (d : Specification) (val : ℕ → ℕ) (v : ℕ → ℤ) (k : ℕ) (t : List ℕ) (there : nat_lt k (length d.counters) ≡ true) where
  abbrev pub count_one : ℤ → Integer → ℤ → ℤ
  count_one x (argument c p) r = r
  count_one x (reading [] j u) r = cond ((k == j) && bytes_eq t (map val u)) x r
  count_one x (reading (n ∷ s) j u) r = r
  count_one x (partial m s j u) r = r

  -- the value of the last that says it
  abbrev pub counted : ℕ → List Integer → ℤ → ℤ
  counted n [] r = r
  counted n (x ∷ more) r = counted (suc n) more (count_one (v n) x r)

  fill_count : (x : ℤ) (y : Integer) (r : Reads) → (fill_integer d val x y r).count k t ≡ count_one x y (r.count k t)
  fill_count x (argument c p) r = refl
  fill_count x (reading [] j u) r = by_test (nat_lt j (length d.counters)) ((k == j) && bytes_eq t (map val u)) refl refl
    where
      in_place : (j : ℕ) → nat_lt j (length d.counters) ≡ false → (k == j) ≡ true → ⊥
      in_place j e f = (let g = subst (λ (n : ℕ). nat_lt n (length d.counters) ≡ true) (eqb-true k j f) there in absurd cc)

      by_test : (c e : Bool) → nat_lt j (length d.counters) ≡ c → ((k == j) && bytes_eq t (map val u)) ≡ e → (cond c (with_count r j (map val u) x) r).count k t ≡ cond ((k == j) && bytes_eq t (map val u)) x (r.count k t)
      by_test true e g h = refl
      by_test false true g h = absurd (in_place j g (and_parts (k == j) (bytes_eq t (map val u)) h).0)
      by_test false false g h = sym (ap (λ (b : Bool). cond b x (r.count k t)) h)
  fill_count x (reading (n ∷ s) j u) r = refl
  fill_count x (partial m s j u) r = refl

  pub filled-count : (n : ℕ) (ints : List Integer) (r : Reads) → (filled_integers d val v n ints r).count k t ≡ counted n ints (r.count k t)
  filled-count n [] r = refl
  filled-count n (x ∷ more) r = filled-count (suc n) more (fill_integer d val (v n) x r) ∙ ap (counted (suc n) more) (fill_count (v n) x r)

  abbrev pub Counts : ℕ → List Integer → ℤ → Type 0
  Counts n ints x = (i : ℕ) × (u : List ℕ) × (i < length ints) × (get_or ints i no_integer ≡ reading [] k u) × (v (n + i) ≡ x) × (map val u ≡ t)

  abbrev pub CountsNone : List Integer → Type 0
  CountsNone ints = (i : ℕ) (u : List ℕ) → i < length ints → get_or ints i no_integer ≡ reading [] k u → map val u ≡ t → ⊥

  one-counts : (x : ℤ) (y : Integer) (r : ℤ) → ((u : List ℕ) × (y ≡ reading [] k u) × (map val u ≡ t) × (count_one x y r ≡ x)) ⊎ (((u : List ℕ) → y ≡ reading [] k u → map val u ≡ t → ⊥) × (count_one x y r ≡ r))
  one-counts x (argument c p) r = inr ((λ u e f. absurd cc), refl)
  one-counts x (reading [] j u) r = by_test ((k == j) && bytes_eq t (map val u)) refl
    where
      name_is : (a b : ℕ) (w y : List ℕ) → reading [] a w ≡ reading [] b y → (a ≡ b) × (w ≡ y)
      name_is a b w y e = (cc, cc)

      both : (j : ℕ) (w : List ℕ) → j ≡ k → map val w ≡ t → ((k == j) && bytes_eq t (map val w)) ≡ true
      both j w e f = and_from (k == j) (bytes_eq t (map val w)) (eq-eqb k j (sym e)) (list_same t (map val w) (sym f))

      by_test : (c : Bool) → ((k == j) && bytes_eq t (map val u)) ≡ c → ((w : List ℕ) × (reading [] j u ≡ reading [] k w) × (map val w ≡ t) × (cond c x r ≡ x)) ⊎ (((w : List ℕ) → reading [] j u ≡ reading [] k w → map val w ≡ t → ⊥) × (cond c x r ≡ r))
      by_test true e = (let q = and_parts (k == j) (bytes_eq t (map val u)) e in inl (u, ap (λ y. reading [] y u) (sym (eqb-true k j q.0)), sym (same_list t (map val u) q.1), refl))
      by_test false e = inr ((λ w f g. absurd (let p = name_is j k u w f in let h = both j u p.0 (ap (map val) p.1 ∙ g) in cc)), refl)
  one-counts x (reading (n ∷ s) j u) r = inr ((λ w e f. absurd cc), refl)
  one-counts x (partial m s j u) r = inr ((λ w e f. absurd cc), refl)

  pub counted-cases : (n : ℕ) (ints : List Integer) (r : ℤ) → Counts n ints (counted n ints r) ⊎ (CountsNone ints × (counted n ints r ≡ r))
  counted-cases n [] r = inr ((λ i u l e f. absurd (omega arith)), refl)
  counted-cases n (x ∷ more) r = elim (counted-cases (suc n) more (count_one (v n) x r)) [
    | inl p ↦ inl (suc p.0, p.1, (let l = p.2 in omega arith), p.3, (let z : n + suc p.0 ≡ suc n + p.0 = omega arith in ap v z ∙ p.4), p.5)
    | inr q ↦ elim (one-counts (v n) x r) [
      | inl p ↦ inl (0, p.0, (let l : 0 < suc (length more) = omega arith in l), p.1, (let z : n + 0 ≡ n = omega arith in ap v z) ∙ sym (q.1 ∙ p.3), p.2)
      | inr p ↦ inr (none q.0 p.0, q.1 ∙ p.1)
    ]
  ]
    where
      none : CountsNone more → ((u : List ℕ) → x ≡ reading [] k u → map val u ≡ t → ⊥) → CountsNone (x ∷ more)
      none a b zero u l e f = b u e f
      none a b (suc i) u l e f = a i u (omega arith) e f

-- ---- what is held

pub held-some : (val : List ℕ → List ℕ) (p : List ℕ → Bool) (us : List (List ℕ)) (t : List ℕ) → held val p us t ≡ true → (u : List ℕ) × (is_in u us ≡ true) × (val u ≡ t) × (p u ≡ true)
held-some val p [] t h = absurd cc
held-some val p (u ∷ us) t h = elim (or_cases (bytes_eq (val u) t && p u) (held val p us t) h) [
  | inl e ↦ (let q = and_parts (bytes_eq (val u) t) (p u) e in (u, or_left (bytes_eq u u) (is_in u us) (list_same u u refl), same_list (val u) t q.0, q.1))
  | inr e ↦ (let q = held-some val p us t e in (q.0, or_right (bytes_eq q.0 u) (is_in q.0 us) q.1, q.2, q.3))
]

pub some-held : (val : List ℕ → List ℕ) (p : List ℕ → Bool) (us : List (List ℕ)) (t u : List ℕ) → is_in u us ≡ true → val u ≡ t → p u ≡ true → held val p us t ≡ true
some-held val p [] t u h e f = absurd cc
some-held val p (x ∷ us) t u h e f = elim (or_cases (bytes_eq u x) (is_in u us) h) [
  | inl s ↦ or_left (bytes_eq (val x) t && p x) (held val p us t) (subst (λ (y : List ℕ). (bytes_eq (val y) t && p y) ≡ true) (same_list u x s) (and_from (bytes_eq (val u) t) (p u) (list_same (val u) t e) f))
  | inr l ↦ or_right (bytes_eq (val x) t && p x) (held val p us t) (some-held val p us t u l e f)
]

pub held_count-cases : (val : List ℕ → List ℕ) (at : List ℕ → ℤ) (us : List (List ℕ)) (t : List ℕ) → ((u : List ℕ) × (is_in u us ≡ true) × (val u ≡ t) × (held_count val at us t ≡ at u)) ⊎ (((u : List ℕ) → is_in u us ≡ true → val u ≡ t → ⊥) × (held_count val at us t ≡ pos 0))
held_count-cases val at [] t = inr ((λ u h e. absurd cc), refl)
held_count-cases val at (x ∷ us) t = by_test (bytes_eq (val x) t) refl (held_count-cases val at us t)
  where
    by_test : (b : Bool) → bytes_eq (val x) t ≡ b → ((u : List ℕ) × (is_in u us ≡ true) × (val u ≡ t) × (held_count val at us t ≡ at u)) ⊎ (((u : List ℕ) → is_in u us ≡ true → val u ≡ t → ⊥) × (held_count val at us t ≡ pos 0))
        → ((u : List ℕ) × (is_in u (x ∷ us) ≡ true) × (val u ≡ t) × (cond b (at x) (held_count val at us t) ≡ at u)) ⊎ (((u : List ℕ) → is_in u (x ∷ us) ≡ true → val u ≡ t → ⊥) × (cond b (at x) (held_count val at us t) ≡ pos 0))
    by_test true e h = inl (x, or_left (bytes_eq x x) (is_in x us) (list_same x x refl), same_list (val x) t e, refl)
    by_test false e h = elim h [
      | inl p ↦ inl (p.0, or_right (bytes_eq p.0 x) (is_in p.0 us) p.1, p.2, p.3)
      | inr p ↦ inr (none p.0, p.1)
    ]
      where
        none : ((u : List ℕ) → is_in u us ≡ true → val u ≡ t → ⊥) → (u : List ℕ) → is_in u (x ∷ us) ≡ true → val u ≡ t → ⊥
        none f u h q = elim (or_cases (bytes_eq u x) (is_in u us) h) [
          | inl s ↦ absurd (let y = list_same (val x) t (ap val (sym (same_list u x s)) ∙ q) in cc)
          | inr l ↦ f u l q
        ]
