use Rattle.std.proofs.Common.{◌≡◌, ◌≢◌, ℕ, ◌+◌, ◌<◌, Bool, true, false, not, ◌&&◌, ◌||◌, ◌==◌, ◌⊎◌, inl, inr, List, [], ◌∷◌, ◌++◌, length, get_or, refl, sym, ◌∙◌, ap, subst, Option, Some, None, arith}
use Rattle.std.proofs.lemmas.Bool.{and_parts, and_from, or_cases, or_left, or_right, cases_eq, eq-eqb, not-true, not_from_false}
use Rattle.proof_lines.specs.declared.clause.Lit.{Lit}
use Rattle.proof_lines.specs.Clauses.{same_lit, flip}
use Rattle.sat_core.specs.declared.trail.Entry.{Entry}
use Rattle.sat_core.specs.Trails.{in_trail, negated, is_false, is_unit, Settled, NoneFalse, IsTrail}
use Rattle.sat_core.proofs.Trails.{flip_back}
use Rattle.unit_propagation.specs.declared.looking.Watched.{Watched}
use Rattle.unit_propagation.specs.declared.looking.ClauseStatus.{ClauseStatus}
use Rattle.unit_propagation.specs.declared.looking.ClauseStatus.TheVariants.{False, Unit as OfUnit, Open}
use Rattle.unit_propagation.specs.declared.watches.Watches.{Watches}
use Rattle.unit_propagation.specs.Watches.{is_among, list_at, code, rests, is_open, pair_at, is_listed, is_quiet, IsKept, AreKept, AllKept, AreWatched, AllWatched, AreAtRest, IsMoved, IsLooked, IsLook}
use Rattle.unit_propagation.specs.Ready.{MayPush}
use Rattle.unit_propagation.proofs.Among.{other_among, in_its_list}
use Rattle.unit_propagation.proofs.Resting.{Rest, first_true, second_true, both_open, rest_of, rest_not_false, rest_quiet, watched_not_false}
use Rattle.unit_propagation.proofs.Steady.{rest_from, steady-pushed}

-- What is watched, step by step.

-- a clause that is kept while no list is gone through is kept while any is
pub kept_always : (c : List Lit) (t : List Entry) (from : ℕ) (left : List ℕ) (lists : List (List ℕ)) (i : ℕ) (w : Watched) → IsKept c t 0 [] lists i w → IsKept c t from left lists i w
kept_always c t from left lists i w x = record {
  has_first = x.has_first;
  has_second = x.has_second;
  first_listed = or_left (is_among i (list_at lists (code w.first))) _ (in_its_list _ _ x.first_listed);
  second_listed = or_left (is_among i (list_at lists (code w.second))) _ (in_its_list _ _ x.second_listed);
  steady = x.steady;
}

pub quiet_always : (t : List Entry) (left units : List ℕ) (i : ℕ) (w : Watched) → is_quiet t [] units i w ≡ true → is_quiet t left units i w ≡ true
quiet_always t left units i w h = or_right (is_among i left) (rests t w || (is_open t w && is_among i units)) h

-- the others are kept as they were
pub moved_kept : (c : List Lit) (t : List Entry) (from : ℕ) (old left : List ℕ) (i k : ℕ) (w u : Watches) → IsMoved i w u → k ≢ i → (is_among k old ≡ true → is_among k left ≡ true) → IsKept c t from old w.lists.items k (pair_at w.pairs.items k)
    → IsKept c t from left u.lists.items k (pair_at u.pairs.items k)
moved_kept c t from old left i k w u m d f x = subst (λ (z : Watched). IsKept c t from left u.lists.items k z) (sym (m.others k d)) (record {
  has_first = x.has_first;
  has_second = x.has_second;
  first_listed = listed (pair_at w.pairs.items k).first x.first_listed;
  second_listed = listed (pair_at w.pairs.items k).second x.second_listed;
  steady = x.steady;
})
  where
    listed : (l : Lit) → is_listed w.lists.items from old k l ≡ true → is_listed u.lists.items from left k l ≡ true
    listed l h = elim (or_cases (is_among k (list_at w.lists.items (code l))) _ h) [
      | inl p ↦ or_left (is_among k (list_at u.lists.items (code l))) _ (m.lists (code l) k p)
      | inr p ↦ (let b = and_parts (code l == from) (is_among k old) p in or_right (is_among k (list_at u.lists.items (code l))) _ (and_from (code l == from) (is_among k left) b.0 (f b.1)))
    ]

wider_quiet : (t : List Entry) (old left units others : List ℕ) (k : ℕ) (w : Watched) → (is_among k old ≡ true → is_among k left ≡ true) → (is_among k units ≡ true → is_among k others ≡ true) → is_quiet t old units k w ≡ true → is_quiet t left others k w ≡ true
wider_quiet t old left units others k w f g h = elim (or_cases (is_among k old) _ h) [
  | inl a ↦ or_left (is_among k left) _ (f a)
  | inr a ↦ elim (or_cases (rests t w) _ a) [
    | inl r ↦ or_right (is_among k left) _ (or_left (rests t w) _ r)
    | inr q ↦ (let b = and_parts (is_open t w) (is_among k units) q in or_right (is_among k left) _ (or_right (rests t w) _ (and_from (is_open t w) (is_among k others) b.0 (g b.1))))
  ]
]

pub moved_quiet : (t : List Entry) (old left : List ℕ) (i k : ℕ) (w u : Watches) → IsMoved i w u → k ≢ i → (is_among k old ≡ true → is_among k left ≡ true) → is_quiet t old w.units k (pair_at w.pairs.items k) ≡ true → is_quiet t left u.units k (pair_at u.pairs.items k) ≡ true
moved_quiet t old left i k w u m d f h = subst (λ (z : Watched). is_quiet t left u.units k z ≡ true) (sym (m.others k d)) (wider_quiet t old left w.units u.units k (pair_at w.pairs.items k) f (m.units k) h)

without : (left : List ℕ) (i k : ℕ) → k ≢ i → is_among k (left ++ i ∷ []) ≡ true → is_among k left ≡ true
without left i k d h = sym (other_among k left i d) ∙ h

-- one was looked at, and the others stayed as they were
pub visited_kept : (n : ℕ) (cs : List (List Lit)) (t : List Entry) (from : ℕ) (left : List ℕ) (i : ℕ) (w u : Watches) → AreKept n cs t from (left ++ i ∷ []) w → IsMoved i w u → length u.pairs.items ≡ length w.pairs.items
    → (i < n → IsKept (get_or cs i []) t 0 [] u.lists.items i (pair_at u.pairs.items i)) → AreKept n cs t from left u
visited_kept n cs t from left i w u a m e v = record { many = e ∙ a.many; each = λ k l. by_number k l (cases_eq k i) }
  where
    by_number : (k : ℕ) → k < n → (k ≡ i) ⊎ (k ≢ i) → IsKept (get_or cs k []) t from left u.lists.items k (pair_at u.pairs.items k)
    by_number k l (inl s) = subst (λ (z : ℕ). IsKept (get_or cs z []) t from left u.lists.items z (pair_at u.pairs.items z)) (sym s) (kept_always (get_or cs i []) t from left u.lists.items i (pair_at u.pairs.items i) (v (subst (λ (z : ℕ). z < n) s l)))
    by_number k l (inr d) = moved_kept (get_or cs k []) t from (left ++ i ∷ []) left i k w u m d (without left i k d) (a.each k l)

pub visited_watched : (n : ℕ) (cs : List (List Lit)) (t : List Entry) (from : ℕ) (left : List ℕ) (i : ℕ) (w u : Watches) → AreWatched n cs t from (left ++ i ∷ []) w → IsMoved i w u → length u.pairs.items ≡ length w.pairs.items
    → (i < n → IsKept (get_or cs i []) t 0 [] u.lists.items i (pair_at u.pairs.items i)) → (i < n → is_quiet t [] u.units i (pair_at u.pairs.items i) ≡ true) → AreWatched n cs t from left u
visited_watched n cs t from left i w u a m e v q = record { kept = visited_kept n cs t from left i w u a.kept m e v; quiet = λ k l. by_number k l (cases_eq k i) }
  where
    by_number : (k : ℕ) → k < n → (k ≡ i) ⊎ (k ≢ i) → is_quiet t left u.units k (pair_at u.pairs.items k) ≡ true
    by_number k l (inl s) = subst (λ (z : ℕ). is_quiet t left u.units z (pair_at u.pairs.items z) ≡ true) (sym s) (quiet_always t left u.units i (pair_at u.pairs.items i) (q (subst (λ (z : ℕ). z < n) s l)))
    by_number k l (inr d) = moved_quiet t (left ++ i ∷ []) left i k w u m d (without left i k d) (a.quiet k l)

-- one clause more watches
pub one_more_watched : (cs : List (List Lit)) (t : List Entry) (i : ℕ) (w u : Watches) → AreWatched i cs t 0 [] w → IsMoved i w u → length u.pairs.items ≡ i + 1 → IsKept (get_or cs i []) t 0 [] u.lists.items i (pair_at u.pairs.items i) → is_quiet t [] u.units i (pair_at u.pairs.items i) ≡ true
    → AreWatched (i + 1) cs t 0 [] u
one_more_watched cs t i w u a m e v q = record { kept = record { many = e; each = λ k l. still_kept k l (cases_eq k i) }; quiet = λ k l. still_quiet k l (cases_eq k i) }
  where
    still_kept : (k : ℕ) → k < i + 1 → (k ≡ i) ⊎ (k ≢ i) → IsKept (get_or cs k []) t 0 [] u.lists.items k (pair_at u.pairs.items k)
    still_kept k l (inl s) = subst (λ (z : ℕ). IsKept (get_or cs z []) t 0 [] u.lists.items z (pair_at u.pairs.items z)) (sym s) v
    still_kept k l (inr d) = moved_kept (get_or cs k []) t 0 [] [] i k w u m d (λ h. h) (a.kept.each k (omega (arith, d)))

    still_quiet : (k : ℕ) → k < i + 1 → (k ≡ i) ⊎ (k ≢ i) → is_quiet t [] u.units k (pair_at u.pairs.items k) ≡ true
    still_quiet k l (inl s) = subst (λ (z : ℕ). is_quiet t [] u.units z (pair_at u.pairs.items z) ≡ true) (sym s) q
    still_quiet k l (inr d) = moved_quiet t [] [] i k w u m d (λ h. h) (a.quiet k (omega (arith, d)))

-- ONE MORE LITERAL ON THE TRAIL.

may_kept : (r : Option ℕ) (cs : List (List Lit)) (t : List Entry) (w : Watches) → MayPush r cs t w → AllKept cs t w
may_kept None cs t w m = m.0
may_kept (Some r) cs t w m = m.kept

may_quiet : (r : Option ℕ) (cs : List (List Lit)) (t : List Entry) (w : Watches) → MayPush r cs t w → (k : ℕ) → k < length cs → is_quiet t [] w.units k (pair_at w.pairs.items k) ≡ true
may_quiet None cs t w m k l = or_left (rests t (pair_at w.pairs.items k)) _ (m.1 k l)
may_quiet (Some r) cs t w m k l = m.quiet k l

may_rest : (r : Option ℕ) (cs : List (List Lit)) (t : List Entry) (w : Watches) → MayPush r cs t w → r ≡ None → AreAtRest (length cs) t w
may_rest None cs t w m e = m.1
may_rest (Some r) cs t w m e = absurd cc

neither : (a b : Bool) → a ≡ false → b ≡ false → (a || b) ≡ false
neither a b h k = grind arith

still_rests : (e : Entry) (t : List Entry) (w : Watched) → same_lit e.lit (flip w.first) ≡ false → same_lit e.lit (flip w.second) ≡ false → Rest t w → Rest (e ∷ t) w
still_rests e t w h k (first_true a) = first_true (or_right (same_lit e.lit w.first) (in_trail t w.first) a)
still_rests e t w h k (second_true a) = second_true (or_right (same_lit e.lit w.second) (in_trail t w.second) a)
still_rests e t w h k (both_open d n m) = both_open d (neither (same_lit e.lit (flip w.first)) (negated t w.first) h n) (neither (same_lit e.lit (flip w.second)) (negated t w.second) k m)

still_open : (e : Entry) (t : List Entry) (w : Watched) → same_lit e.lit (flip w.first) ≡ false → same_lit e.lit (flip w.second) ≡ false → is_open t w ≡ true → is_open (e ∷ t) w ≡ true
still_open e t w h k o = elim (or_cases (not (negated t w.first)) (not (negated t w.second)) o) [
  | inl n ↦ or_left (not (negated (e ∷ t) w.first)) _ (not_from_false (negated (e ∷ t) w.first) (neither (same_lit e.lit (flip w.first)) (negated t w.first) h (not-true (negated t w.first) n)))
  | inr n ↦ or_right (not (negated (e ∷ t) w.first)) _ (not_from_false (negated (e ∷ t) w.second) (neither (same_lit e.lit (flip w.second)) (negated t w.second) k (not-true (negated t w.second) n)))
]

pub pushed_watched : (cs : List (List Lit)) (t : List Entry) (e : Entry) (gone : Lit) (left : List ℕ) (w u : Watches) → MayPush e.reason cs t w → u.pairs.items ≡ w.pairs.items → u.units ≡ w.units → gone ≡ flip e.lit → left ≡ list_at w.lists.items (code gone)
    → ((k : ℕ) → k ≢ code gone → list_at u.lists.items k ≡ list_at w.lists.items k) → AreWatched (length cs) cs (e ∷ t) (code gone) left u
pushed_watched cs t e gone left w u m p s g l o = record {
  kept = record {
    many = ap (λ (z : List Watched). length z) p ∙ were.many;
    each = λ k b. subst (λ (z : List Watched). IsKept (get_or cs k []) (e ∷ t) (code gone) left u.lists.items k (pair_at z k)) (sym p) (one k b);
  };
  quiet = λ k b. subst (λ (z : List Watched). is_quiet (e ∷ t) left u.units k (pair_at z k) ≡ true) (sym p) (subst (λ (z : List ℕ). is_quiet (e ∷ t) left z k (pair_at w.pairs.items k) ≡ true) (sym s) (calm k b));
}
  where
    were : AllKept cs t w
    were = may_kept e.reason cs t w m

    there : (k : ℕ) (x : Lit) → is_listed w.lists.items 0 [] k x ≡ true → code x ≡ code gone → is_among k left ≡ true
    there k x h c = subst (λ (z : List ℕ). is_among k z ≡ true) (sym l) (subst (λ (n : ℕ). is_among k (list_at w.lists.items n) ≡ true) c (in_its_list _ _ h))

    listed : (k : ℕ) (x : Lit) → is_listed w.lists.items 0 [] k x ≡ true → is_listed u.lists.items (code gone) left k x ≡ true
    listed k x h = elim (cases_eq (code x) (code gone)) [
      | inl c ↦ or_right (is_among k (list_at u.lists.items (code x))) _ (and_from (code x == code gone) (is_among k left) (eq-eqb (code x) (code gone) c) (there k x h c))
      | inr d ↦ or_left (is_among k (list_at u.lists.items (code x))) _ (subst (λ (z : List ℕ). is_among k z ≡ true) (sym (o (code x) d)) (in_its_list _ _ h))
    ]

    one : (k : ℕ) → k < length cs → IsKept (get_or cs k []) (e ∷ t) (code gone) left u.lists.items k (pair_at w.pairs.items k)
    one k b = let x = were.each k b in record {
      has_first = x.has_first;
      has_second = x.has_second;
      first_listed = listed k (pair_at w.pairs.items k).first x.first_listed;
      second_listed = listed k (pair_at w.pairs.items k).second x.second_listed;
      steady = steady-pushed e t (pair_at w.pairs.items k) (λ r. may_rest e.reason cs t w m r k b) x.steady;
    }

    is_gone : (x : Lit) → same_lit e.lit (flip x) ≡ true → code x ≡ code gone
    is_gone x h = ap code (sym (flip_back e.lit x h) ∙ sym g)

    by_hit : (k : ℕ) → k < length cs → (a b : Bool) → same_lit e.lit (flip (pair_at w.pairs.items k).first) ≡ a → same_lit e.lit (flip (pair_at w.pairs.items k).second) ≡ b → is_quiet (e ∷ t) left w.units k (pair_at w.pairs.items k) ≡ true
    by_hit k h true b p q = or_left (is_among k left) _ (there k (pair_at w.pairs.items k).first (were.each k h).first_listed (is_gone (pair_at w.pairs.items k).first p))
    by_hit k h false true p q = or_left (is_among k left) _ (there k (pair_at w.pairs.items k).second (were.each k h).second_listed (is_gone (pair_at w.pairs.items k).second q))
    by_hit k h false false p q = quiet_always (e ∷ t) left w.units k (pair_at w.pairs.items k) (elim (or_cases (rests t (pair_at w.pairs.items k)) _ (may_quiet e.reason cs t w m k h)) [
      | inl r ↦ or_left (rests (e ∷ t) (pair_at w.pairs.items k)) _ (rest_from (e ∷ t) (pair_at w.pairs.items k) (still_rests e t (pair_at w.pairs.items k) p q (rest_of t (pair_at w.pairs.items k) r)))
      | inr r ↦ (let b = and_parts (is_open t (pair_at w.pairs.items k)) (is_among k w.units) r in
          or_right (rests (e ∷ t) (pair_at w.pairs.items k)) _ (and_from (is_open (e ∷ t) (pair_at w.pairs.items k)) (is_among k w.units) (still_open e t (pair_at w.pairs.items k) p q b.0) b.1))
    ])

    calm : (k : ℕ) → k < length cs → is_quiet (e ∷ t) left w.units k (pair_at w.pairs.items k) ≡ true
    calm k h = by_hit k h (same_lit e.lit (flip (pair_at w.pairs.items k).first)) (same_lit e.lit (flip (pair_at w.pairs.items k).second)) refl refl

-- WHAT FOLLOWS.

watched_open : (cs : List (List Lit)) (t : List Entry) (c : List Lit) (lists : List (List ℕ)) (units : List ℕ) (i : ℕ) (w : Watched) → IsTrail cs t → IsKept c t 0 [] lists i w → is_quiet t [] units i w ≡ true → is_false t c ≡ false
watched_open cs t c lists units i w g x q = elim (or_cases (rests t w) _ q) [
  | inl r ↦ rest_not_false cs t c w g x.has_first x.has_second (rest_of t w r)
  | inr r ↦ watched_not_false t c w x.has_first x.has_second (and_parts (is_open t w) (is_among i units) r).0
]

-- no clause is false
pub none_false_there : (cs : List (List Lit)) (t : List Entry) (w : Watches) → IsTrail cs t → AllWatched cs t w → NoneFalse t cs
none_false_there cs t w g a = λ k l. watched_open cs t (get_or cs k []) w.lists.items w.units k (pair_at w.pairs.items k) g (a.kept.each k l) (a.quiet k l)

-- where none may be unit, all are at rest
pub rest_there : (cs : List (List Lit)) (t : List Entry) (w : Watches) → w.units ≡ [] → AllWatched cs t w → AreAtRest (length cs) t w
rest_there cs t w e a = λ k l. elim (or_cases (rests t (pair_at w.pairs.items k)) _ (a.quiet k l)) [
  | inl r ↦ r
  | inr r ↦ absurd (let b = (and_parts (is_open t (pair_at w.pairs.items k)) (is_among k w.units) r).1 in let d = subst (λ (z : List ℕ). is_among k z ≡ true) e b in cc)
]

-- so the trail is settled
pub settled_there : (cs : List (List Lit)) (t : List Entry) (w : Watches) → IsTrail cs t → AllKept cs t w → AreAtRest (length cs) t w → Settled t cs
settled_there cs t w g a r = λ k l. (let x = a.each k l in rest_quiet cs t (get_or cs k []) (pair_at w.pairs.items k) g x.has_first x.has_second (rest_of t (pair_at w.pairs.items k) (r k l)))

-- ONE CLAUSE.

-- a clause that is looked at was left
pub to_visit : (c : List Lit) (t : List Entry) (from : ℕ) (left : List ℕ) (lists : List (List ℕ)) (i : ℕ) (w : Watched) → IsKept c t from left lists i w → IsKept c t from (i ∷ []) lists i w
to_visit c t from left lists i w x = record {
  has_first = x.has_first;
  has_second = x.has_second;
  first_listed = listed w.first x.first_listed;
  second_listed = listed w.second x.second_listed;
  steady = x.steady;
}
  where
    listed : (l : Lit) → is_listed lists from left i l ≡ true → is_listed lists from (i ∷ []) i l ≡ true
    listed l h = elim (or_cases (is_among i (list_at lists (code l))) _ h) [
      | inl p ↦ or_left (is_among i (list_at lists (code l))) _ p
      | inr p ↦ or_right (is_among i (list_at lists (code l))) _ (and_from (code l == from) (is_among i (i ∷ [])) (and_parts (code l == from) (is_among i left) p).0 (or_left (i == i) false (eq-eqb i i refl)))
    ]

pub looked-quiet : (b : Bool) (c : List Lit) (t : List Entry) (units : List ℕ) (i : ℕ) (w : Watched) → IsLooked b c t units i w → b ≡ true → is_quiet t [] units i w ≡ true
looked-quiet true c t units i w h e = h
looked-quiet false c t units i w h e = absurd cc

pub looked-false : (b : Bool) (c d : List Lit) (t : List Entry) (units : List ℕ) (i : ℕ) (w : Watched) → IsLooked b c t units i w → b ≡ false → c ≡ d → is_false t d ≡ true
looked-false false c d t units i w h e q = subst (λ (z : List Lit). is_false t z ≡ true) q h
looked-false true c d t units i w h e q = absurd cc

pub look-unit : (k : ClauseStatus) (l : Lit) (c d : List Lit) (t : List Entry) (w : Watched) → IsLook k c t w → k ≡ OfUnit l → c ≡ d → (is_unit t d l ≡ true) × (is_open t w ≡ true)
look-unit k l c d t w h e q = subst (λ (z : List Lit). (is_unit t z l ≡ true) × (is_open t w ≡ true)) q (subst (λ (z : ClauseStatus). IsLook z c t w) e h)

pub look-rest : (k : ClauseStatus) (c : List Lit) (t : List Entry) (w : Watched) → IsLook k c t w → k ≡ Open → rests t w ≡ true
look-rest k c t w h e = subst (λ (z : ClauseStatus). IsLook z c t w) e h

pub look-false : (k : ClauseStatus) (c d : List Lit) (t : List Entry) (w : Watched) → IsLook k c t w → k ≡ False → c ≡ d → is_false t d ≡ true
look-false k c d t w h e q = subst (λ (z : List Lit). is_false t z ≡ true) q (subst (λ (z : ClauseStatus). IsLook z c t w) e h)
