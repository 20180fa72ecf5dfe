use Rattle.std.proofs.Common.{◌≡◌, ◌≢◌, ℕ, ◌<◌, ◌≤◌, Bool, true, ◌||◌, ◌&&◌, ◌==◌, ◌⊎◌, inl, inr, List, [], ◌∷◌, ◌++◌, length, get_or, refl, sym, ◌∙◌, ap, subst, arith}
use Rattle.std.proofs.lemmas.Bool.{and_parts, and_from, or_cases, or_left, or_right, cases_eq, eqb-true}
use Rattle.proof_lines.specs.declared.clause.Lit.{Lit}
use Rattle.sat_core.specs.declared.trail.Entry.{Entry}
use Rattle.sat_core.specs.Trails.{NoneFalse}
use Rattle.sat_core.specs.declared.state.SearchState.{SearchState}
use Rattle.sat_core.specs.Searching.{IsBackjump}
use Rattle.sat_core.specs.Outcomes.{IsStay}
use Rattle.sat_core.proofs.Backjumps.{before-trans}
use Rattle.unit_propagation.specs.declared.looking.Watched.{Watched}
use Rattle.unit_propagation.specs.declared.watches.Watches.{Watches}
use Rattle.unit_propagation.specs.Watches.{is_among, list_at, code, rests, is_open, pair_at, is_listed, is_quiet, Keeps, IsKept, AreKept, AllKept, AreWatched, AllWatched, AreAtRest, IsResumed, IsMoved}
use Rattle.unit_propagation.proofs.Among.{other_among, pushed_among, in_its_list}
use Rattle.unit_propagation.proofs.Following.{moved_kept, moved_quiet, visited_watched}

-- What a step changes of what is watched.

-- one clause is taken from those that may be unit, and looked at
pub considered_kept : (cs : List (List Lit)) (t : List Entry) (i : ℕ) (w v u : Watches) → AllKept cs t w → v.pairs.items ≡ w.pairs.items → v.lists.items ≡ w.lists.items → IsMoved i v u → length u.pairs.items ≡ length v.pairs.items
    → (i < length cs → IsKept (get_or cs i []) t 0 [] u.lists.items i (pair_at u.pairs.items i)) → AllKept cs t u
considered_kept cs t i w v u a p s m e h = record { many = e ∙ (ap (λ (z : List Watched). length z) p ∙ a.many); each = λ k l. by_number k l (cases_eq k i) }
  where
    popped : (k : ℕ) → k < length cs → IsKept (get_or cs k []) t 0 [] v.lists.items k (pair_at v.pairs.items k)
    popped k l =
        subst (λ (z : List Watched). IsKept (get_or cs k []) t 0 [] v.lists.items k (pair_at z k)) (sym p)
        (subst (λ (z : List (List ℕ)). IsKept (get_or cs k []) t 0 [] z k (pair_at w.pairs.items k)) (sym s) (a.each k l))

    by_number : (k : ℕ) → k < length cs → (k ≡ i) ⊎ (k ≢ i) → IsKept (get_or cs k []) t 0 [] u.lists.items k (pair_at u.pairs.items k)
    by_number k l (inl r) = subst (λ (z : ℕ). IsKept (get_or cs z []) t 0 [] u.lists.items z (pair_at u.pairs.items z)) (sym r) (h (subst (λ (z : ℕ). z < length cs) r l))
    by_number k l (inr d) = moved_kept (get_or cs k []) t 0 [] [] i k v u m d (λ x. x) (popped k l)

-- the others are as quiet as they were
pub considered_quiet : (cs : List (List Lit)) (t : List Entry) (i : ℕ) (w v u : Watches) → AllWatched cs t w → v.pairs.items ≡ w.pairs.items → w.units ≡ v.units ++ i ∷ [] → IsMoved i v u → (k : ℕ) → k < length cs → k ≢ i → is_quiet t [] u.units k (pair_at u.pairs.items k) ≡ true
considered_quiet cs t i w v u a p q m k l d = moved_quiet t [] [] i k v u m d (λ x. x)
    (subst (λ (z : List Watched). is_quiet t [] v.units k (pair_at z k) ≡ true) (sym p)
    (popped (rests t (pair_at w.pairs.items k)) (is_open t (pair_at w.pairs.items k)) (subst (λ (z : List ℕ). (rests t (pair_at w.pairs.items k) || (is_open t (pair_at w.pairs.items k) && is_among k z)) ≡ true) q (a.quiet k l))))
  where
    popped : (r o : Bool) → (r || (o && is_among k (v.units ++ i ∷ []))) ≡ true → (r || (o && is_among k v.units)) ≡ true
    popped r o h = (λ j. r || (o && sym (other_among k v.units i d) j)) ∙ h

-- it is at rest
pub considered_rest : (cs : List (List Lit)) (t : List Entry) (i : ℕ) (w v u : Watches) → AllWatched cs t w → v.pairs.items ≡ w.pairs.items → v.lists.items ≡ w.lists.items → w.units ≡ v.units ++ i ∷ [] → IsMoved i v u → length u.pairs.items ≡ length v.pairs.items
    → (i < length cs → IsKept (get_or cs i []) t 0 [] u.lists.items i (pair_at u.pairs.items i)) → (i < length cs → rests t (pair_at u.pairs.items i) ≡ true) → AllWatched cs t u
considered_rest cs t i w v u a p s q m e h r = record { kept = considered_kept cs t i w v u a.kept p s m e h; quiet = λ k l. by_number k l (cases_eq k i) }
  where
    by_number : (k : ℕ) → k < length cs → (k ≡ i) ⊎ (k ≢ i) → is_quiet t [] u.units k (pair_at u.pairs.items k) ≡ true
    by_number k l (inl y) = subst (λ (z : ℕ). is_quiet t [] u.units z (pair_at u.pairs.items z) ≡ true) (sym y) (or_left (rests t (pair_at u.pairs.items i)) _ (r (subst (λ (z : ℕ). z < length cs) y l)))
    by_number k l (inr d) = considered_quiet cs t i w v u a p q m k l d

-- it is unit, and noted again
pub considered_unit : (cs : List (List Lit)) (t : List Entry) (i : ℕ) (w v u x : Watches) → AllWatched cs t w → v.pairs.items ≡ w.pairs.items → v.lists.items ≡ w.lists.items → w.units ≡ v.units ++ i ∷ [] → IsMoved i v u → length u.pairs.items ≡ length v.pairs.items → u.units ≡ v.units
    → (i < length cs → IsKept (get_or cs i []) t 0 [] u.lists.items i (pair_at u.pairs.items i)) → (i < length cs → is_open t (pair_at u.pairs.items i) ≡ true) → x.pairs.items ≡ u.pairs.items → x.lists.items ≡ u.lists.items → x.units ≡ u.units ++ i ∷ [] → AllWatched cs t x
considered_unit cs t i w v u x a p s q m e n h o xp xl xu = record {
  kept = record {
    many = ap (λ (z : List Watched). length z) xp ∙ before.many;
    each = λ k l. subst (λ (z : List Watched). IsKept (get_or cs k []) t 0 [] x.lists.items k (pair_at z k)) (sym xp) (subst (λ (z : List (List ℕ)). IsKept (get_or cs k []) t 0 [] z k (pair_at u.pairs.items k)) (sym xl) (before.each k l));
  };
  quiet = λ k l. subst (λ (z : List Watched). is_quiet t [] x.units k (pair_at z k) ≡ true) (sym xp) (subst (λ (z : List ℕ). is_quiet t [] z k (pair_at u.pairs.items k) ≡ true) (sym xu) (by_number k l (cases_eq k i)));
}
  where
    before : AllKept cs t u
    before = considered_kept cs t i w v u a.kept p s m e h

    more : (k : ℕ) → k ≢ i → (r b : Bool) → (r || (b && is_among k u.units)) ≡ true → (r || (b && is_among k (u.units ++ i ∷ []))) ≡ true
    more k d r b h = (λ j. r || (b && other_among k u.units i d j)) ∙ h

    by_number : (k : ℕ) → k < length cs → (k ≡ i) ⊎ (k ≢ i) → is_quiet t [] (u.units ++ i ∷ []) k (pair_at u.pairs.items k) ≡ true
    by_number k l (inl y) = subst (λ (z : ℕ). is_quiet t [] (u.units ++ i ∷ []) z (pair_at u.pairs.items z) ≡ true) (sym y)
        (or_right (rests t (pair_at u.pairs.items i)) _ (and_from (is_open t (pair_at u.pairs.items i)) (is_among i (u.units ++ i ∷ [])) (o (subst (λ (z : ℕ). z < length cs) y l)) (pushed_among u.units i)))
    by_number k l (inr d) = more k d (rests t (pair_at u.pairs.items k)) (is_open t (pair_at u.pairs.items k)) (considered_quiet cs t i w v u a p q m k l d)

-- clauses that were left are in the list of the literal that they watched
pub put_back_one : (n : ℕ) (cs : List (List Lit)) (t : List Entry) (from : ℕ) (left : List ℕ) (i : ℕ) (w u : Watches) → AreKept n cs t from (left ++ i ∷ []) w → u.pairs.items ≡ w.pairs.items → Keeps w.lists.items u.lists.items → is_among i (list_at u.lists.items from) ≡ true → AreKept n cs t from left u
put_back_one n cs t from left i w u a p f h = record {
  many = ap (λ (z : List Watched). length z) p ∙ a.many;
  each = λ k l. subst (λ (z : List Watched). IsKept (get_or cs k []) t from left u.lists.items k (pair_at z k)) (sym p) (let x = a.each k l in record {
    has_first = x.has_first;
    has_second = x.has_second;
    first_listed = listed k (pair_at w.pairs.items k).first x.first_listed;
    second_listed = listed k (pair_at w.pairs.items k).second x.second_listed;
    steady = x.steady;
  });
}
  where
    listed : (k : ℕ) (l : Lit) → is_listed w.lists.items from (left ++ i ∷ []) k l ≡ true → is_listed u.lists.items from left k l ≡ true
    listed k l g = elim (or_cases (is_among k (list_at w.lists.items (code l))) _ g) [
      | inl y ↦ or_left (is_among k (list_at u.lists.items (code l))) _ (f (code l) k y)
      | inr y ↦ (let b = and_parts (code l == from) (is_among k (left ++ i ∷ [])) y in by_number b.0 b.1 (cases_eq k i))
    ]
      where
        by_number : (code l == from) ≡ true → is_among k (left ++ i ∷ []) ≡ true → (k ≡ i) ⊎ (k ≢ i) → is_listed u.lists.items from left k l ≡ true
        by_number c m (inl e) = or_left (is_among k (list_at u.lists.items (code l))) _ (subst (λ (z : ℕ). is_among z (list_at u.lists.items (code l)) ≡ true) (sym e) (subst (λ (z : ℕ). is_among i (list_at u.lists.items z) ≡ true) (sym (eqb-true (code l) from c)) h))
        by_number c m (inr d) = or_right (is_among k (list_at u.lists.items (code l))) _ (and_from (code l == from) (is_among k left) c (sym (other_among k left i d) ∙ m))

-- none is left
pub none_left : (n : ℕ) (cs : List (List Lit)) (t : List Entry) (from : ℕ) (left : List ℕ) (w : Watches) → left ≡ [] → AreKept n cs t from left w → AreKept n cs t 0 [] w
none_left n cs t from left w e a = record {
  many = a.many;
  each = λ k l. (let x = a.each k l in record {
    has_first = x.has_first;
    has_second = x.has_second;
    first_listed = listed k (pair_at w.pairs.items k).first x.first_listed;
    second_listed = listed k (pair_at w.pairs.items k).second x.second_listed;
    steady = x.steady;
  });
}
  where
    listed : (k : ℕ) (l : Lit) → is_listed w.lists.items from left k l ≡ true → is_listed w.lists.items 0 [] k l ≡ true
    listed k l h = or_left (is_among k (list_at w.lists.items (code l))) _ (in_its_list _ _ (subst (λ (z : List ℕ). is_listed w.lists.items from z k l ≡ true) e h))

pub none_left_watched : (n : ℕ) (cs : List (List Lit)) (t : List Entry) (from : ℕ) (left : List ℕ) (w : Watches) → left ≡ [] → AreWatched n cs t from left w → AreWatched n cs t 0 [] w
none_left_watched n cs t from left w e a = record {
  kept = none_left n cs t from left w e a.kept;
  quiet = λ k l. subst (λ (z : List ℕ). is_quiet t z w.units k (pair_at w.pairs.items k) ≡ true) e (a.quiet k l);
}

-- A NUMBER OF NO CLAUSE.

unmoved : (i : ℕ) (w : Watches) → IsMoved i w w
unmoved i w = record { others = λ k d. refl; lists = λ k n h. h; units = λ n h. h }

-- it isn't among those that may be unit any more
pub dropped_unit : (cs : List (List Lit)) (t : List Entry) (i : ℕ) (w v : Watches) → AllWatched cs t w → v.pairs.items ≡ w.pairs.items → v.lists.items ≡ w.lists.items → w.units ≡ v.units ++ i ∷ [] → length cs ≤ i → AllWatched cs t v
dropped_unit cs t i w v a p s q b = considered_rest cs t i w v v a p s q (unmoved i v) refl (λ l. absurd (omega (arith, b, l))) (λ l. absurd (omega (arith, b, l)))

-- it isn't among those that are left
pub dropped_left : (n : ℕ) (cs : List (List Lit)) (t : List Entry) (from : ℕ) (left : List ℕ) (i : ℕ) (w : Watches) → AreWatched n cs t from (left ++ i ∷ []) w → n ≤ i → AreWatched n cs t from left w
dropped_left n cs t from left i w a b = visited_watched n cs t from left i w w a (unmoved i w) refl (λ l. absurd (omega (arith, b, l))) (λ l. absurd (omega (arith, b, l)))

-- AFTER A BACKJUMP.

-- what was kept is at rest
pub jumped : (cs : List (List Lit)) (t : List Entry) (ds : List (List Lit)) (u : List Entry) (w : Watches) → AllKept cs t w → IsBackjump cs t ds u → IsResumed ds u w
jumped cs t ds u w a b = record {
  kept = record {
    many = refl;
    each = λ k l. (let l2 = subst (λ (n : ℕ). k < n) a.many l in let x = a.each k l2 in
        subst (λ (c : List Lit). IsKept c u 0 [] w.lists.items k (pair_at w.pairs.items k)) (sym (b.grows.same k l2)) (record {
          has_first = x.has_first;
          has_second = x.has_second;
          first_listed = x.first_listed;
          second_listed = x.second_listed;
          steady = λ v y. x.steady v (before-trans v u t y b.shorter);
        }));
  };
  rest = λ k l. (a.each k (subst (λ (n : ℕ). k < n) a.many l)).steady u b.shorter;
  many = subst (λ (n : ℕ). n ≤ length ds) (sym a.many) b.grows.long;
  none_false = b.none_false;
  wide = λ d k g l. b.wide d k (subst (λ (n : ℕ). n ≤ k) a.many g) l;
}

-- where nothing was cut, all are at rest as they were
pub stayed : (s r : SearchState) (w : Watches) → AllKept s.grown.clauses s.trail w → AreAtRest (length s.grown.clauses) s.trail w → NoneFalse s.trail s.grown.clauses → IsStay s r → IsResumed r.grown.clauses r.trail w
stayed s r w a k n (inl e) = subst (λ (z : List Entry). IsResumed r.grown.clauses z w) (sym e.0) (subst (λ (z : List (List Lit)). IsResumed z s.trail w) (sym e.1) (record {
  kept = record { many = refl; each = λ k l. a.each k (subst (λ (m : ℕ). k < m) a.many l) };
  rest = λ i l. k i (subst (λ (m : ℕ). i < m) a.many l);
  many = (let e = a.many in omega (arith, e));
  none_false = n;
  wide = λ d k g l. absurd (let e = a.many in omega (arith, e));
}))
stayed s r w a k n (inr b) = jumped s.grown.clauses s.trail r.grown.clauses r.trail w a b

-- nothing is watched yet
pub resumed_first : (cs : List (List Lit)) (w : Watches) → w.pairs.items ≡ [] → NoneFalse [] cs → IsResumed cs [] w
resumed_first cs w e n = record {
  kept = record { many = refl; each = λ k l. absurd (let z = subst (λ (y : List Watched). k < length y) e l in omega (arith, z)) };
  rest = λ k l. absurd (let z = subst (λ (y : List Watched). k < length y) e l in omega (arith, z));
  many = (let z = ap (λ (y : List Watched). length y) e in omega (arith, z));
  none_false = n;
  wide = λ d k g l. absurd cc;
}

-- the clauses that watch, before the others do
pub resumed_watched : (cs : List (List Lit)) (t : List Entry) (w u : Watches) → IsResumed cs t w → u.pairs.items ≡ w.pairs.items → u.lists.items ≡ w.lists.items → AreWatched (length w.pairs.items) cs t 0 [] u
resumed_watched cs t w u r p s = record {
  kept = record {
    many = ap (λ (y : List Watched). length y) p;
    each = λ k l. subst (λ (z : List Watched). IsKept (get_or cs k []) t 0 [] u.lists.items k (pair_at z k)) (sym p) (subst (λ (z : List (List ℕ)). IsKept (get_or cs k []) t 0 [] z k (pair_at w.pairs.items k)) (sym s) (r.kept.each k l));
  };
  quiet = λ k l. subst (λ (z : List Watched). is_quiet t [] u.units k (pair_at z k) ≡ true) (sym p) (or_left (rests t (pair_at w.pairs.items k)) _ (r.rest k l));
}
