use Rattle.std.proofs.Common.{◌≡◌, ℕ, zero, suc, ◌+◌, ◌<◌, ◌≤◌, ◌≢◌, Bool, true, false, not, cond, ◌&&◌, ◌||◌, ◌⊎◌, inl, inr, List, [], ◌∷◌, ◌++◌, length, get_or, refl, sym, ◌∙◌, ap, subst, arith, Option, Some, None, length-append}
use Rattle.std.specs.Prelude.{is_none, nat_le}
use Rattle.std.proofs.lemmas.Bool.Decides.{nat_tests}
use Rattle.proof_lines.specs.declared.clause.Lit.{Lit}
use Rattle.proof_lines.specs.Clauses.{has, sub, distinct, same_lit, flip, lit_of}
use Rattle.std.proofs.lemmas.Bool.{and_parts, cases_eq, cases_lt, not-true, not_from_false, not_from_true}
use Rattle.proof_lines.proofs.Sets.{has-resolvent, resolvent-left, resolvent-right, distinct-resolvent}
use Rattle.sat_core.specs.declared.trail.Entry.{Entry}
use Rattle.sat_core.specs.Trails.{is_assigned, is_false, others_false, is_unit, quiet, NoneFalse, open_in, after, before_last, is_decision, has_decision, IsStep, IsTrail, older, IsCalm, is_done, from_last}
use Rattle.sat_core.specs.SearchLogs.{resolve_line, resolved_on, IsNext}
use Rattle.sat_core.specs.Fresh.{IsFresh}
use Rattle.sat_core.specs.Chains.{Grows, Added, Analyzing, Cutting}
use Rattle.sat_core.proofs.Trails.{false-more, false-older, held-open, open_zero, zero-open, open-quiet, open-before, starts-open, settled-before, trail-before, top-reason, resolved-false, resolved-open, within-false, false-one_way}

-- one clause more
pub at_old : (cs : List (List Lit)) (d : List Lit) (k : ℕ) → k < length cs → get_or (cs ++ d ∷ []) k [] ≡ get_or cs k []
at_old [] d k h = absurd (omega arith)
at_old (c ∷ cs) d zero h = refl
at_old (c ∷ cs) d (suc k) h = at_old cs d k (omega arith)

pub at_new : (cs : List (List Lit)) (d : List Lit) → get_or (cs ++ d ∷ []) (length cs) [] ≡ d
at_new [] d = refl
at_new (c ∷ cs) d = at_new cs d

pub longer : (cs : List (List Lit)) (d : List Lit) → length (cs ++ d ∷ []) ≡ length cs + 1
longer cs d = length-append cs (d ∷ [])

pub old_or_new : (cs : List (List Lit)) (d : List Lit) (k : ℕ) → k < length (cs ++ d ∷ []) → (k < length cs) ⊎ (k ≡ length cs)
old_or_new cs d k h = let e = longer cs d in by_order k (length cs) (omega arith)
  where
    by_order : (a b : ℕ) → a < b + 1 → (a < b) ⊎ (a ≡ b)
    by_order a b h = grind arith

pub grows-refl : (cs : List (List Lit)) → Grows cs cs
grows-refl cs = record { long = omega arith; same = λ k h. refl }

pub grows-push : (start cs : List (List Lit)) (d : List Lit) → Grows start cs → Grows start (cs ++ d ∷ [])
grows-push start cs d g = let e = longer cs d in let l = g.long in record { long = omega arith; same = λ k h. at_old cs d k (omega arith) ∙ g.same k h }

-- the trail is one for all clauses
pub grow_trail : (start cs : List (List Lit)) (t : List Entry) → Grows start cs → ((k : ℕ) → length start ≤ k → k < length cs → Added t (get_or cs k [])) → IsTrail start t → IsTrail cs t
grow_trail start cs [] g a w = tt
grow_trail start cs (e ∷ t) g a w = (w.0, grow_step e.reason refl w.1, grow_trail start cs t g (λ k l h. below_it k l h) w.2)
  where
    below_it : (k : ℕ) → length start ≤ k → k < length cs → Added t (get_or cs k [])
    below_it k l h = record { set = (a k l h).set; two = λ d. by_case e.reason (a k l h).two d }
      where
        by_case : (r : Option ℕ) → ((is_decision (record { lit = e.lit; reason = r }) || has_decision t) ≡ true → 2 ≤ open_in (after r t (before_last t)) (get_or cs k [])) → has_decision t ≡ true → 2 ≤ open_in (before_last t) (get_or cs k [])
        by_case None f d = let x = f refl in let y = open-before t (get_or cs k []) in omega arith
        by_case (Some r) f d = f d

    grow_step : (r : Option ℕ) → e.reason ≡ r → IsStep start t e.lit r → IsStep cs t e.lit r
    grow_step (Some r) q s = let l = g.long in (omega arith, subst (λ (c : List Lit). is_unit t c e.lit ≡ true) (sym (g.same r s.0)) s.1)
    grow_step None q s = λ k h. by_place k h (cases_lt k (length start))
      where
        by_place : (k : ℕ) → k < length cs → (k < length start) ⊎ (length start ≤ k) → quiet t (get_or cs k []) ≡ true
        by_place k h (inl x) = subst (λ (c : List Lit). quiet t c ≡ true) (sym (g.same k x)) (s k x)
        by_place k h (inr x) = open-quiet t (get_or cs k []) (a k x h).set (with_none (a k x h).two)
          where
            with_none : (has_decision (e ∷ t) ≡ true → 2 ≤ open_in (before_last (e ∷ t)) (get_or cs k [])) → 2 ≤ open_in t (get_or cs k [])
            with_none f = at_none e.reason q f
              where
                at_none : (r : Option ℕ) → r ≡ None → ((is_decision (record { lit = e.lit; reason = r }) || has_decision t) ≡ true → 2 ≤ open_in (after r t (before_last t)) (get_or cs k [])) → 2 ≤ open_in t (get_or cs k [])
                at_none None q f = f refl
                at_none (Some r) q f = absurd cc

-- the clause that a literal's reason gives
pub members : (l : Lit) (r c : List Lit) (x : Lit) → has (resolved_on l r c) x ≡ true → ((has c x ≡ true) × (same_lit x (flip l) ≡ false)) ⊎ ((has r x ≡ true) × (same_lit x l ≡ false))
members l r c x h = by_sign l.atom l.positive h
  where
    turned : {A B : Type 0} → A ⊎ B → B ⊎ A
    turned (inl a) = inr a
    turned (inr b) = inl b

    by_sign : (a : ℕ) (p : Bool) → has (resolved_on (lit_of a p) r c) x ≡ true → ((has c x ≡ true) × (same_lit x (flip (lit_of a p)) ≡ false)) ⊎ ((has r x ≡ true) × (same_lit x (lit_of a p) ≡ false))
    by_sign a true h = turned (has-resolvent a r c x h)
    by_sign a false h = has-resolvent a c r x h

keeps : (l : Lit) (r c : List Lit) (x : Lit) → has c x ≡ true → same_lit x (flip l) ≡ false → has (resolved_on l r c) x ≡ true
keeps l r c x h n = by_sign l.atom l.positive n
  where
    by_sign : (a : ℕ) (p : Bool) → same_lit x (flip (lit_of a p)) ≡ false → has (resolved_on (lit_of a p) r c) x ≡ true
    by_sign a true n = resolvent-right a r c x h n
    by_sign a false n = resolvent-left a c r x h n

keeps_distinct : (l : Lit) (r c : List Lit) → distinct r ≡ true → distinct c ≡ true → distinct (resolved_on l r c) ≡ true
keeps_distinct l r c d e = by_sign l.atom l.positive
  where
    by_sign : (a : ℕ) (p : Bool) → distinct (resolved_on (lit_of a p) r c) ≡ true
    by_sign a true = distinct-resolvent a r c d
    by_sign a false = distinct-resolvent a c r e

turn_false : (P Q : Bool) → (P ≡ true → Q ≡ true) → Q ≡ false → P ≡ false
turn_false true Q f q = absurd (let k = f refl in cc)
turn_false false Q f q = refl

pub false-older_than : (t : List Entry) (c : List Lit) → is_false t c ≡ false → is_false (older t) c ≡ false
false-older_than [] c h = h
false-older_than (e ∷ t) c h = turn_false (is_false t c) (is_false (e ∷ t) c) (false-more e t c) h

pub false-before : (t : List Entry) (c : List Lit) → is_false (before_last t) c ≡ true → is_false t c ≡ true
false-before t c h = zero-open t c (let z = open_zero (before_last t) c h in let m = open-before t c in omega arith)

pub none-before : (t : List Entry) (cs : List (List Lit)) → NoneFalse t cs → NoneFalse (before_last t) cs
none-before t cs h = λ k l. turn_false (is_false (before_last t) (get_or cs k [])) (is_false t (get_or cs k [])) (false-before t (get_or cs k [])) (h k l)

pub begin_chain : (cs : List (List Lit)) (t : List Entry) (i : ℕ) → i < length cs → is_false t (get_or cs i []) ≡ true → distinct (get_or cs i []) ≡ true → IsTrail cs t → IsCalm cs t → Analyzing cs t cs t i
begin_chain cs t i l f d w n = record {
  there = l;
  false_now = f;
  trail = w;
  grows = grows-refl cs;
  others = λ k h e. n k h;
  added = λ k a b e. absurd (omega arith);
  set = d;
  decided = λ h. (let x = starts-open cs t (get_or cs i []) w f (settled-before cs t w h i l) in omega arith);
  same_has = refl;
  same_before = refl;
  same_last = λ c h. refl;
}

-- a literal whose negation the clause doesn't hold goes
pub pop_step : (start : List (List Lit)) (t0 : List Entry) (cs : List (List Lit)) (e : Entry) (t : List Entry) (i : ℕ) → Analyzing start t0 cs (e ∷ t) i → has (get_or cs i []) (flip e.lit) ≡ false → Analyzing start t0 cs t i
pop_step start t0 cs e t i x n = by_reason e.reason refl
  where
    f : is_false t (get_or cs i []) ≡ true
    f = false-older e t (get_or cs i []) x.false_now n

    by_reason : (r : Option ℕ) → e.reason ≡ r → Analyzing start t0 cs t i
    by_reason None q = absurd (
        let h : has_decision (e ∷ t) ≡ true = ap (λ r. is_none r || has_decision t) q in
        let b : before_last (e ∷ t) ≡ t = ap (λ r. after r t (before_last t)) q in
        let d = x.decided h in
        let z : open_in (before_last (e ∷ t)) (get_or cs i []) ≡ 0 = ap (λ s. open_in s (get_or cs i [])) b ∙ open_zero t (get_or cs i []) f in omega arith)
    by_reason (Some r) q =
        let h : has_decision (e ∷ t) ≡ has_decision t = ap (λ r. is_none r || has_decision t) q in
        let b : before_last (e ∷ t) ≡ before_last t = ap (λ r. after r t (before_last t)) q in
        record {
          there = x.there;
          false_now = f;
          trail = x.trail.2;
          grows = x.grows;
          others = λ k l e. false-older_than t (get_or cs k []) (x.others k l e);
          added = λ k a l e. record { set = (x.added k a l e).set; two = λ d. subst (λ (s : List Entry). 2 ≤ open_in s (get_or cs k [])) b ((x.added k a l e).two (h ∙ d)) };
          set = x.set;
          decided = λ d. subst (λ (s : List Entry). 1 ≤ open_in s (get_or cs i [])) b (x.decided (h ∙ d));
          same_has = x.same_has ∙ h;
          same_before = x.same_before ∙ b;
          same_last = λ c g. x.same_last c (false-more e t c g) ∙ ap (λ b. cond b (e ∷ t) (from_last t c)) (unheld c g);
        }
      where
        unheld : (c : List Lit) → is_false t c ≡ true → has c (flip e.lit) ≡ false
        unheld c g = turn_false (has c (flip e.lit)) (not (is_false t c)) (λ h. not_from_false (is_false t c) (held-open e t c x.trail.0 h)) (not_from_true (is_false t c) g)

-- what a chain that isn't done has
pub two_left : (t : List Entry) (c : List Lit) → is_done t c ≡ false → has_decision t ≡ true → 2 ≤ open_in (before_last t) c
two_left t c n h = above (open_in (before_last t) c) (ap (λ b. cond b (nat_le (open_in (before_last t) c) 1) (nat_le (length c) 0)) (sym h) ∙ n)
  where
    above : (m : ℕ) → nat_le m 1 ≡ false → 2 ≤ m
    above m h = grind (arith, nat_tests)

-- no clause is false before the literal that is resolved on
pub none_here : (start : List (List Lit)) (t0 : List Entry) (cs : List (List Lit)) (e : Entry) (t : List Entry) (i : ℕ) → Analyzing start t0 cs (e ∷ t) i → has (get_or cs i []) (flip e.lit) ≡ true → NoneFalse t cs
none_here start t0 cs e t i x h = λ k l. by_case k l (cases_eq k i)
  where
    by_case : (k : ℕ) → k < length cs → (k ≡ i) ⊎ (k ≢ i) → is_false t (get_or cs k []) ≡ false
    by_case k l (inl q) = subst (λ (j : ℕ). is_false t (get_or cs j []) ≡ false) (sym q) (held-open e t (get_or cs i []) x.trail.0 h)
    by_case k l (inr q) = x.others k l q

-- the reason at the top
pub record Top (start : List (List Lit)) (e : Entry) (t : List Entry) : Type 0 where
  pub reason : ℕ
  pub is : e.reason ≡ Some reason
  pub reason_there : reason < length start
  pub unit : is_unit t (get_or start reason []) e.lit ≡ true

pub top_of : (start : List (List Lit)) (t0 : List Entry) (cs : List (List Lit)) (e : Entry) (t : List Entry) (i : ℕ) → Analyzing start t0 cs (e ∷ t) i → is_done (e ∷ t) (get_or cs i []) ≡ false → Top start e t
top_of start t0 cs e t i x n =
    let r = top-reason e t (get_or cs i []) x.set x.false_now (λ h. two_left (e ∷ t) (get_or cs i []) n h) in
    let s = subst (λ (q : Option ℕ). IsStep start t e.lit q) r.1 x.trail.1 in
    record { reason = r.0; is = r.1; reason_there = s.0; unit = s.1 }

module _ (start : List (List Lit)) (t0 : List Entry) (cs : List (List Lit)) (e : Entry) (t : List Entry) (i : ℕ) (x : Analyzing start t0 cs (e ∷ t) i) (h : has (get_or cs i []) (flip e.lit) ≡ true) (n : is_done (e ∷ t) (get_or cs i []) ≡ false) (p : Top start e t) (set : distinct (get_or start p.reason []) ≡ true) where
  abbrev pub gives : List Lit
  gives = resolved_on e.lit (get_or start p.reason []) (get_or cs i [])

  unit_others : others_false t (get_or start p.reason []) e.lit ≡ true
  unit_others = (and_parts (others_false t (get_or start p.reason []) e.lit) (not (is_assigned t e.lit.atom)) (and_parts (has (get_or start p.reason []) e.lit) (others_false t (get_or start p.reason []) e.lit && not (is_assigned t e.lit.atom)) p.unit).1).0

  same_has : has_decision (e ∷ t) ≡ has_decision t
  same_has = ap (λ r. is_none r || has_decision t) p.is

  same_before : before_last (e ∷ t) ≡ before_last t
  same_before = ap (λ r. after r t (before_last t)) p.is

  pub given_false : is_false t gives ≡ true
  given_false = resolved-false e t (get_or cs i []) (get_or start p.reason []) gives x.false_now unit_others (members e.lit (get_or start p.reason []) (get_or cs i []))

  pub given_distinct : distinct gives ≡ true
  given_distinct = keeps_distinct e.lit (get_or start p.reason []) (get_or cs i []) set x.set

  given_open : has_decision t ≡ true → 1 ≤ open_in (before_last t) gives
  given_open d = positive (open_in (before_last t) gives) refl
    where
      two : 2 ≤ open_in (before_last t) (get_or cs i [])
      two = subst (λ (s : List Entry). 2 ≤ open_in s (get_or cs i [])) same_before (two_left (e ∷ t) (get_or cs i []) n (same_has ∙ d))

      positive : (m : ℕ) → open_in (before_last t) gives ≡ m → 1 ≤ m
      positive zero z = absurd (let f = zero-open (before_last t) gives z in let g = resolved-open e t (get_or cs i []) gives (before_last t) x.set two (keeps e.lit (get_or start p.reason []) (get_or cs i [])) in cc)
      positive (suc m) z = omega arith

  kept_two : (k : ℕ) → length start ≤ k → k < length cs → Added t (get_or cs k [])
  kept_two k a l = by_case (cases_eq k i)
    where
      by_case : (k ≡ i) ⊎ (k ≢ i) → Added t (get_or cs k [])
      by_case (inl q) = subst (λ (j : ℕ). Added t (get_or cs j [])) (sym q) (record { set = x.set; two = λ d. subst (λ (s : List Entry). 2 ≤ open_in s (get_or cs i [])) same_before (two_left (e ∷ t) (get_or cs i []) n (same_has ∙ d)) })
      by_case (inr q) = record { set = (x.added k a l q).set; two = λ d. subst (λ (s : List Entry). 2 ≤ open_in s (get_or cs k [])) same_before ((x.added k a l q).two (same_has ∙ d)) }

  unheld : (c : List Lit) → is_false t c ≡ true → has c (flip e.lit) ≡ false
  unheld c g = by_case (has c (flip e.lit)) refl
    where
      by_case : (b : Bool) → has c (flip e.lit) ≡ b → b ≡ false
      by_case true k = absurd (let m = held-open e t c x.trail.0 k in cc)
      by_case false k = refl

  -- the next clause of the chain
  pub resolve_step : Analyzing start t0 (cs ++ gives ∷ []) t (length cs)
  resolve_step =
      let is_new = at_new cs gives in
      let len = longer cs gives in
      record {
        there = omega arith;
        false_now = subst (λ (c : List Lit). is_false t c ≡ true) (sym is_new) given_false;
        trail = x.trail.2;
        grows = grows-push start cs gives x.grows;
        others = λ k l q. elim (old_or_new cs gives k l) [
          | inl m ↦ subst (λ (c : List Lit). is_false (older t) c ≡ false) (sym (at_old cs gives k m)) (false-older_than t (get_or cs k []) (none_here start t0 cs e t i x h k m))
          | inr m ↦ absurd (q m)
        ];
        added = λ k a l q. elim (old_or_new cs gives k l) [
          | inl m ↦ subst (λ (c : List Lit). Added t c) (sym (at_old cs gives k m)) (kept_two k a m)
          | inr m ↦ absurd (q m)
        ];
        set = subst (λ (c : List Lit). distinct c ≡ true) (sym is_new) given_distinct;
        decided = λ d. subst (λ (c : List Lit). 1 ≤ open_in (before_last t) c) (sym is_new) (given_open d);
        same_has = x.same_has ∙ same_has;
        same_before = x.same_before ∙ same_before;
        same_last = λ c g. x.same_last c (false-more e t c g) ∙ ap (λ b. cond b (e ∷ t) (from_last t c)) (unheld c g);
      }

  -- the line is the next of a search log
  pub is_next : IsNext start t0 cs (get_or cs i []) (resolve_line e.lit p.reason i) gives
  is_next = record {
    entry = e;
    rest = t;
    last = x.same_last (get_or cs i []) x.false_now ∙ ap (λ b. cond b (e ∷ t) (from_last t (get_or cs i []))) h;
    reason = p.reason;
    reason_there = p.reason_there;
    reason_unit = p.unit;
    place = i;
    place_there = x.there;
    place_is = refl;
    line_is = refl;
    gives_is = refl;
  }

  -- the clause is new, and holds no atom both ways
  pub is_fresh : (first : ℕ) → IsFresh first cs → IsFresh first (cs ++ gives ∷ [])
  is_fresh first f = record {
    new = λ k a l j b. elim (old_or_new cs gives k l) [
      | inl m ↦ subst (λ (c : List Lit). sub (get_or (cs ++ gives ∷ []) j []) c ≡ false) (sym (at_old cs gives k m)) (subst (λ (c : List Lit). sub c (get_or cs k []) ≡ false) (sym (at_old cs gives j (omega arith))) (f.new k a m j b))
      | inr m ↦ (let g : j < length cs = omega arith in
          subst (λ (q : ℕ). sub (get_or (cs ++ gives ∷ []) j []) (get_or (cs ++ gives ∷ []) q []) ≡ false) (sym m)
          (subst (λ (c : List Lit). sub (get_or (cs ++ gives ∷ []) j []) c ≡ false) (sym (at_new cs gives))
          (subst (λ (c : List Lit). sub c gives ≡ false) (sym (at_old cs gives j g)) (within-false t (get_or cs j []) gives given_false (none_here start t0 cs e t i x h j g)))))
    ];
    one_way = λ k a l q. elim (old_or_new cs gives k l) [
      | inl m ↦ subst (λ (c : List Lit). has c q ≡ true → has c (flip q) ≡ false) (sym (at_old cs gives k m)) (f.one_way k a m q)
      | inr m ↦ subst (λ (j : ℕ). has (get_or (cs ++ gives ∷ []) j []) q ≡ true → has (get_or (cs ++ gives ∷ []) j []) (flip q) ≡ false) (sym m)
          (subst (λ (c : List Lit). has c q ≡ true → has c (flip q) ≡ false) (sym (at_new cs gives)) (λ y. false-one_way start t gives q x.trail.2 given_false y))
    ];
  }

two-before : (t : List Entry) (c : List Lit) → Added t c → has_decision t ≡ true → Added (before_last t) c
two-before t c a h = record { set = a.set; two = λ d. (let x = a.two h in let y = open-before (before_last t) c in omega arith) }

pub first_cut : (start : List (List Lit)) (t0 : List Entry) (cs : List (List Lit)) (t : List Entry) (i : ℕ) → Analyzing start t0 cs t i → has_decision t ≡ true → Cutting start cs (before_last t) i
first_cut start t0 cs t i x h = record {
  trail = trail-before start t x.trail;
  grows = x.grows;
  added = λ k a l q. two-before t (get_or cs k []) (x.added k a l q) h;
  set = x.set;
  none_false = λ k l. by_case k l (cases_eq k i) (cases_lt k (length start));
}
  where
    not_zero : (c : List Lit) → 1 ≤ open_in (before_last t) c → is_false (before_last t) c ≡ false
    not_zero c o = turn_false (is_false (before_last t) c) false (λ f. absurd (let z = open_zero (before_last t) c f in omega arith)) refl

    by_case : (k : ℕ) → k < length cs → (k ≡ i) ⊎ (k ≢ i) → (k < length start) ⊎ (length start ≤ k) → is_false (before_last t) (get_or cs k []) ≡ false
    by_case k l (inl q) o = subst (λ (j : ℕ). is_false (before_last t) (get_or cs j []) ≡ false) (sym q) (not_zero (get_or cs i []) (x.decided h))
    by_case k l (inr q) (inl o) = subst (λ (c : List Lit). is_false (before_last t) c ≡ false) (sym (x.grows.same k o)) (quiet_open (settled-before start t x.trail h k o))
      where
        quiet_open : quiet (before_last t) (get_or start k []) ≡ true → is_false (before_last t) (get_or start k []) ≡ false
        quiet_open m = not-true (is_false (before_last t) (get_or start k [])) (and_parts (not (is_false (before_last t) (get_or start k []))) _ m).0
    by_case k l (inr q) (inr o) = not_zero (get_or cs k []) (let y = (x.added k o l q).two h in omega arith)

pub more_cut : (start cs : List (List Lit)) (t : List Entry) (i : ℕ) → Cutting start cs t i → has_decision t ≡ true → Cutting start cs (before_last t) i
more_cut start cs t i x h = record {
  trail = trail-before start t x.trail;
  grows = x.grows;
  added = λ k a l q. two-before t (get_or cs k []) (x.added k a l q) h;
  set = x.set;
  none_false = none-before t cs x.none_false;
}

-- where no more is cut, the trail is one for all clauses, and none is false
pub last_cut : (start cs : List (List Lit)) (t : List Entry) (i : ℕ) → Cutting start cs t i → (has_decision t ≡ true → 2 ≤ open_in (before_last t) (get_or cs i [])) → IsTrail cs t × IsCalm cs t
last_cut start cs t i x h = (grow_trail start cs t x.grows all_two x.trail, λ k l. false-older_than t (get_or cs k []) (x.none_false k l))
  where
    all_two : (k : ℕ) → length start ≤ k → k < length cs → Added t (get_or cs k [])
    all_two k a l = by_case (cases_eq k i)
      where
        by_case : (k ≡ i) ⊎ (k ≢ i) → Added t (get_or cs k [])
        by_case (inl q) = subst (λ (j : ℕ). Added t (get_or cs j [])) (sym q) (record { set = x.set; two = h })
        by_case (inr q) = x.added k a l q
