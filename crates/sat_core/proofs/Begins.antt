use Rattle.std.proofs.Common.{◌≡◌, ℕ, zero, suc, ◌<◌, ◌≤◌, Bool, true, false, not, inl, inr, List, [], ◌∷◌, ◌++◌, length, get_or, refl, sym, subst, arith}
use Rattle.proof_lines.specs.declared.clause.Lit.{Lit}
use Rattle.proof_lines.specs.Clauses.{has, sub, distinct, flip}
use Rattle.std.proofs.lemmas.Bool.{and_parts, not-true}
use Rattle.sat_core.specs.declared.trail.Entry.{Entry}
use Rattle.sat_core.specs.Trails.{is_false, Settled, NoneFalse, open_in, before_last, has_decision, IsTrail, older}
use Rattle.sat_core.proofs.Trails.{zero-open, within-false, false-one_way, settled-before, trail-before}
use Rattle.sat_core.proofs.Chain.{at_old, at_new, longer, old_or_new, grows-refl, grows-push, false-older_than}
use Rattle.sat_core.specs.Chains.{Analyzing, Begins}

-- cutting levels while the clause stays false ends there; n bounds the levels
pub level_of : (n : ℕ) (cs : List (List Lit)) (t : List Entry) (c : List Lit) → length t ≤ n → ((s : List Entry) → has_decision s ≡ true → length (before_last s) < length s) → IsTrail cs t → Settled t cs → is_false t c ≡ true → (s : List Entry) × Begins cs s c
level_of zero cs [] c l f w s h = ([], record { trail = tt; settled = s; now = h; not_before = λ d. absurd cc })
level_of zero cs (e ∷ t) c l f w s h = absurd (omega arith)
level_of (suc n) cs t c l f w s h = by_case (has_decision t) (is_false (before_last t) c) refl refl (λ d g. level_of n cs (before_last t) c (shorter d) f (trail-before cs t w) (settled-before cs t w d) g)
  where
    shorter : has_decision t ≡ true → length (before_last t) ≤ n
    shorter d = let x = f t d in omega arith

    by_case : (a b : Bool) → has_decision t ≡ a → is_false (before_last t) c ≡ b → (has_decision t ≡ true → is_false (before_last t) c ≡ true → (s : List Entry) × Begins cs s c) → (s : List Entry) × Begins cs s c
    by_case true true p q k = k p q
    by_case true false p q k = (t, record { trail = w; settled = s; now = h; not_before = λ d. q })
    by_case false b p q k = (t, record { trail = w; settled = s; now = h; not_before = λ d. absurd (let y = d in cc) })

none_false : (cs : List (List Lit)) (t : List Entry) → Settled t cs → NoneFalse t cs
none_false cs t s = λ k l. not-true (is_false t (get_or cs k [])) (and_parts (not (is_false t (get_or cs k []))) _ (s k l)).0

-- the chain begins with that clause as with any conflict
pub begin_theory : (cs : List (List Lit)) (t : List Entry) (c : List Lit) → Begins cs t c → distinct c ≡ true → Analyzing cs t (cs ++ c ∷ []) t (length cs)
begin_theory cs t c b d =
    let len = longer cs c in
    record {
      there = omega arith;
      false_now = subst (λ (x : List Lit). is_false t x ≡ true) (sym (at_new cs c)) b.now;
      trail = b.trail;
      grows = grows-push cs cs c (grows-refl cs);
      others = λ k l q. elim (old_or_new cs c k l) [
        | inl m ↦ subst (λ (x : List Lit). is_false (older t) x ≡ false) (sym (at_old cs c k m)) (false-older_than t (get_or cs k []) (none_false cs t b.settled k m))
        | inr m ↦ absurd (q m)
      ];
      added = λ k a l q. absurd (elim (old_or_new cs c k l) [ inl m ↦ omega arith | inr m ↦ q m ]);
      set = subst (λ (x : List Lit). distinct x ≡ true) (sym (at_new cs c)) d;
      decided = λ h. subst (λ (x : List Lit). 1 ≤ open_in (before_last t) x) (sym (at_new cs c)) (some_open (b.not_before h));
      same_has = refl;
      same_before = refl;
      same_last = λ x g. refl;
    }
  where
    some_open : is_false (before_last t) c ≡ false → 1 ≤ open_in (before_last t) c
    some_open h = positive (open_in (before_last t) c) refl
      where
        positive : (m : ℕ) → open_in (before_last t) c ≡ m → 1 ≤ m
        positive zero z = absurd (let f = zero-open (before_last t) c z in cc)
        positive (suc m) z = omega arith

-- it is new
pub theory_fresh : (cs : List (List Lit)) (t : List Entry) (c : List Lit) → Begins cs t c → (j : ℕ) → j < length cs → sub (get_or cs j []) c ≡ false
theory_fresh cs t c b j l = within-false t (get_or cs j []) c b.now (none_false cs t b.settled j l)

pub theory_one_way : (cs : List (List Lit)) (t : List Entry) (c : List Lit) → Begins cs t c → (l : Lit) → has c l ≡ true → has c (flip l) ≡ false
theory_one_way cs t c b l h = false-one_way cs t c l b.trail b.now h
