-- Why a safe system converges, of events and steps alone.
--
-- There are events 0 to n - 1. Each has seen some others. Taking event e leads from a state s to `step e s`. Orders are written
-- newest first here, so that the order before an event is the rest of the list, and `after` is a recursion over it.
--
-- The proof holds three claims together, by induction on the number of events taken.
--   (A) all orders of the same events lead to one state          `one_state`
--   (B) this state satisfies the invariant                       `invariant`
--   (C) an event all of whose seen events were taken is ready    `ready`
-- They rest on `move`: an event that no later one has seen may be taken last, with the same result, since it commutes with
-- each of the later ones; that these are ready, and that the invariant holds, is known of the smaller orders.
use Rattle.std.proofs.Common.{◌≡◌, ◌≢◌, ℕ, zero, suc, ◌+◌, ◌<◌, ◌≤◌, false, inl, inr, List, [], ◌∷◌, ◌++◌, length, refl, sym, ◌∙◌, ap, subst, arith, length-append}
use Rattle.std.proofs.lemmas.Bool.{cases_Bool}
use Rattle.executions.proofs.Lists.{mem, IsIn, AllIn, not_both, in_first, in_rest, first_or_rest, in_none, in_but_middle, in_with_middle, not_middle, not_with_middle, in_front, cut_at, all_or_cut}

-- different events of which neither has seen the other
pub record Concurrent (seen : ℕ → List ℕ) (a b : ℕ) : Type 0 where
  pub different : a ≢ b
  pub first : mem a (seen b) ≡ false
  pub second : mem b (seen a) ≡ false

-- event e may be taken after those of the list
pub record MayTake (n : ℕ) (seen : ℕ → List ℕ) (taken : List ℕ) (e : ℕ) : Type 0 where
  pub exists : e < n
  pub new : mem e taken ≡ false
  pub after : AllIn (seen e) taken

module _
    (State : Type 0)
    (n : ℕ)
    (seen : ℕ → List ℕ)
    (step : ℕ → State → State)
    (start : State)
    (Inv : State → Type 0)
    (Ready : ℕ → State → Type 0)
  where
    -- the state after an order, newest first
    abbrev pub after : List ℕ → State
    after [] = start
    after (e ∷ es) = step e (after es)

    -- a delivery order, newest first
    abbrev pub Taken : List ℕ → Type 0
    Taken [] = Unit {0}
    Taken (e ∷ es) = MayTake n seen es e × Taken es

    -- an event's origin: it is ready after some order of exactly what it has seen
    pub record Origin (e : ℕ) : Type 0 where
      pub past : List ℕ
      pub taken : Taken past
      pub within : AllIn past (seen e)
      pub whole : AllIn (seen e) past
      pub ready : Ready e (after past)

    -- what is known of the events and their steps
    pub record Rule : Type 0 where
      pub origin : (e : ℕ) → e < n → Origin e
      pub init : Inv start
      pub safety : (e : ℕ) (s : State) → e < n → Inv s → Ready e s → Inv (step e s)
      pub commute : (a b : ℕ) (s : State) → a < n → b < n → Concurrent seen a b → Inv s → Ready a s → Ready b s → step b (step a s) ≡ step a (step b s)
      pub stable : (a b : ℕ) (s : State) → a < n → b < n → Concurrent seen a b → Inv s → Ready a s → Ready b s → Ready a (step b s)

    -- what a taken event has seen was taken
    seen_taken : (l : List ℕ) → Taken l → (x : ℕ) → IsIn x l → AllIn (seen x) l
    seen_taken [] t x h y k = absurd (in_none x h)
    seen_taken (f ∷ l) t x h y k =
        elim (first_or_rest x f l h) [
          | inl e ↦ in_rest y f l (t.0.after y (subst (λ z. IsIn y (seen z)) e k))
          | inr i ↦ in_rest y f l (seen_taken l t.1 x i y k)
        ]

    -- an order has no event twice
    distinct : (f : ℕ) (a b : List ℕ) → Taken (a ++ f ∷ b) → mem f (a ++ b) ≡ false
    distinct f [] b t = t.0.new
    distinct f (x ∷ a) b t = not_first (not_middle x f a b t.0.new).0 (distinct f a b t.1)
      where
        not_first : x ≢ f → mem f (a ++ b) ≡ false → mem f (x ∷ (a ++ b)) ≡ false
        not_first ne h = not_with_middle f x [] (a ++ b) (λ e. ne (sym e)) h

    -- Claims (B) and (C) of all orders of fewer than k events. (C) speaks of the events that may be taken next.
    record Claims (k : ℕ) : Type 0 where
      invariant : (l : List ℕ) → length l < k → Taken l → Inv (after l)
      ready : (l : List ℕ) (e : ℕ) → length l < k → Taken l → MayTake n seen l e → Ready e (after l)

    -- no event of the list has seen f
    abbrev NoneSaw : ℕ → List ℕ → Type 0
    NoneSaw f l = (x : ℕ) → IsIn x l → mem f (seen x) ≡ false

    -- f may be taken last: the order without it is one, f may follow it, and the state is the same
    record Moved (f : ℕ) (a b : List ℕ) : Type 0 where
      may : MayTake n seen (a ++ b) f
      taken : Taken (a ++ b)
      same : after (a ++ f ∷ b) ≡ step f (after (a ++ b))

    move : Rule → (k : ℕ) → Claims k → (f : ℕ) (a b : List ℕ) → length (a ++ b) < k → Taken (a ++ f ∷ b) → NoneSaw f a → Moved f a b
    move rule k claims f [] b short t none = record { may = t.0; taken = t.1; same = refl }
    move rule k claims f (x ∷ a) b short t none =
        let m = move rule k claims f a b (omega arith) t.1 (λ y h. none y (in_rest y x a h)) in
        let unseen : mem f (seen x) ≡ false = none x (in_first x a) in
        let fresh = not_middle x f a b t.0.new in
        let x_may : MayTake n seen (a ++ b) x = record {
          exists = t.0.exists;
          new = fresh.1;
          after = λ y h. in_but_middle y f a b (t.0.after y h) (λ e. not_both _ h (subst (λ z. mem z (seen x) ≡ false) (sym e) unseen));
        } in
        let concurrent : Concurrent seen f x = record {
          different = λ e. fresh.0 (sym e);
          first = unseen;
          second = elim (cases_Bool (mem x (seen f))) [ inl h ↦ absurd (not_both _ (m.may.after x h) fresh.1) | inr h ↦ h ];
        } in
        record {
          may = record {
            exists = m.may.exists;
            new = not_with_middle f x [] (a ++ b) (λ e. fresh.0 (sym e)) m.may.new;
            after = λ y h. in_rest y x (a ++ b) (m.may.after y h);
          };
          taken = (x_may, m.taken);
          same = ap (step x) m.same
              ∙ rule.commute f x (after (a ++ b)) m.may.exists x_may.exists concurrent
              (claims.invariant _ (omega arith) m.taken) (claims.ready _ _ (omega arith) m.taken m.may) (claims.ready _ _ (omega arith) m.taken x_may);
        }

    -- (A) The newest event of one order is moved to the end of the other; the rest is shorter.
    one_state : Rule → (k : ℕ) → Claims k → (l m : List ℕ) → length m ≤ k → Taken l → Taken m → AllIn l m → AllIn m l → after l ≡ after m
    one_state rule k claims [] [] short t u lm ml = refl
    one_state rule k claims [] (y ∷ m) short t u lm ml = absurd (in_none y (ml y (in_first y m)))
    one_state rule k claims (f ∷ l) m short t u lm ml =
        let c = cut_at f m (lm f (in_first f l)) in
        let u' : Taken (c.front ++ f ∷ c.back) = subst Taken c.is u in
        let lm' : AllIn (f ∷ l) (c.front ++ f ∷ c.back) = subst (AllIn (f ∷ l)) c.is lm in
        let ml' : AllIn (c.front ++ f ∷ c.back) (f ∷ l) = subst (λ z. AllIn z (f ∷ l)) c.is ml in
        let size : length (c.front ++ c.back) < k = omega (arith, ap length c.is, length-append c.front (f ∷ c.back), length-append c.front c.back) in
        let down : AllIn (c.front ++ c.back) l = others l f c.front c.back u' ml' in
        let none : NoneSaw f c.front = unseen l f c.front c.back t down in
        let m' = move rule k claims f c.front c.back size u' none in
        let up : AllIn l (c.front ++ c.back) = λ x h. in_but_middle x f c.front c.back (lm' x (in_rest x f l h)) (λ e. not_both _ h (subst (λ z. mem z l ≡ false) (sym e) t.0.new)) in
        let rest = one_state rule k claims l (c.front ++ c.back) (omega arith) t.1 m'.taken up down in
        ap (step f) rest ∙ sym m'.same ∙ ap after (sym c.is)
      where
        others : (l : List ℕ) (f : ℕ) (a b : List ℕ) → Taken (a ++ f ∷ b) → AllIn (a ++ f ∷ b) (f ∷ l) → AllIn (a ++ b) l
        others l f a b t h x i =
            elim (first_or_rest x f l (h x (in_with_middle x f a b i))) [
              | inl e ↦ absurd (not_both _ i (subst (λ z. mem z (a ++ b) ≡ false) (sym e) (distinct f a b t)))
              | inr k ↦ k
            ]

        unseen : (l : List ℕ) (f : ℕ) (a b : List ℕ) → Taken (f ∷ l) → AllIn (a ++ b) l → NoneSaw f a
        unseen l f a b t down x h =
            elim (cases_Bool (mem f (seen x))) [
              | inl i ↦ absurd (not_both _ (seen_taken l t.1 x (down x (in_front x a b h)) f i) t.0.new)
              | inr o ↦ o
            ]

    -- (B) The newest event was ready, so it kept the invariant.
    invariant : Rule → (k : ℕ) → Claims k → (l : List ℕ) → length l ≤ k → Taken l → Inv (after l)
    invariant rule k claims [] short t = rule.init
    invariant rule k claims (f ∷ l) short t = rule.safety f (after l) t.0.exists (claims.invariant l (omega arith) t.1) (claims.ready l f (omega arith) t.1 t.0)

    -- (C) Where exactly what e has seen was taken, it is ready by its origin and (A). Otherwise the newest event f that e hasn't
    -- seen is moved to the end. The two are concurrent, and before f both were ready, so e still is after it.
    ready : Rule → (k : ℕ) → Claims k → (l : List ℕ) (e : ℕ) → length l ≤ k → Taken l → MayTake n seen l e → Ready e (after l)
    ready rule k claims l e short t may =
        elim (all_or_cut (seen e) l) [
          | inl all ↦ (let o = rule.origin e may.exists in
              subst (Ready e) (one_state rule k claims o.past l short o.taken t (λ x h. may.after x (o.within x h)) (λ x h. o.whole x (all x h))) o.ready)
          | inr c ↦ (
              let f = c.at in
              let o = rule.origin e may.exists in
              let t' : Taken (c.front ++ f ∷ c.back) = subst Taken c.is t in
              let size : length (c.front ++ c.back) < k = omega (arith, ap length c.is, length-append c.front (f ∷ c.back), length-append c.front c.back) in
              let none : NoneSaw f c.front = λ x h. elim (cases_Bool (mem f (seen x))) [
                | inl i ↦ absurd (not_both _ (o.within f (seen_taken o.past o.taken x (o.whole x (c.before x h)) f i)) c.out)
                | inr out ↦ out
              ] in
              let m = move rule k claims f c.front c.back size t' none in
              let fresh = not_middle e f c.front c.back (subst (λ z. mem e z ≡ false) c.is may.new) in
              let e_may : MayTake n seen (c.front ++ c.back) e = record {
                exists = may.exists;
                new = fresh.1;
                after = λ y h. in_but_middle y f c.front c.back (subst (AllIn (seen e)) c.is may.after y h) (λ q. not_both _ h (subst (λ z. mem z (seen e) ≡ false) (sym q) c.out));
              } in
              let concurrent : Concurrent seen e f = record {
                different = fresh.0;
                first = elim (cases_Bool (mem e (seen f))) [ inl h ↦ absurd (not_both _ (m.may.after e h) fresh.1) | inr h ↦ h ];
                second = c.out;
              } in
              subst (Ready e) (sym m.same ∙ ap after (sym c.is))
              (rule.stable e f (after (c.front ++ c.back)) may.exists m.may.exists concurrent (claims.invariant _ size m.taken) (claims.ready _ _ size m.taken e_may) (claims.ready _ _ size m.taken m.may)))
        ]

    all_claims : Rule → (k : ℕ) → Claims k
    all_claims rule zero = record { invariant = λ l h t. absurd (omega (arith, h)); ready = λ l e h t m. absurd (omega (arith, h)) }
    all_claims rule (suc k) = let claims = all_claims rule k in record {
      invariant = λ l h t. invariant rule k claims l (omega (arith, h)) t;
      ready = λ l e h t m. ready rule k claims l e (omega (arith, h)) t m;
    }

    -- any two orders of the same events lead to one state, which satisfies the invariant
    pub converge : Rule → (l m : List ℕ) → Taken l → Taken m → AllIn l m → AllIn m l → (after l ≡ after m) × Inv (after l)
    converge rule l m t u lm ml = (one_state rule (length m) (all_claims rule (length m)) l m at_most_itself t u lm ml, invariant rule (length l) (all_claims rule (length l)) l at_most_itself t)
      where
        at_most_itself : {a : ℕ} → a ≤ a
        at_most_itself {a} = omega arith
