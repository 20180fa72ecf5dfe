-- A safe system converges: its executions and delivery orders, in the words of `Convergence`.
use Rattle.std.specs.Prelude.{slice_get, Option, None, Some, fold}
use Rattle.std.proofs.Common.{◌≡◌, ℕ, suc, ◌<◌, ◌⊎◌, inl, inr, List, [], ◌∷◌, length, take, refl, sym, ◌∙◌, ap, subst, arith}
use Rattle.std.proofs.lemmas.Bool.{cases_Bool}
use Rattle.std.proofs.lemmas.Option.{slice_get_within, slice_get_cases}
use Rattle.executions.specs.Orders.{Event, AreIn, MayFollow, IsOrder}
use Rattle.executions.specs.Executions.{System, IsSystem, IsSafe, with_event, state_after, IsExecution, Agree, SystemConverges}
use Rattle.executions.proofs.Lists.{mem, IsIn, AllIn, not_both, in_none, in_first, in_rest, first_or_rest, mem_contains, contains_mem, lacks_mem}
use Rattle.executions.proofs.Convergence.{Concurrent, MayTake, after, Taken, Rule, converge}

seen_in : {C : Type 0} → Option (Event C) → List ℕ
seen_in None = []
seen_in (Some event) = event.seen

-- the events that an event has seen
seen_of : {C : Type 0} → List (Event C) → ℕ → List ℕ
seen_of events e = seen_in (slice_get events e)

-- an event below the number of events is there
pub event_at : {X : Type 0} (xs : List X) (i : ℕ) → i < length xs → (x : X) × (slice_get xs i ≡ Some x)
event_at {X} xs i h = elim (slice_get_cases xs i).1 [ inl p ↦ (p.0, p.2) | inr q ↦ absurd (let le = q.0 in omega (arith, le, h)) ]

-- newest first, onto what was taken before
abbrev onto : List ℕ → List ℕ → List ℕ
onto [] taken = taken
onto (e ∷ es) taken = onto es (e ∷ taken)

in_onto : (es taken : List ℕ) (x : ℕ) → IsIn x (onto es taken) → IsIn x es ⊎ IsIn x taken
in_onto [] taken x h = inr h
in_onto (e ∷ es) taken x h =
    elim (in_onto es (e ∷ taken) x h) [
      | inl i ↦ inl (in_rest x e es i)
      | inr i ↦ elim (first_or_rest x e taken i) [ inl q ↦ inl (subst (λ z. IsIn x (z ∷ es)) q (in_first x es)) | inr k ↦ inr k ]
    ]

onto_before : (es taken : List ℕ) (x : ℕ) → IsIn x taken → IsIn x (onto es taken)
onto_before [] taken x h = h
onto_before (e ∷ es) taken x h = onto_before es (e ∷ taken) x (in_rest x e taken h)

onto_new : (es taken : List ℕ) (x : ℕ) → IsIn x es → IsIn x (onto es taken)
onto_new [] taken x h = absurd (in_none x h)
onto_new (e ∷ es) taken x h =
    elim (first_or_rest x e es h) [
      | inl q ↦ onto_before es (e ∷ taken) x (subst (λ z. IsIn x (z ∷ taken)) q (in_first x taken))
      | inr k ↦ onto_new es (e ∷ taken) x k
    ]

newest : List ℕ → List ℕ
newest es = onto es []

in_newest : (es : List ℕ) (x : ℕ) → IsIn x es → IsIn x (newest es)
unfolding newest
in_newest es x h = onto_new es [] x h

newest_in : (es : List ℕ) (x : ℕ) → IsIn x (newest es) → IsIn x es
unfolding newest
newest_in es x h = elim (in_onto es [] x h) [ inl i ↦ i | inr i ↦ absurd (in_none x i) ]

all_in : (xs ys : List ℕ) → AreIn xs ys → AllIn xs ys
all_in xs ys h x i = contains_mem x ys (h x (mem_contains x xs i))

module _ (s : System) (events : List (Event s.Call)) where
  abbrev HoldsInv : s.State → Type 0
  HoldsInv state = s.IsState state × s.Inv state

  abbrev Ready : ℕ → s.State → Type 0
  Ready e state = (event : Event s.Call) → slice_get events e ≡ Some event → s.Pre event.call state

  abbrev step : ℕ → s.State → s.State
  step e state = with_event s events state e

  abbrev IsTaken : List ℕ → Type 0
  IsTaken l = Taken s.State (length events) (seen_of events) step s.initial HoldsInv Ready l

  abbrev after_of : List ℕ → s.State
  after_of l = after s.State (length events) (seen_of events) step s.initial HoldsInv Ready l

  step_event : (e : ℕ) (event : Event s.Call) (state : s.State) → slice_get events e ≡ Some event → step e state ≡ s.effect event.call state
  step_event e event state h = rw (h, with_event) refl

  seen_event : (e : ℕ) (event : Event s.Call) → slice_get events e ≡ Some event → seen_of events e ≡ event.seen
  unfolding seen_of seen_in
  seen_event e event h = rw h refl

  may_take : (taken : List ℕ) (e : ℕ) → MayFollow events taken e → (l : List ℕ) → AllIn taken l → AllIn l taken → MayTake (length events) (seen_of events) l e
  may_take taken e m l up down = record {
    exists = slice_get_within events e m.event m.exists;
    new = elim (cases_Bool (mem e l)) [ inl h ↦ absurd (not_both _ (down e h) (lacks_mem e taken m.new)) | inr h ↦ h ];
    after = λ x h. up x (all_in m.event.seen taken m.after x (subst (IsIn x) (seen_event e m.event m.exists) h));
  }

  -- each event of the order may follow those before it, the events taken before the whole order included
  taken_onto : (es taken : List ℕ) → IsTaken taken → ((i e : ℕ) → slice_get es i ≡ Some e → MayTake (length events) (seen_of events) (onto (take i es) taken) e) → IsTaken (onto es taken)
  taken_onto [] taken t h = t
  taken_onto (e ∷ es) taken t h = taken_onto es (e ∷ taken) (h 0 e refl, t) (λ i f q. h (suc i) f q)

  order_taken : (es : List ℕ) → IsOrder events es → IsTaken (newest es)
  unfolding newest
  order_taken es order = taken_onto es [] tt (λ i e q. may_take (take i es) e (order i e q) (newest (take i es)) (in_newest (take i es)) (newest_in (take i es)))

  after_onto : (es taken : List ℕ) → fold (with_event s events) (after_of taken) es ≡ after_of (onto es taken)
  after_onto [] taken = refl
  after_onto (e ∷ es) taken = after_onto es (e ∷ taken)

  after_newest : (es : List ℕ) → state_after s events es ≡ after_of (newest es)
  unfolding newest
  after_newest es = after_onto es []

  module _ (system : IsSystem s) (safe : IsSafe s) (run : IsExecution s events) where
    -- concurrent events don't conflict
    free : (a b : ℕ) (v w : Event s.Call) → Concurrent (seen_of events) a b → slice_get events a ≡ Some v → slice_get events b ≡ Some w → ¬ s.Conflict v.call w.call
    free a b v w p va wb c =
        let order : (a < b) ⊎ (b < a) = (let ne = p.different in grind arith) in
        elim order [
          | inl lt ↦ not_both _ (contains_mem a w.seen ((run b w wb).ordered a v lt va c)) (ap (mem a) (sym (seen_event b w wb)) ∙ p.first)
          | inr gt ↦ not_both _ (contains_mem b v.seen ((run a v va).ordered b w gt wb (system.symmetric v.call w.call c))) (ap (mem b) (sym (seen_event a v va)) ∙ p.second)
        ]

    rule : Rule s.State (length events) (seen_of events) step s.initial HoldsInv Ready
    rule = record {
      origin = λ e lt. (let v = event_at events e lt in record {
        past = newest v.0.seen;
        taken = order_taken v.0.seen (run e v.0 v.1).closed;
        within = rw (seen_event e v.0 v.1) (newest_in v.0.seen);
        whole = rw (seen_event e v.0 v.1) (in_newest v.0.seen);
        ready = λ w h. subst (s.Pre w.call) (after_newest w.seen ∙ ap (λ l. after_of (newest l)) (sym (seen_event e w h) ∙ seen_event e v.0 v.1)) (run e w h).ready;
      });
      init = (system.initial, safe.init);
      safety = λ e state lt i p. (let v = event_at events e lt in let call = (run e v.0 v.1).call in
          rw (step_event e v.0 state v.1) (system.effect v.0.call state call i.0, safe.safety v.0.call state call i.0 i.1 (p v.0 v.1)));
      commute = λ a b state la lb p i pa pb. (let v = event_at events a la in let w = event_at events b lb in
          step_event b w.0 _ w.1 ∙ ap (s.effect w.0.call) (step_event a v.0 state v.1)
          ∙ safe.commute v.0.call w.0.call state (run a v.0 v.1).call (run b w.0 w.1).call (free a b v.0 w.0 p v.1 w.1) i.0 i.1 (pa v.0 v.1) (pb w.0 w.1)
          ∙ sym (step_event a v.0 _ v.1 ∙ ap (s.effect v.0.call) (step_event b w.0 state w.1)));
      stable = λ a b state la lb p i pa pb v h. (let w = event_at events b lb in
          rw (step_event b w.0 state w.1) (safe.stable v.call w.0.call state (run a v h).call (run b w.0 w.1).call (free a b v w.0 p h w.1) i.0 i.1 (pa v h) (pb w.0 w.1)));
    }

    agree : (one other : List ℕ) → IsOrder events one → IsOrder events other → AreIn one other → AreIn other one → Agree s events one other
    agree one other p q there back =
        let r = converge s.State (length events) (seen_of events) step s.initial HoldsInv Ready rule (newest one) (newest other) (order_taken one p) (order_taken other q)
        (λ x h. in_newest other x (all_in one other there x (newest_in one x h)))
        (λ x h. in_newest one x (all_in other one back x (newest_in other x h))) in
        record { same = after_newest one ∙ r.0 ∙ sym (after_newest other); inv = subst s.Inv (sym (after_newest one)) r.1.1 }

-- the theorem
pub system_converges : (s : System) → IsSystem s → IsSafe s → SystemConverges s
system_converges s system safe events run one other = agree s events system safe run one other
