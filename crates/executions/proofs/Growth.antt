-- Executions grow: events and takings are added at the end, and what was an order, its state and an execution stays so.
use Rattle.std.specs.Prelude.{Contains, slice_get, None, Some, fold}
use Rattle.std.proofs.Common.{◌≡◌, ℕ, zero, suc, ◌<◌, ◌≤◌, ◌⊎◌, inl, inr, List, [], ◌∷◌, ◌++◌, length, get_or, take, refl, sym, ◌∙◌, ap, subst, arith}
use Rattle.std.proofs.lemmas.Option.{slice_get_within}
use Rattle.std.proofs.lemmas.List.{take-append-le}
use Rattle.std.proofs.lemmas.List.Sums.{fold-append}
use Rattle.std.proofs.Math.Seq.{take-append_seam}
use Rattle.executions.specs.Orders.{Event, MayFollow, IsOrder}
use Rattle.executions.specs.Executions.{System, with_event, state_after, Happens, IsExecution}

-- ---- places of a list that grew by one
absent : {X : Type 0} (x : X) → None ≡ Some x → ⊥
absent x h = cc

pub get_front : {X : Type 0} (xs ys : List X) (i : ℕ) (x : X) → slice_get xs i ≡ Some x → slice_get (xs ++ ys) i ≡ Some x
get_front [] ys i x h = absurd (absent x h)
get_front (z ∷ xs) ys zero x h = h
get_front (z ∷ xs) ys (suc i) x h = get_front xs ys i x h

pub get_last : {X : Type 0} (xs : List X) (y : X) → slice_get (xs ++ y ∷ []) (length xs) ≡ Some y
get_last [] y = refl
get_last (z ∷ xs) y = get_last xs y

pub front_or_last : {X : Type 0} (xs : List X) (y : X) (i : ℕ) (x : X) → slice_get (xs ++ y ∷ []) i ≡ Some x → (slice_get xs i ≡ Some x) ⊎ ((i ≡ length xs) × (y ≡ x))
front_or_last [] y zero x h = inr (refl, cc)
front_or_last [] y (suc i) x h = absurd (absent x h)
front_or_last (z ∷ xs) y zero x h = inl h
front_or_last (z ∷ xs) y (suc i) x h = elim (front_or_last xs y i x h) [ inl k ↦ inl k | inr p ↦ inr (ap suc p.0, p.1) ]

-- ---- orders
pub no_events : {C : Type 0} (events : List (Event C)) → IsOrder events []
no_events events i e h = absurd (absent e h)

-- one more event is taken
pub order_more : {C : Type 0} (events : List (Event C)) (order : List ℕ) (e : ℕ) → IsOrder events order → MayFollow events order e → IsOrder events (order ++ e ∷ [])
order_more events order e is m i f h =
    elim (front_or_last order e i f h) [
      | inl k ↦ subst (λ l. MayFollow events l f) (sym (take-append-le i order (e ∷ []) (let lt = slice_get_within order i f k in let le : i ≤ length order = omega (arith, lt) in le))) (is i f k)
      | inr p ↦ subst (λ l. MayFollow events l f) (sym (ap (λ n. take n (order ++ e ∷ [])) p.0 ∙ take-append_seam order (e ∷ []))) (subst (MayFollow events order) p.1 m)
    ]

-- one more event happened
pub may_still : {C : Type 0} (events more : List (Event C)) (taken : List ℕ) (e : ℕ) → MayFollow events taken e → MayFollow (events ++ more) taken e
may_still events more taken e m = record { event = m.event; exists = get_front events more e m.event m.exists; new = m.new; after = m.after }

pub order_still : {C : Type 0} (events more : List (Event C)) (order : List ℕ) → IsOrder events order → IsOrder (events ++ more) order
order_still events more order is i e h = may_still events more (take i order) e (is i e h)

-- the numbers of an order are events
pub order_within : {C : Type 0} (events : List (Event C)) (order : List ℕ) → IsOrder events order → (e : ℕ) → Contains order e → e < length events
order_within events order is e c = let m = is c.0 e (at order c.0 e c.1 c.2) in slice_get_within events e m.event m.exists
  where
    at : (xs : List ℕ) (k x : ℕ) → k < length xs → get_or xs k x ≡ x → slice_get xs k ≡ Some x
    at [] k x lt q = absurd (omega (arith, lt))
    at (y ∷ xs) zero x lt q = ap Some q
    at (y ∷ xs) (suc k) x lt q = at xs k x (omega (arith, lt)) q

-- a new event, which has seen what its replica had taken, may be taken there next
pub new_may_follow : {C : Type 0} (events : List (Event C)) (event : Event C) (order : List ℕ) → IsOrder events order → event.seen ≡ order → MayFollow (events ++ event ∷ []) order (length events)
new_may_follow events event order is saw = record {
  event = event;
  exists = get_last events event;
  new = λ c. (let lt = order_within events order is (length events) c in absurd (omega (arith, lt)));
  after = λ x c. subst (λ l. Contains l x) saw c;
}

-- ---- the state after an order
fold_same : {A B : Type 0} (f g : B → A → B) (b : B) (xs : List A) → ((c : B) (i : ℕ) (x : A) → slice_get xs i ≡ Some x → f c x ≡ g c x) → fold f b xs ≡ fold g b xs
fold_same f g b [] h = refl
fold_same f g b (x ∷ xs) h = ap (λ c. fold f c xs) (h b 0 x refl) ∙ fold_same f g (g b x) xs (λ c i y k. h c (suc i) y k)

pub state_still : (s : System) (events more : List (Event s.Call)) (order : List ℕ) → IsOrder events order → state_after s (events ++ more) order ≡ state_after s events order
state_still s events more order is = fold_same (with_event s (events ++ more)) (with_event s events) s.initial order (λ c i e h. step c e (is i e h).event (is i e h).exists)
  where
    at : (events : List (Event s.Call)) (c : s.State) (e : ℕ) (event : Event s.Call) → slice_get events e ≡ Some event → with_event s events c e ≡ s.effect event.call c
    at events c e event q = rw (q, with_event) refl

    step : (c : s.State) (e : ℕ) (event : Event s.Call) → slice_get events e ≡ Some event → with_event s (events ++ more) c e ≡ with_event s events c e
    step c e event q = at (events ++ more) c e event (get_front events more e event q) ∙ sym (at events c e event q)

pub state_more : (s : System) (events : List (Event s.Call)) (order : List ℕ) (e : ℕ) → state_after s events (order ++ e ∷ []) ≡ with_event s events (state_after s events order) e
state_more s events order e = fold-append (with_event s events) s.initial order (e ∷ [])

-- ---- executions
pub empty_execution : (s : System) → IsExecution s []
empty_execution s i event h = absurd (absent event h)

pub execution_more : (s : System) (events : List (Event s.Call)) (event : Event s.Call) → IsExecution s events → Happens s (events ++ event ∷ []) (length events) event → IsExecution s (events ++ event ∷ [])
execution_more s events event run new i other h =
    elim (front_or_last events event i other h) [
      | inl k ↦ still (run i other k) (slice_get_within events i other k)
      | inr p ↦ subst (Happens s (events ++ event ∷ []) i) p.1 (subst (λ n. Happens s (events ++ event ∷ []) n event) (sym p.0) new)
    ]
  where
    still : Happens s events i other → i < length events → Happens s (events ++ event ∷ []) i other
    still old lt = record {
      call = old.call;
      earlier = old.earlier;
      closed = order_still events (event ∷ []) other.seen old.closed;
      ready = subst (s.Pre other.call) (sym (state_still s events (event ∷ []) other.seen old.closed)) old.ready;
      observed = subst (s.Observed other.call) (sym (state_still s events (event ∷ []) other.seen old.closed)) old.observed;
      ordered = λ k one ki q c. elim (front_or_last events event k one q) [
        | inl r ↦ old.ordered k one ki r c
        | inr p ↦ absurd (let e = p.0 in omega (arith, e, ki, lt))
      ];
    }
