-- What a step answers and leaves, from what the code has found.
use Rattle.std.specs.Prelude.{nat_lt, slice_get, Option, None, Some, Result, Ok, Err, OnOk, OnErr, IfOk, IfErr, All, map, set, replicate}
use Rattle.std.specs.List.{list_all}
use Rattle.std.specs.Option.{option_or}
use Rattle.std.proofs.Common.{◌≡◌, ℕ, zero, suc, ◌+◌, ◌<◌, ◌^◌, Bool, true, ◌⊎◌, inl, inr, List, [], ◌∷◌, ◌++◌, ℤ, length, get_or, refl, sym, ◌∙◌, ap, subst, arith}
use Rattle.std.proofs.lemmas.Bool.{ltb-true}
use Rattle.std.proofs.lemmas.Option.{slice_get_within, slice_get-get_or, get_or_from_slice_get}
use Rattle.spec_core.specs.declared.world.World.{World}
use Rattle.spec_core.specs.declared.world.Call.{Call}
use Rattle.spec_core.specs.Specification.{Specification}
use Rattle.spec_core.specs.State.{Listing, reads}
use Rattle.spec_core.specs.Meaning.{initial}
use Rattle.spec_core.specs.Fits.{world_fits, call_fits, is_state}
use Rattle.spec_core.proofs.Lists.{both}
use Rattle.effectors.specs.Effect.{after}
use Rattle.executions.specs.Orders.{Event}
use Rattle.replica_replay.specs.declared.step.Taken.{Taken}
use Rattle.replica_replay.specs.declared.step.StepRefused.{StepRefused}
use Rattle.replica_replay.specs.declared.step.StepRefused.TheVariants.{Memory}
use Rattle.replica_replay.specs.declared.keeping.Happened.{Happened}
use Rattle.replica_replay.specs.declared.keeping.Replica.{Replica}
use Rattle.replica_replay.specs.Held.{Held}
use Rattle.replica_replay.specs.Refusals.{effect_refused, call_asked, call_refused, taking_asked, taking_refused}
use Rattle.replica_replay.specs.Steps.{operation_named, AtReplica, state_of, replica_in, Outcome, decided, with_taken, called, took, held_after, answer}
use Rattle.replica_replay.specs.Holding.{seen_by_event, event_of, orders_of, calls_of, held_by, IsKept}
use Rattle.replica_replay.proofs.Taking.{absent, one_found, get_map}
use Rattle.replica_replay.proofs.Refusing.{view_of}
use Rattle.replica_replay.proofs.Fronts.{held_taking, held_call}
use Rattle.replica_replay.proofs.Kept.{own_order, taking_is_kept, call_is_kept}
use Rattle.replica_replay.proofs.Outcomes.{call_decided, taking_decided}

abbrev pub failed : StepRefused → Result Taken StepRefused
failed why = Err why

pub ok_then : {P Q : Type 0} (result : Result Taken StepRefused) → (P → Q) → OnOk result P → OnOk result Q
ok_then (Ok t) f p = f p
ok_then (Err e) f p = tt

-- ---- what is read at a place
pub read_at : {X : Type 0} (xs ys : List X) (i : ℕ) (x : X) → xs ≡ ys → i < length xs → x ≡ get_or xs i x → slice_get ys i ≡ Some x
read_at xs ys i x same lt is = subst (λ l. slice_get l i ≡ Some x) same (slice_get-get_or xs i x lt ∙ ap Some (sym is))

-- the same, where a look-up found it
pub found_at : {X : Type 0} (xs ys : List X) (i : ℕ) (x : X) → xs ≡ ys → true ≡ nat_lt i (length xs) → x ≡ get_or xs i x → slice_get ys i ≡ Some x
found_at xs ys i x same lt is = read_at xs ys i x same (ltb-true i (length xs) (sym lt)) is

pub length_orders : (rs : List Replica) → length (orders_of rs) ≡ length rs
length_orders [] = refl
length_orders (x ∷ xs) = ap suc (length_orders xs)

pub is_replica : (rs : List Replica) (r : ℕ) → r < length (orders_of rs) → r < length rs
is_replica rs r lt = subst (λ n. r < n) (length_orders rs) lt

length_events : (orders : List (List ℕ)) (hs : List Happened) → length (map (event_of orders) hs) ≡ length hs
length_events orders [] = refl
length_events orders (x ∷ xs) = ap suc (length_events orders xs)

pub is_event : (orders : List (List ℕ)) (hs : List Happened) (e : ℕ) → e < length (map (event_of orders) hs) → e < length hs
is_event orders hs e lt = subst (λ n. e < n) (length_events orders hs) lt

-- the call of an event
pub call_at : (orders : List (List ℕ)) (hs : List Happened) (e : ℕ) (it : Happened) → slice_get hs e ≡ Some it → slice_get (map (λ (v : Event Call). v.call) (map (event_of orders) hs)) e ≡ Some it.call
call_at orders hs e it there = get_map (λ (v : Event Call). v.call) (map (event_of orders) hs) e (event_of orders it) (get_map (event_of orders) hs e it there)

each_fits : (p : Call → Bool) (es : List (Event Call)) (k : ℕ) (e : Event Call) → list_all (λ (v : Event Call). p v.call) es ≡ true → slice_get es k ≡ Some e → p e.call ≡ true
each_fits p [] k e h q = absurd (absent e q)
each_fits p (v ∷ es) zero e h q = subst (λ (z : Event Call). p z.call ≡ true) (one_found v e q) (both (p v.call) (list_all (λ (v : Event Call). p v.call) es) h).0
each_fits p (v ∷ es) (suc k) e h q = each_fits p es k e (both (p v.call) (list_all (λ (v : Event Call). p v.call) es) h).1 q

pub event_fits : (d : Specification) (w : World) (happened : List Happened) (replicas : List Replica) → IsKept d w happened replicas → (e : ℕ) (it : Happened) → slice_get happened e ≡ Some it → call_fits d w it.call ≡ true
event_fits d w happened replicas is e it there = each_fits (call_fits d w) (map (event_of (orders_of replicas)) happened) e (event_of (orders_of replicas) it) is.held.calls (get_map (event_of (orders_of replicas)) happened e it there)

-- ---- before the first step
nothing_taken : (n k : ℕ) (x : List ℕ) → slice_get (replicate n []) k ≡ Some x → [] ≡ x
nothing_taken zero k x h = absurd (absent x h)
nothing_taken (suc n) zero x h = one_found [] x h
nothing_taken (suc n) (suc k) x h = nothing_taken n k x h

none_is_kept : (d : Specification) (w : World) (n : ℕ) (rs : List Replica) → world_fits d w ≡ true → orders_of rs ≡ replicate n []
    → All (λ (r : Replica). (is_state d w r.state ≡ true) × (reads r.state ≡ reads (initial d w))) rs → IsKept d w [] rs
none_is_kept d w n rs world orders states =
    let empty : (k : ℕ) (x : List ℕ) → slice_get (orders_of rs) k ≡ Some x → [] ≡ x = λ k x q. nothing_taken n k x (ap (λ (o : List (List ℕ)). slice_get o k) (sym orders) ∙ q) in
    let at : (k : ℕ) (r : Replica) → slice_get rs k ≡ Some r → (is_state d w r.state ≡ true) × (reads r.state ≡ reads (initial d w))
    = λ k r q. subst (λ (z : Replica). (is_state d w z.state ≡ true) × (reads z.state ≡ reads (initial d w))) (get_or_from_slice_get rs k r r q) (states k r (slice_get_within rs k r q)) in
    record {
      world = world;
      few = omega arith;
      held = record {
        calls = refl;
        run = λ i event q. absurd (absent event q);
        orders = λ k taken q i e h. absurd (absent e (ap (λ (l : List ℕ). slice_get l i) (empty k taken q) ∙ h));
      };
      fronts = λ k h q. absurd (absent h q);
      fit = λ k r q. (at k r q).0;
      states = λ k r q. (at k r q).1 ∙ ap (λ (l : List ℕ). state_of d w (held_by [] rs) l) (empty k r.order (get_map (λ (z : Replica). z.order) rs k r q));
    }

pub first_is_kept : (d : Specification) (w : World) (n : ℕ) (hs : List Happened) (rs : List Replica) → world_fits d w ≡ true → hs ≡ [] → orders_of rs ≡ replicate n []
    → All (λ (r : Replica). (is_state d w r.state ≡ true) × (reads r.state ≡ reads (initial d w))) rs → IsKept d w hs rs
first_is_kept d w n hs rs world none orders states = subst (λ (l : List Happened). IsKept d w l rs) (sym none) (none_is_kept d w n rs world orders states)

-- ---- a call
module _ (d : Specification) (w : World) (happened : List Happened) (replicas : List Replica) (is : IsKept d w happened replicas) (r : ℕ) (at : Replica) (here : slice_get replicas r ≡ Some at)
    (name : List ℕ) (op : ℕ) (named : Some op ≡ operation_named d name) (xs args : List ℤ) (same : xs ≡ args) where
  abbrev call_now : Held
  call_now = held_by happened replicas

  abbrev the_call : Call
  the_call = record { op = op; args = xs }

  abbrev pub the_outcome : Outcome
  the_outcome = called d w name args (replica_in call_now r)

  -- why the call is refused, by what is kept
  abbrev why_not : Option StepRefused
  why_not = call_refused d w (calls_of happened) (view_of at) the_call

  abbrev calling : AtReplica
  calling = record { held = call_now; replica = r; taken = at.order }

  abbrev call_after : Held
  call_after = record { events = call_now.events ++ record { call = the_call; seen = at.order } ∷ []; taken = with_taken calling (length call_now.events) }

  call_decides : (why : Option StepRefused) → why_not ≡ why → the_outcome ≡ decided why (length call_now.events) call_after
  call_decides why k = ap (λ (a : List ℤ). called d w name a (replica_in call_now r)) (sym same) ∙ call_decided d w happened replicas r name xs op at why is here (sym named) k

  call_why_not : (hs : List Happened) → hs ≡ happened → (found : Option StepRefused) → ((next : Option StepRefused) → call_asked d w (calls_of hs) (view_of at) the_call next ≡ option_or found next)
      → why_not ≡ option_or found (effect_refused d w (reads at.state) the_call)
  call_why_not hs q found asked = ap (λ (l : List Happened). call_refused d w (calls_of l) (view_of at) the_call) (sym q) ∙ asked (effect_refused d w (reads at.state) the_call)

  pub call_asked_refuses : (hs : List Happened) → hs ≡ happened → (why : StepRefused)
      → (why ≡ Memory) ⊎ ((next : Option StepRefused) → call_asked d w (calls_of hs) (view_of at) the_call next ≡ Some why) → (failed why ≡ failed Memory) ⊎ (failed why ≡ answer the_outcome)
  call_asked_refuses hs q why (inl m) = inl (ap failed m)
  call_asked_refuses hs q why (inr asked) = inr (sym (ap answer (call_decides (Some why) (call_why_not hs q (Some why) asked))))

  pub call_effect_refuses : (hs : List Happened) → hs ≡ happened → (why : StepRefused) → ((next : Option StepRefused) → call_asked d w (calls_of hs) (view_of at) the_call next ≡ option_or None next)
      → (why ≡ Memory) ⊎ (effect_refused d w (reads at.state) the_call ≡ Some why) → (failed why ≡ failed Memory) ⊎ (failed why ≡ answer the_outcome)
  call_effect_refuses hs q why asked (inl m) = inl (ap failed m)
  call_effect_refuses hs q why asked (inr e) = inr (sym (ap answer (call_decides (Some why) (call_why_not hs q None asked ∙ e))))

  pub call_passes : (hs : List Happened) → hs ≡ happened → ((next : Option StepRefused) → call_asked d w (calls_of hs) (view_of at) the_call next ≡ option_or None next)
      → effect_refused d w (reads at.state) the_call ≡ None → why_not ≡ None
  call_passes hs q asked e = call_why_not hs q None asked ∙ e

  abbrev pub one_happened : Happened
  one_happened = record { call = the_call; replica = r; before = length (get_or (orders_of replicas) r []) }

  abbrev pub called_replica : Listing → Replica
  called_replica next = record { order = get_or (orders_of replicas) r [] ++ length happened ∷ []; state = next }

  pub call_leaves : (result : Result Taken StepRefused) (next : Listing) (hs : List Happened) (rs : List Replica) → why_not ≡ None
      → OnOk result (length happened + 1 < 2 ^ 32) → OnOk result (hs ≡ happened ++ one_happened ∷ []) → OnOk result (rs ≡ set replicas r (called_replica next)) → OnErr result ((hs ≡ happened) × (rs ≡ replicas))
      → is_state d w next ≡ true → reads next ≡ after d w the_call (reads at.state) → IsKept d w hs rs
  call_leaves (Ok t) next hs rs may few eh er stays fits leads =
      subst (λ (x : List Happened). IsKept d w x rs) (sym eh) (subst (λ (y : List Replica). IsKept d w (happened ++ one_happened ∷ []) y) (sym er) (call_is_kept d w happened replicas r the_call at (called_replica next) is here may few refl fits leads))
  call_leaves (Err e) next hs rs may few eh er stays fits leads =
      subst (λ (x : List Happened). IsKept d w x rs) (sym stays.0) (subst (λ (y : List Replica). IsKept d w happened y) (sym stays.1) is)

  pub call_answers : (result : Result Taken StepRefused) → why_not ≡ None → IfOk result (λ t. t.event ≡ length happened) → IfErr result (λ why. why ≡ Memory) → (result ≡ Err Memory) ⊎ (result ≡ answer the_outcome)
  call_answers (Ok t) may event memory =
      inr (ap (λ (n : ℕ). let v : Taken = record { event = n } in let a : Result Taken StepRefused = Ok v in a) (event ∙ sym (length_events (orders_of replicas) happened)) ∙ sym (ap answer (call_decides None may)))
  call_answers (Err e) may event memory = inl (ap Err memory)

  pub call_holds : (result : Result Taken StepRefused) (next : Listing) (hs : List Happened) (rs : List Replica) → why_not ≡ None
      → OnOk result (hs ≡ happened ++ one_happened ∷ []) → OnOk result (rs ≡ set replicas r (called_replica next)) → OnOk result (held_by hs rs ≡ held_after call_now the_outcome)
  call_holds (Ok t) next hs rs may eh er =
      ap (λ (x : List Happened). held_by x rs) eh ∙ ap (λ (y : List Replica). held_by (happened ++ one_happened ∷ []) y) er
      ∙ held_call happened replicas r the_call (length happened) (called_replica next) (slice_get_within replicas r at here) is.fronts refl
      ∙ ap (λ (l : List ℕ). let h : Held = record { events = call_now.events ++ record { call = the_call; seen = l } ∷ []; taken = set call_now.taken r (l ++ length happened ∷ []) } in h) (own_order replicas r at here)
      ∙ ap (λ (n : ℕ). let h : Held = record { events = call_now.events ++ record { call = the_call; seen = at.order } ∷ []; taken = set call_now.taken r (at.order ++ n ∷ []) } in h) (sym (length_events (orders_of replicas) happened))
      ∙ sym (ap (held_after call_now) (call_decides None may))
  call_holds (Err e) next hs rs may eh er = tt

-- ---- a taking
module _ (d : Specification) (w : World) (happened : List Happened) (replicas : List Replica) (is : IsKept d w happened replicas) (r : ℕ) (at : Replica) (here : slice_get replicas r ≡ Some at)
    (e : ℕ) (it : Happened) (there : slice_get happened e ≡ Some it) where
  abbrev take_now : Held
  take_now = held_by happened replicas

  abbrev pub took_outcome : Outcome
  took_outcome = took d w e (replica_in take_now r)

  abbrev not_taken_for : Option StepRefused
  not_taken_for = taking_refused d w (view_of at) e (event_of (orders_of replicas) it)

  abbrev taking : AtReplica
  taking = record { held = take_now; replica = r; taken = at.order }

  abbrev take_after : Held
  take_after = record { events = take_now.events; taken = with_taken taking e }

  take_decides : (why : Option StepRefused) → not_taken_for ≡ why → took_outcome ≡ decided why e take_after
  take_decides why k = taking_decided d w happened replicas r e at it why is here there k

  take_why_not : (seen : List ℕ) → seen ≡ seen_by_event (orders_of replicas) it → (found : Option StepRefused) → ((next : Option StepRefused) → taking_asked at.order e seen next ≡ option_or found next)
      → not_taken_for ≡ option_or found (effect_refused d w (reads at.state) it.call)
  take_why_not seen q found asked = ap (λ (l : List ℕ). let event : Event Call = record { call = it.call; seen = l } in taking_refused d w (view_of at) e event) (sym q) ∙ asked (effect_refused d w (reads at.state) it.call)

  pub take_asked_refuses : (seen : List ℕ) → seen ≡ seen_by_event (orders_of replicas) it → (why : StepRefused) → ((next : Option StepRefused) → taking_asked at.order e seen next ≡ option_or (Some why) next)
      → failed why ≡ answer took_outcome
  take_asked_refuses seen q why asked = sym (ap answer (take_decides (Some why) (take_why_not seen q (Some why) asked)))

  pub take_effect_refuses : (seen : List ℕ) → seen ≡ seen_by_event (orders_of replicas) it → (why : StepRefused) → ((next : Option StepRefused) → taking_asked at.order e seen next ≡ option_or None next)
      → (why ≡ Memory) ⊎ (effect_refused d w (reads at.state) it.call ≡ Some why) → (failed why ≡ failed Memory) ⊎ (failed why ≡ answer took_outcome)
  take_effect_refuses seen q why asked (inl m) = inl (ap failed m)
  take_effect_refuses seen q why asked (inr x) = inr (sym (ap answer (take_decides (Some why) (take_why_not seen q None asked ∙ x))))

  pub take_passes : (seen : List ℕ) → seen ≡ seen_by_event (orders_of replicas) it → ((next : Option StepRefused) → taking_asked at.order e seen next ≡ option_or None next)
      → effect_refused d w (reads at.state) it.call ≡ None → not_taken_for ≡ None
  take_passes seen q asked x = take_why_not seen q None asked ∙ x

  abbrev pub taking_replica : Listing → Replica
  taking_replica next = record { order = get_or (orders_of replicas) r [] ++ e ∷ []; state = next }

  pub take_leaves : (result : Result Taken StepRefused) (next : Listing) (rs : List Replica) → not_taken_for ≡ None
      → OnOk result (rs ≡ set replicas r (taking_replica next)) → OnErr result (rs ≡ replicas)
      → is_state d w next ≡ true → reads next ≡ after d w it.call (reads at.state) → IsKept d w happened rs
  take_leaves (Ok t) next rs may er stays fits leads =
      subst (λ (y : List Replica). IsKept d w happened y) (sym er) (taking_is_kept d w happened replicas r e at (taking_replica next) it is here there may refl fits leads)
  take_leaves (Err x) next rs may er stays fits leads = subst (λ (y : List Replica). IsKept d w happened y) (sym stays) is

  pub take_answers : (result : Result Taken StepRefused) → not_taken_for ≡ None → IfOk result (λ t. t.event ≡ e) → IfErr result (λ why. why ≡ Memory) → (result ≡ Err Memory) ⊎ (result ≡ answer took_outcome)
  take_answers (Ok t) may event memory = inr (ap (λ (n : ℕ). let v : Taken = record { event = n } in let a : Result Taken StepRefused = Ok v in a) event ∙ sym (ap answer (take_decides None may)))
  take_answers (Err x) may event memory = inl (ap Err memory)

  pub take_holds : (result : Result Taken StepRefused) (next : Listing) (rs : List Replica) → not_taken_for ≡ None
      → OnOk result (rs ≡ set replicas r (taking_replica next)) → OnOk result (held_by happened rs ≡ held_after take_now took_outcome)
  take_holds (Ok t) next rs may er =
      ap (λ (y : List Replica). held_by happened y) er
      ∙ held_taking happened replicas r e (taking_replica next) is.fronts refl
      ∙ ap (λ (l : List ℕ). let h : Held = record { events = take_now.events; taken = set take_now.taken r (l ++ e ∷ []) } in h) (own_order replicas r at here)
      ∙ sym (ap (held_after take_now) (take_decides None may))
  take_holds (Err x) next rs may er = tt
