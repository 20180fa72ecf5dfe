-- The invariants hold in each state that was reached, so they needn't be asked of such a state again.
use Rattle.std.proofs.Common.{◌≡◌, ℕ, zero, suc, ◌+◌, ◌<◌, ◌≤◌, ◌⊎◌, inl, inr, List, [], ◌∷◌, ◌++◌, length, take, get_or, set, replicate, ℤ, Option, None, Some, refl, sym, ap, ◌∙◌, subst, append-nil, arith}
use Rattle.std.specs.Prelude.{◌≢◌, slice_get}
use Rattle.std.proofs.lemmas.Option.{slice_get_within}
use Rattle.std.proofs.lemmas.List.{take-append-le, take_all, get_or-set_same, get_or-set_other, length-append}
use Rattle.std.proofs.lemmas.Bool.Decides.{eqb_tells}
use Rattle.spec_core.specs.declared.world.World.{World}
use Rattle.spec_core.specs.declared.world.Call.{Call}
use Rattle.spec_core.specs.Specification.{Specification}
use Rattle.spec_core.specs.Meaning.{broken_at}
use Rattle.executions.specs.Orders.{Event, MayFollow, IsOrder}
use Rattle.executions.specs.Executions.{state_after}
use Rattle.executions.specs.Convergence.{system_of}
use Rattle.executions.proofs.Growth.{get_last, no_events, state_still, state_more}
use Rattle.effectors.specs.Effect.{after as effect_of}
use Rattle.replica_replay.proofs.Taking.{get_map}
use Rattle.replica_replay.specs.declared.step.Step.{Step}
use Rattle.replica_replay.specs.declared.step.Step.TheVariants as step
use Rattle.replica_replay.specs.declared.step.StepRefused.{StepRefused}
use Rattle.replica_replay.specs.Held.{Held, none_held, IsHeld}
use Rattle.replica_replay.specs.Steps.{accepted, state_of, operation_named, replica_with, decided, named_outcome, found_outcome, called, took, outcome}
use Rattle.replay_text.specs.Course.{replica_of, state_at}
use Rattle.replay_text.specs.Asked.{HoldsAt, AllHeld, OthersHeld, IsFrontElsewhere, LedBy, Grows}

absent : {X : Type 0} (x : X) → None ≡ Some x → ⊥
absent x h = cc

-- ---- what an accepted step leaves

decided_is : (why : Option StepRefused) (n e : ℕ) (next after : Held) → decided why n next ≡ accepted e after → (n ≡ e) × (next ≡ after)
decided_is None n e next after h = (cc h, cc h)
decided_is (Some why) n e next after h = absurd (cc h)

module _ (d : Specification) (w : World) (held : Held) (replica e : ℕ) (after : Held) where
  called_grows : (name : List ℕ) (args : List ℤ) (o : Option (List ℕ)) → slice_get held.taken replica ≡ o → called d w name args (replica_with held replica o) ≡ accepted e after → Grows held replica e after
  called_grows name args None q h = absurd (cc h)
  called_grows name args (Some taken) q h = by (operation_named d name) h
    where
      by : (op : Option ℕ) → named_outcome d w (record { held = held; replica = replica; taken = taken }) args op ≡ accepted e after → Grows held replica e after
      by None h = absurd (cc h)
      by (Some op) h =
          let event : Event Call = record { call = record { op = op; args = args }; seen = taken } in
          let next : Held = record { events = held.events ++ event ∷ []; taken = set held.taken replica (taken ++ length held.events ∷ []) } in
          let grown : Grows held replica (length held.events) next = record { taken = taken; it = event; more = event ∷ []; here = q; taken_is = refl; events_is = refl; stands = get_last held.events event } in
          let same = decided_is _ (length held.events) e next after h in
          subst (λ (n : ℕ). Grows held replica n after) same.0 (subst (Grows held replica (length held.events)) same.1 grown)

  took_grows : (event : ℕ) (o : Option (List ℕ)) → slice_get held.taken replica ≡ o → took d w event (replica_with held replica o) ≡ accepted e after → Grows held replica e after
  took_grows event None q h = absurd (cc h)
  took_grows event (Some taken) q h = by (slice_get held.events event) refl h
    where
      by : (o : Option (Event Call)) → slice_get held.events event ≡ o → found_outcome d w (record { held = held; replica = replica; taken = taken }) event o ≡ accepted e after → Grows held replica e after
      by None s h = absurd (cc h)
      by (Some found) s h =
          let next : Held = record { events = held.events; taken = set held.taken replica (taken ++ event ∷ []) } in
          let grown : Grows held replica event next = record { taken = taken; it = found; more = []; here = q; taken_is = refl; events_is = sym (append-nil held.events); stands = s } in
          let same = decided_is _ event e next after h in
          subst (λ (n : ℕ). Grows held replica n after) same.0 (subst (Grows held replica event) same.1 grown)

grows : (d : Specification) (w : World) (held : Held) (s : Step) (e : ℕ) (after : Held) → outcome d w held s ≡ accepted e after → Grows held (replica_of s) e after
grows d w held (step.Call replica name args) e after h = called_grows d w held replica e after name args (slice_get held.taken replica) refl h
grows d w held (step.Take replica event) e after h = took_grows d w held replica e after event (slice_get held.taken replica) refl h

-- ---- fronts of orders

get_take : {X : Type 0} (k : ℕ) (xs : List X) (i : ℕ) (x : X) → slice_get (take k xs) i ≡ Some x → (slice_get xs i ≡ Some x) × (take i (take k xs) ≡ take i xs)
get_take zero xs i x h = absurd (absent x h)
get_take (suc k) [] i x h = absurd (absent x h)
get_take (suc k) (y ∷ ys) zero x h = (h, refl)
get_take (suc k) (y ∷ ys) (suc i) x h = let r = get_take k ys i x h in (r.0, ap (λ l. y ∷ l) r.1)

front_order : {C : Type 0} (events : List (Event C)) (order : List ℕ) (k : ℕ) → IsOrder events order → IsOrder events (take k order)
front_order events order k is i e h = let r = get_take k order i e h in subst (λ l. MayFollow events l e) (sym r.1) (is i e r.0)

all_ordered : {C : Type 0} (events : List (Event C)) (all : List (List ℕ)) → ((r : ℕ) (t : List ℕ) → slice_get all r ≡ Some t → IsOrder events t) → (r : ℕ) → IsOrder events (get_or all r [])
all_ordered events [] f r = no_events events
all_ordered events (t ∷ ts) f zero = f zero t refl
all_ordered events (t ∷ ts) f (suc r) = all_ordered events ts (λ q. f (suc q)) r

there : (all : List (List ℕ)) (r : ℕ) (t : List ℕ) → slice_get all r ≡ Some t → get_or all r [] ≡ t
there [] r t h = absurd (absent t h)
there (x ∷ xs) zero t h = cc h
there (x ∷ xs) (suc r) t h = there xs r t h

split_at : (a b : ℕ) → (a ≤ b) ⊎ (b ≤ a)
split_at zero b = inl (omega arith)
split_at (suc a) zero = inr (omega arith)
split_at (suc a) (suc b) = elim (split_at a b) [ inl h ↦ inl (omega (arith, h)) | inr h ↦ inr (omega (arith, h)) ]

module _ (d : Specification) (w : World) (held after : Held) (replica e : ℕ) (is : IsHeld d w held) (all : AllHeld d w held) (g : Grows held replica e after) where
  -- the state after a front of an old order stays
  still : (r k : ℕ) → state_of d w after (take k (get_or held.taken r [])) ≡ state_of d w held (take k (get_or held.taken r []))
  still r k =
      ap (λ (es : List (Event Call)). state_after (system_of d w) es (take k (get_or held.taken r []))) g.events_is
      ∙ state_still (system_of d w) held.events g.more (take k (get_or held.taken r [])) (front_order held.events (get_or held.taken r []) k (all_ordered held.events held.taken is.orders r))

  still_holds : (r k : ℕ) → broken_at d w (state_of d w after (take k (get_or held.taken r []))) ≡ None
  still_holds r k = ap (broken_at d w) (still r k) ∙ all r k

  pub others_held : OthersHeld d w after replica
  others_held r k off =
      ap (λ (l : List ℕ). broken_at d w (state_of d w after (take k l))) (ap (λ (a : List (List ℕ)). get_or a r []) g.taken_is ∙ get_or-set_other held.taken replica r _ [] off)
      ∙ still_holds r k

  own_order : get_or after.taken replica [] ≡ g.taken ++ e ∷ []
  own_order = ap (λ (a : List (List ℕ)). get_or a replica []) g.taken_is ∙ get_or-set_same held.taken replica _ [] (slice_get_within held.taken replica g.taken g.here)

  own_held : broken_at d w (state_at d w after replica) ≡ None → (k : ℕ) → HoldsAt d w after replica k
  own_held now k = elim (split_at k (length g.taken)) [
    | inl few ↦ ap (λ (l : List ℕ). broken_at d w (state_of d w after l)) (ap (take k) own_order ∙ take-append-le k g.taken (e ∷ []) few ∙ ap (take k) (sym (there held.taken replica g.taken g.here))) ∙ still_holds replica k
    | inr many ↦ by_case k many
  ]
    where
      by_case : (k : ℕ) → length g.taken ≤ k → HoldsAt d w after replica k
      by_case k many = elim (eqb_tells k (length g.taken)) [
        | inl same ↦ ap (λ (l : List ℕ). broken_at d w (state_of d w after l)) (ap (take k) own_order ∙ take-append-le k g.taken (e ∷ []) (let e = same.1 in omega (arith, e)) ∙ ap (take k) (sym (there held.taken replica g.taken g.here))) ∙ still_holds replica k
        | inr more ↦ ap (λ (l : List ℕ). broken_at d w (state_of d w after l)) (ap (take k) own_order ∙ take_all k (g.taken ++ e ∷ []) (longer more.1) ∙ sym own_order) ∙ now
      ]
        where
          longer : (k ≢ length g.taken) → length (g.taken ++ e ∷ []) ≤ k
          longer off = rw (length-append g.taken (e ∷ [])) (between k (length g.taken) many off)
            where
              between : (a b : ℕ) → b ≤ a → a ≢ b → b + 1 ≤ a
              between a b h off = omega (arith, h, off)

  pub all_held : broken_at d w (state_at d w after replica) ≡ None → AllHeld d w after
  all_held now r k = elim (eqb_tells r replica) [
    | inl same ↦ subst (λ (q : ℕ). HoldsAt d w after q k) (sym same.1) (own_held now k)
    | inr off ↦ others_held r k off.1
  ]

  -- the event has led the replica here from a state in which the invariants held
  pub led_by : LedBy d w after replica e
  led_by = record {
    before = state_of d w after g.taken;
    call = g.it.call;
    is_call = get_map (λ (v : Event Call). v.call) after.events e g.it g.stands;
    leads = ap (state_of d w after) own_order ∙ state_more (system_of d w) after.events g.taken e
        ∙ ap (λ (o : Option (Event Call)). elim o [ None ↦ state_of d w after g.taken | Some event ↦ effect_of d w event.call (state_of d w after g.taken) ]) g.stands;
    held_before =
        ap (λ (l : List ℕ). broken_at d w (state_of d w after l)) (sym (ap (take (length g.taken)) (there held.taken replica g.taken g.here) ∙ take_all (length g.taken) g.taken (let le : length g.taken ≤ length g.taken = omega arith in le)))
        ∙ still_holds replica (length g.taken);
  }

-- where a step was accepted, its event is there, and has led its replica from a state in which the invariants held
pub event_within : (d : Specification) (w : World) (held after : Held) (s : Step) (e : ℕ) → outcome d w held s ≡ accepted e after → e < length after.events
event_within d w held after s e went = let g = grows d w held s e after went in slice_get_within after.events e g.it g.stands

pub led_here : (d : Specification) (w : World) (held after : Held) (s : Step) (e : ℕ) → IsHeld d w held → AllHeld d w held → outcome d w held s ≡ accepted e after → LedBy d w after (replica_of s) e
led_here d w held after s e is all went = led_by d w held after (replica_of s) e is all (grows d w held s e after went)

-- where a step was accepted, the states that other replicas have had break no invariant
pub others_hold : (d : Specification) (w : World) (held after : Held) (s : Step) (e : ℕ) → IsHeld d w held → AllHeld d w held → outcome d w held s ≡ accepted e after → OthersHeld d w after (replica_of s)
others_hold d w held after s e is all went = others_held d w held after (replica_of s) e is all (grows d w held s e after went)

-- and where its replica's state breaks none, all that were reached break none
pub all_hold : (d : Specification) (w : World) (held after : Held) (s : Step) (e : ℕ) → IsHeld d w held → AllHeld d w held → outcome d w held s ≡ accepted e after
    → broken_at d w (state_at d w after (replica_of s)) ≡ None → AllHeld d w after
all_hold d w held after s e is all went now = all_held d w held after (replica_of s) e is all (grows d w held s e after went) now

-- a replica that has taken what another has taken first is in a state that the other one has had
pub front_holds : (d : Specification) (w : World) (held : Held) (replica : ℕ) → OthersHeld d w held replica → IsFrontElsewhere held replica → None ≡ broken_at d w (state_at d w held replica)
front_holds d w held replica others f =
    sym (ap (λ (l : List ℕ). broken_at d w (state_of d w held l)) f.front ∙ others f.other f.count f.differs)

-- before the first step
first_taken : (n r k : ℕ) → let none : List ℕ = [] in take k (get_or (replicate n none) r []) ≡ []
first_taken zero r k = nothing k
  where
    nothing : (k : ℕ) → let none : List ℕ = [] in take k none ≡ []
    nothing zero = refl
    nothing (suc k) = refl
first_taken (suc n) zero k = nothing k
  where
    nothing : (k : ℕ) → let none : List ℕ = [] in take k none ≡ []
    nothing zero = refl
    nothing (suc k) = refl
first_taken (suc n) (suc r) k = first_taken n r k

pub first_hold : (d : Specification) (w : World) (held : Held) (n : ℕ) → held ≡ none_held n → broken_at d w (state_at d w held 0) ≡ None → AllHeld d w held
first_hold d w held n is now r k =
    subst (λ (h : Held). HoldsAt d w h r k) (sym is)
    (ap (λ (l : List ℕ). broken_at d w (state_of d w (none_held n) l)) (first_taken n r k ∙ sym (first_taken n 0 1) ∙ one n) ∙ subst (λ (h : Held). broken_at d w (state_at d w h 0) ≡ None) is now)
  where
    one : (n : ℕ) → let none : List ℕ = [] in take 1 (get_or (replicate n none) 0 []) ≡ get_or (replicate n none) 0 []
    one zero = refl
    one (suc n) = refl
