-- A state that broke no invariant when it was asked is one that its replica has had, whatever happens since.
use Rattle.std.proofs.Common.{◌≡◌, ℕ, zero, suc, ◌+◌, ◌<◌, ◌≤◌, ◌⊎◌, inl, inr, List, [], ◌∷◌, ◌++◌, length, map, set, take, drop, get_or, replicate, Option, None, Some, refl, sym, ap, ◌∙◌, subst, append-nil, arith}
use Rattle.std.specs.Prelude.{slice_get}
use Rattle.std.proofs.Math.ListN.{drop_of_length-le}
use Rattle.std.proofs.lemmas.List.{take-append-le, take-append-drop, take_all, drop_more, length-append, map-append}
use Rattle.std.proofs.lemmas.Option.{slice_get_within}
use Rattle.spec_core.specs.declared.world.World.{World}
use Rattle.spec_core.specs.declared.world.Call.{Call}
use Rattle.spec_core.specs.Specification.{Specification}
use Rattle.spec_core.specs.State.{Listing, Reads, reads}
use Rattle.spec_core.specs.Meaning.{initial, broken_at}
use Rattle.effectors.specs.Effect.{after}
use Rattle.executions.specs.Orders.{Event, MayFollow, IsOrder}
use Rattle.executions.specs.Executions.{state_after}
use Rattle.executions.specs.Convergence.{system_of}
use Rattle.executions.proofs.Growth.{get_front, state_still, state_more}
use Rattle.token_protocol.specs.declared.message.Request.{Request}
use Rattle.token_protocol.specs.declared.message.Message.{Message}
use Rattle.token_protocol.specs.declared.network.NetStep.{NetStep}
use Rattle.token_protocol.specs.declared.network.NetStep.TheVariants as step
use Rattle.token_protocol.specs.Node.{Run, ran, void, Begin, refused, waits, runs, begin, Hear, not_heard, awaits, grants, takes, notes, old, hear}
use Rattle.token_protocol.specs.Network.{Network, Replica, Happened, events_of, run_at, begin_at, hear_at, begins, asks, hears_message, hears, number_of, outcome, network_after, first_network}
use Rattle.token_protocol.specs.Executed.{IsExecuted}
use Rattle.token_protocol.proofs.Places.{get_set, get_map, map_get}
use Rattle.token_core.specs.HeldNet.{HeldNet, HeldReplica, replica_of, network_held}
use Rattle.simulate_text.specs.declared.simulation.Simulation.{Simulation}
use Rattle.simulate_text.specs.Course.{Simulated, broken_of}
use Rattle.simulate_text.specs.Unbroken.{IsUnbrokenAfter, AreUnbrokenIn, AreUnbroken, StaysUnbroken, IsLastCall}
use Rattle.simulate_text.specs.Reached.{IsOf, IsFirst, IsAsked}
use Rattle.simulate_text.proofs.Carrying.{at_number, replica_here}

-- ---- a network grows at its ends

-- There may be more events, and each replica may have taken more.
pub record GrowsTo (net next : Network) : Type 0 where
  pub more : List Happened
  pub happened_is : next.happened ≡ net.happened ++ more
  pub taken_is : (r : ℕ) (now : Replica) → slice_get next.replicas r ≡ Some now → (at : Replica) × (l : List ℕ) × (slice_get net.replicas r ≡ Some at) × (now.taken ≡ at.taken ++ l)

grows_same : (net : Network) → GrowsTo net net
grows_same net = record { more = []; happened_is = sym (append-nil net.happened); taken_is = λ r now here. (now, [], here, sym (append-nil now.taken)) }

module _ (net : Network) (r : ℕ) (at : Replica) (here : slice_get net.replicas r ≡ Some at) where
  grows_at : (next : Network) (new : Replica) (l : List ℕ) (more : List Happened) → new.taken ≡ at.taken ++ l → next.replicas ≡ set net.replicas r new → next.happened ≡ net.happened ++ more → GrowsTo net next
  grows_at next new l more taken replicas happened = record {
    more = more;
    happened_is = happened;
    taken_is = λ s now h. elim (get_set net.replicas r s new now (ap (λ (x : List Replica). slice_get x s) (sym replicas) ∙ h)) [
      | inl p ↦ (at, l, ap (slice_get net.replicas) p.0 ∙ here, ap (λ (a : Replica). a.taken) (sym p.1) ∙ taken)
      | inr q ↦ (now, [], q, sym (append-nil now.taken))
    ];
  }

  run_grows : (it : Run) → GrowsTo net (network_after net (run_at net r at it))
  run_grows (ran id call seen node) =
      grows_at (network_after net (run_at net r at (ran id call seen node))) (record { node = node; taken = at.taken ++ length net.happened ∷ [] }) (length net.happened ∷ [])
      ((let h : Happened = record { id = id; event = record { call = call; seen = at.taken } } in h) ∷ []) refl refl refl
  run_grows (void cause id node) =
      grows_at (network_after net (run_at net r at (void cause id node))) (record { node = node; taken = at.taken }) [] [] (sym (append-nil at.taken)) refl (sym (append-nil net.happened))

  begin_grows : (it : Begin) → GrowsTo net (network_after net (begin_at net r at it))
  begin_grows (refused cause) = grows_same net
  begin_grows (waits request node) =
      grows_at (network_after net (begin_at net r at (waits request node))) (record { node = node; taken = at.taken }) [] [] (sym (append-nil at.taken)) refl (sym (append-nil net.happened))
  begin_grows (runs it) = run_grows it

  hear_grows : (it : Hear) → GrowsTo net (network_after net (hear_at net r at it))
  hear_grows (not_heard cause) = grows_same net
  hear_grows (awaits id) = grows_same net
  hear_grows (grants it) = run_grows it
  hear_grows (takes id node) =
      let next : Network = network_after net (hear_at net r at (takes id node)) in
      grows_at next (record { node = node; taken = at.taken ++ number_of net.happened id ∷ [] }) (number_of net.happened id ∷ []) [] refl refl (sym (append-nil net.happened))
  hear_grows (notes node) =
      grows_at (network_after net (hear_at net r at (notes node))) (record { node = node; taken = at.taken }) [] [] (sym (append-nil at.taken)) refl (sym (append-nil net.happened))
  hear_grows old = grows_same net

module _ (d : Specification) (w : World) (net : Network) where
  begins_grows : (r : ℕ) (call : Call) (o : Option Replica) → slice_get net.replicas r ≡ o → GrowsTo net (network_after net (begins d w net r call o))
  begins_grows r call None here = grows_same net
  begins_grows r call (Some at) here = begin_grows net r at here (begin d w at.node call)

  asks_grows : (o : Option Request) → GrowsTo net (network_after net (asks d w net o))
  asks_grows None = grows_same net
  asks_grows (Some request) = record {
    more = [];
    happened_is = sym (append-nil net.happened);
    taken_is = λ r now here. (now, [], here, sym (append-nil now.taken));
  }

  message_grows : (r : ℕ) (at : Replica) (m : Option Message) → slice_get net.replicas r ≡ Some at → GrowsTo net (network_after net (hears_message d w net r at m))
  message_grows r at None here = grows_same net
  message_grows r at (Some m) here = hear_grows net r at here (hear d w at.node m)

  hears_grows : (r : ℕ) (m : Option Message) (o : Option Replica) → slice_get net.replicas r ≡ o → GrowsTo net (network_after net (hears d w net r m o))
  hears_grows r m None here = grows_same net
  hears_grows r m (Some at) here = message_grows r at m here

  pub step_grows : (s : NetStep) → GrowsTo net (network_after net (outcome d w net s))
  step_grows (step.Begin r call) = begins_grows r call (slice_get net.replicas r) refl
  step_grows (step.Ask q) = asks_grows (slice_get net.requests q)
  step_grows (step.Hear r m) = hears_grows r (slice_get net.messages m) (slice_get net.replicas r) refl

-- ---- what was asked stays so

-- a front of an order is one
front_order : {C : Type 0} (events : List (Event C)) (front more : List ℕ) → IsOrder events (front ++ more) → IsOrder events front
front_order events front more is i e h =
    let lt = slice_get_within front i e h in
    subst (λ (l : List ℕ). MayFollow events l e) (take-append-le i front more (let le : i ≤ length front = omega (arith, lt) in le)) (is i e (get_front front more i e h))

set_tells : (l : List ℕ) (i j v : ℕ) → (get_or (set l i v) j 0 ≡ get_or l j 0) ⊎ ((j ≡ i) × (get_or (set l i v) j 0 ≡ v))
set_tells [] i j v = inl refl
set_tells (x ∷ l) zero zero v = inr (refl, refl)
set_tells (x ∷ l) zero (suc j) v = inl refl
set_tells (x ∷ l) (suc i) zero v = inl refl
set_tells (x ∷ l) (suc i) (suc j) v = elim (set_tells l i j v) [ inl e ↦ inl e | inr p ↦ inr (ap suc p.0, p.1) ]

none_counted : (n r : ℕ) → let none : ℕ = 0 in get_or (replicate n none) r none ≡ none
none_counted zero r = refl
none_counted (suc n) zero = refl
none_counted (suc n) (suc r) = none_counted n r

module _ (d : Specification) (w : World) where
  -- before the first step nothing else is known than that the initial state breaks none
  pub first_unbroken : (net : Network) (counts : List ℕ) (n : ℕ) → counts ≡ replicate n 0 → broken_at d w (reads (initial d w)) ≡ None → AreUnbrokenIn d w net counts
  first_unbroken net counts n is none r at here =
      subst (IsUnbrokenAfter d w (events_of net) at.taken) (sym (ap (λ (l : List ℕ). get_or l r 0) is ∙ none_counted n r))
      (record { within = omega arith; holds = none })

  -- a network that grows keeps what is known
  pub unbroken_still : (net next : Network) (counts : List ℕ) → IsExecuted d w net → GrowsTo net next → AreUnbrokenIn d w net counts → AreUnbrokenIn d w next counts
  unbroken_still net next counts is grows known r now here =
      let g = grows.taken_is r now here in
      let at = g.0 in
      let k = get_or counts r 0 in
      let was = known r at g.2 in
      let events : events_of next ≡ events_of net ++ map (λ (h : Happened). h.event) grows.more
      = ap (map (λ (h : Happened). h.event)) grows.happened_is ∙ map-append (λ (h : Happened). h.event) net.happened grows.more in
      let front : take k now.taken ≡ take k at.taken = ap (take k) g.3 ∙ take-append-le k at.taken g.1 was.within in
      let order : IsOrder (events_of net) (take k at.taken)
      = front_order (events_of net) (take k at.taken) (drop k at.taken) (subst (IsOrder (events_of net)) (sym (take-append-drop k at.taken)) (is.orders r at g.2)) in
      let longer = ap length g.3 ∙ length-append at.taken g.1 in
      let within = was.within in
      record {
        within = omega (arith, longer, within);
        holds = ap (λ (l : List ℕ). broken_at d w (state_after (system_of d w) (events_of next) l)) front
            ∙ ap (λ (es : List (Event Call)). broken_at d w (state_after (system_of d w) es (take k at.taken))) events
            ∙ ap (broken_at d w) (state_still (system_of d w) (events_of net) (map (λ (h : Happened). h.event) grows.more) (take k at.taken) order)
            ∙ was.holds;
      }

  -- the state of a replica was asked, and broke none
  pub unbroken_more : (net : Network) (counts : List ℕ) (r count : ℕ) → IsExecuted d w net → AreUnbrokenIn d w net counts
      → ((at : Replica) → slice_get net.replicas r ≡ Some at → (count ≡ length at.taken) × (broken_at d w at.node.state ≡ None)) → AreUnbrokenIn d w net (set counts r count)
  unbroken_more net counts r count is known now s at here = elim (set_tells counts r s count) [
    | inl same ↦ subst (IsUnbrokenAfter d w (events_of net) at.taken) (sym same) (known s at here)
    | inr p ↦ subst (IsUnbrokenAfter d w (events_of net) at.taken) (sym p.1) (whole (now at (subst (λ (q : ℕ). slice_get net.replicas q ≡ Some at) p.0 here)))
  ]
    where
      whole : (count ≡ length at.taken) × (broken_at d w at.node.state ≡ None) → IsUnbrokenAfter d w (events_of net) at.taken count
      whole known = let same = known.0 in let le : length at.taken ≤ count = omega (arith, same) in record {
        within = omega (arith, same);
        holds = ap (λ (l : List ℕ). broken_at d w (state_after (system_of d w) (events_of net) l)) (take_all count at.taken le)
            ∙ ap (broken_at d w) (sym (is.states s at here)) ∙ known.1;
      }

  -- the last call has led the replica here from a state that was asked
  pub led_here : (net : Network) (r count : ℕ) (at : Replica) (call : Call) → IsExecuted d w net → slice_get net.replicas r ≡ Some at → IsLastCall (events_of net) at.taken count call
      → at.node.state ≡ after d w call (state_after (system_of d w) (events_of net) (take count at.taken))
  led_here net r count at call is here l =
      let before : Reads = state_after (system_of d w) (events_of net) (take count at.taken) in
      is.states r at here
      ∙ ap (state_after (system_of d w) (events_of net)) l.taken_is
      ∙ state_more (system_of d w) (events_of net) (take count at.taken) l.last
      ∙ ap (λ (o : Option (Event Call)). elim o [ None ↦ before | Some event ↦ after d w event.call before ]) l.stands
      ∙ ap (λ (c : Call). after d w c before) l.call_is

-- one event more than so many was taken
pub last_taken : (taken : List ℕ) (k z : ℕ) → k < length taken → length taken ≤ k + 1 → taken ≡ take k taken ++ get_or taken k z ∷ []
last_taken taken k z lt le =
    sym (take-append-drop k taken)
    ∙ ap (λ (l : List ℕ). take k taken ++ l) (drop_more taken k z lt ∙ ap (λ (l : List ℕ). get_or taken k z ∷ l) (drop_of_length-le taken le))

-- ---- networks that are held

-- a step that was carried out keeps what is known
pub stays_after : (net next : HeldNet) (s : NetStep) → IsExecuted net.spec net.world (network_held net) → network_held next ≡ network_after (network_held net) (outcome net.spec net.world (network_held net) s)
    → next.spec ≡ net.spec → next.world ≡ net.world → StaysUnbroken net next
stays_after net next s is gone spec world counts known =
    let d = net.spec in let w = net.world in let before = network_held net in
    let stays : AreUnbrokenIn d w (network_held next) counts
    = subst (λ (n : Network). AreUnbrokenIn d w n counts) (sym gone) (unbroken_still d w before (network_after before (outcome d w before s)) counts is (step_grows d w before s) known) in
    subst (λ (v : World). AreUnbrokenIn next.spec v (network_held next) counts) (sym world) (subst (λ (e : Specification). AreUnbrokenIn e w (network_held next) counts) (sym spec) stays)

-- before the first step, where the initial state breaks none
pub first_asked_none : {R : Type 0} (d : Specification) (w : World) (n : ℕ) (sim : Simulation R) → IsFirst d w n sim → broken_at d w (reads (initial d w)) ≡ None → IsAsked d w sim
first_asked_none d w n sim first none =
    let net = sim.net in let counts = sim.unbroken.items in
    let known : AreUnbrokenIn d w (network_held net) counts = first_unbroken d w (network_held net) counts n first.unknown none in
    record {
      of = first.of;
      unbroken = subst (λ (v : World). AreUnbrokenIn net.spec v (network_held net) counts) (sym first.of.world) (subst (λ (e : Specification). AreUnbrokenIn e w (network_held net) counts) (sym first.of.spec) known);
    }

-- what a replica has taken, where it was read
taken_read : (net : HeldNet) (r : ℕ) (taken : List ℕ) → ((at : HeldReplica) → slice_get net.replicas r ≡ Some at → taken ≡ at.taken) → (at : Replica) → slice_get (network_held net).replicas r ≡ Some at → taken ≡ at.taken
taken_read net r taken is at here = let held = map_get replica_of net.replicas r at here in is held.0 held.1 ∙ ap (λ (a : Replica). a.taken) held.2

-- the call that was found is the last one
pub last_here : (net : HeldNet) (r count z : ℕ) (taken : List ℕ) (h : Happened) → ((at : HeldReplica) → slice_get net.replicas r ≡ Some at → taken ≡ at.taken) → count < length taken → length taken ≤ count + 1
    → slice_get net.happened (get_or taken count z) ≡ Some h → (at : Replica) → slice_get (network_held net).replicas r ≡ Some at → IsLastCall (events_of (network_held net)) at.taken count h.event.call
last_here net r count z taken h is lt le stands at here = record {
  last = get_or taken count z;
  event = h.event;
  taken_is = subst (λ (l : List ℕ). l ≡ take count l ++ get_or taken count z ∷ []) (taken_read net r taken is at here) (last_taken taken count z lt le);
  stands = get_map (λ (x : Happened). x.event) net.happened (get_or taken count z) h stands;
  call_is = refl;
}

-- what is asked after the last call is the first invariant that its replica's state breaks
module _ (net : HeldNet) (r count : ℕ) (s : Listing) (call : Call) (result : Option ℕ) (is : IsExecuted net.spec net.world (network_held net)) where
  abbrev Answers : Specification → World → Type 0
  Answers d w = (before : Reads) → reads s ≡ after d w call before → broken_at d w before ≡ None → result ≡ broken_at d w (reads s)

  pub broken_by : (d : Specification) (w : World) → d ≡ net.spec → w ≡ net.world → ((at : HeldReplica) → slice_get net.replicas r ≡ Some at → s ≡ at.node.state)
      → ((at : Replica) → slice_get (network_held net).replicas r ≡ Some at → IsLastCall (events_of (network_held net)) at.taken count call) → Answers d w
      → (at : Replica) → slice_get (network_held net).replicas r ≡ Some at → IsUnbrokenAfter net.spec net.world (events_of (network_held net)) at.taken count
      → result ≡ broken_at net.spec net.world at.node.state
  broken_by d w spec world state last answers at here known =
      let held = map_get replica_of net.replicas r at here in
      let same : reads s ≡ at.node.state = ap reads (state held.0 held.1) ∙ ap (λ (a : Replica). a.node.state) held.2 in
      let asked : Answers net.spec net.world = subst (λ (v : World). Answers net.spec v) world (subst (λ (e : Specification). Answers e w) spec answers) in
      let led = led_here net.spec net.world (network_held net) r count at call is here (last at here) in
      asked (state_after (system_of net.spec net.world) (events_of (network_held net)) (take count at.taken)) (same ∙ led) known.holds
      ∙ ap (broken_at net.spec net.world) same

-- ---- asking

module _ (net : HeldNet) (r count : ℕ) (counts : List ℕ) (o : Option ℕ) (same : get_or counts r 0 ≡ count)
    (is : (at : Replica) → slice_get (network_held net).replicas r ≡ Some at → IsUnbrokenAfter net.spec net.world (events_of (network_held net)) at.taken count → o ≡ broken_at net.spec net.world at.node.state) where
  asked_at_replica : AreUnbroken net counts → (at : Replica) → slice_get (network_held net).replicas r ≡ Some at → o ≡ broken_at net.spec net.world at.node.state
  asked_at_replica known at here = is at here (subst (IsUnbrokenAfter net.spec net.world (events_of (network_held net)) at.taken) same (known r at here))

  -- what was found is the first invariant that the replica's state breaks
  pub asked_is : r < length net.replicas → (d : Specification) (w : World) → IsOf d w net → AreUnbroken net counts → o ≡ broken_of d w (slice_get (network_held net).replicas r)
  asked_is lt d w of known =
      let found = at_number net r lt in
      let at = replica_of found.0 in
      let here = replica_here net r found.0 found.1 in
      asked_at_replica known at here
      ∙ ap (λ (x : Specification). broken_at x net.world at.node.state) of.spec
      ∙ ap (λ (v : World). broken_at d v at.node.state) of.world
      ∙ sym (ap (broken_of d w) here)

  -- where it breaks none, that is known from then on
  pub asked_none : o ≡ None → IsExecuted net.spec net.world (network_held net) → (taken : List ℕ) (number : ℕ) → ((at : HeldReplica) → slice_get net.replicas r ≡ Some at → taken ≡ at.taken) → number ≡ length taken
      → AreUnbroken net counts → AreUnbroken net (set counts r number)
  asked_none none executed taken number read long known =
      unbroken_more net.spec net.world (network_held net) counts r number executed known
      (λ at here. (long ∙ ap length (taken_read net r taken read at here), sym (asked_at_replica known at here) ∙ none))

-- before the first step
abbrev simulated : Network → List ℕ → List ℕ → Simulated
simulated net dones numbers = record { net = net; dones = dones; grants = numbers }

pub first_of : {R : Type 0} (d : Specification) (w : World) (n : ℕ) (sim : Simulation R) → sim.net.spec ≡ d → sim.net.world ≡ w → network_held sim.net ≡ first_network sim.net.spec sim.net.world n
    → sim.dones.items ≡ [] → sim.grants.items ≡ replicate n 0 → sim.unbroken.items ≡ replicate n 0 → IsFirst d w n sim
first_of d w n sim spec world net dones numbers unknown =
    let first : network_held sim.net ≡ first_network d w n
    = net ∙ ap (λ (x : Specification). first_network x sim.net.world n) spec ∙ ap (λ (v : World). first_network d v n) world in
    record {
      of = record { spec = spec; world = world };
      first = ap (λ (x : Network). simulated x sim.dones.items sim.grants.items) first
          ∙ ap (λ (l : List ℕ). simulated (first_network d w n) l sim.grants.items) dones
          ∙ ap (λ (l : List ℕ). simulated (first_network d w n) [] l) numbers;
      unknown = unknown;
    }
