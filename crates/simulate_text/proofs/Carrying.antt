-- What the code of a simulation carries out, in the words of the definitions.
use Rattle.std.proofs.Common.{◌≡◌, ℕ, ◌+◌, ◌<◌, ◌≤◌, inl, inr, Bool, true, false, Result, List, [], ◌∷◌, ◌++◌, length, map, set, get_or, Option, None, Some, refl, sym, ap, ◌∙◌, subst, append_assoc, append-nil, add-one, arith}
use Rattle.std.specs.Prelude.{slice_get, nat_lt, cond, ℤ}
use Rattle.std.specs.Option.{is_some}
use Rattle.std.proofs.lemmas.Result.{IfOk-weaker}
use Rattle.std.proofs.lemmas.List.{length-map}
use Rattle.std.proofs.lemmas.Bool.{lt-ltb}
use Rattle.std.proofs.lemmas.Option.{slice_get_past, slice_get_cases}
use Rattle.spec_core.specs.declared.world.World.{World}
use Rattle.spec_core.specs.declared.world.Call.{Call}
use Rattle.spec_core.specs.Specification.{Specification}
use Rattle.spec_core.specs.State.{Listing, reads}
use Rattle.spec_core.specs.Meaning.{broken_at}
use Rattle.replica_replay.specs.declared.step.Step.{Step}
use Rattle.replica_replay.specs.declared.step.Step.TheVariants as recorded
use Rattle.replica_replay.specs.Steps.{operation_named}
use Rattle.token_protocol.specs.declared.network.NetStep.TheVariants as step
use Rattle.token_protocol.specs.declared.network.NetDid.{NetDid}
use Rattle.token_protocol.specs.Network.{Network, outcome, network_after}
use Rattle.token_protocol.proofs.Places.{get_map}
use Rattle.token_core.specs.HeldNet.{HeldNet, HeldReplica, replica_of, network_held}
use Rattle.simulate_text.specs.declared.said.Said.{Said}
use Rattle.simulate_text.specs.declared.said.SimulateRefused.{SimulateRefused}
use Rattle.simulate_text.specs.declared.said.SimulateRefused.TheVariants as refusal
use Rattle.simulate_text.specs.Lines.{said_lines}
use Rattle.simulate_text.specs.declared.said.Stop.{Stop}
use Rattle.simulate_text.specs.declared.said.Stop.TheVariants as stop
use Rattle.simulate_text.specs.declared.simulation.Simulation.{Simulation}
use Rattle.simulate_text.specs.Course.{Simulated, Part, GrantHeard, goes_on, stops, saying, with_net, stepped, told, broken_of, unless_broken, asked_at, heard_by, granted, hears_grant, asked_once, asks, begun, begins, is_waiting, tries_again, taken, takes, calls, part_of, replica_of as caller}
use Rattle.simulate_text.specs.Reached.{simulated_in, IsOf, IsAsked, IsGone, IsPart, IsDone, StepDone, IsStep, Does}

-- ---- replicas

pub replica_here : (net : HeldNet) (r : ℕ) (at : HeldReplica) → slice_get net.replicas r ≡ Some at → slice_get (network_held net).replicas r ≡ Some (replica_of at)
replica_here net r at h = get_map replica_of net.replicas r at h

pub replica_count : (net : HeldNet) → length (network_held net).replicas ≡ length net.replicas
replica_count net = length-map net.replicas replica_of

pub replica_past : (net : HeldNet) (r : ℕ) → length net.replicas ≤ r → slice_get (network_held net).replicas r ≡ None
replica_past net r le = slice_get_past (map replica_of net.replicas) r (let same = replica_count net in omega (arith, same, le))

pub at_number : (net : HeldNet) (r : ℕ) → r < length net.replicas → (at : HeldReplica) × (slice_get net.replicas r ≡ Some at)
at_number net r lt = elim (slice_get_cases net.replicas r).1 [ inl x ↦ (x.0, x.2) | inr past ↦ absurd (let le = past.0 in omega (arith, lt, le)) ]

-- what the code of `broken_of` finds
pub broken_here : (d : Specification) (w : World) (net : HeldNet) (r : ℕ) (s : Listing) (result : Option ℕ) → r < length net.replicas → IsOf d w net
    → ((at : HeldReplica) → slice_get net.replicas r ≡ Some at → s ≡ at.node.state) → result ≡ broken_at net.spec net.world (reads s)
    → result ≡ broken_of d w (slice_get (network_held net).replicas r)
broken_here d w net r s result lt of is e =
    let found = at_number net r lt in
    let at = found.0 in
    e ∙ ap (λ (x : Listing). broken_at net.spec net.world (reads x)) (is at found.1)
    ∙ ap (λ (x : Specification). broken_at x net.world (reads at.node.state)) of.spec
    ∙ ap (λ (x : World). broken_at d x (reads at.node.state)) of.world
    ∙ sym (ap (broken_of d w) (replica_here net r at found.1))

pub waiting_here : (net : HeldNet) (r : ℕ) (result : Bool) → r < length net.replicas → ((at : HeldReplica) → slice_get net.replicas r ≡ Some at → result ≡ is_some at.node.waiting)
    → result ≡ is_waiting (slice_get (network_held net).replicas r)
waiting_here net r result lt is =
    let found = at_number net r lt in
    is found.0 found.1 ∙ sym (ap is_waiting (replica_here net r found.0 found.1))

pub none_waits : (net : HeldNet) (r : ℕ) → length net.replicas ≤ r → is_waiting (slice_get (network_held net).replicas r) ≡ false
none_waits net r le = ap is_waiting (replica_past net r le)

-- ---- messages to all

-- one replica more has heard a message
pub hears_more : (d : Specification) (w : World) (m n : ℕ) (first : Network) (mid new : HeldNet) (it : Result NetDid SimulateRefused) → heard_by d w m n first ≡ network_held mid
    → IsGone d w (outcome d w (network_held mid) (step.Hear n m)) (network_held mid) it new → heard_by d w m (n + 1) first ≡ network_held new
hears_more d w m n first mid new it e gone =
    rw (add-one n) (ap (λ (x : Network). network_after x (outcome d w x (step.Hear n m))) e ∙ gone.net_is)

-- ---- parts

-- what is left of a step
abbrev pub step_done : {R : Type 0} → List ℕ → Option Stop → Simulation R → StepDone R
step_done text stop sim = record { text = text; stop = stop; sim = sim }

-- it stops, and nothing was said
pub stopped_part : {R : Type 0} (d : Specification) (w : World) (how : Stop) (sim : Simulation R) → IsAsked d w sim
    → IsPart d w (stops how (simulated_in sim)) sim.said.items (Some how) sim
stopped_part d w how sim asked = record { said_is = append-nil sim.said.items; stop_is = refl; after_is = refl; asked = asked }

-- a part is carried out as one that it is equal to
pub as_part : {R : Type 0} (d : Specification) (w : World) (part other : Part) (before : List Said) (stop : Option Stop) (after : Simulation R) → other ≡ part
    → IsPart d w part before stop after → IsPart d w other before stop after
as_part d w part other before stop after e is = subst (λ (p : Part). IsPart d w p before stop after) (sym e) is

-- A part is carried out where another was, from another simulation on, to which it is equal there.
pub does_from : {E R : Type 0} (r : Result (Option Stop) E) (part other : Specification → World → Simulated → Part) (mid old new : Simulation R) → mid.said.items ≡ old.said.items
    → ((d : Specification) (w : World) → IsAsked d w old → IsAsked d w mid × (other d w (simulated_in old) ≡ part d w (simulated_in mid)))
    → Does part mid new r → Does other old new r
does_from r part other mid old new same e does =
    IfOk-weaker r (λ stop. IsDone part mid new stop) (λ stop. IsDone other old new stop)
    (λ stop does d w asked.
    let mid_part = part d w (simulated_in mid) in
    as_part d w mid_part (other d w (simulated_in old)) old.said.items stop new (e d w asked).1
    (subst (λ (l : List Said). IsPart d w mid_part l stop new) same (does d w (e d w asked).0)))
    does

-- something was said before a part was carried out
pub said_first : {R : Type 0} (d : Specification) (w : World) (what : Said) (part : Part) (before mid : List Said) (stop : Option Stop) (after : Simulation R) → mid ≡ before ++ what ∷ []
    → IsPart d w part mid stop after → IsPart d w (saying what part) before stop after
said_first d w what part before mid stop after e is = record {
  said_is = sym (append_assoc before (what ∷ []) part.said) ∙ ap (λ (l : List Said). l ++ part.said) (sym e) ∙ is.said_is;
  stop_is = is.stop_is;
  after_is = is.after_is;
  asked = is.asked;
}

pub asked_part : (d : Specification) (w : World) (r : ℕ) (sim : Simulated) (next : Part) (o : Option ℕ) → o ≡ broken_of d w (slice_get sim.net.replicas r)
    → asked_at d w r sim next ≡ unless_broken o sim next
asked_part d w r sim next o e = ap (λ (x : Option ℕ). unless_broken x sim next) (sym e)

abbrev pub grant_heard : ℕ → ℕ → Bool → GrantHeard
grant_heard r sent tells = record { replica = r; sent = sent; tells = tells }

module _ (d : Specification) (w : World) (sim : Simulated) (next : Network) where
  -- a replica hears a grant, and answers
  pub hears_part : (r m sent : ℕ) (tells : Bool) (it : Result NetDid SimulateRefused) → length sim.net.messages ≡ sent → told (outcome d w sim.net (step.Hear r m)) ≡ it
      → network_after sim.net (outcome d w sim.net (step.Hear r m)) ≡ next → hears_grant d w r m tells sim ≡ granted d w (grant_heard r sent tells) it (with_net sim next)
  hears_part r m sent tells it a b c =
      let o = outcome d w sim.net (step.Hear r m) in
      ap (λ n. granted d w (grant_heard r n tells) (told o) (stepped sim o)) a
      ∙ ap (λ (x : Result NetDid SimulateRefused). granted d w (grant_heard r sent tells) x (stepped sim o)) b
      ∙ ap (λ (n : Network). granted d w (grant_heard r sent tells) it (with_net sim n)) c

  -- a replica makes a call, and answers
  pub begins_part : (r sent : ℕ) (call : Call) (it : Result NetDid SimulateRefused) → length sim.net.messages ≡ sent → told (outcome d w sim.net (step.Begin r call)) ≡ it
      → network_after sim.net (outcome d w sim.net (step.Begin r call)) ≡ next → begins d w r call sim ≡ begun d w r sent it (with_net sim next)
  begins_part r sent call it a b c =
      let o = outcome d w sim.net (step.Begin r call) in
      ap (λ n. begun d w r n (told o) (stepped sim o)) a
      ∙ ap (λ (x : Result NetDid SimulateRefused). begun d w r sent x (stepped sim o)) b
      ∙ ap (λ (n : Network). begun d w r sent it (with_net sim n)) c

  -- a replica hears the Done of an event, and answers
  pub takes_part : (r e m : ℕ) (it : Result NetDid SimulateRefused) → told (outcome d w sim.net (step.Hear r m)) ≡ it
      → network_after sim.net (outcome d w sim.net (step.Hear r m)) ≡ next → takes d w r e (Some m) sim ≡ taken d w r e it (with_net sim next)
  takes_part r e m it b c =
      let o = outcome d w sim.net (step.Hear r m) in
      ap (λ (x : Result NetDid SimulateRefused). taken d w r e x (stepped sim o)) b
      ∙ ap (λ (n : Network). taken d w r e it (with_net sim n)) c

  -- the manager gets a request twice, and then its replica hears the first grant
  pub asks_part : (r q grant : ℕ) (once : Network) (grants : List ℕ) → length sim.net.messages ≡ grant → network_after sim.net (outcome d w sim.net (step.Ask q)) ≡ once
      → network_after once (outcome d w once (step.Ask q)) ≡ next → grants ≡ set sim.grants r grant
      → asks d w r q sim ≡ hears_grant d w r grant true (record { net = next; dones = sim.dones; grants = grants })
  asks_part r q grant once grants a b c g =
      let twice : asked_once d w q (asked_once d w q sim.net) ≡ next = ap (asked_once d w q) b ∙ c in
      ap (λ n. hears_grant d w r n true (let s : Simulated = record { net = asked_once d w q (asked_once d w q sim.net); dones = sim.dones; grants = set sim.grants r n } in s)) a
      ∙ ap (λ (n : Network). hears_grant d w r grant true (let s : Simulated = record { net = n; dones = sim.dones; grants = set sim.grants r grant } in s)) twice
      ∙ ap (λ (l : List ℕ). hears_grant d w r grant true (let s : Simulated = record { net = next; dones = sim.dones; grants = l } in s)) (sym g)

module _ (d : Specification) (w : World) (sim : Simulated) where
  -- a call of a replica waits
  pub tries_part : (r grant : ℕ) → is_waiting (slice_get sim.net.replicas r) ≡ true → get_or sim.grants r 0 ≡ grant → tries_again d w r sim ≡ hears_grant d w r grant false sim
  tries_part r grant waits is =
      ap (λ b. cond b (hears_grant d w r (get_or sim.grants r 0) false sim) (goes_on [] sim)) waits ∙ ap (λ n. hears_grant d w r n false sim) is

  -- the name is that of an operation
  pub calls_part : (r op : ℕ) (name : List ℕ) (args same : List ℤ) → operation_named d name ≡ Some op → same ≡ args
      → calls d w r args (operation_named d name) sim ≡ begins d w r (let call : Call = record { op = op; args = same } in call) sim
  calls_part r op name args same found is =
      ap (λ (o : Option ℕ). calls d w r args o sim) found
      ∙ ap (λ (l : List ℤ). begins d w r (let call : Call = record { op = op; args = l } in call) sim) (sym is)

  -- there is such a replica
  pub call_part : (s : Step) (r : ℕ) (name name_read : List ℕ) (args args_read : List ℤ) → s ≡ recorded.Call r name args → nat_lt (caller s) (length sim.net.replicas) ≡ true
      → name_read ≡ name → args_read ≡ args → part_of d w s sim ≡ calls d w r args_read (operation_named d name_read) sim
  call_part s r name name_read args args_read e there a b =
      ap (λ (x : Step). part_of d w x sim) e
      ∙ ap (λ (t : Bool). cond t (calls d w r args (operation_named d name) sim) (stops (stop.Refused refusal.Replica) sim)) (subst (λ (x : Step). nat_lt (caller x) (length sim.net.replicas) ≡ true) e there)
      ∙ ap (λ (l : List ℤ). calls d w r l (operation_named d name) sim) (sym b)
      ∙ ap (λ (l : List ℕ). calls d w r args_read (operation_named d l) sim) (sym a)

  pub take_part : (s : Step) (r e : ℕ) → s ≡ recorded.Take r e → nat_lt (caller s) (length sim.net.replicas) ≡ true
      → part_of d w s sim ≡ takes d w r e (slice_get sim.dones e) sim
  take_part s r e is there =
      ap (λ (x : Step). part_of d w x sim) is
      ∙ ap (λ (t : Bool). cond t (takes d w r e (slice_get sim.dones e) sim) (stops (stop.Refused refusal.Replica) sim)) (subst (λ (x : Step). nat_lt (caller x) (length sim.net.replicas) ≡ true) is there)

-- a number below that of the replicas is one of them
pub replica_below : (net : HeldNet) (s : Step) (r n : ℕ) → r ≡ caller s → n ≡ length net.replicas → r < n → nat_lt (caller s) (length (network_held net).replicas) ≡ true
replica_below net s r n a b lt =
    let count = replica_count net in lt-ltb (caller s) (length (network_held net).replicas) (omega (arith, a, b, lt, count))

-- a step was carried out, and its lines were added to a text
pub step_part : {R : Type 0} (d : Specification) (w : World) (part : Part) (k r : ℕ) (s : Step) (before text : List ℕ) (start told : List Said) (stop : Option Stop) (after : Simulation R)
    → start ≡ [] → IsPart d w part start stop after → r ≡ caller s → told ≡ after.said.items → text ≡ before ++ said_lines d k r told
    → IsStep d w part (said_lines d k (caller s)) before (step_done text stop after)
step_part d w part k r s before text start told stop after none is a b e = record {
  text_is = e ∙ ap (λ n. before ++ said_lines d k n told) a
      ∙ ap (λ (l : List Said). before ++ said_lines d k (caller s) l) (b ∙ sym is.said_is ∙ ap (λ (l : List Said). l ++ part.said) none);
  stop_is = is.stop_is;
  after_is = is.after_is;
  asked = is.asked;
}
