-- What is left of a step is what the network's definition says.
use Rattle.std.specs.Prelude.{List, [], ◌∷◌, Option, Some, Result, Ok, Err, set, slice_get}
use Rattle.std.specs.Option.{option_map}
use Rattle.std.proofs.Common.{◌≡◌, ℕ, zero, suc, ◌⊎◌, inl, inr, refl, sym, ◌∙◌, ap, subst}
use Rattle.spec_core.specs.declared.world.World.{World}
use Rattle.spec_core.specs.declared.world.Call.{Call}
use Rattle.spec_core.specs.Specification.{Specification}
use Rattle.executions.specs.Orders.{Event}
use Rattle.token_protocol.specs.declared.message.EventId.{EventId}
use Rattle.token_protocol.specs.declared.message.Request.{Request}
use Rattle.token_protocol.specs.declared.message.Message.{Message}
use Rattle.token_protocol.specs.declared.message.Message.TheVariants as message
use Rattle.token_protocol.specs.declared.granted.Granted.{Granted}
use Rattle.token_protocol.specs.declared.node.Begun.{Begun}
use Rattle.token_protocol.specs.declared.node.Begun.TheVariants as begun
use Rattle.token_protocol.specs.declared.node.Heard.{Heard}
use Rattle.token_protocol.specs.declared.node.Heard.TheVariants as heard
use Rattle.token_protocol.specs.declared.node.NodeRefused.{NodeRefused}
use Rattle.token_protocol.specs.declared.network.NetDid.{NetDid}
use Rattle.token_protocol.specs.declared.network.NetDid.TheVariants as did
use Rattle.token_protocol.specs.Node.{Node, ran, void, Begin, refused, waits, runs, begin, begin_answer, node_after_begin, Hear, not_heard, awaits, grants, takes, notes, old, hear, hear_answer, node_after_hear}
use Rattle.token_protocol.specs.Network.{Network, Replica, number_of, Outcome, accepted, begin_at, hear_at, answer, network_after}
use Rattle.token_protocol.proofs.Places.{one_found}
use Rattle.token_core.specs.Log.{Lists}
use Rattle.token_core.specs.Left.{Left, id_of, event_of, event_for, after_ran, after_void, after_asked, after_took, after_none, after_begun, IsAfterRan, IsAfterHeard, IsPrepared}
use Rattle.token_core.specs.Fields.{network_with}
use Rattle.token_core.proofs.Inversion.{begin_call, hear_ran, grant_event, hear_takes}

pub ok_same : {A E : Type 0} (x y : A) → (let r : Result A E = Ok x in r) ≡ Ok y → x ≡ y
ok_same x y h = cc

pub not_ok : {A E : Type 0} (e : E) (y : A) → (let r : Result A E = Err e in r) ≡ Ok y → ⊥
not_ok e y h = cc

pub set_same : {X : Type 0} (xs : List X) (i : ℕ) (x : X) → slice_get xs i ≡ Some x → set xs i x ≡ xs
set_same [] i x h = refl
set_same (y ∷ xs) zero x h = ap (λ z. z ∷ xs) (sym (one_found y x h))
set_same (y ∷ xs) (suc i) x h = ap (λ l. y ∷ l) (set_same xs i x h)

abbrev pub replica : Node → List ℕ → Replica
replica n taken = record { node = n; taken = taken }

module _ (d : Specification) (w : World) (replicas : List Replica) (granted : List Granted) (lists : Lists) (r : ℕ) (n : Node) (taken : List ℕ) where
  abbrev accepted_ : NetDid → Outcome
  accepted_ what = accepted what (network_with replicas granted lists)

  abbrev net : Network
  net = network_with replicas granted lists

  -- what a step did, and what the network is then
  pub record IsLeft (left : Left) (next : Node) (o : Outcome) : Type 0 where
    pub did : Ok left.did ≡ answer o
    pub network : network_with (set replicas r (replica next left.taken)) granted left.lists ≡ network_after net o

  -- ---- a call
  module _ (call : Call) (begun_ : Begun) (event : Event Call) (left : Left) (is : event ≡ event_of call taken) (after : left ≡ after_begun lists taken event begun_) where
    begun_left : (b : Begin) → begin d w n call ≡ b → (let a : Result Begun NodeRefused = Ok begun_ in a) ≡ begin_answer b → IsLeft left (node_after_begin n b) (begin_at net r (replica n taken) b)
    begun_left (refused cause) from told = absurd (not_ok cause begun_ (sym told))
    begun_left (waits request next) from told =
        let leads : left ≡ after_asked lists taken request = after ∙ ap (after_begun lists taken event) (ok_same begun_ (begun.Asked request) told) in
        subst (λ l. IsLeft l next (begin_at net r (replica n taken) (waits request next))) (sym leads) (record { did = refl; network = refl })
    begun_left (runs (ran id c seen next)) from told =
        let leads : left ≡ after_ran lists taken (event_of c taken) (message.Done id c seen) =
        after
        ∙ ap (after_begun lists taken event) (ok_same begun_ (begun.Ran (message.Done id c seen)) told)
        ∙ ap (λ e. after_ran lists taken e (message.Done id c seen)) (is ∙ ap (λ x. event_of x taken) (begin_call d w n call id c seen next from)) in
        subst (λ l. IsLeft l next (begin_at net r (replica n taken) (runs (ran id c seen next)))) (sym leads) (record { did = refl; network = refl })
    begun_left (runs (void cause id next)) from told =
        let leads : left ≡ after_void lists taken cause (message.Void id) = after ∙ ap (after_begun lists taken event) (ok_same begun_ (begun.Void cause (message.Void id)) told) in
        subst (λ l. IsLeft l next (begin_at net r (replica n taken) (runs (void cause id next)))) (sym leads) (record { did = refl; network = refl })

    pub begin_left : (let a : Result Begun NodeRefused = Ok begun_ in a) ≡ begin_answer (begin d w n call) → IsLeft left (node_after_begin n (begin d w n call)) (begin_at net r (replica n taken) (begin d w n call))
    begin_left told = begun_left (begin d w n call) refl told

  -- ---- a message
  -- where the waiting call was run, its event was made
  made : (id : EventId) (c : Call) (seen : List EventId) (next : Node) (m : Message) (event : Option (Event Call)) → event ≡ event_for taken n.waiting m → hear d w n m ≡ grants (ran id c seen next)
      → event ≡ Some (event_of c taken)
  made id c seen next m event is from =
      let ran_ = hear_ran d w n id c seen next m from in
      is
      ∙ grant_event d w n id c seen next taken m from
      ∙ ap (option_map (λ (q : Request). event_of q.call taken)) ran_.waiting
      ∙ ap (λ x. Some (event_of x taken)) ran_.call

  module _ (m : Message) (heard_ : Heard) (event : Option (Event Call)) (is : event ≡ event_for taken n.waiting m) where
    heard_prepared : (b : Hear) → hear d w n m ≡ b → (let a : Result Heard NodeRefused = Ok heard_ in a) ≡ hear_answer b → IsPrepared event heard_
    heard_prepared (not_heard cause) from told = absurd (not_ok cause heard_ (sym told))
    heard_prepared (awaits id) from told = subst (IsPrepared event) (sym (ok_same heard_ (heard.Awaits id) told)) tt
    heard_prepared (grants (ran id c seen next)) from told =
        subst (IsPrepared event) (sym (ok_same heard_ (heard.Ran (message.Done id c seen)) told)) (event_of c taken, made id c seen next m event is from)
    heard_prepared (grants (void cause id next)) from told = subst (IsPrepared event) (sym (ok_same heard_ (heard.Void cause (message.Void id)) told)) tt
    heard_prepared (takes id next) from told = subst (IsPrepared event) (sym (ok_same heard_ heard.Took told)) tt
    heard_prepared (notes next) from told = subst (IsPrepared event) (sym (ok_same heard_ heard.Noted told)) tt
    heard_prepared old from told = subst (IsPrepared event) (sym (ok_same heard_ heard.Old told)) tt

    pub is_prepared : (let a : Result Heard NodeRefused = Ok heard_ in a) ≡ hear_answer (hear d w n m) → IsPrepared event heard_
    is_prepared told = heard_prepared (hear d w n m) refl told

    module _ (left : Left) (here : slice_get replicas r ≡ Some (replica n taken)) (after : IsAfterHeard lists taken (id_of m) event heard_ left) where
      still : (what : NetDid) → left ≡ after_none what lists taken → IsLeft left n (accepted_ what)
      still what leads = subst (λ l. IsLeft l n (accepted_ what)) (sym leads) (record {
        did = refl;
        network = ap (λ l. network_with l granted lists) (set_same replicas r (replica n taken) here);
      })

      told_after : (h : Heard) → heard_ ≡ h → IsAfterHeard lists taken (id_of m) event h left
      told_after h e = subst (λ x. IsAfterHeard lists taken (id_of m) event x left) e after

      heard_left : (b : Hear) → hear d w n m ≡ b → (let a : Result Heard NodeRefused = Ok heard_ in a) ≡ hear_answer b → IsLeft left (node_after_hear n b) (hear_at net r (replica n taken) b)
      heard_left (not_heard cause) from told = absurd (not_ok cause heard_ (sym told))
      heard_left (awaits id) from told = still (did.Awaits id) (told_after (heard.Awaits id) (ok_same heard_ (heard.Awaits id) told))
      heard_left (grants (ran id c seen next)) from told =
          let leads : left ≡ after_ran lists taken (event_of c taken) (message.Done id c seen) =
          subst (λ e. IsAfterRan lists taken e (message.Done id c seen) left) (made id c seen next m event is from)
          (told_after (heard.Ran (message.Done id c seen)) (ok_same heard_ (heard.Ran (message.Done id c seen)) told)) in
          subst (λ l. IsLeft l next (hear_at net r (replica n taken) (grants (ran id c seen next)))) (sym leads) (record { did = refl; network = refl })
      heard_left (grants (void cause id next)) from told =
          let leads : left ≡ after_void lists taken cause (message.Void id) = told_after (heard.Void cause (message.Void id)) (ok_same heard_ (heard.Void cause (message.Void id)) told) in
          subst (λ l. IsLeft l next (hear_at net r (replica n taken) (grants (void cause id next)))) (sym leads) (record { did = refl; network = refl })
      heard_left (takes id next) from told =
          let leads : left ≡ after_took lists taken (number_of lists.happened id) =
          told_after heard.Took (ok_same heard_ heard.Took told) ∙ ap (λ x. after_took lists taken (number_of lists.happened x)) (sym (hear_takes d w n id next m from)) in
          subst (λ l. IsLeft l next (hear_at net r (replica n taken) (takes id next))) (sym leads) (record { did = refl; network = refl })
      heard_left (notes next) from told =
          let leads : left ≡ after_none did.Noted lists taken = told_after heard.Noted (ok_same heard_ heard.Noted told) in
          subst (λ l. IsLeft l next (hear_at net r (replica n taken) (notes next))) (sym leads) (record { did = refl; network = refl })
      heard_left old from told = still did.Old (told_after heard.Old (ok_same heard_ heard.Old told))

      pub hear_left : (let a : Result Heard NodeRefused = Ok heard_ in a) ≡ hear_answer (hear d w n m) → IsLeft left (node_after_hear n (hear d w n m)) (hear_at net r (replica n taken) (hear d w n m))
      hear_left told = heard_left (hear d w n m) refl told

-- an answer that isn't want of memory
pub told_so : {A E : Type 0} (y : A) (e : E) (a : Result A E) → ((let r : Result A E = Ok y in r) ≡ Err e) ⊎ ((let r : Result A E = Ok y in r) ≡ a) → (let r : Result A E = Ok y in r) ≡ a
told_so y e a t = elim t [ inl m ↦ absurd (not_ok e y (sym m)) | inr h ↦ h ]

-- the node is the one that the definition gives
pub next_network : (d : Specification) (w : World) (replicas : List Replica) (granted : List Granted) (lists : Lists) (r : ℕ) (n : Node) (taken : List ℕ) (left : Left) (next after : Node) (o : Outcome)
    → IsLeft d w replicas granted lists r n taken left after o → next ≡ after
    → network_with (set replicas r (replica next left.taken)) granted left.lists ≡ network_after (network_with replicas granted lists) o
next_network d w replicas granted lists r n taken left next after o is e = ap (λ m. network_with (set replicas r (replica m left.taken)) granted left.lists) e ∙ is.network
