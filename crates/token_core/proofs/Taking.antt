-- A node takes an event.
use Rattle.std.specs.Prelude.{List, [], ◌∷◌, ◌++◌, Option, Result, Ok, Err}
use Rattle.std.proofs.Common.{◌≡◌, ◌⊎◌, inl, inr, refl, sym, ◌∙◌, ap}
use Rattle.spec_core.specs.declared.world.World.{World}
use Rattle.spec_core.specs.declared.world.Call.{Call}
use Rattle.spec_core.specs.Specification.{Specification}
use Rattle.spec_core.specs.State.{Listing, Reads, reads}
use Rattle.effectors.specs.Effect.{after, after_call}
use Rattle.effectors.specs.Beyond.{Beyond, first_beyond, AllInRange, IsFirstBeyond}
use Rattle.effectors.proofs.FirstBeyond.{first_is, is_none}
use Rattle.token_protocol.specs.declared.message.EventId.{EventId}
use Rattle.token_protocol.specs.declared.node.Heard.{Heard}
use Rattle.token_protocol.specs.declared.node.Heard.TheVariants as heard
use Rattle.token_protocol.specs.declared.node.NodeRefused.{NodeRefused}
use Rattle.token_protocol.specs.declared.node.NodeRefused.TheVariants as refusal
use Rattle.token_protocol.specs.Node.{Node, take_within, hear_answer, node_after_hear}
use Rattle.effectors.specs.declared.applying.ApplyRefused.{ApplyRefused}
use Rattle.effectors.specs.declared.applying.ApplyRefused.TheVariants as effect
use Rattle.token_core.specs.Held.{HeldNode, node_of}
use Rattle.token_core.specs.Ended.{refused_effect}

module _ (d : Specification) (w : World) (n : HeldNode) (id : EventId) (call : Call) where
  abbrev pub beyond : Option Beyond
  beyond = first_beyond 0 (after_call d w call (reads n.state)).counters

  -- the node that has taken it
  pub node_took : (next : Listing) (taken : List EventId) → taken ≡ n.taken ++ id ∷ [] → reads next ≡ after d w call (reads n.state) → AllInRange (after_call d w call (reads n.state))
      → node_of (record { replica = n.replica; turn = n.turn; state = next; taken = taken; void = n.void; waiting = n.waiting }) ≡ node_after_hear (node_of n) (take_within d w (node_of n) id call beyond)
  node_took next taken is leads within =
      ap (λ (l : List EventId). let m : Node = record { replica = n.replica; turn = n.turn; state = reads next; taken = l; void = n.void; waiting = n.waiting } in m) is
      ∙ ap (λ (x : Reads). let m : Node = record { replica = n.replica; turn = n.turn; state = x; taken = n.taken ++ id ∷ []; void = n.void; waiting = n.waiting } in m) leads
      ∙ ap (λ b. node_after_hear (node_of n) (take_within d w (node_of n) id call b)) (sym (is_none (after_call d w call (reads n.state)) within))

  pub answer_took : AllInRange (after_call d w call (reads n.state)) → (let a : Result Heard NodeRefused = Ok heard.Took in a) ≡ hear_answer (take_within d w (node_of n) id call beyond)
  answer_took within = ap (λ b. hear_answer (take_within d w (node_of n) id call b)) (sym (is_none (after_call d w call (reads n.state)) within))

  pub answer_beyond : (b : Beyond) → IsFirstBeyond (after_call d w call (reads n.state)) b
      → (let a : Result Heard NodeRefused = Err (refusal.Range b.counter b.key b.value) in a) ≡ hear_answer (take_within d w (node_of n) id call beyond)
  answer_beyond b first = ap (λ o. hear_answer (take_within d w (node_of n) id call o)) (sym (first_is (after_call d w call (reads n.state)) b first))

  pub answer_refused : (why : ApplyRefused) → ((b : Beyond) → why ≡ effect.Range b.counter b.key b.value → IsFirstBeyond (after_call d w call (reads n.state)) b)
      → ((let a : Result Heard NodeRefused = Err (refused_effect why) in a) ≡ Err refusal.Memory) ⊎ ((let a : Result Heard NodeRefused = Err (refused_effect why) in a) ≡ hear_answer (take_within d w (node_of n) id call beyond))
  answer_refused (effect.Range counter key value) range =
      let b : Beyond = record { counter = counter; key = key; value = value } in
      inr (answer_beyond b (range b refl))
  answer_refused effect.Memory range = inl refl
