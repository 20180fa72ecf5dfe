-- The calls of a network that is kept have the arguments of their operations.
use Rattle.std.specs.Prelude.{true, List, Option, None, Some, Contains, slice_get}
use Rattle.std.proofs.Common.{◌≡◌, ℕ, ◌<◌, length, get_or, refl, sym, ◌∙◌, ap, subst}
use Rattle.std.proofs.lemmas.Option.{slice_get-get_or}
use Rattle.spec_core.specs.declared.world.World.{World}
use Rattle.spec_core.specs.declared.world.Call.{Call}
use Rattle.spec_core.specs.Specification.{Specification}
use Rattle.spec_core.specs.Fits.{call_fits}
use Rattle.token_protocol.specs.declared.message.Request.{Request}
use Rattle.token_protocol.specs.declared.message.Message.{Message}
use Rattle.token_protocol.specs.declared.message.Message.TheVariants as message
use Rattle.token_protocol.specs.Network.{Network, Replica}
use Rattle.token_protocol.specs.Kept.{IsReplica, IsKept}
use Rattle.token_protocol.proofs.Places.{at_place}
use Rattle.token_core.specs.Held.{waiting_fits, message_fits}

pub read_at : {X : Type 0} (xs : List X) (i : ℕ) (x : X) → i < length xs → x ≡ get_or xs i x → slice_get xs i ≡ Some x
read_at xs i x lt is = slice_get-get_or xs i x lt ∙ ap Some (sym is)

module _ (d : Specification) (w : World) (net : Network) (kept : IsKept d w net) where
  pub waiting_ok : (r : ℕ) (at : Replica) (o : Option Request) → IsReplica net r at → at.node.waiting ≡ o → waiting_fits d w o ≡ true
  waiting_ok r at None here e = refl
  waiting_ok r at (Some q) here e = kept.requests_fit q (kept.waiting r at q here e).sent

  pub message_ok : (m : Message) → Contains net.messages m → message_fits d w m ≡ true
  message_ok (message.Grant id named) c = refl
  message_ok (message.Done id call seen) c =
      let t = kept.messages (message.Done id call seen) c in
      subst (λ (x : Call). call_fits d w x ≡ true) t.4 (kept.calls_fit t.0 t.1 t.2)
  message_ok (message.Void id) c = refl

  pub sent_ok : (i : ℕ) (m : Message) → slice_get net.messages i ≡ Some m → message_fits d w m ≡ true
  sent_ok i m here = message_ok m (at_place net.messages i m here)
