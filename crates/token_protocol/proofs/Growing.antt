-- What stays so when a network grows.
use Rattle.std.specs.Prelude.{Contains, slice_get, Some}
use Rattle.std.proofs.Common.{◌≡◌, ◌≢◌, ℕ, ◌<◌, ◌⊎◌, inl, inr, List, [], ◌∷◌, refl, sym, ◌∙◌, ap, subst}
use Rattle.token_protocol.specs.declared.message.EventId.{EventId}
use Rattle.token_protocol.specs.declared.message.Request.{Request}
use Rattle.token_protocol.specs.declared.message.Message.{Message}
use Rattle.token_protocol.specs.declared.message.Message.TheVariants as message
use Rattle.token_protocol.specs.declared.granted.Granted.{Granted}
use Rattle.token_protocol.specs.Network.{Network, Replica, Happened}
use Rattle.token_protocol.specs.Executed.{IsVoid, IsOneOf, RanByGrant}
use Rattle.token_protocol.specs.Kept.{IsReplica, IsHappened, IsPast, IsOpen, IsWaiting, AreIds, IsTrueMessage}

-- the second network has all that the first has
pub record Grows (net next : Network) : Type 0 where
  pub happened : (k : ℕ) (h : Happened) → IsHappened net k h → IsHappened next k h
  pub ids : (ks : List ℕ) (ids : List EventId) → AreIds net.happened ks ids → AreIds next.happened ks ids
  pub granted : (g : Granted) → Contains net.granted g → Contains next.granted g
  pub requests : (q : Request) → Contains net.requests q → Contains next.requests q
  pub messages : (m : Message) → Contains net.messages m → Contains next.messages m
  pub past : (id : EventId) → IsPast net id → IsPast next id

pub ran_still : (net next : Network) → Grows net next → (h : Happened) → RanByGrant net h → RanByGrant next h
ran_still net next grows h is = record {
  grant = is.grant;
  granted = grows.granted is.grant is.granted;
  id = is.id;
  call = is.call;
  named = λ id c. elim (is.named id c) [
    | inl o ↦ (let one : IsOneOf next h.event.seen id = (o.0, o.1, o.2, grows.happened o.0 o.1 o.3, o.4) in inl one)
    | inr v ↦ inr (grows.messages (message.Void id) v)
  ];
}

pub true_still : (net next : Network) → Grows net next → (m : Message) → IsTrueMessage net m → IsTrueMessage next m
true_still net next grows (message.Grant id after) t = (t.0, grows.granted t.0 t.1, t.2, t.3)
true_still net next grows (message.Done id call seen) t = (t.0, t.1, grows.happened t.0 t.1 t.2, t.3, t.4, grows.ids t.1.event.seen seen t.5)
true_still net next grows (message.Void id) t = grows.past id t

-- a call stays open where it doesn't happen and no Void of it is sent
pub open_still : (net next : Network) (id : EventId) → ((k : ℕ) (h : Happened) → IsHappened next k h → IsHappened net k h ⊎ (h.id ≢ id)) → (IsVoid next id → IsVoid net id) → IsOpen net id → IsOpen next id
open_still net next id run void is = record {
  not_run = λ k h here. elim (run k h here) [ inl old ↦ is.not_run k h old | inr new ↦ new ];
  not_void = λ v. is.not_void (void v);
}

pub waiting_still : (net next : Network) (r : ℕ) (q : Request) → Grows net next → IsOpen next q.id → IsWaiting net r q → IsWaiting next r q
waiting_still net next r q grows still is = record { sent = grows.requests q is.sent; own = is.own; still = still }
