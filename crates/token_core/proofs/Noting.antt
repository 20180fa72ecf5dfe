-- A set of ids with one more.
use Rattle.std.specs.Prelude.{OnOk, IsOk, Result, Ok, Err}
use Rattle.std.specs.HashSet.{HashSet, Updates}
use Rattle.std.proofs.Common.{◌≡◌, ℕ, Bool, true, false, cond, ◌&&◌, ◌||◌, ◌==◌, refl, ◌∙◌, ap, arith}
use Rattle.std.proofs.lemmas.Bool.Decides.{nat_tests}
use Rattle.token_protocol.specs.declared.message.EventId.{EventId}
use Rattle.token_protocol.specs.Ids.{same_id}
use Rattle.token_core.specs.Members.{same_pair, has_id}

ok_so : {A E P : Type 0} (r : Result A E) → IsOk r → OnOk r P → P
ok_so (Ok a) k h = h
ok_so (Err e) k h = absurd cc

swap : (a b : Bool) → cond a true b ≡ (b || a)
swap true true = refl
swap true false = refl
swap false true = refl
swap false false = refl

turned : (a b : ℕ) → (a == b) ≡ (b == a)
turned a b = grind (arith, nat_tests)

same_turned : (a b : EventId) → same_id a b ≡ same_id b a
same_turned a b = ap (λ x. x && (a.turn == b.turn)) (turned a.replica b.replica) ∙ ap (λ x. (b.replica == a.replica) && x) (turned a.turn b.turn)

pub noted : {S A E : Type 0} (old new : HashSet (ℕ × ℕ) S) (id : EventId) (r : Result A E) → IsOk r → OnOk r (Updates same_pair old new (id.replica, id.turn) true)
    → (other : EventId) → has_id new other ≡ (has_id old other || same_id other id)
noted old new id r k h other =
    (ok_so r k h).0 (other.replica, other.turn) ∙ swap (same_id id other) (has_id old other) ∙ ap (λ x. has_id old other || x) (same_turned id other)
