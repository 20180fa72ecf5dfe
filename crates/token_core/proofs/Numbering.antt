-- The number of an event, searched from some place on.
use Rattle.std.specs.Prelude.{Bool, true, false, cond, List, [], ◌∷◌}
use Rattle.std.proofs.Common.{◌≡◌, ℕ, suc, ◌+◌, ◌<◌, ◌≤◌, arith, length, get_or, drop, sym, ◌∙◌, ap}
use Rattle.std.proofs.lemmas.List.{drop_more}
use Rattle.token_protocol.specs.declared.message.EventId.{EventId}
use Rattle.token_protocol.specs.Ids.{same_id}
use Rattle.token_protocol.specs.Network.{Happened, number_of}

number_at : (hs : List Happened) (k : ℕ) (h : Happened) (id : EventId) → k < length hs → h ≡ get_or hs k h → number_of (drop k hs) id ≡ cond (same_id h.id id) 0 (suc (number_of (drop (k + 1) hs) id))
number_at hs k h id lt is = ap (λ (l : List Happened). number_of l id) (drop_more hs k h lt ∙ ap (λ (x : Happened). x ∷ drop (k + 1) hs) (sym is))

-- it is here
pub number_here : (hs : List Happened) (k : ℕ) (h : Happened) (id : EventId) → k < length hs → h ≡ get_or hs k h → same_id h.id id ≡ true → number_of (drop k hs) id ≡ 0
number_here hs k h id lt is same = number_at hs k h id lt is ∙ ap (λ b. cond b 0 (suc (number_of (drop (k + 1) hs) id))) same

-- it is further on
pub number_further : (hs : List Happened) (k : ℕ) (h : Happened) (id : EventId) → k < length hs → h ≡ get_or hs k h → same_id h.id id ≡ false → number_of (drop k hs) id ≡ suc (number_of (drop (k + 1) hs) id)
number_further hs k h id lt is same = number_at hs k h id lt is ∙ ap (λ b. cond b 0 (suc (number_of (drop (k + 1) hs) id))) same

pub number_within : (hs : List Happened) (id : EventId) → number_of hs id ≤ length hs
number_within [] id = (let e : 0 ≤ 0 = omega arith in e)
number_within (h ∷ hs) id = at (same_id h.id id) (number_within hs id)
  where
    at : (b : Bool) → number_of hs id ≤ length hs → cond b 0 (suc (number_of hs id)) ≤ suc (length hs)
    at true le = omega (arith, le)
    at false le = omega (arith, le)
