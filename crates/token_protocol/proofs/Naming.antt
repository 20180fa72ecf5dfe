-- Numbers of events and the ids of their calls, one by one.
use Rattle.std.specs.Prelude.{Contains, slice_get, Some, cond}
use Rattle.std.proofs.Common.{◌≡◌, ℕ, zero, suc, ◌<◌, Bool, true, false, ◌⊎◌, inl, inr, List, [], ◌∷◌, ◌++◌, refl, sym, ◌∙◌, ap, subst, arith}
use Rattle.executions.proofs.Growth.{get_front}
use Rattle.token_protocol.specs.declared.message.EventId.{EventId}
use Rattle.token_protocol.specs.Ids.{same_id}
use Rattle.token_protocol.specs.Network.{Happened, number_of}
use Rattle.token_protocol.specs.Kept.{AreIds}
use Rattle.token_protocol.proofs.Places.{absent, one_found, in_none, in_first, in_rest, first_or_rest, at_place}
use Rattle.token_protocol.proofs.Among.{same_ids, ids_same}

-- one event more, and one taken more
pub ids_still : (happened : List Happened) (more : List Happened) (ks : List ℕ) (ids : List EventId) → AreIds happened ks ids → AreIds (happened ++ more) ks ids
ids_still happened more [] [] a = tt
ids_still happened more [] (id ∷ ids) a = a
ids_still happened more (k ∷ ks) [] a = a
ids_still happened more (k ∷ ks) (id ∷ ids) a = ((a.0.0, get_front happened more k a.0.0 a.0.1, a.0.2), ids_still happened more ks ids a.1)

pub ids_more : (happened : List Happened) (ks : List ℕ) (ids : List EventId) (k : ℕ) (h : Happened) (id : EventId) → AreIds happened ks ids → slice_get happened k ≡ Some h → h.id ≡ id → AreIds happened (ks ++ k ∷ []) (ids ++ id ∷ [])
ids_more happened [] [] k h id a here is = ((h, here, is), tt)
ids_more happened [] (i ∷ ids) k h id a here is = absurd a
ids_more happened (j ∷ ks) [] k h id a here is = absurd a
ids_more happened (j ∷ ks) (i ∷ ids) k h id a here is = (a.0, ids_more happened ks ids k h id a.1 here is)

-- the event of an id that is among them
pub record Numbered (happened : List Happened) (ks : List ℕ) (id : EventId) : Type 0 where
  pub number : ℕ
  pub event : Happened
  pub among : Contains ks number
  pub here : slice_get happened number ≡ Some event
  pub is : event.id ≡ id

pub number_among : (happened : List Happened) (ks : List ℕ) (ids : List EventId) → AreIds happened ks ids → (id : EventId) → Contains ids id → Numbered happened ks id
number_among happened [] [] a id c = absurd (in_none id c)
number_among happened [] (i ∷ ids) a id c = absurd a
number_among happened (k ∷ ks) [] a id c = absurd a
number_among happened (k ∷ ks) (i ∷ ids) a id c = elim (first_or_rest i id ids c) [
  | inl e ↦ record { number = k; event = a.0.0; among = in_first k ks; here = a.0.1; is = a.0.2 ∙ e }
  | inr r ↦ (let n = number_among happened ks ids a.1 id r in record { number = n.number; event = n.event; among = in_rest k n.number ks n.among; here = n.here; is = n.is })
]

-- an event that is among them, and its id
pub record Identified (happened : List Happened) (ids : List EventId) (k : ℕ) : Type 0 where
  pub event : Happened
  pub here : slice_get happened k ≡ Some event
  pub among : Contains ids event.id

pub id_among : (happened : List Happened) (ks : List ℕ) (ids : List EventId) → AreIds happened ks ids → (k : ℕ) → Contains ks k → Identified happened ids k
id_among happened [] [] a k c = absurd (in_none k c)
id_among happened [] (i ∷ ids) a k c = absurd a
id_among happened (j ∷ ks) [] a k c = absurd a
id_among happened (j ∷ ks) (i ∷ ids) a k c = elim (first_or_rest j k ks c) [
  | inl e ↦ record {
    event = a.0.0;
    here = ap (slice_get happened) (sym e) ∙ a.0.1;
    among = subst (λ z. Contains (i ∷ ids) z) (sym a.0.2) (in_first i ids);
  }
  | inr r ↦ (let n = id_among happened ks ids a.1 k r in record { event = n.event; here = n.here; among = in_rest i n.event.id ids n.among })
]

-- the number of an id is that of an event with this id, where there is one
pub number_there : (happened : List Happened) (id : EventId) (k : ℕ) (h : Happened) → slice_get happened k ≡ Some h → h.id ≡ id → (g : Happened) × (slice_get happened (number_of happened id) ≡ Some g) × (g.id ≡ id)
number_there [] id k h here is = absurd (absent h here)
number_there (x ∷ xs) id zero h here is = first (same_id x.id id) (ids_same x.id id (ap (λ (z : Happened). z.id) (one_found x h here) ∙ is))
  where
    first : (b : Bool) → b ≡ true → (g : Happened) × (slice_get (x ∷ xs) (cond b 0 (suc (number_of xs id))) ≡ Some g) × (g.id ≡ id)
    first true t = (x, refl, ap (λ (z : Happened). z.id) (one_found x h here) ∙ is)
    first false t = absurd (let q : false ≡ true = t in no q)
      where
        no : false ≡ true → ⊥
        no q = cc
number_there (x ∷ xs) id (suc k) h here is = rest (same_id x.id id) refl (number_there xs id k h here is)
  where
    rest : (b : Bool) → same_id x.id id ≡ b → (g : Happened) × (slice_get xs (number_of xs id) ≡ Some g) × (g.id ≡ id)
        → (g : Happened) × (slice_get (x ∷ xs) (cond b 0 (suc (number_of xs id))) ≡ Some g) × (g.id ≡ id)
    rest true t r = (x, refl, same_ids x.id id t)
    rest false t r = r
