-- The second states of replicas, as one is taken away or put in its place.
use Rattle.std.specs.Prelude.{slice_get, Option, None, Some, replicate}
use Rattle.std.proofs.Common.{◌≡◌, ℕ, zero, suc, true, List, [], ◌∷◌, ◌++◌, ◌<◌, length, get_or, set, sym, ◌∙◌, ap, subst}
use Rattle.std.proofs.Math.Seq.{get_or-append_seam}
use Rattle.std.proofs.lemmas.Option.{slice_get-get_or}
use Rattle.spec_core.specs.declared.world.World.{World}
use Rattle.spec_core.specs.declared.world.Call.{Call}
use Rattle.spec_core.specs.Specification.{Specification}
use Rattle.spec_core.specs.State.{Listing, reads}
use Rattle.spec_core.specs.Fits.{is_state}
use Rattle.effectors.specs.Effect.{after}
use Rattle.effectors.specs.Spare.{IsSpare}
use Rattle.replica_replay.specs.declared.keeping.Replica.{Replica}
use Rattle.replica_replay.specs.Holding.{AreSpares, Leads}
use Rattle.replica_replay.proofs.Taking.{absent, one_found, at_set}

module _ (d : Specification) (w : World) where
  pub none_spare : (rs : List Replica) (n : ℕ) → AreSpares d w rs (replicate n None)
  none_spare rs zero k r h = tt
  none_spare rs (suc n) zero r h = tt
  none_spare [] (suc n) (suc k) r h = absurd (absent r h)
  none_spare (x ∷ rs) (suc n) (suc k) r h = none_spare rs n k r h

  one_away : (rs : List Replica) (os : List (Option Listing)) (i : ℕ) → AreSpares d w rs os → AreSpares d w rs (set os i None)
  one_away [] os i is k r h = absurd (absent r h)
  one_away (x ∷ rs) [] i is k r h = tt
  one_away (x ∷ rs) (o ∷ os) zero is zero r h = tt
  one_away (x ∷ rs) (o ∷ os) zero is (suc k) r h = is (suc k) r h
  one_away (x ∷ rs) (o ∷ os) (suc i) is zero r h = is zero r h
  one_away (x ∷ rs) (o ∷ os) (suc i) is (suc k) r h = one_away rs os i (λ j s q. is (suc j) s q) k r h

  pub spare_taken : (rs : List Replica) (os left : List (Option Listing)) (i : ℕ) → left ≡ set os i None → AreSpares d w rs os → AreSpares d w rs left
  spare_taken rs os left i e is = subst (AreSpares d w rs) (sym e) (one_away rs os i is)

  one_more : (rs : List Replica) (os : List (Option Listing)) (i : ℕ) (x : Replica) (o : Option Listing) → IsSpare d w x.state o → AreSpares d w rs os → AreSpares d w (set rs i x) (set os i o)
  one_more [] os i x o new is k r h = absurd (absent r h)
  one_more (y ∷ rs) [] i x o new is k r h = tt
  one_more (y ∷ rs) (p ∷ os) zero x o new is zero r h = subst (λ (z : Replica). IsSpare d w z.state o) (one_found x r h) new
  one_more (y ∷ rs) (p ∷ os) zero x o new is (suc k) r h = is (suc k) r h
  one_more (y ∷ rs) (p ∷ os) (suc i) x o new is zero r h = is zero r h
  one_more (y ∷ rs) (p ∷ os) (suc i) x o new is (suc k) r h = one_more rs os i x o new (λ j s q. is (suc j) s q) k r h

  pub spare_put : (rs all : List Replica) (os put : List (Option Listing)) (i : ℕ) (x : Replica) (o : Option Listing) → all ≡ set rs i x → put ≡ set os i o → IsSpare d w x.state o → AreSpares d w rs os → AreSpares d w all put
  spare_put rs all os put i x o e f new is = subst (λ (a : List Replica). AreSpares d w a put) (sym e) (subst (AreSpares d w (set rs i x)) (sym f) (one_more rs os i x o new is))

  -- what the state at a place leads to
  pub leads_from : (rs : List Replica) (i : ℕ) (at : Replica) (call : Call) (next : Listing) → slice_get rs i ≡ Some at → is_state d w at.state ≡ true → reads next ≡ after d w call (reads at.state)
      → (r : Replica) → slice_get rs i ≡ Some r → Leads d w call r.state next
  leads_from rs i at call next here fits reads_so r q = subst (λ (z : Replica). Leads d w call z.state next) (one_found at r (sym here ∙ q)) (record { fits = fits; reads_so = reads_so })

  -- the state before a replica's event leads to its state
  pub leads_still : (rs all : List Replica) (i : ℕ) (new : Replica) (call : Call) (before : Listing) → all ≡ set rs i new → i < length rs
      → ((r : Replica) → slice_get rs i ≡ Some r → before ≡ r.state) → ((r : Replica) → slice_get rs i ≡ Some r → Leads d w call r.state new.state)
      → (r : Replica) → slice_get all i ≡ Some r → Leads d w call before r.state
  leads_still rs all i new call before same lt was leads r q =
      let there = slice_get-get_or rs i r lt in let old = get_or rs i r in
      let is_new = at_set rs i new r (ap (λ (l : List Replica). slice_get l i) (sym same) ∙ q) in
      subst (λ (s : Listing). Leads d w call s r.state) (sym (was old there)) (subst (λ (x : Replica). Leads d w call old.state x.state) is_new (leads old there))

-- what was put behind a list stands at its end
pub last_is : {X : Type 0} {x : X} (xs all : List X) (n : ℕ) (y : X) → all ≡ xs ++ x ∷ [] → n ≡ length xs → y ≡ get_or all n y → y ≡ x
last_is {X} {x} xs all n y items len at = at ∙ (λ i. get_or (items i) (len i) y) ∙ get_or-append_seam xs x [] y
