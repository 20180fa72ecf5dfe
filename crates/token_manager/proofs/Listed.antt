-- A call conflicts with no grant beside those on the list of its operation.
use Rattle.std.specs.Prelude.{map, filter, slice_get, Some}
use Rattle.std.proofs.Common.{◌≡◌, suc, Bool, true, false, cond, List, [], ◌∷◌, ◌++◌, length, get_or, ℤ, refl, sym, ◌∙◌, ap, arith, append_assoc}
use Rattle.std.proofs.lemmas.Bool.{true≢false}
use Rattle.std.proofs.lemmas.List.{length-append}
use Rattle.spec_core.specs.declared.world.World.{World}
use Rattle.spec_core.specs.declared.world.Call.{Call}
use Rattle.spec_core.specs.Specification.{Specification}
use Rattle.token_rules.specs.Conflict.{conflicts}
use Rattle.token_rules.specs.declared.rivals.Rivalry.{Rivalry}
use Rattle.token_rules.specs.declared.rivals.Rivalry.TheVariants.{Never, Tied, Free}
use Rattle.token_rules.specs.Rivals.{rivals_of, may_conflict}
use Rattle.token_rules.proofs.Tokens.{no_conflict}
use Rattle.token_protocol.specs.declared.message.EventId.{EventId}
use Rattle.token_protocol.specs.declared.granted.Granted.{Granted}
use Rattle.token_protocol.specs.Manager.{conflicting}
use Rattle.token_manager.specs.Index.{may_happen, can_conflict, numbers_from}
use Rattle.token_manager.specs.Named.{id_if, ids_at}

-- what never happens may not
never_may : (r : Rivalry) (other own : List ℤ) → may_happen r ≡ false → may_conflict r other own ≡ false
never_may Never other own h = refl
never_may (Tied j k) other own h = absurd (true≢false h)
never_may Free other own h = absurd (true≢false h)

module _ (d : Specification) (w : World) (call : Call) where
  got : (front : List Granted) (g : Granted) (rest : List Granted) → slice_get (front ++ g ∷ rest) (length front) ≡ Some g
  got [] g rest = refl
  got (x ∷ front) g rest = got front g rest

  listed_first : (b : Bool) (ids : List EventId) (id : EventId) → cond b (id ∷ []) [] ++ ids ≡ cond b (id ∷ ids) ids
  listed_first true ids id = refl
  listed_first false ids id = refl

  named_first : (b : Bool) (g : Granted) (gs : List Granted) → map (λ (x : Granted). x.id) (cond b (g ∷ gs) gs) ≡ cond b (g.id ∷ map (λ (x : Granted). x.id) gs) (map (λ (x : Granted). x.id) gs)
  named_first true g gs = refl
  named_first false g gs = refl

  module _ (rivals : List Rivalry) (are : rivals ≡ rivals_of d call.op) where
    passed : (g : Granted) → can_conflict rivals g.call.op ≡ false → conflicts d w g.call call ≡ false
    passed g h = no_conflict d w g.call call rivals are (never_may (get_or rivals g.call.op Free) g.call.args call.args h)

    listed_from : (front granted : List Granted) → ids_at d w call (front ++ granted) (numbers_from rivals (length front) granted) ≡ conflicting d w granted call
    listed_from front [] = refl
    listed_from front (g ∷ gs) =
        by
        (ap (λ l. ids_at d w call l (numbers_from rivals (suc (length front)) gs)) (sym (append_assoc front (g ∷ []) gs))
        ∙ ap (λ n. ids_at d w call ((front ++ g ∷ []) ++ gs) (numbers_from rivals n gs)) (let e = length-append front (g ∷ []) in let f : suc (length front) ≡ length (front ++ g ∷ []) = omega (arith, e) in f)
        ∙ listed_from (front ++ g ∷ []) gs)
        (can_conflict rivals g.call.op) refl
      where
        by : ids_at d w call (front ++ g ∷ gs) (numbers_from rivals (suc (length front)) gs) ≡ conflicting d w gs call → (b : Bool) → can_conflict rivals g.call.op ≡ b
            → ids_at d w call (front ++ g ∷ gs) (cond b (length front ∷ numbers_from rivals (suc (length front)) gs) (numbers_from rivals (suc (length front)) gs)) ≡ conflicting d w (g ∷ gs) call
        by later true e =
            ap (λ o. id_if d w call o ++ ids_at d w call (front ++ g ∷ gs) (numbers_from rivals (suc (length front)) gs)) (got front g gs)
            ∙ ap (λ l. id_if d w call (Some g) ++ l) later
            ∙ listed_first (conflicts d w g.call call) (conflicting d w gs call) g.id
            ∙ sym (named_first (conflicts d w g.call call) g (filter (λ (x : Granted). conflicts d w x.call call) gs))
        by later false e =
            later
            ∙ ap (λ b. map (λ (x : Granted). x.id) (cond b (g ∷ filter (λ (x : Granted). conflicts d w x.call call) gs) (filter (λ (x : Granted). conflicts d w x.call call) gs))) (sym (passed g e))

    -- the conflicting calls are those of the grants on the list that conflict
    pub conflicts_listed : (granted : List Granted) → ids_at d w call granted (numbers_from rivals 0 granted) ≡ conflicting d w granted call
    conflicts_listed granted = listed_from [] granted
