-- The conflicting calls among those granted, one by one.
use Rattle.std.specs.Prelude.{slice_get, Bool, true, false, cond, map, filter, Option, None, Some}
use Rattle.std.specs.Option.{option_map}
use Rattle.std.proofs.lemmas.Option.{slice_get_within, slice_get-get_or}
use Rattle.std.proofs.lemmas.List.{append-nil}
use Rattle.std.proofs.Common.{◌≡◌, ℕ, zero, suc, ◌+◌, ◌<◌, List, [], ◌∷◌, ◌++◌, length, get_or, ◌≤◌, drop, refl, sym, ◌∙◌, ap, subst, arith, append_assoc}
use Rattle.spec_core.specs.declared.world.World.{World}
use Rattle.spec_core.specs.declared.world.Call.{Call}
use Rattle.spec_core.specs.Specification.{Specification}
use Rattle.token_protocol.specs.declared.message.EventId.{EventId}
use Rattle.token_rules.specs.Conflict.{conflicts}
use Rattle.token_protocol.specs.declared.granted.Granted.{Granted}
use Rattle.token_protocol.specs.Manager.{conflicting, grant_message, asked_with}
use Rattle.token_protocol.specs.declared.message.Request.{Request}
use Rattle.token_protocol.specs.declared.message.Message.{Message}
use Rattle.token_manager.specs.Alike.{take_alike}
use Rattle.token_manager.specs.Named.{id_if, ids_at}
use Rattle.token_manager.proofs.SameTokens.{named_behind}
use Rattle.token_manager.specs.Grants.{AreGrants, IsAlikeAt}
use Rattle.token_manager.proofs.Found.{absent, one_found}

drop_next : {X : Type 0} (xs : List X) (i : ℕ) (x : X) → i < length xs → x ≡ get_or xs i x → drop i xs ≡ x ∷ drop (suc i) xs
drop_next [] i x lt h = absurd (omega (arith, lt))
drop_next (y ∷ ys) zero x lt h = ap (λ z. z ∷ ys) (sym h)
drop_next (y ∷ ys) (suc i) x lt h = drop_next ys i x (omega (arith, lt)) h

pub drop_more : {X : Type 0} (xs : List X) (i : ℕ) (x : X) → i < length xs → x ≡ get_or xs i x → drop i xs ≡ x ∷ drop (i + 1) xs
drop_more xs i x lt h = drop_next xs i x lt h ∙ ap (λ n. x ∷ drop n xs) (let e : suc i ≡ i + 1 = omega arith in e)

drop_first : {X : Type 0} (xs : List X) (i : ℕ) (d : X) → i < length xs → drop i xs ≡ get_or xs i d ∷ drop (suc i) xs
drop_first [] i d lt = absurd (omega (arith, lt))
drop_first (y ∷ ys) zero d lt = refl
drop_first (y ∷ ys) (suc i) d lt = drop_first ys i d (omega (arith, lt))

-- all that conflict are those found so far, and those from here on
pub next : (d : Specification) (w : World) (call : Call) (granted : List Granted) (numbers : List ℕ) (i : ℕ) (all ids : List EventId) → i < length numbers
    → all ≡ ids ++ ids_at d w call granted (drop i numbers)
    → all ≡ (ids ++ id_if d w call (slice_get granted (get_or numbers i 0))) ++ ids_at d w call granted (drop (i + 1) numbers)
next d w call granted numbers i all ids lt so_far =
    so_far
    ∙ ap (λ l. ids ++ ids_at d w call granted l) (drop_first numbers i 0 lt ∙ ap (λ n. get_or numbers i 0 ∷ drop n numbers) (let e : suc i ≡ i + 1 = omega arith in e))
    ∙ sym (append_assoc ids (id_if d w call (slice_get granted (get_or numbers i 0))) (ids_at d w call granted (drop (i + 1) numbers)))

-- ---- grants gone through one by one
conflicting_first : (d : Specification) (w : World) (call : Call) (g : Granted) (gs : List Granted)
    → conflicting d w (g ∷ gs) call ≡ cond (conflicts d w g.call call) (g.id ∷ []) [] ++ conflicting d w gs call
conflicting_first d w call g gs = by (conflicts d w g.call call)
  where
    by : (c : Bool) → map (λ (x : Granted). x.id) (cond c (g ∷ filter (λ (x : Granted). conflicts d w x.call call) gs) (filter (λ (x : Granted). conflicts d w x.call call) gs))
        ≡ cond c (g.id ∷ []) [] ++ conflicting d w gs call
    by true = refl
    by false = refl

-- all that conflict are those found so far, and those from here on
pub next_earlier : (d : Specification) (w : World) (call : Call) (granted : List Granted) (i : ℕ) (x : Granted) (all ids : List EventId) → i < length granted → x ≡ get_or granted i x
    → all ≡ ids ++ conflicting d w (drop i granted) call
    → all ≡ (ids ++ cond (conflicts d w x.call call) (x.id ∷ []) []) ++ conflicting d w (drop (i + 1) granted) call
next_earlier d w call granted i x all ids lt is so_far =
    so_far
    ∙ ap (λ (l : List Granted). ids ++ conflicting d w l call) (drop_more granted i x lt is)
    ∙ ap (λ (l : List EventId). ids ++ l) (conflicting_first d w call x (drop (i + 1) granted))
    ∙ sym (append_assoc ids (cond (conflicts d w x.call call) (x.id ∷ []) []) (conflicting d w (drop (i + 1) granted) call))

drop_past : {X : Type 0} (xs : List X) (i : ℕ) → length xs ≤ i → drop i xs ≡ []
drop_past [] zero le = refl
drop_past [] (suc i) le = refl
drop_past (x ∷ xs) zero le = absurd (omega (arith, le))
drop_past (x ∷ xs) (suc i) le = drop_past xs i (omega (arith, le))

-- where none is left, all are found
pub all_added : (d : Specification) (w : World) (call : Call) (granted : List Granted) (i : ℕ) → length granted ≤ i → (all ids : List EventId)
    → all ≡ ids ++ conflicting d w (drop i granted) call → ids ≡ all
all_added d w call granted i le all ids h =
    sym (h ∙ ap (λ (l : List Granted). ids ++ conflicting d w l call) (drop_past granted i le) ∙ append-nil ids)

-- what a grant of a call with the tokens of another names, and those from it on that conflict, are all that conflict with the other
pub named_by_tokens : (d : Specification) (w : World) (call : Call) (granted : List Granted) (i : ℕ) (x : Granted) (ids : List EventId) → AreGrants d w granted → IsAlikeAt d w granted call i
    → x ≡ get_or granted i x → ids ≡ x.after → ids ++ conflicting d w (drop i granted) call ≡ conflicting d w granted call
named_by_tokens d w call granted i x ids kept alike is names =
    let here : slice_get granted i ≡ Some x = slice_get-get_or granted i x (slice_get_within granted i alike.0 alike.1) ∙ ap Some (sym is) in
    let same : alike.0 ≡ x = one_found alike.0 x (sym alike.1 ∙ here) in
    ap (λ (l : List EventId). l ++ conflicting d w (drop i granted) call) names
    ∙ named_behind d w granted i x.call call x.after (subst (λ (y : Granted). take_alike d w y.call call ≡ true) same alike.2) (kept i x here)

-- a call that was granted gets the same grant again
pub again : (d : Specification) (w : World) (granted : List Granted) (request : Request) (o : Option Granted) (m : Message) → Some m ≡ option_map grant_message o
    → (m ≡ (asked_with d w granted request o).message) × (granted ≡ (asked_with d w granted request o).granted)
again d w granted request None m h = absurd (absent m (sym h))
again d w granted request (Some g) m h = (one_found m (grant_message g) h, refl)

-- and one that wasn't has no grant
pub anew : (o : Option Granted) → None ≡ option_map grant_message o → o ≡ None
anew None h = refl
anew (Some g) h = absurd (absent (grant_message g) h)
