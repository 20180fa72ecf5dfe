-- A replica takes one event more: what events have seen, and what is held.
use Rattle.std.specs.Prelude.{slice_get, Some, map, set}
use Rattle.std.proofs.Common.{◌≡◌, ℕ, zero, suc, ◌<◌, ◌≤◌, List, [], ◌∷◌, ◌++◌, length, get_or, take, refl, sym, ◌∙◌, ap, subst, arith, length-append}
use Rattle.std.proofs.lemmas.List.{take-append-le}
use Rattle.std.proofs.Math.Seq.{take-append_seam}
use Rattle.spec_core.specs.declared.world.Call.{Call}
use Rattle.executions.specs.Orders.{Event}
use Rattle.replica_replay.specs.declared.keeping.Happened.{Happened}
use Rattle.replica_replay.specs.declared.keeping.Replica.{Replica}
use Rattle.replica_replay.specs.Held.{Held}
use Rattle.replica_replay.specs.Holding.{seen_by_event, event_of, orders_of, calls_of, held_by}

-- the list at a place grows, the others stay
pub record Grows (old new : List (List ℕ)) : Type 0 where
  pub more : (r : ℕ) → (ys : List ℕ) × (get_or new r [] ≡ get_or old r [] ++ ys)

set_grows : (all : List (List ℕ)) (r : ℕ) (ys : List ℕ) (q : ℕ) → (zs : List ℕ) × (get_or (set all r (get_or all r [] ++ ys)) q [] ≡ get_or all q [] ++ zs)
set_grows [] r ys q = ([], refl)
set_grows (x ∷ xs) zero ys zero = (ys, refl)
set_grows (x ∷ xs) zero ys (suc q) = ([], nothing (get_or xs q []))
  where
    nothing : (l : List ℕ) → l ≡ l ++ []
    nothing [] = refl
    nothing (z ∷ zs) = ap (λ t. z ∷ t) (nothing zs)
set_grows (x ∷ xs) (suc r) ys zero = ([], nothing x)
  where
    nothing : (l : List ℕ) → l ≡ l ++ []
    nothing [] = refl
    nothing (z ∷ zs) = ap (λ t. z ∷ t) (nothing zs)
set_grows (x ∷ xs) (suc r) ys (suc q) = set_grows xs r ys q

pub grown : (all : List (List ℕ)) (r : ℕ) (ys : List ℕ) → Grows all (set all r (get_or all r [] ++ ys))
grown all r ys = record { more = set_grows all r ys }

-- a front that is within what a replica has taken stays what it is
pub front_stays : (old new : List (List ℕ)) (h : Happened) → Grows old new → h.before ≤ length (get_or old h.replica []) → seen_by_event new h ≡ seen_by_event old h
front_stays old new h g le =
    let m = g.more h.replica in
    ap (take h.before) m.1 ∙ take-append-le h.before (get_or old h.replica []) m.0 le

pub front_within : (old new : List (List ℕ)) (h : Happened) → Grows old new → h.before ≤ length (get_or old h.replica []) → h.before ≤ length (get_or new h.replica [])
front_within old new h g le =
    let m = g.more h.replica in
    let len : length (get_or new h.replica []) ≡ length (get_or old h.replica [] ++ m.0) = ap length m.1 in
    grind (arith, length-append)

-- so all events stay what they are
pub events_stay : (old new : List (List ℕ)) (happened : List Happened) → Grows old new → ((k : ℕ) (h : Happened) → slice_get happened k ≡ Some h → h.before ≤ length (get_or old h.replica []))
    → map (event_of new) happened ≡ map (event_of old) happened
events_stay old new [] g fronts = refl
events_stay old new (h ∷ hs) g fronts =
    let one : event_of new h ≡ event_of old h = ap (λ (l : List ℕ). let e : Event Call = record { call = h.call; seen = l } in e) (front_stays old new h g (fronts 0 h refl)) in
    ap (λ (e : Event Call). e ∷ map (event_of new) hs) one ∙ ap (λ (es : List (Event Call)). event_of old h ∷ es) (events_stay old new hs g (λ k i q. fronts (suc k) i q))

pub map_more : {X Y : Type 0} (f : X → Y) (xs : List X) (x : X) → map f (xs ++ x ∷ []) ≡ map f xs ++ f x ∷ []
map_more f [] x = refl
map_more f (y ∷ xs) x = ap (λ l. f y ∷ l) (map_more f xs x)

pub map_set : {X Y : Type 0} (f : X → Y) (xs : List X) (i : ℕ) (x : X) → map f (set xs i x) ≡ set (map f xs) i (f x)
map_set f [] i x = refl
map_set f (y ∷ xs) zero x = refl
map_set f (y ∷ xs) (suc i) x = ap (λ l. f y ∷ l) (map_set f xs i x)

pub get_own : (all : List (List ℕ)) (r : ℕ) (x : List ℕ) → r < length all → get_or (set all r x) r [] ≡ x
get_own [] r x lt = absurd (omega (arith, lt))
get_own (y ∷ ys) zero x lt = refl
get_own (y ∷ ys) (suc r) x lt = get_own ys r x (omega (arith, lt))

pub calls_map : (orders : List (List ℕ)) (happened : List Happened) → map (λ (e : Event Call). e.call) (map (event_of orders) happened) ≡ calls_of happened
calls_map orders [] = refl
calls_map orders (h ∷ hs) = ap (λ (l : List Call). h.call ∷ l) (calls_map orders hs)

-- ---- what is held after a taking, and after a call
pub held_taking : (happened : List Happened) (replicas : List Replica) (r : ℕ) (e : ℕ) (next : Replica)
    → ((k : ℕ) (h : Happened) → slice_get happened k ≡ Some h → h.before ≤ length (get_or (orders_of replicas) h.replica []))
    → next.order ≡ get_or (orders_of replicas) r [] ++ e ∷ []
    → held_by happened (set replicas r next) ≡ record { events = map (event_of (orders_of replicas)) happened; taken = set (orders_of replicas) r (get_or (orders_of replicas) r [] ++ e ∷ []) }
held_taking happened replicas r e next fronts is =
    let old = orders_of replicas in
    let new = set old r (get_or old r [] ++ e ∷ []) in
    let orders : orders_of (set replicas r next) ≡ new = map_set (λ (x : Replica). x.order) replicas r next ∙ ap (λ (l : List ℕ). set old r l) is in
    ap (λ (o : List (List ℕ)). let h : Held = record { events = map (event_of o) happened; taken = o } in h) orders
    ∙ ap (λ (es : List (Event Call)). let h : Held = record { events = es; taken = new } in h) (events_stay old new happened (grown old r (e ∷ [])) fronts)

pub held_call : (happened : List Happened) (replicas : List Replica) (r : ℕ) (call : Call) (e : ℕ) (next : Replica) → r < length replicas
    → ((k : ℕ) (h : Happened) → slice_get happened k ≡ Some h → h.before ≤ length (get_or (orders_of replicas) h.replica []))
    → next.order ≡ get_or (orders_of replicas) r [] ++ e ∷ []
    → held_by (happened ++ record { call = call; replica = r; before = length (get_or (orders_of replicas) r []) } ∷ []) (set replicas r next)
    ≡ record { events = map (event_of (orders_of replicas)) happened ++ record { call = call; seen = get_or (orders_of replicas) r [] } ∷ []; taken = set (orders_of replicas) r (get_or (orders_of replicas) r [] ++ e ∷ []) }
held_call happened replicas r call e next lt fronts is =
    let old = orders_of replicas in
    let mine = get_or old r [] in
    let new = set old r (mine ++ e ∷ []) in
    let one : Happened = record { call = call; replica = r; before = length mine } in
    let orders : orders_of (set replicas r next) ≡ new = map_set (λ (x : Replica). x.order) replicas r next ∙ ap (λ (l : List ℕ). set old r l) is in
    let few : r < length old = subst (λ (n : ℕ). r < n) (sym (length_map replicas)) lt in
    let saw : seen_by_event new one ≡ mine = ap (take (length mine)) (get_own old r (mine ++ e ∷ []) few) ∙ take-append_seam mine (e ∷ []) in
    let last : event_of new one ≡ record { call = call; seen = mine } = ap (λ (l : List ℕ). let v : Event Call = record { call = call; seen = l } in v) saw in
    ap (λ (o : List (List ℕ)). let h : Held = record { events = map (event_of o) (happened ++ one ∷ []); taken = o } in h) orders
    ∙ ap (λ (es : List (Event Call)). let h : Held = record { events = es; taken = new } in h)
    (map_more (event_of new) happened one
    ∙ ap (λ (es : List (Event Call)). es ++ event_of new one ∷ []) (events_stay old new happened (grown old r (e ∷ [])) fronts)
    ∙ ap (λ (v : Event Call). map (event_of old) happened ++ v ∷ []) last)
  where
    length_map : (rs : List Replica) → length (orders_of rs) ≡ length rs
    length_map [] = refl
    length_map (x ∷ xs) = ap suc (length_map xs)
