-- How lists and indexes grow.
use Rattle.std.specs.Prelude.{slice_get, Some, set, Result, Ok, Err, OnOk}
use Rattle.std.proofs.Common.{◌≡◌, ℕ, zero, suc, ◌+◌, ◌<◌, Bool, true, false, ◌==◌, cond, inl, inr, List, [], ◌∷◌, ◌++◌, length, get_or, take, refl, sym, ◌∙◌, ap, subst, arith}
use Rattle.std.proofs.lemmas.Bool.{and_parts, true≢false, eqb-true}
use Rattle.std.proofs.lemmas.List.{take-append-le, length-append}
use Rattle.std.proofs.lemmas.Option.{slice_get-get_or}
use Rattle.executions.proofs.Growth.{front_or_last}
use Rattle.token_rules.specs.declared.rivals.Rivalry.{Rivalry}
use Rattle.token_rules.specs.declared.rivals.Rivalry.TheVariants.{Never, Tied, Free}
use Rattle.token_protocol.specs.declared.granted.Granted.{Granted}
use Rattle.token_protocol.proofs.Places.{absent, one_found, get_set}
use Rattle.token_manager.specs.declared.candidates.Candidates.{Candidates}
use Rattle.token_manager.specs.Index.{can_conflict, numbers_from, IsUpTo, AreUpTo, numbers_in, numbers_at}
use Rattle.token_manager.specs.Same.{same_rivalry, same_rivals}

-- ---- rivals that are the same
one_rivalry : (a b : Rivalry) → same_rivalry a b ≡ true → a ≡ b
one_rivalry Never Never h = refl
one_rivalry Never (Tied l m) h = absurd (true≢false (sym h))
one_rivalry Never Free h = absurd (true≢false (sym h))
one_rivalry (Tied j k) Never h = absurd (true≢false (sym h))
one_rivalry (Tied j k) (Tied l m) h =
    let both = and_parts (j == l) (k == m) h in
    ap (λ x. Tied x k) (eqb-true j l both.0) ∙ ap (λ x. Tied l x) (eqb-true k m both.1)
one_rivalry (Tied j k) Free h = absurd (true≢false (sym h))
one_rivalry Free Never h = absurd (true≢false (sym h))
one_rivalry Free (Tied l m) h = absurd (true≢false (sym h))
one_rivalry Free Free h = refl

pub one_list : (xs ys : List Rivalry) → same_rivals xs ys ≡ true → xs ≡ ys
one_list [] [] h = refl
one_list [] (b ∷ ys) h = absurd (true≢false (sym h))
one_list (a ∷ xs) [] h = absurd (true≢false (sym h))
one_list (a ∷ xs) (b ∷ ys) h =
    let both = and_parts (same_rivalry a b) (same_rivals xs ys) h in
    ap (λ x. x ∷ xs) (one_rivalry a b both.0) ∙ ap (λ l. b ∷ l) (one_list xs ys both.1)

-- ---- one grant more
front_of : (b : Bool) (k : ℕ) (xs ys : List ℕ) → cond b (k ∷ xs ++ ys) (xs ++ ys) ≡ cond b (k ∷ xs) xs ++ ys
front_of true k xs ys = refl
front_of false k xs ys = refl

numbers_next : (rivals : List Rivalry) (k : ℕ) (granted : List Granted) (i : ℕ) (g : Granted) → slice_get granted i ≡ Some g
    → numbers_from rivals k (take (suc i) granted) ≡ numbers_from rivals k (take i granted) ++ cond (can_conflict rivals g.call.op) ((k + i) ∷ []) []
numbers_next rivals k [] i g h = absurd (absent g h)
numbers_next rivals k (x ∷ xs) zero g h =
    ap (λ (y : Granted). cond (can_conflict rivals y.call.op) (k ∷ []) []) (one_found x g h)
    ∙ ap (λ n. cond (can_conflict rivals g.call.op) (n ∷ []) []) (let e : k ≡ k + 0 = omega arith in e)
numbers_next rivals k (x ∷ xs) (suc i) g h =
    ap (λ l. cond (can_conflict rivals x.call.op) (k ∷ l) l)
    (numbers_next rivals (suc k) xs i g h ∙ ap (λ n. numbers_from rivals (suc k) (take i xs) ++ cond (can_conflict rivals g.call.op) (n ∷ []) []) (let e : suc k + i ≡ k + suc i = omega arith in e))
    ∙ front_of (can_conflict rivals x.call.op) k (numbers_from rivals (suc k) (take i xs)) (cond (can_conflict rivals g.call.op) ((k + suc i) ∷ []) [])

pub read_at : {X : Type 0} (xs : List X) (i : ℕ) (x : X) → i < length xs → x ≡ get_or xs i x → slice_get xs i ≡ Some x
read_at xs i x lt is = slice_get-get_or xs i x lt ∙ ap Some (sym is)

-- a list that has gone through one grant more
pub upto_next : (granted : List Granted) (rivals : List Rivalry) (numbers next : List ℕ) (i : ℕ) (g : Granted) → i < length granted → slice_get granted i ≡ Some g
    → numbers ≡ numbers_from rivals 0 (take i granted) → next ≡ numbers ++ cond (can_conflict rivals g.call.op) (i ∷ []) []
    → IsUpTo granted (record { rivals = rivals; gone_through = i + 1; numbers = next })
upto_next granted rivals numbers next i g lt here so_far is = record {
  within = omega (arith, lt);
  numbers =
      is
      ∙ ap (λ l. l ++ cond (can_conflict rivals g.call.op) (i ∷ []) []) so_far
      ∙ ap (λ n. numbers_from rivals 0 (take i granted) ++ cond (can_conflict rivals g.call.op) (n ∷ []) []) (let e : i ≡ 0 + i = omega arith in e)
      ∙ sym (numbers_next rivals 0 granted i g here)
      ∙ ap (λ n. numbers_from rivals 0 (take n granted)) (let e : suc i ≡ i + 1 = omega arith in e);
}

-- ---- more grants, and more lists
-- a list stays one of the grants when a grant is added
still_upto : (granted : List Granted) (g : Granted) (list : Candidates) → IsUpTo granted list → IsUpTo (granted ++ g ∷ []) list
still_upto granted g list is = record {
  within = let le = is.within in let e = length-append granted (g ∷ []) in omega (arith, le, e);
  numbers = is.numbers ∙ ap (numbers_from list.rivals 0) (sym (take-append-le list.gone_through granted (g ∷ []) is.within));
}

pub index_of_more : (granted : List Granted) (g : Granted) (lists : List Candidates) → AreUpTo granted lists → AreUpTo (granted ++ g ∷ []) lists
index_of_more granted g lists are = λ op list here. still_upto granted g list (are op list here)

pub one_list_more : (granted : List Granted) (lists : List Candidates) (list : Candidates) → AreUpTo granted lists → IsUpTo granted list → AreUpTo granted (lists ++ list ∷ [])
one_list_more granted lists list are is = λ op other here. elim (front_or_last lists list op other here) [
  | inl old ↦ are op other old
  | inr last ↦ subst (IsUpTo granted) last.1 is
]

pub list_replaced : (granted : List Granted) (lists : List Candidates) (op : ℕ) (list : Candidates) → AreUpTo granted lists → IsUpTo granted list → AreUpTo granted (set lists op list)
list_replaced granted lists op list are is = λ place other here. elim (get_set lists op place list other here) [
  | inl p ↦ subst (IsUpTo granted) p.1 is
  | inr old ↦ are place other old
]

get_same : {X : Type 0} (xs : List X) (i : ℕ) (x : X) → i < length xs → slice_get (set xs i x) i ≡ Some x
get_same [] i x lt = absurd (omega (arith, lt))
get_same (y ∷ ys) zero x lt = refl
get_same (y ∷ ys) (suc i) x lt = get_same ys i x (omega (arith, lt))

pub numbers_replaced : (lists : List Candidates) (op : ℕ) (list : Candidates) → op < length lists → numbers_at (set lists op list) op ≡ list.numbers
numbers_replaced lists op list lt = ap numbers_in (get_same lists op list lt)

pub on_ok : {X Y A B : Type 0} (r : Result X Y) → (A → B) → OnOk r A → OnOk r B
on_ok (Ok x) f a = f a
on_ok (Err y) f a = a
