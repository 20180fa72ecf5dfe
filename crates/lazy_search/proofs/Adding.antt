-- More clauses with their numbers.
use Rattle.std.proofs.Common.{◌≡◌, ℕ, zero, suc, ◌+◌, ◌-◌, ◌<◌, ◌≤◌, nat_lt, Bool, true, false, List, [], ◌∷◌, ◌++◌, length, Result, Ok, Err, OnOk, get_or, slice_get, refl, sym, ◌∙◌, ap, subst, arith, Some}
use Rattle.std.specs.List.{range_with_len}
use Rattle.std.proofs.lemmas.List.{length-append, get_or_append_left, get_or-append-add, ext_get_or}
use Rattle.std.proofs.Math.Seq.{get_or-append_seam}
use Rattle.std.proofs.lemmas.List.FromFn.{length-range_with_len, get_or-range_with_len}
use Rattle.std.proofs.lemmas.Bool.Decides.{nat_tests}
use Rattle.std.proofs.lemmas.Option.{slice_get_within}
use Rattle.proof_lines.specs.declared.clause.Lit.{Lit}
use Rattle.lazy_search.specs.Chosen.{AreAt, StandFrom}
use Rattle.lazy_search.proofs.Pieces.{get-skip}

pub range_next : (a n : ℕ) → range_with_len a (n + 1) ≡ range_with_len a n ++ (a + n) ∷ []
range_next a n = ext_get_or 0 (range_with_len a (n + 1)) (range_with_len a n ++ (a + n) ∷ []) long each
  where
    long : length (range_with_len a (n + 1)) ≡ length (range_with_len a n ++ (a + n) ∷ [])
    long =
        let x = length-range_with_len a (n + 1) in
        let y = length-range_with_len a n in
        let z = length-append (range_with_len a n) ((a + n) ∷ []) in omega (arith, x, y, z)

    by_place : (i : ℕ) → i < n + 1 → (x : Bool) → nat_lt i n ≡ x → get_or (range_with_len a n ++ (a + n) ∷ []) i 0 ≡ a + i
    by_place i l true e =
        let q : i < n = grind (arith, nat_tests) in
        let r : i < length (range_with_len a n) = omega (arith, q, length-range_with_len a n) in
        get_or_append_left (range_with_len a n) ((a + n) ∷ []) 0 i r ∙ get_or-range_with_len a n i 0 q
    by_place i l false e =
        let m : n ≤ i = grind (arith, nat_tests) in
        let k : i ≡ length (range_with_len a n) = omega (arith, l, m, length-range_with_len a n) in
        let w : a + n ≡ a + i = omega (arith, l, m) in
        ap (λ (z : ℕ). get_or (range_with_len a n ++ (a + n) ∷ []) z 0) k ∙ get_or-append_seam (range_with_len a n) (a + n) [] 0 ∙ w

    each : (i : ℕ) → i < length (range_with_len a (n + 1)) → get_or (range_with_len a (n + 1)) i 0 ≡ get_or (range_with_len a n ++ (a + n) ∷ []) i 0
    each i l =
        let q : i < n + 1 = omega (arith, l, length-range_with_len a (n + 1)) in
        get_or-range_with_len a (n + 1) i 0 q ∙ sym (by_place i q (nat_lt i n) refl)

get-left : {A : Type 0} (xs ys : List A) (i : ℕ) → i < length xs → slice_get (xs ++ ys) i ≡ slice_get xs i
get-left [] ys i h = absurd (omega (arith, h))
get-left (x ∷ xs) ys zero h = refl
get-left (x ∷ xs) ys (suc i) h = get-left xs ys i (omega (arith, h))

pub more_at : (all some more : List (List Lit)) (numbers : List ℕ) (from : ℕ) → StandFrom all from more → AreAt all some numbers → AreAt all (some ++ more) (numbers ++ range_with_len from (length more))
more_at all some more numbers from s h = record { as_many = many; there = λ i c e. by_place i c e (nat_lt i (length some)) refl }
  where
    range : List ℕ
    range = range_with_len from (length more)

    many : length (numbers ++ range) ≡ length (some ++ more)
    many =
        let a = length-append numbers range in
        let b = length-append some more in
        let c = length-range_with_len from (length more) in
        let d = h.as_many in omega (arith, a, b, c, d)

    by_place : (i : ℕ) (c : List Lit) → slice_get (some ++ more) i ≡ Some c → (x : Bool) → nat_lt i (length some) ≡ x → slice_get all (get_or (numbers ++ range) i 0) ≡ Some c
    by_place i c e true q =
        let l : i < length some = grind (arith, nat_tests) in
        let m : i < length numbers = omega (arith, l, h.as_many) in
        ap (λ (z : ℕ). slice_get all z) (get_or_append_left numbers range 0 i m) ∙ h.there i c (sym (get-left some more i l) ∙ e)
    by_place i c e false q =
        let l : length some ≤ i = grind (arith, nat_tests) in
        let k : i ≡ length some + (i - length some) = omega (arith, l) in
        let r = subst (λ (z : ℕ). slice_get (some ++ more) z ≡ Some c) k e in
        let t : slice_get more (i - length some) ≡ Some c = sym (get-skip some more (i - length some)) ∙ r in
        let w = slice_get_within more (i - length some) c t in
        let n : i ≡ length numbers + (i - length some) = omega (arith, l, h.as_many) in
        let v = ap (λ (z : ℕ). get_or (numbers ++ range) z 0) n ∙ get_or-append-add numbers range (i - length some) 0 ∙ get_or-range_with_len from (length more) (i - length some) 0 w in
        ap (λ (z : ℕ). slice_get all z) v ∙ s (i - length some) c t

-- one more clause with its number
pub one_more_at : (all some : List (List Lit)) (numbers : List ℕ) (n : ℕ) (c : List Lit) → slice_get all n ≡ Some c → AreAt all some numbers → AreAt all (some ++ c ∷ []) (numbers ++ n ∷ [])
one_more_at all some numbers n c there h = more_at all some (c ∷ []) numbers n stands h
  where
    stands : StandFrom all n (c ∷ [])
    stands zero d e = let same : n + 0 ≡ n = omega arith in ap (slice_get all) same ∙ there ∙ e
    stands (suc j) d e = absurd cc

-- one more number behind two lists
pub append-one : (xs ys old new : List ℕ) (n m : ℕ) → old ≡ xs ++ ys → new ≡ old ++ n ∷ [] → n ≡ m → new ≡ xs ++ (ys ++ m ∷ [])
append-one xs ys old new n m a b c = b ∙ ap (λ (z : List ℕ). z ++ n ∷ []) a ∙ assoc xs ∙ ap (λ (z : ℕ). xs ++ (ys ++ z ∷ [])) c
  where
    assoc : (zs : List ℕ) → (zs ++ ys) ++ n ∷ [] ≡ zs ++ (ys ++ n ∷ [])
    assoc [] = refl
    assoc (z ∷ zs) = ap (λ w. z ∷ w) (assoc zs)

pub on-ok : {X E : Type 0} {P Q : Type 0} (r : Result X E) → OnOk r P → (P → Q) → OnOk r Q
on-ok (Ok x) h f = f h
on-ok (Err e) h f = h
