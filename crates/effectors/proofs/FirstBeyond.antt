-- The search for the first value beyond the range of a state finds it, and finds none exactly where all are in range.
use Rattle.std.proofs.Common.{◌≡◌, ℕ, zero, suc, ◌+◌, ◌<◌, ℤ, Bool, true, false, cond, List, [], ◌∷◌, ◌++◌, get_or, None, Some, refl, ◌∙◌, ap, subst, arith}
use Rattle.std.proofs.lemmas.Bool.{and_parts, and_from, cond-true, cond-false}
use Rattle.spec_core.specs.State.{Listing}
use Rattle.spec_core.specs.Fits.{in_state_range}
use Rattle.effectors.specs.Beyond.{Beyond, all_in_range, AllInRange, IsFirstBeyond, first_beyond}

-- the first value beyond the range among some counters: the place of its counter among them, its key and itself
record IsFirst (ls : List (List (List ℕ × ℤ))) (n : ℕ) (key : List ℕ) (value : ℤ) : Type 0 where
  before : List (List ℕ × ℤ)
  behind : List (List ℕ × ℤ)
  listed : get_or ls n [] ≡ before ++ (key, value) ∷ behind
  out : in_state_range value ≡ false
  in_counter : all_in_range before ≡ true
  in_earlier : (k : ℕ) → k < n → all_in_range (get_or ls k []) ≡ true

-- what is found among counters that are numbered on from k
record Found (k : ℕ) (ls : List (List (List ℕ × ℤ))) (b : Beyond) : Type 0 where
  place : ℕ
  counter : b.counter ≡ k + place
  first : IsFirst ls place b.key b.value

-- ---- what is found is the first
-- behind a counter with no value left
found_later : (k : ℕ) (ls : List (List (List ℕ × ℤ))) (b : Beyond) → Found (suc k) ls b → Found k ([] ∷ ls) b
found_later k ls b f = record {
  place = suc f.place;
  counter = (let e = f.counter in omega (arith, e));
  first = record {
    before = f.first.before;
    behind = f.first.behind;
    listed = f.first.listed;
    out = f.first.out;
    in_counter = f.first.in_counter;
    in_earlier = earlier;
  };
}
  where
    earlier : (j : ℕ) → j < suc f.place → all_in_range (get_or ([] ∷ ls) j []) ≡ true
    earlier zero lt = refl
    earlier (suc j) lt = f.first.in_earlier j (omega (arith, lt))

-- behind a value in range
found_behind : (k : ℕ) (e : List ℕ × ℤ) (es : List (List ℕ × ℤ)) (ls : List (List (List ℕ × ℤ))) (b : Beyond) → in_state_range e.1 ≡ true → Found k (es ∷ ls) b → Found k ((e ∷ es) ∷ ls) b
found_behind k e es ls b i f = record { place = f.place; counter = f.counter; first = at f.place f.first }
  where
    at : (n : ℕ) → IsFirst (es ∷ ls) n b.key b.value → IsFirst ((e ∷ es) ∷ ls) n b.key b.value
    at zero g = record {
      before = e ∷ g.before;
      behind = g.behind;
      listed = ap (λ l. e ∷ l) g.listed;
      out = g.out;
      in_counter = and_from (in_state_range e.1) (all_in_range g.before) i g.in_counter;
      in_earlier = λ j lt. absurd (omega (arith, lt));
    }
    at (suc n) g = record { before = g.before; behind = g.behind; listed = g.listed; out = g.out; in_counter = g.in_counter; in_earlier = earlier n g }
      where
        earlier : (n : ℕ) → IsFirst (es ∷ ls) (suc n) b.key b.value → (j : ℕ) → j < suc n → all_in_range (get_or ((e ∷ es) ∷ ls) j []) ≡ true
        earlier n g zero lt = and_from (in_state_range e.1) (all_in_range es) i (g.in_earlier 0 (omega arith))
        earlier n g (suc j) lt = g.in_earlier (suc j) lt

same_beyond : (a b : Beyond) → Some a ≡ Some b → a ≡ b
same_beyond a b e = cc

found_in : (k : ℕ) (es : List (List ℕ × ℤ)) (ls : List (List (List ℕ × ℤ))) (b : Beyond) → (first_beyond (suc k) ls ≡ Some b → Found (suc k) ls b) → first_beyond k (es ∷ ls) ≡ Some b → Found k (es ∷ ls) b
found_in k [] ls b later h = found_later k ls b (later h)
found_in k (e ∷ es) ls b later h = at (in_state_range e.1) refl h (λ g. found_in k es ls b later g)
  where
    at : (t : Bool) → in_state_range e.1 ≡ t → cond t (first_beyond k (es ∷ ls)) (Some (record { counter = k; key = e.0; value = e.1 })) ≡ Some b → (first_beyond k (es ∷ ls) ≡ Some b → Found k (es ∷ ls) b) → Found k ((e ∷ es) ∷ ls) b
    at true i h rest = found_behind k e es ls b i (rest h)
    at false i h rest =
        let here : Beyond = record { counter = k; key = e.0; value = e.1 } in
        subst (Found k ((e ∷ es) ∷ ls)) (same_beyond here b h) (record {
          place = 0;
          counter = (let q : k ≡ k + 0 = omega arith in q);
          first = record { before = []; behind = es; listed = refl; out = i; in_counter = refl; in_earlier = λ j lt. absurd (omega (arith, lt)) };
        })

found : (k : ℕ) (ls : List (List (List ℕ × ℤ))) (b : Beyond) → first_beyond k ls ≡ Some b → Found k ls b
found k [] b h = absurd cc
found k (es ∷ ls) b h = found_in k es ls b (found (suc k) ls b) h

-- ---- the first is found
skips : (k : ℕ) (e : List ℕ × ℤ) (es : List (List ℕ × ℤ)) (ls : List (List (List ℕ × ℤ))) → in_state_range e.1 ≡ true → first_beyond k ((e ∷ es) ∷ ls) ≡ first_beyond k (es ∷ ls)
skips k e es ls h = cond-true (in_state_range e.1) (first_beyond k (es ∷ ls)) (Some (record { counter = k; key = e.0; value = e.1 })) h

past : (k : ℕ) (es : List (List ℕ × ℤ)) (ls : List (List (List ℕ × ℤ))) → all_in_range es ≡ true → first_beyond k (es ∷ ls) ≡ first_beyond (suc k) ls
past k [] ls h = refl
past k (e ∷ es) ls h = let p = and_parts (in_state_range e.1) (all_in_range es) h in skips k e es ls p.0 ∙ past k es ls p.1

finds_here : (k : ℕ) (before behind : List (List ℕ × ℤ)) (key : List ℕ) (value : ℤ) (ls : List (List (List ℕ × ℤ))) → all_in_range before ≡ true → in_state_range value ≡ false
    → first_beyond k ((before ++ (key, value) ∷ behind) ∷ ls) ≡ Some (record { counter = k; key = key; value = value })
finds_here k [] behind key value ls h out = cond-false (in_state_range value) (first_beyond k (behind ∷ ls)) (Some (record { counter = k; key = key; value = value })) out
finds_here k (e ∷ before) behind key value ls h out =
    let p = and_parts (in_state_range e.1) (all_in_range before) h in skips k e (before ++ (key, value) ∷ behind) ls p.0 ∙ finds_here k before behind key value ls p.1 out

nothing_listed : (before behind : List (List ℕ × ℤ)) (e : List ℕ × ℤ) → [] ≡ before ++ e ∷ behind → ⊥
nothing_listed [] behind e h = cc
nothing_listed (x ∷ before) behind e h = cc

finds : (k n : ℕ) (ls : List (List (List ℕ × ℤ))) (key : List ℕ) (value : ℤ) → IsFirst ls n key value → first_beyond k ls ≡ Some (record { counter = k + n; key = key; value = value })
finds k n [] key value f = absurd (nothing_listed f.before f.behind (key, value) f.listed)
finds k zero (es ∷ ls) key value f =
    ap (λ l. first_beyond k (l ∷ ls)) f.listed ∙ finds_here k f.before f.behind key value ls f.in_counter f.out
    ∙ ap (λ (m : ℕ). Some (record { counter = m; key = key; value = value })) (let e : k ≡ k + 0 = omega arith in e)
finds k (suc n) (es ∷ ls) key value f =
    past k es ls (f.in_earlier 0 (omega arith))
    ∙ finds (suc k) n ls key value (record { before = f.before; behind = f.behind; listed = f.listed; out = f.out; in_counter = f.in_counter; in_earlier = λ j lt. f.in_earlier (suc j) (let q : suc j < suc n = omega (arith, lt) in q) })
    ∙ ap (λ (m : ℕ). Some (record { counter = m; key = key; value = value })) (let e : suc k + n ≡ k + suc n = omega arith in e)

-- ---- none is found
none_found_in : (k : ℕ) (es : List (List ℕ × ℤ)) (ls : List (List (List ℕ × ℤ))) → (first_beyond (suc k) ls ≡ None → (j : ℕ) → all_in_range (get_or ls j []) ≡ true) → first_beyond k (es ∷ ls) ≡ None → (j : ℕ) → all_in_range (get_or (es ∷ ls) j []) ≡ true
none_found_in k [] ls more h zero = refl
none_found_in k [] ls more h (suc j) = more h j
none_found_in k (e ∷ es) ls more h j = at (in_state_range e.1) refl h j (λ h j. none_found_in k es ls more h j)
  where
    at : (b : Bool) → in_state_range e.1 ≡ b → cond b (first_beyond k (es ∷ ls)) (Some (record { counter = k; key = e.0; value = e.1 })) ≡ None → (j : ℕ)
        → (first_beyond k (es ∷ ls) ≡ None → (j : ℕ) → all_in_range (get_or (es ∷ ls) j []) ≡ true)
        → all_in_range (get_or ((e ∷ es) ∷ ls) j []) ≡ true
    at true i h zero rest = and_from (in_state_range e.1) (all_in_range es) i (rest h zero)
    at true i h (suc j) rest = rest h (suc j)
    at false i h j rest = absurd cc

none_found : (k : ℕ) (ls : List (List (List ℕ × ℤ))) → first_beyond k ls ≡ None → (j : ℕ) → all_in_range (get_or ls j []) ≡ true
none_found k [] h j = refl
none_found k (es ∷ ls) h j = none_found_in k es ls (none_found (suc k) ls) h j

finds_none : (k : ℕ) (ls : List (List (List ℕ × ℤ))) → ((j : ℕ) → all_in_range (get_or ls j []) ≡ true) → first_beyond k ls ≡ None
finds_none k [] h = refl
finds_none k (es ∷ ls) h = past k es ls (h 0) ∙ finds_none (suc k) ls (λ j. h (suc j))

-- ---- of a listing
module _ (s : Listing) where
  pub is_first : (b : Beyond) → first_beyond 0 s.counters ≡ Some b → IsFirstBeyond s b
  is_first b h =
      let f = found 0 s.counters b h in
      let e : f.place ≡ b.counter = (let q = f.counter in omega (arith, q)) in
      let g = subst (λ n. IsFirst s.counters n b.key b.value) e f.first in
      record { before = g.before; behind = g.behind; listed = g.listed; out = g.out; in_counter = g.in_counter; in_earlier = g.in_earlier }

  pub first_is : (b : Beyond) → IsFirstBeyond s b → first_beyond 0 s.counters ≡ Some b
  first_is b f =
      finds 0 b.counter s.counters b.key b.value (record { before = f.before; behind = f.behind; listed = f.listed; out = f.out; in_counter = f.in_counter; in_earlier = f.in_earlier })
      ∙ ap (λ (m : ℕ). Some (record { counter = m; key = b.key; value = b.value })) (let e : 0 + b.counter ≡ b.counter = omega arith in e)

  pub none_is : first_beyond 0 s.counters ≡ None → AllInRange s
  none_is h = none_found 0 s.counters h

  pub is_none : AllInRange s → first_beyond 0 s.counters ≡ None
  is_none h = finds_none 0 s.counters h
