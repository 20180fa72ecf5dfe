-- Causally closed sets of events: the members of an order are one, and in an execution each has an order, by number.
use Rattle.std.specs.Prelude.{Contains, slice_get, Some}
use Rattle.std.proofs.Common.{◌≡◌, ℕ, zero, suc, ◌<◌, ◌≤◌, Bool, true, false, cond, ◌⊎◌, inl, inr, List, [], ◌∷◌, ◌++◌, length, get_or, take, refl, sym, ◌∙◌, subst, arith}
use Rattle.std.proofs.lemmas.Bool.{both_ways}
use Rattle.std.proofs.lemmas.List.Elements.{Contains-append_left, Contains-append_right, Contains-append_cases}
use Rattle.executions.specs.Orders.{Event, AreIn, IsOrder, IsClosed, IsOrderOf}
use Rattle.executions.specs.Executions.{System, IsExecution}
use Rattle.executions.proofs.Lists.{mem, in_none, in_first, first_or_rest, mem_contains, contains_mem}
use Rattle.executions.proofs.Growth.{no_events, order_more, order_within}
use Rattle.executions.proofs.Systems.{event_at}

-- ---- the members of an order are causally closed
at_place : (xs : List ℕ) (k x : ℕ) → k < length xs → get_or xs k x ≡ x → slice_get xs k ≡ Some x
at_place [] k x lt q = absurd (omega (arith, lt))
at_place (y ∷ xs) zero x lt q = (let e : y ≡ x = q in λ i. Some (e i))
at_place (y ∷ xs) (suc k) x lt q = at_place xs k x (omega (arith, lt)) q

in_front : (i : ℕ) (xs : List ℕ) (x : ℕ) → Contains (take i xs) x → Contains xs x
in_front zero xs x c = absurd (in_none x (contains_mem x [] c))
in_front (suc i) [] x c = c
in_front (suc i) (y ∷ xs) x c = elim (first_or_rest x y (take i xs) (contains_mem x (y ∷ take i xs) c)) [
  | inl e ↦ subst (λ z. Contains (z ∷ xs) x) e (mem_contains x (x ∷ xs) (in_first x xs))
  | inr r ↦ Contains-append_right (y ∷ []) xs x (in_front i xs x (mem_contains x (take i xs) r))
]

same_event : {C : Type 0} (one other : Event C) → Some one ≡ Some other → one ≡ other
same_event one other e = cc

pub order_is_closed : {C : Type 0} (events : List (Event C)) (order : List ℕ) → IsOrder events order → IsClosed events order
order_is_closed {C} events order is = record {
  exist = order_within events order is;
  closed = λ e event c h x saw.
      (let may = is c.0 e (at_place order c.0 e c.1 c.2) in
      let same = same_event may.event event (sym may.exists ∙ h) in
      in_front c.0 order x (may.after x (subst (λ (v : Event C). Contains v.seen x) (sym same) saw)));
}

-- ---- the events of a closed set, by number
by_number : List ℕ → ℕ → List ℕ
by_number set zero = []
by_number set (suc n) = cond (mem n set) (by_number set n ++ n ∷ []) (by_number set n)

-- an order of the events of a set that are below a number
record IsFront {C : Type 0} (events : List (Event C)) (set : List ℕ) (n : ℕ) (order : List ℕ) : Type 0 where
  ordered : IsOrder events order
  within : AreIn order set
  below : (e : ℕ) → Contains order e → e < n
  whole : (e : ℕ) → Contains set e → e < n → Contains order e

one_of : (e n : ℕ) → Contains (n ∷ []) e → e ≡ n
one_of e n c = elim (first_or_rest e n [] (contains_mem e (n ∷ []) c)) [ inl q ↦ q | inr r ↦ absurd (in_none e r) ]

only : (n : ℕ) → Contains (n ∷ []) n
only n = mem_contains n (n ∷ []) (in_first n [])

below_or_last : (e n : ℕ) → e < suc n → (e < n) ⊎ (e ≡ n)
below_or_last e n lt = grind arith

module _ (s : System) (events : List (Event s.Call)) (run : IsExecution s events) (set : List ℕ) (is : IsClosed events set) where
  -- the next event may follow where it is of the set, since it has seen earlier ones alone
  longer : (n : ℕ) (order : List ℕ) → n < length events → Contains set n → IsFront events set n order → IsFront events set (suc n) (order ++ n ∷ [])
  longer n order lt member f =
      let v = event_at events n lt in
      record {
        ordered = order_more events order n f.ordered (record {
          event = v.0;
          exists = v.1;
          new = λ c. (let less = f.below n c in omega (arith, less));
          after = λ x c. f.whole x (is.closed n v.0 member v.1 x c) ((run n v.0 v.1).earlier x c);
        });
        within = λ e c. elim (Contains-append_cases order (n ∷ []) e c) [ inl l ↦ f.within e l | inr r ↦ subst (Contains set) (sym (one_of e n r)) member ];
        below = λ e c. elim (Contains-append_cases order (n ∷ []) e c) [ inl l ↦ (let less = f.below e l in omega (arith, less)) | inr r ↦ (let q = one_of e n r in omega (arith, q)) ];
        whole = λ e c less. elim (below_or_last e n less) [
          | inl l ↦ Contains-append_left order (n ∷ []) e (f.whole e c l)
          | inr q ↦ Contains-append_right order (n ∷ []) e (subst (Contains (n ∷ [])) (sym q) (only n))
        ];
      }

  same : (n : ℕ) (order : List ℕ) → mem n set ≡ false → IsFront events set n order → IsFront events set (suc n) order
  same n order out f = record {
    ordered = f.ordered;
    within = f.within;
    below = λ e c. (let less = f.below e c in omega (arith, less));
    whole = λ e c less. elim (below_or_last e n less) [
      | inl l ↦ f.whole e c l
      | inr q ↦ absurd (both_ways (mem n set) out (contains_mem n set (subst (Contains set) q c)))
    ];
  }

  fronts : (n : ℕ) → n ≤ length events → IsFront events set n (by_number set n)
  unfolding by_number
  fronts zero le = record { ordered = no_events events; within = λ e c. absurd (in_none e (contains_mem e [] c)); below = λ e c. absurd (in_none e (contains_mem e [] c)); whole = λ e c less. absurd (omega (arith, less)) }
  fronts (suc n) le = at (mem n set) refl (fronts n (omega (arith, le)))
    where
      at : (b : Bool) → mem n set ≡ b → IsFront events set n (by_number set n) → IsFront events set (suc n) (cond b (by_number set n ++ n ∷ []) (by_number set n))
      at true h f = longer n (by_number set n) (omega (arith, le)) (mem_contains n set h) f
      at false h f = same n (by_number set n) h f

  pub closed_has_order : (order : List ℕ) × IsOrderOf events set order
  closed_has_order =
      let f = fronts (length events) (omega arith) in
      (by_number set (length events), record { ordered = f.ordered; within = f.within; whole = λ e c. f.whole e c (is.exist e c) })
