-- The state after a call of the bank is the old one with one balance changed.
use Rattle.std.proofs.Common.{◌≡◌, ℕ, zero, suc, ◌<◌, ◌≤◌, ◌^◌, ℤ, pos, negsuc, ◌+ℤ◌, ◌-ℤ◌, ◌*ℤ◌, unsigned_abs, slice_index_or, Bool, true, false, cond, ◌&&◌, ◌||◌, ◌==◌, nat_lt, List, [], ◌∷◌, length, map, Option, Some, Result, Ok, Err, IfOk, OnOk, refl, sym, ◌∙◌, ap, subst, arith}
use Rattle.std.specs.List.{list_all}
use Rattle.std.specs.Str.{bytes_eq}
use Rattle.std.proofs.lemmas.Bool.{and_parts, and_from, le-leb, leb-true, ltb-true, true≢false, false_from_ne_true}
use Rattle.std.proofs.lemmas.Bool.Decides.{nat_tests}
use Rattle.std.proofs.lemmas.Int.{ints}
use Rattle.std.proofs.lemmas.Slice.Eq.{bytes_eq-Decides}
use Rattle.spec_core.specs.declared.world.World.{World}
use Rattle.spec_core.specs.declared.world.Call.{Call}
use Rattle.spec_core.specs.declared.formula.Elem.TheVariants.{Param}
use Rattle.spec_core.specs.declared.update.Spot.TheVariants.{One}
use Rattle.spec_core.specs.Specification.{Specification, op_of, counter_keys}
use Rattle.spec_core.specs.World.{tuples}
use Rattle.spec_core.specs.State.{Listing, Reads, reads, is_in, with_count}
use Rattle.spec_core.specs.Fits.{fits_places, values_fit, update_fits, is_state, in_state_range}
use Rattle.spec_core.proofs.Places.{small-fits_places}
use Rattle.spec_core.proofs.Operations.{fitting_call}
use Rattle.spec_core.proofs.Members.{is_in-tuples}
use Rattle.effectors.specs.declared.applying.ApplyRefused.{ApplyRefused}
use Rattle.effectors.specs.declared.applying.ApplyRefused.TheVariants.{Range}
use Rattle.effectors.specs.Effect.{spots_match, count_after, after, after_call}
use Rattle.effectors.specs.Beyond.{Beyond, AllInRange, first_beyond}
use Rattle.effectors.specs.Reaching.{with_updates, updates_in_range}
use Rattle.effectors.proofs.Fitting.{CallUpdates, call_updates}
use Rattle.effectors.proofs.FirstBeyond.{is_first}
use Rattle.effectors.proofs.Ranges.{in_range_all}
use Rattle.effectors.proofs.Reached.{spots_of, matching_fit, with_keys-cons, with_keys-nil}
use Rattle.effectors.proofs.Whole.{count-after}
use Rattle.effectors.proofs.Written.{written}
use Rattle.replica_host.specs.Native.{IsEffect}
use Rattle.bank_host.specs.Bank.{bank, the_counter, add_to_balance}
use Rattle.bank_host.specs.Calls.{account_of, amount_of, change_of, FitIn}
use Rattle.bank_host.proofs.WellFormed.{well}

-- ---- the operations

abbrev coef_of : ℕ → ℤ
coef_of zero = pos 1
coef_of (suc op) = negsuc 0

updates_is : (op : ℕ) → nat_lt op 2 ≡ true → (op_of bank op).updates ≡ add_to_balance (coef_of op) ∷ []
updates_is zero h = refl
updates_is (suc zero) h = refl
updates_is (suc (suc op)) h = let lt = ltb-true (suc (suc op)) 2 h in absurd (omega (arith, lt))

change_is : (op : ℕ) (n : ℤ) → nat_lt op 2 ≡ true → coef_of op *ℤ n +ℤ pos 0 ≡ cond (op == 0) n (pos 0 -ℤ n)
change_is zero n h = omega (arith, ints)
change_is (suc zero) n h = omega (arith, ints)
change_is (suc (suc op)) n h = let lt = ltb-true (suc (suc op)) 2 h in absurd (omega (arith, lt))

-- ---- one key

equal_either_way : (j k : ℕ) → (j == k) ≡ (k == j)
equal_either_way j k = grind (arith, nat_tests)

with_true : (b : Bool) → ((b && true) && true) ≡ (b && true)
with_true b = grind arith

with_false : (b c : Bool) → ((b && false) && true) ≡ (c && false)
with_false b c = grind arith

matches_key : (w : World) (args : List ℤ) (q : List ℕ) → (spots_match w args (One (Param 0) ∷ []) q && true) ≡ bytes_eq q (unsigned_abs (slice_index_or args 0 (pos 0)) ∷ [])
matches_key w args [] = refl
matches_key w args (j ∷ []) =
    let k = unsigned_abs (slice_index_or args 0 (pos 0)) in
    ap (λ b. (b && true) && true) (equal_either_way k j) ∙ with_true (j == k)
matches_key w args (j ∷ i ∷ js) =
    let k = unsigned_abs (slice_index_or args 0 (pos 0)) in
    with_false (k == j) (j == k)

keys_same : (q t : List ℕ) → bytes_eq q t ≡ true → q ≡ t
keys_same q t h = (bytes_eq-Decides q t).0 h

same_keys : (q : List ℕ) → bytes_eq q q ≡ true
same_keys q = (bytes_eq-Decides q q).1 refl

keys_differ : (q t : List ℕ) → bytes_eq q t ≡ false → bytes_eq t q ≡ false
keys_differ q t h = false_from_ne_true (bytes_eq t q) (λ e. true≢false (sym (ap (λ x. bytes_eq x t) (sym (keys_same t q e)) ∙ same_keys t) ∙ h))

argument_within : (args : List ℤ) → list_all in_state_range args ≡ true → (n : ℕ) → unsigned_abs (slice_index_or args n (pos 0)) ≤ 10 ^ 15
argument_within [] h n = omega arith
argument_within (a ∷ args) h zero = leb-true (unsigned_abs a) (10 ^ 15) (and_parts _ _ h).0
argument_within (a ∷ args) h (suc n) = argument_within args (and_parts _ _ h).1 n

-- ---- the state after a call

-- one balance of a copy is changed, where the new value is in the range of a state
pub record Changes (s : Listing) (key : List ℕ) (change : ℤ) (r : Result Listing ApplyRefused) : Type 0 where
  pub reads_so : IfOk r (λ next. reads next ≡ with_count (reads s) 0 key ((reads s).count 0 key +ℤ change))
  pub in_range : OnOk r (in_state_range ((reads s).count 0 key +ℤ change) ≡ true)
  pub fits : IfOk r (λ next. (d : Specification) (v : World) → is_state d v s ≡ true → fits_places v (counter_keys d 0) key ≡ true → is_state d v next ≡ true)
  pub range : (b : Beyond) → r ≡ Err (Range b.counter b.key b.value) → (b ≡ record { counter = 0; key = key; value = (reads s).count 0 key +ℤ change }) × (in_state_range ((reads s).count 0 key +ℤ change) ≡ false)

values_some : (w : World) (ls : List (List (List ℕ × ℤ))) → values_fit w (the_counter ∷ []) ls ≡ true → 0 < length ls
values_some w [] h = absurd cc
values_some w (l ∷ ls) h = omega arith

pub some_counter : (w : World) (s : Listing) → is_state bank w s ≡ true → 0 < length s.counters
some_counter w s h = values_some w s.counters (and_parts _ _ h).1

module _ (w : World) (s : Listing) (call : Call) (f : FitIn w s call) where
  abbrev key : List ℕ
  key = account_of call ∷ []

  abbrev old : ℤ
  old = (reads s).count 0 key

  abbrev new : Reads
  new = after bank w call (reads s)

  u : CallUpdates bank w call
  u = call_updates bank w call well f.world f.call

  small_op : nat_lt call.op 2 ≡ true
  small_op = (and_parts _ _ (fitting_call bank w call f.call).0).0

  one_update : (op_of bank call.op).updates ≡ add_to_balance (coef_of call.op) ∷ []
  one_update = updates_is call.op small_op

  update_fit : update_fits bank w call.args (add_to_balance (coef_of call.op)) ≡ true
  update_fit = (and_parts _ _ (ap (list_all (update_fits bank w call.args)) (sym one_update) ∙ u.fit)).0

  pub key_fits : fits_places w (0 ∷ []) (account_of call ∷ []) ≡ true
  key_fits = (and_parts _ _ (matching_fit w call.args (0 ∷ []) (One (Param 0) ∷ []) (spots_of bank w (reads s) call.args (add_to_balance (coef_of call.op)) update_fit))).0

  pub small_account : account_of call < 2 ^ 32
  small_account = ltb-true (account_of call) (2 ^ 32) (and_parts _ _ (small-fits_places bank w f.world call.args [] (0 ∷ []) (Param 0 ∷ []) key_fits)).0

  pub small_amount : unsigned_abs (amount_of call) ≤ 10 ^ 15
  small_amount = argument_within call.args u.args 1

  counted : (q : List ℕ) → count_after w (reads s) call.args 0 q (op_of bank call.op).updates ((reads s).count 0 q) ≡ cond (bytes_eq q key) ((reads s).count 0 q +ℤ change_of call) ((reads s).count 0 q)
  counted q =
      ap (λ us. count_after w (reads s) call.args 0 q us ((reads s).count 0 q)) one_update
      ∙ (λ i. cond (matches_key w call.args q i) ((reads s).count 0 q +ℤ change_is call.op (amount_of call) small_op i) ((reads s).count 0 q))

  counted_here : count_after w (reads s) call.args 0 key (op_of bank call.op).updates ((reads s).count 0 key) ≡ old +ℤ change_of call
  counted_here = counted key ∙ ap (λ (b : Bool). cond b (old +ℤ change_of call) old) (same_keys key)

  counted_elsewhere : (q : List ℕ) → bytes_eq q key ≡ false → count_after w (reads s) call.args 0 q (op_of bank call.op).updates ((reads s).count 0 q) ≡ (reads s).count 0 q
  counted_elsewhere q h = counted q ∙ ap (λ (b : Bool). cond b ((reads s).count 0 q +ℤ change_of call) ((reads s).count 0 q)) h

  new_value : new.count 0 key ≡ old +ℤ change_of call
  new_value =
      count-after bank w call (reads s) 0 key
      ∙ ap (λ (b : Bool). cond b (count_after w (reads s) call.args 0 key (op_of bank call.op).updates old) (pos 0)) key_fits
      ∙ counted_here

  pub after_is : after bank w call (reads s) ≡ with_count (reads s) 0 (account_of call ∷ []) ((reads s).count 0 (account_of call ∷ []) +ℤ change_of call)
  after_is =
      sym (ap (λ us. with_updates bank w call.args us new (reads s)) (sym one_update) ∙ written bank w call s f.state u)
      ∙ sym (with_keys-cons 0 key [] new (reads s))
      ∙ with_keys-nil 0 new (with_count (reads s) 0 key (new.count 0 key))
      ∙ ap (with_count (reads s) 0 key) new_value

  module _ (range : (k : ℕ) (t : List ℕ) → unsigned_abs ((reads s).count k t) ≤ 10 ^ 15) where
    all_in_range : in_state_range (old +ℤ change_of call) ≡ true → AllInRange (after_call bank w call (reads s))
    all_in_range h = in_range_all bank w call s f.state u range
        (ap (λ us. updates_in_range bank w call.args us new) one_update ∙ and_from _ _ (and_from _ _ (ap in_state_range new_value ∙ h) refl) refl)

    module _ (out : in_state_range (old +ℤ change_of call) ≡ false) where
      abbrev value_at : List ℕ → ℤ
      value_at q = count_after w (reads s) call.args 0 q (op_of bank call.op).updates ((reads s).count 0 q)

      abbrev the_value : Beyond
      the_value = record { counter = 0; key = key; value = old +ℤ change_of call }

      found : (ts : List (List ℕ)) → is_in key ts ≡ true → first_beyond 0 (map (λ t. (t, value_at t)) ts ∷ []) ≡ Some the_value
      found [] h = absurd cc
      found (t ∷ ts) h = at (bytes_eq key t) refl (λ k. found ts k)
        where
          rest : Option Beyond
          rest = first_beyond 0 (map (λ t. (t, value_at t)) ts ∷ [])

          here : cond (in_state_range (value_at key)) rest (Some (record { counter = 0; key = key; value = value_at key })) ≡ Some the_value
          here = ap (λ v. cond (in_state_range v) rest (Some (record { counter = 0; key = key; value = v }))) counted_here
              ∙ ap (λ (b : Bool). cond b rest (Some the_value)) out

          at : (b : Bool) → bytes_eq key t ≡ b → (is_in key ts ≡ true → rest ≡ Some the_value) → cond (in_state_range (value_at t)) rest (Some (record { counter = 0; key = t; value = value_at t })) ≡ Some the_value
          at true e later = subst (λ x. cond (in_state_range (value_at x)) rest (Some (record { counter = 0; key = x; value = value_at x })) ≡ Some the_value) (keys_same key t e) here
          at false e later =
              ap (λ v. cond (in_state_range v) rest (Some (record { counter = 0; key = t; value = value_at t }))) (counted_elsewhere t (keys_differ key t e))
              ∙ ap (λ (b : Bool). cond b rest (Some (record { counter = 0; key = t; value = value_at t }))) (le-leb (unsigned_abs ((reads s).count 0 t)) (10 ^ 15) (range 0 t))
              ∙ later (ap (λ (b : Bool). b || is_in key ts) (sym e) ∙ h)

      first_is : first_beyond 0 (after_call bank w call (reads s)).counters ≡ Some the_value
      first_is = found (tuples w (0 ∷ [])) (is_in-tuples w (0 ∷ []) key ∙ key_fits)

    so : (r : Result Listing ApplyRefused) → IfOk r (λ next. reads next ≡ with_count (reads s) 0 (account_of call ∷ []) ((reads s).count 0 (account_of call ∷ []) +ℤ change_of call)) → IfOk r (λ next. reads next ≡ after bank w call (reads s))
    so (Ok next) e = e ∙ sym after_is
    so (Err why) e = tt

    fit : (r : Result Listing ApplyRefused) → IfOk r (λ next. (d : Specification) (v : World) → is_state d v s ≡ true → fits_places v (counter_keys d 0) (account_of call ∷ []) ≡ true → is_state d v next ≡ true) → IfOk r (λ next. is_state bank w next ≡ true)
    fit (Ok next) k = k bank w f.state key_fits
    fit (Err why) k = tt

    ranged : (r : Result Listing ApplyRefused) → OnOk r (in_state_range ((reads s).count 0 (account_of call ∷ []) +ℤ change_of call) ≡ true) → OnOk r (AllInRange (after_call bank w call (reads s)))
    ranged (Ok next) h = all_in_range h
    ranged (Err why) h = tt

    -- what changes the balance of the account, or names its new value, is an effect of the bank
    changes_well : (r : Result Listing ApplyRefused) → Changes s (account_of call ∷ []) (change_of call) r → IsEffect bank w s call r
    changes_well r c = record {
      reads_so = so r c.reads_so;
      fits = fit r c.fits;
      in_range = ranged r c.in_range;
      range = λ b is. let x = c.range b is in is_first (after_call bank w call (reads s)) b (first_is x.1 ∙ ap Some (sym x.0));
    }

    pub is_effect : (r : Result Listing ApplyRefused) (q : List ℕ) (change : ℤ) → q ≡ account_of call ∷ [] → change ≡ change_of call → Changes s q change r → IsEffect bank w s call r
    is_effect r q change here so c = changes_well r (subst (λ z. Changes s (account_of call ∷ []) z r) so (subst (λ k. Changes s k change r) here c))
