use Rattle.std.proofs.Common.{◌≡◌, ℕ, zero, suc, ◌<◌, ◌≤◌, ◌+◌, ◌/◌, ℤ, pos, negsuc, unsigned_abs, Bool, true, false, cond, not, ◌&&◌, ◌||◌, List, [], ◌∷◌, ◌++◌, length, map, get_or, refl, sym, ◌∙◌, ap, subst, arith, Option, Some, None, Result, Ok, Err}
use Rattle.std.proofs.lemmas.Bool.{and_from, and_parts, le-ltb, lt-ltb, ltb-true}
use Rattle.std.specs.Prelude.{◌==◌, nat_lt, nat_le}
use Rattle.std.specs.List.{list_any}
use Rattle.std.specs.Ordering.{int_eq}
use Rattle.std.proofs.lemmas.List.{length-append, get_or_append_left}
use Rattle.std.proofs.lemmas.Bool.Decides.{nat_tests, Decides-int_eq}
use Rattle.lin_rows.specs.declared.combining.Combined.{Combined}
use Rattle.lin_rows.specs.Numbers.{is_zero}
use Rattle.lin_rows.specs.Rows.{Row, coefficient_at}
use Rattle.lin_rows.specs.Divisors.{tightened, common_divisor}
use Rattle.lin_rows.specs.Sums.{row_sum}
use Rattle.lin_rows.specs.Cancelling.{first_factor, second_factor, least_factor, combined}
use Rattle.lin_rows.proofs.Points.{option_map-went}
use Rattle.proof_lines.specs.declared.line.RowStep.{RowStep}
use Rattle.proof_lines.specs.declared.line.RangeWhat.{RangeWhat}
use Rattle.proof_lines.specs.declared.line.Why.{Why}
use Rattle.proof_lines.specs.declared.line.Why.TheVariants.{Place, Multiplier, Range}
use Rattle.line_rows.specs.Evidence.{cancels_at}
use Rattle.line_rows.specs.Refusals.{then_, or_broken}
use Rattle.line_rows.specs.Steps.{no_row, row_at, step_row, with_steps, held_rows, is_negative, is_positive}
use Rattle.line_rows.proofs.KeptLines.{length-with_steps}
use Rattle.line_rows.proofs.Sound.{ok_is}
use Rattle.theory_api.specs.Chosen.{Choice, is_named, is_driven, are_driven, is_among, are_among}
use Rattle.theory_api.specs.Elimination.{stage, first_place, meet, eliminates, ends_in_order, eliminate}
use Rattle.theory_api.specs.Ends.{last_stage, steps_below, names_none, after}

sign : (one other : ℤ) → is_negative (least_factor one other) ≡ false
sign one other = le-ltb (unsigned_abs other / common_divisor (unsigned_abs one ∷ unsigned_abs other ∷ [])) 0 (omega arith)

-- HELD ROWS: ONE STEP MORE

pub with_steps-more : (rows : List Row) (steps : List RowStep) (held : List Row) (s : RowStep) (r : Row) → with_steps rows steps ≡ Ok held → step_row held s ≡ Ok r → with_steps rows (steps ++ s ∷ []) ≡ Ok (held ++ r ∷ [])
with_steps-more rows [] held s r h k =
    let e = ok_is rows held (Ok rows) refl h in
    (λ i. then_ (step_row (e i) s) (λ q. Ok (e i ++ q ∷ []))) ∙ ap (λ o. then_ o (λ q. Ok (held ++ q ∷ []))) k
with_steps-more rows (t ∷ steps) held s r h k = by_row (step_row rows t) h (λ q. with_steps-more (rows ++ q ∷ []) steps held s r)
  where
    by_row : (o : Result Row Why) → then_ o (λ q. with_steps (rows ++ q ∷ []) steps) ≡ Ok held
        → ((q : Row) → with_steps (rows ++ q ∷ []) steps ≡ Ok held → step_row held s ≡ Ok r → with_steps (rows ++ q ∷ []) (steps ++ s ∷ []) ≡ Ok (held ++ r ∷ []))
        → then_ o (λ q. with_steps (rows ++ q ∷ []) (steps ++ s ∷ [])) ≡ Ok (held ++ r ∷ [])
    by_row (Ok q) e f = f q e k
    by_row (Err w) e f = absurd cc

pub held_rows-more : (given : List Row) (steps : List RowStep) (held : List Row) (s : RowStep) (r : Row) → held_rows given steps ≡ Ok held → step_row held s ≡ Ok r → held_rows given (steps ++ s ∷ []) ≡ Ok (held ++ r ∷ [])
held_rows-more given steps held s r h k = with_steps-more (map tightened given) steps held s r h k

le_lt : (a n m : ℕ) → nat_lt a n ≡ true → n ≤ m → nat_lt a m ≡ true
le_lt a n m h k = grind (arith, nat_tests)

-- the rows of the steps are held rows
pub steps-held : (rows : List Row) (steps : List RowStep) (held : List Row) → with_steps rows steps ≡ Ok held → steps_below (length held) steps ≡ true
steps-held rows [] held h = refl
steps-held rows (t ∷ steps) held h = by_place (nat_lt t.left (length rows) && nat_lt t.right (length rows)) refl h (λ q. steps-held (rows ++ q ∷ []) steps held)
  where
    long : length rows ≤ length held
    long = let l = length-with_steps rows (t ∷ steps) held h in omega arith

    by_row : (o : Result Row Why) → then_ o (λ q. with_steps (rows ++ q ∷ []) steps) ≡ Ok held
        → ((q : Row) → with_steps (rows ++ q ∷ []) steps ≡ Ok held → steps_below (length held) steps ≡ true) → steps_below (length held) steps ≡ true
    by_row (Ok q) e f = f q e
    by_row (Err w) e f = absurd cc

    by_place : (b : Bool) → (nat_lt t.left (length rows) && nat_lt t.right (length rows)) ≡ b
        → then_ (cond b (cond (not (is_negative t.first || is_negative t.second)) (or_broken Range (row_sum (row_at rows t.left) t.first (row_at rows t.right) t.second)) (Err Multiplier)) (Err Place))
        (λ q. with_steps (rows ++ q ∷ []) steps) ≡ Ok held
        → ((q : Row) → with_steps (rows ++ q ∷ []) steps ≡ Ok held → steps_below (length held) steps ≡ true) → steps_below (length held) (t ∷ steps) ≡ true
    by_place true e k f =
        let b = and_parts (nat_lt t.left (length rows)) (nat_lt t.right (length rows)) e in
        and_from (nat_lt t.left (length held) && nat_lt t.right (length held)) (steps_below (length held) steps)
        (and_from (nat_lt t.left (length held)) (nat_lt t.right (length held)) (le_lt t.left (length rows) (length held) b.0 long) (le_lt t.right (length rows) (length held) b.1 long))
        (by_row (cond (not (is_negative t.first || is_negative t.second)) (or_broken Range (row_sum (row_at rows t.left) t.first (row_at rows t.right) t.second)) (Err Multiplier)) k f)
    by_place false e k f = absurd cc

-- a combination with the least multipliers is the row of a step
pub step_row-combined : (held : List Row) (i j place : ℕ) (c : Combined) → i < length held → j < length held → combined (row_at held i) (row_at held j) place ≡ Some c
    → step_row held (record { left = i; right = j; first = c.first; second = c.second }) ≡ Ok c.row
step_row-combined held i j place c h k e =
    let l = row_at held i in let r = row_at held j in
    let w = option_map-went (λ sum. record { row = sum; first = first_factor (row_at held i) (row_at held j) place; second = second_factor (row_at held i) (row_at held j) place }) (row_sum (row_at held i) (first_factor (row_at held i) (row_at held j) place) (row_at held j) (second_factor (row_at held i) (row_at held j) place)) c e in
    subst (λ (d : Combined). step_row held (record { left = i; right = j; first = d.first; second = d.second }) ≡ Ok d.row) w.2
    ((λ n. cond (places n) (cond (not (signs n)) (or_broken Range (w.1 n)) (Err Multiplier)) (Err Place)))
  where
    places : (nat_lt i (length held) && nat_lt j (length held)) ≡ true
    places = and_from (nat_lt i (length held)) (nat_lt j (length held)) (lt-ltb i (length held) h) (lt-ltb j (length held) k)

    signs : (is_negative (first_factor (row_at held i) (row_at held j) place) || is_negative (second_factor (row_at held i) (row_at held j) place)) ≡ false
    signs = λ n. sign (coefficient_at (row_at held i).terms place) (coefficient_at (row_at held j).terms place) n || sign (coefficient_at (row_at held j).terms place) (coefficient_at (row_at held i).terms place) n

pub cancels-combined : (l r : Row) (i j place : ℕ) (c : Combined) → is_positive (coefficient_at l.terms place) ≡ true → is_negative (coefficient_at r.terms place) ≡ true → combined l r place ≡ Some c
    → cancels_at l r (record { left = i; right = j; first = c.first; second = c.second }) place ≡ true
cancels-combined l r i j place c p q e =
    let w = option_map-went (λ sum. record { row = sum; first = first_factor l r place; second = second_factor l r place }) (row_sum l (first_factor l r place) r (second_factor l r place)) c e in
    subst (λ (d : Combined). cancels_at l r (record { left = i; right = j; first = d.first; second = d.second }) place ≡ true) w.2
    (and_from (is_positive (coefficient_at l.terms place) && is_negative (coefficient_at r.terms place)) (int_eq (first_factor l r place) (first_factor l r place) && int_eq (second_factor l r place) (second_factor l r place))
    (and_from (is_positive (coefficient_at l.terms place)) (is_negative (coefficient_at r.terms place)) p q)
    (and_from (int_eq (first_factor l r place) (first_factor l r place)) (int_eq (second_factor l r place) (second_factor l r place)) ((Decides-int_eq (first_factor l r place) (first_factor l r place)).1 refl) ((Decides-int_eq (second_factor l r place) (second_factor l r place)).1 refl)))

-- ELIMINATION: MORE AT THE END

-- more steps
pub eliminate-append : (order : List ℕ) (rows : List Row) (least : ℕ) (steps more : List RowStep) (what : Option RangeWhat) → eliminate order rows least steps None ≡ true
    → eliminate order rows (last_stage order rows least steps) more what ≡ true → eliminate order rows least (steps ++ more) what ≡ true
eliminate-append order rows least [] more what h k = k
eliminate-append order rows least (s ∷ steps) more what h k =
    let b = and_parts (eliminates order least (row_at rows s.left) (row_at rows s.right) s) (eliminate order rows (stage order (row_at rows s.left)) steps None) h in
    and_from (eliminates order least (row_at rows s.left) (row_at rows s.right) s) (eliminate order rows (stage order (row_at rows s.left)) (steps ++ more) what) b.0
    (eliminate-append order rows (stage order (row_at rows s.left)) steps more what b.1 k)

-- a number beyond the range at the end
pub eliminate-beyond : (order : List ℕ) (rows : List Row) (least : ℕ) (steps : List RowStep) (what : Option RangeWhat) → eliminate order rows least steps None ≡ true
    → ends_in_order order rows (last_stage order rows least steps) what ≡ true → eliminate order rows least steps what ≡ true
eliminate-beyond order rows least [] what h k = k
eliminate-beyond order rows least (s ∷ steps) what h k =
    let b = and_parts (eliminates order least (row_at rows s.left) (row_at rows s.right) s) (eliminate order rows (stage order (row_at rows s.left)) steps None) h in
    and_from (eliminates order least (row_at rows s.left) (row_at rows s.right) s) (eliminate order rows (stage order (row_at rows s.left)) steps what) b.0
    (eliminate-beyond order rows (stage order (row_at rows s.left)) steps what b.1 k)

-- a held row more
pub row_at-more : (rows : List Row) (r : Row) (i : ℕ) → i < length rows → row_at (rows ++ r ∷ []) i ≡ row_at rows i
row_at-more rows r i h = get_or_append_left rows (r ∷ []) no_row i h

pub eliminate-row : (order : List ℕ) (rows : List Row) (r : Row) (least : ℕ) (steps : List RowStep) → steps_below (length rows) steps ≡ true
    → (eliminate order (rows ++ r ∷ []) least steps None ≡ eliminate order rows least steps None) × (last_stage order (rows ++ r ∷ []) least steps ≡ last_stage order rows least steps)
eliminate-row order rows r least [] h = (refl, refl)
eliminate-row order rows r least (s ∷ steps) h =
    let b = and_parts (nat_lt s.left (length rows) && nat_lt s.right (length rows)) (steps_below (length rows) steps) h in
    let p = and_parts (nat_lt s.left (length rows)) (nat_lt s.right (length rows)) b.0 in
    let u = row_at-more rows r s.left (ltb-true s.left (length rows) p.0) in
    let v = row_at-more rows r s.right (ltb-true s.right (length rows) p.1) in
    let ih = eliminate-row order rows r (stage order (row_at rows s.left)) steps b.1 in (
      (λ i. eliminates order least (u i) (v i) s && eliminate order (rows ++ r ∷ []) (stage order (u i)) steps None) ∙ ap (λ z. eliminates order least (row_at rows s.left) (row_at rows s.right) s && z) ih.0,
      (λ i. last_stage order (rows ++ r ∷ []) (stage order (u i)) steps) ∙ ih.1,
    )

-- a place more
pub stage-more : (order : List ℕ) (p : ℕ) (r : Row) → nat_lt (stage order r) (length order) ≡ true
    → (stage (order ++ p ∷ []) r ≡ stage order r) × (first_place (order ++ p ∷ []) r ≡ first_place order r)
stage-more [] p r h = absurd (let l = ltb-true 0 0 h in omega arith)
stage-more (q ∷ order) p r h = by_zero (is_zero (coefficient_at r.terms q)) refl h (stage-more order p r)
  where
    down : (a b : ℕ) → nat_lt (1 + a) (suc b) ≡ true → nat_lt a b ≡ true
    down a b h = grind (arith, nat_tests)

    shift : (qs : List ℕ) (n : ℕ) → get_or (q ∷ qs) (1 + n) 0 ≡ get_or qs n 0
    shift qs n = let e : 1 + n ≡ suc n = omega arith in ap (λ m. get_or (q ∷ qs) m 0) e

    by_zero : (b : Bool) → is_zero (coefficient_at r.terms q) ≡ b → nat_lt (cond b (1 + stage order r) 0) (suc (length order)) ≡ true
        → (nat_lt (stage order r) (length order) ≡ true → (stage (order ++ p ∷ []) r ≡ stage order r) × (first_place (order ++ p ∷ []) r ≡ first_place order r))
        → (cond b (1 + stage (order ++ p ∷ []) r) 0 ≡ cond b (1 + stage order r) 0)
        × (get_or (q ∷ order ++ p ∷ []) (cond b (1 + stage (order ++ p ∷ []) r) 0) 0 ≡ get_or (q ∷ order) (cond b (1 + stage order r) 0) 0)
    by_zero true e k f =
        let g = f (down (stage order r) (length order) k) in
        (ap (λ n. 1 + n) g.0, shift (order ++ p ∷ []) (stage (order ++ p ∷ []) r) ∙ g.1 ∙ sym (shift order (stage order r)))
    by_zero false e k f = (refl, refl)

eq_is : (a b : ℕ) → (a == b) ≡ true → a ≡ b
eq_is a b h = grind (arith, nat_tests)

lt_suc : (a b c : ℕ) → c ≡ b + 1 → nat_lt a b ≡ true → nat_lt a c ≡ true
lt_suc a b c e h = grind (arith, nat_tests)

eliminates-place : (order : List ℕ) (p least : ℕ) (l r : Row) (s : RowStep) → eliminates order least l r s ≡ true
    → (eliminates (order ++ p ∷ []) least l r s ≡ true) × (stage (order ++ p ∷ []) l ≡ stage order l)
eliminates-place order p least l r s h =
    let e = and_parts (meet order least l r) (cancels_at l r s (first_place order l)) h in
    let m = and_parts (nat_le least (stage order l)) (nat_lt (stage order l) (length order) && (stage order r == stage order l)) e.0 in
    let n = and_parts (nat_lt (stage order l) (length order)) (stage order r == stage order l) m.1 in
    let u = stage-more order p l n.0 in
    let v = stage-more order p r (ap (λ k. nat_lt k (length order)) (eq_is (stage order r) (stage order l) n.1) ∙ n.0) in (
      and_from (meet (order ++ p ∷ []) least l r) (cancels_at l r s (first_place (order ++ p ∷ []) l))
          (and_from (nat_le least (stage (order ++ p ∷ []) l)) (nat_lt (stage (order ++ p ∷ []) l) (length (order ++ p ∷ [])) && (stage (order ++ p ∷ []) r == stage (order ++ p ∷ []) l))
          (ap (λ k. nat_le least k) u.0 ∙ m.0)
          (and_from (nat_lt (stage (order ++ p ∷ []) l) (length (order ++ p ∷ []))) (stage (order ++ p ∷ []) r == stage (order ++ p ∷ []) l)
          (ap (λ k. nat_lt k (length (order ++ p ∷ []))) u.0 ∙ lt_suc (stage order l) (length order) (length (order ++ p ∷ [])) (length-append order (p ∷ [])) n.0)
          ((λ i. v.0 i == u.0 i) ∙ n.1)))
          (ap (λ q. cancels_at l r s q) u.1 ∙ e.1),
      u.0,
    )

-- steps stay in order where the order grows
pub eliminate-place : (order : List ℕ) (p : ℕ) (rows : List Row) (least : ℕ) (steps : List RowStep) → eliminate order rows least steps None ≡ true
    → (eliminate (order ++ p ∷ []) rows least steps None ≡ true) × (last_stage (order ++ p ∷ []) rows least steps ≡ last_stage order rows least steps)
eliminate-place order p rows least [] h = (refl, refl)
eliminate-place order p rows least (s ∷ steps) h =
    let b = and_parts (eliminates order least (row_at rows s.left) (row_at rows s.right) s) (eliminate order rows (stage order (row_at rows s.left)) steps None) h in
    let e = eliminates-place order p least (row_at rows s.left) (row_at rows s.right) s b.0 in
    let ih = eliminate-place order p rows (stage order (row_at rows s.left)) steps b.1 in (
      and_from (eliminates (order ++ p ∷ []) least (row_at rows s.left) (row_at rows s.right) s) (eliminate (order ++ p ∷ []) rows (stage (order ++ p ∷ []) (row_at rows s.left)) steps None)
          e.0 (ap (λ k. eliminate (order ++ p ∷ []) rows k steps None) e.1 ∙ ih.0),
      ap (λ k. last_stage (order ++ p ∷ []) rows k steps) e.1 ∙ ih.1,
    )

-- while the last place of the order is eliminated no step's stage lies beyond it
pub last_stage-below : (order : List ℕ) (rows : List Row) (least n : ℕ) (steps : List RowStep) → eliminate order rows least steps None ≡ true → length order ≡ suc n → nat_le least n ≡ true
    → nat_le (last_stage order rows least steps) n ≡ true
last_stage-below order rows least n [] h e l = l
last_stage-below order rows least n (s ∷ steps) h e l =
    let b = and_parts (eliminates order least (row_at rows s.left) (row_at rows s.right) s) (eliminate order rows (stage order (row_at rows s.left)) steps None) h in
    let m = and_parts (meet order least (row_at rows s.left) (row_at rows s.right)) (cancels_at (row_at rows s.left) (row_at rows s.right) s (first_place order (row_at rows s.left))) b.0 in
    let k = and_parts (nat_le least (stage order (row_at rows s.left))) (nat_lt (stage order (row_at rows s.left)) (length order) && (stage order (row_at rows s.right) == stage order (row_at rows s.left))) m.0 in
    let t = and_parts (nat_lt (stage order (row_at rows s.left)) (length order)) (stage order (row_at rows s.right) == stage order (row_at rows s.left)) k.1 in
    last_stage-below order rows (stage order (row_at rows s.left)) n steps b.1 e (below (stage order (row_at rows s.left)) (length order) t.0 e)
  where
    below : (a c : ℕ) → nat_lt a c ≡ true → c ≡ suc n → nat_le a n ≡ true
    below a c h e = grind (arith, nat_tests)

-- a row that names no earlier place and names the last one is at the last stage
pub stage-last : (order : List ℕ) (p : ℕ) (r : Row) → names_none order r ≡ true → is_zero (coefficient_at r.terms p) ≡ false
    → (stage (order ++ p ∷ []) r ≡ length order) × (first_place (order ++ p ∷ []) r ≡ p)
stage-last [] p r h z = (ap (λ b. cond b (1 + 0) 0) z, ap (λ b. get_or (p ∷ []) (cond b (1 + 0) 0) 0) z)
stage-last (q ∷ order) p r h z =
    let b = and_parts (is_zero (coefficient_at r.terms q)) (names_none order r) h in
    let ih = stage-last order p r b.1 z in
    let e : 1 + stage (order ++ p ∷ []) r ≡ suc (length order) = omega (arith, ih.0) in
    let f : 1 + stage (order ++ p ∷ []) r ≡ suc (stage (order ++ p ∷ []) r) = omega arith in (
      ap (λ c. cond c (1 + stage (order ++ p ∷ []) r) 0) b.0 ∙ e,
      ap (λ c. get_or (q ∷ order ++ p ∷ []) (cond c (1 + stage (order ++ p ∷ []) r) 0) 0) b.0 ∙ ap (λ n. get_or (q ∷ order ++ p ∷ []) n 0) f ∙ ih.1,
    )

-- a step that cancels the last place of the order, after steps of that order
pub eliminate-step : (order : List ℕ) (p : ℕ) (rows : List Row) (steps : List RowStep) (s : RowStep) → eliminate (order ++ p ∷ []) rows 0 steps None ≡ true
    → names_none order (row_at rows s.left) ≡ true → names_none order (row_at rows s.right) ≡ true → cancels_at (row_at rows s.left) (row_at rows s.right) s p ≡ true
    → eliminate (order ++ p ∷ []) rows 0 (steps ++ s ∷ []) None ≡ true
eliminate-step order p rows steps s h j k c =
    eliminate-append (order ++ p ∷ []) rows 0 steps (s ∷ []) None h (new (last_stage (order ++ p ∷ []) rows 0 steps) (row_at rows s.left) (row_at rows s.right) j k c
    (last_stage-below (order ++ p ∷ []) rows 0 (length order) steps h long (zero_le (length order))))
  where
    zero_le : (n : ℕ) → nat_le 0 n ≡ true
    zero_le n = grind (arith, nat_tests)

    one_below : (n m : ℕ) → m ≡ suc n → nat_lt n m ≡ true
    one_below n m e = grind (arith, nat_tests)

    same : (n : ℕ) → (n == n) ≡ true
    same n = grind (arith, nat_tests)

    long : length (order ++ p ∷ []) ≡ suc (length order)
    long = let l = length-append order (p ∷ []) in omega arith

    new : (least : ℕ) (l r : Row) → names_none order l ≡ true → names_none order r ≡ true → cancels_at l r s p ≡ true → nat_le least (length order) ≡ true
        → (eliminates (order ++ p ∷ []) least l r s && true) ≡ true
    new least l r j k c b =
        let signs = and_parts (is_positive (coefficient_at l.terms p)) (is_negative (coefficient_at r.terms p)) (and_parts (is_positive (coefficient_at l.terms p) && is_negative (coefficient_at r.terms p)) (int_eq s.first (first_factor l r p) && int_eq s.second (second_factor l r p)) c).0 in
        let u = stage-last order p l j (positive_named (coefficient_at l.terms p) signs.0) in
        let v = stage-last order p r k (negative_named (coefficient_at r.terms p) signs.1) in
        and_from (eliminates (order ++ p ∷ []) least l r s) true
        (and_from (meet (order ++ p ∷ []) least l r) (cancels_at l r s (first_place (order ++ p ∷ []) l))
        (and_from (nat_le least (stage (order ++ p ∷ []) l)) (nat_lt (stage (order ++ p ∷ []) l) (length (order ++ p ∷ [])) && (stage (order ++ p ∷ []) r == stage (order ++ p ∷ []) l))
        (ap (λ n. nat_le least n) u.0 ∙ b)
        (and_from (nat_lt (stage (order ++ p ∷ []) l) (length (order ++ p ∷ []))) (stage (order ++ p ∷ []) r == stage (order ++ p ∷ []) l)
        (ap (λ n. nat_lt n (length (order ++ p ∷ []))) u.0 ∙ one_below (length order) (length (order ++ p ∷ [])) long)
        ((λ i. v.0 i == u.0 i) ∙ same (length order))))
        (ap (λ q. cancels_at l r s q) u.1 ∙ c))
        refl
      where
        positive_named : (a : ℤ) → is_positive a ≡ true → is_zero a ≡ false
        positive_named (pos zero) h = absurd cc
        positive_named (pos (suc n)) h = refl
        positive_named (negsuc n) h = refl

        negative_named : (a : ℤ) → is_negative a ≡ true → is_zero a ≡ false
        negative_named (pos zero) h = absurd cc
        negative_named (pos (suc n)) h = refl
        negative_named (negsuc n) h = refl

-- CHOICES: ONE MORE

pub after-more : (earlier choices : List Choice) (c : Choice) → after earlier (choices ++ c ∷ []) ≡ c ∷ after earlier choices
after-more earlier [] c = refl
after-more earlier (d ∷ choices) c = after-more (d ∷ earlier) choices c

pub are_driven-more : (rows : List Row) (earlier choices : List Choice) (c : Choice) → are_driven rows earlier choices ≡ true → is_named (after earlier choices) c.place ≡ false
    → is_driven rows (after earlier choices) c ≡ true → are_driven rows earlier (choices ++ c ∷ []) ≡ true
are_driven-more rows earlier [] c h n d = and_from (not (is_named earlier c.place)) (is_driven rows earlier c && true) (ap not n) (and_from (is_driven rows earlier c) true d refl)
are_driven-more rows earlier (e ∷ choices) c h n d =
    let b = and_parts (not (is_named earlier e.place)) (is_driven rows earlier e && are_driven rows (e ∷ earlier) choices) h in
    let k = and_parts (is_driven rows earlier e) (are_driven rows (e ∷ earlier) choices) b.1 in
    and_from (not (is_named earlier e.place)) (is_driven rows earlier e && are_driven rows (e ∷ earlier) (choices ++ c ∷ [])) b.0
    (and_from (is_driven rows earlier e) (are_driven rows (e ∷ earlier) (choices ++ c ∷ [])) k.0 (are_driven-more rows (e ∷ earlier) choices c k.1 n d))

-- what some choice in turned order passes, one of the list passes
any-after : (p : Choice → Bool) (earlier choices : List Choice) → list_any p (after earlier choices) ≡ true → (list_any p choices || list_any p earlier) ≡ true
any-after p earlier [] h = h
any-after p earlier (c ∷ choices) h = turn (p c) (list_any p choices) (list_any p earlier) (any-after p (c ∷ earlier) choices h)
  where
    turn : (a b d : Bool) → (b || (a || d)) ≡ true → ((a || b) || d) ≡ true
    turn true b d h = refl
    turn false b d h = h

or_false : (a : Bool) → (a || false) ≡ true → a ≡ true
or_false true h = refl
or_false false h = absurd cc

-- values of the choices in turned order are values of the choices
pub are_among-turned : (choices : List Choice) (names : List ℕ) (values : List ℤ) → are_among (after [] choices) names values ≡ true → are_among choices names values ≡ true
are_among-turned choices [] [] h = refl
are_among-turned choices [] (v ∷ values) h = absurd cc
are_among-turned choices (n ∷ names) [] h = absurd cc
are_among-turned choices (n ∷ names) (v ∷ values) h =
    let b = and_parts (is_among (after [] choices) n v) (are_among (after [] choices) names values) h in
    and_from (is_among choices n v) (are_among choices names values) (or_false (is_among choices n v) (any-after (λ c. (c.place == n) && int_eq c.value v) [] choices b.0)) (are_among-turned choices names values b.1)
