-- Rows that are kept until nothing names them any more.
use Rattle.std.proofs.Common.{◌≡◌, ℕ, zero, suc, ◌<◌, ◌≤◌, Bool, true, false, not, cond, ◌&&◌, ◌||◌, List, [], ◌∷◌, ◌++◌, length, length-append, append_assoc, append-nil, drop, refl, sym, ◌∙◌, ap, subst, arith, Option, Some, None, Result, Ok, Err, ◌⊎◌, inl, inr}
use Rattle.std.specs.Prelude.{nat_lt, slice_get, slice_set, slice_index_or}
use Rattle.std.proofs.lemmas.Bool.{cases_order, cases_lt, lt-ltb, le-ltb, ltb-true}
use Rattle.std.proofs.lemmas.List.{get_or_append_left, get_or_past, get_or-set_other, length-set}
use Rattle.std.proofs.lemmas.Option.{slice_get_past, slice_get-get_or}
use Rattle.lin_rows.specs.Rows.{Row}
use Rattle.lin_rows.proofs.Points.{some_is}
use Rattle.proof_lines.specs.declared.line.RowStep.{RowStep}
use Rattle.proof_lines.specs.declared.line.LineRefused.{LineRefused}
use Rattle.proof_lines.specs.declared.line.LineRefused.TheVariants.{Bad, Memory}
use Rattle.proof_lines.specs.declared.line.Why.{Why}
use Rattle.proof_lines.specs.declared.line.Why.TheVariants.{Place, Multiplier, Range}
use Rattle.lin_rows.specs.Sums.{row_sum}
use Rattle.line_rows.proofs.Sound.{ok_is}
use Rattle.line_rows.specs.Evidence.{cancels_some, cancels, all_cancel}
use Rattle.line_rows.specs.Refusals.{need, or_broken, then_, IsTold}
use Rattle.line_rows.specs.Steps.{row_at, no_row, is_negative, step_row, with_steps}
use Rattle.line_rows.specs.Kept.{kept_at, is_past, is_done, step_sum, StepsEnd, KeptUntil, AreKept, step_cancels, all_cancel_in}

-- a row that is done stays done
is_past-later : (o : Option ℕ) (s : ℕ) → is_past o (suc s) ≡ false → is_past o s ≡ false
is_past-later (Some end) s h = grind arith
is_past-later None s h = refl

pub kept-later : (rows : List Row) (ends : List ℕ) (s : ℕ) (kept : List (Option Row)) → KeptUntil rows ends s kept → KeptUntil rows ends (suc s) kept
kept-later rows ends s kept k = record { whole = k.whole; there = λ i h. k.there i (is_past-later (slice_get ends i) s h) }

-- reads of a longer list
pub slice_get-left : {X : Type 0} (xs : List X) (y : X) (i : ℕ) → i < length xs → slice_get (xs ++ y ∷ []) i ≡ slice_get xs i
slice_get-left [] y i h = absurd (omega arith)
slice_get-left (x ∷ xs) y zero h = refl
slice_get-left (x ∷ xs) y (suc i) h = slice_get-left xs y i (omega arith)

pub slice_get-last : {X : Type 0} (xs : List X) (y : X) → slice_get (xs ++ y ∷ []) (length xs) ≡ Some y
slice_get-last [] y = refl
slice_get-last (x ∷ xs) y = slice_get-last xs y

slice_get-beyond : {X : Type 0} (xs : List X) (y : X) (i : ℕ) → length xs < i → slice_get (xs ++ y ∷ []) i ≡ None
slice_get-beyond xs y i h = slice_get_past (xs ++ y ∷ []) i (let e = length-append xs (y ∷ []) in omega arith)

kept-left : (xs : List (Option Row)) (y : Option Row) (i : ℕ) → i < length xs → kept_at (xs ++ y ∷ []) i ≡ kept_at xs i
kept-left xs y i h = get_or_append_left xs (y ∷ []) None i h

kept-last : (xs : List (Option Row)) (y : Option Row) → kept_at (xs ++ y ∷ []) (length xs) ≡ y
kept-last [] y = refl
kept-last (x ∷ xs) y = kept-last xs y

kept-beyond : (xs : List (Option Row)) (i : ℕ) → length xs ≤ i → kept_at xs i ≡ None
kept-beyond xs i h = get_or_past xs i None h

-- a row, unless it is done
abbrev kept_or : List ℕ → ℕ → ℕ → Row → Option Row
kept_or ends s n r = cond (is_done ends s n) None (Some r)

-- one row more, which is kept unless it is done
more-there : (rows : List Row) (ends : List ℕ) (s : ℕ) (kept : List (Option Row)) (r : Row) → length kept ≡ length rows
    → (i : ℕ) → is_done ends s i ≡ false → kept_at kept i ≡ slice_get rows i → (i ≡ length kept) ⊎ ((i < length kept) ⊎ (length kept < i))
    → kept_at (kept ++ kept_or ends s (length kept) r ∷ []) i ≡ slice_get (rows ++ r ∷ []) i
more-there rows ends s kept r e i h k (inl is) =
    let n : i ≡ length rows = is ∙ e in
    let d : is_done ends s (length kept) ≡ false = sym (ap (is_done ends s) is) ∙ h in
    let a : kept_at (kept ++ kept_or ends s (length kept) r ∷ []) i ≡ Some r = ap (kept_at (kept ++ kept_or ends s (length kept) r ∷ [])) is ∙ kept-last kept (kept_or ends s (length kept) r) ∙ ap (λ (b : Bool). cond b None (Some r)) d in
    let b : slice_get (rows ++ r ∷ []) i ≡ Some r = ap (slice_get (rows ++ r ∷ [])) n ∙ slice_get-last rows r in
    a ∙ sym b
more-there rows ends s kept r e i h k (inr (inl lt)) =
    kept-left kept (kept_or ends s (length kept) r) i lt ∙ k ∙ sym (slice_get-left rows r i (omega arith))
more-there rows ends s kept r e i h k (inr (inr gt)) =
    let l = length-append kept (kept_or ends s (length kept) r ∷ []) in
    kept-beyond (kept ++ kept_or ends s (length kept) r ∷ []) i (omega arith) ∙ sym (slice_get-beyond rows r i (omega arith))

pub kept-more : (rows : List Row) (ends : List ℕ) (s : ℕ) (kept : List (Option Row)) (r : Row) → KeptUntil rows ends s kept
    → KeptUntil (rows ++ r ∷ []) ends s (kept ++ cond (is_done ends s (length kept)) None (Some r) ∷ [])
kept-more rows ends s kept r k = record {
  whole = (let a = length-append kept (kept_or ends s (length kept) r ∷ []) in let b = length-append rows (r ∷ []) in let c = k.whole in omega arith);
  there = λ i h. more-there rows ends s kept r k.whole i h (k.there i h) (cases_order i (length kept));
}

-- a row that is done is let go
let-go-there : (rows : List Row) (ends : List ℕ) (s : ℕ) (kept : List (Option Row)) (n : ℕ) → (i : ℕ) → is_done ends s i ≡ false
    → is_done ends s n ≡ true → kept_at (slice_set kept n None) i ≡ kept_at kept i
let-go-there rows ends s kept n i h d = get_or-set_other kept n i None None (λ e. let f : false ≡ true = sym h ∙ ap (is_done ends s) e ∙ d in absurd cc)

pub kept-let-go : (rows : List Row) (ends : List ℕ) (s : ℕ) (kept : List (Option Row)) (n : ℕ) → KeptUntil rows ends s kept
    → KeptUntil rows ends s (cond (is_done ends s n) (slice_set kept n None) kept)
kept-let-go rows ends s kept n k = by_case (is_done ends s n) refl
  where
    by_case : (b : Bool) → is_done ends s n ≡ b → KeptUntil rows ends s (cond b (slice_set kept n None) kept)
    by_case true e = record { whole = length-set kept n None ∙ k.whole; there = λ i h. let-go-there rows ends s kept n i h e ∙ k.there i h }
    by_case false e = k

-- the row of a step, from the two rows that are kept
pub found : (rows : List Row) (kept : Option Row) (i : ℕ) → kept ≡ slice_get rows i → (i < length rows) ⊎ (length rows ≤ i)
    → ((i < length rows) × (kept ≡ Some (row_at rows i))) ⊎ ((length rows ≤ i) × (kept ≡ None))
found rows kept i e (inl lt) = inl (lt, e ∙ slice_get-get_or rows i no_row lt)
found rows kept i e (inr ge) = inr (ge, e ∙ slice_get_past rows i ge)

pub step-found : (rows : List Row) (left right : Option Row) (s : RowStep) → left ≡ slice_get rows s.left → right ≡ slice_get rows s.right
    → step_row rows s ≡ step_sum left right s
step-found rows left right s l r = by_case left right (found rows left s.left l (cases_lt s.left (length rows))) (found rows right s.right r (cases_lt s.right (length rows)))
  where
    by_case : (a b : Option Row) → ((s.left < length rows) × (a ≡ Some (row_at rows s.left))) ⊎ ((length rows ≤ s.left) × (a ≡ None))
        → ((s.right < length rows) × (b ≡ Some (row_at rows s.right))) ⊎ ((length rows ≤ s.right) × (b ≡ None))
        → step_row rows s ≡ step_sum a b s
    by_case a b (inl p) (inl q) = rw (lt-ltb s.left (length rows) p.0) (rw (lt-ltb s.right (length rows) q.0) (sym (ap (λ (x : Option Row). step_sum x b s) p.1 ∙ ap (λ (x : Option Row). step_sum (Some (row_at rows s.left)) x s) q.1)))
    by_case a b (inl p) (inr q) = rw (lt-ltb s.left (length rows) p.0) (rw (le-ltb s.right (length rows) q.0) (sym (ap (λ (x : Option Row). step_sum x b s) p.1 ∙ ap (λ (x : Option Row). step_sum (Some (row_at rows s.left)) x s) q.1)))
    by_case a b (inr p) q = rw (le-ltb s.left (length rows) p.0) (sym (ap (λ (x : Option Row). step_sum x b s) p.1))

pub step-kept : (rows : List Row) (kept : List (Option Row)) (s : RowStep) → kept_at kept s.left ≡ slice_get rows s.left → kept_at kept s.right ≡ slice_get rows s.right
    → step_row rows s ≡ step_sum (kept_at kept s.left) (kept_at kept s.right) s
step-kept rows kept s l r = step-found rows (kept_at kept s.left) (kept_at kept s.right) s l r

drop-at : {X : Type 0} (xs : List X) (i : ℕ) (x : X) → slice_get xs i ≡ Some x → drop i xs ≡ x ∷ drop (suc i) xs
drop-at [] i x h = absurd cc
drop-at {X = X} (y ∷ xs) zero x h = ap (λ (z : X). z ∷ xs) (some_is h)
drop-at (y ∷ xs) (suc i) x h = drop-at xs i x h

-- one step more is taken
pub steps-next : (rows : List Row) (steps : List RowStep) (i j : ℕ) (s : RowStep) (r : Row) → j ≡ suc i → slice_get steps i ≡ Some s → step_row rows s ≡ Ok r
    → with_steps rows (drop i steps) ≡ with_steps (rows ++ r ∷ []) (drop j steps)
steps-next rows steps i j s r e g h =
    ap (with_steps rows) (drop-at steps i s g) ∙ ap (λ (o : Result Row Why). then_ o (λ q. with_steps (rows ++ q ∷ []) (drop (suc i) steps))) h
    ∙ ap (λ (n : ℕ). with_steps (rows ++ r ∷ []) (drop n steps)) (sym e)

-- a step whose row is refused refuses all
pub steps-stop : (rows : List Row) (steps : List RowStep) (i : ℕ) (s : RowStep) (e : LineRefused) → slice_get steps i ≡ Some s → IsTold e (step_row rows s)
    → IsTold e (with_steps rows (drop i steps))
steps-stop rows steps i s e g t = subst (IsTold e) (sym (ap (with_steps rows) (drop-at steps i s g))) (told (step_row rows s) e t)
  where
    told : (o : Result Row Why) (e : LineRefused) → IsTold e o → IsTold e (then_ o (λ q. with_steps (rows ++ q ∷ []) (drop (suc i) steps)))
    told o Memory t = tt
    told (Ok q) (Bad w) t = absurd cc
    told (Err v) (Bad w) t = cc

-- the two rows of the next step are kept
pub next-kept : (rows : List Row) (ends : List ℕ) (steps : List RowStep) (i : ℕ) (s : RowStep) (kept : List (Option Row)) → KeptUntil rows ends i kept
    → StepsEnd steps (length steps) ends → i < length steps → slice_get steps i ≡ Some s
    → step_row rows s ≡ step_sum (kept_at kept s.left) (kept_at kept s.right) s
next-kept rows ends steps i s kept k e lt g = let d = e i s lt g in step-kept rows kept s (k.there s.left d.0) (k.there s.right d.1)

pub none-kept : (ends : List ℕ) (s : ℕ) → KeptUntil [] ends s []
none-kept ends s = record { whole = refl; there = λ i h. refl }

-- after all steps what the end names is kept
pub kept-named : (rows : List Row) (ends : List ℕ) (taken : ℕ) (kept : List (Option Row)) (named : List ℕ) → KeptUntil rows ends taken kept
    → ((j : ℕ) → j < length named → is_done ends taken (slice_index_or named j 0) ≡ false) → AreKept rows named kept
kept-named rows ends taken kept named k e = record { whole = k.whole; there = λ j h. k.there (slice_index_or named j 0) (e j h) }

pub cancels-kept : (rows : List Row) (kept : List (Option Row)) (s : RowStep) → kept_at kept s.left ≡ slice_get rows s.left → kept_at kept s.right ≡ slice_get rows s.right
    → cancels rows s ≡ step_cancels (kept_at kept s.left) (kept_at kept s.right) s
cancels-kept rows kept s l r = by_case (kept_at kept s.left) (kept_at kept s.right) (found rows (kept_at kept s.left) s.left l (cases_lt s.left (length rows))) (found rows (kept_at kept s.right) s.right r (cases_lt s.right (length rows)))
  where
    by_case : (a b : Option Row) → ((s.left < length rows) × (a ≡ Some (row_at rows s.left))) ⊎ ((length rows ≤ s.left) × (a ≡ None))
        → ((s.right < length rows) × (b ≡ Some (row_at rows s.right))) ⊎ ((length rows ≤ s.right) × (b ≡ None))
        → cancels rows s ≡ step_cancels a b s
    by_case a b (inl p) (inl q) = rw (lt-ltb s.left (length rows) p.0) (rw (lt-ltb s.right (length rows) q.0) (sym (ap (λ (x : Option Row). step_cancels x b s) p.1 ∙ ap (λ (x : Option Row). step_cancels (Some (row_at rows s.left)) x s) q.1)))
    by_case a b (inl p) (inr q) = rw (lt-ltb s.left (length rows) p.0) (rw (le-ltb s.right (length rows) q.0) (sym (ap (λ (x : Option Row). step_cancels x b s) p.1 ∙ ap (λ (x : Option Row). step_cancels (Some (row_at rows s.left)) x s) q.1)))
    by_case a b (inr p) q = rw (le-ltb s.left (length rows) p.0) (sym (ap (λ (x : Option Row). step_cancels x b s) p.1))

pub next-cancels : (rows : List Row) (ends : List ℕ) (steps : List RowStep) (i : ℕ) (s : RowStep) (kept : List (Option Row)) → KeptUntil rows ends i kept
    → StepsEnd steps (length steps) ends → i < length steps → slice_get steps i ≡ Some s
    → cancels rows s ≡ step_cancels (kept_at kept s.left) (kept_at kept s.right) s
next-cancels rows ends steps i s kept k e lt g = let d = e i s lt g in cancels-kept rows kept s (k.there s.left d.0) (k.there s.right d.1)

-- steps add rows at the end
pub prefix : (rows : List Row) (steps : List RowStep) (all : List Row) → with_steps rows steps ≡ Ok all → (more : List Row) × (all ≡ rows ++ more)
prefix rows [] all h = ([], sym (ok_is rows all (Ok rows) refl h) ∙ sym (append-nil rows))
prefix rows (s ∷ steps) all h = by_case (step_row rows s) h (λ r. prefix (rows ++ r ∷ []) steps all)
  where
    by_case : (o : Result Row Why) → then_ o (λ r. with_steps (rows ++ r ∷ []) steps) ≡ Ok all
        → ((r : Row) → with_steps (rows ++ r ∷ []) steps ≡ Ok all → (more : List Row) × (all ≡ (rows ++ r ∷ []) ++ more)) → (more : List Row) × (all ≡ rows ++ more)
    by_case (Ok r) h next = let w = next r h in (r ∷ w.0, w.1 ∙ append_assoc rows (r ∷ []) w.0)
    by_case (Err w) h next = absurd cc

cancels-longer : (rows more : List Row) (s : RowStep) → s.left < length rows → s.right < length rows → cancels (rows ++ more) s ≡ cancels rows s
cancels-longer rows more s l r =
    let e = length-append rows more in
    let a : s.left < length (rows ++ more) = omega arith in
    let b : s.right < length (rows ++ more) = omega arith in
    rw (lt-ltb s.left (length (rows ++ more)) a) (rw (lt-ltb s.right (length (rows ++ more)) b) (rw (lt-ltb s.left (length rows) l) (rw (lt-ltb s.right (length rows) r)
    (ap (λ (q : Row). cancels_some q (row_at (rows ++ more) s.right) s) (get_or_append_left rows more no_row s.left l) ∙ ap (λ (q : Row). cancels_some (row_at rows s.left) q s) (get_or_append_left rows more no_row s.right r)))))

-- a step whose row is there names rows before it
step-below : (rows : List Row) (s : RowStep) (r : Row) → step_row rows s ≡ Ok r → (s.left < length rows) × (s.right < length rows)
step-below rows s r h = by_case (nat_lt s.left (length rows)) (nat_lt s.right (length rows)) refl refl h
  where
    by_case : (a b : Bool) → nat_lt s.left (length rows) ≡ a → nat_lt s.right (length rows) ≡ b
        → need (a && b) Place (need (not (is_negative s.first || is_negative s.second)) Multiplier (or_broken Range (row_sum (row_at rows s.left) s.first (row_at rows s.right) s.second))) ≡ Ok r
        → (s.left < length rows) × (s.right < length rows)
    by_case true true e f h = (ltb-true s.left (length rows) e, ltb-true s.right (length rows) f)
    by_case true false e f h = absurd cc
    by_case false b e f h = absurd cc

cancels-all : (rows : List Row) (s : RowStep) (r : Row) (steps : List RowStep) (all : List Row) → step_row rows s ≡ Ok r → with_steps (rows ++ r ∷ []) steps ≡ Ok all
    → cancels all s ≡ cancels rows s
cancels-all rows s r steps all h k =
    let w = prefix (rows ++ r ∷ []) steps all k in
    let b = step-below rows s r h in
    ap (λ (l : List Row). cancels l s) (w.1 ∙ append_assoc rows (r ∷ []) w.0) ∙ cancels-longer rows (r ∷ w.0) s b.0 b.1

-- one step more cancels
pub cancelling-next : (rows : List Row) (steps : List RowStep) (i j : ℕ) (s : RowStep) (r : Row) → j ≡ suc i → slice_get steps i ≡ Some s → step_row rows s ≡ Ok r → cancels rows s ≡ true
    → all_cancel_in (with_steps rows (drop i steps)) (drop i steps) ≡ all_cancel_in (with_steps (rows ++ r ∷ []) (drop j steps)) (drop j steps)
cancelling-next rows steps i j s r e g h c =
    ap (λ (l : List RowStep). all_cancel_in (with_steps rows l) l) (drop-at steps i s g)
    ∙ ap (λ (o : Result Row Why). all_cancel_in (then_ o (λ q. with_steps (rows ++ q ∷ []) (drop (suc i) steps))) (s ∷ drop (suc i) steps)) h
    ∙ by_case (with_steps (rows ++ r ∷ []) (drop (suc i) steps)) refl
    ∙ ap (λ (n : ℕ). all_cancel_in (with_steps (rows ++ r ∷ []) (drop n steps)) (drop n steps)) (sym e)
  where
    by_case : (o : Result (List Row) Why) → with_steps (rows ++ r ∷ []) (drop (suc i) steps) ≡ o → all_cancel_in o (s ∷ drop (suc i) steps) ≡ all_cancel_in o (drop (suc i) steps)
    by_case (Ok all) k = ap (λ (b : Bool). b && all_cancel all (drop (suc i) steps)) (cancels-all rows s r (drop (suc i) steps) all h k ∙ c)
    by_case (Err w) k = refl

-- a step that cancels no place
pub cancelling-stop : (rows : List Row) (steps : List RowStep) (i : ℕ) (s : RowStep) → slice_get steps i ≡ Some s → cancels rows s ≡ false
    → all_cancel_in (with_steps rows (drop i steps)) (drop i steps) ≡ false
cancelling-stop rows steps i s g c =
    ap (λ (l : List RowStep). all_cancel_in (with_steps rows l) l) (drop-at steps i s g) ∙ by_row (step_row rows s) refl
  where
    by_case : (r : Row) → step_row rows s ≡ Ok r → (o : Result (List Row) Why) → with_steps (rows ++ r ∷ []) (drop (suc i) steps) ≡ o → all_cancel_in o (s ∷ drop (suc i) steps) ≡ false
    by_case r h (Ok all) k = ap (λ (b : Bool). b && all_cancel all (drop (suc i) steps)) (cancels-all rows s r (drop (suc i) steps) all h k ∙ c)
    by_case r h (Err w) k = refl

    by_row : (o : Result Row Why) → step_row rows s ≡ o → all_cancel_in (then_ o (λ q. with_steps (rows ++ q ∷ []) (drop (suc i) steps))) (s ∷ drop (suc i) steps) ≡ false
    by_row (Ok r) h = by_case r h (with_steps (rows ++ r ∷ []) (drop (suc i) steps)) refl
    by_row (Err w) h = refl
