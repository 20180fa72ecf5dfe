use Rattle.std.proofs.Common.{◌≡◌, ℕ, ◌<◌, length, ◌+◌, Bool, true, false, cond, not, ◌&&◌, ◌||◌, List, [], ◌∷◌, ◌++◌, refl, ◌∙◌, ap, arith}
use Rattle.std.proofs.lemmas.Bool.{and_from, and_parts, eqb-true, lt-ltb, ltb-true, or_left, or_right, or_parts}
use Rattle.std.specs.Prelude.{◌==◌, nat_lt}
use Rattle.std.specs.List.{list_any}
use Rattle.std.proofs.lemmas.List.{length-append}
use Rattle.std.proofs.lemmas.List.Folds.{list_any-append, list_all-append}
use Rattle.std.proofs.lemmas.Bool.Decides.{nat_tests}
use Rattle.lin_rows.specs.Numbers.{is_zero}
use Rattle.lin_rows.specs.declared.term.RowTerm.{RowTerm}
use Rattle.lin_rows.specs.Rows.{Row, coefficient_at}
use Rattle.proof_lines.specs.declared.line.RowStep.{RowStep}
use Rattle.line_rows.specs.Evidence.{cancels_at, cancels_some, cancels, all_cancel, same_row, all_different}
use Rattle.line_rows.specs.Steps.{row_at}
use Rattle.theory_api.proofs.Ends.{row_at-more}

-- a place with a coefficient is the place of a term
any-place : (test : ℕ → Bool) (ts : List RowTerm) (p : ℕ) → is_zero (coefficient_at ts p) ≡ false → test p ≡ true → list_any (λ t. test t.place) ts ≡ true
any-place test [] p z h = absurd cc
any-place test (t ∷ ts) p z h = by_place (t.place == p) refl z (λ y. any-place test ts p y h)
  where
    by_place : (b : Bool) → (t.place == p) ≡ b → is_zero (cond b t.coef (coefficient_at ts p)) ≡ false → (is_zero (coefficient_at ts p) ≡ false → list_any (λ u. test u.place) ts ≡ true)
        → (test t.place || list_any (λ u. test u.place) ts) ≡ true
    by_place true e y f = or_left (test t.place) (list_any (λ u. test u.place) ts) (ap test (eqb-true t.place p e) ∙ h)
    by_place false e y f = or_right (test t.place) (list_any (λ u. test u.place) ts) (f y)

pub cancels-at : (rows : List Row) (s : RowStep) (p : ℕ) → s.left < length rows → s.right < length rows → is_zero (coefficient_at (row_at rows s.left).terms p) ≡ false
    → cancels_at (row_at rows s.left) (row_at rows s.right) s p ≡ true → cancels rows s ≡ true
cancels-at rows s p l r z h =
    and_from (nat_lt s.left (length rows) && nat_lt s.right (length rows)) (cancels_some (row_at rows s.left) (row_at rows s.right) s)
    (and_from (nat_lt s.left (length rows)) (nat_lt s.right (length rows)) (lt-ltb s.left (length rows) l) (lt-ltb s.right (length rows) r))
    (any-place (λ q. cancels_at (row_at rows s.left) (row_at rows s.right) s q) (row_at rows s.left).terms p z h)

-- a held row more
lt_more : (a b c : ℕ) → nat_lt a b ≡ true → c ≡ b + 1 → nat_lt a c ≡ true
lt_more a b c h e = grind (arith, nat_tests)

cancels-row : (rows : List Row) (r : Row) (s : RowStep) → cancels rows s ≡ true → cancels (rows ++ r ∷ []) s ≡ true
cancels-row rows r s h =
    let b = and_parts (nat_lt s.left (length rows) && nat_lt s.right (length rows)) (cancels_some (row_at rows s.left) (row_at rows s.right) s) h in
    let p = and_parts (nat_lt s.left (length rows)) (nat_lt s.right (length rows)) b.0 in
    let u = row_at-more rows r s.left (ltb-true s.left (length rows) p.0) in
    let v = row_at-more rows r s.right (ltb-true s.right (length rows) p.1) in
    let e = length-append rows (r ∷ []) in
    and_from (nat_lt s.left (length (rows ++ r ∷ [])) && nat_lt s.right (length (rows ++ r ∷ []))) (cancels_some (row_at (rows ++ r ∷ []) s.left) (row_at (rows ++ r ∷ []) s.right) s)
    (and_from (nat_lt s.left (length (rows ++ r ∷ []))) (nat_lt s.right (length (rows ++ r ∷ []))) (lt_more s.left (length rows) (length (rows ++ r ∷ [])) p.0 e) (lt_more s.right (length rows) (length (rows ++ r ∷ [])) p.1 e))
    ((λ i. cancels_some (u i) (v i) s) ∙ b.1)

pub all_cancel-row : (rows : List Row) (r : Row) (steps : List RowStep) → all_cancel rows steps ≡ true → all_cancel (rows ++ r ∷ []) steps ≡ true
all_cancel-row rows r [] h = refl
all_cancel-row rows r (s ∷ steps) h =
    let b = and_parts (cancels rows s) (all_cancel rows steps) h in
    and_from (cancels (rows ++ r ∷ []) s) (all_cancel (rows ++ r ∷ []) steps) (cancels-row rows r s b.0) (all_cancel-row rows r steps b.1)

-- a step more
pub all_cancel-step : (rows : List Row) (steps : List RowStep) (s : RowStep) → all_cancel rows steps ≡ true → cancels rows s ≡ true → all_cancel rows (steps ++ s ∷ []) ≡ true
all_cancel-step rows steps s h k = list_all-append (cancels rows) steps (s ∷ []) ∙ and_from (all_cancel rows steps) (cancels rows s && true) h (and_from (cancels rows s) true k refl)

-- a row more that none of the rows is
pub all_different-more : (rows : List Row) (s : Row) → all_different rows ≡ true → list_any (λ r. same_row r s) rows ≡ false → all_different (rows ++ s ∷ []) ≡ true
all_different-more [] s h k = refl
all_different-more (r ∷ rows) s h k =
    let b = and_parts (not (list_any (same_row r) rows)) (all_different rows) h in
    let n = or_parts (same_row r s) (list_any (λ q. same_row q s) rows) k in
    and_from (not (list_any (same_row r) (rows ++ s ∷ []))) (all_different (rows ++ s ∷ []))
    (ap not (list_any-append (same_row r) rows (s ∷ []) ∙ apart (list_any (same_row r) rows) (same_row r s) b.0 n.0))
    (all_different-more rows s b.1 n.1)
  where
    apart : (a b : Bool) → not a ≡ true → b ≡ false → (a || (b || false)) ≡ false
    apart true b h k = absurd cc
    apart false true h k = k
    apart false false h k = refl
