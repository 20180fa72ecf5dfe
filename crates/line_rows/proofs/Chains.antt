-- What is kept of the rows of a chain of steps.
use Rattle.std.proofs.Common.{◌≡◌, ℕ, suc, ◌+◌, ◌-◌, ◌<◌, ◌≤◌, Bool, true, false, cond, List, [], ◌∷◌, ◌++◌, length, length-append, refl, sym, ◌∙◌, ap, subst, arith, Option, Some, None, Result, Ok}
use Rattle.std.specs.Prelude.{nat_lt, nat_eq, slice_get, IfSome}
use Rattle.std.proofs.lemmas.Bool.{ltb-true, eqb-true}
use Rattle.lin_rows.specs.Rows.{Row, is_contradiction}
use Rattle.proof_lines.specs.declared.clause.Lit.{Lit}
use Rattle.proof_lines.specs.declared.problem.AtomKind.{AtomKind}
use Rattle.proof_lines.specs.declared.line.RowStep.{RowStep}
use Rattle.proof_lines.specs.declared.line.LineRefused.{LineRefused}
use Rattle.proof_lines.specs.declared.line.Why.{Why}
use Rattle.line_rows.specs.Refusals.{then_, IsTold}
use Rattle.line_rows.specs.Steps.{used_rows, step_row, with_steps, line_rows}
use Rattle.line_rows.specs.Kept.{kept_at, chain_at, step_sum, KeptUntil, IsChain, HasLast, Ends}
use Rattle.line_rows.proofs.Keeping.{slice_get-left, slice_get-last, step-found}
use Rattle.line_rows.proofs.KeptLines.{ends-kept}

-- before the first step the rows of the used literals are kept
first-there : (rows : List Row) (kept : List (Option Row)) (i : ℕ) (r : Row) (a b : Bool) → kept_at kept i ≡ slice_get rows i
    → cond a (kept_at kept i) (cond b None None) ≡ Some r → slice_get rows i ≡ Some r
first-there rows kept i r true b e h = sym e ∙ h
first-there rows kept i r false true e h = absurd cc
first-there rows kept i r false false e h = absurd cc

none-ends : (rows : List Row) (r : Row) → None ≡ Some r → Some r ≡ slice_get rows (length rows - 1)
none-ends rows r h = absurd cc

pub chain-first : (rows : List Row) (kept : List (Option Row)) → KeptUntil rows [] 0 kept → IsChain rows kept None (length kept)
chain-first rows kept k = record {
  whole = sym k.whole;
  there = λ i r h. first-there rows kept i r (nat_lt i (length kept)) (nat_eq (i + 1) (length kept)) (k.there i refl) h;
  ends = λ r h. none-ends rows r h;
}

-- after a step its row is kept in the place of the last one
next-there : (rows : List Row) (kept : List (Option Row)) (last : Option Row) (end next : ℕ) (r : Row) → next ≡ suc end → length kept ≤ end → IsChain rows kept last end
    → (i : ℕ) (q : Row) (a b : Bool) → nat_lt i (length kept) ≡ a → nat_eq (i + 1) next ≡ b → cond a (kept_at kept i) (cond b (Some r) None) ≡ Some q
    → slice_get (rows ++ r ∷ []) i ≡ Some q
next-there rows kept last end next r e le k i q true b f g h =
    let lt : i < length kept = ltb-true i (length kept) f in
    let n : length rows ≡ end = k.whole in
    let old : chain_at kept last end i ≡ Some q = ap (λ (c : Bool). cond c (kept_at kept i) (cond (nat_eq (i + 1) end) last None)) f ∙ h in
    slice_get-left rows r i (omega arith) ∙ k.there i q old
next-there rows kept last end next r e le k i q false true f g h =
    let n : length rows ≡ end = k.whole in
    let m : i + 1 ≡ next = eqb-true (i + 1) next g in
    let s : i ≡ length rows = omega arith in
    ap (slice_get (rows ++ r ∷ [])) s ∙ slice_get-last rows r ∙ h
next-there rows kept last end next r e le k i q false false f g h = absurd cc

next-ends : (rows : List Row) (r q : Row) → Some r ≡ Some q → Some q ≡ slice_get (rows ++ r ∷ []) (length (rows ++ r ∷ []) - 1)
next-ends rows r q h =
    let a = length-append rows (r ∷ []) in
    let e : length rows ≡ length (rows ++ r ∷ []) - 1 = omega arith in
    sym h ∙ sym (slice_get-last rows r) ∙ ap (slice_get (rows ++ r ∷ [])) e

pub chain-next : (rows : List Row) (kept : List (Option Row)) (last : Option Row) (end next : ℕ) (r : Row) → next ≡ suc end → length kept ≤ end → IsChain rows kept last end
    → IsChain (rows ++ r ∷ []) kept (Some r) next
chain-next rows kept last end next r e le k = record {
  whole = (let a = length-append rows (r ∷ []) in let n : length rows ≡ end = k.whole in omega arith);
  there = λ i q h. next-there rows kept last end next r e le k i q (nat_lt i (length kept)) (nat_eq (i + 1) next) refl refl h;
  ends = λ q h. next-ends rows r q h;
}

-- the row of a step from the two rows that are found
pub step-chain : (rows : List Row) (kept : List (Option Row)) (last : Option Row) (end : ℕ) (s : RowStep) (l r : Row) → IsChain rows kept last end
    → chain_at kept last end s.left ≡ Some l → chain_at kept last end s.right ≡ Some r → step_row rows s ≡ step_sum (Some l) (Some r) s
step-chain rows kept last end s l r k e f = step-found rows (Some l) (Some r) s (sym (k.there s.left l e)) (sym (k.there s.right r f))

-- after all steps the last row is kept, if there is a step
pub last-chain : (given : Result (List Row) Why) (rows : List Row) (kept : List (Option Row)) (last : Option Row) (end : ℕ) → given ≡ Ok rows → IsChain rows kept last end
    → IfSome last (λ row. HasLast given row)
last-chain given rows kept (Some r) end e k = (rows, e, k.ends r refl)
last-chain given rows kept None end e k = tt

-- what the last row says of the line
pub ends-chain : (atoms : List AtomKind) (used : List Lit) (steps : List RowStep) (rows : List Row) (row : Row) (b : Bool) → used_rows atoms used ≡ Ok rows
    → HasLast (with_steps rows steps) row → b ≡ is_contradiction row → Ends b (line_rows atoms used steps)
ends-chain atoms used steps rows row b e h i = (h.0, ap (λ (o : Result (List Row) Why). then_ o (λ first. with_steps first steps)) e ∙ h.1, ends-kept h.0 (Some row) (length h.0 - 1) refl h.2 ∙ sym i)

pub told-chain : (atoms : List AtomKind) (used : List Lit) (steps : List RowStep) (rows : List Row) (refused : LineRefused) → used_rows atoms used ≡ Ok rows
    → IsTold refused (with_steps rows steps) → IsTold refused (line_rows atoms used steps)
told-chain atoms used steps rows refused e t = subst (λ (o : Result (List Row) Why). IsTold refused (then_ o (λ first. with_steps first steps))) (sym e) t
