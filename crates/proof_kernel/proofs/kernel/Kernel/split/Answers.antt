use Rattle.std.proofs.Common.{rules, ◌≡◌, ◌<◌, ◌∷◌, [], sym, ◌∙◌, ap, subst, List, Option, Some, None, Ok, Result}
use Rattle.std.specs.Prelude.{MatchResult}
use Rattle.lin_rows.specs.Rows.{Row}
use Rattle.proof_lines.specs.declared.problem.AtomKind.{AtomKind}
use Rattle.proof_lines.specs.declared.line.Why.{Why}
use Rattle.line_rows.specs.Kept.{kept_at, HasKept}
use Rattle.line_rows.specs.Refusals.{IsTold}
use Rattle.line_rows.specs.Steps.{line_rows}
use Rattle.proof_kernel.specs.Rules.{State}
use Rattle.proof_kernel.proofs.Splitting.{split-there, split-no-low, split-no-high}
use Rattle.proof_kernel.proofs.kernel.Kernel.split.Goals as goal

pub returns-in_default-clause-exact : goal.returns-in_default-clause-exact
returns-in_default-clause-exact c =
    let p : c.args.place < c.args.self.now.ints = search rules in
    let atoms = c.as_slice.ensures ∙ ap (λ (s : State). s.atoms) c.self.view_is in
    let k = subst (λ (z : List AtomKind). HasKept (line_rows z c.args.used.now c.args.steps.now) (c.args.low ∷ c.args.high ∷ []) c.in-Ok.rows.items) atoms c.in-Ok.ensures in
    let e : None ≡ kept_at c.in-Ok.rows.items c.args.low = c.in_default.ensures ∙ ap (λ (l : List (Option Row)). kept_at l c.args.low) c.as_slice-kept.ensures.value in
    split-no-low c.args.self.now c.args.place c.args.at.now c.args.used.now c.args.steps.now c.args.low c.args.high c.args.values.now c.in-Ok.rows.items p k e

pub returns-in_default-kept_at-clause-exact : goal.returns-in_default-kept_at-clause-exact
returns-in_default-kept_at-clause-exact c =
    let p : c.args.place < c.args.self.now.ints = search rules in
    let atoms = c.as_slice.ensures ∙ ap (λ (s : State). s.atoms) c.self.view_is in
    let k = subst (λ (z : List AtomKind). HasKept (line_rows z c.args.used.now c.args.steps.now) (c.args.low ∷ c.args.high ∷ []) c.in-Ok.rows.items) atoms c.in-Ok.ensures in
    let e : Some c.in-Some.low_row.now ≡ kept_at c.in-Ok.rows.items c.args.low = c.in-Some.ensures ∙ ap (λ (l : List (Option Row)). kept_at l c.args.low) c.as_slice-kept.ensures.value in
    let f : None ≡ kept_at c.in-Ok.rows.items c.args.high = c.in_default-kept_at.ensures ∙ ap (λ (l : List (Option Row)). kept_at l c.args.high) c.as_slice-kept.ensures.value in
    split-no-high c.args.self.now c.args.place c.args.at.now c.args.used.now c.args.steps.now c.args.low c.args.high c.args.values.now c.in-Ok.rows.items c.in-Some.low_row.now p k e f

pub returns-clause-exact : goal.returns-clause-exact
returns-clause-exact c =
    let p : c.args.place < c.args.self.now.ints = search rules in
    let atoms = c.as_slice.ensures ∙ ap (λ (s : State). s.atoms) c.self.view_is in
    let k = subst (λ (z : List AtomKind). HasKept (line_rows z c.args.used.now c.args.steps.now) (c.args.low ∷ c.args.high ∷ []) c.in-Ok.rows.items) atoms c.in-Ok.ensures in
    let e : Some c.in-Some.low_row.now ≡ kept_at c.in-Ok.rows.items c.args.low = c.in-Some.ensures ∙ ap (λ (l : List (Option Row)). kept_at l c.args.low) c.as_slice-kept.ensures.value in
    let f : Some c.in-Some-kept_at.high_row.now ≡ kept_at c.in-Ok.rows.items c.args.high = c.in-Some-kept_at.ensures ∙ ap (λ (l : List (Option Row)). kept_at l c.args.high) c.as_slice-kept.ensures.value in
    let own = c.in-Ok-own_rows in
    let mine : Some own.low_copy ≡ kept_at c.in-Ok.rows.items c.args.low = ap (λ (r : Row). Some r) own.ensures.0 ∙ e in
    let others : Some own.high_copy ≡ kept_at c.in-Ok.rows.items c.args.high = ap (λ (r : Row). Some r) own.ensures.1 ∙ f in
    let s = split-there c.args.self.now c.args.place c.args.at.now c.args.used.now c.args.steps.now c.args.low c.args.high c.args.values.now c.in-Ok.rows.items own.low_copy own.high_copy p k mine others in
    subst (λ (o : Result State Why). MatchResult c.split_after.result (λ x. o ≡ Ok c.split_after.new.self) (λ w. IsTold w o)) (sym s) c.split_after.ensures.exact
