use Rattle.std.proofs.Common.{subst, true, ◌≡◌, ◌<◌, ◌^◌, length, ◌∙◌, sym, ap, arith, List, map, Some}
use Rattle.std.specs.List.{list_any, list_all}
use Rattle.proof_lines.specs.declared.clause.Lit.{Lit}
use Rattle.proof_lines.specs.declared.problem.AtomKind.{AtomKind}
use Rattle.proof_lines.specs.Problems.{has_good_row}
use Rattle.proof_lines.specs.Clauses.{is_empty}
use Rattle.proof_kernel.specs.Rules.{StateFits, start}
use Rattle.proof_kernel.proofs.States.{fits-start}
use Rattle.proof_kernel.proofs.kernel.Kernel.begin.Goals as goal

pub invariant_of-result : goal.invariant_of-result
invariant_of-result c =
    let few : length c.problem.inside.clauses < 2 ^ 32 = omega (arith, c.if-len.false, c.len.ensures) in
    let fewer : length c.problem.inside.atoms < 2 ^ 32 = omega (arith, c.if-len-2.false, c.len-else-len.ensures) in
    subst (λ (z : List AtomKind). StateFits (record { atoms = z; ints = c.problem.inside.ints; given = c.len-given.result; slots = c.in_ok-slots.slots; empty = c.holds_empty-empty.result })) (sym c.in_ok-atoms.ensures)
    (fits-start (record { atoms = c.problem.inside.atoms; ints = c.problem.inside.ints; clauses = c.problem.inside.clauses })
    c.in_ok-slots.slots _ _ c.len-given.ensures c.problem.invariant (subst (λ (z : List AtomKind). list_all has_good_row z ≡ true) c.as_slice.ensures c.law_rows.ensures)
    (c.in_ok-slots.ensures ∙ ap (map (λ (x : List Lit). Some x)) c.as_slice-3.ensures) few fewer)

pub returns : goal.returns
returns c =
    let atoms = c.in_ok-atoms.ensures in
    let given = c.len-given.ensures in
    let empty = c.holds_empty-empty.ensures ∙ ap (list_any is_empty) c.as_slice-2.ensures in
    let slots = c.in_ok-slots.ensures ∙ ap (map (λ (x : List Lit). Some x)) c.as_slice-3.ensures in
    (λ i. record { atoms = atoms i; ints = c.problem.inside.ints; given = given i; slots = slots i; empty = empty i }) ∙ ap start c.problem.view_is
