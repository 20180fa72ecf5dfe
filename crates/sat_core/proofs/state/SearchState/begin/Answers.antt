use Rattle.std.proofs.Common.{◌≡◌, ◌^◌, ◌<◌, true, [], length, sym, ◌∙◌, ap, subst, arith}
use Rattle.proof_lines.specs.Problems.{PlainProblem, fits}
use Rattle.sat_core.specs.declared.state.SearchState.{SearchState}
use Rattle.sat_core.specs.Searching.{InSearch}
use Rattle.sat_core.proofs.Outcomes.{aim_of, search_begins}
use Rattle.sat_core.proofs.Resolving.{state-so}
use Rattle.sat_core.proofs.state.SearchState.begin.Goals as goal

pub returns-clause-search : goal.returns-clause-search
returns-clause-search c split budget =
    let p = c.args.problem.now in
    let a = aim_of p split in
    let e = c.in_ok-grown.ensures in
    let v = c.grown.view_is ∙ e in
    let f : fits p ≡ true = subst (λ (z : PlainProblem). fits z ≡ true) v c.grown.invariant in
    let n : c.len.result ≡ length p.clauses = c.len.ensures ∙ ap (λ (z : PlainProblem). length z.clauses) v in
    let m : c.len-else-len.result ≡ length p.atoms = c.len-else-len.ensures ∙ ap (λ (z : PlainProblem). length z.atoms) v in
    let cs : length p.clauses < 2 ^ 32 = omega (arith, n, c.if-len.false) in
    let ks : length p.atoms < 2 ^ 32 = omega (arith, m, c.if-len-2.false) in
    let s : SearchState = record { grown = c.in_ok-grown.grown; trail = c.in-Ok.value; log = c.new.result } in
    subst (λ (z : SearchState). InSearch a budget z) (sym (state-so s p [] [] e c.in-Ok.ensures c.new.ensures)) (search_begins a budget f cs ks c.requires.filled)
