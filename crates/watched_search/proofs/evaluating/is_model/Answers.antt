use Rattle.std.proofs.Common.{List, length, sym, ◌∙◌, subst}
use Rattle.proof_lines.specs.declared.problem.AtomKind.{AtomKind}
use Rattle.watched_search.specs.Reduced.{HaveTruths}
use Rattle.watched_search.proofs.Evaluation.{model-so}
use Rattle.watched_search.proofs.evaluating.is_model.Goals as goal

pub returns : goal.returns
returns c = λ t.
    let p = c.args.problem.now in
    let v = c.args.truths.now in
    let n = c.args.numbers.now in
    let h : HaveTruths (length p.atoms) p.atoms n v = subst (λ (z : List AtomKind). HaveTruths (length z) z n v) c.atoms_of-atoms.ensures (c.have_truths.ensures c.if-not-have_truths.false) in
    model-so p v n h (c.are_enough.ensures.atoms c.if-not-are_enough.false) (c.are_enough.ensures.ints c.if-not-are_enough.false) (sym c.are_in_state.ensures ∙ c.if-not-are_in_state.false) (sym c.are_true.ensures ∙ t)
