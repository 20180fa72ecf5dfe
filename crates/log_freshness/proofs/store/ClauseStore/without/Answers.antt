use Rattle.std.proofs.Common.{◌≡◌, List, Option, IfOk, sym, subst, ap, ◌∙◌}
use Rattle.proof_lines.specs.declared.clause.Lit.{Lit}
use Rattle.log_freshness.specs.declared.store.Span.{Span}
use Rattle.log_freshness.specs.Clearing.{cleared}
use Rattle.log_freshness.specs.Spans.{clauses_at, SpansFit, marked}
use Rattle.log_freshness.proofs.Marks.{fit-marked, clauses_at-marked}
use Rattle.log_freshness.proofs.store.ClauseStore.without.Goals as goal

pub copied-made-requires : goal.copied-made-requires
copied-made-requires c =
    let lits = c.self.inside.lits.items in
    let spans = c.self.inside.spans.items in
    let ns = c.args.numbers.now in
    let e : c.deref-3.result.now ≡ marked spans ns = c.deref-3.ensures.value ∙ c.mark.ensures ∙ ap (λ (z : List Span). marked z ns) (c.in_ok-spans.ensures.items ∙ c.deref.ensures.value) in
    subst (λ (z : List Lit). SpansFit z c.deref-3.result.now) (sym c.deref-2.ensures.value)
    (subst (λ (z : List Span). SpansFit lits z) (sym e) (fit-marked lits spans ns c.self.invariant.placed))

pub returns : goal.returns
returns c =
    let lits = c.self.inside.lits.items in
    let spans = c.self.inside.spans.items in
    let ns = c.args.numbers.now in
    let e : c.deref-3.result.now ≡ marked spans ns = c.deref-3.ensures.value ∙ c.mark.ensures ∙ ap (λ (z : List Span). marked z ns) (c.in_ok-spans.ensures.items ∙ c.deref.ensures.value) in
    let p : clauses_at c.deref-2.result.now c.deref-3.result.now ≡ cleared c.args.self.now ns =
    (λ i. clauses_at (c.deref-2.ensures.value i) (e i)) ∙ clauses_at-marked lits spans ns ∙ ap (λ (z : List (Option (List Lit))). cleared z ns) c.self.view_is in
    subst (λ (z : List (Option (List Lit))). IfOk c.copied-made.result (λ store. store ≡ z)) p c.copied-made.ensures
