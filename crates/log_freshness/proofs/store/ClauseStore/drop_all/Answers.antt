use Rattle.std.proofs.Common.{◌≡◌, ◌+◌, ◌*◌, ◌≤◌, List, Option, length, sym, subst, ap, ◌∙◌, arith, rules}
use Rattle.proof_lines.specs.declared.clause.Lit.{Lit}
use Rattle.log_freshness.specs.declared.store.Span.{Span}
use Rattle.log_freshness.specs.Clearing.{cleared}
use Rattle.log_freshness.specs.Spans.{clauses_at, StoreFits, counts_of}
use Rattle.log_freshness.proofs.Marks.{fit-marked, clauses_at-marked, live-marked}
use Rattle.log_freshness.proofs.store.ClauseStore.drop_all.Goals as goal
use Rattle.log_freshness.proofs.store.ClauseStore.drop_all.Goals.{else-dropped-gt-MANY-via-then-dropped-gt-MANY+else-dropped-len, else-dropped-gt-MANY-via-else-dropped-gt-MANY}

pub invariant_of-self-2 : goal.invariant_of-self-2
invariant_of-self-2 c =
    let lits = c.self.inside.lits.items in
    let spans = c.self.inside.spans.items in
    let ns = c.args.numbers.now in
    let h = c.self.invariant in
    let more : c.in-Some.more ≡ counts_of spans ns = c.in-Some.ensures ∙ ap (λ (z : List Span). counts_of z ns) c.deref.ensures.value in
    let sum : c.in-Some-checked_add.dropped ≡ c.self.inside.dropped + c.in-Some.more = search rules in
    let left = live-marked lits spans ns in
    let few : 2 * c.in-Some-checked_add.dropped ≤ 8192 + length lits = elim c.else-dropped-gt-MANY.branch [
      | else-dropped-gt-MANY-via-then-dropped-gt-MANY+else-dropped-len w ↦ omega (arith, w.if-dropped-len.false, w.len.ensures, c.self.inside.lits.ok.0)
      | else-dropped-gt-MANY-via-else-dropped-gt-MANY w ↦ omega (arith, w.if-dropped-gt-MANY.false)
    ] in
    subst (λ (z : List Span). StoreFits lits z c.in-Some-checked_add.dropped) (sym c.mark.ensures) (record {
      placed = fit-marked lits spans ns h.placed;
      few = h.few;
      counted = omega (arith, more, sum, left, h.counted);
      tidy = few;
    })

pub returns-clause-ok : goal.returns-clause-ok
returns-clause-ok c =
    let lits = c.self.inside.lits.items in
    let ns = c.args.numbers.now in
    (λ i. clauses_at lits (c.mark.ensures i))
    ∙ clauses_at-marked lits c.self.inside.spans.items ns
    ∙ ap (λ (z : List (Option (List Lit))). cleared z ns) c.self.view_is
