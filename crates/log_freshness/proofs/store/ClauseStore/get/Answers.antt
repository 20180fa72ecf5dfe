use Rattle.std.proofs.Common.{◌≡◌, ◌<◌, ◌+◌, ◌-◌, Bool, true, false, not, length, List, sym, subst, ap, ◌∙◌, take, drop, get_or, arith}
use Rattle.proof_lines.specs.declared.clause.Lit.{Lit}
use Rattle.proof_lines.specs.Clauses.{distinct}
use Rattle.log_freshness.specs.declared.store.Span.{Span}
use Rattle.log_freshness.specs.Spans.{lits_at}
use Rattle.log_freshness.proofs.Spans.{span-apart}
use Rattle.log_freshness.proofs.store.ClauseStore.get.Goals as goal

is_so : (b : Bool) → not b ≡ false → b ≡ true
is_so b h = grind (arith, h)

pub returns-clause-apart : goal.returns-clause-apart
returns-clause-apart c =
    let span = c.index-span.result.now in
    let spans = c.self.inside.spans.items in
    let lits = c.self.inside.lits.items in
    let here : span ≡ get_or spans c.args.number span = c.index-span.ensures in
    let live : (get_or spans c.args.number span).is_live ≡ true = subst (λ (s : Span). s.is_live ≡ true) here (is_so span.is_live c.if-not-span.false) in
    let within : c.args.number < length spans = omega (arith, c.if-number-len.false, c.len.ensures, c.self.inside.spans.ok.0) in
    let count : span.count ≡ (span.first + span.count) - span.first = omega arith in
    let part : lits_at lits (get_or spans c.args.number span) ≡ take ((span.first + span.count) - span.first) (drop span.first c.deref.result.now) =
    ap (lits_at lits) (sym here) ∙ (λ i. take (count i) (drop span.first (sym c.deref.ensures.value i))) in
    subst (λ (z : List Lit). distinct z ≡ true) part (span-apart lits spans c.args.number span c.self.invariant.placed within live)
