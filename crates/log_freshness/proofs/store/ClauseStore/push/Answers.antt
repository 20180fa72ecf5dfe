use Rattle.std.proofs.Common.{◌≡◌, ◌+◌, ◌++◌, ◌∷◌, [], true, List, Option, Some, length, sym, subst, ap, ◌∙◌, arith}
use Rattle.std.proofs.lemmas.List.{length-append}
use Rattle.proof_lines.specs.declared.clause.Lit.{Lit}
use Rattle.proof_lines.specs.Clauses.{distinct}
use Rattle.log_freshness.specs.declared.store.Span.{Span}
use Rattle.log_freshness.specs.Held.{live_literals}
use Rattle.log_freshness.proofs.Marks.{live-append}
use Rattle.log_freshness.specs.Spans.{lits_at, clauses_at, StoreFits}
use Rattle.log_freshness.proofs.Spans.{fit-longer, fit-more, clauses_at-longer, clauses_at-more, lits_at-last, within-last}
use Rattle.log_freshness.proofs.store.ClauseStore.push.Goals as goal

-- the span of the new clause
abbrev span : goal.In-Ok-push → Span
span c = record { first = c.len-first.result; count = c.in-Ok.count; is_live = true }

first_is : (c : goal.In-Ok-push) → (span c).first ≡ length c.self.inside.lits.items
first_is c = c.len-first.ensures ∙ c.self.inside.lits.ok.0

count_is : (c : goal.In-Ok-push) → (span c).count ≡ length c.args.lits.now
count_is c = c.in-Ok.ensures.1

last_is : (c : goal.In-Ok-push) → lits_at (c.self.inside.lits.items ++ c.args.lits.now) (span c) ≡ c.args.lits.now
last_is c = lits_at-last c.self.inside.lits.items c.args.lits.now (span c) (first_is c) (count_is c)

pub invariant_of-self-in-Ok-push : goal.invariant_of-self-in-Ok-push
invariant_of-self-in-Ok-push c =
    let lits = c.self.inside.lits.items in
    let spans = c.self.inside.spans.items in
    let more = lits ++ c.args.lits.now in
    let fit = fit-longer lits c.args.lits.now spans c.self.invariant.placed in
    let apart : distinct (lits_at more (span c)) ≡ true = subst (λ (z : List Lit). distinct z ≡ true) (sym (last_is c)) c.requires in
    let both = fit-more more spans (span c) fit (within-last lits c.args.lits.now (span c) (first_is c) (count_is c)) apart in
    let last : live_literals (clauses_at more (spans ++ span c ∷ [])) ≡ live_literals (clauses_at lits spans) + (length c.args.lits.now + 0) =
    ap live_literals (clauses_at-more more spans (span c))
    ∙ (λ i. live_literals (clauses_at-longer lits c.args.lits.now spans c.self.invariant.placed.within i ++ Some (last_is c i) ∷ []))
    ∙ live-append (clauses_at lits spans) (Some c.args.lits.now ∷ []) in
    let held = length-append lits c.args.lits.now in
    let fits : StoreFits more (spans ++ span c ∷ []) c.self.inside.dropped = record {
      placed = both;
      few = omega (arith, c.if-first-lits-gt-MOST_LITERALS.false, c.len-first.ensures, c.self.inside.lits.ok.0, held);
      counted = omega (arith, last, held, c.self.invariant.counted);
      tidy = omega (arith, held, c.self.invariant.tidy);
    } in
    subst (λ (z : List Lit). StoreFits z c.push.new.self.items c.self.inside.dropped) (sym c.in_ok-extend_from_slice.ensures.items)
    (subst (λ (z : List Span). StoreFits more z c.self.inside.dropped) (sym c.in-Ok-push.ensures.items) fits)

pub returns-clause-ok : goal.returns-clause-ok
returns-clause-ok c =
    let lits = c.self.inside.lits.items in
    let spans = c.self.inside.spans.items in
    let more = lits ++ c.args.lits.now in
    (λ i. clauses_at (c.in_ok-extend_from_slice.ensures.items i) (c.in-Ok-push.ensures.items i))
    ∙ clauses_at-more more spans (span c)
    ∙ (λ i. clauses_at-longer lits c.args.lits.now spans c.self.invariant.placed.within i ++ Some (last_is c i) ∷ [])
    ∙ ap (λ (z : List (Option (List Lit))). z ++ Some c.args.lits.now ∷ []) c.self.view_is
