use Rattle.std.proofs.Common.{◌≡◌, ◌+◌, ◌++◌, ◌∷◌, [], List, None, length, refl, sym, subst, ap, ◌∙◌, arith}
use Rattle.std.proofs.lemmas.Bool.{le-leb}
use Rattle.log_freshness.specs.declared.store.Span.{Span}
use Rattle.log_freshness.specs.Held.{live_literals}
use Rattle.log_freshness.specs.Spans.{clauses_at, StoreFits, gone}
use Rattle.log_freshness.proofs.Spans.{fit-more, clauses_at-more}
use Rattle.log_freshness.proofs.Marks.{live-append}
use Rattle.log_freshness.proofs.store.ClauseStore.push_dropped.Goals as goal

pub invariant_of-self-2 : goal.invariant_of-self-2
invariant_of-self-2 c =
    let lits = c.self.inside.lits.items in
    let spans = c.self.inside.spans.items in
    let h = c.self.invariant in
    let more : live_literals (clauses_at lits (spans ++ gone ∷ [])) ≡ live_literals (clauses_at lits spans) + (0 + 0) =
    ap live_literals (clauses_at-more lits spans gone) ∙ live-append (clauses_at lits spans) (None ∷ []) in
    subst (λ (z : List Span). StoreFits lits z c.self.inside.dropped) (sym c.in_ok-push.ensures.items) (record {
      placed = fit-more lits spans gone h.placed (le-leb (0 + 0) (length lits) (omega arith)) refl;
      few = h.few;
      counted = omega (arith, more, h.counted);
      tidy = h.tidy;
    })
