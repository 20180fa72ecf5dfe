use Rattle.std.proofs.Common.{◌≡◌, ◌≤◌, true, nat_lt, ◌||◌, [], ◌∷◌, ◌++◌}
use Rattle.spec_core.specs.Form.{form_of}
use Rattle.spec_core.specs.Truth.{truth}
use Rattle.spec_core.specs.Choices.{all_below}
use Rattle.touched_lines.specs.Spans.{all_within}
use Rattle.touched_lines.proofs.within.true_last_two.Given as goal

abbrev pub invariant-loop-e : goal.invariant-loop-e
invariant-loop-e g l = record {
  low : l.fn.span.from ≤ l.e;
  so_far : all_below l.e (λ e. nat_lt e l.fn.span.from || all_within (l.last ∷ []) (l.chosen ++ e ∷ []) (λ vars. truth l.world (g.R.Readings.reads l.at) [] vars (form_of l.body))) ≡ true;
}
