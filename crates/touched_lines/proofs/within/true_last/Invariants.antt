use Rattle.std.proofs.Common.{◌≡◌, ◌≤◌, true, nat_lt, ◌||◌, [], ◌∷◌, ◌++◌}
use Rattle.spec_core.specs.Form.{form_of}
use Rattle.spec_core.specs.Truth.{truth}
use Rattle.spec_core.specs.Choices.{all_below}
use Rattle.touched_lines.proofs.within.true_last.Given as goal

abbrev pub invariant-loop-e : goal.invariant-loop-e
invariant-loop-e g l = record {
  low : l.fn.span.from ≤ l.e;
  so_far : all_below l.e (λ e. nat_lt e l.fn.span.from || truth l.world (g.R.Readings.reads l.at) [] (l.chosen ++ e ∷ []) (form_of l.body)) ≡ true;
}
