use Rattle.std.proofs.Common.{◌≡◌, true, [], ◌∷◌, ◌++◌}
use Rattle.spec_core.specs.Form.{form_of}
use Rattle.spec_core.specs.Truth.{truth}
use Rattle.spec_core.specs.Choices.{all_below, agrees}
use Rattle.spec_core.proofs.choices.all_last.Given as goal

abbrev pub invariant-loop-e : goal.invariant-loop-e
invariant-loop-e g l = all_below l.e (λ e. agrees l.wanted (truth l.world (g.R.Readings.reads l.at) l.args (l.chosen ++ e ∷ []) (form_of l.body))) ≡ true
