use Rattle.std.proofs.Common.{◌≡◌, ◌++◌, length, map, drop}
use Rattle.spec_core.specs.World.{each_before}
use Rattle.spec_core.specs.Form as forms
use Rattle.ground_problem.specs.Formulas.{formula}
use Rattle.ground_problem.specs.Constants.{choices}
use Rattle.stage_defs.specs.Settings.{readings_in, caller_in}
use Rattle.ground_groups.specs.Limited.{made_with}
use Rattle.ground_groups.specs.Lines.{signed}
use Rattle.ground_groups.proofs.instancing.+add_choices.Given as goal

abbrev pub decreases-add_choices : goal.decreases-add_choices
decreases-add_choices l = length l.options.now

abbrev pub invariant-loop-constant : goal.invariant-loop-constant
invariant-loop-constant l = record {
  made :
      made_with l.grounding (map (λ vs. signed l.sign (formula (readings_in l.setting) (caller_in l.setting) (l.fn.chosen ++ vs) (forms.form_of l.form))) (each_before (drop l.constant-index l.constants) (choices l.rest)))
      ≡ made_with l.initial.grounding (map (λ vs. signed l.sign (formula (readings_in l.setting) (caller_in l.setting) (l.fn.chosen ++ vs) (forms.form_of l.form))) (choices l.options));
  chosen : l.chosen ≡ l.fn.chosen;
}
