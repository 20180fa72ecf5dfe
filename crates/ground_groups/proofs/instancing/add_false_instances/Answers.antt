use Rattle.std.proofs.Common.{◌≡◌, ℕ, List, map, false, subst, ◌∙◌, ap}
use Rattle.spec_core.specs.Form as forms
use Rattle.ground_problem.specs.Symbols.{Symbolic}
use Rattle.ground_problem.specs.Formulas.{formula}
use Rattle.ground_problem.specs.Constants.{of_sort, choices}
use Rattle.stage_defs.specs.Settings.{readings_in, caller_in}
use Rattle.ground_groups.specs.Limited.{Appends}
use Rattle.ground_groups.specs.Lines.{signed}
use Rattle.ground_groups.proofs.Lists.{false_each}
use Rattle.ground_groups.proofs.instancing.add_false_instances.Goals as goal

pub returns : goal.returns
returns c =
    let f : List ℕ → Symbolic = λ vs. formula (readings_in c.args.setting.now) (caller_in c.args.setting.now) vs (forms.form_of c.args.form.now) in
    let sorts = c.args.named.now.sorts in
    let lists : c.as_slice-2.result.now ≡ map (of_sort 0 sorts) c.args.vars.now = c.as_slice-2.ensures ∙ c.in_ok-options.ensures ∙ ap (λ (ss : List ℕ). map (of_sort 0 ss) c.args.vars.now) c.as_slice.ensures in
    let e = ap (λ (ls : List (List ℕ)). map (λ vs. signed false (f vs)) (choices ls)) lists ∙ false_each f (choices (map (of_sort 0 sorts) c.args.vars.now)) in
    subst (λ (fs : List Symbolic). Appends c.add_each_choice.result c.args.grounding.now fs c.add_each_choice.new.grounding) e c.add_each_choice.ensures
