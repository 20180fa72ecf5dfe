use Rattle.std.proofs.Common.{◌≡◌, ℕ, ◌-◌, List, [], ◌∷◌, ◌++◌, length, map, take, drop, slice_index, refl, ◌∙◌, ap}
use Rattle.spec_core.specs.World.{each_before}
use Rattle.spec_core.specs.Form as forms
use Rattle.ground_problem.specs.Symbols.{Symbolic}
use Rattle.ground_problem.specs.Formulas.{formula}
use Rattle.ground_problem.specs.Constants.{choices}
use Rattle.stage_defs.specs.Settings.{readings_in, caller_in}
use Rattle.ground_groups.proofs.Counted.{choices_first}
use Rattle.ground_groups.specs.Limited.{made_with}
use Rattle.ground_groups.specs.Lines.{signed}
use Rattle.ground_groups.proofs.Lists.{chosen_next, pair_step, pair_refused}
use Rattle.ground_groups.proofs.instancing.+add_choices.Goals as goal

pub loop-constant-init : goal.loop-constant-init
loop-constant-init t c =
    let f : List ℕ → Symbolic = λ vs. signed c.args.sign (formula (readings_in c.args.setting.now) (caller_in c.args.setting.now) vs (forms.form_of c.args.form.now)) in
    let lists = c.args.options.now in
    let rest = choices (take (length lists - 1) (drop 1 lists)) in
    record {
      made = ap (λ (ys : List (List ℕ)). made_with c.args.grounding.now (map (λ vs. f (c.args.chosen.now ++ vs)) ys))
          (ap (λ (xs : List ℕ). each_before xs rest) c.as_slice-constants.ensures ∙ choices_first lists c.first-item.result c.in-len1-up.len_at_least c.first-item.is);
      chosen = refl;
    }

pub loop-constant-preserved : goal.loop-constant-preserved
loop-constant-preserved t c =
    let f : List ℕ → Symbolic = λ vs. signed c.args.sign (formula (readings_in c.args.setting.now) (caller_in c.args.setting.now) vs (forms.form_of c.args.form.now)) in
    let lists = c.args.options.now in
    let rest = choices (take (length lists - 1) (drop 1 lists)) in
    let xs = c.as_slice-constants.result.now in
    let i = c.loop-constant.constant-index in
    let e : c.push.new.self ≡ c.args.chosen.now ++ slice_index xs i ∷ [] = c.in_ok-push.ensures.ok ∙ ap (λ (l : List ℕ). l ++ slice_index xs i ∷ []) c.loop-constant.invariant.chosen in
    let next = chosen_next f c.args.chosen.now c.push.new.self xs rest i c.loop-constant-test.true e in
    record {
      made = pair_step _ _ _ next _ _ _ _ c.in-Ok.ensures.added ∙ c.loop-constant.invariant.made;
      chosen = c.remove_last.ensures c.args.chosen.now (slice_index xs i) (c.in-Ok.ensures.chosen ∙ e);
    }

pub returns-in-Err-clause-added : goal.returns-in-Err-clause-added
returns-in-Err-clause-added t c =
    let f : List ℕ → Symbolic = λ vs. signed c.args.sign (formula (readings_in c.args.setting.now) (caller_in c.args.setting.now) vs (forms.form_of c.args.form.now)) in
    let lists = c.args.options.now in
    let rest = choices (take (length lists - 1) (drop 1 lists)) in
    let xs = c.as_slice-constants.result.now in
    let i = c.loop-constant.constant-index in
    let e : c.push.new.self ≡ c.args.chosen.now ++ slice_index xs i ∷ [] = c.in_ok-push.ensures.ok ∙ ap (λ (l : List ℕ). l ++ slice_index xs i ∷ []) c.loop-constant.invariant.chosen in
    let next = chosen_next f c.args.chosen.now c.push.new.self xs rest i c.loop-constant-test.true e in
    pair_refused _ _ _ next _ _ _ _ _ c.loop-constant.invariant.made c.in-Err.ensures.added
