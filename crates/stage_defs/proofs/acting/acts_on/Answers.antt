use Rattle.std.proofs.Common.{◌≡◌, rules, List, [], ◌∷◌, ◌++◌, ap, sym, ◌∙◌}
use Rattle.std.specs.Option.{option_map}
use Rattle.spec_core.specs.declared.update.Spot.{Spot}
use Rattle.ground_problem.specs.Symbols.{all_parts}
use Rattle.ground_problem.specs.Definitions.{spots_hold}
use Rattle.ground_problem.specs.Formulas.{formula}
use Rattle.ground_numbers.specs.Numbered.{Numbered}
use Rattle.ground_atoms.specs.Making.{Made, make}
use Rattle.ground_atoms.specs.Formulas.{form_of}
use Rattle.stage_defs.specs.Settings.{readings_in, caller_in}
use Rattle.stage_defs.specs.Parts.{joined}
use Rattle.stage_defs.proofs.Joined.{all_parts-last}
use Rattle.stage_defs.proofs.acting.acts_on.Goals as goal

pub returns-clause-made : goal.returns-clause-made
returns-clause-made c =
    let s = c.args.setting.now in
    let u = c.args.update.now in
    let ss = c.as_slice.result.now in
    let o = option_map form_of c.in_ok-spots.spots in
    let g = formula (readings_in s) (caller_in s) [] u.guard in
    let e : u.at ≡ ss = search rules in
    let made : make c.spots_hold.new.atoms g ≡ record { known = c.formula.new.atoms; form = form_of c.in_ok-guard.guard } = search rules in
    ap (λ (xs : List Spot). make c.args.atoms.now (all_parts (spots_hold (caller_in s) xs c.args.tuple.now ++ g ∷ []))) e
    ∙ all_parts-last c.args.atoms.now (spots_hold (caller_in s) ss c.args.tuple.now) g o c.spots_hold.new.atoms c.in_ok-spots.ensures.made
    ∙ ap (λ (m : Made). record { known = m.known; form = joined o m.form }) made
    ∙ ap (λ (z : Numbered). record { known = c.formula.new.atoms; form = z }) (sym c.in_ok-made.ensures)
