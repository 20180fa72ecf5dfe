use Rattle.std.proofs.Common.{◌≡◌, ℕ, List, [], ◌∷◌, ◌++◌, length, ◌∙◌, sym, arith}
use Rattle.std.specs.Prelude.{slice_index, slice_index_or}
use Rattle.std.proofs.lemmas.Grind.{common_steps}
use Rattle.spec_core.specs.Form.{form_of}
use Rattle.spec_core.proofs.Forcing.{forced_at}
use Rattle.spec_core.proofs.choices.chosen_force.Goals as goal

pub returns-in-len1-rest : goal.returns-in-len1-rest
returns-in-len1-rest g c h =
    let xs = c.args.chosen.now in let ys = c.args.rest.now in
    let vars : List ℕ = slice_index_or xs 0 0 ∷ slice_index_or ys 0 0 ∷ [] in
    let front : vars ≡ xs ++ ys = grind (arith, common_steps) in
    let few : 1 ≡ length xs = grind (arith, common_steps) in
    forced_at c.args.world.now (g.R.Readings.reads c.args.at.now) c.args.args.now xs ys vars 1 (form_of c.args.body.now) c.args.wanted (sym c.is_forced.ensures ∙ h) front few

pub returns-in-len2-rest : goal.returns-in-len2-rest
returns-in-len2-rest g c h =
    let xs = c.args.chosen.now in let ys = c.args.rest.now in
    let vars : List ℕ = slice_index_or xs 0 0 ∷ slice_index_or ys 0 0 ∷ slice_index_or ys 1 0 ∷ [] in
    let front : vars ≡ xs ++ ys = grind (arith, common_steps) in
    let few : 1 ≡ length xs = grind (arith, common_steps) in
    forced_at c.args.world.now (g.R.Readings.reads c.args.at.now) c.args.args.now xs ys vars 1 (form_of c.args.body.now) c.args.wanted (sym c.is_forced-in-len2-rest.ensures ∙ h) front few

pub returns-in-len1-rest-2 : goal.returns-in-len1-rest-2
returns-in-len1-rest-2 g c h =
    let xs = c.args.chosen.now in let ys = c.args.rest.now in
    let vars : List ℕ = slice_index_or xs 0 0 ∷ slice_index_or xs 1 0 ∷ slice_index_or ys 0 0 ∷ [] in
    let front : vars ≡ xs ++ ys = grind (arith, common_steps) in
    let few : 2 ≡ length xs = grind (arith, common_steps) in
    forced_at c.args.world.now (g.R.Readings.reads c.args.at.now) c.args.args.now xs ys vars 2 (form_of c.args.body.now) c.args.wanted (sym c.is_forced-in-len1-rest-2.ensures ∙ h) front few
