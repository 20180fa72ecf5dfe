use Rattle.std.proofs.Common.{◌≡◌, ℕ, List, [], ◌∷◌, ◌++◌, length, ◌∙◌, sym, arith}
use Rattle.std.specs.Prelude.{slice_index_or}
use Rattle.std.proofs.lemmas.Grind.{common_steps}
use Rattle.spec_core.specs.Form.{form_of}
use Rattle.touched_lines.proofs.Spanning.{forced_at}
use Rattle.touched_lines.proofs.within.chosen_force.Goals as goal

pub returns-in-len1 : goal.returns-in-len1
returns-in-len1 g c h =
    let xs = c.args.chosen.now in
    let vars : List ℕ = slice_index_or xs 0 0 ∷ c.args.e ∷ [] in
    let front : vars ≡ xs ++ c.args.e ∷ [] = grind (arith, common_steps) in
    let few : 1 ≡ length xs = grind (arith, common_steps) in
    forced_at c.args.world.now (g.R.Readings.reads c.args.at.now) [] xs (c.args.e ∷ []) vars 1 (form_of c.args.body.now) (sym c.is_forced.ensures ∙ h) front few

pub returns-in-len2 : goal.returns-in-len2
returns-in-len2 g c h =
    let xs = c.args.chosen.now in
    let vars : List ℕ = slice_index_or xs 0 0 ∷ slice_index_or xs 1 0 ∷ c.args.e ∷ [] in
    let front : vars ≡ xs ++ c.args.e ∷ [] = grind (arith, common_steps) in
    let few : 2 ≡ length xs = grind (arith, common_steps) in
    forced_at c.args.world.now (g.R.Readings.reads c.args.at.now) [] xs (c.args.e ∷ []) vars 2 (form_of c.args.body.now) (sym c.is_forced-in-len2.ensures ∙ h) front few
