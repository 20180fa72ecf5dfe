use Rattle.std.proofs.Common.{◌++◌, List, map, ◌∙◌, ap}
use Rattle.std.specs.List.{flat_map}
use Rattle.ground_atoms.specs.Formulas.{form_of}
use Rattle.lazy_ground.specs.declared.pairs.ReadingPairs.{ReadingPairs}
use Rattle.lazy_ground.specs.Pairs.{pair_forms}
use Rattle.lazy_ground.proofs.Wholes.{completed_kept}
use Rattle.lazy_ground.proofs.grounding.LazyGround.into_whole.Goals as goal

pub returns-clause-kept : goal.returns-clause-kept
returns-clause-kept c =
    let g = c.args.self in
    λ h. completed_kept c.args.spec.now c.args.ob.now g c.all_formulas-made.new.atoms c.in-Ok.value c.requires c.in-Ok.ensures.atoms
    (c.in-Ok.ensures.formulas ∙ ap (λ (ss : List ReadingPairs). map form_of g.front ++ (flat_map (pair_forms g.atoms.table) ss ++ map form_of g.behind)) c.as_slice.ensures) h
