use Rattle.std.proofs.Common.{map, take, sym, ◌∙◌, ap}
use Rattle.std.proofs.lemmas.List.{take-map}
use Rattle.ground_atoms.specs.Formulas.{form_of}
use Rattle.instances.proofs.entry.cut.Goals as goal

pub returns-clause-formulas : goal.returns-clause-formulas
returns-clause-formulas c =
    let e = c.args.entry in
    let n = e.part.size.formulas in
    ap (map form_of) (c.from_vec.ensures ∙ c.truncate.ensures.items ∙ ap (take n) c.into_vec-list.ensures) ∙ sym (take-map form_of n e.formulas)
