use Rattle.std.proofs.Common.{map, sym, ◌∙◌, ap}
use Rattle.std.proofs.lemmas.List.{drop-map, take_rest}
use Rattle.ground_atoms.specs.Formulas.{form_of}
use Rattle.lazy_search.proofs.choosing.forms_behind.Goals as goal

pub returns : goal.returns
returns c = ap (map form_of) (take_rest c.args.forms.now c.args.count) ∙ sym (drop-map form_of c.args.count c.args.forms.now)
