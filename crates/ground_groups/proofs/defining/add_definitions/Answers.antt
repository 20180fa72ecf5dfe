use Rattle.std.proofs.Common.{List, map, subst, ap, ◌∙◌}
use Rattle.ground_problem.specs.Symbols.{Symbolic}
use Rattle.ground_atoms.specs.Symbols.{reading_of}
use Rattle.ground_groups.specs.Limited.{Appends}
use Rattle.ground_groups.proofs.Defined.{all_defined}
use Rattle.ground_groups.proofs.defining.add_definitions.Goals as goal

pub returns : goal.returns
returns c = λ ob e.
    subst (λ (fs : List Symbolic). Appends c.add_each_definition.result c.args.grounding.now fs c.add_each_definition.new.grounding)
    (all_defined c.args.spec.now ob c.args.calls.now e _ _ (ap (map reading_of) c.as_slice.ensures ∙ c.in_ok-readings.ensures))
    c.add_each_definition.ensures
