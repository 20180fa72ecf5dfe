use Rattle.std.proofs.Common.{List, ◌∙◌, subst}
use Rattle.ground_problem.specs.Symbols.{Symbolic}
use Rattle.ground_problem.specs.Formulas.{caller}
use Rattle.spec_core.specs.Specification.{op_of}
use Rattle.ground_groups.specs.Limited.{Appends}
use Rattle.ground_groups.specs.Calls.{constants_in}
use Rattle.ground_groups.specs.Lines.{lines_at}
use Rattle.ground_groups.proofs.Ends.{lines_at_entry}
use Rattle.ground_groups.proofs.entry.add_call_ready.Goals as goal

pub returns : goal.returns
returns c =
    let z = constants_in c.args.named.now in
    let ls = (op_of c.args.spec.now c.args.op).requires_ in
    let e = (λ i. lines_at z (c.at_entry-setting.ensures.readings i) (c.at_entry-setting.ensures.caller i) 0 (c.requires_of-lines.ensures i) (c.as_slice.ensures i))
    ∙ lines_at_entry z (caller z c.args.call) 0 ls c.args.owns.now in
    subst (λ (fs : List Symbolic). Appends c.add_lines.result c.args.grounding.now fs c.add_lines.new.grounding) e c.add_lines.ensures
