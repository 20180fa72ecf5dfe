use Rattle.std.proofs.Common.{sym, ◌∙◌, ap}
use Rattle.spec_core.specs.Fits.{fits_places}
use Rattle.obligation_list.specs.Breaking.{elements_of}
use Rattle.obligation_list.proofs.Refuted.{parts}
use Rattle.obligation_list.proofs.breaking.refutes.Goals as goal

pub refutes_in-requires-clause-elements : goal.refutes_in-requires-clause-elements
refutes_in-requires-clause-elements c =
    let w = c.args.w.now in let d = c.args.spec.now in let ob = c.args.ob.now in
    ap (fits_places w.world (elements_of d ob)) c.as_slice-then-parts_fit.ensures
    ∙ (parts d ob w.world w.state w.elements (sym c.parts_fit.ensures ∙ c.if-parts_fit.true)).elements
