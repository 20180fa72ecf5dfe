use Rattle.std.proofs.Common.{refl, ◌∙◌}
use Rattle.sat_core.proofs.state.SearchState.resolve_to_uip.Goals as goal

pub lits_of-requires : goal.lits_of-requires
lits_of-requires c = (c.chain.invariant c.requires.aim c.requires.before c.requires.chain).0.ex.there

pub chain-init : goal.chain-init
chain-init c a before x = (x, refl, refl)

pub step_back-requires-clause-chain : goal.step_back-requires-clause-chain
step_back-requires-clause-chain c = record { aim = c.requires.aim; before = c.requires.before; chain = (c.chain.invariant c.requires.aim c.requires.before c.requires.chain).0 }

pub chain-preserved : goal.chain-preserved
chain-preserved c a before x =
    let y = c.chain.invariant a before x in
    let z = c.in-Ok.ensures.0 a before y.0 in
    (z.0, z.1 ∙ y.1, z.2 ∙ y.2)
