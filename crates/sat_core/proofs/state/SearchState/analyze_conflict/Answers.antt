use Rattle.std.proofs.Common.{◌≡◌, true, sym, ◌∙◌, ap}
use Rattle.sat_core.specs.Trails.{has_decision, before_last}
use Rattle.sat_core.proofs.Ends.{chain_refutes, chain_exhausts}
use Rattle.sat_core.proofs.Backjumps.{backjump-from, before-same}
use Rattle.sat_core.proofs.state.SearchState.analyze_conflict.Goals as goal

pub returns-then-not-decides : goal.returns-then-not-decides
returns-then-not-decides c a before x =
    let d = c.in-Done.ensures in
    chain_refutes a c.args.budget before c.resolve_to_uip.new.self c.in-Done.reached (d.0 a before x).0 d.1 (sym c.decides.ensures ∙ c.if-not-decides.true)

pub backjump-requires : goal.backjump-requires
backjump-requires c = (c.in-Done.ensures.0 c.requires.aim c.requires.before c.requires.chain).0.ex.there

pub returns-else-not-decides : goal.returns-else-not-decides
returns-else-not-decides c a before x =
    let d = c.in-Done.ensures in
    let y = d.0 a before x in
    let s = c.args.self.now in
    let m = c.resolve_to_uip.new.self in
    let r = c.backjump.new.self in
    let h : has_decision m.trail ≡ true = sym c.decides.ensures ∙ c.if-not-decides.false in
    let z = c.backjump.ensures a c.args.budget before y.0 d.1 h in
    let same : before_last m.trail ≡ before_last s.trail = sym y.0.ex.same_before ∙ ap before_last y.2 ∙ x.ex.same_before in
    let decided : has_decision s.trail ≡ true = sym x.ex.same_has ∙ ap has_decision (sym y.2) ∙ y.0.ex.same_has ∙ h in
    (z.0, z.1, backjump-from y.0.start x.start m.trail s.trail r.grown.clauses r.trail y.1 (before-same r.trail m.trail s.trail same decided) z.2)

pub returns-in-BudgetExhausted : goal.returns-in-BudgetExhausted
returns-in-BudgetExhausted c a before x =
    let d = c.in-BudgetExhausted.ensures in
    chain_exhausts a c.args.budget before c.resolve_to_uip.new.self c.in-BudgetExhausted.field-0 (d.0 a before x).0 d.1 d.2
