use Rattle.std.proofs.Common.{◌≡◌, ◌<◌, ◌≤◌, Bool, true, false, List, [], length, get_or, sym, ◌∙◌, ap, subst, arith}
use Rattle.sat_core.specs.declared.trail.Entry.{Entry}
use Rattle.sat_core.specs.Trails.{open_in, before_last}
use Rattle.sat_core.specs.Searching.{with_trail}
use Rattle.sat_core.proofs.Resolving.{InCut, cut_begins, cut_more, cut_ends, before-shorter}
use Rattle.sat_core.proofs.state.SearchState.backjump.Goals as goal

pub cutting-init : goal.cutting-init
cutting-init c a budget before x d h =
    let s = c.args.self.now in
    subst (λ (z : List Entry). InCut a budget before x.start s.trail (with_trail s z) c.args.reached) (sym c.cut.ensures) (cut_begins a budget before s c.args.reached x d h)

pub cutting-smaller : goal.cutting-smaller
cutting-smaller c =
    let h = before-shorter c.cutting.self.1.1.0 (sym c.cutting-test.ensures) in
    subst (λ (z : List Entry). length z < length c.cutting.self.1.1.0) (sym c.cut-in-cutting.ensures) h

pub cutting-preserved : goal.cutting-preserved
cutting-preserved c a budget before x d h =
    let s = c.args.self.now in
    subst (λ (z : List Entry). InCut a budget before x.start s.trail (with_trail s z) c.args.reached) (sym c.cut-in-cutting.ensures)
    (cut_more a budget before x.start s.trail (with_trail s c.cutting.self.1.1.0) c.args.reached (c.cutting.invariant a budget before x d h) (sym c.cutting-test.ensures))

pub returns-else-count_open_before-le1 : goal.returns-else-count_open_before-le1
returns-else-count_open_before-le1 c a budget before x d h =
    let s = c.args.self.now in
    let t = c.cutting.self.1.1.0 in
    let o : c.count_open_before.result ≡ open_in (before_last t) (get_or s.grown.clauses c.args.reached []) = c.count_open_before.ensures ∙ ap (open_in (before_last t)) c.lits_of-lits.ensures.lits in
    let two : 2 ≤ open_in (before_last t) (get_or s.grown.clauses c.args.reached []) = omega arith in
    cut_ends a budget before x.start s.trail (with_trail s c.cutting.self.1.1.0) c.args.reached (c.cutting.invariant a budget before x d h) (λ k. two)

both_ways : {b : Bool} → false ≡ b → b ≡ true → ⊥
both_ways h k = absurd cc

pub returns-after-cutting : goal.returns-after-cutting
returns-after-cutting c a budget before x d h =
    cut_ends a budget before x.start c.args.self.now.trail (with_trail c.args.self.now c.cutting.self.1.1.0) c.args.reached (c.cutting.invariant a budget before x d h) (λ k. absurd (both_ways c.cutting-test.ensures k))
