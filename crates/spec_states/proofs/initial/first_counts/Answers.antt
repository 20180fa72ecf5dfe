use Rattle.std.proofs.Common.{rules, ◌≡◌, ap, sym, subst, ◌∙◌, pos, w64, to_z, FitsSigned}
use Rattle.std.proofs.lemmas.Int.{to_z-of_z}
use Rattle.spec_states.specs.Starting.{CountsAs}
use Rattle.spec_states.proofs.States.{counts_none, counts_all}
use Rattle.spec_states.proofs.initial.first_counts.Goals as goal

pub returns-then-counter-eq0 : goal.returns-then-counter-eq0
returns-then-counter-eq0 c =
    let fits : FitsSigned w64 c.args.counter.now.initial = search rules in
    let zero : c.args.counter.now.initial ≡ pos 0 = sym (to_z-of_z w64 c.args.counter.now.initial fits) ∙ ap (to_z w64) c.if-counter-eq0.true in
    subst (CountsAs c.args.world.now c.args.counter.now) (sym c.new.ensures) (counts_none c.args.world.now c.args.counter.now zero)

pub returns-in_ok-counts : goal.returns-in_ok-counts
returns-in_ok-counts c =
    let all = c.as_slice-else-counter-eq0.ensures in
    counts_all c.args.world.now c.args.counter.now c.in_ok-counts.counts
    (λ q. search (rules, c.in_ok-counts.ensures.count q))
    (λ q. search (rules, c.in_ok-counts.ensures.listed q))
    c.in_ok-counts.ensures.counts
