use Rattle.std.proofs.Common.{◌≡◌, true, List, ℕ, ap, sym, ◌∙◌, [], subst}
use Rattle.unit_propagation.specs.declared.looking.Watched.{Watched}
use Rattle.unit_propagation.specs.Watches.{is_among, pair_at, is_quiet}
use Rattle.unit_propagation.proofs.Among.{pushed_among}
use Rattle.unit_propagation.proofs.Visiting.{watches_these, pair_pushed, rest_quietly, open_quietly, first_open}
use Rattle.unit_propagation.proofs.watches.Watches.attach.Goals as goal

pub returns-then-rests-clause-kept : goal.returns-then-rests-clause-kept
returns-then-rests-clause-kept c =
    let p = c.pair_of-pair.result in
    let i = c.args.clause in
    let e : pair_at c.push.new.self.items i ≡ p = ap (λ (z : List Watched). pair_at z i) c.in_ok-push.ensures.items ∙ pair_pushed c.args.self.now.pairs.items i p _ c.requires.new in
    watches_these c.args.lits.now c.args.trail.now c.enter_both.new.lists.items i p (pair_at c.push.new.self.items i) e c.pair_of-pair.ensures.first c.pair_of-pair.ensures.second c.in_ok-enter_both.ensures.first c.in_ok-enter_both.ensures.second c.pair_of-pair.ensures.steady

pub returns-then-rests-clause-quiet : goal.returns-then-rests-clause-quiet
returns-then-rests-clause-quiet c =
    let p = c.pair_of-pair.result in
    let i = c.args.clause in
    let t = c.args.trail.now in
    let e : pair_at c.push.new.self.items i ≡ p = ap (λ (z : List Watched). pair_at z i) c.in_ok-push.ensures.items ∙ pair_pushed c.args.self.now.pairs.items i p _ c.requires.new in
    subst (λ (z : Watched). is_quiet t [] c.args.self.now.units i z ≡ true) (sym e) (rest_quietly t c.args.self.now.units i p (sym c.rests.ensures ∙ c.if-rests.true))

pub returns-clause-kept : goal.returns-clause-kept
returns-clause-kept c =
    let p = c.pair_of-pair.result in
    let i = c.args.clause in
    let e : pair_at c.push.new.self.items i ≡ p = ap (λ (z : List Watched). pair_at z i) c.in_ok-push.ensures.items ∙ pair_pushed c.args.self.now.pairs.items i p _ c.requires.new in
    watches_these c.args.lits.now c.args.trail.now c.enter_both.new.lists.items i p (pair_at c.push.new.self.items i) e c.pair_of-pair.ensures.first c.pair_of-pair.ensures.second c.in_ok-enter_both.ensures.first c.in_ok-enter_both.ensures.second c.pair_of-pair.ensures.steady

pub returns-clause-quiet : goal.returns-clause-quiet
returns-clause-quiet c =
    let p = c.pair_of-pair.result in
    let i = c.args.clause in
    let t = c.args.trail.now in
    let e : pair_at c.push.new.self.items i ≡ p = ap (λ (z : List Watched). pair_at z i) c.in_ok-push.ensures.items ∙ pair_pushed c.args.self.now.pairs.items i p _ c.requires.new in
    let a : is_among i c.push-2.new.self ≡ true = subst (λ (z : List ℕ). is_among i z ≡ true) (sym c.in_ok-push-2.ensures.ok) (pushed_among c.args.self.now.units i) in
    subst (λ (z : Watched). is_quiet t [] c.push-2.new.self i z ≡ true) (sym e) (open_quietly t c.push-2.new.self i p (first_open t p c.pair_of-pair.ensures.open) a)
