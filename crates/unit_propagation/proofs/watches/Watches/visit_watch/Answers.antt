use Rattle.std.proofs.Common.{List, ℕ, ◌∷◌, [], ◌≡◌, true, refl, sym, ◌∙◌, subst}
use Rattle.unit_propagation.specs.declared.looking.Watched.{Watched}
use Rattle.unit_propagation.specs.Watches.{is_among, code, pair_at, rests, IsKept}
use Rattle.unit_propagation.proofs.Among.{pushed_among}
use Rattle.unit_propagation.proofs.Visiting.{goes_on, rest_quietly, open_quietly}
use Rattle.unit_propagation.proofs.Following.{look-false, look-unit, look-rest}
use Rattle.unit_propagation.proofs.watches.Watches.visit_watch.Goals as goal

pub renew-requires-clause-kept : goal.renew-requires-clause-kept
renew-requires-clause-kept c =
    let w = c.args.self.now in
    let i = c.args.clause in
    subst (λ (f : ℕ). IsKept c.args.lits.now c.args.trail.now f (i ∷ []) w.lists.items i c.pair-watched.result) (sym c.code.ensures)
    (subst (λ (z : Watched). IsKept c.args.lits.now c.args.trail.now (code c.args.gone) (i ∷ []) w.lists.items i z) (sym c.pair-watched.ensures) c.requires.kept)

pub returns-then-rests-clause-kept : goal.returns-then-rests-clause-kept
returns-then-rests-clause-kept c =
    let w = c.args.self.now in
    let i = c.args.clause in
    goes_on c.args.lits.now c.args.trail.now (code c.args.gone) w.lists.items c.enter.new.lists.items i (pair_at w.pairs.items i) c.requires.kept c.in_ok-enter.ensures.kept c.in_ok-enter.ensures.there

pub returns-then-rests-clause-looked : goal.returns-then-rests-clause-looked
returns-then-rests-clause-looked c =
    let w = c.args.self.now in
    let i = c.args.clause in
    rest_quietly c.args.trail.now w.units i (pair_at w.pairs.items i) (subst (λ (z : Watched). rests c.args.trail.now z ≡ true) c.pair-watched.ensures (sym c.rests.ensures ∙ c.if-rests.true))

pub returns-in-False-clause-looked : goal.returns-in-False-clause-looked
returns-in-False-clause-looked c =
    let u = c.renew.new.self in
    look-false _ c.args.lits.now c.args.lits.now c.args.trail.now (pair_at u.pairs.items c.args.clause) c.in_ok-renew.ensures.look c.in-False.is refl

pub returns-in_ok-push-in-Unit-clause-looked : goal.returns-in_ok-push-in-Unit-clause-looked
returns-in_ok-push-in-Unit-clause-looked c =
    let u = c.renew.new.self in
    let i = c.args.clause in
    let o = look-unit _ c.in-Unit.field-0 c.args.lits.now c.args.lits.now c.args.trail.now (pair_at u.pairs.items i) c.in_ok-renew.ensures.look c.in-Unit.is refl in
    open_quietly c.args.trail.now c.push.new.self i (pair_at u.pairs.items i) o.1 (subst (λ (z : List ℕ). is_among i z ≡ true) (sym c.in_ok-push-in-Unit.ensures.ok) (pushed_among u.units i))

pub returns-in-Open-clause-looked : goal.returns-in-Open-clause-looked
returns-in-Open-clause-looked c =
    let u = c.renew.new.self in
    rest_quietly c.args.trail.now u.units c.args.clause (pair_at u.pairs.items c.args.clause)
    (look-rest _ c.args.lits.now c.args.trail.now (pair_at u.pairs.items c.args.clause) c.in_ok-renew.ensures.look c.in-Open.is)
