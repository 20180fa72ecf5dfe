use Rattle.std.proofs.Common.{◌∷◌, [], ◌≡◌, true, sym, ◌∙◌, subst}
use Rattle.unit_propagation.specs.declared.looking.Watched.{Watched}
use Rattle.unit_propagation.specs.Watches.{rests, IsKept}
use Rattle.unit_propagation.proofs.Following.{kept_always}
use Rattle.unit_propagation.proofs.watches.Watches.consider.Goals as goal

pub renew-requires-clause-kept : goal.renew-requires-clause-kept
renew-requires-clause-kept c =
    let w = c.args.self.now in
    let i = c.args.clause in
    kept_always c.args.lits.now c.args.trail.now _ (i ∷ []) w.lists.items i c.pair-watched.result
    (subst (λ (z : Watched). IsKept c.args.lits.now c.args.trail.now 0 [] w.lists.items i z) (sym c.pair-watched.ensures) c.requires.kept)

pub returns-then-rests-clause-look : goal.returns-then-rests-clause-look
returns-then-rests-clause-look c = subst (λ (z : Watched). rests c.args.trail.now z ≡ true) c.pair-watched.ensures (sym c.rests.ensures ∙ c.if-rests.true)
