use Rattle.std.proofs.Common.{◌≡◌, ap, sym, ◌∙◌, List, subst}
use Rattle.unit_propagation.specs.declared.looking.Watched.{Watched}
use Rattle.unit_propagation.specs.Watches.{pair_at, IsLook}
use Rattle.unit_propagation.proofs.Visiting.{was_listed, watches_these, pair_set}
use Rattle.unit_propagation.proofs.watches.Watches.renew.Goals as goal

pub change-requires-clause-first : goal.change-requires-clause-first
change-requires-clause-first c = was_listed c.args.self.now.lists.items c.args.from c.args.clause c.args.watched.first c.requires.kept.first_listed

pub change-requires-clause-second : goal.change-requires-clause-second
change-requires-clause-second c = was_listed c.args.self.now.lists.items c.args.from c.args.clause c.args.watched.second c.requires.kept.second_listed

pub returns-clause-kept : goal.returns-clause-kept
returns-clause-kept c =
    let p = c.look_at-looked.result.pair in
    let u = c.change.new.self in
    let e : pair_at u.pairs.items c.args.clause ≡ p = ap (λ (z : List Watched). pair_at z c.args.clause) c.in_ok-change.ensures.pairs ∙ pair_set c.args.self.now.pairs.items c.args.clause p _ c.requires.there in
    let l = c.look_at-looked.ensures in
    watches_these c.args.lits.now c.args.trail.now u.lists.items c.args.clause p (pair_at u.pairs.items c.args.clause) e l.first l.second c.in_ok-change.ensures.first c.in_ok-change.ensures.second (l.steady c.requires.kept.steady)

pub returns-clause-look : goal.returns-clause-look
returns-clause-look c =
    let p = c.look_at-looked.result.pair in
    let u = c.change.new.self in
    let e : pair_at u.pairs.items c.args.clause ≡ p = ap (λ (z : List Watched). pair_at z c.args.clause) c.in_ok-change.ensures.pairs ∙ pair_set c.args.self.now.pairs.items c.args.clause p _ c.requires.there in
    subst (λ (z : Watched). IsLook c.look_at-looked.result.look c.args.lits.now c.args.trail.now z) (sym e) c.look_at-looked.ensures.look
