use Rattle.std.proofs.Common.{List, length, refl, sym, ◌∙◌, ap, subst}
use Rattle.sat_core.specs.declared.trail.Entry.{Entry}
use Rattle.unit_propagation.specs.Watches.{code, list_at, AreWatched}
use Rattle.unit_propagation.proofs.Following.{pushed_watched}
use Rattle.unit_propagation.proofs.propagation.Propagation.push.Goals as goal

pub follow-requires-clause-watched : goal.follow-requires-clause-watched
follow-requires-clause-watched c =
    let cs = c.args.problem.now.clauses in
    let t = c.args.trail.now in
    let w = c.args.self.now.watches in
    let gone = c.opposite-gone.result in
    let left = c.exchange.new.other in
    subst (λ (z : List Entry). AreWatched (length cs) cs z (code gone) left (record { pairs = w.pairs; lists = c.exchange.new.lists; units = w.units })) (sym c.in_ok-push.ensures.ok)
    (pushed_watched cs t c.args.entry gone left w (record { pairs = w.pairs; lists = c.exchange.new.lists; units = w.units }) c.requires.watched refl refl c.opposite-gone.ensures
    (c.exchange.ensures.other ∙ ap (list_at w.lists.items) c.code.ensures) (λ k d. c.exchange.ensures.kept k (λ e. d (e ∙ c.code.ensures))))
