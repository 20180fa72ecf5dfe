use Rattle.std.proofs.Common.{refl, sym, ◌∙◌}
use Rattle.implicants.proofs.Added.{added}
use Rattle.implicants.proofs.choosing.Chosen.add.Goals as goal

pub returns-then-is_marked : goal.returns-then-is_marked
returns-then-is_marked c = record {
  chosen = c.requires.chosen;
  kept = λ l h. h;
  there = c.requires.chosen.marked c.args.lit (sym c.is_marked.ensures ∙ c.if-is_marked.true);
}

pub returns : goal.returns
returns c = added c.args.trail.now c.args.lit c.args.self.now _ c.widen.new.signs.items c.requires.chosen c.requires.in_it c.in_ok-widen.ensures.kept c.in_ok-widen.ensures.wide c.in_ok-push.ensures.ok refl
