use Rattle.std.proofs.Common.{◌≡◌, sym, ◌∙◌}
use Rattle.proof_lines.specs.Clauses.{has}
use Rattle.implicants.specs.Choosing.{is_marked}
use Rattle.implicants.proofs.Meeting.{met-more, covered-so, unmet}
use Rattle.implicants.proofs.choosing.Chosen.cover.Goals as goal

pub returns-then-meets : goal.returns-then-meets
returns-then-meets c =
    (c.requires, λ l h. h, met-more c.args.atoms.now c.args.values.now (is_marked c.args.self.now.signs.items) (has c.args.self.now.lits) c.requires.marked c.args.lits.now (sym c.meets.ensures ∙ c.if-meets.true))

pub returns-in_ok-add-in-Some : goal.returns-in_ok-add-in-Some
returns-in_ok-add-in-Some c = covered-so c.args.atoms.now c.args.values.now c.args.trail.now c.args.lits.now c.in-Some.lit c.args.self.now c.add.new.self c.in-Some.ensures.0 c.in-Some.ensures.1 c.in_ok-add-in-Some.ensures

pub returns-in-None : goal.returns-in-None
returns-in-None c = unmet c.args.atoms.now c.args.values.now (is_marked c.args.self.now.signs.items) c.args.trail.now c.args.lits.now (sym c.meets.ensures ∙ c.if-meets.false) c.in-None.ensures
