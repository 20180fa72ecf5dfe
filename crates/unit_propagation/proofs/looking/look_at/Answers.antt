use Rattle.unit_propagation.proofs.Visiting.{either-has, either-restless, either-steady}
use Rattle.unit_propagation.proofs.looking.look_at.Goals as goal

pub look_past-requires-clause-first : goal.look_past-requires-clause-first
look_past-requires-clause-first c = (either-has c.args.lits.now c.facing.result c.args.watched c.facing.ensures c.requires.first c.requires.second).0

pub look_past-requires-clause-second : goal.look_past-requires-clause-second
look_past-requires-clause-second c = (either-has c.args.lits.now c.facing.result c.args.watched c.facing.ensures c.requires.first c.requires.second).1

pub look_past-requires-clause-first_not_true : goal.look_past-requires-clause-first_not_true
look_past-requires-clause-first_not_true c = (either-restless c.args.trail.now c.facing.result c.args.watched c.facing.ensures c.requires.restless).0

pub look_past-requires-clause-second_not_true : goal.look_past-requires-clause-second_not_true
look_past-requires-clause-second_not_true c = (either-restless c.args.trail.now c.facing.result c.args.watched c.facing.ensures c.requires.restless).1

pub returns-clause-steady : goal.returns-clause-steady
returns-clause-steady c s = c.look_past.ensures.steady (either-steady c.args.trail.now c.facing.result c.args.watched c.facing.ensures s)
