use Rattle.std.proofs.Common.{sym}
use Rattle.replay_text.proofs.Asked.{first_hold}
use Rattle.replay_text.proofs.Going.{broken_at_start}
use Rattle.replay_text.proofs.writing.write_course.Goals as goal

pub returns-in-Some-clause-reached : goal.returns-in-Some-clause-reached
returns-in-Some-clause-reached g c =
    broken_at_start c.args.spec.now c.args.replay.now.world c.args.replicas c.args.steps.now c.args.text.now.items c.args.replay.now.held c.in-Some.place c.requires.held c.in-Some.ensures

pub write_steps-requires-clause-holds : goal.write_steps-requires-clause-holds
write_steps-requires-clause-holds g c =
    first_hold c.args.spec.now c.args.replay.now.world c.args.replay.now.held c.args.replicas c.requires.held (sym c.in-None.ensures)
