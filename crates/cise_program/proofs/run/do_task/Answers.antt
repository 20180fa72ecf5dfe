use Rattle.byte_ports.proofs.Sources.{some_told}
use Rattle.spec_trees.specs.Form.{tree_of}
use Rattle.cise_program.specs.declared.words.Task.TheVariants.{Check, Upgrade, Suggest, Spell}
use Rattle.cise_program.proofs.Endings.{Ends-task}
use Rattle.std.proofs.Common.{sym, subst}
use Rattle.byte_ports.specs.Told.{IsReadWithin}
use Rattle.cise_program.specs.declared.words.Task.{Task}
use Rattle.cise_program.specs.Words.{most_extra_bytes}
use Rattle.cise_program.proofs.run.do_task.Goals as goal

pub returns-in-Check-clause-ends : goal.returns-in-Check-clause-ends
returns-in-Check-clause-ends g c =
    let given = some_told (g.E.Source.left c.args.extra.now) in
    (given.0, given.1, Ends-task c.args.task (Check c.in-Check.budget) (tree_of c.args.tree.now) c.args.spec.now given.0 c.check.result _ _ c.in-Check.is c.check.ensures.ends)

pub returns-in-Spell-clause-ends : goal.returns-in-Spell-clause-ends
returns-in-Spell-clause-ends g c =
    let given = some_told (g.E.Source.left c.args.extra.now) in
    (given.0, given.1, Ends-task c.args.task Spell (tree_of c.args.tree.now) c.args.spec.now given.0 c.spell_tree.result _ _ c.in-Spell.is c.spell_tree.ensures.ends)

pub returns-in-Upgrade-clause-ends : goal.returns-in-Upgrade-clause-ends
returns-in-Upgrade-clause-ends g c =
    let e = c.upgrade.ensures.ends in
    (e.0, e.1, Ends-task c.args.task Upgrade (tree_of c.args.tree.now) c.args.spec.now e.0 c.upgrade.result _ _ c.in-Upgrade.is e.2)

pub returns-in-Suggest-clause-ends : goal.returns-in-Suggest-clause-ends
returns-in-Suggest-clause-ends g c =
    let given = some_told (g.E.Source.left c.args.extra.now) in
    (given.0, given.1, Ends-task c.args.task Suggest (tree_of c.args.tree.now) c.args.spec.now given.0 c.suggest_pairs.result _ _ c.in-Suggest.is c.suggest_pairs.ensures.ends)

pub returns-in-Verify-clause-end : goal.returns-in-Verify-clause-end
returns-in-Verify-clause-end g c = λ below takes.
    subst (λ (task : Task). IsReadWithin (most_extra_bytes task) (g.E.Source.left c.args.extra.now) (g.E.Source.left c.verify.new.extra)) (sym c.in-Verify.is) (c.verify.ensures.end below)

pub returns-in-Upgrade-clause-end : goal.returns-in-Upgrade-clause-end
returns-in-Upgrade-clause-end g c = λ below takes.
    subst (λ (task : Task). IsReadWithin (most_extra_bytes task) (g.E.Source.left c.args.extra.now) (g.E.Source.left c.upgrade.new.extra)) (sym c.in-Upgrade.is) (c.upgrade.ensures.end below)

pub returns-in-Replay-clause-end : goal.returns-in-Replay-clause-end
returns-in-Replay-clause-end g c = λ below takes.
    subst (λ (task : Task). IsReadWithin (most_extra_bytes task) (g.E.Source.left c.args.extra.now) (g.E.Source.left c.replay_schedule.new.extra)) (sym c.in-Replay.is) (c.replay_schedule.ensures.end below)

pub returns-in-Simulate-clause-end : goal.returns-in-Simulate-clause-end
returns-in-Simulate-clause-end g c = λ below takes.
    subst (λ (task : Task). IsReadWithin (most_extra_bytes task) (g.E.Source.left c.args.extra.now) (g.E.Source.left c.simulate_schedule.new.extra)) (sym c.in-Simulate.is) (c.simulate_schedule.ensures.end below)
