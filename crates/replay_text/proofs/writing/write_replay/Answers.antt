use Rattle.std.proofs.Common.{◌≡◌, length, sym, ap, ◌∙◌, subst, ◌++◌}
use Rattle.spec_core.specs.declared.world.World.{World}
use Rattle.replica_replay.specs.Held.{Held}
use Rattle.replay_text.specs.Course.{course}
use Rattle.replay_text.specs.Text.{replica_texts}
use Rattle.replay_text.proofs.Going.{replica_count, whole_text}
use Rattle.replay_text.proofs.writing.write_replay.Goals as goal

pub push_replicas-requires-clause-count : goal.push_replicas-requires-clause-count
push_replicas-requires-clause-count g c =
    ap (λ (h : Held). length h.taken) (sym c.in_ok-stopped.ensures.reached.held_is)
    ∙ replica_count c.args.spec.now c.args.replay.now.world c.args.replicas c.args.steps.now

pub returns-clause-text : goal.returns-clause-text
returns-clause-text g c =
    let d = c.args.spec.now in let w = c.args.replay.now.world in let ss = c.args.steps.now in let after = c.write_course.new.replay in
    whole_text d w ss (course d w c.args.replicas ss) c.args.text.now.items c.push.new.text.items c.write_course.new.text.items c.push_stop.new.text.items c.push_replicas.new.text.items
    c.in_ok-stopped.stopped.accepted c.in_ok-stopped.stopped.stop after.held c.in_ok-push.ensures c.in_ok-stopped.ensures.reached c.in_ok-push_stop.ensures
    (subst (λ (v : World). c.push_replicas.new.text.items ≡ c.push_stop.new.text.items ++ replica_texts d v after.held 0 after.held.taken) c.in_ok-stopped.ensures.setting.world c.in_ok-push_replicas.ensures)
