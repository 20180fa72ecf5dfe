use Rattle.std.proofs.Common.{rules, arith}
use Rattle.byte_ports.proofs.Sources.{said_from}
use Rattle.schedule_json.specs.Texts.{most_schedule_bytes, long_text}
use Rattle.cise_program.specs.commands.Replay.{IsReplayed}
use Rattle.cise_program.proofs.Replays.{long_replayed, low_replayed}
use Rattle.cise_program.proofs.commands.replay.replay_schedule.Goals as goal

pub write_answer_from-requires-clause-low : goal.write_answer_from-requires-clause-low
write_answer_from-requires-clause-low g c = λ bytes answer within gives.
    let is : IsReplayed c.args.spec.now bytes answer.status answer.text.items = search rules in
    let low = low_replayed c.args.spec.now bytes answer.status answer.text.items is in omega (arith, low)

pub returns-clause-ends : goal.returns-clause-ends
returns-clause-ends g c =
    let d = c.args.spec.now in
    said_from (g.E.Source.left c.args.extra.now) most_schedule_bytes long_text _ (IsReplayed d) c.write_answer_from.result _ _ c.write_answer_from.ensures.ends
    (λ bytes answer within gives. search rules) (long_replayed d)

pub returns-clause-end : goal.returns-clause-end
returns-clause-end g c = c.write_answer_from.ensures.end
