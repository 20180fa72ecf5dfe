use Rattle.schedule_json.proofs.Reading.{no_utf8}
use Rattle.schedule_json.proofs.parts.member.Goals as goal

pub returns-in-Err : goal.returns-in-Err
returns-in-Err c = absurd (no_utf8 c.args.key.now c.requires c.in-Err.ensures.cases.0)
