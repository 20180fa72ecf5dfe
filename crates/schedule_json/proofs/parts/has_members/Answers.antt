use Rattle.std.proofs.Common.{rules}
use Rattle.serde_json.specs.View.{view}
use Rattle.schedule_json.proofs.Reading.{member_count-entries}
use Rattle.schedule_json.proofs.parts.has_members.Goals as goal

pub returns-in-Some : goal.returns-in-Some
returns-in-Some c = let h = member_count-entries (view c.args.value.now) _ c.in-Some.ensures in rw (h, c.len.ensures.len) (search rules)
