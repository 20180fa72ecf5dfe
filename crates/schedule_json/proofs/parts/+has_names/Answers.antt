use Rattle.std.proofs.Common.{arith}
use Rattle.std.specs.Str.{is_utf8}
use Rattle.schedule_json.proofs.Reading.{behind_first}
use Rattle.schedule_json.proofs.parts.+has_names.Goals as goal

pub has_names-requires : goal.has_names-requires
has_names-requires t c = (omega arith, behind_first is_utf8 c.args.names.now c.requires)
