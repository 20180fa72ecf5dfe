use Rattle.std.proofs.Common.{arith}
use Rattle.schedule_json.proofs.Reading.{behind_first_of}
use Rattle.schedule_json.proofs.parts.+has_constants.Goals as goal

pub has_constants-requires : goal.has_constants-requires
has_constants-requires t c = (omega arith, behind_first_of (λ one. one.name) c.args.consts.now c.requires)
