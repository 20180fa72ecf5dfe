use Rattle.std.proofs.Common.{length}
use Rattle.schedule_json.proofs.parts.+has_constants.Given as goal

abbrev pub decreases-has_constants : goal.decreases-has_constants
decreases-has_constants l = length l.consts.now
