use Rattle.std.proofs.Common.{length}
use Rattle.report_lines.proofs.words.+these.Given as goal

abbrev pub decreases-these : goal.decreases-these
decreases-these l = length l.keys.now
