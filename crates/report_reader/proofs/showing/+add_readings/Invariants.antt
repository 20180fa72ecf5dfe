use Rattle.std.proofs.Common.{length}
use Rattle.report_reader.proofs.showing.+add_readings.Given as goal

abbrev pub decreases-add_readings : goal.decreases-add_readings
decreases-add_readings l = length l.readings.now
