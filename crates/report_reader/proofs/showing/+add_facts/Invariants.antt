use Rattle.std.proofs.Common.{length}
use Rattle.report_reader.proofs.showing.+add_facts.Given as goal

abbrev pub decreases-add_facts : goal.decreases-add_facts
decreases-add_facts l = length l.facts.now
