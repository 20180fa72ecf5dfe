use Rattle.std.proofs.Common.{length}
use Rattle.proof_report.proofs.writing.+write_sizes.Given as goal

abbrev pub decreases-write_sizes : goal.decreases-write_sizes
decreases-write_sizes l = length l.sizes.now
