use Rattle.std.proofs.Common.{length}
use Rattle.proof_report.proofs.writing.+write_consts.Given as goal

abbrev pub decreases-write_consts : goal.decreases-write_consts
decreases-write_consts l = length l.consts.now
