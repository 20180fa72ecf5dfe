use Rattle.stage_defs.proofs.having.+updated_upto.Given as goal

abbrev pub decreases-updated_upto : goal.decreases-updated_upto
decreases-updated_upto l = l.count
