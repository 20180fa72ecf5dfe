use Rattle.std.proofs.Common.{◌≡◌, take}
use Rattle.proof_report.specs.Events.{told}
use Rattle.lazy_ground.specs.Cache.{AreKept}
use Rattle.check_run.specs.Reports.{AreDecided}
use Rattle.check_run.proofs.counting.decide_from.Given as goal

abbrev pub invariant-loop-ob : goal.invariant-loop-ob
invariant-loop-ob l = AreDecided l.spec l.budget (take l.ob-index l.obligations) l.tally × (told l.tally ≡ l.ob-index) × AreKept l.spec l.cache
