use Rattle.conflict_variants.specs.Bare.{bare}
use Rattle.suggest.proofs.First.{no_logs}
use Rattle.suggest.proofs.finding.find_bare.Goals as goal

pub find_pair-requires-clause-free : goal.find_pair-requires-clause-free
find_pair-requires-clause-free c = no_logs (bare c.args.spec.now) c.args.budget
