use Rattle.std.proofs.Common.{◌≡◌, true, [], replicate}
use Rattle.std.specs.Prelude.{All}
use Rattle.spec_core.specs.State.{reads}
use Rattle.spec_core.specs.Meaning.{initial}
use Rattle.spec_core.specs.Fits.{is_state}
use Rattle.replica_replay.specs.Holding.{orders_of}
use Rattle.replica_replay.proofs.keeping.first_replicas.Given as goal

-- the replicas so far are in the initial state, and have taken nothing
abbrev pub invariant-loop-i : goal.invariant-loop-i
invariant-loop-i g l =
    let d = g.R.Runner.specification l.runner in let w = g.R.Runner.setting l.runner in
    (orders_of l.replicas.items ≡ replicate l._i [])
    × All (λ replica. (is_state d w replica.state ≡ true) × (reads replica.state ≡ reads (initial d w))) l.replicas.items
