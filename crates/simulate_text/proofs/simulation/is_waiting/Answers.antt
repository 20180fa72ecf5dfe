use Rattle.std.proofs.Common.{◌<◌, ◌≤◌, length, arith, sym, ◌∙◌}
use Rattle.std.proofs.lemmas.Bool.{le-ltb}
use Rattle.simulate_text.proofs.Carrying.{waiting_here, none_waits}
use Rattle.simulate_text.proofs.simulation.is_waiting.Goals as goal

pub returns-then-replica-replica_count : goal.returns-then-replica-replica_count
returns-then-replica-replica_count g c =
    let net = c.args.net.now in
    let lt : c.args.replica < length net.replicas = omega (arith, c.if-replica-replica_count.true, c.replica_count.ensures) in
    waiting_here net c.args.replica c.is_waiting.result lt c.is_waiting.ensures

pub returns-else-replica-replica_count : goal.returns-else-replica-replica_count
returns-else-replica-replica_count g c =
    let net = c.args.net.now in
    let le : length net.replicas ≤ c.args.replica = omega (arith, c.if-replica-replica_count.false, c.replica_count.ensures) in
    le-ltb c.args.replica c.replica_count.result c.if-replica-replica_count.false ∙ sym (none_waits net c.args.replica le)
