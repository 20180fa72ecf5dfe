use Rattle.std.proofs.Common.{subst}
use Rattle.token_protocol.specs.Executed.{IsExecuted, IsGranted}
use Rattle.token_protocol.proofs.Executing.{kept_executed, kept_granted}
use Rattle.token_core.specs.HeldNet.{HeldNet, network_held}
use Rattle.token_core.specs.Fields.{network_in}
use Rattle.token_core.proofs.net.Net.is_executed.Goals as goal

pub returns-clause-executed : goal.returns-clause-executed
returns-clause-executed g c =
    subst (λ (n : HeldNet). IsExecuted n.spec n.world (network_held n)) c.self.view_is
    (kept_executed (g.R.Runner.specification c.self.inside.runner) (g.R.Runner.setting c.self.inside.runner) (network_in c.self.inside.replicas.items c.self.inside.manager c.self.inside.log) c.self.invariant.kept)

pub returns-clause-granted : goal.returns-clause-granted
returns-clause-granted g c =
    subst (λ (n : HeldNet). IsGranted n.spec n.world (network_held n)) c.self.view_is
    (kept_granted (g.R.Runner.specification c.self.inside.runner) (g.R.Runner.setting c.self.inside.runner) (network_in c.self.inside.replicas.items c.self.inside.manager c.self.inside.log) c.self.invariant.kept)
