use Rattle.token_protocol.specs.Network.{network_of}
use Rattle.token_protocol.proofs.Executing.{network_kept, kept_executed, kept_granted}
use Rattle.token_protocol.proofs.law.law_networks_are_executions.Goals as goal

pub returns-clause-executed : goal.returns-clause-executed
returns-clause-executed c = λ d w n steps. kept_executed d w (network_of d w n steps) (network_kept d w n steps)

pub returns-clause-granted : goal.returns-clause-granted
returns-clause-granted c = λ d w n steps. kept_granted d w (network_of d w n steps) (network_kept d w n steps)
