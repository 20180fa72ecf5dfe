-- What a step of a network, as a program holds it, is; this mirrors src/net.rt.
use Rattle.std.specs.Prelude.{◌≡◌, ◌<◌, ◌+◌, ◌⊎◌, Result, Err, OnOk, OnErr}
use Rattle.token_protocol.specs.declared.network.NetStep.{NetStep}
use Rattle.token_protocol.specs.declared.network.NetDid.{NetDid}
use Rattle.token_protocol.specs.declared.network.NetRefused.{NetRefused}
use Rattle.token_protocol.specs.declared.network.NetRefused.TheVariants as unable
use Rattle.token_protocol.specs.Network.{outcome, network_after, answer}
use Rattle.token_core.specs.HeldNet.{HeldNet, network_held}

-- The answer is the definition's, or want of memory. An accepted step leaves the network that the definition gives, of the same
-- specification in the same world, and a refused one changes nothing. The step isn't counted yet.
pub record IsStepped (old new : HeldNet) (step : NetStep)
    (result : Result NetDid NetRefused) : Type 0 where
  pub answer : (result ≡ Err unable.Memory)
      ⊎ (result ≡ answer (outcome old.spec old.world (network_held old) step))
  pub ok : OnOk result
      (network_held new ≡ network_after (network_held old)
      (outcome old.spec old.world (network_held old) step))
  pub spec : new.spec ≡ old.spec
  pub world : new.world ≡ old.world
  pub steps : new.steps ≡ old.steps
  pub err : OnErr result (new ≡ old)

-- The same of a step that is counted, where it is accepted. No more than 4,000,000,000 are.
pub record IsCounted (old new : HeldNet) (step : NetStep)
    (result : Result NetDid NetRefused) : Type 0 where
  pub answer : (result ≡ Err unable.Memory)
      ⊎ (result ≡ answer (outcome old.spec old.world (network_held old) step))
  pub ok : OnOk result
      (network_held new ≡ network_after (network_held old)
      (outcome old.spec old.world (network_held old) step))
  pub spec : new.spec ≡ old.spec
  pub world : new.world ≡ old.world
  pub steps : OnOk result ((old.steps < 4000000000) × (new.steps ≡ old.steps + 1))
  pub err : OnErr result (new ≡ old)
