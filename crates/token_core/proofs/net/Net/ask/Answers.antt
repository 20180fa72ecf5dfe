use Rattle.std.proofs.Common.{refl, subst}
use Rattle.std.specs.Prelude.{slice_get}
use Rattle.token_protocol.specs.declared.network.NetStep.TheVariants as step
use Rattle.token_protocol.specs.Network.{Outcome, asks}
use Rattle.token_core.specs.HeldNet.{HeldNet}
use Rattle.token_core.specs.Fields.{replicas_in, network_in, held_in}
use Rattle.token_core.specs.Stepped.{IsStepped}
use Rattle.token_core.proofs.Stepping.{manager_stepped, manager_kept}
use Rattle.token_core.proofs.net.Net.ask.Goals as goal

pub invariant_of-self : goal.invariant_of-self
invariant_of-self g c =
    let d = g.R.Runner.specification c.self.inside.runner in
    let w = g.R.Runner.setting c.self.inside.runner in
    let rs = c.self.inside.replicas.items in let gr = c.self.inside.manager in let log = c.self.inside.log in
    let o : Outcome = asks d w (network_in rs gr log) (slice_get log.requests.items c.args.request) in
    manager_kept d w c.self.inside.steps rs gr log c.self.invariant c.ask_at.new.manager c.ask_at.new.log (step.Ask c.args.request) o c.ask_at.result refl
    (c.ask_at.ensures.answer (replicas_in rs)) (c.ask_at.ensures.ok (replicas_in rs)) c.ask_at.ensures.err

pub returns : goal.returns
returns g c =
    let d = g.R.Runner.specification c.self.inside.runner in
    let w = g.R.Runner.setting c.self.inside.runner in
    let rs = c.self.inside.replicas.items in let gr = c.self.inside.manager in let log = c.self.inside.log in
    let o : Outcome = asks d w (network_in rs gr log) (slice_get log.requests.items c.args.request) in
    subst (λ (n : HeldNet). IsStepped n (held_in d w c.self.inside.steps rs c.ask_at.new.manager c.ask_at.new.log) (step.Ask c.args.request) c.ask_at.result) c.self.view_is
    (manager_stepped d w c.self.inside.steps rs gr log c.self.invariant c.ask_at.new.manager c.ask_at.new.log (step.Ask c.args.request) o c.ask_at.result refl
    (c.ask_at.ensures.answer (replicas_in rs)) (c.ask_at.ensures.ok (replicas_in rs)) c.ask_at.ensures.err)

pub ask_at-requires : goal.ask_at-requires
ask_at-requires g c = λ i grant here. (c.self.invariant.kept.grants i grant here).named
