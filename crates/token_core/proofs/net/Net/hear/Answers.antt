use Rattle.std.proofs.Common.{◌<◌, length, arith, set, refl, ap, subst}
use Rattle.std.specs.Prelude.{slice_get}
use Rattle.token_protocol.specs.declared.network.NetStep.TheVariants as step
use Rattle.token_protocol.specs.Network.{Outcome, hears, hears_message}
use Rattle.token_core.specs.HeldNet.{HeldNet}
use Rattle.token_core.specs.Fields.{replica_at, replicas_in, network_in, held_in}
use Rattle.token_core.specs.Stepped.{IsStepped}
use Rattle.token_core.proofs.Fitting.{read_at, waiting_ok, sent_ok}
use Rattle.token_core.proofs.Stepping.{replica_there, replica_stepped, replica_kept}
use Rattle.token_core.proofs.net.Net.hear.Goals as goal

pub invariant_of-self : goal.invariant_of-self
invariant_of-self g c =
    let d = g.R.Runner.specification c.self.inside.runner in
    let w = g.R.Runner.setting c.self.inside.runner in
    let rs = c.self.inside.replicas.items in let gr = c.self.inside.manager in let log = c.self.inside.log in
    let at = c.index_mut-at.result.now in
    let lt : c.args.replica < length rs = omega (arith, c.if-replica-len.false, c.len.ensures, c.self.inside.replicas.ok.0) in
    let here = read_at rs c.args.replica at lt c.index_mut-at.ensures.value in
    let there = replica_there rs c.args.replica at here in
    let o : Outcome = hears_message d w (network_in rs gr log) c.args.replica (replica_at at) (slice_get log.messages.items c.args.message) in
    replica_kept d w c.self.inside.steps rs gr log c.self.invariant c.args.replica at c.hear_at.new.at c.hear_at.new.log (step.Hear c.args.replica c.args.message) o c.hear_at.result here
    (ap (hears d w (network_in rs gr log) c.args.replica (slice_get log.messages.items c.args.message)) there)
    (c.hear_at.ensures.answer (replicas_in rs) gr c.args.replica there) (c.hear_at.ensures.ok (replicas_in rs) gr c.args.replica there) c.hear_at.ensures.err c.hear_at.ensures.fits

pub returns : goal.returns
returns g c =
    let d = g.R.Runner.specification c.self.inside.runner in
    let w = g.R.Runner.setting c.self.inside.runner in
    let rs = c.self.inside.replicas.items in let gr = c.self.inside.manager in let log = c.self.inside.log in
    let at = c.index_mut-at.result.now in
    let lt : c.args.replica < length rs = omega (arith, c.if-replica-len.false, c.len.ensures, c.self.inside.replicas.ok.0) in
    let here = read_at rs c.args.replica at lt c.index_mut-at.ensures.value in
    let there = replica_there rs c.args.replica at here in
    let o : Outcome = hears_message d w (network_in rs gr log) c.args.replica (replica_at at) (slice_get log.messages.items c.args.message) in
    subst (λ (n : HeldNet). IsStepped n (held_in d w c.self.inside.steps (set rs c.args.replica c.hear_at.new.at) gr c.hear_at.new.log) (step.Hear c.args.replica c.args.message) c.hear_at.result) c.self.view_is
    (replica_stepped d w c.self.inside.steps rs gr log c.self.invariant c.args.replica at c.hear_at.new.at c.hear_at.new.log (step.Hear c.args.replica c.args.message) o c.hear_at.result here
    (ap (hears d w (network_in rs gr log) c.args.replica (slice_get log.messages.items c.args.message)) there)
    (c.hear_at.ensures.answer (replicas_in rs) gr c.args.replica there) (c.hear_at.ensures.ok (replicas_in rs) gr c.args.replica there) c.hear_at.ensures.err c.hear_at.ensures.fits)

pub hear_at-requires-clause-waiting : goal.hear_at-requires-clause-waiting
hear_at-requires-clause-waiting g c =
    let d = g.R.Runner.specification c.self.inside.runner in
    let w = g.R.Runner.setting c.self.inside.runner in
    let rs = c.self.inside.replicas.items in let gr = c.self.inside.manager in let log = c.self.inside.log in
    let at = c.index_mut-at.result.now in
    let lt : c.args.replica < length rs = omega (arith, c.if-replica-len.false, c.len.ensures, c.self.inside.replicas.ok.0) in
    waiting_ok d w (network_in rs gr log) c.self.invariant.kept c.args.replica (replica_at at) at.node.waiting (replica_there rs c.args.replica at (read_at rs c.args.replica at lt c.index_mut-at.ensures.value)) refl

pub hear_at-requires-clause-message : goal.hear_at-requires-clause-message
hear_at-requires-clause-message g c =
    let d = g.R.Runner.specification c.self.inside.runner in
    let w = g.R.Runner.setting c.self.inside.runner in
    let rs = c.self.inside.replicas.items in let gr = c.self.inside.manager in let log = c.self.inside.log in
    sent_ok d w (network_in rs gr log) c.self.invariant.kept c.args.message

pub hear_at-requires-clause-fits : goal.hear_at-requires-clause-fits
hear_at-requires-clause-fits g c =
    let rs = c.self.inside.replicas.items in
    let at = c.index_mut-at.result.now in
    let lt : c.args.replica < length rs = omega (arith, c.if-replica-len.false, c.len.ensures, c.self.inside.replicas.ok.0) in
    c.self.invariant.fit c.args.replica at (read_at rs c.args.replica at lt c.index_mut-at.ensures.value)
