use Rattle.std.proofs.Common.{◌<◌, length, arith, set, ap, subst}
use Rattle.token_protocol.specs.declared.network.NetStep.TheVariants as step
use Rattle.token_protocol.specs.Node.{begin}
use Rattle.token_protocol.specs.Network.{Outcome, begins, begin_at}
use Rattle.token_core.specs.HeldNet.{HeldNet}
use Rattle.token_core.specs.Fields.{replica_at, replicas_in, network_in, held_in}
use Rattle.token_core.specs.Stepped.{IsStepped}
use Rattle.token_core.proofs.Fitting.{read_at}
use Rattle.token_core.proofs.Stepping.{replica_there, replica_stepped, replica_kept}
use Rattle.token_core.proofs.net.Net.begin.Goals as goal

pub invariant_of-self : goal.invariant_of-self
invariant_of-self g c =
    let d = g.R.Runner.specification c.self.inside.runner in
    let w = g.R.Runner.setting c.self.inside.runner in
    let rs = c.self.inside.replicas.items in let gr = c.self.inside.manager in let log = c.self.inside.log in
    let at = c.index_mut-at.result.now in
    let lt : c.args.replica < length rs = omega (arith, c.if-replica-len.false, c.len.ensures, c.self.inside.replicas.ok.0) in
    let here = read_at rs c.args.replica at lt c.index_mut-at.ensures.value in
    let there = replica_there rs c.args.replica at here in
    let o : Outcome = begin_at (network_in rs gr log) c.args.replica (replica_at at) (begin d w (replica_at at).node c.args.call.now) in
    replica_kept d w c.self.inside.steps rs gr log c.self.invariant c.args.replica at c.begin_at.new.at c.begin_at.new.log (step.Begin c.args.replica c.args.call.now) o c.begin_at.result here
    (ap (begins d w (network_in rs gr log) c.args.replica c.args.call.now) there)
    (c.begin_at.ensures.answer (replicas_in rs) gr c.args.replica) (c.begin_at.ensures.ok (replicas_in rs) gr c.args.replica there) c.begin_at.ensures.err c.begin_at.ensures.fits

pub returns : goal.returns
returns g c =
    let d = g.R.Runner.specification c.self.inside.runner in
    let w = g.R.Runner.setting c.self.inside.runner in
    let rs = c.self.inside.replicas.items in let gr = c.self.inside.manager in let log = c.self.inside.log in
    let at = c.index_mut-at.result.now in
    let lt : c.args.replica < length rs = omega (arith, c.if-replica-len.false, c.len.ensures, c.self.inside.replicas.ok.0) in
    let here = read_at rs c.args.replica at lt c.index_mut-at.ensures.value in
    let there = replica_there rs c.args.replica at here in
    let o : Outcome = begin_at (network_in rs gr log) c.args.replica (replica_at at) (begin d w (replica_at at).node c.args.call.now) in
    subst (λ (n : HeldNet). IsStepped n (held_in d w c.self.inside.steps (set rs c.args.replica c.begin_at.new.at) gr c.begin_at.new.log) (step.Begin c.args.replica c.args.call.now) c.begin_at.result) c.self.view_is
    (replica_stepped d w c.self.inside.steps rs gr log c.self.invariant c.args.replica at c.begin_at.new.at c.begin_at.new.log (step.Begin c.args.replica c.args.call.now) o c.begin_at.result here
    (ap (begins d w (network_in rs gr log) c.args.replica c.args.call.now) there)
    (c.begin_at.ensures.answer (replicas_in rs) gr c.args.replica) (c.begin_at.ensures.ok (replicas_in rs) gr c.args.replica there) c.begin_at.ensures.err c.begin_at.ensures.fits)

pub begin_at-requires : goal.begin_at-requires
begin_at-requires g c =
    let rs = c.self.inside.replicas.items in
    let at = c.index_mut-at.result.now in
    let lt : c.args.replica < length rs = omega (arith, c.if-replica-len.false, c.len.ensures, c.self.inside.replicas.ok.0) in
    record { fits = c.self.invariant.fit c.args.replica at (read_at rs c.args.replica at lt c.index_mut-at.ensures.value) }
