use Rattle.std.proofs.Common.{◌≡◌, length, ap, ◌∙◌, arith}
use Rattle.token_core.specs.HeldNet.{network_held}
use Rattle.simulate_text.specs.Course.{heard_by}
use Rattle.simulate_text.proofs.Carrying.{hears_more, replica_count}
use Rattle.simulate_text.proofs.simulation.tell_all.Goals as goal

pub loop-replica-preserved : goal.loop-replica-preserved
loop-replica-preserved g c = (
  (λ d w of.
      let before = c.loop-replica.invariant.0 d w of in
      let gone = c.in_ok-go.ensures.gone d w before.0 in (
        gone.of,
        hears_more d w c.args.message c.loop-replica.replica (network_held c.args.net.now) c.loop-replica.net c.go.new.net c.in_ok-go.field-0 before.1 gone,
      )),
  λ counts known. c.in_ok-go.ensures.unbroken counts (c.loop-replica.invariant.1 counts known),
)

pub returns-clause-told : goal.returns-clause-told
returns-clause-told g c = λ d w of.
    let told = c.loop-replica.invariant.0 d w of in
    let all : length (network_held c.args.net.now).replicas ≡ c.loop-replica.replica
    = replica_count c.args.net.now ∙ omega (arith, c.loop-replica-test.false, c.loop-replica.auto.replica-end, c.in_ok-count.ensures, c.replica_count.ensures) in
    (told.0, ap (λ n. heard_by d w c.args.message n (network_held c.args.net.now)) all ∙ told.1)
