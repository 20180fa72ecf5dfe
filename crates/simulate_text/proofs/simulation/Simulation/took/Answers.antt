use Rattle.std.proofs.Common.{None, ap}
use Rattle.std.proofs.lemmas.Result.{IfOk-weaker}
use Rattle.simulate_text.specs.declared.said.Said.TheVariants as said
use Rattle.simulate_text.specs.declared.simulation.Simulation.{Simulation}
use Rattle.simulate_text.specs.Course.{saying, asked_at, tries_again, took}
use Rattle.simulate_text.specs.Reached.{simulated_in, IsDone}
use Rattle.simulate_text.proofs.Carrying.{as_part, said_first, asked_part}
use Rattle.simulate_text.proofs.simulation.Simulation.took.Goals as goal

pub returns-in-None : goal.returns-in-None
returns-in-None g c =
    let old = c.args.self.now in let r = c.args.replica in let what = said.Take c.args.event in
    let mid : Simulation g.row.R.Denot = record { net = old.net; dones = old.dones; grants = old.grants; unbroken = c.ask_invariants.new.unbroken; said = c.push.new.self } in
    let new = c.try_again.new.self in
    IfOk-weaker c.try_again.result (λ stop. IsDone (λ d w. tries_again d w r) mid new stop) (λ stop. IsDone (λ d w. took d w r c.args.event) old new stop)
    (λ stop does d w asked.
    let next = tries_again d w r (simulated_in old) in
    as_part d w (saying what next) (saying what (asked_at d w r (simulated_in old) next)) old.said.items stop new
    (ap (saying what) (asked_part d w r (simulated_in old) next None (c.in-None.ensures.broken d w asked.of asked.unbroken)))
    (said_first d w what next old.said.items mid.said.items stop new c.in_ok-push.ensures.items (does d w (record { of = asked.of; unbroken = c.in-None.ensures.unbroken asked.unbroken }))))
    c.try_again.ensures
