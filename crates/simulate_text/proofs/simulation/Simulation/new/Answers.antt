use Rattle.std.proofs.Common.{◌≡◌, ap, ◌∙◌, arith, replicate}
use Rattle.simulate_text.specs.declared.simulation.Simulation.{Simulation}
use Rattle.simulate_text.proofs.Unbroken.{first_of}
use Rattle.simulate_text.proofs.simulation.Simulation.new.Goals as goal

pub returns : goal.returns
returns g c =
    let sim : Simulation g.row.R.Denot = record { net = c.in_ok-net.net; dones = c.new-2.result; grants = c.loop-i.grants; unbroken = c.loop-i.unbroken; said = c.new-3.result } in
    let all : c.loop-i._i ≡ c.args.replicas = omega (arith, c.loop-i-test.false, c.loop-i.auto._i-end) in
    first_of (g.R.Runner.specification c.args.runner) (g.R.Runner.setting c.args.runner) c.args.replicas sim c.in_ok-net.ensures.spec c.in_ok-net.ensures.world c.in_ok-net.ensures.network c.new-2.ensures.items
    (c.loop-i.invariant.0 ∙ ap (λ n. replicate n 0) all) (c.loop-i.invariant.1 ∙ ap (λ n. replicate n 0) all)
