use Rattle.std.proofs.Common.{drop}
use Rattle.spec_core.specs.declared.world.World.{World}
use Rattle.simulate_text.specs.Course.{course_from}
use Rattle.simulate_text.specs.Reached.{simulated_in, IsAsked}
use Rattle.simulate_text.proofs.Going.{Between}
use Rattle.simulate_text.proofs.writing.write_steps.Given as goal

abbrev pub invariant-loop-number : goal.invariant-loop-number
invariant-loop-number g l =
    (w : World) → IsAsked l.spec w l.fn.sim → Between l.spec w (course_from l.spec w 0 l.steps (simulated_in l.fn.sim)) l.fn.text.items l.text.items l.number (drop l.number l.steps) l.sim
