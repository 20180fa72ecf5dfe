use Rattle.std.proofs.Common.{ℕ, ◌≤◌, None, Some, sym}
use Rattle.std.proofs.lemmas.Result.{IfOk-weaker}
use Rattle.spec_core.specs.declared.world.World.{World}
use Rattle.simulate_text.specs.Course.{course_from, course}
use Rattle.simulate_text.specs.Reached.{simulated_in, IsFirst, IsAsked, IsReached}
use Rattle.simulate_text.proofs.Going.{course_done, first_asked, at_broken_start, at_start}
use Rattle.simulate_text.proofs.Unbroken.{first_asked_none}
use Rattle.simulate_text.proofs.writing.write_course.Goals as goal

pub returns-in-Some : goal.returns-in-Some
returns-in-Some g c = λ w n some first.
    let d = c.args.spec.now in let sim = c.args.sim.now in
    at_broken_start d w n c.args.steps.now c.args.text.now.items sim c.in-Some.place first.first
    (first_asked d w n (simulated_in sim) (Some c.in-Some.place) some first.first (c.in-Some.ensures d w first.of)) first.of

pub returns-in-None : goal.returns-in-None
returns-in-None g c =
    let d = c.args.spec.now in let sim = c.args.sim.now in let ss = c.args.steps.now in
    let before = c.args.text.now.items in let text = c.write_steps.new.text.items in let new = c.write_steps.new.sim in
    IfOk-weaker c.write_steps.result
    (λ s. (w : World) → IsAsked d w sim → IsReached d w (course_from d w 0 ss (simulated_in sim)) before (course_done text s.at s.stop new))
    (λ s. (w : World) (n : ℕ) → 1 ≤ n → IsFirst d w n sim → IsReached d w (course d w n ss) before (course_done text s.at s.stop new))
    (λ s reached w n some first.
    let none = first_asked d w n (simulated_in sim) None some first.first (c.in-None.ensures d w first.of) in
    at_start d w n ss before text s.at s.stop (simulated_in sim) new first.first none (reached w (first_asked_none d w n sim first (sym none))))
    c.write_steps.ensures
