use Rattle.std.proofs.Common.{refl, ◌≡◌, ℕ, List, Option, None, Some, sym, ap, ◌∙◌}
use Rattle.std.specs.Prelude.{slice_get}
use Rattle.simulate_text.specs.declared.said.SimulateRefused.TheVariants as refusal
use Rattle.simulate_text.specs.declared.said.Stop.TheVariants as stop
use Rattle.simulate_text.specs.Course.{takes, stops}
use Rattle.simulate_text.specs.Reached.{simulated_in}
use Rattle.simulate_text.proofs.Carrying.{does_from, as_part, stopped_part}
use Rattle.simulate_text.proofs.writing.take_numbered.Goals as goal

pub returns-in-Some : goal.returns-in-Some
returns-in-Some g c =
    let old = c.args.sim.now in let r = c.args.replica in let e = c.args.event in
    let found : slice_get old.dones.items e ≡ Some c.in-Some.done
    = sym (c.number_at.ensures ∙ ap (λ (l : List ℕ). slice_get l e) c.deref.ensures.value) ∙ c.in-Some.is in
    does_from c.take.result (λ d w. takes d w r e (Some c.in-Some.done)) (λ d w s. takes d w r e (slice_get s.dones e) s) old old c.take.new.self refl
    (λ d w asked. (asked, ap (λ (o : Option ℕ). takes d w r e o (simulated_in old)) found)) c.take.ensures

pub returns-in-None : goal.returns-in-None
returns-in-None g c = λ d w asked.
    let old = c.args.sim.now in let r = c.args.replica in let e = c.args.event in
    let none : slice_get old.dones.items e ≡ None
    = sym (c.number_at.ensures ∙ ap (λ (l : List ℕ). slice_get l e) c.deref.ensures.value) ∙ c.in-None.is in
    let how = stop.Refused refusal.NoEvent in
    as_part d w (stops how (simulated_in old)) (takes d w r e (slice_get old.dones.items e) (simulated_in old)) old.said.items (Some how) old
    (ap (λ (o : Option ℕ). takes d w r e o (simulated_in old)) none) (stopped_part d w how old asked)
