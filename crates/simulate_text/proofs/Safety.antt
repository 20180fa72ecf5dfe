-- A simulation is an execution, and that of a safe specification breaks no invariant.
use Rattle.std.proofs.Common.{◌≡◌, ℕ, suc, Bool, true, false, length, Ok, Err, List, [], ◌∷◌, Option, None, Some, refl, sym, ap, ◌∙◌, arith}
use Rattle.std.specs.Prelude.{slice_get, nat_le, if◌then◌else◌}
use Rattle.std.specs.List.{list_all}
use Rattle.std.proofs.lemmas.Bool.{and_parts}
use Rattle.spec_core.specs.declared.world.World.{World}
use Rattle.spec_core.specs.Specification.{Specification}
use Rattle.spec_core.specs.State.{reads}
use Rattle.spec_states.specs.StateText.{state_text}
use Rattle.spec_core.specs.Meaning.{initial, broken_at}
use Rattle.spec_core.specs.Fits.{is_world}
use Rattle.spec_core.specs.Limits.{most_elements}
use Rattle.schedule_json.specs.declared.schedule.Schedule.{Schedule}
use Rattle.schedule_json.specs.Checks.{Checked}
use Rattle.schedule_json.specs.Schedules.{schedule_from}
use Rattle.schedule_json.specs.Texts.{most_schedule_bytes}
use Rattle.schedule_json.proofs.Fits.{schedule_fits}
use Rattle.obligation_list.specs.Breaking.{Safe}
use Rattle.executions.specs.Orders.{AreIn}
use Rattle.executions.proofs.Safety.{converges}
use Rattle.replica_replay.specs.declared.step.Step.{Step}
use Rattle.token_protocol.specs.Network.{Network, Replica, events_of}
use Rattle.token_protocol.specs.Kept.{IsKept}
use Rattle.token_protocol.specs.Executed.{IsExecuted}
use Rattle.token_protocol.proofs.Executing.{first_kept, kept_executed}
use Rattle.simulate_text.specs.declared.said.Stop.{Stop}
use Rattle.simulate_text.specs.declared.said.Stop.TheVariants as stop
use Rattle.simulate_text.specs.Lines.{said_lines}
use Rattle.simulate_text.specs.Course.{Simulated, Part, Course, replica_of, part_of, unless_stopped, course_from, first_simulated, unless_broken_first, course}
use Rattle.simulate_text.specs.Text.{status_of}
use Rattle.simulate_text.specs.Recorded.{status_read, simulated_status}
use Rattle.simulate_text.specs.Safely.{GoesSafely}
use Rattle.simulate_text.proofs.Keeping.{start_unbroken, IsGood, good_part}

the_end_breaks_none : status_of stop.Done ≡ 1 → ⊥
the_end_breaks_none e = omega (arith, e)

module _ (d : Specification) (w : World) where
  -- The network is kept at the end of a course, and where the specification is safe, no invariant is broken.
  record IsGoodCourse (c : Course) : Type 0 where
    kept : IsKept d w c.after.net
    unbroken : Safe d → is_world d w ≡ true → status_of c.stop ≡ 1 → ⊥

  good_step : (o : Option Stop) (k : ℕ) (lines : List ℕ) (part : Part) (next : Course) → part.stop ≡ o → IsGood d w part → IsGoodCourse next → IsGoodCourse (unless_stopped o k lines part.after next)
  good_step None k lines part next e good rest = record { kept = rest.kept; unbroken = rest.unbroken }
  good_step (Some how) k lines part next e good rest = record { kept = good.kept; unbroken = λ safe world h. good.unbroken safe world how e h }

  good_from : (k : ℕ) (ss : List Step) (sim : Simulated) → IsKept d w sim.net → IsGoodCourse (course_from d w k ss sim)
  good_from k [] sim kept = record { kept = kept; unbroken = λ safe world h. the_end_breaks_none h }
  good_from k (s ∷ ss) sim kept =
      let part = part_of d w s sim in
      let good = good_part d w s sim kept in
      good_step part.stop k (said_lines d k (replica_of s) part.said) part (course_from d w (suc k) ss part.after) refl good (good_from (suc k) ss part.after good.kept)

  good_course : (n : ℕ) (ss : List Step) → IsGoodCourse (course d w n ss)
  good_course n ss = by (broken_at d w (reads (initial d w))) (start_unbroken d w)
    where
      first : Simulated
      first = first_simulated d w n

      next : Course
      next = course_from d w 0 ss first

      by : (o : Option ℕ) → (Safe d → is_world d w ≡ true → o ≡ None) → IsGoodCourse (unless_broken_first o first next)
      by None none = good_from 0 ss first (first_kept d w n)
      by (Some place) none = record { kept = first_kept d w n; unbroken = λ safe world h. let e = none safe world in absurd (cc e) }

  -- at its end the events form an execution
  pub is_executed : (n : ℕ) (ss : List Step) → IsExecuted d w (course d w n ss).after.net
  is_executed n ss = kept_executed d w (course d w n ss).after.net (good_course n ss).kept

  alike : Safe d → is_world d w ≡ true → (net : Network) → IsKept d w net → (p q : ℕ) (one other : Replica)
      → slice_get net.replicas p ≡ Some one → slice_get net.replicas q ≡ Some other → AreIn one.taken other.taken → AreIn other.taken one.taken
      → state_text d w one.node.state ≡ state_text d w other.node.state
  alike safe world net kept p q one other a b within back =
      let agree = converges d safe w world (events_of net) kept.run one.taken other.taken (kept.orders p one a) (kept.orders q other b) within back in
      ap (state_text d w) (kept.states p one a ∙ agree.same ∙ sym (kept.states q other b))

  -- and it goes safely
  pub goes_safely : Safe d → is_world d w ≡ true → (n : ℕ) (ss : List Step) → GoesSafely d w (course d w n ss)
  goes_safely safe world n ss =
      let good = good_course n ss in
      record {
        unbroken_first = λ place e. good.unbroken safe world (ap status_of e);
        unbroken = λ place e. good.unbroken safe world (ap status_of e);
        alike = alike safe world (course d w n ss).after.net good.kept;
      }

  pub course_status : Safe d → is_world d w ≡ true → (n : ℕ) (ss : List Step) → status_of (course d w n ss).stop ≡ 1 → ⊥
  course_status safe world n ss = (good_course n ss).unbroken safe world

-- ---- the bytes of a schedule

-- the world of a schedule is one of the specification
world_of : (d : Specification) (bytes : List ℕ) (s : Schedule) → schedule_from d bytes ≡ Ok s → is_world d s.world ≡ true
world_of d bytes s e = (and_parts (is_world d s.world) (list_all (λ n. nat_le n most_elements) s.world.sizes) ((schedule_fits d bytes s e).world)).0

pub schedule_safely : (d : Specification) → Safe d → (bytes : List ℕ) (s : Schedule) → schedule_from d bytes ≡ Ok s → GoesSafely d s.world (course d s.world s.replicas s.steps)
schedule_safely d safe bytes s e = goes_safely d s.world safe (world_of d bytes s e) s.replicas s.steps

-- no schedule of a safe specification comes to status 1
pub safe_status : (d : Specification) → Safe d → (bytes : List ℕ) → simulated_status d bytes ≡ 1 → ⊥
safe_status d safe bytes h = by (nat_le (length bytes) most_schedule_bytes) (schedule_from d bytes) refl h
  where
    by : (b : Bool) (r : Checked Schedule) → schedule_from d bytes ≡ r → (if b then status_read d r else 4) ≡ 1 → ⊥
    by true (Ok s) q e = course_status d s.world safe (world_of d bytes s q) s.replicas s.steps e
    by true (Err why) q e = omega (arith, e)
    by false r q e = omega (arith, e)
