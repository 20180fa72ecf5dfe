-- A replay of a safe specification breaks no invariant.
use Rattle.std.proofs.Common.{◌≡◌, ℕ, zero, suc, Bool, true, false, length, Ok, Err, List, [], ◌∷◌, get_or, Option, None, Some, refl, ap, ◌∙◌, arith}
use Rattle.std.specs.Prelude.{slice_get, nat_le, if◌then◌else◌}
use Rattle.std.specs.List.{list_all}
use Rattle.std.proofs.lemmas.Bool.{and_parts}
use Rattle.std.specs.Option.{is_none}
use Rattle.spec_core.specs.declared.world.World.{World}
use Rattle.spec_core.specs.Specification.{Specification}
use Rattle.spec_states.specs.StateText.{state_text}
use Rattle.spec_core.specs.Meaning.{broken_at}
use Rattle.spec_core.specs.Fits.{is_world}
use Rattle.spec_core.specs.Limits.{most_elements}
use Rattle.schedule_json.specs.declared.schedule.Schedule.{Schedule}
use Rattle.schedule_json.specs.Checks.{Checked}
use Rattle.schedule_json.specs.Schedules.{schedule_from}
use Rattle.schedule_json.specs.Texts.{most_schedule_bytes}
use Rattle.schedule_json.proofs.Fits.{schedule_fits}
use Rattle.obligation_list.specs.Breaking.{Safe}
use Rattle.obligation_list.proofs.Refuted.{none_broken}
use Rattle.executions.specs.Orders.{AreIn, IsOrder}
use Rattle.executions.proofs.Safety.{converges}
use Rattle.replica_replay.specs.declared.step.Step.{Step}
use Rattle.replica_replay.specs.Held.{Held, none_held, IsHeld}
use Rattle.replica_replay.specs.Steps.{Outcome, accepted, refused, state_of, outcome, held_after}
use Rattle.replica_replay.proofs.Executed.{step_keeps}
use Rattle.replay_text.specs.declared.stop.Stop.{Stop}
use Rattle.replay_text.specs.declared.stop.Stop.TheVariants as stop
use Rattle.replay_text.specs.Text.{status_of}
use Rattle.replay_text.specs.Recorded.{status_read, schedule_status}
use Rattle.replay_text.specs.Course.{Course, unless_broken, replica_of, state_at, after_outcome, course_from, course}
use Rattle.replay_text.specs.Safely.{GoesSafely}

none_taken : (n k : ℕ) (taken : List ℕ) → slice_get (none_held n).taken k ≡ Some taken → taken ≡ []
none_taken zero k taken e = absurd (cc e)
none_taken (suc n) zero taken e = cc e
none_taken (suc n) (suc k) taken e = none_taken n k taken e

-- what is held before the first step
none_is_held : (d : Specification) (w : World) (n : ℕ) → IsHeld d w (none_held n)
none_is_held d w n = record {
  calls = refl;
  run = λ i event q. absurd (cc q);
  orders = λ replica taken q i e h. let none = none_taken n replica taken q in let g = rw none at h in absurd (cc g);
}

absent_list : (xs : List (List ℕ)) (k : ℕ) → slice_get xs k ≡ None → get_or xs k [] ≡ []
absent_list [] k e = refl
absent_list (x ∷ xs) zero e = absurd (cc e)
absent_list (x ∷ xs) (suc k) e = absent_list xs k e

present_list : (xs : List (List ℕ)) (k : ℕ) (x : List ℕ) → slice_get xs k ≡ Some x → get_or xs k [] ≡ x
present_list [] k x e = absurd (cc e)
present_list (y ∷ ys) zero x e = cc e
present_list (y ∷ ys) (suc k) x e = present_list ys k x e

none_found : (o : Option ℕ) → is_none o ≡ true → o ≡ None
none_found None e = refl
none_found (Some x) e = absurd (cc e)

module _ (d : Specification) (w : World) (safe : Safe d) (world : is_world d w ≡ true) where
  -- a delivery order leads to a state that breaks nothing
  order_unbroken : (held : Held) → IsHeld d w held → (taken : List ℕ) → IsOrder held.events taken → broken_at d w (state_of d w held taken) ≡ None
  order_unbroken held is taken order =
      none_found _ (none_broken d w (state_of d w held taken) ∙ (converges d safe w world held.events is.run taken taken order order (λ x i. i) (λ x i. i)).inv)

  empty_order : (held : Held) → IsOrder held.events []
  empty_order held i e q = absurd (cc q)

  replica_unbroken : (held : Held) → IsHeld d w held → (replica : ℕ) → broken_at d w (state_at d w held replica) ≡ None
  replica_unbroken held is replica = found (slice_get held.taken replica) refl
    where
      found : (o : Option (List ℕ)) → slice_get held.taken replica ≡ o → broken_at d w (state_at d w held replica) ≡ None
      found None q = let e = absent_list held.taken replica q in rw e (order_unbroken held is [] (empty_order held))
      found (Some taken) q = let e = present_list held.taken replica taken q in rw e (order_unbroken held is taken (is.orders replica taken q))

  alike : (held : Held) → IsHeld d w held → (p q : ℕ) (one other : List ℕ) → slice_get held.taken p ≡ Some one → slice_get held.taken q ≡ Some other → AreIn one other → AreIn other one
      → state_text d w (state_of d w held one) ≡ state_text d w (state_of d w held other)
  alike held is p q one other a b within back =
      ap (state_text d w) (converges d safe w world held.events is.run one other (is.orders p one a) (is.orders q other b) within back).same

  goes_on : (o : Option ℕ) (held : Held) (next : Course) → o ≡ None → GoesSafely d w next → GoesSafely d w (unless_broken o held next)
  goes_on None held next e g = g
  goes_on (Some place) held next e g = absurd (cc e)

  from : (held : Held) (ss : List Step) → IsHeld d w held → GoesSafely d w (course_from d w held ss)
  from held [] is = record { unbroken = λ place e. cc e; alike = alike held is }
  from held (s ∷ ss) is = by (outcome d w held s) (step_keeps d w held s is) (λ after kept. from after ss kept)
    where
      by : (o : Outcome) → IsHeld d w (held_after held o) → ((after : Held) → IsHeld d w after → GoesSafely d w (course_from d w after ss))
          → GoesSafely d w (after_outcome d w (replica_of s) held o (λ after. course_from d w after ss))
      by (refused why) kept next = record { unbroken = λ place e. cc e; alike = alike held is }
      by (accepted e after) kept next =
          let g = goes_on _ after (course_from d w after ss) (replica_unbroken after kept (replica_of s)) (next after kept) in
          record { unbroken = g.unbroken; alike = g.alike }

  pub goes_safely : (n : ℕ) (ss : List Step) → GoesSafely d w (course d w n ss)
  goes_safely n ss =
      let is = none_is_held d w n in
      goes_on _ (none_held n) (course_from d w (none_held n) ss) (order_unbroken (none_held n) is [] (empty_order (none_held n))) (from (none_held n) ss is)

-- ---- the bytes of a schedule

stop_unbroken : (d : Specification) (w : World) (c : Course) → GoesSafely d w c → status_of c.stop ≡ 1 → ⊥
stop_unbroken d w c g e = by c.stop refl e
  where
    by : (s : Stop) → c.stop ≡ s → status_of s ≡ 1 → ⊥
    by stop.Done q h = omega (arith, h)
    by (stop.Broken place) q h = g.unbroken place q
    by (stop.Refused why) q h = omega (arith, h)

pub schedule_safely : (d : Specification) → Safe d → (bytes : List ℕ) (s : Schedule) → schedule_from d bytes ≡ Ok s → GoesSafely d s.world (course d s.world s.replicas s.steps)
schedule_safely d safe bytes s e =
    let world = (and_parts (is_world d s.world) (list_all (λ n. nat_le n most_elements) s.world.sizes) ((schedule_fits d bytes s e).world)).0 in
    goes_safely d s.world safe world s.replicas s.steps

-- no schedule of a safe specification comes to status 1
pub safe_status : (d : Specification) → Safe d → (bytes : List ℕ) → schedule_status d bytes ≡ 1 → ⊥
safe_status d safe bytes h = by (nat_le (length bytes) most_schedule_bytes) (schedule_from d bytes) refl h
  where
    by : (b : Bool) (r : Checked Schedule) → schedule_from d bytes ≡ r → (if b then status_read d r else 4) ≡ 1 → ⊥
    by true (Ok s) q e = stop_unbroken d s.world (course d s.world s.replicas s.steps) (schedule_safely d safe bytes s q) e
    by true (Err why) q e = omega (arith, e)
    by false r q e = omega (arith, e)
