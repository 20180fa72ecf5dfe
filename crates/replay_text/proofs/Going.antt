-- Going through steps one by one.
use Rattle.std.proofs.Common.{◌≡◌, ℕ, ℤ, zero, suc, replicate, ◌+◌, ◌<◌, ◌≤◌, ◌⊎◌, inl, inr, List, [], ◌∷◌, ◌++◌, length, drop, get_or, Option, None, Some, Result, Ok, Err, refl, sym, ap, ◌∙◌, subst, append_assoc, append-nil, length-set, add-one, arith}
use Rattle.std.specs.Prelude.{slice_get, codes}
use Rattle.std.proofs.lemmas.List.{drop_more, length-replicate}
use Rattle.std.proofs.Math.ListN.{drop_of_length-le}
use Rattle.spec_core.specs.declared.world.World.{World}
use Rattle.spec_core.specs.declared.world.Call.{Call}
use Rattle.executions.specs.Orders.{Event}
use Rattle.spec_core.specs.Specification.{Specification}
use Rattle.spec_core.specs.Meaning.{broken_at}
use Rattle.replica_replay.specs.declared.step.Step.{Step}
use Rattle.replica_replay.specs.declared.step.Step.TheVariants as step
use Rattle.replica_replay.specs.declared.step.Taken.{Taken}
use Rattle.replica_replay.specs.declared.step.StepRefused.{StepRefused}
use Rattle.replica_replay.specs.declared.step.StepRefused.TheVariants as refusal
use Rattle.replica_replay.specs.Held.{Held, IsHeld, none_held}
use Rattle.replica_replay.specs.Replayed.{Replayed}
use Rattle.replica_replay.specs.Steps.{Outcome, accepted, refused, state_of, operation_named, replica_with, decided, named_outcome, found_outcome, called, took, outcome, held_after, answer}
use Rattle.replay_text.specs.declared.stop.Stop.{Stop}
use Rattle.replay_text.specs.declared.stop.Stop.TheVariants as stop
use Rattle.replay_text.specs.Course.{Course, stopped, with_event, unless_broken, replica_of, state_at, after_outcome, course_from, course}
use Rattle.replay_text.specs.Text.{step_line, step_lines, stop_line, replica_texts, course_text}
use Rattle.replay_text.specs.declared.writing.Stepped.TheVariants as stepped
use Rattle.replay_text.specs.Reached.{IsTaken, IsStepped, CourseDone, IsReached}
use Rattle.replay_text.specs.Asked.{AllHeld}
use Rattle.replay_text.proofs.Asked.{all_hold}

-- the outcome of a step that was answered with an event
pub accepted_step : (o : Outcome) (held : Held) (t : Taken) → ◌≡◌ {A = Result Taken StepRefused} (Ok t) (Err refusal.Memory) ⊎ (Ok t ≡ answer o) → o ≡ accepted t.event (held_after held o)
accepted_step o held t (inl e) = absurd (cc e)
accepted_step (refused why) held t (inr e) = absurd (cc e)
accepted_step (accepted e after) held t (inr h) = let same : t ≡ record { event = e } = cc h in rw same refl

no_lines : (k : ℕ) (ss : List Step) → step_lines k ss [] ≡ []
no_lines k [] = refl
no_lines k (s ∷ ss) = refl

-- ---- the number of replicas stays

decided_length : (why : Option StepRefused) (e : ℕ) (held after : Held) → length after.taken ≡ length held.taken → length (held_after held (decided why e after)).taken ≡ length held.taken
decided_length None e held after h = h
decided_length (Some why) e held after h = refl

module _ (d : Specification) (w : World) (held : Held) where
  called_length : (replica : ℕ) (name : List ℕ) (args : List ℤ) (o : Option (List ℕ)) → length (held_after held (called d w name args (replica_with held replica o))).taken ≡ length held.taken
  called_length replica name args None = refl
  called_length replica name args (Some taken) = named (operation_named d name)
    where
      named : (op : Option ℕ) → length (held_after held (named_outcome d w (record { held = held; replica = replica; taken = taken }) args op)).taken ≡ length held.taken
      named None = refl
      named (Some op) = decided_length _ (length held.events) held _ (length-set held.taken replica _)

  took_length : (replica e : ℕ) (o : Option (List ℕ)) → length (held_after held (took d w e (replica_with held replica o))).taken ≡ length held.taken
  took_length replica e None = refl
  took_length replica e (Some taken) = found (slice_get held.events e)
    where
      found : (o : Option (Event Call)) → length (held_after held (found_outcome d w (record { held = held; replica = replica; taken = taken }) e o)).taken ≡ length held.taken
      found None = refl
      found (Some event) = decided_length _ e held _ (length-set held.taken replica _)

  step_length : (s : Step) → length (held_after held (outcome d w held s)).taken ≡ length held.taken
  step_length (step.Call replica name args) = called_length replica name args (slice_get held.taken replica)
  step_length (step.Take replica e) = took_length replica e (slice_get held.taken replica)

unless_length : (o : Option ℕ) (n : ℕ) (held : Held) (next : Course) → length held.taken ≡ n → length next.held.taken ≡ n → length (unless_broken o held next).held.taken ≡ n
unless_length None n held next h l = l
unless_length (Some place) n held next h l = h

pub course_length : (d : Specification) (w : World) (held : Held) (ss : List Step) → length (course_from d w held ss).held.taken ≡ length held.taken
course_length d w held [] = refl
course_length d w held (s ∷ ss) = by (outcome d w held s) (step_length d w held s) (λ after. course_length d w after ss)
  where
    by : (o : Outcome) → length (held_after held o).taken ≡ length held.taken → ((after : Held) → length (course_from d w after ss).held.taken ≡ length after.taken)
        → length (after_outcome d w (replica_of s) held o (λ after. course_from d w after ss)).held.taken ≡ length held.taken
    by (refused why) h next = refl
    by (accepted e after) h next = unless_length _ (length held.taken) after _ h (next after ∙ h)

-- ---- the steps

-- where the loop ends, from its parts
abbrev pub end_at : List ℕ → ℕ → Stop → Held → CourseDone
end_at text count how held = record { text = text; stopped = record { accepted = count; stop = how }; held = held }

-- What remains between two steps: of all steps some are left, and the course from here continues the whole.
pub record Remaining (d : Specification) (w : World) (first : Held) (all : List Step) (before text : List ℕ) (k : ℕ) (now : Held) (left : List Step) : Type 0 where
  pub text_is : before ++ step_lines 0 all (course_from d w first all).events ≡ text ++ step_lines k left (course_from d w now left).events
  pub count_is : length (course_from d w first all).events ≡ k + length (course_from d w now left).events
  pub stop_is : (course_from d w first all).stop ≡ (course_from d w now left).stop
  pub held_is : (course_from d w first all).held ≡ (course_from d w now left).held

module _ (d : Specification) (w : World) (first : Held) (all : List Step) (before : List ℕ) where
  -- at the first step
  pub at_first : Remaining d w first all before before 0 first all
  at_first = record { text_is = refl; count_is = sym (zero_more _); stop_is = refl; held_is = refl }
    where
      zero_more : (n : ℕ) → 0 + n ≡ n
      zero_more n = omega arith

  -- behind the last
  pub at_last : (text : List ℕ) (k : ℕ) (now : Held) → Remaining d w first all before text k now [] → IsReached (course_from d w first all) all before (end_at text k stop.Done now)
  at_last text k now r = record {
    text_is = r.text_is ∙ append-nil text;
    count_is = r.count_is ∙ omega arith;
    stop_is = r.stop_is;
    held_is = r.held_is;
  }

  module _ (text : List ℕ) (k : ℕ) (now : Held) (s : Step) (left : List Step) (r : Remaining d w first all before text k now (s ∷ left)) where
    -- at a step that is refused
    pub at_refused : (why : StepRefused) → outcome d w now s ≡ refused why → IsReached (course_from d w first all) all before (end_at text k (stop.Refused why) now)
    at_refused why e =
        let is : course_from d w now (s ∷ left) ≡ stopped (stop.Refused why) now = ap (λ o. after_outcome d w (replica_of s) now o (λ after. course_from d w after left)) e in
        record {
          text_is = r.text_is ∙ rw is (append-nil text);
          count_is = r.count_is ∙ rw is (omega arith);
          stop_is = r.stop_is ∙ ap (λ (c : Course). c.stop) is;
          held_is = r.held_is ∙ ap (λ (c : Course). c.held) is;
        }

    -- at an accepted step
    module _ (e : ℕ) (after : Held) (went : outcome d w now s ≡ accepted e after) where
      accepted_course : (o : Option ℕ) → o ≡ broken_at d w (state_at d w after (replica_of s))
          → course_from d w now (s ∷ left) ≡ with_event e (unless_broken o after (course_from d w after left))
      accepted_course o b =
          ap (λ o. after_outcome d w (replica_of s) now o (λ after. course_from d w after left)) went
          ∙ ap (λ z. with_event e (unless_broken z after (course_from d w after left))) (sym b)

      -- whose replica's state breaks an invariant
      pub at_broken : (place : ℕ) → Some place ≡ broken_at d w (state_at d w after (replica_of s))
          → IsReached (course_from d w first all) all before (end_at (text ++ step_line k s e) (k + 1) (stop.Broken place) after)
      at_broken place b =
          let is = accepted_course (Some place) b in
          record {
            text_is = r.text_is ∙ rw is (ap (λ z. text ++ z) (ap (λ z. step_line k s e ++ z) (no_lines (suc k) left) ∙ append-nil (step_line k s e)));
            count_is = r.count_is ∙ rw is (omega arith);
            stop_is = r.stop_is ∙ ap (λ (c : Course). c.stop) is;
            held_is = r.held_is ∙ ap (λ (c : Course). c.held) is;
          }

      -- whose replica's state breaks none
      pub at_next : None ≡ broken_at d w (state_at d w after (replica_of s)) → Remaining d w first all before (text ++ step_line k s e) (k + 1) after left
      at_next b =
          let is = accepted_course None b in
          record {
            text_is = r.text_is ∙ rw is (rw (add-one k) (sym (append_assoc text (step_line k s e) _)));
            count_is = r.count_is ∙ rw is (omega arith);
            stop_is = r.stop_is ∙ ap (λ (c : Course). c.stop) is;
            held_is = r.held_is ∙ ap (λ (c : Course). c.held) is;
          }

-- what holds between two steps, of the replay as it is now
pub record Between (d : Specification) (w : World) (first : Held) (all : List Step) (before text : List ℕ) (k : ℕ) (now : Replayed) : Type 0 where
  pub spec_is : now.spec ≡ d
  pub world_is : now.world ≡ w
  pub remaining : Remaining d w first all before text k now.held (drop k all)
  pub holds : AllHeld d w now.held

module _ (d : Specification) (w : World) (first : Held) (all : List Step) (before text : List ℕ) (k : ℕ) (now : Replayed) (is : Between d w first all before text k now)
    (s : Step) (below : k < length all) (here : s ≡ get_or all k s)
    (e : ℕ) (o : Option ℕ) (after : Replayed) (went : IsTaken d now.world now.held s e o after.held)
    (longer : List ℕ) (line : longer ≡ text ++ step_line k s e) where
  remaining_here : Remaining d w first all before text k now.held (s ∷ drop (k + 1) all)
  remaining_here =
      let split : drop k all ≡ s ∷ drop (k + 1) all = drop_more all k s below ∙ ap (λ z. z ∷ drop (k + 1) all) (sym here) in
      subst (λ z. Remaining d w first all before text k now.held z) split is.remaining

  stepped_here : IsTaken d w now.held s e o after.held
  stepped_here = subst (λ (v : World). IsTaken d v now.held s e o after.held) is.world_is went

  -- an accepted step that breaks an invariant ends the loop
  pub ends_broken : (place : ℕ) → o ≡ Some place → IsReached (course_from d w first all) all before (end_at longer (k + 1) (stop.Broken place) after.held)
  ends_broken place q =
      rw line (at_broken d w first all before text k now.held s (drop (k + 1) all) remaining_here e after.held stepped_here.0 place (sym q ∙ stepped_here.1))

  -- and one that breaks none leads on
  pub leads_on : o ≡ None → after.world ≡ now.world → after.spec ≡ now.spec → IsHeld now.spec now.world now.held → Between d w first all before longer (k + 1) after
  leads_on q same_world same_spec held = record {
    holds = all_hold d w now.held after.held s e held_here is.holds stepped_here.0 (sym (sym q ∙ stepped_here.1));
    spec_is = same_spec ∙ is.spec_is;
    world_is = same_world ∙ is.world_is;
    remaining = rw line (at_next d w first all before text k now.held s (drop (k + 1) all) remaining_here e after.held stepped_here.0 (sym q ∙ stepped_here.1));
  }
    where
      held_here : IsHeld d w now.held
      held_here = subst (λ (v : World). IsHeld d v now.held) is.world_is (subst (λ (x : Specification). IsHeld x now.world now.held) is.spec_is held)

-- where the loop ends without a step that was accepted
module _ (d : Specification) (w : World) (first : Held) (all : List Step) (before text : List ℕ) (k : ℕ) (now : Replayed) (is : Between d w first all before text k now) where
  -- at a step that is refused, which leaves what is held
  pub ends_refused : (s : Step) → k < length all → s ≡ get_or all k s → (why : StepRefused) (after : Held) → IsStepped d now.world now.held s (stepped.Refused why) after
      → IsReached (course_from d w first all) all before (end_at text k (stop.Refused why) after)
  ends_refused s below here why after went =
      let split : drop k all ≡ s ∷ drop (k + 1) all = drop_more all k s below ∙ ap (λ z. z ∷ drop (k + 1) all) (sym here) in
      let went_here = subst (λ (v : World). IsStepped d v now.held s (stepped.Refused why) after) is.world_is went in
      subst (λ (h : Held). IsReached (course_from d w first all) all before (end_at text k (stop.Refused why) h)) (sym went_here.1)
      (at_refused d w first all before text k now.held s (drop (k + 1) all) (subst (λ z. Remaining d w first all before text k now.held z) split is.remaining) why went_here.0)

  -- behind the last
  pub ends_done : length all ≤ k → k ≤ length all → IsReached (course_from d w first all) all before (end_at text (length all) stop.Done now.held)
  ends_done past within =
      let same : k ≡ length all = omega (arith, past, within) in
      let none : drop k all ≡ [] = drop_of_length-le all past in
      subst (λ n. IsReached (course_from d w first all) all before (end_at text n stop.Done now.held)) same
      (at_last d w first all before text k now.held (subst (λ z. Remaining d w first all before text k now.held z) none is.remaining))

none_first : (n : ℕ) → let none : List ℕ = [] in get_or (replicate n none) 0 [] ≡ []
none_first zero = refl
none_first (suc n) = refl

first_state : (d : Specification) (w : World) (n : ℕ) → state_at d w (none_held n) 0 ≡ state_of d w (none_held n) []
first_state d w n = ap (state_of d w (none_held n)) (none_first n)

-- a course whose initial state breaks an invariant ends before the first step
pub broken_at_start : (d : Specification) (w : World) (n : ℕ) (ss : List Step) (text : List ℕ) (held : Held) (place : ℕ) → held ≡ none_held n
    → Some place ≡ broken_at d w (state_at d w held 0) → IsReached (course d w n ss) ss text (end_at text 0 (stop.Broken place) held)
broken_at_start d w n ss text held place h b =
    let broken : broken_at d w (state_of d w (none_held n) []) ≡ Some place =
    sym (b ∙ ap (λ (x : Held). broken_at d w (state_at d w x 0)) h ∙ ap (broken_at d w) (first_state d w n)) in
    let is : course d w n ss ≡ stopped (stop.Broken place) (none_held n) = ap (λ o. unless_broken o (none_held n) (course_from d w (none_held n) ss)) broken in
    rw is (record {
      text_is = ap (λ z. text ++ z) (no_lines 0 ss) ∙ append-nil text;
      count_is = refl;
      stop_is = refl;
      held_is = sym h;
    })

-- and so is the number of replicas at the end
unless_count : (o : Option ℕ) (n : ℕ) (ss : List Step) (d : Specification) (w : World) → length (unless_broken o (none_held n) (course_from d w (none_held n) ss)).held.taken ≡ n
unless_count o n ss d w =
    let first : length (none_held n).taken ≡ n = length-replicate n [] in
    unless_length o n (none_held n) (course_from d w (none_held n) ss) first (course_length d w (none_held n) ss ∙ first)

pub replica_count : (d : Specification) (w : World) (n : ℕ) (ss : List Step) → length (course d w n ss).held.taken ≡ n
replica_count d w n ss = unless_count _ n ss d w

-- ---- the whole text

assembled : (t0 t1 t2 t3 t4 h l s r : List ℕ) → t1 ≡ t0 ++ h → t1 ++ l ≡ t2 → t3 ≡ t2 ++ s → t4 ≡ t3 ++ r → t4 ≡ t0 ++ (h ++ l ++ s ++ r)
assembled t0 t1 t2 t3 t4 h l s r a b c e = grind (arith, append_assoc)

-- from its parts
pub whole_text : (d : Specification) (w : World) (ss : List Step) (c : Course) (t0 t1 t2 t3 t4 : List ℕ) (n : ℕ) (how : Stop) (held : Held)
    → t1 ≡ t0 ++ codes "cise replay 1\n" → IsReached c ss t1 (end_at t2 n how held) → t3 ≡ t2 ++ stop_line d n how → t4 ≡ t3 ++ replica_texts d w held 0 held.taken
    → t4 ≡ t0 ++ course_text d w ss c
whole_text d w ss c t0 t1 t2 t3 t4 n how held a r b e =
    rw (r.count_is, r.stop_is, r.held_is) (assembled t0 t1 t2 t3 t4 (codes "cise replay 1\n") (step_lines 0 ss c.events) (stop_line d n how) (replica_texts d w held 0 held.taken) a r.text_is b e)
