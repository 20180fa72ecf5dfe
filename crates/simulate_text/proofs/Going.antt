-- Going through steps one by one.
use Rattle.std.proofs.Common.{◌≡◌, ℕ, zero, suc, ◌+◌, ◌<◌, ◌≤◌, List, [], ◌∷◌, ◌++◌, length, drop, get_or, Option, None, Some, refl, sym, ap, ◌∙◌, subst, append_assoc, append-nil, add-one, arith}
use Rattle.std.specs.Prelude.{slice_get}
use Rattle.std.proofs.Math.ListN.{drop_of_length-le}
use Rattle.std.proofs.lemmas.List.{drop_more}
use Rattle.std.proofs.lemmas.Option.{slice_get_within, get_or_from_slice_get}
use Rattle.spec_core.specs.declared.world.World.{World}
use Rattle.spec_core.specs.Specification.{Specification}
use Rattle.spec_core.specs.State.{reads}
use Rattle.spec_core.specs.Meaning.{initial, broken_at}
use Rattle.replica_replay.specs.declared.step.Step.{Step}
use Rattle.token_protocol.specs.Network.{Replica}
use Rattle.simulate_text.specs.declared.said.Stop.{Stop}
use Rattle.simulate_text.specs.declared.said.Stop.TheVariants as stop
use Rattle.simulate_text.specs.declared.simulation.Simulation.{Simulation}
use Rattle.simulate_text.specs.Lines.{said_lines}
use Rattle.simulate_text.specs.Course.{Simulated, Course, broken_of, replica_of, part_of, unless_stopped, course_from, first_simulated, unless_broken_first, course}
use Rattle.simulate_text.specs.Text.{replica_text, replica_texts}
use Rattle.simulate_text.proofs.Carrying.{step_done}
use Rattle.simulate_text.specs.Reached.{simulated_in, IsOf, IsAsked, IsStep, CourseDone, IsReached}

-- what is left of a course
abbrev pub course_done : {R : Type 0} → List ℕ → ℕ → Stop → Simulation R → CourseDone R
course_done text at how sim = record { text = text; at = at; stop = how; sim = sim }

-- What remains between two steps: of all steps some are left, and the course from here continues the whole.
pub record Remaining (d : Specification) (w : World) (whole : Course) (before text : List ℕ) (k : ℕ) (left : List Step) (now : Simulated) : Type 0 where
  pub text_is : before ++ whole.lines ≡ text ++ (course_from d w k left now).lines
  pub at_is : whole.at ≡ (course_from d w k left now).at
  pub stop_is : whole.stop ≡ (course_from d w k left now).stop
  pub after_is : whole.after ≡ (course_from d w k left now).after

module _ (d : Specification) (w : World) (whole : Course) (before : List ℕ) where
  -- behind the last step
  pub at_last : {R : Type 0} (text : List ℕ) (k : ℕ) (now : Simulation R) → Remaining d w whole before text k [] (simulated_in now) → IsOf d w now.net
      → IsReached d w whole before (course_done text k stop.Done now)
  at_last text k now r of = record {
    text_is = r.text_is ∙ append-nil text;
    at_is = r.at_is;
    stop_is = r.stop_is;
    after_is = r.after_is;
    of = of;
  }

  module _ {R : Type 0} (text longer : List ℕ) (k : ℕ) (s : Step) (left : List Step) (now : Simulated) (after : Simulation R) (o : Option Stop)
      (r : Remaining d w whole before text k (s ∷ left) now) (is : IsStep d w (part_of d w s now) (said_lines d k (replica_of s)) text (step_done longer o after)) where
    here : course_from d w k (s ∷ left) now ≡ unless_stopped o k (said_lines d k (replica_of s) (part_of d w s now).said) (simulated_in after) (course_from d w (suc k) left (simulated_in after))
    here =
        let lines = said_lines d k (replica_of s) (part_of d w s now).said in
        ap (λ (x : Option Stop). unless_stopped x k lines (part_of d w s now).after (course_from d w (suc k) left (part_of d w s now).after)) is.stop_is
        ∙ ap (λ (x : Simulated). unless_stopped o k lines x (course_from d w (suc k) left x)) is.after_is

    -- at a step at which it stops
    pub at_stop : (how : Stop) → o ≡ Some how → IsReached d w whole before (course_done longer k how after)
    at_stop how e =
        let lines = said_lines d k (replica_of s) (part_of d w s now).said in
        let c = here ∙ ap (λ (x : Option Stop). unless_stopped x k lines (simulated_in after) (course_from d w (suc k) left (simulated_in after))) e in
        record {
          text_is = r.text_is ∙ ap (λ (x : Course). text ++ x.lines) c ∙ sym is.text_is;
          at_is = r.at_is ∙ ap (λ (x : Course). x.at) c;
          stop_is = r.stop_is ∙ ap (λ (x : Course). x.stop) c;
          after_is = r.after_is ∙ ap (λ (x : Course). x.after) c;
          of = is.asked.of;
        }

    -- and one at which it goes on
    pub at_next : o ≡ None → Remaining d w whole before longer (k + 1) left (simulated_in after)
    at_next e =
        let lines = said_lines d k (replica_of s) (part_of d w s now).said in
        let c = here ∙ ap (λ (x : Option Stop). unless_stopped x k lines (simulated_in after) (course_from d w (suc k) left (simulated_in after))) e in
        rw (add-one k) (record {
          text_is = r.text_is ∙ ap (λ (x : Course). text ++ x.lines) c ∙ sym (append_assoc text lines _) ∙ ap (λ (l : List ℕ). l ++ (course_from d w (suc k) left (simulated_in after)).lines) (sym is.text_is);
          at_is = r.at_is ∙ ap (λ (x : Course). x.at) c;
          stop_is = r.stop_is ∙ ap (λ (x : Course). x.stop) c;
          after_is = r.after_is ∙ ap (λ (x : Course). x.after) c;
        })

-- ---- the start

first_state : (d : Specification) (w : World) (n : ℕ) → 1 ≤ n → broken_of d w (slice_get (first_simulated d w n).net.replicas 0) ≡ broken_at d w (reads (initial d w))
first_state d w zero le = absurd (omega (arith, le))
first_state d w (suc n) le = refl

-- the invariants of the first replica are those of the initial state
pub first_asked : (d : Specification) (w : World) (n : ℕ) (sim : Simulated) (o : Option ℕ) → 1 ≤ n → sim ≡ first_simulated d w n
    → o ≡ broken_of d w (slice_get sim.net.replicas 0) → o ≡ broken_at d w (reads (initial d w))
first_asked d w n sim o le first e = e ∙ ap (λ (s : Simulated). broken_of d w (slice_get s.net.replicas 0)) first ∙ first_state d w n le

course_is : (d : Specification) (w : World) (n : ℕ) (ss : List Step) (o : Option ℕ) → o ≡ broken_at d w (reads (initial d w))
    → course d w n ss ≡ unless_broken_first o (first_simulated d w n) (course_from d w 0 ss (first_simulated d w n))
course_is d w n ss o e = ap (λ (x : Option ℕ). unless_broken_first x (first_simulated d w n) (course_from d w 0 ss (first_simulated d w n))) (sym e)

pub at_broken_start : {R : Type 0} (d : Specification) (w : World) (n : ℕ) (ss : List Step) (text : List ℕ) (sim : Simulation R) (place : ℕ) → simulated_in sim ≡ first_simulated d w n
    → Some place ≡ broken_at d w (reads (initial d w)) → IsOf d w sim.net → IsReached d w (course d w n ss) text (course_done text 0 (stop.BrokenFirst place) sim)
at_broken_start d w n ss text sim place first e of =
    let c = course_is d w n ss (Some place) e in
    record {
      text_is = ap (λ (x : Course). text ++ x.lines) c ∙ append-nil text;
      at_is = ap (λ (x : Course). x.at) c;
      stop_is = ap (λ (x : Course). x.stop) c;
      after_is = ap (λ (x : Course). x.after) c ∙ sym first;
      of = of;
    }

pub at_start : {R : Type 0} (d : Specification) (w : World) (n : ℕ) (ss : List Step) (before text : List ℕ) (at : ℕ) (how : Stop) (sim : Simulated) (after : Simulation R) → sim ≡ first_simulated d w n
    → None ≡ broken_at d w (reads (initial d w)) → IsReached d w (course_from d w 0 ss sim) before (course_done text at how after) → IsReached d w (course d w n ss) before (course_done text at how after)
at_start d w n ss before text at how sim after first e is =
    let c : course_from d w 0 ss sim ≡ course d w n ss = ap (course_from d w 0 ss) first ∙ sym (course_is d w n ss None e) in
    subst (λ (x : Course). IsReached d w x before (course_done text at how after)) c is

-- ---- between two steps

-- what holds between two steps, of the simulation as it is now
pub record Between {R : Type 0} (d : Specification) (w : World) (whole : Course) (before text : List ℕ) (k : ℕ) (left : List Step) (now : Simulation R) : Type 0 where
  pub remaining : Remaining d w whole before text k left (simulated_in now)
  pub asked : IsAsked d w now

-- before the first step
pub between_first : {R : Type 0} (d : Specification) (w : World) (ss : List Step) (text : List ℕ) (sim : Simulation R) → IsAsked d w sim
    → Between d w (course_from d w 0 ss (simulated_in sim)) text text 0 ss sim
between_first d w ss text sim asked = record { remaining = record { text_is = refl; at_is = refl; stop_is = refl; after_is = refl }; asked = asked }

module _ {R : Type 0} (d : Specification) (w : World) (whole : Course) (before text longer : List ℕ) (k : ℕ) (all : List Step) (now after : Simulation R) (s : Step) (below : k < length all)
    (here : s ≡ get_or all k s) (is : Between d w whole before text k (drop k all) now) (o : Option Stop)
    (went : IsStep d w (part_of d w s (simulated_in now)) (said_lines d k (replica_of s)) text (step_done longer o after)) where
  remaining_here : Remaining d w whole before text k (s ∷ drop (k + 1) all) (simulated_in now)
  remaining_here =
      let split : drop k all ≡ s ∷ drop (k + 1) all = drop_more all k s below ∙ ap (λ (z : Step). z ∷ drop (k + 1) all) (sym here) in
      subst (λ (z : List Step). Remaining d w whole before text k z (simulated_in now)) split is.remaining

  pub ends_here : (how : Stop) → o ≡ Some how → IsReached d w whole before (course_done longer k how after)
  ends_here how e = at_stop d w whole before text longer k s (drop (k + 1) all) (simulated_in now) after o remaining_here went how e

  pub leads_on : o ≡ None → Between d w whole before longer (k + 1) (drop (k + 1) all) after
  leads_on e = record { remaining = at_next d w whole before text longer k s (drop (k + 1) all) (simulated_in now) after o remaining_here went e; asked = went.asked }

-- behind the last step
pub done_here : {R : Type 0} (d : Specification) (w : World) (whole : Course) (before text : List ℕ) (k : ℕ) (all : List Step) (now : Simulation R) → length all ≤ k → k ≤ length all
    → Between d w whole before text k (drop k all) now → IsReached d w whole before (course_done text (length all) stop.Done now)
done_here d w whole before text k all now past within is =
    let same : k ≡ length all = omega (arith, past, within) in
    let none : drop k all ≡ [] = drop_of_length-le all past in
    subst (λ n. IsReached d w whole before (course_done text n stop.Done now)) same
    (at_last d w whole before text k now (subst (λ (l : List Step). Remaining d w whole before text k l (simulated_in now)) none is.remaining) is.asked.of)

-- ---- the replicas

-- one replica more was written
pub replica_more : (d : Specification) (w : World) (all : List Replica) (first before text : List ℕ) (k : ℕ) (at : Replica) → slice_get all k ≡ Some at
    → first ++ replica_texts d w 0 all ≡ before ++ replica_texts d w k (drop k all) → text ≡ before ++ replica_text d w k at
    → first ++ replica_texts d w 0 all ≡ text ++ replica_texts d w (k + 1) (drop (k + 1) all)
replica_more d w all first before text k at here is written =
    let split : drop k all ≡ at ∷ drop (k + 1) all = drop_more all k at (slice_get_within all k at here) ∙ ap (λ (x : Replica). x ∷ drop (k + 1) all) (get_or_from_slice_get all k at at here) in
    is ∙ ap (λ (l : List Replica). before ++ replica_texts d w k l) split
    ∙ rw (add-one k) (sym (append_assoc before (replica_text d w k at) (replica_texts d w (suc k) (drop (suc k) all))))
    ∙ ap (λ (t : List ℕ). t ++ replica_texts d w (k + 1) (drop (k + 1) all)) (sym written)
