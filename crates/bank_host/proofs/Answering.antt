-- What a command answers to the bytes of a schedule.
use Rattle.std.proofs.Common.{◌≡◌, ◌≢◌, ℕ, ◌<◌, ◌≤◌, Bool, true, false, List, length, Option, None, Some, Ok, Err, ◌⊎◌, inl, inr, refl, sym, ap, ◌∙◌, subst, arith}
use Rattle.std.specs.Prelude.{nat_le, if◌then◌else◌}
use Rattle.std.specs.Option.{is_some}
use Rattle.std.proofs.lemmas.Bool.Decides.{nat_tests}
use Rattle.spec_core.specs.Specification.{Specification}
use Rattle.schedule_json.specs.Checks.{Checked}
use Rattle.schedule_json.specs.declared.schedule.Schedule.{Schedule}
use Rattle.schedule_json.specs.declared.refusal.ScheduleRefused.{ScheduleRefused}
use Rattle.schedule_json.specs.declared.refusal.ScheduleRefused.TheVariants as refused
use Rattle.schedule_json.specs.Schedules.{schedule_from}
use Rattle.schedule_json.specs.Texts.{most_schedule_bytes, refusal_text, long_text}
use Rattle.replay_text.specs.declared.stop.Stop.{Stop}
use Rattle.replay_text.specs.declared.stop.Stop.TheVariants as stop
use Rattle.replay_text.specs.Text as replay
use Rattle.replay_text.specs.Course.{course as replayed}
use Rattle.simulate_text.specs.declared.said.Stop.{Stop as Halt}
use Rattle.simulate_text.specs.declared.said.Stop.TheVariants as halt
use Rattle.simulate_text.specs.Text as simulation
use Rattle.simulate_text.specs.Course.{course as simulated}
use Rattle.byte_ports.specs.Ports.{Port}
use Rattle.byte_ports.specs.Ending.{EndsIn}
use Rattle.bank_host.specs.Bank.{bank}
use Rattle.bank_host.specs.declared.words.Command.{Command}
use Rattle.bank_host.specs.declared.words.Command.TheVariants.{Replay, Simulate}
use Rattle.bank_host.specs.Running.{answer_status, answer_text, IsAnswer}
use Rattle.bank_host.specs.Carried.{status_read, text_read}

-- ---- by the number of the bytes

too_many : (n : ℕ) → most_schedule_bytes < n → nat_le n most_schedule_bytes ≡ false
too_many n h = grind (arith, nat_tests)

not_many : (n : ℕ) → n ≤ most_schedule_bytes → nat_le n most_schedule_bytes ≡ true
not_many n h = grind (arith, nat_tests)

-- a status and a text of bytes, where there are not too many
chosen_status : (command : Command) (bytes : List ℕ) → answer_status (Some command) bytes ≡ if nat_le (length bytes) most_schedule_bytes then status_read command bank (schedule_from bank bytes) else 4
chosen_status Replay bytes = refl
chosen_status Simulate bytes = refl

chosen_text : (command : Command) (bytes : List ℕ) → answer_text (Some command) bytes ≡ if nat_le (length bytes) most_schedule_bytes then text_read command bank (schedule_from bank bytes) else long_text
chosen_text Replay bytes = refl
chosen_text Simulate bytes = refl

module _ (command : Command) (bytes : List ℕ) where
  long_status : most_schedule_bytes < length bytes → 4 ≡ answer_status (Some command) bytes
  long_status h =
      sym (chosen_status command bytes ∙ ap (λ (b : Bool). if b then status_read command bank (schedule_from bank bytes) else 4) (too_many (length bytes) h))

  long_answer_text : most_schedule_bytes < length bytes → long_text ≡ answer_text (Some command) bytes
  long_answer_text h =
      sym (chosen_text command bytes ∙ ap (λ (b : Bool). if b then text_read command bank (schedule_from bank bytes) else long_text) (too_many (length bytes) h))

  -- what was read is the answer
  pub read_status : (d : Specification) (read : Checked Schedule) → d ≡ bank → length bytes ≤ most_schedule_bytes → schedule_from d bytes ≡ read
      → status_read command d read ≡ answer_status (Some command) bytes
  read_status d read e few is =
      ap (status_read command d) (sym is) ∙ ap (λ (x : Specification). status_read command x (schedule_from x bytes)) e
      ∙ sym (chosen_status command bytes ∙ ap (λ (b : Bool). if b then status_read command bank (schedule_from bank bytes) else 4) (not_many (length bytes) few))

  pub read_text : (d : Specification) (read : Checked Schedule) → d ≡ bank → length bytes ≤ most_schedule_bytes → schedule_from d bytes ≡ read
      → text_read command d read ≡ answer_text (Some command) bytes
  read_text d read e few is =
      ap (text_read command d) (sym is) ∙ ap (λ (x : Specification). text_read command x (schedule_from x bytes)) e
      ∙ sym (chosen_text command bytes ∙ ap (λ (b : Bool). if b then text_read command bank (schedule_from bank bytes) else long_text) (not_many (length bytes) few))

-- ---- a refusal

refused_status : (command : Command) (d : Specification) (why : ScheduleRefused) → 4 ≡ status_read command d (Err why)
refused_status Replay d why = refl
refused_status Simulate d why = refl

refused_text : (command : Command) (d : Specification) (why : ScheduleRefused) → refusal_text why ≡ text_read command d (Err why)
refused_text Replay d why = refl
refused_text Simulate d why = refl

refused_by : (d : Specification) (bytes : List ℕ) (why : ScheduleRefused) → (why ≡ refused.Memory) ⊎ (schedule_from d bytes ≡ Err why) → why ≢ refused.Memory
    → schedule_from d bytes ≡ Err why
refused_by d bytes why (inl memory) some = absurd (some memory)
refused_by d bytes why (inr is) some = is

-- what was refused as a schedule is answered
module _ (command : Command) (bytes : List ℕ) (d : Specification) (why : ScheduleRefused) (e : d ≡ bank) (few : length bytes ≤ most_schedule_bytes)
    (is : (why ≡ refused.Memory) ⊎ (schedule_from d bytes ≡ Err why)) (some : why ≢ refused.Memory) where
  pub refusal_status : 4 ≡ answer_status (Some command) bytes
  refusal_status = refused_status command d why ∙ read_status command bytes d (Err why) e few (refused_by d bytes why is some)

  pub refusal_answer : (text : List ℕ) → text ≡ refusal_text why → text ≡ answer_text (Some command) bytes
  refusal_answer text t = t ∙ refused_text command d why ∙ read_text command bytes d (Err why) e few (refused_by d bytes why is some)

-- ---- statuses

low_stop : (s : Stop) → replay.status_of s < 5
low_stop stop.Done = omega arith
low_stop (stop.Broken place) = omega arith
low_stop (stop.Refused why) = omega arith

low_halt : (s : Halt) → simulation.status_of s < 5
low_halt halt.Done = omega arith
low_halt (halt.BrokenFirst place) = omega arith
low_halt (halt.Broken place) = omega arith
low_halt (halt.Refused why) = omega arith

low_read : (command : Command) (d : Specification) (read : Checked Schedule) → status_read command d read < 5
low_read Replay d (Ok s) = low_stop (replayed d s.world s.replicas s.steps).stop
low_read Replay d (Err why) = omega arith
low_read Simulate d (Ok s) = low_halt (simulated d s.world s.replicas s.steps).stop
low_read Simulate d (Err why) = omega arith

low_choice : (b : Bool) (n : ℕ) → n < 5 → (if b then n else 4) < 5
low_choice true n h = h
low_choice false n h = omega arith

low_asked : (command : Command) (bytes : List ℕ) → answer_status (Some command) bytes < 5
low_asked command bytes =
    let e = chosen_status command bytes in
    rw e (low_choice (nat_le (length bytes) most_schedule_bytes) _ (low_read command bank (schedule_from bank bytes)))

pub low_answer : (command : Command) (bytes : List ℕ) (status : ℕ) (text : List ℕ) → IsAnswer (Some command) bytes status text → status < 6
low_answer command bytes status text a = let low = low_asked command bytes in let e = a.status_is in omega (arith, low, e)

-- ---- endings

-- the answer to too many bytes
pub long_answer : (command : Command) (bytes : List ℕ) → most_schedule_bytes < length bytes → IsAnswer (Some command) bytes 4 long_text
long_answer command bytes h = record { status_is = long_status command bytes h; text_is = long_answer_text command bytes h }

-- the ending of an answer is that of the words that ask for it
pub EndsIn-asked : (a b : Option Command) (bytes : List ℕ) (status : ℕ) (before after : Port) → a ≡ b
    → EndsIn (IsAnswer a bytes) status before after → EndsIn (IsAnswer b bytes) status before after
EndsIn-asked a b bytes status before after e x = subst (λ (asked : Option Command). EndsIn (IsAnswer asked bytes) status before after) e x

-- words that aren't accepted name no command
pub not_asked : (asked : Option Command) → None ≡ asked → is_some asked ≡ true → ⊥
not_asked None e some = absurd (cc some)
not_asked (Some command) e some = absurd (cc e)
