-- What a whole check gives, from what its last part gives.
use Rattle.std.proofs.Common.{◌≡◌, ℕ, ◌<◌, ◌≤◌, ◌⊎◌, Bool, true, false, List, length, Option, None, Some, option_and_then, Ok, Err, IfOk, IfErr, refl, sym, subst, arith}
use Rattle.std.specs.Prelude.{nat_le}
use Rattle.std.proofs.lemmas.Str.{is_utf8-from_IsUtf8, IsUtf8-from_is_utf8}
use Rattle.std.proofs.lemmas.Bool.Decides.{nat_tests}
use Rattle.std.specs.Str.{is_utf8, IsUtf8}
use Rattle.serde_json.specs.Data.{Data}
use Rattle.serde_json.specs.Find.{as_array}
use Rattle.serde_json.specs.Read.{read}
use Rattle.serde_json.specs.View.{items_view}
use Rattle.serde_json.specs.Events.{items_len}
use Rattle.serde_json.specs.declared.value.Value.{Value}
use Rattle.spec_core.specs.Specification.{Specification}
use Rattle.schedule_json.specs.declared.refusal.Path.TheVariants as path
use Rattle.schedule_json.specs.declared.refusal.ScheduleRefused.TheVariants as refused
use Rattle.schedule_json.specs.Checks.{Checked}
use Rattle.schedule_json.specs.Recorded.{most_steps, steps_at, steps_of}
use Rattle.schedule_json.specs.Schedules.{schedule_of, schedule_from}
use Rattle.schedule_json.proofs.Reading.{items_length}

-- a check with one answer is another with the same answer
pub ok_along : {A : Type 0} (r : Checked A) (x y : Checked A) → x ≡ y → IfOk r (λ a. x ≡ Ok a) → IfOk r (λ a. y ≡ Ok a)
ok_along r x y e h = subst (λ z. IfOk r (λ a. z ≡ Ok a)) e h

pub err_along : {A : Type 0} (r : Checked A) (x y : Checked A) → x ≡ y
    → IfErr r (λ why. (why ≡ refused.Memory) ⊎ (x ≡ Err why)) → IfErr r (λ why. (why ≡ refused.Memory) ⊎ (y ≡ Err why))
err_along r x y e h = subst (λ z. IfErr r (λ why. (why ≡ refused.Memory) ⊎ (z ≡ Err why))) e h

few : (n m : ℕ) → n ≡ m → m ≤ most_steps → nat_le n most_steps ≡ true
few n m e h = grind (arith, nat_tests)

many : (n m : ℕ) → n ≡ m → most_steps < m → nat_le n most_steps ≡ false
many n m e h = grind (arith, nat_tests)

-- the steps of a list that isn't too long, and of one that is
pub steps_of-list : (v : Option Data) (vs : List Value) → Some (items_view vs) ≡ option_and_then as_array v → length vs ≤ most_steps → steps_at 0 (items_view vs) ≡ steps_of v
steps_of-list v vs e h = let is : option_and_then as_array v ≡ Some (items_view vs) = sym e in rw (is, few (items_len (items_view vs)) (length vs) (items_length vs) h) refl

pub steps_of-long : (v : Option Data) (vs : List Value) → Some (items_view vs) ≡ option_and_then as_array v → most_steps < length vs → steps_of v ≡ Err (refused.Size path.Steps)
steps_of-long v vs e h = let is : option_and_then as_array v ≡ Some (items_view vs) = sym e in rw (is, many (items_len (items_view vs)) (length vs) (items_length vs) h) refl

-- the schedule of bytes that are JSON, and of bytes that aren't
pub schedule_from-value : (d : Specification) (bytes : List ℕ) (v : Data) → IsUtf8 bytes → read bytes ≡ Some v → schedule_of d v ≡ schedule_from d bytes
schedule_from-value d bytes v text e = let is : is_utf8 bytes ≡ true = is_utf8-from_IsUtf8 bytes text in rw (is, e) refl

pub schedule_from-none : (d : Specification) (bytes : List ℕ) (b : Bool) → is_utf8 bytes ≡ b → (IsUtf8 bytes → read bytes ≡ None) → schedule_from d bytes ≡ Err refused.Json
schedule_from-none d bytes true e h = let none = h (IsUtf8-from_is_utf8 bytes e) in rw (e, none) refl
schedule_from-none d bytes false e h = rw e refl
