-- Endings put together.
use Rattle.std.proofs.Common.{◌≡◌, ℕ, ◌<◌, List, Option, inl, inr, arith}
use Rattle.std.proofs.KnownBytes.{Keeps-refl}
use Rattle.byte_ports.specs.Ports.{Port}
use Rattle.byte_ports.specs.Ending.{IsOne, IsFrontOf, IsFrontOfOne, IsBroken, Ends, EndsIn}

pub broken_map : (Front Rest : List ℕ → Type 0) (before after : Option (List ℕ)) → ((t : List ℕ) → Front t → Rest t)
    → IsBroken Front before after → IsBroken Rest before after
broken_map Front Rest before after g (inl kept) = inl kept
broken_map Front Rest before after g (inr (front, is, appended)) = inr (front, g front is, appended)

-- an ending of answers of one kind is one of another kind, where these are
pub Ends-map : (Whole Other : ℕ → List ℕ → Type 0) (Front Rest : List ℕ → Type 0) (status : ℕ) (before after : Port)
    → ((s : ℕ) (t : List ℕ) → Whole s t → Other s t) → ((t : List ℕ) → Front t → Rest t)
    → Ends Whole Front status before after → Ends Other Rest status before after
Ends-map Whole Other Front Rest status before after f g e = record {
  answered = λ below. let a = e.answered below in (a.0, f status a.0 a.1, a.2);
  write_fault = e.write_fault;
  front = λ above. broken_map Front Rest before.held after.held g (e.front above);
  known = e.known;
}

-- so also where what is left is the front of an answer
pub EndsIn-map : (Whole Other : ℕ → List ℕ → Type 0) (status : ℕ) (before after : Port)
    → ((s : ℕ) (t : List ℕ) → Whole s t → Other s t) → EndsIn Whole status before after → EndsIn Other status before after
EndsIn-map Whole Other status before after f e =
    Ends-map Whole Other (IsFrontOfOne Whole) (IsFrontOfOne Other) status before after f (λ t front. (front.0, front.1, f front.0 front.1 front.2, front.3)) e

-- the text of one answer is written, where it is an answer of that kind
pub Ends-one : (Whole : ℕ → List ℕ → Type 0) (answer : ℕ) (text : List ℕ) (status : ℕ) (before after : Port)
    → Whole answer text → Ends (IsOne answer text) (IsFrontOf text) status before after
    → EndsIn Whole status before after
Ends-one Whole answer text status before after w e =
    Ends-map (IsOne answer text) Whole (IsFrontOf text) (IsFrontOfOne Whole) status before after
    (λ s t one. rw (one.0, one.1) w) (λ t front. (answer, text, w, front)) e

-- where nothing was written, and what stopped isn't the sink
pub Ends-stopped : (Whole : ℕ → List ℕ → Type 0) (Front : List ℕ → Type 0) (status : ℕ) (port : Port)
    → 5 < status → status < 9 → (status ≡ 7 → ⊥) → Ends Whole Front status port port
Ends-stopped Whole Front status port high low not_sink = record {
  answered = λ below. absurd (omega (arith, high, below));
  write_fault = λ is. absurd (not_sink is);
  front = λ above. inl (Keeps-refl port.held);
  known = low;
}
