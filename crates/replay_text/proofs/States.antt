-- The lines of a state.
use Rattle.std.proofs.Common.{◌≡◌, ℕ, true, List, ◌++◌, Result, Ok, Err, OnOk, ◌∙◌, ap}
use Rattle.spec_core.specs.declared.world.World.{World}
use Rattle.spec_core.specs.Specification.{Specification}
use Rattle.spec_core.specs.State.{Listing, Reads, reads}
use Rattle.spec_states.specs.StateText.{state_text}
use Rattle.spec_core.specs.Fits.{is_state}

-- what was written of a state that fits a world is the text of its readings there
pub state_written : {A E : Type 0} (r : Result A E) (d : Specification) (w : World) (s : Listing) (x : Reads) (before text : List ℕ)
    → OnOk r ((v : World) → is_state d v s ≡ true → text ≡ before ++ state_text d v (reads s)) → is_state d w s ≡ true → reads s ≡ x
    → OnOk r (text ≡ before ++ state_text d w x)
state_written (Ok a) d w s x before text h fits is = h w fits ∙ ap (λ z. before ++ state_text d w z) is
state_written (Err e) d w s x before text h fits is = tt
