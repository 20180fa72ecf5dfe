-- Choices of elements, one of each of some spans; for proofs alone.
use Rattle.std.specs.Prelude.{ℕ, Bool, true, false, nat_lt, nat_le, ◌&&◌, ◌||◌, List, [], ◌∷◌, ◌++◌}
use Rattle.spec_core.specs.Choices.{all_below}
use Rattle.touched_lines.specs.declared.spans.Span.{Span}

-- an element of a span: one from its first number on, below its end
abbrev pub in_span : Span → ℕ → Bool
in_span s e = nat_le s.from e && nat_lt e s.to

-- an element of each span
abbrev pub are_within : List Span → List ℕ → Bool
are_within [] [] = true
are_within [] (e ∷ es) = false
are_within (s ∷ ss) [] = false
are_within (s ∷ ss) (e ∷ es) = in_span s e && are_within ss es

-- a test of each choice of elements of these spans, behind those chosen before
abbrev pub all_within : List Span → List ℕ → (List ℕ → Bool) → Bool
all_within [] chosen p = p chosen
all_within (s ∷ ss) chosen p =
    all_below s.to (λ e. nat_lt e s.from || all_within ss (chosen ++ e ∷ []) p)
