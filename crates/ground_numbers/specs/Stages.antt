-- Numbers for stages.
use Rattle.std.specs.Prelude.{ℕ, zero, suc, [], ◌∷◌}
use Rattle.ground_problem.specs.Symbols.{Stage}

-- The stage of a number: 0 is the entry, 1 comes after the first call, 2 after the first and then the second, 3 after the second,
-- and 4 after the second and then the first. No obligation has further stages; the numbers beyond 4 name some, so that different
-- numbers name different stages.
abbrev pub stage_of : ℕ → Stage
stage_of zero = []
stage_of (suc zero) = 0 ∷ []
stage_of (suc (suc zero)) = 1 ∷ 0 ∷ []
stage_of (suc (suc (suc zero))) = 1 ∷ []
stage_of (suc (suc (suc (suc zero)))) = 0 ∷ 1 ∷ []
stage_of (suc (suc (suc (suc (suc n))))) = suc (suc (suc (suc (suc n)))) ∷ []

-- the number of the stage before, without the latest call
abbrev pub stage_before : ℕ → ℕ
stage_before zero = 0
stage_before (suc zero) = 0
stage_before (suc (suc zero)) = 1
stage_before (suc (suc (suc zero))) = 0
stage_before (suc (suc (suc (suc zero)))) = 3
stage_before (suc (suc (suc (suc (suc n))))) = 0

-- the place of the latest call of a stage after the entry
abbrev pub latest_call : ℕ → ℕ
latest_call zero = 0
latest_call (suc zero) = 0
latest_call (suc (suc zero)) = 1
latest_call (suc (suc (suc zero))) = 1
latest_call (suc (suc (suc (suc zero)))) = 0
latest_call (suc (suc (suc (suc (suc n))))) = suc (suc (suc (suc (suc n))))
