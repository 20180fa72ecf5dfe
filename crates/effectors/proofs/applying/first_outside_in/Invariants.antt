use Rattle.std.proofs.Common.{◌≡◌, ℕ, ℤ, List, ◌∷◌, map, drop}
use Rattle.spec_core.specs.Specification.{op_of}
use Rattle.spec_core.specs.State.{reads}
use Rattle.effectors.specs.Effect.{count_after}
use Rattle.effectors.specs.Beyond.{first_beyond}
use Rattle.effectors.proofs.applying.first_outside_in.Given as goal

abbrev pub invariant-loop-key : goal.invariant-loop-key
invariant-loop-key l =
    let f = λ (t : List ℕ). count_after l.world (reads l.state) l.call.args l.counter t (op_of l.spec l.call.op).updates ((reads l.state).count l.counter t) in
    (rest : List (List (List ℕ × ℤ))) → first_beyond l.counter (map (λ t. (t, f t)) l.keys ∷ rest) ≡ first_beyond l.counter (map (λ t. (t, f t)) (drop l.key-index l.keys) ∷ rest)
