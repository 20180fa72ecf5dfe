-- The lines of a simulation's steps, and the line that says how it stops.
use Rattle.std.specs.Prelude.{ℕ, List, [], ◌∷◌, ◌++◌, codes, decimal}
use Rattle.spec_core.specs.Specification.{Specification}
use Rattle.replay_text.specs.Text.{range_words, invariant_name}
use Rattle.token_protocol.specs.declared.node.WhyVoid.{WhyVoid}
use Rattle.token_protocol.specs.declared.node.WhyVoid.TheVariants as why
use Rattle.simulate_text.specs.declared.said.Said.{Said}
use Rattle.simulate_text.specs.declared.said.Said.TheVariants as said
use Rattle.simulate_text.specs.declared.said.SimulateRefused.{SimulateRefused}
use Rattle.simulate_text.specs.declared.said.SimulateRefused.TheVariants as refusal
use Rattle.simulate_text.specs.declared.said.Stop.{Stop}
use Rattle.simulate_text.specs.declared.said.Stop.TheVariants as stop

-- why a call is void
abbrev pub void_words : Specification → WhyVoid → List ℕ
void_words d (why.Precondition line) = codes "precondition " ++ decimal line
void_words d (why.Observation line) = codes "observation " ++ decimal line
void_words d (why.Range counter key value) = range_words d counter key value

-- what a replica did
abbrev pub said_words : Specification → Said → List ℕ
said_words d (said.Call e) = codes "call " ++ decimal e
said_words d (said.Take e) = codes "take " ++ decimal e
said_words d (said.Old e) = codes "old " ++ decimal e
said_words d (said.Early e) = codes "early " ++ decimal e
said_words d (said.Awaits id) = codes "awaits " ++ decimal id.replica ++ 32 ∷ [] ++ decimal id.turn
said_words d (said.Void cause) = codes "void " ++ void_words d cause

-- a line of a step at a replica
abbrev pub said_line : Specification → ℕ → ℕ → Said → List ℕ
said_line d k r what =
    codes "step " ++ decimal k ++ codes " replica " ++ decimal r ++ 32 ∷ [] ++ said_words d what
    ++ 10 ∷ []

-- the lines of a step, in their order
abbrev pub said_lines : Specification → ℕ → ℕ → List Said → List ℕ
said_lines d k r [] = []
said_lines d k r (what ∷ more) = said_line d k r what ++ said_lines d k r more

-- why a step is refused
abbrev pub refusal_words : Specification → SimulateRefused → List ℕ
refusal_words d refusal.Replica = codes "replica"
refusal_words d refusal.Operation = codes "operation"
refusal_words d refusal.Arguments = codes "arguments"
refusal_words d refusal.Waiting = codes "waiting"
refusal_words d refusal.NoEvent = codes "noevent"
refusal_words d (refusal.Range counter key value) = range_words d counter key value

-- the line that says how it stops, at the step of this number
abbrev pub stop_line : Specification → ℕ → Stop → List ℕ
stop_line d k stop.Done = codes "done " ++ decimal k ++ 10 ∷ []
stop_line d k (stop.BrokenFirst place) = codes "broken start " ++ invariant_name d place ++ 10 ∷ []
stop_line d k (stop.Broken place) =
    codes "broken " ++ decimal k ++ 32 ∷ [] ++ invariant_name d place ++ 10 ∷ []
stop_line d k (stop.Refused cause) =
    codes "refused " ++ decimal k ++ 32 ∷ [] ++ refusal_words d cause ++ 10 ∷ []
