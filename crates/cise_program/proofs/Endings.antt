-- Endings of commands put together.
use Rattle.std.proofs.Common.{◌≡◌, ℕ, List, Option, Some, sym, subst}
use Rattle.byte_ports.specs.Ports.{Port}
use Rattle.byte_ports.specs.Ending.{Ends}
use Rattle.byte_ports.proofs.Endings.{Ends-map}
use Rattle.spec_core.specs.Specification.{Specification}
use Rattle.spec_trees.specs.Form.{TreeForm}
use Rattle.cise_program.specs.declared.words.Task.{Task}
use Rattle.cise_program.specs.declared.words.Job.{Job}
use Rattle.cise_program.specs.declared.words.Job.TheVariants.{Sample}
use Rattle.cise_program.specs.commands.Sample.{IsSampled, IsSampleFront}
use Rattle.cise_program.specs.Outside.{Failures}
use Rattle.cise_program.specs.Words.{IsInputFault}
use Rattle.cise_program.specs.Answer.{IsOutcome, IsOutcomeFront, IsAnswer, IsAnswerFront}

-- the ending of a job is that of the words that ask for it
pub Ends-asked : (job : Job) (asked : Option Job) (spec extra : Option (List ℕ)) (status : ℕ) (before after : Port) → Some job ≡ asked
    → Ends (IsAnswer (Some job) spec extra) (IsAnswerFront (Some job) spec extra) status before after
    → Ends (IsAnswer asked spec extra) (IsAnswerFront asked spec extra) status before after
Ends-asked job asked spec extra status before after e x =
    subst (λ (j : Option Job). Ends (IsAnswer j spec extra) (IsAnswerFront j spec extra) status before after) e x

-- the ending of a task that is known
pub Ends-task : (task other : Task) (tree : TreeForm) (d : Specification) (more : List ℕ) (status : ℕ) (before after : Port) → task ≡ other
    → Ends (IsOutcome other tree d more) (IsOutcomeFront other tree d more) status before after
    → Ends (IsOutcome task tree d more) (IsOutcomeFront task tree d more) status before after
Ends-task task other tree d more status before after e x =
    subst (λ (j : Task). Ends (IsOutcome j tree d more) (IsOutcomeFront j tree d more) status before after) (sym e) x

-- the ending of a sample is that of the words that ask for it
pub Ends-sample : (k : ℕ) (asked : Option Job) (spec extra : Option (List ℕ)) (status : ℕ) (before after : Port) → Some (Sample k) ≡ asked
    → Ends (IsSampled k) (IsSampleFront k) status before after
    → Ends (IsAnswer asked spec extra) (IsAnswerFront asked spec extra) status before after
Ends-sample k asked spec extra status before after e x =
    Ends-asked (Sample k) asked spec extra status before after e
    (Ends-map (IsSampled k) (IsAnswer (Some (Sample k)) spec extra) (IsSampleFront k) (IsAnswerFront (Some (Sample k)) spec extra) status before after
    (λ u v a. a) (λ front a. a) x)

-- a fault of an input of a job is one of the words that ask for it
pub IsInputFault-asked : (job : Job) (asked : Option Job) (before after : Failures) → Some job ≡ asked → IsInputFault (Some job) before after → IsInputFault asked before after
IsInputFault-asked job asked before after e f = subst (λ (j : Option Job). IsInputFault j before after) e f
