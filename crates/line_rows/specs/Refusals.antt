-- How the rules of a line are asked one after the other, and how a refusal names the first that is broken.
use Rattle.std.specs.Prelude.{◌≡◌, Bool, cond, Option, Some, None, Result, Ok, Err}
use Rattle.proof_lines.specs.declared.line.Why.{Why}
use Rattle.proof_lines.specs.declared.line.LineRefused.{LineRefused}
use Rattle.proof_lines.specs.declared.line.LineRefused.TheVariants.{Bad, Memory}

-- a test that is needed, and the rule that is broken where it fails; else what comes next. A chain of these reads in the order of its
-- tests
abbrev pub need : {A : Type 0} → Bool → Why → Result A Why → Result A Why
need test w next = cond test next (Err w)

-- one rule after the other: the second is asked where the first is kept
abbrev pub then_ : {A B : Type 0} → Result A Why → (A → Result B Why) → Result B Why
then_ (Ok a) next = next a
then_ (Err w) next = Err w

-- what is there, or the rule that is broken where nothing is
abbrev pub or_broken : {A : Type 0} → Why → Option A → Result A Why
or_broken w (Some a) = Ok a
or_broken w None = Err w

-- a refusal of a line names the first rule that it breaks; want of memory may come at any time
abbrev pub IsTold : {A : Type 0} → LineRefused → Result A Why → Type 0
IsTold (Bad w) given = given ≡ Err w
IsTold Memory given = Unit {0}
