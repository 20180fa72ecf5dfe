-- What is answered of some bytes, and of a source that gives them.
use Rattle.std.specs.Prelude.{◌≡◌, ℕ, List, Option, Ok, Err}
use Rattle.byte_ports.specs.Told.{Tells}
use Rattle.spec_trees.specs.Form.{TreeForm, tree_of}
use Rattle.typing_rules.specs.Fault.{Fault}
use Rattle.typing_rules.specs.Items.{typing}
use Rattle.spec_from_bytes.specs.declared.reading.Typed.{Typed}
use Rattle.spec_from_bytes.specs.declared.reading.Typed.TheVariants as typed
use Rattle.spec_from_bytes.specs.declared.reading.Reading.{Reading}
use Rattle.spec_from_bytes.specs.declared.reading.Reading.TheVariants as reading
use Rattle.spec_from_bytes.specs.Refusal.{IsReadAs, Refusal, faulty, IsRefusal, refusal_text}

-- a text says what is wrong with a tree
abbrev pub SaysFault : TreeForm → List ℕ → Type 0
SaysFault tree text = (f : Fault) × (typing tree ≡ Err f) × (text ≡ refusal_text (faulty f))

-- what a tree is: a specification, or the text of its fault
abbrev pub IsTyped : TreeForm → Typed → Type 0
IsTyped tree (typed.Specification d) = typing tree ≡ Ok d
IsTyped tree (typed.Faulty text) = SaysFault tree text.items

-- a text says why some bytes are no specification
abbrev pub SaysRefusal : List ℕ → List ℕ → Type 0
SaysRefusal bytes text = (why : Refusal) × IsRefusal bytes why × (text ≡ refusal_text why)

-- what some bytes are: a tree that is a specification, or the text of the refusal
abbrev pub IsReadingOf : List ℕ → Reading → Type 0
IsReadingOf bytes (reading.Specified tree d) = IsReadAs bytes (tree_of tree) d
IsReadingOf bytes (reading.Refused text) = SaysRefusal bytes text.items

-- what the bytes that a source gives are
abbrev pub IsReadingFrom : Option (List ℕ) → Reading → Type 0
IsReadingFrom told r = (bytes : List ℕ) × Tells told bytes × IsReadingOf bytes r
