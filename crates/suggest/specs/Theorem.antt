-- What a suggestion says: which conflicts a specification needs, and that they are enough.
use Rattle.std.specs.Prelude.{◌≡◌, ℕ, Bool, true, false, List}
use Rattle.std.specs.List.{Contains}
use Rattle.spec_core.specs.declared.world.World.{World}
use Rattle.spec_core.specs.declared.world.Call.{Call}
use Rattle.spec_core.specs.State.{Listing}
use Rattle.spec_core.specs.Specification.{Specification}
use Rattle.obligation_list.specs.declared.obligation.Obligation.{Obligation}
use Rattle.obligation_list.specs.declared.witness.Witness.{Witness}
use Rattle.obligation_list.specs.Breaking.{Breaks}
use Rattle.report_bytes.specs.Showing.{shown_by}
use Rattle.check_run.specs.Shown.{listing_of}
use Rattle.conflict_variants.specs.Bare.{bare}
use Rattle.conflict_variants.specs.Keyed.{keyed}
use Rattle.suggest.specs.Pairs.{obligations_of_pair, PairHolds, IsPair, IsEnough}
use Rattle.suggest.specs.Answers.{is_needed, is_unknown, is_enough_by}
use Rattle.suggest.specs.declared.answer.Found.TheVariants as found
use Rattle.suggest.specs.declared.answer.KeyAnswer.{KeyAnswer}
use Rattle.suggest.specs.declared.answer.PairAnswer.{PairAnswer}

-- What a block shows: it names an obligation of a pair, and the calls of its witness break this one in its world and in the state that is
-- shown, at its elements.
pub record IsShownToBreak (d : Specification) (a b : ℕ) (ob : Obligation)
    (w : Witness) : Type 0 where
  pub of_pair : Contains (obligations_of_pair d a b) ob
  pub breaks : Breaks d ob w.world (listing_of d (shown_by d w)) w.calls w.elements

-- an obligation of a pair is broken
pub record IsBroken (d : Specification) (a b : ℕ) : Type 0 where
  pub obligation : Obligation
  pub of_pair : Contains (obligations_of_pair d a b) obligation
  pub world : World
  pub state : Listing
  pub calls : List Call
  pub elements : List ℕ
  pub breaks : Breaks d obligation world state calls elements

-- Each refutation in answers for pairs of a specification is right: the block under `needed` breaks an obligation of its pair in the bare
-- specification, and each block under `notby` does so in the keyed one.
pub record AreShownToBreak (d : Specification) (answers : List PairAnswer) : Type 0 where
  pub needed : (x : PairAnswer) (ob : Obligation) (w : Witness) → Contains answers x
      → x.found ≡ found.Refuted ob w
      → IsShownToBreak (bare d) x.pair.first x.pair.second ob w
  pub notby : (x : PairAnswer) (y : KeyAnswer) (ob : Obligation) (w : Witness)
      → Contains answers x → Contains x.keys y → y.found ≡ found.Refuted ob w
      → IsShownToBreak (keyed d x.pair.first y.key.p x.pair.second y.key.q) x.pair.first
      x.pair.second ob w

-- What answers for the pairs of a specification say.
pub record IsRight (d : Specification) (answers : List PairAnswer) : Type 0 where
  -- Each refutation breaks an obligation of its pair.
  pub shown : AreShownToBreak d answers
  -- An obligation of each needed pair is broken where nothing conflicts.
  pub broken : (a b : ℕ) → is_needed answers a b ≡ true → IsBroken (bare d) a b
  -- Each set of pairs that is enough contains all needed ones.
  pub least : (inside : ℕ → ℕ → Bool) → IsEnough d inside → (a b : ℕ) → is_needed answers a b ≡ true
      → inside a b ≡ true
  -- All obligations of a pair hold that is neither needed nor unknown.
  pub free : (a b : ℕ) → IsPair d a b → is_needed answers a b ≡ false
      → is_unknown answers a b ≡ false → PairHolds (bare d) a b
  -- Where no pair is unknown the needed pairs are enough.
  pub enough : ((a b : ℕ) → is_unknown answers a b ≡ false) → IsEnough d (is_needed answers)
  -- Where `by P Q` stands, a conflict on equal arguments there is enough for the pair.
  pub keyed : (a b p q : ℕ) → is_enough_by answers a b p q ≡ true → PairHolds (keyed d a p b q) a b
