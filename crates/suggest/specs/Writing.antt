-- What the code of a suggestion has done after each of its steps.
use Rattle.std.specs.Prelude.{◌≡◌, ℕ, Bool, List, [], ◌∷◌, ◌++◌, length, Option, Result, Ok, Err, take}
use Rattle.std.specs.List.{flat_map, Contains}
use Rattle.std.specs.Io.KnownBytes.{Appends}
use Rattle.spec_core.specs.Specification.{Specification}
use Rattle.obligation_list.specs.Obligations.{IsObligation}
use Rattle.proof_report.specs.Texts.{WitnessFits}
use Rattle.byte_ports.specs.declared.text.WriteOut.{WriteOut}
use Rattle.byte_ports.specs.declared.text.WriteOut.TheVariants.{Fault, Memory}
use Rattle.check_run.specs.Checking.{Progress}
use Rattle.conflict_variants.specs.Bare.{bare}
use Rattle.conflict_variants.specs.Keyed.{keyed}
use Rattle.suggest.specs.Pairs.{IsPair, pairs_of}
use Rattle.report_lines.specs.Words.{line_text}
use Rattle.report_lines.specs.Blocks.{operation_name}
use Rattle.suggest.specs.Answers.{is_refuted, IsFoundIn, IsAnswer, AreAnswers, AreAnswersSoFar, AreKeyAnswers, with_answer, counted}
use Rattle.suggest.specs.Texts.{pair_word, found_text, pair_text, key_text, pairs_text, IsSuggestion, IsSuggestionFront}
use Rattle.suggest.specs.declared.answer.Pair.{Pair}
use Rattle.suggest.specs.declared.answer.Key.{Key}
use Rattle.suggest.specs.declared.answer.Found.{Found}
use Rattle.suggest.specs.declared.answer.Found.TheVariants as found
use Rattle.suggest.specs.declared.answer.KeyAnswer.{KeyAnswer}
use Rattle.suggest.specs.declared.answer.PairAnswer.{PairAnswer}
use Rattle.suggest.specs.declared.answer.SuggestTally.{SuggestTally}

-- These are the pairs of a specification's operations, in their order.
pub record AreListed (d : Specification) (pairs : List Pair) : Type 0 where
  pub list : pairs ≡ pairs_of d
  pub members : (x : Pair) → Contains pairs x → IsPair d x.first x.second

-- what is found has a text
abbrev pub CanBeWritten : Specification → Found → Type 0
CanBeWritten d found.Proved = Unit {0}
CanBeWritten d (found.Refuted ob w) = IsObligation d ob × WitnessFits d w
CanBeWritten d (found.Undecided ob cause) = IsObligation d ob

-- the entry of two parameters was appended, which is good
abbrev pub IsKeyAppended : Specification → ℕ → Pair → Key → List ℕ → List ℕ → Type 0
IsKeyAppended d budget pair k old new =
    (y : KeyAnswer) × (y.key ≡ k)
    × IsFoundIn (keyed d pair.first k.p pair.second k.q) budget pair.first pair.second y.found
    × (new ≡ old ++ key_text d pair y)

-- the entries of some parameters were
abbrev pub AreKeysAppended : Specification → ℕ → Pair → List Key → List ℕ → List ℕ → Type 0
AreKeysAppended d budget pair ks old new =
    (ys : List KeyAnswer) × AreKeyAnswers d budget pair.first pair.second ks ys
    × (new ≡ old ++ flat_map (key_text d pair) ys)

-- A draft is what was answered so far: the answers counted, and their text.
pub record Draft : Type 0 where
  pub tally : SuggestTally
  pub text : List ℕ

-- the draft with this tally and this text
abbrev pub draft : SuggestTally → List ℕ → Draft
draft tally text = record { tally = tally; text = text }

-- what a pair comes to in the bare specification was appended and counted, and this is whether it is needed
abbrev pub IsBareAppended : Specification → ℕ → Pair → Draft → Bool → Draft → Type 0
IsBareAppended d budget pair before needed after =
    (f : Found) × IsFoundIn (bare d) budget pair.first pair.second f × (needed ≡ is_refuted f)
    × (after.tally ≡ with_answer f before.tally)
    × (after.text ≡ before.text
    ++ (line_text (pair_word f ∷ operation_name d pair.first ∷ operation_name d pair.second ∷ [])
    ++ found_text (bare d) f))

-- the text of a good answer for a pair was appended, and the answer counted
abbrev pub IsPairAppended : Specification → ℕ → Pair → Draft → Draft → Type 0
IsPairAppended d budget pair before after =
    (x : PairAnswer) × IsAnswer d budget pair x × (after.tally ≡ with_answer x.found before.tally)
    × (after.text ≡ before.text ++ pair_text d x)

-- the text of a good answer was written, and the answer counted; or a front of it was written; or nothing
abbrev pub IsPairWritten : Specification → ℕ → Pair → Progress SuggestTally → Option (List ℕ)
    → Result SuggestTally WriteOut → Type 0
IsPairWritten d budget pair before held_after (Ok now) =
    (x : PairAnswer) × IsAnswer d budget pair x × (now ≡ with_answer x.found before.tally)
    × Appends before.held held_after (pair_text d x)
IsPairWritten d budget pair before held_after (Err Fault) =
    (x : PairAnswer) × (n : ℕ) × IsAnswer d budget pair x
    × Appends before.held held_after (take n (pair_text d x))
IsPairWritten d budget pair before held_after (Err Memory) = Appends before.held held_after []

-- the texts of good answers for the first pairs were written
pub record AreWritten (d : Specification) (budget n : ℕ) (tally : SuggestTally)
    (before after : Option (List ℕ)) : Type 0 where
  pub answers : List PairAnswer
  pub good : AreAnswers d budget (take n (pairs_of d)) answers
  pub tally_is : tally ≡ counted answers
  pub written : Appends before after (pairs_text d answers)

-- the texts of good answers for all pairs were written, or a front of the first of them
abbrev pub ArePairs : Specification → ℕ → Option (List ℕ) → Option (List ℕ)
    → Result SuggestTally WriteOut → Type 0
ArePairs d budget before after (Ok tally) =
    AreWritten d budget (length (pairs_of d)) tally before after
ArePairs d budget before after (Err why) =
    (xs : List PairAnswer) × (n : ℕ) × AreAnswersSoFar d budget (pairs_of d) xs
    × Appends before after (take n (pairs_text d xs))

-- The text of a suggestion was written, and its answers counted; or a front of it.
abbrev pub IsSuggested : Specification → ℕ → Option (List ℕ) → Option (List ℕ)
    → Result SuggestTally WriteOut → Type 0
IsSuggested d budget before after (Ok tally) =
    (text : List ℕ) × IsSuggestion d budget tally text × Appends before after text
IsSuggested d budget before after (Err why) =
    (front : List ℕ) × IsSuggestionFront d budget front × Appends before after front
