-- The text of a suggestion.
use Rattle.std.specs.Prelude.{◌≡◌, ◌⊎◌, ℕ, zero, suc, List, [], ◌∷◌, ◌++◌, length, get_or, codes, take}
use Rattle.std.specs.List.{flat_map}
use Rattle.std.specs.Fmt.{decimal}
use Rattle.spec_core.specs.declared.operation.Param.{Param}
use Rattle.spec_core.specs.declared.operation.Kind.TheVariants.{Int}
use Rattle.spec_core.specs.Specification.{Specification, op_of}
use Rattle.report_lines.specs.Words.{line_text}
use Rattle.report_lines.specs.Blocks.{operation_name}
use Rattle.proof_report.specs.declared.verdict.Verdict.TheVariants as verdicts
use Rattle.proof_report.specs.Texts.{block_text}
use Rattle.conflict_variants.specs.Bare.{bare}
use Rattle.conflict_variants.specs.Keyed.{keyed}
use Rattle.suggest.specs.Pairs.{pairs_of}
use Rattle.suggest.specs.Answers.{AreAnswers, AreAnswersSoFar, counted}
use Rattle.suggest.specs.declared.answer.Pair.{Pair}
use Rattle.suggest.specs.declared.answer.Found.{Found}
use Rattle.suggest.specs.declared.answer.Found.TheVariants as found
use Rattle.suggest.specs.declared.answer.KeyAnswer.{KeyAnswer}
use Rattle.suggest.specs.declared.answer.PairAnswer.{PairAnswer}
use Rattle.suggest.specs.declared.answer.SuggestTally.{SuggestTally}

-- what stands for a parameter that an operation doesn't have
abbrev pub no_param : Param
no_param = record { name = []; kind = Int }

-- the name of an operation's parameter
abbrev pub param_name : Specification → ℕ → ℕ → List ℕ
param_name d o p = (get_or (op_of d o).params p no_param).name

-- the block of the obligation that is refuted or undecided, in the specification in which it is
abbrev pub found_text : Specification → Found → List ℕ
found_text d found.Proved = []
found_text d (found.Refuted ob w) = block_text d ob (verdicts.Refuted w)
found_text d (found.Undecided ob cause) = block_text d ob (verdicts.Undecided cause)

-- the word of a pair
abbrev pub pair_word : Found → List ℕ
pair_word found.Proved = codes "free"
pair_word (found.Refuted ob w) = codes "needed"
pair_word (found.Undecided ob cause) = codes "unknown"

-- the word of two parameters
abbrev pub key_word : Found → List ℕ
key_word found.Proved = codes "by"
key_word (found.Refuted ob w) = codes "notby"
key_word (found.Undecided ob cause) = codes "openby"

-- `by P Q`, `notby P Q` and the block, or `openby P Q` and the block
abbrev pub key_text : Specification → Pair → KeyAnswer → List ℕ
key_text d pair y =
    line_text (key_word y.found ∷ param_name d pair.first y.key.p
    ∷ param_name d pair.second y.key.q ∷ [])
    ++ found_text (keyed d pair.first y.key.p pair.second y.key.q) y.found

-- `free A B`; or `needed A B`, the block and the parameters; or `unknown A B` and the block
abbrev pub pair_text : Specification → PairAnswer → List ℕ
pair_text d x =
    (line_text (pair_word x.found ∷ operation_name d x.pair.first
    ∷ operation_name d x.pair.second ∷ [])
    ++ found_text (bare d) x.found)
    ++ flat_map (key_text d x.pair) x.keys

-- the lines before the pairs
abbrev pub head_text : Specification → List ℕ
head_text d =
    line_text (codes "cise" ∷ codes "suggest" ∷ codes "1" ∷ [])
    ++ line_text (codes "pairs" ∷ decimal (length (pairs_of d)) ∷ [])

-- `complete` where no pair is unknown
abbrev pub last_word : ℕ → List ℕ
last_word zero = codes "complete"
last_word (suc n) = codes "undecided"

-- the lines after the pairs
abbrev pub end_text : SuggestTally → List ℕ
end_text t =
    line_text
    (codes "summary"
    ∷ codes "needed" ∷ decimal t.needed
    ∷ codes "free" ∷ decimal t.free
    ∷ codes "unknown" ∷ decimal t.unknown ∷ [])
    ++ line_text (last_word t.unknown ∷ [])

-- the texts of answers, one after the other
abbrev pub pairs_text : Specification → List PairAnswer → List ℕ
pairs_text d xs = flat_map (pair_text d) xs

-- The text of a suggestion: its head, the answer for each pair, and how many there are of each kind.
abbrev pub suggest_text : Specification → List PairAnswer → List ℕ
suggest_text d xs = head_text d ++ (pairs_text d xs ++ end_text (counted xs))

-- A suggestion for a specification: a good answer for each of its pairs, in order, how many there are of each kind, and their text.
pub record IsSuggestion (d : Specification) (budget : ℕ) (tally : SuggestTally)
    (text : List ℕ) : Type 0 where
  pub answers : List PairAnswer
  pub good : AreAnswers d budget (pairs_of d) answers
  pub tally_is : tally ≡ counted answers
  pub text_is : text ≡ suggest_text d answers

-- the lines before the pairs, and the answers for the first of them
abbrev pub opening_text : Specification → List PairAnswer → List ℕ
opening_text d xs = head_text d ++ pairs_text d xs

-- A stopped one has written a front of such a text; or of the head and good answers for the first pairs. Nothing is said of answers that
-- it didn't reach.
abbrev pub IsSuggestionFront : Specification → ℕ → List ℕ → Type 0
IsSuggestionFront d budget front =
    ((tally : SuggestTally) × (text : List ℕ) × (n : ℕ) × IsSuggestion d budget tally text
    × (front ≡ take n text))
    ⊎ ((xs : List PairAnswer) × (n : ℕ) × AreAnswersSoFar d budget (pairs_of d) xs
    × (front ≡ take n (opening_text d xs)))
