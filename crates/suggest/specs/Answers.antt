-- What is answered for each pair of operations, and when an answer is good.
use Rattle.std.specs.Prelude.{◌≡◌, ◌⊎◌, ℕ, suc, Bool, true, false, ◌&&◌, ◌==◌, List, [], ◌∷◌, ◌++◌}
use Rattle.std.specs.List.{list_any, Contains}
use Rattle.spec_core.specs.Specification.{Specification}
use Rattle.spec_core.specs.Typed.{is_specification}
use Rattle.obligation_list.specs.declared.obligation.Obligation.{Obligation}
use Rattle.obligation_list.specs.declared.witness.Witness.{Witness}
use Rattle.proof_lines.specs.declared.line.Line.{Line}
use Rattle.proof_report.specs.declared.verdict.Cause.{Cause}
use Rattle.proof_report.specs.Verdicts.{proved, refuted}
use Rattle.report_bytes.specs.Showing.{shown_by, shown_cause}
use Rattle.check_run.specs.Good.{IsGood}
use Rattle.conflict_variants.specs.Bare.{bare}
use Rattle.conflict_variants.specs.Keyed.{keyed}
use Rattle.suggest.specs.Pairs.{obligations_of_pair, keys_of}
use Rattle.suggest.specs.declared.answer.Pair.{Pair}
use Rattle.suggest.specs.declared.answer.Key.{Key}
use Rattle.suggest.specs.declared.answer.Found.{Found}
use Rattle.suggest.specs.declared.answer.Found.TheVariants as found
use Rattle.suggest.specs.declared.answer.KeyAnswer.{KeyAnswer}
use Rattle.suggest.specs.declared.answer.PairAnswer.{PairAnswer}
use Rattle.suggest.specs.declared.answer.SuggestTally.{SuggestTally}

-- ---- what the obligations of a pair come to

-- a log proves an obligation
abbrev pub HasLog : Specification → ℕ → Obligation → Type 0
HasLog d budget ob = (log : List Line) × IsGood d budget ob (proved log)

-- for each of these obligations a log proves it
abbrev pub HaveLogs : Specification → ℕ → List Obligation → Type 0
HaveLogs d budget obs = (ob : Obligation) → Contains obs ob → HasLog d budget ob

-- A log proves an obligation in the specification, or where nothing conflicts. What holds where all calls may run together holds where some
-- of them may not.
abbrev pub HasProof : Specification → ℕ → Obligation → Type 0
HasProof d budget ob = HasLog d budget ob ⊎ HasLog (bare d) budget ob

-- an obligation is proved, or undecided with evidence of a cause
abbrev pub HasNoRefutation : Specification → ℕ → Obligation → Type 0
HasNoRefutation d budget ob =
    HasProof d budget ob ⊎ ((cause : Cause) × IsGood d budget ob (shown_cause cause))

-- The first of these obligations that is refuted, by what is shown of a witness: those before it have verdicts that don't refute them.
pub record IsFirstRefuted (d : Specification) (budget : ℕ) (obs : List Obligation) (ob : Obligation)
    (w : Witness) : Type 0 where
  pub before : List Obligation
  pub behind : List Obligation
  pub listed : obs ≡ before ++ ob ∷ behind
  pub earlier : (x : Obligation) → Contains before x → HasNoRefutation d budget x
  pub refutes : IsGood d budget ob (refuted (shown_by d w) w.elements)

-- None of these obligations is refuted, and this is the first one that is undecided, with the evidence of a cause: those before it are
-- proved.
pub record IsFirstUndecided (d : Specification) (budget : ℕ) (obs : List Obligation)
    (ob : Obligation) (cause : Cause) : Type 0 where
  pub before : List Obligation
  pub behind : List Obligation
  pub listed : obs ≡ before ++ ob ∷ behind
  pub earlier : (x : Obligation) → Contains before x → HasProof d budget x
  pub evidence : IsGood d budget ob (shown_cause cause)
  pub later : (x : Obligation) → Contains behind x → HasNoRefutation d budget x

-- What obligations come to: one of them is refuted; or none is, and one is undecided; or all are proved.
abbrev pub IsFound : Specification → ℕ → List Obligation → Found → Type 0
IsFound d budget obs found.Proved = (x : Obligation) → Contains obs x → HasProof d budget x
IsFound d budget obs (found.Refuted ob w) = IsFirstRefuted d budget obs ob w
IsFound d budget obs (found.Undecided ob cause) = IsFirstUndecided d budget obs ob cause

-- what the obligations of a pair come to in a specification
pub record IsFoundIn (d : Specification) (budget a b : ℕ) (f : Found) : Type 0 where
  pub specified : is_specification d ≡ true
  pub comes_to : IsFound d budget (obligations_of_pair d a b) f

-- ---- the answers

-- one of the obligations is refuted
abbrev pub is_refuted : Found → Bool
is_refuted found.Proved = false
is_refuted (found.Refuted ob w) = true
is_refuted (found.Undecided ob cause) = false

-- none of the obligations is refuted, and one is undecided
abbrev pub is_undecided : Found → Bool
is_undecided found.Proved = false
is_undecided (found.Refuted ob w) = false
is_undecided (found.Undecided ob cause) = true

-- all obligations are proved
abbrev pub is_proved : Found → Bool
is_proved found.Proved = true
is_proved (found.Refuted ob w) = false
is_proved (found.Undecided ob cause) = false

-- a needed pair is tried at each two parameters of one sort, no other pair is
abbrev pub keys_after : Found → List Key → List Key
keys_after found.Proved ks = []
keys_after (found.Refuted ob w) ks = ks
keys_after (found.Undecided ob cause) ks = []

-- for each two parameters, what the pair comes to where the two operations are keyed on them
abbrev pub AreKeyAnswers : Specification → ℕ → ℕ → ℕ → List Key → List KeyAnswer → Type 0
AreKeyAnswers d budget a b [] [] = Unit {0}
AreKeyAnswers d budget a b [] (y ∷ ys) = ⊥
AreKeyAnswers d budget a b (k ∷ ks) [] = ⊥
AreKeyAnswers d budget a b (k ∷ ks) (y ∷ ys) =
    (y.key ≡ k) × IsFoundIn (keyed d a k.p b k.q) budget a b y.found
    × AreKeyAnswers d budget a b ks ys

-- An answer for a pair: what it comes to in the bare specification, and, where it is needed, in each keyed one.
pub record IsAnswer (d : Specification) (budget : ℕ) (pair : Pair) (x : PairAnswer) : Type 0 where
  pub pair_is : x.pair ≡ pair
  pub bare_found : IsFoundIn (bare d) budget pair.first pair.second x.found
  pub keys : AreKeyAnswers d budget pair.first pair.second
      (keys_after x.found (keys_of d pair.first pair.second)) x.keys

-- an answer for each of these pairs
abbrev pub AreAnswers : Specification → ℕ → List Pair → List PairAnswer → Type 0
AreAnswers d budget [] [] = Unit {0}
AreAnswers d budget [] (x ∷ xs) = ⊥
AreAnswers d budget (p ∷ ps) [] = ⊥
AreAnswers d budget (p ∷ ps) (x ∷ xs) = IsAnswer d budget p x × AreAnswers d budget ps xs

-- answers for a front of these pairs
abbrev pub AreAnswersSoFar : Specification → ℕ → List Pair → List PairAnswer → Type 0
AreAnswersSoFar d budget ps [] = Unit {0}
AreAnswersSoFar d budget [] (x ∷ xs) = ⊥
AreAnswersSoFar d budget (p ∷ ps) (x ∷ xs) = IsAnswer d budget p x × AreAnswersSoFar d budget ps xs

-- ---- how many there are

-- nothing is counted yet
abbrev pub no_answers : SuggestTally
no_answers = record { needed = 0; free = 0; unknown = 0 }

-- one answer more: a refuted pair is needed, a proved one free, and an undecided one unknown
abbrev pub with_answer : Found → SuggestTally → SuggestTally
with_answer found.Proved t = record { needed = t.needed; free = suc t.free; unknown = t.unknown }
with_answer (found.Refuted ob w) t =
    record { needed = suc t.needed; free = t.free; unknown = t.unknown }
with_answer (found.Undecided ob cause) t =
    record { needed = t.needed; free = t.free; unknown = suc t.unknown }

-- how many answers of each kind there are, with those that were counted before
abbrev pub counted_from : SuggestTally → List PairAnswer → SuggestTally
counted_from t [] = t
counted_from t (x ∷ xs) = counted_from (with_answer x.found t) xs

-- how many answers of each kind there are
abbrev pub counted : List PairAnswer → SuggestTally
counted xs = counted_from no_answers xs

-- ---- sets of pairs

-- an answer for this pair
abbrev pub is_for : ℕ → ℕ → PairAnswer → Bool
is_for a b x = (x.pair.first == a) && (x.pair.second == b)

-- the pairs that are answered to be needed
abbrev pub is_needed : List PairAnswer → ℕ → ℕ → Bool
is_needed xs a b = list_any (λ x. is_for a b x && is_refuted x.found) xs

-- the pairs that are answered to be unknown
abbrev pub is_unknown : List PairAnswer → ℕ → ℕ → Bool
is_unknown xs a b = list_any (λ x. is_for a b x && is_undecided x.found) xs

-- an entry for these two parameters
abbrev pub is_key : ℕ → ℕ → KeyAnswer → Bool
is_key p q y = (y.key.p == p) && (y.key.q == q)

-- a conflict of a pair on equal arguments at these two parameters is answered to be enough
abbrev pub is_enough_by : List PairAnswer → ℕ → ℕ → ℕ → ℕ → Bool
is_enough_by xs a b p q =
    list_any (λ x. is_for a b x && list_any (λ y. is_key p q y && is_proved y.found) x.keys) xs
