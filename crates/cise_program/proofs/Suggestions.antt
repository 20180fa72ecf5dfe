-- What a suggestion that was written says.
use Rattle.std.proofs.Common.{◌≡◌, ℕ, zero, suc, true, false, List, Option, Some, None, refl, sym, ◌∙◌, ap, subst, inl, inr}
use Rattle.std.specs.Io.KnownBytes.{Appends}
use Rattle.spec_core.specs.Specification.{Specification}
use Rattle.spec_from_bytes.specs.Refusal.{IsSpecificationOf}
use Rattle.suggest.specs.declared.answer.PairAnswer.{PairAnswer}
use Rattle.suggest.specs.Pairs.{pairs_of}
use Rattle.suggest.specs.Answers.{AreAnswers, AreAnswersSoFar, counted, is_unknown}
use Rattle.suggest.specs.Theorem.{AreShownToBreak, IsRight}
use Rattle.cise_program.specs.declared.words.Job.{Job}
use Rattle.cise_program.specs.declared.words.Job.TheVariants.{OfSpec}
use Rattle.cise_program.specs.declared.words.Task.TheVariants.{Suggest}
use Rattle.cise_program.specs.Words.{job_of}
use Rattle.cise_program.specs.Answer.{IsAnswerOf, IsAnswer}
use Rattle.cise_program.specs.commands.Suggest.{suggest_budget, status_by, IsSuggested}
use Rattle.cise_program.specs.Headline.{is_outcome, IsSuggestedRightly, SuggestsRightly}

-- what the layer below promises of suggestions
pub record OfSuggestions : Type 0 where
  pub right : (d : Specification) (budget : ℕ) (answers : List PairAnswer) → AreAnswers d budget (pairs_of d) answers → IsRight d answers
  pub so_far : (d : Specification) (budget : ℕ) (answers : List PairAnswer) → AreAnswersSoFar d budget (pairs_of d) answers → AreShownToBreak d answers
  pub complete : (answers : List PairAnswer) → (counted answers).unknown ≡ 0 → (a b : ℕ) → is_unknown answers a b ≡ false

none_unknown : (n status : ℕ) → status ≡ status_by n → status ≡ 0 → n ≡ 0
none_unknown zero status e h = refl
none_unknown (suc n) status e h = absurd (let k : 5 ≡ 0 = sym e ∙ h in cc)

pub right_suggested : (bytes : List ℕ) (d : Specification) (status : ℕ) (text : List ℕ) → OfSuggestions → IsSpecificationOf bytes d → IsSuggested d status text → IsSuggestedRightly bytes text status
right_suggested bytes d status text laws read s =
    let answers = s.suggested.answers in
    let right = laws.right d suggest_budget answers s.suggested.good in
    record {
      specification = d;
      read = read;
      answers = answers;
      written = s.suggested.text_is;
      right = right;
      enough = λ zero. right.enough (laws.complete answers (ap (λ t. t.unknown) (sym s.suggested.tally_is) ∙ none_unknown s.tally.unknown status s.status_is zero));
    }

not_three : (status : ℕ) → is_outcome status ≡ true → status ≡ 3 → ⊥
not_three status o e = absurd (cc (subst (λ n. is_outcome n ≡ true) e o))

suggested_of : (bytes more : List ℕ) (status : ℕ) (text : List ℕ) → OfSuggestions → is_outcome status ≡ true → IsAnswerOf Suggest bytes more status text → IsSuggestedRightly bytes text status
suggested_of bytes more status text laws o (inl (why, is, one)) = absurd (not_three status o one.0)
suggested_of bytes more status text laws o (inr (tree, d, read, s)) = right_suggested bytes d status text laws (tree, read) s

suggested_told : (told extra : Option (List ℕ)) (status : ℕ) (text : List ℕ) (before after : Option (List ℕ)) → OfSuggestions → is_outcome status ≡ true
    → IsAnswer (Some (OfSpec Suggest)) told extra status text → Appends before after text → SuggestsRightly told status (record { before = before; after = after })
suggested_told None extra status text before after laws o a w = tt
suggested_told (Some bytes) extra status text before after laws o (given, more, told, also, a) w =
    (text, w, subst (λ bs. IsSuggestedRightly bs text status) (sym told) (suggested_of given more status text laws o a))

pub suggested_rightly : (words : List (List ℕ)) (told extra : Option (List ℕ)) (status : ℕ) (text : List ℕ) (before after : Option (List ℕ)) → OfSuggestions → job_of words ≡ Some (OfSpec Suggest) → is_outcome status ≡ true
    → IsAnswer (job_of words) told extra status text → Appends before after text → SuggestsRightly told status (record { before = before; after = after })
suggested_rightly words told extra status text before after laws e o a w =
    suggested_told told extra status text before after laws o (subst (λ (j : Option Job). IsAnswer j told extra status text) e a) w
