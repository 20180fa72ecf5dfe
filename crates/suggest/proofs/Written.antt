-- Answers that are written one after the other.
use Rattle.std.proofs.Common.{◌≡◌, ℕ, suc, ◌+◌, List, [], ◌∷◌, ◌++◌, length, take, Option, Ok, Err, refl, sym, ◌∙◌, ap, subst, append-nil, get_or, drop, ◌<◌, ◌≤◌, arith}
use Rattle.std.proofs.lemmas.List.{take-append-drop}
use Rattle.std.proofs.lemmas.Grind.{flat_map-append}
use Rattle.std.specs.Io.KnownBytes.{Appends}
use Rattle.std.proofs.KnownBytes.{Appends-nil, Appends-trans}
use Rattle.std.proofs.Math.Seq.{take-append-add, take-append_seam, take-suc, take-length}
use Rattle.spec_core.specs.Specification.{Specification}
use Rattle.byte_ports.specs.declared.text.WriteOut.{WriteOut}
use Rattle.byte_ports.specs.declared.text.WriteOut.TheVariants.{Fault, Memory}
use Rattle.byte_ports.specs.Written.{IsText}
use Rattle.check_run.specs.Checking.{progress}
use Rattle.suggest.specs.Pairs.{pairs_of}
use Rattle.suggest.specs.Answers.{IsAnswer, AreAnswers, AreAnswersSoFar, no_answers, with_answer, counted_from}
use Rattle.suggest.specs.Texts.{pair_text, pairs_text}
use Rattle.suggest.specs.Writing.{draft, IsPairAppended, IsPairWritten, AreWritten, ArePairs}
use Rattle.suggest.specs.declared.answer.Pair.{Pair}
use Rattle.suggest.specs.declared.answer.PairAnswer.{PairAnswer}
use Rattle.suggest.specs.declared.answer.SuggestTally.{SuggestTally}

counted_append : (t : SuggestTally) (xs ys : List PairAnswer) → counted_from t (xs ++ ys) ≡ counted_from (counted_from t xs) ys
counted_append t [] ys = refl
counted_append t (x ∷ xs) ys = counted_append (with_answer x.found t) xs ys

one_more : (ps : List Pair) (i : ℕ) (p : Pair) → i < length ps → take (i + 1) ps ≡ take i ps ++ get_or ps i p ∷ []
one_more ps i p h = ap (λ n. take n ps) (let e : i + 1 ≡ suc i = omega arith in e) ∙ take-suc ps i p h

at_end : (ps : List Pair) (i : ℕ) → length ps ≤ i → i ≤ length ps → i ≡ length ps
at_end ps i h k = omega (arith, h, k)

module _ (d : Specification) (budget : ℕ) where
  good_next : (ps : List Pair) (xs : List PairAnswer) (p : Pair) (x : PairAnswer) → AreAnswers d budget ps xs → IsAnswer d budget p x → AreAnswers d budget (ps ++ p ∷ []) (xs ++ x ∷ [])
  good_next [] [] p x g h = (h, tt)
  good_next [] (y ∷ xs) p x g h = absurd g
  good_next (q ∷ ps) [] p x g h = absurd g
  good_next (q ∷ ps) (y ∷ xs) p x g h = (g.0, good_next ps xs p x g.1 h)

  good_so_far : (ps more : List Pair) (xs : List PairAnswer) → AreAnswers d budget ps xs → AreAnswersSoFar d budget (ps ++ more) xs
  good_so_far [] more [] g = tt
  good_so_far [] more (x ∷ xs) g = absurd g
  good_so_far (p ∷ ps) more [] g = tt
  good_so_far (p ∷ ps) more (x ∷ xs) g = (g.0, good_so_far ps more xs g.1)

  pub pair_answered : (ps : List Pair) (i : ℕ) (default : Pair) (xs : List PairAnswer) (x : PairAnswer) → i < length ps → AreAnswers d budget (take i ps) xs → IsAnswer d budget (get_or ps i default) x → AreAnswers d budget (take (i + 1) ps) (xs ++ x ∷ [])
  pair_answered ps i default xs x lt g h = subst (λ (qs : List Pair). AreAnswers d budget qs (xs ++ x ∷ [])) (sym (one_more ps i default lt)) (good_next (take i ps) xs (get_or ps i default) x g h)

  pub all_answered : (ps : List Pair) (i : ℕ) (xs : List PairAnswer) → length ps ≤ i → i ≤ length ps → AreAnswers d budget (take i ps) xs → AreAnswers d budget ps xs
  all_answered ps i xs h k g = subst (λ (qs : List Pair). AreAnswers d budget qs xs) (ap (λ n. take n ps) (at_end ps i h k) ∙ take-length ps) g

  text_next : (xs : List PairAnswer) (x : PairAnswer) → pairs_text d (xs ++ x ∷ []) ≡ pairs_text d xs ++ pair_text d x
  text_next xs x = flat_map-append (pair_text d) xs (x ∷ []) ∙ ap (λ t. pairs_text d xs ++ t) (append-nil (pair_text d x))

  -- the text of an answer was written, or a front of it
  pub text_written : (pair : Pair) (told now : SuggestTally) (old text slice : List ℕ) (before after : Option (List ℕ)) → old ≡ [] → slice ≡ text → IsPairAppended d budget pair (draft told old) (draft now text)
      → Appends before after slice → IsPairWritten d budget pair (progress told before) after (Ok now)
  text_written pair told now old text slice before after o e b w =
      (b.0, b.1, b.2, subst (λ z. Appends before after z) (e ∙ b.3 ∙ ap (λ z. z ++ pair_text d b.0) o) w)

  pub text_stopped : (pair : Pair) (told now : SuggestTally) (old text slice : List ℕ) (before after : Option (List ℕ)) (why : WriteOut) → old ≡ [] → slice ≡ text → IsPairAppended d budget pair (draft told old) (draft now text)
      → why ≡ Fault → IsText {A = Unit {0}} slice before after (Err why) → IsPairWritten d budget pair (progress told before) after (Err why)
  text_stopped pair told now old text slice before after Fault o e b f t =
      (b.0, t.0, b.1, subst (λ z. Appends before after (take t.0 z)) (e ∙ b.3 ∙ ap (λ z. z ++ pair_text d b.0) o) t.1)
  text_stopped pair told now old text slice before after Memory o e b f t = absurd cc

  -- no answer was written
  pub none_written : (held : Option (List ℕ)) → AreWritten d budget 0 no_answers held held
  none_written held = record { answers = []; good = tt; tally_is = refl; written = Appends-nil held }

  module _ (i : ℕ) (told : SuggestTally) (before mid after : Option (List ℕ)) (default : Pair) (here : i < length (pairs_of d)) (w : AreWritten d budget i told before mid) where
    abbrev pair : Pair
    pair = get_or (pairs_of d) i default

    abbrev so_far : List ℕ
    so_far = pairs_text d w.answers

    good_with : (x : PairAnswer) → IsAnswer d budget pair x → AreAnswers d budget (take (i + 1) (pairs_of d)) (w.answers ++ x ∷ [])
    good_with x g = subst (λ (ps : List Pair). AreAnswers d budget ps (w.answers ++ x ∷ [])) (sym (one_more (pairs_of d) i default here)) (good_next (take i (pairs_of d)) w.answers pair x w.good g)

    -- one more was
    pub next_written : (now : SuggestTally) → IsPairWritten d budget pair (progress told mid) after (Ok now) → AreWritten d budget (i + 1) now before after
    next_written now b =
        let x = b.0 in
        record {
          answers = w.answers ++ x ∷ [];
          good = good_with x b.1;
          tally_is = b.2 ∙ ap (with_answer x.found) w.tally_is ∙ sym (counted_append no_answers w.answers (x ∷ []));
          written = subst (λ z. Appends before after z) (sym (text_next w.answers x)) (Appends-trans before mid after so_far (pair_text d x) w.written b.3);
        }

    -- a front of one more was, or nothing more
    pub stopped_written : (why : WriteOut) → IsPairWritten d budget pair (progress told mid) after (Err why) → ArePairs d budget before after (Err why)
    stopped_written Fault b =
        let x = b.0 in
        let front : so_far ++ take b.1 (pair_text d x) ≡ take (length so_far + b.1) (pairs_text d (w.answers ++ x ∷ [])) = sym (take-append-add so_far (pair_text d x) b.1) ∙ ap (take (length so_far + b.1)) (sym (text_next w.answers x)) in (
          w.answers ++ x ∷ [],
          length so_far + b.1,
          subst (λ (ps : List Pair). AreAnswersSoFar d budget ps (w.answers ++ x ∷ [])) (take-append-drop (i + 1) (pairs_of d)) (good_so_far (take (i + 1) (pairs_of d)) (drop (i + 1) (pairs_of d)) (w.answers ++ x ∷ []) (good_with x b.2)),
          subst (λ z. Appends before after z) front (Appends-trans before mid after so_far (take b.1 (pair_text d x)) w.written b.3),
        )
    stopped_written Memory b =
        let front : so_far ++ [] ≡ take (length so_far) so_far = append-nil so_far ∙ sym (take-append_seam so_far []) ∙ ap (take (length so_far)) (append-nil so_far) in (
          w.answers,
          length so_far,
          subst (λ (ps : List Pair). AreAnswersSoFar d budget ps w.answers) (take-append-drop i (pairs_of d)) (good_so_far (take i (pairs_of d)) (drop i (pairs_of d)) w.answers w.good),
          subst (λ z. Appends before after z) front (Appends-trans before mid after so_far [] w.written b),
        )

  pub all_written : (i : ℕ) (told : SuggestTally) (before after : Option (List ℕ)) → length (pairs_of d) ≤ i → i ≤ length (pairs_of d) → AreWritten d budget i told before after → AreWritten d budget (length (pairs_of d)) told before after
  all_written i told before after h k w = subst (λ (n : ℕ). AreWritten d budget n told before after) (at_end (pairs_of d) i h k) w
