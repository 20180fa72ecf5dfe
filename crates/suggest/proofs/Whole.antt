-- A whole suggestion, and what a stopped one leaves.
use Rattle.std.proofs.Common.{◌≡◌, ℕ, ◌+◌, List, [], ◌++◌, length, take, Option, Ok, Err, refl, sym, ◌∙◌, ap, subst, append_assoc, append-nil, inl, inr}
use Rattle.std.specs.Io.KnownBytes.{Appends}
use Rattle.std.proofs.KnownBytes.{Appends-nil, Appends-trans}
use Rattle.std.proofs.Math.Seq.{take-append-add, take-length}
use Rattle.spec_core.specs.Specification.{Specification}
use Rattle.byte_ports.specs.declared.text.WriteOut.{WriteOut}
use Rattle.byte_ports.specs.Written.{IsText}
use Rattle.suggest.specs.Pairs.{pairs_of}
use Rattle.suggest.specs.Answers.{AreAnswers, counted}
use Rattle.suggest.specs.Texts.{head_text, end_text, pairs_text, opening_text, suggest_text, IsSuggestion}
use Rattle.suggest.specs.Writing.{AreWritten, ArePairs, IsSuggested}
use Rattle.suggest.specs.declared.answer.Pair.{Pair}
use Rattle.suggest.specs.declared.answer.SuggestTally.{SuggestTally}

module _ (d : Specification) (budget : ℕ) where
  -- nothing was written
  pub nothing_left : (held : Option (List ℕ)) (why : WriteOut) → IsSuggested d budget held held (Err why)
  nothing_left held why = ([], inr ([], 0, tt, refl), Appends-nil held)

  -- a front of the head was
  pub head_left : (before after : Option (List ℕ)) (why : WriteOut) → IsText {A = Unit {0}} (head_text d) before after (Err why) → IsSuggested d budget before after (Err why)
  head_left before after why t = (take t.0 (head_text d), inr ([], t.0, tt, ap (take t.0) (sym (append-nil (head_text d)))), t.1)

  -- the head was, and a front of the answers
  pub pairs_left : (before mid after : Option (List ℕ)) (why : WriteOut) → Appends before mid (head_text d) → ArePairs d budget mid after (Err why) → IsSuggested d budget before after (Err why)
  pairs_left before mid after why h b =
      let text = pairs_text d b.0 in (
        head_text d ++ take b.1 text,
        inr (b.0, length (head_text d) + b.1, b.2, sym (take-append-add (head_text d) text b.1)),
        Appends-trans before mid after (head_text d) (take b.1 text) h b.3,
      )

  module _ (tally : SuggestTally) (before mid late after : Option (List ℕ)) (h : Appends before mid (head_text d)) (w : AreWritten d budget (length (pairs_of d)) tally mid late) where
    abbrev text : List ℕ
    text = suggest_text d w.answers

    abbrev opening : List ℕ
    opening = opening_text d w.answers

    suggested : IsSuggestion d budget tally text
    suggested = record {
      answers = w.answers;
      good = subst (λ (ps : List Pair). AreAnswers d budget ps w.answers) (take-length (pairs_of d)) w.good;
      tally_is = w.tally_is;
      text_is = refl;
    }

    opened : Appends before late opening
    opened = Appends-trans before mid late (head_text d) (pairs_text d w.answers) h w.written

    ended : opening ++ end_text (counted w.answers) ≡ text
    ended = append_assoc (head_text d) (pairs_text d w.answers) (end_text (counted w.answers))

    -- the head and the answers were, and a front of the end
    pub end_left : (why : WriteOut) → IsText {A = Unit {0}} (end_text tally) late after (Err why) → IsSuggested d budget before after (Err why)
    end_left why t =
        let same : take t.0 (end_text tally) ≡ take t.0 (end_text (counted w.answers)) = ap (λ k. take t.0 (end_text k)) w.tally_is in (
          opening ++ take t.0 (end_text tally),
          inl (tally, text, length opening + t.0, suggested, ap (λ z. opening ++ z) same ∙ sym (take-append-add opening (end_text (counted w.answers)) t.0) ∙ ap (take (length opening + t.0)) ended),
          Appends-trans before late after opening (take t.0 (end_text tally)) opened t.1,
        )

    -- all was
    pub whole : Appends late after (end_text tally) → IsSuggested d budget before after (Ok tally)
    whole e = (
      text,
      suggested,
      subst (λ z. Appends before after z) (ap (λ k. opening ++ end_text k) w.tally_is ∙ ended) (Appends-trans before late after opening (end_text tally) opened e),
    )
