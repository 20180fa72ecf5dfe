-- A whole report, and what a stopped check leaves of one.
use Rattle.std.proofs.Common.{◌≡◌, ℕ, suc, ◌+◌, ◌<◌, List, [], ◌∷◌, ◌++◌, length, take, Option, Ok, Err, refl, sym, ◌∙◌, ap, subst, append_assoc, append-nil, inl, inr, arith}
use Rattle.std.specs.Io.KnownBytes.{Appends}
use Rattle.std.proofs.KnownBytes.{Appends-nil, Appends-trans}
use Rattle.std.proofs.Math.Seq.{take-append-add, take-length}
use Rattle.spec_core.specs.Specification.{Specification}
use Rattle.obligation_list.specs.Obligations.{obligations_of}
use Rattle.report_lines.specs.declared.head.Tally.{Tally}
use Rattle.proof_report.specs.declared.verdict.Verdict.{Verdict}
use Rattle.proof_report.specs.Verdicts.{obligation_count}
use Rattle.proof_report.specs.Texts.{head_text, end_text}
use Rattle.report_bytes.specs.Showing.{blocks_text, written_text, AllFit}
use Rattle.check_run.proofs.Blocks.{from_first}
use Rattle.byte_ports.specs.declared.text.WriteOut.{WriteOut}
use Rattle.check_run.specs.Good.{AreGood}
use Rattle.check_run.specs.Reports.{tally_of, forms_of, written_version, opening_text, IsChecked}
use Rattle.byte_ports.specs.Written.{IsText}
use Rattle.check_run.specs.Checking.{AreFit, AreWritten, AreBlocks, IsReport}

module _ (d : Specification) (budget : ℕ) where
  all_fit : (k : ℕ) (vs : List Verdict) → AreFit d k vs → k + length vs ≡ obligation_count d → AllFit d written_version k vs
  all_fit k [] f e = (let h : k ≡ obligation_count d = omega (arith, e) in h)
  all_fit k (v ∷ vs) f e = ((let h : k < obligation_count d = omega (arith, e) in h), f.0, all_fit (suc k) vs f.1 (let h : suc k + length vs ≡ obligation_count d = omega (arith, e) in h))

  -- nothing was written
  pub nothing_left : (held : Option (List ℕ)) (why : WriteOut) → IsReport d budget held held (Err why)
  nothing_left held why = ([], inr ([], 0, tt, refl), Appends-nil held)

  -- a front of the head was
  pub head_left : (before after : Option (List ℕ)) (why : WriteOut) → IsText {A = Unit {0}} (head_text d written_version budget) before after (Err why) → IsReport d budget before after (Err why)
  head_left before after why t =
      (take t.0 (head_text d written_version budget), inr ([], t.0, tt, ap (take t.0) (sym (append-nil (head_text d written_version budget)))), t.1)

  -- the head was, and a front of the blocks
  pub blocks_left : (before mid after : Option (List ℕ)) (why : WriteOut) → Appends before mid (head_text d written_version budget) → AreBlocks d budget mid after (Err why) → IsReport d budget before after (Err why)
  blocks_left before mid after why h b =
      let text = blocks_text d 0 b.0 in (
        head_text d written_version budget ++ take b.1 text,
        inr (b.0, length (head_text d written_version budget) + b.1, b.2, sym (take-append-add (head_text d written_version budget) text b.1)),
        Appends-trans before mid after (head_text d written_version budget) (take b.1 text) h b.3,
      )

  module _ (tally : Tally) (before mid late after : Option (List ℕ)) (h : Appends before mid (head_text d written_version budget)) (w : AreWritten d budget (length (obligations_of d)) tally mid late) where
    abbrev text : List ℕ
    text = written_text d written_version budget w.verdicts

    abbrev opening : List ℕ
    opening = opening_text d budget w.verdicts

    checked : IsChecked d budget tally text
    checked = record {
      verdicts = w.verdicts;
      good = subst (λ os. AreGood d budget os (forms_of d w.verdicts)) (take-length (obligations_of d)) w.good;
      fit = all_fit 0 w.verdicts w.fit (from_first (length w.verdicts) (obligation_count d) w.many);
      tally_is = w.tally_is;
      text_is = refl;
    }

    opened : Appends before late opening
    opened = Appends-trans before mid late (head_text d written_version budget) (blocks_text d 0 w.verdicts) h w.written

    ended : opening ++ end_text (tally_of (forms_of d w.verdicts)) ≡ text
    ended = append_assoc (head_text d written_version budget) (blocks_text d 0 w.verdicts) (end_text (tally_of (forms_of d w.verdicts)))

    -- the head and the blocks were, and a front of the end
    pub end_left : (why : WriteOut) → IsText {A = Unit {0}} (end_text tally) late after (Err why) → IsReport d budget before after (Err why)
    end_left why t =
        let same : take t.0 (end_text tally) ≡ take t.0 (end_text (tally_of (forms_of d w.verdicts))) = ap (λ k. take t.0 (end_text k)) w.tally_is in (
          opening ++ take t.0 (end_text tally),
          inl (tally, text, length opening + t.0, checked, ap (λ z. opening ++ z) same ∙ sym (take-append-add opening (end_text (tally_of (forms_of d w.verdicts))) t.0) ∙ ap (take (length opening + t.0)) ended),
          Appends-trans before late after opening (take t.0 (end_text tally)) opened t.1,
        )

    -- all was
    pub whole : Appends late after (end_text tally) → IsReport d budget before after (Ok tally)
    whole e = (
      text,
      checked,
      subst (λ z. Appends before after z) (ap (λ k. opening ++ end_text k) w.tally_is ∙ ended) (Appends-trans before late after opening (end_text tally) opened e),
    )
