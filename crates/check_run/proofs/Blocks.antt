-- Verdicts that are counted, and blocks that are written, one after the other.
use Rattle.std.proofs.Common.{◌≡◌, ℕ, suc, ◌+◌, List, [], ◌∷◌, ◌++◌, length, take, Option, Ok, Err, refl, sym, ◌∙◌, ap, subst, append_assoc, append-nil, get_or, drop, ◌<◌, ◌≤◌, arith}
use Rattle.std.proofs.lemmas.List.{map-append, length-append, take-append-drop}
use Rattle.std.specs.Io.KnownBytes.{Appends}
use Rattle.std.proofs.KnownBytes.{Appends-nil, Appends-trans}
use Rattle.std.proofs.Math.Seq.{take-append-add, take-append_seam, take-suc, take-length}
use Rattle.spec_core.specs.Specification.{Specification}
use Rattle.obligation_list.specs.declared.obligation.Obligation.{Obligation}
use Rattle.obligation_list.specs.declared.obligation.Obligation.TheVariants.{Init}
use Rattle.obligation_list.specs.Obligations.{obligations_of}
use Rattle.report_lines.specs.declared.head.Tally.{Tally}
use Rattle.proof_report.specs.declared.verdict.Verdict.{Verdict}
use Rattle.proof_report.specs.Verdicts.{VerdictForm, proved, refuted, instances, lines, rows, range, obligation_at}
use Rattle.proof_report.specs.Events.{told, no_verdicts, with_verdict}
use Rattle.proof_report.specs.Texts.{block_text}
use Rattle.report_bytes.specs.Showing.{shown_verdict, counted, blocks_text, IsFit}
use Rattle.byte_ports.specs.declared.text.WriteOut.{WriteOut}
use Rattle.byte_ports.specs.declared.text.WriteOut.TheVariants.{Fault, Memory}
use Rattle.check_run.specs.Good.{IsGood, AreGood, AreGoodSoFar}
use Rattle.check_run.specs.Reports.{tally_of, forms_of, AreDecided, written_version}
use Rattle.check_run.specs.Checking.{IsCounted, progress, IsBlock, AreFit, AreWritten, AreBlocks}

-- ---- tallies

counted-append : (t : Tally) (fs gs : List VerdictForm) → counted t (fs ++ gs) ≡ counted (counted t fs) gs
counted-append t [] gs = refl
counted-append t (f ∷ fs) gs = counted-append (with_verdict f t) fs gs

tally_next : (fs : List VerdictForm) (f : VerdictForm) → tally_of (fs ++ f ∷ []) ≡ with_verdict f (tally_of fs)
tally_next fs f = counted-append no_verdicts fs (f ∷ [])

undecided_more : (a b c : ℕ) → a + (b + suc c) ≡ a + (b + c) + 1
undecided_more a b c = omega arith

-- a verdict more is counted
pub told_next : (f : VerdictForm) (t : Tally) → told (with_verdict f t) ≡ told t + 1
told_next (proved log) t = counted_more t.proved t.refuted t.undecided
  where
    counted_more : (a b c : ℕ) → suc a + (b + c) ≡ a + (b + c) + 1
    counted_more a b c = omega arith
told_next (refuted p es) t = counted_more t.proved t.refuted t.undecided
  where
    counted_more : (a b c : ℕ) → a + (suc b + c) ≡ a + (b + c) + 1
    counted_more a b c = omega arith
told_next instances t = undecided_more t.proved t.refuted t.undecided
told_next (lines log) t = undecided_more t.proved t.refuted t.undecided
told_next (rows log r) t = undecided_more t.proved t.refuted t.undecided
told_next (range log r) t = undecided_more t.proved t.refuted t.undecided

-- ---- places of the list

pub from_first : (n i : ℕ) → n ≡ i → 0 + n ≡ i
from_first n i e = omega (arith, e)

one_more : (obs : List Obligation) (i : ℕ) → i < length obs → take (i + 1) obs ≡ take i obs ++ get_or obs i (Init 0) ∷ []
one_more obs i h = ap (λ n. take n obs) (let e : i + 1 ≡ suc i = omega arith in e) ∙ take-suc obs i (Init 0) h

at_end : (obs : List Obligation) (i : ℕ) → length obs ≤ i → i ≤ length obs → i ≡ length obs
at_end obs i h k = omega (arith, h, k)

whole_list : (obs : List Obligation) (i : ℕ) → length obs ≤ i → i ≤ length obs → take i obs ≡ obs
whole_list obs i h k = ap (λ n. take n obs) (at_end obs i h k) ∙ take-length obs

module _ (d : Specification) (budget : ℕ) where
  good_next : (obs : List Obligation) (fs : List VerdictForm) (ob : Obligation) (f : VerdictForm) → AreGood d budget obs fs → IsGood d budget ob f → AreGood d budget (obs ++ ob ∷ []) (fs ++ f ∷ [])
  good_next [] [] ob f g h = (h, tt)
  good_next [] (x ∷ fs) ob f g h = absurd g
  good_next (o ∷ obs) [] ob f g h = absurd g
  good_next (o ∷ obs) (x ∷ fs) ob f g h = (g.0, good_next obs fs ob f g.1 h)

  good_so_far : (obs more : List Obligation) (fs : List VerdictForm) → AreGood d budget obs fs → AreGoodSoFar d budget (obs ++ more) fs
  good_so_far [] more [] g = tt
  good_so_far [] more (x ∷ fs) g = absurd g
  good_so_far (o ∷ obs) more [] g = tt
  good_so_far (o ∷ obs) more (x ∷ fs) g = (g.0, good_so_far obs more fs g.1)

  -- ---- counting

  pub none_decided : AreDecided d budget [] no_verdicts
  none_decided = record { verdicts = []; good = tt; tally_is = refl }

  pub decided_at : (obs : List Obligation) (i : ℕ) (told now : Tally) → i < length obs → AreDecided d budget (take i obs) told → IsCounted d budget (get_or obs i (Init 0)) told now → AreDecided d budget (take (i + 1) obs) now
  decided_at obs i told now h a b = record {
    verdicts = a.verdicts ++ b.0 ∷ [];
    good = subst (λ os. AreGood d budget os (a.verdicts ++ b.0 ∷ [])) (sym (one_more obs i h)) (good_next (take i obs) a.verdicts (get_or obs i (Init 0)) b.0 a.good b.1);
    tally_is = b.2 ∙ ap (with_verdict b.0) a.tally_is ∙ sym (tally_next a.verdicts b.0);
  }

  pub all_decided : (obs : List Obligation) (i : ℕ) (told : Tally) → length obs ≤ i → i ≤ length obs → AreDecided d budget (take i obs) told → AreDecided d budget obs told
  all_decided obs i told h k a = subst (λ os. AreDecided d budget os told) (whole_list obs i h k) a

  -- ---- writing

  forms_next : (vs : List Verdict) (v : Verdict) → forms_of d (vs ++ v ∷ []) ≡ forms_of d vs ++ shown_verdict d v ∷ []
  forms_next vs v = map-append (shown_verdict d) vs (v ∷ [])

  place_next : (k : ℕ) (v : Verdict) (vs : List Verdict) → suc k + length vs ≡ k + length (v ∷ vs)
  place_next k v vs = later k (length vs)
    where
      later : (k n : ℕ) → suc k + n ≡ k + suc n
      later k n = omega arith

  text_next : (k : ℕ) (vs : List Verdict) (v : Verdict) → blocks_text d k (vs ++ v ∷ []) ≡ blocks_text d k vs ++ block_text d (obligation_at d (k + length vs)) v
  text_next k [] v = append-nil (block_text d (obligation_at d k) v) ∙ ap (λ n. block_text d (obligation_at d n) v) (let e : k ≡ k + 0 = omega arith in e)
  text_next k (x ∷ vs) v =
      ap (λ z. block_text d (obligation_at d k) x ++ z) (text_next (suc k) vs v ∙ ap (λ n. blocks_text d (suc k) vs ++ block_text d (obligation_at d n) v) (place_next k x vs))
      ∙ sym (append_assoc (block_text d (obligation_at d k) x) (blocks_text d (suc k) vs) (block_text d (obligation_at d (k + length (x ∷ vs))) v))

  fit_next : (k : ℕ) (vs : List Verdict) (v : Verdict) → AreFit d k vs → IsFit d written_version (obligation_at d (k + length vs)) v → AreFit d k (vs ++ v ∷ [])
  fit_next k [] v f h = (subst (λ n. IsFit d written_version (obligation_at d n) v) (let e : k + 0 ≡ k = omega arith in e) h, tt)
  fit_next k (x ∷ vs) v f h = (f.0, fit_next (suc k) vs v f.1 (subst (λ n. IsFit d written_version (obligation_at d n) v) (sym (place_next k x vs)) h))

  -- no block was written
  pub none_written : (held : Option (List ℕ)) → AreWritten d budget 0 no_verdicts held held
  none_written held = record { verdicts = []; many = refl; good = tt; fit = tt; tally_is = refl; written = Appends-nil held }

  module _ (i : ℕ) (told : Tally) (before mid after : Option (List ℕ)) (here : i < length (obligations_of d)) (w : AreWritten d budget i told before mid) where
    abbrev ob : Obligation
    ob = obligation_at d i

    abbrev so_far : List ℕ
    so_far = blocks_text d 0 w.verdicts

    good_with : (v : Verdict) → IsGood d budget ob (shown_verdict d v) → AreGood d budget (take (i + 1) (obligations_of d)) (forms_of d (w.verdicts ++ v ∷ []))
    good_with v g =
        subst (λ os. AreGood d budget os (forms_of d (w.verdicts ++ v ∷ []))) (sym (one_more (obligations_of d) i here))
        (subst (λ fs. AreGood d budget (take i (obligations_of d) ++ ob ∷ []) fs) (sym (forms_next w.verdicts v)) (good_next (take i (obligations_of d)) (forms_of d w.verdicts) ob (shown_verdict d v) w.good g))

    text_with : (v : Verdict) → blocks_text d 0 (w.verdicts ++ v ∷ []) ≡ so_far ++ block_text d ob v
    text_with v = text_next 0 w.verdicts v ∙ ap (λ n. so_far ++ block_text d (obligation_at d n) v) (from_first (length w.verdicts) i w.many)

    -- one more was
    pub next_written : (now : Tally) → IsBlock d budget ob (progress told mid) (progress now after) (Ok tt) → AreWritten d budget (i + 1) now before after
    next_written now b =
        let v = b.0 in
        record {
          verdicts = w.verdicts ++ v ∷ [];
          many = length-append w.verdicts (v ∷ []) ∙ ap (λ n. n + 1) w.many;
          good = good_with v b.1.good;
          fit = fit_next 0 w.verdicts v w.fit (subst (λ n. IsFit d written_version (obligation_at d n) v) (sym (from_first (length w.verdicts) i w.many)) b.1.fit);
          tally_is = b.2 ∙ ap (with_verdict (shown_verdict d v)) w.tally_is ∙ sym (tally_next (forms_of d w.verdicts) (shown_verdict d v)) ∙ ap tally_of (sym (forms_next w.verdicts v));
          written = subst (λ z. Appends before after z) (sym (text_with v)) (Appends-trans before mid after so_far (block_text d ob v) w.written b.3);
        }

    -- a front of one more was, or nothing more
    pub stopped_written : (now : Tally) (why : WriteOut) → IsBlock d budget ob (progress told mid) (progress now after) (Err why) → AreBlocks d budget before after (Err why)
    stopped_written now Fault b =
        let v = b.0 in
        let front : so_far ++ take b.1 (block_text d ob v) ≡ take (length so_far + b.1) (blocks_text d 0 (w.verdicts ++ v ∷ [])) = sym (take-append-add so_far (block_text d ob v) b.1) ∙ ap (take (length so_far + b.1)) (sym (text_with v)) in (
          w.verdicts ++ v ∷ [],
          length so_far + b.1,
          subst (λ os. AreGoodSoFar d budget os (forms_of d (w.verdicts ++ v ∷ []))) (take-append-drop (i + 1) (obligations_of d)) (good_so_far (take (i + 1) (obligations_of d)) (drop (i + 1) (obligations_of d)) (forms_of d (w.verdicts ++ v ∷ [])) (good_with v b.2.good)),
          subst (λ z. Appends before after z) front (Appends-trans before mid after so_far (take b.1 (block_text d ob v)) w.written b.3),
        )
    stopped_written now Memory b =
        let front : so_far ++ [] ≡ take (length so_far) so_far = append-nil so_far ∙ sym (take-append_seam so_far []) ∙ ap (take (length so_far)) (append-nil so_far) in (
          w.verdicts,
          length so_far,
          subst (λ os. AreGoodSoFar d budget os (forms_of d w.verdicts)) (take-append-drop i (obligations_of d)) (good_so_far (take i (obligations_of d)) (drop i (obligations_of d)) (forms_of d w.verdicts) w.good),
          subst (λ z. Appends before after z) front (Appends-trans before mid after so_far [] w.written b),
        )

  pub all_written : (i : ℕ) (told : Tally) (before after : Option (List ℕ)) → length (obligations_of d) ≤ i → i ≤ length (obligations_of d) → AreWritten d budget i told before after → AreWritten d budget (length (obligations_of d)) told before after
  all_written i told before after h k w = subst (λ n. AreWritten d budget n told before after) (at_end (obligations_of d) i h k) w
