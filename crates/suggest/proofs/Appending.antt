-- The text of an answer, part by part.
use Rattle.std.proofs.Common.{◌≡◌, ℕ, suc, ◌+◌, ◌<◌, ◌≤◌, Bool, true, false, List, [], ◌∷◌, ◌++◌, length, take, get_or, refl, sym, ◌∙◌, ap, subst, append_assoc, append-nil, arith}
use Rattle.std.proofs.lemmas.Grind.{flat_map-append}
use Rattle.std.proofs.Math.Seq.{take-suc, take-length}
use Rattle.std.specs.List.{flat_map}
use Rattle.spec_core.specs.Specification.{Specification}
use Rattle.report_lines.specs.Words.{line_text}
use Rattle.report_lines.specs.Blocks.{operation_name}
use Rattle.conflict_variants.specs.Bare.{bare}
use Rattle.conflict_variants.specs.Keyed.{keyed}
use Rattle.suggest.specs.Pairs.{keys_of}
use Rattle.suggest.specs.Answers.{AreKeyAnswers, IsFoundIn, is_refuted, keys_after, with_answer}
use Rattle.suggest.specs.Texts.{param_name, found_text, pair_word, key_word, key_text}
use Rattle.suggest.specs.Writing.{IsKeyAppended, AreKeysAppended, draft, IsBareAppended, IsPairAppended}
use Rattle.suggest.specs.declared.answer.Pair.{Pair}
use Rattle.suggest.specs.declared.answer.Key.{Key}
use Rattle.suggest.specs.declared.answer.Found.{Found}
use Rattle.suggest.specs.declared.answer.Found.TheVariants as found
use Rattle.suggest.specs.declared.answer.KeyAnswer.{KeyAnswer}
use Rattle.suggest.specs.declared.answer.SuggestTally.{SuggestTally}

-- two texts behind each other
pub behind : (old mid new a b : List ℕ) → mid ≡ old ++ a → new ≡ mid ++ b → new ≡ old ++ (a ++ b)
behind old mid new a b e f = f ∙ ap (λ (t : List ℕ). t ++ b) e ∙ append_assoc old a b

-- a line of three words, each given by another name
pub line_written : (old new a b c x y z : List ℕ) → new ≡ old ++ line_text (a ∷ b ∷ c ∷ []) → a ≡ x → b ≡ y → c ≡ z → new ≡ old ++ line_text (x ∷ y ∷ z ∷ [])
line_written old new a b c x y z line e f g =
    line ∙ ap (λ w. old ++ line_text (w ∷ b ∷ c ∷ [])) e ∙ ap (λ w. old ++ line_text (x ∷ w ∷ c ∷ [])) f ∙ ap (λ w. old ++ line_text (x ∷ y ∷ w ∷ [])) g

one_key_more : (ks : List Key) (i : ℕ) (k : Key) → i < length ks → take (i + 1) ks ≡ take i ks ++ get_or ks i k ∷ []
one_key_more ks i k h = ap (λ n. take n ks) (let e : i + 1 ≡ suc i = omega arith in e) ∙ take-suc ks i k h

all_keys : (ks : List Key) (i : ℕ) → length ks ≤ i → i ≤ length ks → take i ks ≡ ks
all_keys ks i h k = ap (λ n. take n ks) (let e : i ≡ length ks = omega (arith, h, k) in e) ∙ take-length ks

module _ (d : Specification) (budget : ℕ) (pair : Pair) where
  pub key_written : (k : Key) (e : Specification) (f : Found) (old mid new : List ℕ) → e ≡ keyed d pair.first k.p pair.second k.q → IsFoundIn e budget pair.first pair.second f
      → mid ≡ old ++ line_text (key_word f ∷ param_name d pair.first k.p ∷ param_name d pair.second k.q ∷ []) → new ≡ mid ++ found_text e f → IsKeyAppended d budget pair k old new
  key_written k e f old mid new same h line text = (
    record { key = k; found = f },
    refl,
    subst (λ (s : Specification). IsFoundIn s budget pair.first pair.second f) same h,
    behind old mid new (line_text (key_word f ∷ param_name d pair.first k.p ∷ param_name d pair.second k.q ∷ [])) (found_text (keyed d pair.first k.p pair.second k.q) f) line
        (text ∙ ap (λ (s : Specification). mid ++ found_text s f) same),
  )

  pub no_keys : (old : List ℕ) → AreKeysAppended d budget pair [] old old
  no_keys old = ([], tt, sym (append-nil old))

  -- an answer more
  answers_next : (ks : List Key) (ys : List KeyAnswer) (k : Key) (y : KeyAnswer) → AreKeyAnswers d budget pair.first pair.second ks ys → y.key ≡ k
      → IsFoundIn (keyed d pair.first k.p pair.second k.q) budget pair.first pair.second y.found → AreKeyAnswers d budget pair.first pair.second (ks ++ k ∷ []) (ys ++ y ∷ [])
  answers_next [] [] k y g e h = (e, h, tt)
  answers_next [] (z ∷ ys) k y g e h = absurd g
  answers_next (j ∷ ks) [] k y g e h = absurd g
  answers_next (j ∷ ks) (z ∷ ys) k y g e h = (g.0, g.1, answers_next ks ys k y g.2 e h)

  pub key_answered : (ks : List Key) (i : ℕ) (default : Key) (ys : List KeyAnswer) (y : KeyAnswer) → i < length ks → AreKeyAnswers d budget pair.first pair.second (take i ks) ys → y.key ≡ get_or ks i default
      → IsFoundIn (keyed d pair.first (get_or ks i default).p pair.second (get_or ks i default).q) budget pair.first pair.second y.found → AreKeyAnswers d budget pair.first pair.second (take (i + 1) ks) (ys ++ y ∷ [])
  key_answered ks i default ys y lt g e h =
      subst (λ (js : List Key). AreKeyAnswers d budget pair.first pair.second js (ys ++ y ∷ [])) (sym (one_key_more ks i default lt)) (answers_next (take i ks) ys (get_or ks i default) y g e h)

  pub all_answered : (ks : List Key) (i : ℕ) (ys : List KeyAnswer) → length ks ≤ i → i ≤ length ks → AreKeyAnswers d budget pair.first pair.second (take i ks) ys → AreKeyAnswers d budget pair.first pair.second ks ys
  all_answered ks i ys h k g = subst (λ (js : List Key). AreKeyAnswers d budget pair.first pair.second js ys) (all_keys ks i h k) g

  -- a pair that isn't needed is tried at no parameters
  pub none_tried : (ks : List Key) (f : Found) → is_refuted f ≡ false → AreKeyAnswers d budget pair.first pair.second (keys_after f ks) []
  none_tried ks found.Proved e = tt
  none_tried ks (found.Refuted ob w) e = absurd cc
  none_tried ks (found.Undecided ob cause) e = tt

  -- a needed one at all of them
  pub all_tried : (ks : List Key) (ys : List KeyAnswer) → AreKeyAnswers d budget pair.first pair.second ks ys → (f : Found) → is_refuted f ≡ true → AreKeyAnswers d budget pair.first pair.second (keys_after f ks) ys
  all_tried ks ys h found.Proved e = absurd cc
  all_tried ks ys h (found.Refuted ob w) e = h
  all_tried ks ys h (found.Undecided ob cause) e = absurd cc

  -- an entry more
  pub key_appended : (ks : List Key) (i : ℕ) (default : Key) (old mid new : List ℕ) → i < length ks → AreKeysAppended d budget pair (take i ks) old mid → IsKeyAppended d budget pair (get_or ks i default) mid new → AreKeysAppended d budget pair (take (i + 1) ks) old new
  key_appended ks i default old mid new lt g h = (
    g.0 ++ h.0 ∷ [],
    key_answered ks i default g.0 h.0 lt g.1 h.1 h.2,
    behind old mid new (flat_map (key_text d pair) g.0) (key_text d pair h.0) g.2 h.3 ∙ ap (λ t. old ++ t) (sym (flat_map-append (key_text d pair) g.0 (h.0 ∷ []) ∙ ap (λ t. flat_map (key_text d pair) g.0 ++ t) (append-nil (key_text d pair h.0)))),
  )

  pub all_appended : (ks : List Key) (i : ℕ) (old new : List ℕ) → length ks ≤ i → i ≤ length ks → AreKeysAppended d budget pair (take i ks) old new → AreKeysAppended d budget pair ks old new
  all_appended ks i old new h k g = subst (λ (js : List Key). AreKeysAppended d budget pair js old new) (all_keys ks i h k) g

  pub not_needed : (ks : List Key) (old : List ℕ) (f : Found) → false ≡ is_refuted f → AreKeysAppended d budget pair (keys_after f ks) old old
  not_needed ks old found.Proved e = no_keys old
  not_needed ks old (found.Refuted ob w) e = absurd cc
  not_needed ks old (found.Undecided ob cause) e = no_keys old

  pub needed : (ks : List Key) (old new : List ℕ) → AreKeysAppended d budget pair ks old new → (f : Found) → true ≡ is_refuted f → AreKeysAppended d budget pair (keys_after f ks) old new
  needed ks old new h found.Proved e = absurd cc
  needed ks old new h (found.Refuted ob w) e = h
  needed ks old new h (found.Undecided ob cause) e = absurd cc

  pub bare_written : (e : Specification) (f : Found) (told now : SuggestTally) (is : Bool) (old mid new : List ℕ) → e ≡ bare d → IsFoundIn e budget pair.first pair.second f → is ≡ is_refuted f → now ≡ with_answer f told
      → mid ≡ old ++ line_text (pair_word f ∷ operation_name d pair.first ∷ operation_name d pair.second ∷ []) → new ≡ mid ++ found_text e f → IsBareAppended d budget pair (draft told old) is (draft now new)
  bare_written e f told now is old mid new same h r t line text = (
    f,
    subst (λ (s : Specification). IsFoundIn s budget pair.first pair.second f) same h,
    r,
    t,
    behind old mid new (line_text (pair_word f ∷ operation_name d pair.first ∷ operation_name d pair.second ∷ [])) (found_text (bare d) f) line
        (text ∙ ap (λ (s : Specification). mid ++ found_text s f) same),
  )

  pub pair_written : (told now : SuggestTally) (is : Bool) (old mid new : List ℕ) → IsBareAppended d budget pair (draft told old) is (draft now mid)
      → ((f : Found) → is ≡ is_refuted f → AreKeysAppended d budget pair (keys_after f (keys_of d pair.first pair.second)) mid new) → IsPairAppended d budget pair (draft told old) (draft now new)
  pair_written told now is old mid new b keys =
      let f = b.0 in
      let k = keys f b.2 in (
        record { pair = pair; found = f; keys = k.0 },
        record { pair_is = refl; bare_found = b.1; keys = k.1 },
        b.3,
        behind old mid new (line_text (pair_word f ∷ operation_name d pair.first ∷ operation_name d pair.second ∷ []) ++ found_text (bare d) f) (flat_map (key_text d pair) k.0) b.4 k.2,
      )
