-- Literals and steps are exact and clean.
use Rattle.std.proofs.Common.{◌≡◌, ℕ, ◌≤◌, Bool, true, false, cond, eqb, leb, List, [], ◌∷◌, Option, Some, None, inl, inr, refl, sym, ap, ◌∙◌, le_trans, lit≤}
use Rattle.std.proofs.lemmas.Bool.{and_from, eqb-true, leb-true}
use Rattle.std.proofs.lemmas.Option.{none-some, same_Some}
use Rattle.word_cut.specs.Whole.{size_read, greatest}
use Rattle.proof_lines.specs.declared.clause.Lit.{Lit}
use Rattle.report_lines.specs.Formats.{IsExact, IsClean}
use Rattle.report_lines.specs.Fields.{most_count}
use Rattle.report_lines.specs.Words.{is_part}
use Rattle.report_lines.specs.Entries.{literal_text, with_sign, literal_of, literal_format, to_step, of_step, step_words, step_format}
use Rattle.report_lines.proofs.Exact.{chosen, size_ok, size_again, word_exact, chain_exact, seen_exact}
use Rattle.report_lines.proofs.Clean.{decimal_part, word_clean, chain_clean, seen_clean}
use Rattle.report_lines.proofs.NumberFields.{count_exact, count_clean, integer_exact, integer_clean}

-- ---- literals

signed : (sign : Bool) (o : Option ℕ) (l : Lit) → with_sign sign o ≡ Some l → (o ≡ Some l.atom) × (l.positive ≡ sign)
signed sign None l e = absurd (none-some l e)
signed sign (Some n) l e =
    let made : Lit = record { atom = n; positive = sign } in
    let s : made ≡ l = same_Some made l e in
    (ap (λ (l : Lit). Some l.atom) s, sym (ap (λ (l : Lit). l.positive) s))

signed_ok : (sign : Bool) (b : ℕ) (bs : List ℕ) (l : Lit) → b ≡ cond sign 43 45 → with_sign sign (size_read bs) ≡ Some l → b ∷ bs ≡ literal_text l
signed_ok sign b bs l s e =
    let p = signed sign (size_read bs) l e in
    let d = size_ok bs l.atom p.0 in
    let t : b ≡ cond l.positive 43 45 = s ∙ ap (λ (b : Bool). cond b 43 45) (sym p.1) in
    (λ i. t i ∷ d i)

literal_ok : (w : List ℕ) (l : Lit) → literal_of w ≡ Some l → w ≡ literal_text l
literal_ok [] l e = absurd (none-some l e)
literal_ok (b ∷ bs) l e =
    elim (chosen (eqb b 43) _ _ _ e) [
      | inl h ↦ signed_ok true b bs l (eqb-true b 43 h.0) h.1
      | inr h ↦
          elim (chosen (eqb b 45) _ _ _ h.1) [
            | inl k ↦ signed_ok false b bs l (eqb-true b 45 k.0) k.1
            | inr k ↦ absurd (none-some _ k.1)
          ]
    ]

literal_again : (n : ℕ) (b : Bool) → n ≤ greatest → literal_of (literal_text (record { atom = n; positive = b })) ≡ Some (record { atom = n; positive = b })
literal_again n true le = let s = size_again n le in rw s refl
literal_again n false le = let s = size_again n le in rw s refl

few : (n : ℕ) → leb n most_count ≡ true → n ≤ greatest
few n h = le_trans (leb-true n most_count h) (lit≤ tt)

pub literal_exact : IsExact literal_format
literal_exact = word_exact literal_of literal_text (λ l. leb l.atom most_count) (record {
  ok = λ w l e f. literal_ok w l e;
  again = λ l f. literal_again l.atom l.positive (few l.atom f);
})

literal_part : (n : ℕ) (b : Bool) → n ≤ greatest → is_part (literal_text (record { atom = n; positive = b })) ≡ true
literal_part n true small = and_from _ _ refl (decimal_part n small)
literal_part n false small = and_from _ _ refl (decimal_part n small)

pub literal_clean : IsClean literal_format
literal_clean = word_clean literal_text literal_of (λ l. leb l.atom most_count) (λ l f. literal_part l.atom l.positive (few l.atom f))

-- ---- steps

step_words_exact : IsExact step_words
step_words_exact = chain_exact _ _ count_exact (λ a. chain_exact _ _ integer_exact (λ b. chain_exact _ _ count_exact (λ c. integer_exact)))

step_words_clean : IsClean step_words
step_words_clean = chain_clean _ _ count_clean (λ a. chain_clean _ _ integer_clean (λ b. chain_clean _ _ count_clean (λ c. integer_clean)))

pub step_exact : IsExact step_format
step_exact = seen_exact to_step of_step step_words (λ a. refl) (λ b. refl) step_words_exact

pub step_clean : IsClean step_format
step_clean = seen_clean to_step of_step step_words step_words_clean
