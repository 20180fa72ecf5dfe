-- Reading one after the other, as a loop does.
use Rattle.std.proofs.Common.{◌≡◌, ℕ, zero, suc, ◌<◌, ◌≤◌, Bool, true, false, cond, List, [], ◌∷◌, ◌++◌, length, Ok, Err, refl, sym, ap, ◌∙◌, append_assoc, arith}
use Rattle.std.proofs.lemmas.List.{append-nil}
use Rattle.parser_combinators.specs.declared.fault.ReadError.{ReadError}
use Rattle.parser_combinators.specs.declared.fault.ReadError.TheVariants as errors
use Rattle.parser_combinators.specs.declared.token.Symbol.{Symbol}
use Rattle.parser_combinators.specs.declared.token.Token.{Token}
use Rattle.parser_combinators.specs.declared.token.Kind.{Kind}
use Rattle.parser_combinators.specs.declared.token.Kind.TheVariants as kind
use Rattle.parser_combinators.specs.Words.{next, seen, Spelt, plain}
use Rattle.parser_combinators.specs.Gives.{Fails}
use Rattle.parser_combinators.specs.Read.{Read, ◌>>=◌, times, many}
use Rattle.parser_combinators.proofs.Part.{Part}
use Rattle.parser_combinators.proofs.Choice.{clash}
use Rattle.parser_combinators.proofs.Many.{Matches-shorter, not_empty}

-- what is read takes a word at least
pub record Shrinks {A : Type 0} (r : List Token → Read A) : Type 0 where
  pub at : (ws : List Token) (a : A) (rest : List Token) → r ws ≡ Ok (a, rest) → length rest < length ws

pub shrinks : {A : Type 0} {SA : A → A → Type 0} {FA : A → Type 0} {pA : A → List Spelt} {rA : List Token → Read A} {oA : A → Kind → Bool} (starts : Kind → Bool) → Part SA FA pA rA oA
    → ((a : A) (u : List Symbol) → FA a → starts (next (plain (pA a) ++ u)) ≡ true) → starts kind.Nothing ≡ false → Shrinks rA
shrinks {A} {SA} {FA} {pA} starts P begins not_end = record {
  at = λ ws a rest e. let x = P.ok ws a rest e in omega (arith, Matches-shorter (pA a) ws rest x.0, not_empty starts (pA a) not_end (begins a [] x.2));
}

abbrev pub cons_to : {A : Type 0} → A → Read (List A) → Read (List A)
cons_to a z = z >>= λ y. Ok (a ∷ y.0, y.1)

-- what was read before, and what is still read
abbrev pub with_front : {A : Type 0} → List A → Read (List A) → Read (List A)
with_front front read = read >>= λ x. Ok (front ++ x.0, x.1)

bind_same : {A : Type 0} (x : Read A) (f g : List Token → Read (List A)) → ((a : A) (rest : List Token) → x ≡ Ok (a, rest) → f rest ≡ g rest) → (x >>= λ x. cons_to x.0 (f x.1)) ≡ (x >>= λ x. cons_to x.0 (g x.1))
bind_same (Err e) f g h = refl
bind_same (Ok x) f g h = ap (cons_to x.0) (h x.0 x.1 refl)

regrouped : {A : Type 0} (front : List A) (x : A) (z : Read (List A)) → with_front front (cons_to x z) ≡ with_front (front ++ x ∷ []) z
regrouped front x (Ok y) = ap (λ (ns : _). Ok (ns, y.1)) (simp append_assoc)
regrouped front x (Err n) = refl

module _ {A : Type 0} (starts : Kind → Bool) (r : List Token → Read A) (s : Shrinks r) (not_end : starts kind.Nothing ≡ false) where
  enough : (n m : ℕ) (ws : List Token) → length ws ≤ n → length ws ≤ m → times starts r n ws ≡ times starts r m ws
  unfolding times
  enough zero zero ws h k = refl
  enough zero (suc m) [] h k = sym (rw not_end refl)
  enough (suc n) zero [] h k = rw not_end refl
  enough zero (suc m) (t ∷ ts) h k = absurd (omega arith)
  enough (suc n) zero (t ∷ ts) h k = absurd (omega arith)
  enough (suc n) (suc m) ws h k = ap (λ (z : Read (List A)). cond (starts (next (seen ws))) z (Ok ([], ws))) (bind_same (r ws) (times starts r n) (times starts r m) (λ a rest e. enough n m rest (omega (arith, s.at ws a rest e)) (omega (arith, s.at ws a rest e))))

  unrolled : (ws : List Token) → starts (next (seen ws)) ≡ true → many starts r ws ≡ (r ws >>= λ x. cons_to x.0 (many starts r x.1))
  unfolding times
  unrolled [] h = clash (starts kind.Nothing) (starts kind.Nothing) h not_end refl
  unrolled (t ∷ ts) h = rw h (bind_same (r (t ∷ ts)) (times starts r (length ts)) (many starts r) (λ a rest e. enough (length ts) (length rest) rest (omega (arith, s.at (t ∷ ts) a rest e)) (omega arith)))

  pub goes_on : (front : List A) (rest : List Token) (x : A) (after : List Token) (total : Read (List A)) → starts (next (seen rest)) ≡ true → r rest ≡ Ok (x, after) → with_front front (many starts r rest) ≡ total → with_front (front ++ x ∷ []) (many starts r after) ≡ total
  goes_on front rest x after total h e so_far =
      let one : many starts r rest ≡ cons_to x (many starts r after) = unrolled rest h ∙ ap (λ (z : Read A). z >>= λ x. cons_to x.0 (many starts r x.1)) e in
      sym (regrouped front x (many starts r after)) ∙ ap (with_front front) (sym one) ∙ so_far

  pub ends : (e : ReadError) (front : List A) (rest : List Token) (total : Read (List A)) → starts (next (seen rest)) ≡ true → Fails e (r rest) → with_front front (many starts r rest) ≡ total → Fails e total
  ends errors.Memory front rest total h f so_far = tt
  ends (errors.Syntax n) front rest total h f so_far = sym so_far ∙ ap (with_front front) (unrolled rest h ∙ ap (λ (z : Read A). z >>= λ x. cons_to x.0 (many starts r x.1)) f)

  pub is_done : (front : List A) (rest : List Token) (total : Read (List A)) → starts (next (seen rest)) ≡ false → with_front front (many starts r rest) ≡ total → total ≡ Ok (front, rest)
  unfolding times
  is_done front [] total h so_far = sym so_far ∙ ap (λ (ns : List A). Ok (ns, [])) (append-nil front)
  is_done front (t ∷ ts) total h so_far = sym so_far ∙ rw h (ap (λ (ns : List A). Ok (ns, t ∷ ts)) (append-nil front))
