-- Words laid out, one after the other.
use Rattle.std.proofs.Common.{◌≡◌, ℕ, ◌+◌, ◌/◌, ◌%◌, ◌<◌, ◌≤◌, List, [], ◌∷◌, ◌++◌, length, get_or, drop, refl, sym, ap, ◌∙◌, append_assoc, arith}
use Rattle.std.specs.Fmt.{decimal}
use Rattle.std.proofs.lemmas.List.{at_drop_more, append-nil}
use Rattle.std.proofs.lemmas.Fmt.{decimal_digit, decimal_step_wide}
use Rattle.parser_combinators.specs.declared.token.Symbol.{Symbol}
use Rattle.parser_combinators.specs.declared.token.Version.{Version}
use Rattle.parser_combinators.specs.Texts.{text_of}
use Rattle.spec_trees.specs.Layout.{before, behind}

pub ruleset laying = (append_assoc, append-nil)

-- one word more is written
pub word_written : (v : Version) (ss : List Symbol) (i : ℕ) (s : Symbol) (start out new : List ℕ) → i < length ss → s ≡ get_or ss i s → new ≡ (out ++ before v s) ++ text_of s → out ++ behind v (drop i ss) ≡ start → new ++ behind v (drop (i + 1) ss) ≡ start
word_written v ss i s start out new lt is now so_far =
    let next : behind v (drop i ss) ≡ before v s ++ (text_of s ++ behind v (drop (i + 1) ss)) = at_drop_more (behind v) ss i s lt ∙ ap (λ (x : Symbol). before v x ++ (text_of x ++ behind v (drop (i + 1) ss))) (sym is) in
    ap (λ (t : List ℕ). t ++ behind v (drop (i + 1) ss)) now ∙ append_assoc (out ++ before v s) (text_of s) (behind v (drop (i + 1) ss)) ∙ append_assoc out (before v s) (text_of s ++ behind v (drop (i + 1) ss)) ∙ ap (λ (t : List ℕ). out ++ t) (sym next) ∙ so_far

-- ---- numbers

pub number_small : (n : ℕ) (out new : List ℕ) → n < 10 → new ≡ out ++ (48 + n) ∷ [] → new ≡ out ++ decimal n
number_small n out new lt e = e ∙ ap (λ (t : List ℕ). out ++ t) (sym (decimal_digit n lt))

pub number_large : (n : ℕ) (out mid new : List ℕ) → 10 ≤ n → n < 340282366920938463463374607431768211456 → mid ≡ out ++ decimal (n / 10) → new ≡ mid ++ (48 + n % 10) ∷ [] → new ≡ out ++ decimal n
number_large n out mid new le lt e k = k ∙ ap (λ (t : List ℕ). t ++ (48 + n % 10) ∷ []) e ∙ append_assoc out (decimal (n / 10)) ((48 + n % 10) ∷ []) ∙ ap (λ (t : List ℕ). out ++ t) (sym (decimal_step_wide n le (omega arith)))

pub ruleset numbering = (number_small, number_large)
