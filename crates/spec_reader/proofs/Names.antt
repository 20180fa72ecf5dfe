-- A name that the version leaves free has 1 to 32 bytes.
use Rattle.std.proofs.Common.{◌≡◌, ◌≤◌, Bool, true, false, cond, ◌||◌, List, [], length, ℕ, zero, suc, refl, sym, ap, subst, ◌∙◌, arith}
use Rattle.std.specs.Prelude.{◌==◌, nat_lt}
use Rattle.std.specs.Str.{bytes_eq}
use Rattle.std.proofs.lemmas.Slice.Eq.{bytes_eq-Decides}
use Rattle.std.proofs.lemmas.Bool.{ltb-false, or_parts}
use Rattle.parser_combinators.specs.declared.token.Symbol.{Symbol}
use Rattle.parser_combinators.specs.declared.token.Symbol.TheVariants as symbol
use Rattle.parser_combinators.specs.declared.token.Kind.TheVariants as kind
use Rattle.parser_combinators.specs.declared.token.Version.{Version}
use Rattle.parser_combinators.specs.Words.{kind_of, is_name, name_of, name_kind, shared_text, exclusive_text, observes_text, number_kind}
use Rattle.parser_combinators.proofs.Pieces.{number_kind_cases}

abbrev pub IsLong : List ℕ → Type 0
IsLong text = (1 ≤ length text) × (length text ≤ 32)

equal_long : (text other : List ℕ) → bytes_eq text other ≡ true → IsLong other → IsLong text
equal_long text other h k = subst IsLong (sym ((bytes_eq-Decides text other).0 h)) k

not_short : (n : ℕ) → ((n == 0) || nat_lt 32 n) ≡ false → (1 ≤ n) × (n ≤ 32)
not_short zero h = absurd cc
not_short (suc n) h = (omega arith, ltb-false 32 (suc n) (or_parts (suc n == 0) (nat_lt 32 (suc n)) h).1)

pub name_long : (v : Version) (s : Symbol) → is_name v (kind_of s) ≡ true → IsLong (name_of s)
name_long v (symbol.Name text) h = by (bytes_eq text shared_text) (bytes_eq text exclusive_text) (bytes_eq text observes_text) ((length text == 0) || nat_lt 32 (length text)) refl refl refl refl h
  where
    by : (a b c d : Bool) → bytes_eq text shared_text ≡ a → bytes_eq text exclusive_text ≡ b → bytes_eq text observes_text ≡ c → ((length text == 0) || nat_lt 32 (length text)) ≡ d → is_name v (cond a kind.Shared (cond b kind.Exclusive (cond c kind.Observes (cond d kind.Unnamed kind.Name)))) ≡ true → IsLong text
    by true b c d p q r s h = equal_long text shared_text p (omega arith, omega arith)
    by false true c d p q r s h = equal_long text exclusive_text q (omega arith, omega arith)
    by false false true d p q r s h = equal_long text observes_text r (omega arith, omega arith)
    by false false false true p q r s h = absurd cc
    by false false false false p q r s h = not_short (length text) s
name_long v (symbol.Number n) h = number_kind_cases (λ k. is_name v k ≡ true → IsLong []) n (λ e. absurd cc) (λ e. absurd cc) (λ e. absurd cc) h
name_long v (symbol.Key k) h = absurd cc
