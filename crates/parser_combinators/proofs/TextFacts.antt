-- A word and its text tell each other.
use Rattle.std.proofs.Common.{◌≡◌, ℕ, zero, suc, ◌+◌, ◌*◌, ◌-◌, ◌<◌, ◌≤◌, codes, Bool, true, false, not, ◌&&◌, ◌||◌, nat_eq, leb, List, [], ◌∷◌, ◌++◌, length, map, Option, Some, None, ◌⊎◌, inl, inr, refl, sym, ap, subst, ◌∙◌, arith}
use Rattle.std.specs.Prelude.{◌==◌}
use Rattle.std.specs.List.{AllByRecursion, list_any}
use Rattle.std.specs.Str.{bytes_eq}
use Rattle.std.specs.Fmt.{decimal}
use Rattle.std.proofs.lemmas.Bool.{and_parts, cases_Bool, false≢true, lt-ltb, ltb-true, not-true, or_cases, or_parts}
use Rattle.std.proofs.lemmas.Bool.Decides.{nat_tests}
use Rattle.std.proofs.lemmas.Slice.Eq.{bytes_eq-Decides}
use Rattle.parser_combinators.specs.declared.token.Key.{Key}
use Rattle.parser_combinators.specs.declared.token.Key.TheVariants as keys
use Rattle.parser_combinators.specs.declared.token.Symbol.{Symbol}
use Rattle.parser_combinators.specs.declared.token.Symbol.TheVariants as symbol
use Rattle.parser_combinators.specs.Texts.{key_text, all_keys, key_from, key_of, symbol_by, symbol_of, text_of, is_word, IsWord, AreWords}
use Rattle.word_cut.specs.Texts.{is_letter, is_digit, is_name, is_number, is_sign, is_single_sign, is_double_sign, is_among, item_names, line_names, formula_names, other_names, is_reserved, is_long_name, is_long_number}
use Rattle.word_cut.specs.Texts as words
use Rattle.word_cut.specs.Whole.{number_of, greatest}
use Rattle.word_cut.proofs.Numbers.{number_of-short}
use Rattle.word_cut.proofs.Spelled.{Writes, decimal_writes, decimal_of_number}

-- ---- texts that differ

-- a test tells two texts apart
apart : (P : List ℕ → Bool) (text other : List ℕ) → P text ≡ true → P other ≡ false → bytes_eq text other ≡ false
apart P text other h k = elim (cases_Bool (bytes_eq text other)) [
  | inl e ↦ absurd (false≢true (sym k ∙ ap P (sym ((bytes_eq-Decides text other).0 e)) ∙ h))
  | inr e ↦ e
]

single_not : (b s : ℕ) → bytes_eq (b ∷ []) (s ∷ []) ≡ false → (b == s) ≡ false
single_not b s h = elim (cases_Bool (b == s)) [
  | inl e ↦ (let same : b ≡ s = grind (arith, nat_tests) in absurd (false≢true (sym h ∙ (bytes_eq-Decides (b ∷ []) (s ∷ [])).1 (ap (λ (x : ℕ). x ∷ []) same))))
  | inr e ↦ e
]

double_not : (b c s : ℕ) → bytes_eq (b ∷ c ∷ []) (s ∷ 61 ∷ []) ≡ false → (c == 61) ≡ true → (b == s) ≡ false
double_not b c s h k = elim (cases_Bool (b == s)) [
  | inl e ↦ (let same : b ≡ s = grind (arith, nat_tests) in let also : c ≡ 61 = grind (arith, nat_tests) in absurd (false≢true (sym h ∙ (bytes_eq-Decides (b ∷ c ∷ []) (s ∷ 61 ∷ [])).1 (λ i. same i ∷ also i ∷ []))))
  | inr e ↦ e
]

-- ---- the keys

abbrev Others : List ℕ → List Key → Type 0
Others text ks = AllByRecursion (λ k. bytes_eq text (key_text k) ≡ false) ks

from_some : (ks : List Key) (text : List ℕ) (k : Key) → key_from ks text ≡ Some k → text ≡ key_text k
from_some [] text k e = absurd cc
from_some (j ∷ ks) text k e = elim (cases_Bool (bytes_eq text (key_text j))) [
  | inl h ↦ (let same : Some j ≡ Some k = rw h at e in (bytes_eq-Decides text (key_text j)).0 h ∙ ap key_text (cc same))
  | inr h ↦ from_some ks text k (rw h at e)
]

from_none : (ks : List Key) (text : List ℕ) → key_from ks text ≡ None → Others text ks
from_none [] text e = tt
from_none (j ∷ ks) text e = elim (cases_Bool (bytes_eq text (key_text j))) [
  | inl h ↦ (let no : Some j ≡ None = rw h at e in absurd (cc no))
  | inr h ↦ (h, from_none ks text (rw h at e))
]

none_from : (ks : List Key) (text : List ℕ) → Others text ks → key_from ks text ≡ None
none_from [] text h = refl
none_from (j ∷ ks) text h = rw h.0 (none_from ks text h.1)

any_each : (ks : List Key) (text : List ℕ) → list_any (bytes_eq text) (map key_text ks) ≡ false → Others text ks
any_each [] text h = tt
any_each (k ∷ ks) text h = let p = or_parts (bytes_eq text (key_text k)) (list_any (bytes_eq text) (map key_text ks)) h in (p.0, any_each ks text p.1)

each_any : (ks : List Key) (text : List ℕ) → Others text ks → list_any (bytes_eq text) (map key_text ks) ≡ false
each_any [] text h = refl
each_any (k ∷ ks) text h = rw h.0 (each_any ks text h.1)

abbrev item_keys : List Key
item_keys = keys.Sort ∷ keys.Const ∷ keys.Relation ∷ keys.Counter ∷ keys.Initially ∷ keys.Token ∷ keys.Conflict ∷ keys.Invariant ∷ keys.Operation ∷ keys.End ∷ []

abbrev line_keys : List Key
line_keys = keys.Requires ∷ keys.Insert ∷ keys.Remove ∷ keys.Add ∷ keys.Set ∷ keys.Takes ∷ []

abbrev formula_keys : List Key
formula_keys = keys.Forall ∷ keys.Exists ∷ keys.True ∷ keys.False ∷ keys.Not ∷ keys.And ∷ keys.Or ∷ keys.Implies ∷ []

-- the reserved names in the order in which they stand among the keys
abbrev reserved_keys : List Key
reserved_keys = keys.Cise ∷ (item_keys ++ (line_keys ++ (keys.When ∷ (formula_keys ++ (keys.Int ∷ [])))))

parted : (text : List ℕ) (ks js : List Key) → Others text (ks ++ js) → Others text ks × Others text js
parted text [] js h = (tt, h)
parted text (k ∷ ks) js h = (let p = parted text ks js h.1 in ((h.0, p.0), p.1))

joined : (text : List ℕ) (ks js : List Key) → Others text ks → Others text js → Others text (ks ++ js)
joined text [] js h g = g
joined text (k ∷ ks) js h g = (h.0, joined text ks js h.1 g)

none_of : (a b c d : Bool) → a ≡ false → b ≡ false → c ≡ false → d ≡ false → (a || (b || (c || d))) ≡ false
none_of a b c d h g i j = rw (h, g, i, j) refl

not_reserved : (text : List ℕ) → Others text reserved_keys → is_reserved text ≡ false
unfolding is_reserved
not_reserved text h =
    let items = parted text item_keys (line_keys ++ (keys.When ∷ (formula_keys ++ (keys.Int ∷ [])))) h.1 in
    let lines = parted text line_keys (keys.When ∷ (formula_keys ++ (keys.Int ∷ []))) items.1 in
    let formulas = parted text formula_keys (keys.Int ∷ []) lines.1.1 in
    let others : Others text (keys.Cise ∷ keys.When ∷ keys.Int ∷ []) = (h.0, (lines.1.0, formulas.1)) in
    none_of (is_among item_names text) (is_among line_names text) (is_among formula_names text) (is_among other_names text)
    (each_any item_keys text items.0) (each_any line_keys text lines.0) (each_any formula_keys text formulas.0) (each_any (keys.Cise ∷ keys.When ∷ keys.Int ∷ []) text others)

each_reserved : (text : List ℕ) → is_reserved text ≡ false → Others text reserved_keys
unfolding is_reserved
each_reserved text h =
    let a = or_parts (is_among item_names text) (is_among line_names text || (is_among formula_names text || is_among other_names text)) h in
    let b = or_parts (is_among line_names text) (is_among formula_names text || is_among other_names text) a.1 in
    let c = or_parts (is_among formula_names text) (is_among other_names text) b.1 in
    let others : Others text (keys.Cise ∷ keys.When ∷ keys.Int ∷ []) = any_each (keys.Cise ∷ keys.When ∷ keys.Int ∷ []) text c.1 in
    (others.0, joined text item_keys (line_keys ++ (keys.When ∷ (formula_keys ++ (keys.Int ∷ [])))) (any_each item_keys text a.0) (joined text line_keys (keys.When ∷ (formula_keys ++ (keys.Int ∷ []))) (any_each line_keys text b.0) (others.1.0, joined text formula_keys (keys.Int ∷ []) (any_each formula_keys text c.0) others.1.1)))

-- ---- from a word to its text and back

name_not_number : (text : List ℕ) → is_name text ≡ true → is_number text ≡ false
name_not_number [] h = absurd cc
name_not_number (b ∷ bs) h =
    let letter = (and_parts (is_letter b) _ h).0 in
    let zero_not : (b == 48) ≡ false = grind (arith, nat_tests) in
    let digit_not : is_digit b ≡ false = grind (arith, nat_tests) in
    rw (zero_not, digit_not) refl

symbol_of-key : (k : Key) → symbol_of (key_text k) ≡ symbol.Key k
unfolding key_of
symbol_of-key keys.Open = refl
symbol_of-key keys.Close = refl
symbol_of-key keys.Comma = refl
symbol_of-key keys.Colon = refl
symbol_of-key keys.Dot = refl
symbol_of-key keys.Star = refl
symbol_of-key keys.Plus = refl
symbol_of-key keys.Minus = refl
symbol_of-key keys.Equal = refl
symbol_of-key keys.Unequal = refl
symbol_of-key keys.Less = refl
symbol_of-key keys.AtMost = refl
symbol_of-key keys.Greater = refl
symbol_of-key keys.AtLeast = refl
symbol_of-key keys.Cise = refl
symbol_of-key keys.Sort = refl
symbol_of-key keys.Const = refl
symbol_of-key keys.Relation = refl
symbol_of-key keys.Counter = refl
symbol_of-key keys.Initially = refl
symbol_of-key keys.Token = refl
symbol_of-key keys.Conflict = refl
symbol_of-key keys.Invariant = refl
symbol_of-key keys.Operation = refl
symbol_of-key keys.End = refl
symbol_of-key keys.Requires = refl
symbol_of-key keys.Insert = refl
symbol_of-key keys.Remove = refl
symbol_of-key keys.Add = refl
symbol_of-key keys.Set = refl
symbol_of-key keys.Takes = refl
symbol_of-key keys.When = refl
symbol_of-key keys.Forall = refl
symbol_of-key keys.Exists = refl
symbol_of-key keys.True = refl
symbol_of-key keys.False = refl
symbol_of-key keys.Not = refl
symbol_of-key keys.And = refl
symbol_of-key keys.Or = refl
symbol_of-key keys.Implies = refl
symbol_of-key keys.Int = refl

-- a text that passes a test that no sign passes is no sign
no_sign : (P : List ℕ → Bool) (text : List ℕ) → P text ≡ true → Others text reserved_keys
    → P (codes "(") ≡ false → P (codes ")") ≡ false → P (codes ",") ≡ false → P (codes ":") ≡ false → P (codes ".") ≡ false → P (codes "*") ≡ false → P (codes "+") ≡ false → P (codes "-") ≡ false → P (codes "=") ≡ false → P (codes "!=") ≡ false → P (codes "<") ≡ false → P (codes "<=") ≡ false → P (codes ">") ≡ false → P (codes ">=") ≡ false
    → key_of text ≡ None
unfolding key_of
no_sign P text h r a b c d e f g i j k l m n o = none_from all_keys text (apart P text _ h a, (apart P text _ h b, (apart P text _ h c, (apart P text _ h d, (apart P text _ h e, (apart P text _ h f, (apart P text _ h g, (apart P text _ h i, (apart P text _ h j, (apart P text _ h k, (apart P text _ h l, (apart P text _ h m, (apart P text _ h n, (apart P text _ h o, r))))))))))))))

symbol_of-name : (text : List ℕ) → IsWord (symbol.Name text) → symbol_of text ≡ symbol.Name text
symbol_of-name text h =
    let name = (and_parts (is_name text) _ h).0 in
    let free = not-true (is_reserved text) (and_parts (not (is_reserved text)) (not (is_long_name text)) (and_parts (is_name text) _ h).1).0 in
    let none = no_sign is_name text name (each_reserved text free) refl refl refl refl refl refl refl refl refl refl refl refl refl refl in
    let number = name_not_number text name in
    rw (none, number) refl

number_reserved : (text : List ℕ) → is_number text ≡ true → Others text reserved_keys
number_reserved text h = (a keys.Cise refl, (a keys.Sort refl, (a keys.Const refl, (a keys.Relation refl, (a keys.Counter refl, (a keys.Initially refl, (a keys.Token refl, (a keys.Conflict refl, (a keys.Invariant refl, (a keys.Operation refl, (a keys.End refl, (a keys.Requires refl, (a keys.Insert refl, (a keys.Remove refl, (a keys.Add refl, (a keys.Set refl, (a keys.Takes refl, (a keys.When refl, (a keys.Forall refl, (a keys.Exists refl, (a keys.True refl, (a keys.False refl, (a keys.Not refl, (a keys.And refl, (a keys.Or refl, (a keys.Implies refl, (a keys.Int refl, tt)))))))))))))))))))))))))))
  where
    a : (k : Key) → is_number (key_text k) ≡ false → bytes_eq text (key_text k) ≡ false
    a k e = apart is_number text (key_text k) h e

symbol_of-number : (n : ℕ) → IsWord (symbol.Number n) → symbol_of (decimal n) ≡ symbol.Number n
symbol_of-number n h =
    let small : n < 100000000000000000000000000000000000000 = ltb-true n 100000000000000000000000000000000000000 h in
    let writes = decimal_writes n (omega arith) in
    let none = no_sign is_number (decimal n) writes.0 (number_reserved (decimal n) writes.0) refl refl refl refl refl refl refl refl refl refl refl refl refl refl in
    let number = writes.0 in
    rw (none, number) (ap symbol.Number writes.1)

pub symbol_of-text : (s : Symbol) → IsWord s → symbol_of (text_of s) ≡ s
symbol_of-text (symbol.Name text) h = symbol_of-name text h
symbol_of-text (symbol.Number n) h = symbol_of-number n h
symbol_of-text (symbol.Key k) h = symbol_of-key k

-- ---- from a text to its word and back

-- a sign is among the keys
sign_none : (text : List ℕ) → is_sign text ≡ true → Others text all_keys → ⊥
sign_none [] h o = cc
sign_none (b ∷ []) h o =
    let e1 = single_not b 40 o.0 in
    let e2 = single_not b 41 o.1.0 in
    let e3 = single_not b 44 o.1.1.0 in
    let e4 = single_not b 58 o.1.1.1.0 in
    let e5 = single_not b 46 o.1.1.1.1.0 in
    let e6 = single_not b 42 o.1.1.1.1.1.0 in
    let e7 = single_not b 43 o.1.1.1.1.1.1.0 in
    let e8 = single_not b 45 o.1.1.1.1.1.1.1.0 in
    let e9 = single_not b 61 o.1.1.1.1.1.1.1.1.0 in
    let e10 = single_not b 60 o.1.1.1.1.1.1.1.1.1.1.0 in
    let e11 = single_not b 62 o.1.1.1.1.1.1.1.1.1.1.1.1.0 in
    let no : false ≡ true = rw (e1, e2, e3, e4, e5, e6, e7, e8, e9, e10, e11) at h in
    false≢true no
sign_none (b ∷ c ∷ []) h o =
    let equal = (and_parts (is_double_sign b) (c == 61) h).1 in
    let double = (and_parts (is_double_sign b) (c == 61) h).0 in
    let e1 = double_not b c 33 o.1.1.1.1.1.1.1.1.1.0 equal in
    let e2 = double_not b c 60 o.1.1.1.1.1.1.1.1.1.1.1.0 equal in
    let e3 = double_not b c 62 o.1.1.1.1.1.1.1.1.1.1.1.1.1.0 equal in
    let no : false ≡ true = rw (e1, e2, e3) at double in
    false≢true no
sign_none (b ∷ c ∷ d ∷ bs) h o = cc

-- what is known of the word with a text that can be a word
pub record Stood (text : List ℕ) : Type 0 where
  pub text_is : text_of (symbol_of text) ≡ text
  pub word : IsWord (symbol_of text)

abbrev StoodBy : Option Key → List ℕ → Type 0
StoodBy k text = (text_of (symbol_by k text) ≡ text) × IsWord (symbol_by k text)

stood_none : (text : List ℕ) → words.is_word text ≡ true → is_long_name text ≡ false → is_long_number text ≡ false → Others text all_keys → StoodBy None text
stood_none text one name number o = elim (cases_Bool (is_number text)) [
  | inl e ↦
      let small : number_of text < 100000000000000000000000000000000000000 = number_of-short text e number in
      rw e (decimal_of_number text e (omega arith), lt-ltb (number_of text) 100000000000000000000000000000000000000 small)
  | inr e ↦
      let is : is_name text ≡ true = elim (or_cases (is_name text) (is_number text || is_sign text) one) [
        | inl h ↦ h
        | inr h ↦ absurd (sign_none text (rw e at h) o)
      ] in
      let free = not_reserved text o.1.1.1.1.1.1.1.1.1.1.1.1.1.1 in
      let short : leb 33 (length text) ≡ false = rw is at name in
      rw e (refl, rw (is, free, short) refl)
]

pub text_of-symbol : (text : List ℕ) → words.is_word text ≡ true → is_long_name text ≡ false → is_long_number text ≡ false → Stood text
unfolding key_of
text_of-symbol text one name number = by (key_from all_keys text) refl
  where
    by : (k : Option Key) → key_from all_keys text ≡ k → Stood text
    by (Some k) e = record { text_is = rw e (sym (from_some all_keys text k e)); word = rw e refl }
    by None e = (let s = stood_none text one name number (from_none all_keys text e) in record { text_is = rw e s.0; word = rw e s.1 })

-- words that stand for any

pub a_word : IsWord (symbol.Name (97 ∷ []))
unfolding is_reserved
a_word = refl

pub shared_word : IsWord (symbol.Name (codes "shared"))
unfolding is_reserved
shared_word = refl

pub observes_word : IsWord (symbol.Name (codes "observes"))
unfolding is_reserved
observes_word = refl
