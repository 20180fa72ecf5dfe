-- The first word of a line.
use Rattle.std.proofs.Common.{◌≡◌, ℕ, ◌+◌, ◌<◌, ◌≤◌, Bool, true, false, eqb, List, [], ◌∷◌, length, take, drop, get_or, refl, sym, ◌∙◌, arith, ◌-◌, cond, Some, length-drop, take_all}
use Rattle.std.proofs.lemmas.Bool.{eq-eqb, ne_eqb}
use Rattle.std.proofs.lemmas.List.Sums.{position_or_len_is}
use Rattle.std.proofs.lemmas.List.Splits.{slice_split_first}
use Rattle.std.specs.List.{position_or_len, onto_first}
use Rattle.report_lines.specs.Words.{parts, next_of}
use Rattle.report_lines.specs.Formats.{is_empty}

abbrev pub is_space : ℕ → Bool
is_space b = eqb b 32

not_space : (b : ℕ) → (b ≡ 32 → ⊥) → is_space b ≡ false
not_space b n = ne_eqb b 32 n

pub length_of_word : (bytes : List ℕ) (i : ℕ) → i ≤ length bytes → ((k : ℕ) → k < i → get_or bytes k 0 ≡ 32 → ⊥) → (i < length bytes → get_or bytes i 0 ≡ 32) → position_or_len is_space bytes ≡ i
length_of_word bytes i le before here = position_or_len_is is_space bytes i 0 le (λ k h. not_space _ (before k h)) (λ h. eq-eqb _ _ (here h))

pub word_more : (bytes : List ℕ) → position_or_len is_space bytes < length bytes → parts bytes ≡ take (position_or_len is_space bytes) bytes ∷ parts (drop (position_or_len is_space bytes + 1) bytes)
word_more bytes h = slice_split_first is_space bytes 0 h

last_or_more : (b : ℕ) (bs : List ℕ) (z : Bool) → is_space b ≡ z → position_or_len is_space (b ∷ bs) ≡ length (b ∷ bs) → (position_or_len is_space bs ≡ length bs → parts bs ≡ bs ∷ []) → parts (b ∷ bs) ≡ (b ∷ bs) ∷ []
last_or_more b bs true z e r = let h = rw z at e in absurd (omega (arith, h))
last_or_more b bs false z e r = let h = rw z at e in let k = r (omega (arith, h)) in rw (z, k) refl

pub word_last : (bytes : List ℕ) → position_or_len is_space bytes ≡ length bytes → parts bytes ≡ bytes ∷ []
word_last [] e = refl
word_last (b ∷ bs) e = last_or_more b bs (is_space b) refl e (word_last bs)

pub next_last : (bytes : List ℕ) (n : ℕ) → n ≡ position_or_len is_space bytes → n ≡ length bytes → next_of (parts bytes) ≡ Some (bytes, [])
next_last bytes n p e = let w = word_last bytes (sym p ∙ e) in rw w refl

pub next_more : (bytes : List ℕ) (n : ℕ) → n ≡ position_or_len is_space bytes → n ≤ length bytes → (n ≡ length bytes → ⊥)
    → next_of (parts bytes) ≡ Some (take n bytes, parts (take (length bytes - (n + 1)) (drop (n + 1) bytes)))
next_more bytes n p le e =
    let lt : position_or_len is_space bytes < length bytes = omega arith in
    let w = word_more bytes lt in
    let v : parts bytes ≡ take n bytes ∷ parts (drop (n + 1) bytes) = rw p w in
    let all : take (length bytes - (n + 1)) (drop (n + 1) bytes) ≡ drop (n + 1) bytes = take_all _ _ (omega (arith, length-drop (n + 1) bytes)) in
    rw (v, all) refl

some_part : (b : ℕ) (ps : List (List ℕ)) → is_empty (onto_first b ps) ≡ false
some_part b [] = refl
some_part b (p ∷ ps) = refl

part_cases : (b : ℕ) (z : Bool) (ps : List (List ℕ)) → is_empty (cond z ([] ∷ ps) (onto_first b ps)) ≡ false
part_cases b true ps = refl
part_cases b false ps = some_part b ps

-- a line has a word, which may be empty
pub parts_some : (bytes : List ℕ) → is_empty (parts bytes) ≡ false
parts_some [] = refl
parts_some (b ∷ bs) = part_cases b (is_space b) (parts bs)
