-- Words without spaces that are joined by spaces are found again; and the text of a line, word by word.
use Rattle.std.proofs.Common.{◌≡◌, ℕ, zero, suc, ◌<◌, Bool, true, false, not, ◌||◌, eqb, List, [], ◌∷◌, ◌++◌, ◌+◌, length, take, get_or, refl, sym, ap, ◌∙◌, append_assoc, arith}
use Rattle.std.specs.Prelude.{◌==◌}
use Rattle.std.specs.List.{list_all, flat_map, slice_index_or}
use Rattle.std.proofs.lemmas.Bool.{and_parts}
use Rattle.std.proofs.lemmas.Grind.{flat_map-append}
use Rattle.std.proofs.lemmas.List.{append-nil, take_more}
use Rattle.std.proofs.lemmas.List.Splits.{slice_split_none, slice_split_at, join_with_byte-slice_split}
use Rattle.report_lines.specs.Words.{parts, joined, line_text, is_part, spaced}
use Rattle.report_lines.proofs.FirstWord.{is_space}

no_space : (b : ℕ) → not ((b == 32) || (b == 10)) ≡ true → eqb b 32 ≡ false
no_space b h = first (eqb b 32) (eqb b 10) h
  where
    first : (x y : Bool) → not (x || y) ≡ true → x ≡ false
    first true y h = sym h
    first false y h = refl

part_at : (w : List ℕ) → is_part w ≡ true → (k d : ℕ) → k < length w → eqb (slice_index_or w k d) 32 ≡ false
part_at [] h k d lt = absurd (omega arith)
part_at (b ∷ bs) h zero d lt = no_space b (and_parts (not ((b == 32) || (b == 10))) (is_part bs) h).0
part_at (b ∷ bs) h (suc k) d lt = part_at bs (and_parts (not ((b == 32) || (b == 10))) (is_part bs) h).1 k d (omega arith)

-- words without spaces are those of the line that they make
pub parts_joined : (w : List ℕ) (ws : List (List ℕ)) → list_all is_part (w ∷ ws) ≡ true → parts (joined (w ∷ ws)) ≡ w ∷ ws
parts_joined w [] h = slice_split_none is_space w (part_at w (and_parts (is_part w) true h).0)
parts_joined w (v ∷ ws) h =
    let p = and_parts (is_part w) (list_all is_part (v ∷ ws)) h in
    slice_split_at is_space w 32 (joined (v ∷ ws)) (part_at w p.0) refl ∙ ap (λ (t : List (List ℕ)). w ∷ t) (parts_joined v ws p.1)

-- and the words of a line make it again
pub joined_parts : (bytes : List ℕ) → joined (parts bytes) ≡ bytes
joined_parts bytes = join_with_byte-slice_split 32 bytes

pub joined_spaced : (w : List ℕ) (ws : List (List ℕ)) → joined (w ∷ ws) ≡ w ++ spaced ws
joined_spaced w [] = sym (append-nil w)
joined_spaced w (v ∷ ws) = ap (λ (t : List ℕ). w ++ 32 ∷ t) (joined_spaced v ws)

pub spaced-append : (us vs : List (List ℕ)) → spaced (us ++ vs) ≡ spaced us ++ spaced vs
spaced-append [] vs = refl
spaced-append (u ∷ us) vs = ap (λ (t : List ℕ). 32 ∷ u ++ t) (spaced-append us vs) ∙ ap (λ (t : List ℕ). 32 ∷ t) (sym (append_assoc u (spaced us) (spaced vs)))

-- a line behind what stood before: its first word, the others behind spaces, and the line feed
pub written : (old first body after k : List ℕ) (ws : List (List ℕ)) → first ≡ old ++ k → body ≡ first ++ spaced ws → after ≡ body ++ 10 ∷ [] → after ≡ old ++ line_text (k ∷ ws)
written old first body after k ws e f g =
    let j : k ++ spaced ws ≡ joined (k ∷ ws) = sym (joined_spaced k ws) in
    g ∙ ap (λ (t : List ℕ). t ++ 10 ∷ []) (f ∙ ap (λ (t : List ℕ). t ++ spaced ws) e ∙ append_assoc old k (spaced ws) ∙ ap (λ (t : List ℕ). old ++ t) j) ∙ append_assoc old (joined (k ∷ ws)) (10 ∷ [])

-- words behind words
pub more : (old before after : List ℕ) (ws vs : List (List ℕ)) → before ≡ old ++ spaced ws → after ≡ before ++ spaced vs → after ≡ old ++ spaced (ws ++ vs)
more old before after ws vs e f = f ∙ ap (λ (t : List ℕ). t ++ spaced vs) e ∙ append_assoc old (spaced ws) (spaced vs) ∙ ap (λ (t : List ℕ). old ++ t) (sym (spaced-append ws vs))

-- one value more, behind those of a list that were written
pub put_more : {A : Type 0} (f : A → List (List ℕ)) (xs : List A) (i : ℕ) (x : A) (old before after : List ℕ) → i < length xs → x ≡ get_or xs i x → before ≡ old ++ spaced (flat_map f (take i xs)) → after ≡ before ++ spaced (f x)
    → after ≡ old ++ spaced (flat_map f (take (i + 1) xs))
put_more {A} f xs i x old before after lt at so_far more =
    let front = flat_map f (take i xs) in
    let t : take (i + 1) xs ≡ take i xs ++ x ∷ [] = take_more xs i x lt ∙ ap (λ (y : A). take i xs ++ y ∷ []) (sym at) in
    let s : flat_map f (take (i + 1) xs) ≡ front ++ f x = ap (flat_map f) t ∙ flat_map-append f (take i xs) (x ∷ []) ∙ ap (λ (ws : List (List ℕ)). front ++ ws) (append-nil (f x)) in
    let all : spaced (flat_map f (take (i + 1) xs)) ≡ spaced front ++ spaced (f x) = ap spaced s ∙ spaced-append front (f x) in
    more ∙ ap (λ (z : List ℕ). z ++ spaced (f x)) so_far ∙ append_assoc old (spaced front) (spaced (f x)) ∙ ap (λ (z : List ℕ). old ++ z) (sym all)
