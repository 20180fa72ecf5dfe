-- The lines that show a state are those of its facts and readings.
use Rattle.std.proofs.Common.{◌≡◌, ℕ, ℤ, Bool, true, false, not, List, [], ◌∷◌, ◌++◌, map, get_or, refl, sym, ap, ◌∙◌, append_assoc}
use Rattle.std.specs.Prelude.{pos, nat_lt, codes}
use Rattle.std.specs.Fmt.{decimal, signed_decimal}
use Rattle.std.proofs.lemmas.Bool.{false≢true, and_parts}
use Rattle.std.proofs.lemmas.List.{append-nil}
use Rattle.spec_core.specs.declared.world.World.{World}
use Rattle.spec_core.specs.Specification.{Specification, relation_places, counter_keys}
use Rattle.spec_core.specs.World.{size_of}
use Rattle.spec_core.specs.Truth.{int_eq}
use Rattle.spec_core.specs.Fits.{fits_places}
use Rattle.spec_states.specs.StateText
use Rattle.spec_states.specs.StateText.{true_line, count_line}
use Rattle.report_lines.specs.Words.{joined, line_text, spaced}
use Rattle.report_lines.specs.Witnesses.{relation_names, counter_names, fact_format, reading_format, tuple_words, is_other}
use Rattle.report_lines.proofs.Splitting.{joined_spaced, spaced-append}

-- elements that fit are written one by one
pub tuple_put : (w : World) (ss es : List ℕ) → fits_places w ss es ≡ true → (tuple_words w ss).put es ≡ map decimal es
tuple_put w [] [] h = refl
tuple_put w [] (e ∷ es) h = absurd (false≢true h)
tuple_put w (s ∷ ss) [] h = absurd (false≢true h)
tuple_put w (s ∷ ss) (e ∷ es) h = ap (λ (ws : List (List ℕ)). decimal e ∷ ws) (tuple_put w ss es (and_parts (nat_lt e (size_of w s)) (fits_places w ss es) h).1)

spaced_elements : (es : List ℕ) → spaced (map decimal es) ≡ StateText.spaced es
spaced_elements [] = refl
spaced_elements (e ∷ es) = ap (λ (t : List ℕ). 32 ∷ decimal e ++ t) (spaced_elements es)

-- the line of a tuple
pub fact_line : (d : Specification) (w : World) (from k : ℕ) (t : List ℕ) → fits_places w (relation_places d k) t ≡ true
    → true_line (get_or (relation_names d) k []) t ≡ line_text (codes "true" ∷ (fact_format d w from).put (record { relation = k; tuple = t }))
fact_line d w from k t h =
    let name = get_or (relation_names d) k [] in
    let words : joined (name ∷ (tuple_words w (relation_places d k)).put t) ≡ name ++ StateText.spaced t =
    ap (λ (ws : List (List ℕ)). joined (name ∷ ws)) (tuple_put w (relation_places d k) t h) ∙ joined_spaced name (map decimal t) ∙ ap (λ (z : List ℕ). name ++ z) (spaced_elements t) in
    ap (λ (z : List ℕ). codes "true " ++ (z ++ 10 ∷ [])) (sym words)

-- the line of a key with a value that isn't 0
pub reading_line : (d : Specification) (w : World) (from k : ℕ) (t : List ℕ) (v : ℤ) → fits_places w (counter_keys d k) t ≡ true → is_other v ≡ true
    → count_line (get_or (counter_names d) k []) (t, v) ≡ line_text (codes "count" ∷ (reading_format d w from).put (record { counter = k; key = t; value = v }))
reading_line d w from k t v h other =
    let name = get_or (counter_names d) k [] in
    let z : int_eq v (pos 0) ≡ false = not_true (int_eq v (pos 0)) other in
    let value : spaced (map decimal t ++ signed_decimal v ∷ []) ≡ StateText.spaced t ++ 32 ∷ signed_decimal v =
    spaced-append (map decimal t) (signed_decimal v ∷ []) ∙ (λ i. spaced_elements t i ++ 32 ∷ append-nil (signed_decimal v) i) in
    let words : joined (name ∷ ((tuple_words w (counter_keys d k)).put t ++ signed_decimal v ∷ [])) ≡ ((name ++ StateText.spaced t) ++ 32 ∷ []) ++ signed_decimal v =
    ap (λ (ws : List (List ℕ)). joined (name ∷ (ws ++ signed_decimal v ∷ []))) (tuple_put w (counter_keys d k) t h) ∙ joined_spaced name (map decimal t ++ signed_decimal v ∷ []) ∙ ap (λ (x : List ℕ). name ++ x) value
    ∙ sym (append_assoc name (StateText.spaced t) (32 ∷ signed_decimal v)) ∙ sym (append_assoc (name ++ StateText.spaced t) (32 ∷ []) (signed_decimal v)) in
    let text = ap (λ (x : List ℕ). codes "count " ++ (x ++ 10 ∷ [])) (sym words) in
    rw z text
  where
    not_true : (b : Bool) → not b ≡ true → b ≡ false
    not_true true h = sym h
    not_true false h = refl
