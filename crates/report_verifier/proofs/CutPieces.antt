-- The lines of bytes that come in pieces.
use Rattle.std.proofs.Common.{◌≡◌, ℕ, Bool, true, false, not, cond, List, [], ◌∷◌, ◌++◌, refl, ap, ◌∙◌, append_assoc}
use Rattle.std.specs.List.{list_all, flat_map, onto_first}
use Rattle.std.proofs.lemmas.Bool.{and_parts, and_from}
use Rattle.report_bytes.specs.Bytes.{pieces, before_last, last_of, lines_of, unended}
use Rattle.report_bytes.proofs.Cutting.{is_feed, no_feed, ended, cut_more, bytes_again}

-- no line of some has a line feed
abbrev pub are_free : List (List ℕ) → Bool
are_free lines = list_all (λ l. list_all no_feed l) lines

-- ---- what stands between line feeds has none

free_onto : (b : ℕ) (z : Bool) (ps : List (List ℕ)) → is_feed b ≡ z → are_free ps ≡ true → are_free (cond z ([] ∷ ps) (onto_first b ps)) ≡ true
free_onto b true ps e h = h
free_onto b false [] e h = rw e refl
free_onto b false (p ∷ ps) e h = rw e h

pub pieces_free : (bytes : List ℕ) → are_free (pieces bytes) ≡ true
pieces_free [] = refl
pieces_free (b ∷ bs) = free_onto b (is_feed b) (pieces bs) refl (pieces_free bs)

last_free : (ps : List (List ℕ)) → are_free ps ≡ true → (are_free (before_last ps) ≡ true) × (list_all no_feed (last_of ps) ≡ true)
last_free [] h = (refl, refl)
last_free (p ∷ []) h = (refl, (and_parts _ _ h).0)
last_free (p ∷ q ∷ ps) h =
    let a = and_parts (list_all no_feed p) (are_free (q ∷ ps)) h in
    let r = last_free (q ∷ ps) a.1 in
    (and_from _ _ a.0 r.0, r.1)

pub lines_free : (bytes : List ℕ) → are_free (lines_of bytes) ≡ true
lines_free bytes = (last_free (pieces bytes) (pieces_free bytes)).0

pub unended_free : (bytes : List ℕ) → list_all no_feed (unended bytes) ≡ true
unended_free bytes = (last_free (pieces bytes) (pieces_free bytes)).1

-- ---- a begun line before a piece

onto_begun : (b : ℕ) (rest f : List ℕ) (ps : List (List ℕ)) (z : Bool) → is_feed b ≡ z → not z ≡ true → pieces rest ≡ f ∷ ps → pieces (b ∷ rest) ≡ (b ∷ f) ∷ ps
onto_begun b rest f ps true e n h = absurd cc
onto_begun b rest f ps false e n h = rw (e, h) refl

pub begun_cut : (line rest f : List ℕ) (ps : List (List ℕ)) → list_all no_feed line ≡ true → pieces rest ≡ f ∷ ps → pieces (line ++ rest) ≡ (line ++ f) ∷ ps
begun_cut [] rest f ps h e = e
begun_cut (b ∷ bs) rest f ps h e =
    let a = and_parts (no_feed b) (list_all no_feed bs) h in
    onto_begun b (bs ++ rest) (bs ++ f) ps (is_feed b) refl a.0 (begun_cut bs rest f ps a.1 e)

-- ---- bytes before a piece

front_lines : (lines : List (List ℕ)) (rest : List ℕ) → are_free lines ≡ true → (lines_of (flat_map ended lines ++ rest) ≡ lines ++ lines_of rest) × (unended (flat_map ended lines ++ rest) ≡ unended rest)
front_lines [] rest h = (refl, refl)
front_lines (l ∷ ls) rest h =
    let p = and_parts (list_all no_feed l) (are_free ls) h in
    let more : List ℕ = flat_map ended ls ++ rest in
    let a : flat_map ended (l ∷ ls) ++ rest ≡ l ++ 10 ∷ more = append_assoc (l ++ 10 ∷ []) (flat_map ended ls) rest ∙ append_assoc l (10 ∷ []) more in
    let c = cut_more l more p.0 in
    let r = front_lines ls rest p.1 in
    (ap lines_of a ∙ c.0 ∙ ap (λ (x : List (List ℕ)). l ∷ x) r.0, ap unended a ∙ c.1 ∙ r.1)

pub cut_append : (bytes piece : List ℕ) → (lines_of (bytes ++ piece) ≡ lines_of bytes ++ lines_of (unended bytes ++ piece)) × (unended (bytes ++ piece) ≡ unended (unended bytes ++ piece))
cut_append bytes piece =
    let a : bytes ++ piece ≡ flat_map ended (lines_of bytes) ++ (unended bytes ++ piece) = ap (λ (x : List ℕ). x ++ piece) (bytes_again bytes) ∙ append_assoc (flat_map ended (lines_of bytes)) (unended bytes) piece in
    let f = front_lines (lines_of bytes) (unended bytes ++ piece) (lines_free bytes) in
    (ap lines_of a ∙ f.0, ap unended a ∙ f.1)
