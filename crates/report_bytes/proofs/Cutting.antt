-- Lines without line feeds are found again in their bytes, and the lines of bytes make them again.
use Rattle.std.proofs.Common.{◌≡◌, ℕ, zero, suc, ◌+◌, ◌-◌, ◌<◌, ◌≤◌, Bool, true, false, not, ◌||◌, eqb, List, [], ◌∷◌, ◌++◌, length, take, drop, refl, sym, ap, ◌∙◌, append_assoc, arith, length-drop, take_all}
use Rattle.std.specs.List.{list_all, flat_map, onto_first, slice_index_or, join_with_byte, position_or_len}
use Rattle.std.proofs.lemmas.Bool.{and_parts}
use Rattle.std.proofs.lemmas.List.Sums.{position_or_len_is}
use Rattle.std.proofs.lemmas.List.Splits.{slice_split_none, slice_split_at, slice_split_first, join_with_byte-slice_split}
use Rattle.memchr.specs.Find.{Passes, NoneBefore, Nowhere, is_byte}
use Rattle.report_bytes.specs.Bytes.{pieces, before_last, last_of, lines_of, unended}

abbrev pub is_feed : ℕ → Bool
is_feed b = eqb b 10

abbrev pub no_feed : ℕ → Bool
no_feed b = not (is_feed b)

abbrev pub ended : List ℕ → List ℕ
ended line = line ++ 10 ∷ []

-- ---- a piece more

abbrev pub IsSome : List (List ℕ) → Type 0
IsSome [] = ⊥
IsSome (x ∷ xs) = Unit {0}

onto_some : (b : ℕ) (z : Bool) (ps : List (List ℕ)) → IsSome (Rattle.std.proofs.Common.cond z ([] ∷ ps) (onto_first b ps))
onto_some b true ps = tt
onto_some b false [] = tt
onto_some b false (p ∷ ps) = tt

pub pieces_some : (bytes : List ℕ) → IsSome (pieces bytes)
pieces_some [] = tt
pieces_some (b ∷ bs) = onto_some b (is_feed b) (pieces bs)

pub front_more : (x : List ℕ) (ps : List (List ℕ)) → IsSome ps → (before_last (x ∷ ps) ≡ x ∷ before_last ps) × (last_of (x ∷ ps) ≡ last_of ps)
front_more x [] h = absurd h
front_more x (p ∷ ps) h = (refl, refl)

free_at : (w : List ℕ) → list_all no_feed w ≡ true → (k d : ℕ) → k < length w → eqb (slice_index_or w k d) 10 ≡ false
free_at [] h k d lt = absurd (omega arith)
free_at (b ∷ bs) h zero d lt = not_true (is_feed b) (and_parts (no_feed b) (list_all no_feed bs) h).0
  where
    not_true : (x : Bool) → not x ≡ true → x ≡ false
    not_true true h = sym h
    not_true false h = refl
free_at (b ∷ bs) h (suc k) d lt = free_at bs (and_parts (no_feed b) (list_all no_feed bs) h).1 k d (omega arith)

-- a line and its line feed before others
pub cut_more : (line rest : List ℕ) → list_all no_feed line ≡ true → (lines_of (line ++ 10 ∷ rest) ≡ line ∷ lines_of rest) × (unended (line ++ 10 ∷ rest) ≡ unended rest)
cut_more line rest free =
    let e : pieces (line ++ 10 ∷ rest) ≡ line ∷ pieces rest = slice_split_at is_feed line 10 rest (free_at line free) refl in
    let m = front_more line (pieces rest) (pieces_some rest) in
    (ap before_last e ∙ m.0, ap last_of e ∙ m.1)

-- what has no line feed has no line
pub cut_end : (rest : List ℕ) → list_all no_feed rest ≡ true → (lines_of rest ≡ []) × (unended rest ≡ rest)
cut_end rest free =
    let e : pieces rest ≡ rest ∷ [] = slice_split_none is_feed rest (free_at rest free) in
    (ap before_last e, ap last_of e)

-- ---- lines and bytes

pub cut_ended : (lines : List (List ℕ)) → list_all (λ l. list_all no_feed l) lines ≡ true → (lines_of (flat_map ended lines) ≡ lines) × (unended (flat_map ended lines) ≡ [])
cut_ended [] h = (refl, refl)
cut_ended (l ∷ ls) h =
    let p = and_parts (list_all no_feed l) (list_all (λ l. list_all no_feed l) ls) h in
    let a = append_assoc l (10 ∷ []) (flat_map ended ls) in
    let c = cut_more l (flat_map ended ls) p.0 in
    let r = cut_ended ls p.1 in
    (ap lines_of a ∙ c.0 ∙ ap (λ (x : List (List ℕ)). l ∷ x) r.0, ap unended a ∙ c.1 ∙ r.1)

joined_ended : (ps : List (List ℕ)) → join_with_byte 10 ps ≡ flat_map ended (before_last ps) ++ last_of ps
joined_ended [] = refl
joined_ended (p ∷ []) = refl
joined_ended (p ∷ q ∷ ps) =
    ap (λ (x : List ℕ). p ++ 10 ∷ x) (joined_ended (q ∷ ps)) ∙ sym (append_assoc p (10 ∷ []) (flat_map ended (before_last (q ∷ ps)) ++ last_of (q ∷ ps)))
    ∙ sym (append_assoc (p ++ 10 ∷ []) (flat_map ended (before_last (q ∷ ps))) (last_of (q ∷ ps)))

pub bytes_again : (bytes : List ℕ) → bytes ≡ flat_map ended (lines_of bytes) ++ unended bytes
bytes_again bytes = sym (join_with_byte-slice_split 10 bytes) ∙ joined_ended (pieces bytes)

-- ---- the first line of bytes

never_true : (b : Bool) → (b ≡ true → ⊥) → b ≡ false
never_true true n = absurd (n refl)
never_true false n = refl

pub first_feed : (bytes : List ℕ) (i : ℕ) → NoneBefore (Passes (is_byte 10) bytes) 0 (length bytes) i × Passes (is_byte 10) bytes i → i ≡ position_or_len is_feed bytes
first_feed bytes i h = sym (position_or_len_is is_feed bytes i 0 (let b = h.0.high in omega (arith, b)) (λ k lt. never_true _ (h.0.before k (omega arith) lt)) (λ _. h.1))

pub no_feeds : (bytes : List ℕ) → Nowhere (Passes (is_byte 10) bytes) 0 (length bytes) → length bytes ≡ position_or_len is_feed bytes
no_feeds bytes h = sym (position_or_len_is is_feed bytes (length bytes) 0 (omega arith) (λ k lt. never_true _ (h k (omega arith) lt)) (λ lt. absurd (omega (arith, lt))))

last_or_more : (b : ℕ) (bs : List ℕ) (z : Bool) → is_feed b ≡ z → position_or_len is_feed (b ∷ bs) ≡ length (b ∷ bs) → (position_or_len is_feed bs ≡ length bs → pieces bs ≡ bs ∷ []) → pieces (b ∷ bs) ≡ (b ∷ bs) ∷ []
last_or_more b bs true z e r = let h = rw z at e in absurd (omega (arith, h))
last_or_more b bs false z e r = let h = rw z at e in let k = r (omega (arith, h)) in rw (z, k) refl

pub line_last : (bytes : List ℕ) → position_or_len is_feed bytes ≡ length bytes → pieces bytes ≡ bytes ∷ []
line_last [] e = refl
line_last (b ∷ bs) e = last_or_more b bs (is_feed b) refl e (line_last bs)

pub line_more : (bytes : List ℕ) (n : ℕ) → n ≡ position_or_len is_feed bytes → n ≤ length bytes → (n ≡ length bytes → ⊥) → pieces bytes ≡ take n bytes ∷ pieces (take (length bytes - (n + 1)) (drop (n + 1) bytes))
line_more bytes n p le e =
    let lt : position_or_len is_feed bytes < length bytes = omega arith in
    let w : pieces bytes ≡ take (position_or_len is_feed bytes) bytes ∷ pieces (drop (position_or_len is_feed bytes + 1) bytes) = slice_split_first is_feed bytes 0 lt in
    let v : pieces bytes ≡ take n bytes ∷ pieces (drop (n + 1) bytes) = rw p w in
    let all : take (length bytes - (n + 1)) (drop (n + 1) bytes) ≡ drop (n + 1) bytes = take_all _ _ (omega (arith, length-drop (n + 1) bytes)) in
    rw (v, all) refl

pub line_none : (bytes : List ℕ) (n : ℕ) → n ≡ position_or_len is_feed bytes → n ≡ length bytes → pieces bytes ≡ bytes ∷ []
line_none bytes n p e = line_last bytes (sym p ∙ e)

pub fewer : (bytes : List ℕ) (n : ℕ) → n ≤ length bytes → (n ≡ length bytes → ⊥) → length (take (length bytes - (n + 1)) (drop (n + 1) bytes)) < length bytes
fewer bytes n le e =
    let all : take (length bytes - (n + 1)) (drop (n + 1) bytes) ≡ drop (n + 1) bytes = take_all _ _ (omega (arith, length-drop (n + 1) bytes)) in
    let l = length-drop (n + 1) bytes in
    let m = ap length all in
    omega (arith, l, m)

pub no_bytes : (xs : List ℕ) → length xs ≤ 0 → pieces xs ≡ xs ∷ []
no_bytes [] h = refl
no_bytes (x ∷ xs) h = absurd (omega arith)
