-- The constants of an obligation, where their values stand in one list.
use Rattle.std.proofs.Common.{◌≡◌, ℕ, zero, suc, ◌+◌, ℤ, pos, int_le, nat_lt, unsigned_abs, true, cond, None, Some, unwrap_or, List, [], ◌∷◌, ◌++◌, map, length, get_or, slice_get, slice_index, slice_index_or, filter_map, flat_map, refl, sym, ◌∙◌, ap, subst, arith, append_assoc}
use Rattle.std.specs.List.{range_with_len}
use Rattle.std.proofs.lemmas.Bool.{and_parts, and_from}
use Rattle.spec_core.specs.declared.operation.Kind.{Kind}
use Rattle.spec_core.specs.declared.operation.Kind.TheVariants.{Sort, Int}
use Rattle.spec_core.specs.declared.operation.Param.{Param as Parameter}
use Rattle.spec_core.specs.declared.world.World.{World}
use Rattle.spec_core.specs.World.{size_of}
use Rattle.spec_core.specs.Fits.{is_argument, are_arguments}
use Rattle.spec_core.specs.Typed.{sort_of_kind, sort_of_param, is_sort, is_int}
use Rattle.ground_problem.specs.Constants.{sorts_of_params, params_from, chosen_from, all_chosen_from, concatenated}
use Rattle.ground_problem.proofs.Choices.{InSorts, InLists, InAll, in_sorts_length, in_concatenated}

-- what stands in a list from a place on
abbrev pub Tail : List ℕ → ℕ → List ℕ → Type 0
Tail vals n rest = (j : ℕ) → slice_index vals (n + j) ≡ slice_index rest j

pub tail_whole : (vals : List ℕ) → Tail vals 0 vals
tail_whole vals j = (let e : 0 + j ≡ j = omega arith in ap (slice_index vals) e)

pub tail_next : (vals : List ℕ) (n x : ℕ) (rest : List ℕ) → Tail vals n (x ∷ rest) → Tail vals (suc n) rest
tail_next vals n x rest h j = (let e : suc n + j ≡ n + suc j = omega arith in ap (slice_index vals) e ∙ h (suc j))

pub tail_past : (vals : List ℕ) (n : ℕ) (t rest : List ℕ) → Tail vals n (t ++ rest) → Tail vals (n + length t) rest
tail_past vals n [] rest h j = (let e : n + 0 + j ≡ n + j = omega arith in ap (slice_index vals) e ∙ h j)
tail_past vals n (x ∷ t) rest h j = (let e : n + suc (length t) + j ≡ suc n + length t + j = omega arith in ap (slice_index vals) e ∙ tail_past vals (suc n) t rest (tail_next vals n x (t ++ rest) h) j)

pub tail_at : (vals : List ℕ) (n k : ℕ) (rest : List ℕ) → n ≡ k → Tail vals n rest → Tail vals k rest
tail_at vals n k rest e h = subst (λ (x : ℕ). Tail vals x rest) e h

-- the same list, its parts grouped otherwise
pub tail_grouped : (vals : List ℕ) (n : ℕ) (a b c : List ℕ) → Tail vals n ((a ++ b) ++ c) → Tail vals n (a ++ (b ++ c))
tail_grouped vals n a b c h j = h j ∙ ap (λ (xs : List ℕ). slice_index xs j) (append_assoc a b c)

here : (vals : List ℕ) (n x : ℕ) (rest : List ℕ) → Tail vals n (x ∷ rest) → slice_index vals n ≡ x
here vals n x rest h = (let q : n ≡ n + 0 = omega arith in ap (slice_index vals) q ∙ h 0)

pub range_reads : (vals : List ℕ) (n : ℕ) (t rest : List ℕ) (k : ℕ) → k ≡ length t → Tail vals n (t ++ rest) → map (slice_index vals) (range_with_len n k) ≡ t
range_reads vals n [] rest zero e h = refl
range_reads vals n [] rest (suc k) e h = absurd (omega arith)
range_reads vals n (x ∷ t) rest zero e h = absurd (omega arith)
range_reads vals n (x ∷ t) rest (suc k) e h =
    let p = here vals n x (t ++ rest) h in
    let g : suc n ≡ n + 1 = omega arith in
    let q = range_reads vals (n + 1) t rest k (omega arith) (tail_at vals (suc n) (n + 1) (t ++ rest) g (tail_next vals n x (t ++ rest) h)) in cc

pub chosen_reads : (w : World) (vals : List ℕ) (n : ℕ) (ss ts : List (List ℕ)) (rest : List ℕ) → InLists w ss ts → Tail vals n (concatenated ts ++ rest) → map (map (slice_index vals)) (chosen_from n ss) ≡ ts
chosen_reads w vals n [] [] rest h k = refl
chosen_reads w vals n [] (t ∷ ts) rest h k = absurd h
chosen_reads w vals n (s ∷ ss) [] rest h k = absurd h
chosen_reads w vals n (s ∷ ss) (t ∷ ts) rest h k =
    let l = in_sorts_length w s t h.0 in
    let g = tail_grouped vals n t (concatenated ts) rest k in
    let p = range_reads vals n t (concatenated ts ++ rest) (length s) (sym l) g in
    let q = chosen_reads w vals (n + length s) ss ts rest h.1 (tail_at vals (n + length t) (n + length s) (concatenated ts ++ rest) (ap (λ (x : ℕ). n + x) l) (tail_past vals n t (concatenated ts ++ rest) g)) in
    cc

pub all_chosen_reads : (w : World) (vals : List ℕ) (n : ℕ) (ss ts : List (List (List ℕ))) (rest : List ℕ) → InAll w ss ts → Tail vals n (flat_map concatenated ts ++ rest) → map (map (map (slice_index vals))) (all_chosen_from n ss) ≡ ts
all_chosen_reads w vals n [] [] rest h k = refl
all_chosen_reads w vals n [] (t ∷ ts) rest h k = absurd h
all_chosen_reads w vals n (s ∷ ss) [] rest h k = absurd h
all_chosen_reads w vals n (s ∷ ss) (t ∷ ts) rest h k =
    let l = in_sorts_length w (concatenated s) (concatenated t) (in_concatenated w s t h.0) in
    let g = tail_grouped vals n (concatenated t) (flat_map concatenated ts) rest k in
    let p = chosen_reads w vals n s t (flat_map concatenated ts ++ rest) h.0 g in
    let q = all_chosen_reads w vals (n + length (concatenated s)) ss ts rest h.1 (tail_at vals (n + length (concatenated t)) (n + length (concatenated s)) (flat_map concatenated ts ++ rest) (ap (λ (x : ℕ). n + x) l) (tail_past vals n (concatenated t) (flat_map concatenated ts ++ rest) g)) in
    cc

-- ---- parameters

-- the elements among arguments
abbrev pub elements_among : List Parameter → List ℤ → List ℕ
elements_among [] ns = []
elements_among (p ∷ ps) [] = []
elements_among (p ∷ ps) (n ∷ ns) = cond (is_int p.kind) (elements_among ps ns) (unsigned_abs n ∷ elements_among ps ns)

pub elements_fit : (w : World) (ps : List Parameter) (ns : List ℤ) → are_arguments w ps ns ≡ true → InSorts w (sorts_of_params ps) (elements_among ps ns)
elements_fit w [] [] h = refl
elements_fit w [] (n ∷ ns) h = absurd cc
elements_fit w (p ∷ ps) [] h = absurd cc
elements_fit w (p ∷ ps) (n ∷ ns) h = (let h2 = and_parts (is_argument w p.kind n) (are_arguments w ps ns) h in by_kind p.kind h2.0 (elements_fit w ps ns h2.1))
  where
    by_kind : (k : Kind) → is_argument w k n ≡ true → InSorts w (sorts_of_params ps) (elements_among ps ns)
        → InSorts w (filter_map (λ (p : Parameter). sort_of_kind p.kind) (record p { kind = k } ∷ ps)) (cond (is_int k) (elements_among ps ns) (unsigned_abs n ∷ elements_among ps ns))
    by_kind (Sort s) a b = and_from (nat_lt (unsigned_abs n) (size_of w s)) _ (and_parts (int_le (pos 0) n) (nat_lt (unsigned_abs n) (size_of w s)) a).1 b
    by_kind Int a b = b

-- the constants of parameters have the values of the arguments
pub params_read : (vals : List ℕ) (n : ℕ) (ps : List Parameter) (ns : List ℤ) (rest : List ℕ) → length ns ≡ length ps → Tail vals n (elements_among ps ns ++ rest)
    → (i s : ℕ) → is_sort (sort_of_param (slice_get ps i)) s ≡ true → slice_index vals (unwrap_or (get_or (params_from n ps) i None) 0) ≡ unsigned_abs (slice_index_or ns i (pos 0))
params_read vals n [] ns rest l h i s k = absurd cc
params_read vals n (p ∷ ps) [] rest l h i s k = absurd (omega arith)
params_read vals n (p ∷ ps) (a ∷ ns) rest l h i s k = by_kind p.kind h i k (params_read vals n ps ns rest (omega arith)) (params_read vals (suc n) ps ns rest (omega arith))
  where
    Read : ℕ → Type 0
    Read n = Tail vals n (elements_among ps ns ++ rest) → (i s : ℕ) → is_sort (sort_of_param (slice_get ps i)) s ≡ true → slice_index vals (unwrap_or (get_or (params_from n ps) i None) 0) ≡ unsigned_abs (slice_index_or ns i (pos 0))

    by_kind : (kind : Kind) → Tail vals n (cond (is_int kind) (elements_among ps ns) (unsigned_abs a ∷ elements_among ps ns) ++ rest) → (i : ℕ) → is_sort (sort_of_param (slice_get (record p { kind = kind } ∷ ps) i)) s ≡ true → Read n → Read (suc n)
        → slice_index vals (unwrap_or (get_or (cond (is_int kind) (None ∷ params_from n ps) (Some n ∷ params_from (suc n) ps)) i None) 0) ≡ unsigned_abs (slice_index_or (a ∷ ns) i (pos 0))
    by_kind (Sort t) h zero k one more = here vals n (unsigned_abs a) (elements_among ps ns ++ rest) h
    by_kind (Sort t) h (suc i) k one more = more (tail_next vals n (unsigned_abs a) (elements_among ps ns ++ rest) h) i s k
    by_kind Int h zero k one more = absurd cc
    by_kind Int h (suc i) k one more = one h i s k

pub arguments_length : (w : World) (ps : List Parameter) (ns : List ℤ) → are_arguments w ps ns ≡ true → length ns ≡ length ps
arguments_length w [] [] h = refl
arguments_length w [] (n ∷ ns) h = absurd cc
arguments_length w (p ∷ ps) [] h = absurd cc
arguments_length w (p ∷ ps) (n ∷ ns) h = ap suc (arguments_length w ps ns (and_parts (is_argument w p.kind n) (are_arguments w ps ns) h).1)
