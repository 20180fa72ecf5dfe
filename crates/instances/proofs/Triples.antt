-- Loops over constants: each with those after it.
use Rattle.std.proofs.Common.{◌≡◌, ℕ, suc, ◌+◌, ◌<◌, List, ◌++◌, length, drop, drop-cons, slice_index, ◌∙◌, ap, arith}
use Rattle.std.specs.List.{flat_map}
use Rattle.ground_problem.specs.Symbols.{Symbolic, same, negated, both, either}
use Rattle.ground_problem.specs.Constants.{of_sort}
use Rattle.ground_problem.specs.Equality.{three_agree, agree_with_pairs, equality}

pub triples_next : (a b : ℕ) (cs : List ℕ) (i : ℕ) → i < length cs → flat_map (three_agree a b) (drop i cs) ≡ three_agree a b (slice_index cs i) ++ flat_map (three_agree a b) (drop (i + 1) cs)
triples_next a b cs i h =
    let e : suc i ≡ i + 1 = omega arith in
    ap (flat_map (three_agree a b)) (drop-cons cs i 0 h) ∙ ap (λ (n : ℕ). three_agree a b (slice_index cs i) ++ flat_map (three_agree a b) (drop n cs)) e

pub pairs_next : (a : ℕ) (cs : List ℕ) (i : ℕ) → i < length cs → agree_with_pairs a (drop i cs) ≡ flat_map (three_agree a (slice_index cs i)) (drop (i + 1) cs) ++ agree_with_pairs a (drop (i + 1) cs)
pairs_next a cs i h =
    let e : suc i ≡ i + 1 = omega arith in
    ap (agree_with_pairs a) (drop-cons cs i 0 h) ∙ ap (λ (n : ℕ). flat_map (three_agree a (slice_index cs i)) (drop n cs) ++ agree_with_pairs a (drop n cs)) e

pub equality_next : (ss : List ℕ) (i : ℕ) → i < length ss → equality i (drop i ss) ≡ agree_with_pairs i (of_sort (i + 1) (drop (i + 1) ss) (slice_index ss i)) ++ equality (i + 1) (drop (i + 1) ss)
equality_next ss i h =
    let e : suc i ≡ i + 1 = omega arith in
    ap (equality i) (drop-cons ss i 0 h) ∙ ap (λ (n : ℕ). agree_with_pairs i (of_sort n (drop n ss) (slice_index ss i)) ++ equality n (drop n ss)) e

-- where a is b and c is d, e is f
abbrev pub where_two : (a b c d e f : ℕ) → Symbolic
where_two a b c d e f = either (negated (both (same a b) (same c d))) (same e f)
