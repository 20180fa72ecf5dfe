-- Lists without one of their elements.
use Rattle.std.proofs.Common.{◌≡◌, ℕ, ◌+◌, ◌<◌, ◌≤◌, ◌⊎◌, inl, inr, List, length, get_or, sym, subst, arith}
use Rattle.std.specs.Prelude.{All}
use Rattle.std.specs.List.{remove}
use Rattle.std.proofs.lemmas.Bool.{cases_order}
use Rattle.std.proofs.lemmas.List.Edits.{get_or-remove_below, get_or-remove_above, length-remove}

-- What is true of each is true of each that is left.
pub all_removed : {X : Type 0} (P : X → Type 0) (xs : List X) (i : ℕ) → i < length xs → All P xs → All P (remove xs i)
all_removed {X} P xs i h all = λ k d b. by_order k d b (cases_order k i)
  where
    from : (k : ℕ) (d : X) → k < length (remove xs i) → i ≤ k → P (get_or (remove xs i) k d)
    from k d b l =
        let n = length-remove xs i h in
        subst P (sym (get_or-remove_above xs i d k l h)) (all (k + 1) d (omega (arith, b, n)))

    by_order : (k : ℕ) (d : X) → k < length (remove xs i) → (k ≡ i) ⊎ ((k < i) ⊎ (i < k)) → P (get_or (remove xs i) k d)
    by_order k d b (inl e) = from k d b (omega (arith, e))
    by_order k d b (inr (inl l)) = subst P (sym (get_or-remove_below xs i d k l h)) (all k d (omega (arith, l, h)))
    by_order k d b (inr (inr l)) = from k d b (omega (arith, l))
