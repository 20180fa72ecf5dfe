-- How the list of some blocks grows.
use Rattle.std.proofs.Common.{◌≡◌, ℕ, zero, suc, ◌+◌, ◌<◌, List, [], ◌∷◌, ◌++◌, length, get_or, drop, refl, sym, ◌∙◌, ap, arith, append_assoc}
use Rattle.std.specs.Prelude.{OnOk, Result, Ok, Err}
use Rattle.items.specs.Joined.{joined}

-- elements more
pub joined_more : {X : Type 0} (bs : List (List X)) (xs ys : List X) → joined bs (xs ++ ys) ≡ joined bs xs ++ ys
joined_more [] xs ys = refl
joined_more (b ∷ bs) xs ys = ap (λ l. b ++ l) (joined_more bs xs ys) ∙ sym (append_assoc b (joined bs xs) ys)

-- a block more
joined_block : {X : Type 0} (bs : List (List X)) (b rest : List X) → joined (bs ++ b ∷ []) rest ≡ joined bs (b ++ rest)
joined_block [] b rest = refl
joined_block (a ∷ bs) b rest = ap (λ l. a ++ l) (joined_block bs b rest)

none_more : {X : Type 0} (xs : List X) → xs ++ [] ≡ xs
none_more [] = refl
none_more (x ∷ xs) = ap (λ l. x ∷ l) (none_more xs)

-- a block that the elements behind become
pub joined_aside : {X : Type 0} (bs : List (List X)) (rest : List X) → joined (bs ++ rest ∷ []) [] ≡ joined bs rest
joined_aside bs rest = joined_block bs rest [] ∙ ap (joined bs) (none_more rest)

-- an element more behind the blocks
pub added : {A E X : Type 0} (r : Result A E) (bs : List (List X)) (rest new now : List X) (item : X) → joined bs rest ≡ now → OnOk r (new ≡ rest ++ item ∷ []) → OnOk r (joined bs new ≡ now ++ item ∷ [])
added (Ok a) bs rest new now item e h = ap (joined bs) h ∙ joined_more bs rest (item ∷ []) ∙ ap (λ l. l ++ item ∷ []) e
added (Err a) bs rest new now item e h = h

drop_next : {Y : Type 0} (ys : List Y) (i : ℕ) (y : Y) → i < length ys → y ≡ get_or ys i y → drop i ys ≡ y ∷ drop (suc i) ys
drop_next [] i y lt h = absurd (omega (arith, lt))
drop_next (x ∷ ys) zero y lt h = ap (λ z. z ∷ ys) (sym h)
drop_next (x ∷ ys) (suc i) y lt h = drop_next ys i y (omega (arith, lt)) h

-- all are those so far, and those of the blocks from here on
pub next_block : {X : Type 0} (bs : List (List X)) (i : ℕ) (b all xs : List X) → i < length bs → b ≡ get_or bs i b → all ≡ xs ++ joined (drop i bs) []
    → all ≡ (xs ++ b) ++ joined (drop (i + 1) bs) []
next_block bs i b all xs lt is so_far =
    so_far
    ∙ ap (λ l. xs ++ joined l []) (drop_next bs i b lt is ∙ ap (λ n. b ∷ drop n bs) (let e : suc i ≡ i + 1 = omega arith in e))
    ∙ sym (append_assoc xs b (joined (drop (i + 1) bs) []))

-- the elements of the blocks, and those behind them
pub joined_two : {X : Type 0} (bs : List (List X)) (rest : List X) → joined bs [] ++ rest ≡ joined bs rest
joined_two bs rest = sym (joined_more bs [] rest)
