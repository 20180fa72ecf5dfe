-- The first value out of range, where the first counter has none.
use Rattle.std.proofs.Common.{◌≡◌, ℕ, suc, ◌+◌, ◌-◌, ◌≤◌, ℤ, List, [], ◌∷◌, map, length, get_or, take, drop, Option, None, sym, ◌∙◌, ap, add-one, arith}
use Rattle.std.proofs.lemmas.List.{take_all}
use Rattle.spec_core.specs.declared.world.World.{World}
use Rattle.spec_core.specs.declared.spec.Counter.{Counter}
use Rattle.spec_core.specs.World.{tuples}
use Rattle.effectors.specs.declared.outside.Outside.{Outside}
use Rattle.effectors.specs.Effect.{numbered}
use Rattle.effectors.specs.Beyond.{first_beyond}
use Rattle.effectors.specs.Outside.{outside_or}

pub head_rest : {X : Type 0} (xs : List X) (x : X) → 1 ≤ length xs → x ≡ get_or xs 0 x → xs ≡ x ∷ take (length xs - 1) (drop 1 xs)
head_rest [] x h e = absurd (omega arith)
head_rest (y ∷ ys) x h e = (let n : length (y ∷ ys) - 1 ≡ length ys = omega arith in (sym (ap (λ z. z ∷ ys) e)) ∙ ap (λ l. x ∷ l) (sym (ap (λ m. take m ys) n ∙ take_all (length ys) ys (omega arith))))

module _ (w : World) (f : ℕ → List ℕ → ℤ) where
  pub outside_later : (k : ℕ) (xs rest : List Counter) (it : Counter) (keys : List (List ℕ)) (o : Option Outside) → xs ≡ it ∷ rest → keys ≡ tuples w it.keys → o ≡ None
      → ((more : List (List (List ℕ × ℤ))) → first_beyond k (map (λ t. (t, f k t)) keys ∷ more) ≡ outside_or k o (first_beyond (suc k) more))
      → first_beyond (k + 1) (numbered (λ k it. map (λ t. (t, f k t)) (tuples w it.keys)) (k + 1) rest) ≡ first_beyond k (numbered (λ k it. map (λ t. (t, f k t)) (tuples w it.keys)) k xs)
  outside_later k xs rest it keys o e g n h =
      let fs = λ (k : ℕ) (it : Counter). map (λ t. (t, f k t)) (tuples w it.keys) in
      let later = numbered fs (suc k) rest in
      ap (λ m. first_beyond m (numbered fs m rest)) (add-one k)
      ∙ sym (ap (λ l. first_beyond k (numbered fs k l)) e
      ∙ ap (λ ts. first_beyond k (map (λ t. (t, f k t)) ts ∷ later)) (sym g)
      ∙ h later ∙ ap (λ o. outside_or k o (first_beyond (suc k) later)) n)
