-- One more element chosen.
use Rattle.std.proofs.Common.{◌≡◌, ℕ, ◌+◌, ◌-◌, ◌<◌, ◌≤◌, Bool, true, false, List, [], ◌∷◌, ◌++◌, length, get_or, take, drop, sym, ◌∙◌, ap, add-one, arith}
use Rattle.std.proofs.Math.ListN.{set}
use Rattle.std.proofs.Math.Seq.{take-suc-set}
use Rattle.std.proofs.lemmas.List.{take_all}
use Rattle.spec_core.specs.declared.world.World.{World}
use Rattle.spec_core.specs.World.{size_of}
use Rattle.spec_core.specs.Choices.{all_below, all_choices}
use Rattle.spec_core.proofs.Lists.{and_true}
use Rattle.spec_core.proofs.Choosing.{choices_all, choices_fail}

pub head_rest : (xs : List ℕ) → 1 ≤ length xs → xs ≡ get_or xs 0 0 ∷ take (length xs - 1) (drop 1 xs)
head_rest [] h = absurd (omega arith)
head_rest (y ∷ ys) h = (let n : length (y ∷ ys) - 1 ≡ length ys = omega arith in ap (λ l. y ∷ l) (sym (ap (λ m. take m ys) n ∙ take_all (length ys) ys (omega arith))))

pub longer : (xs : List ℕ) (n e : ℕ) → n < length xs → take (n + 1) (set xs n e) ≡ take n xs ++ e ∷ []
longer xs n e lt = ap (λ m. take m (set xs n e)) (add-one n) ∙ take-suc-set xs n e lt

pub below_one_more : (q : ℕ → Bool) (n : ℕ) → all_below n q ≡ true → q n ≡ true → all_below (n + 1) q ≡ true
below_one_more q n h k = ap (λ m. all_below m q) (add-one n) ∙ and_true (all_below n q) (q n) h k

pub below_all : (q : ℕ → Bool) (n m : ℕ) → all_below n q ≡ true → n ≤ m → m ≤ n → all_below m q ≡ true
below_all q n m h a b = (let e : m ≡ n = omega arith in ap (λ k. all_below k q) e ∙ h)

module _ (w : World) (chosen : List ℕ) (sorts : List ℕ) (p : List ℕ → Bool) (some : 1 ≤ length sorts) where
  pub chosen_all : (n : ℕ) → all_below n (λ e. all_choices w (chosen ++ e ∷ []) (take (length sorts - 1) (drop 1 sorts)) p) ≡ true → n ≤ size_of w (get_or sorts 0 0) → size_of w (get_or sorts 0 0) ≤ n → true ≡ all_choices w chosen sorts p
  chosen_all n h a b =
      sym (ap (λ ss. all_choices w chosen ss p) (head_rest sorts some)
      ∙ choices_all w chosen (get_or sorts 0 0) p (take (length sorts - 1) (drop 1 sorts)) (below_all (λ e. all_choices w (chosen ++ e ∷ []) (take (length sorts - 1) (drop 1 sorts)) p) n (size_of w (get_or sorts 0 0)) h a b))

  pub chosen_fails : (e : ℕ) → e < size_of w (get_or sorts 0 0) → all_choices w (chosen ++ e ∷ []) (take (length sorts - 1) (drop 1 sorts)) p ≡ false → false ≡ all_choices w chosen sorts p
  chosen_fails e lt h = sym (ap (λ ss. all_choices w chosen ss p) (head_rest sorts some) ∙ choices_fail w chosen (get_or sorts 0 0) p (take (length sorts - 1) (drop 1 sorts)) e lt h)
