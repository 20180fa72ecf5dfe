-- The initial value of a relation or a counter at a place.
use Rattle.std.proofs.Common.{◌≡◌, ℕ, zero, suc, ◌-◌, ◌<◌, ◌≤◌, ℤ, Bool, false, ◌==◌, if◌then◌else◌, List, [], ◌∷◌, length, get_or, refl, ◌∙◌, ap, arith}
use Rattle.std.proofs.Math.ListN.{set}
use Rattle.std.proofs.lemmas.Bool.Decides.{nat_tests}
use Rattle.spec_core.specs.declared.spec.Relation.{Relation}
use Rattle.spec_core.specs.declared.spec.Counter.{Counter}
use Rattle.typing_rules.specs.Items.{initial_truth, initial_number}

not_first : (n : ℕ) → (suc n == 0) ≡ false
not_first n = grind (arith, nat_tests)

pub truth_set : (rs : List Relation) (n : ℕ) (b : Bool) (d : Relation) → n < length rs → initial_truth rs n b ≡ set rs n (record (get_or rs n d) { initial = b })
truth_set [] n b d lt = absurd (omega (arith, lt))
truth_set (r ∷ rs) zero b d lt = refl
truth_set (r ∷ rs) (suc n) b d lt = ap (λ t. if t then record r { initial = b } ∷ rs else r ∷ initial_truth rs (suc n - 1) b) (not_first n) ∙ ap (λ xs. r ∷ xs) (ap (λ k. initial_truth rs k b) (let e : suc n - 1 ≡ n = omega arith in e) ∙ truth_set rs n b d (omega (arith, lt)))

pub truth_beyond : (rs : List Relation) (n : ℕ) (b : Bool) → length rs ≤ n → initial_truth rs n b ≡ rs
truth_beyond [] n b le = refl
truth_beyond (r ∷ rs) zero b le = absurd (omega (arith, le))
truth_beyond (r ∷ rs) (suc n) b le = ap (λ t. if t then record r { initial = b } ∷ rs else r ∷ initial_truth rs (suc n - 1) b) (not_first n) ∙ ap (λ xs. r ∷ xs) (ap (λ k. initial_truth rs k b) (let e : suc n - 1 ≡ n = omega arith in e) ∙ truth_beyond rs n b (omega (arith, le)))

pub number_set : (cs : List Counter) (n : ℕ) (v : ℤ) (d : Counter) → n < length cs → initial_number cs n v ≡ set cs n (record (get_or cs n d) { initial = v })
number_set [] n v d lt = absurd (omega (arith, lt))
number_set (c ∷ cs) zero v d lt = refl
number_set (c ∷ cs) (suc n) v d lt = ap (λ t. if t then record c { initial = v } ∷ cs else c ∷ initial_number cs (suc n - 1) v) (not_first n) ∙ ap (λ xs. c ∷ xs) (ap (λ k. initial_number cs k v) (let e : suc n - 1 ≡ n = omega arith in e) ∙ number_set cs n v d (omega (arith, lt)))

pub number_beyond : (cs : List Counter) (n : ℕ) (v : ℤ) → length cs ≤ n → initial_number cs n v ≡ cs
number_beyond [] n v le = refl
number_beyond (c ∷ cs) zero v le = absurd (omega (arith, le))
number_beyond (c ∷ cs) (suc n) v le = ap (λ t. if t then record c { initial = v } ∷ cs else c ∷ initial_number cs (suc n - 1) v) (not_first n) ∙ ap (λ xs. c ∷ xs) (ap (λ k. initial_number cs k v) (let e : suc n - 1 ≡ n = omega arith in e) ∙ number_beyond cs n v (omega (arith, le)))
