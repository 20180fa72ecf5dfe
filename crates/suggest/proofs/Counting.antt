-- Where no unknown pair is counted there is none.
use Rattle.std.proofs.Common.{◌≡◌, ℕ, suc, Bool, true, false, ◌&&◌, ◌||◌, List, [], ◌∷◌, ◌==◌, refl, ◌∙◌, arith}
use Rattle.std.proofs.lemmas.Bool.{and_from, eq-eqb}
use Rattle.suggest.specs.Answers.{is_undecided, with_answer, counted_from, counted, no_answers, is_for, is_unknown}
use Rattle.suggest.specs.declared.answer.Found.{Found}
use Rattle.suggest.specs.declared.answer.Found.TheVariants as found
use Rattle.suggest.specs.declared.answer.PairAnswer.{PairAnswer}
use Rattle.suggest.specs.declared.answer.SuggestTally.{SuggestTally}
use Rattle.suggest.proofs.Cons.{or_false}

not_zero : (n : ℕ) → suc n ≡ 0 → ⊥
not_zero n e = omega (arith, e)

before : (f : Found) (t : SuggestTally) → (with_answer f t).unknown ≡ 0 → (t.unknown ≡ 0) × (is_undecided f ≡ false)
before found.Proved t h = (h, refl)
before (found.Refuted ob w) t h = (h, refl)
before (found.Undecided ob cause) t h = absurd (not_zero t.unknown h)

neither : (a b c : Bool) → b ≡ false → c ≡ false → ((a && b) || c) ≡ false
neither a b c h k = grind arith

none_from : (t : SuggestTally) (xs : List PairAnswer) → (counted_from t xs).unknown ≡ 0 → (t.unknown ≡ 0) × ((a b : ℕ) → is_unknown xs a b ≡ false)
none_from t [] h = (h, λ a b. refl)
none_from t (x ∷ xs) h =
    let r = none_from (with_answer x.found t) xs h in
    let k = before x.found t r.0 in
    (k.0, λ a b. neither (is_for a b x) (is_undecided x.found) (is_unknown xs a b) k.1 (r.1 a b))

pub none_unknown : (xs : List PairAnswer) → (counted xs).unknown ≡ 0 → (a b : ℕ) → is_unknown xs a b ≡ false
none_unknown xs h = (none_from no_answers xs h).1

-- Where no pair is unknown, none is counted.
unchanged : (f : Found) (t : SuggestTally) → is_undecided f ≡ false → (with_answer f t).unknown ≡ t.unknown
unchanged found.Proved t h = refl
unchanged (found.Refuted ob w) t h = refl
unchanged (found.Undecided ob cause) t h = absurd cc

own : (x : PairAnswer) → is_for x.pair.first x.pair.second x ≡ true
own x = and_from (x.pair.first == x.pair.first) (x.pair.second == x.pair.second) (eq-eqb x.pair.first x.pair.first refl) (eq-eqb x.pair.second x.pair.second refl)

right_false : (a b : Bool) → a ≡ true → (a && b) ≡ false → b ≡ false
right_false true b h k = k
right_false false b h k = absurd cc

none_counted_from : (t : SuggestTally) (xs : List PairAnswer) → t.unknown ≡ 0 → ((a b : ℕ) → is_unknown xs a b ≡ false) → (counted_from t xs).unknown ≡ 0
none_counted_from t [] h none = h
none_counted_from t (x ∷ xs) h none =
    let p = or_false (is_for x.pair.first x.pair.second x && is_undecided x.found) (is_unknown xs x.pair.first x.pair.second) (none x.pair.first x.pair.second) in
    let f = right_false (is_for x.pair.first x.pair.second x) (is_undecided x.found) (own x) p.0 in
    none_counted_from (with_answer x.found t) xs (unchanged x.found t f ∙ h) (λ a b. (or_false (is_for a b x && is_undecided x.found) (is_unknown xs a b) (none a b)).1)

pub none_counted : (xs : List PairAnswer) → ((a b : ℕ) → is_unknown xs a b ≡ false) → (counted xs).unknown ≡ 0
none_counted xs none = none_counted_from no_answers xs refl none
