-- What answers for the pairs of a specification say.
use Rattle.std.proofs.Common.{◌≡◌, ℕ, Bool, true, false, ◌&&◌, ◌||◌, ◌==◌, ◌⊎◌, inl, inr, List, [], ◌∷◌, refl, sym, ◌∙◌, ap, subst}
use Rattle.std.specs.List.{list_any, Contains}
use Rattle.std.proofs.lemmas.Bool.{and_parts, and_from, cases_Bool, eqb-true, eq-eqb}
use Rattle.std.proofs.lemmas.List.Elements.{Contains-append_right}
use Rattle.spec_core.specs.Specification.{Specification}
use Rattle.spec_core.specs.Typed.{is_specification}
use Rattle.obligation_list.specs.declared.obligation.Obligation.{Obligation}
use Rattle.obligation_list.specs.declared.witness.Witness.{Witness}
use Rattle.obligation_list.specs.Breaking.{Breaks, Holds}
use Rattle.obligation_list.proofs.Members.{here, there}
use Rattle.proof_lines.specs.declared.line.Line.{Line}
use Rattle.proof_report.specs.declared.place.PartialWitness.{PartialWitness}
use Rattle.proof_report.specs.Verdicts.{proved, refuted}
use Rattle.report_bytes.specs.Showing.{shown_by}
use Rattle.check_run.specs.Shown.{listing_of}
use Rattle.check_run.specs.Good.{IsGood}
use Rattle.conflict_variants.specs.Bare.{bare}
use Rattle.conflict_variants.specs.Keyed.{keyed}
use Rattle.conflict_variants.proofs.WellFormed.{bare_well_formed}
use Rattle.suggest.specs.Pairs.{PairHolds, IsPair, IsEnough, pairs_of, keys_of}
use Rattle.suggest.specs.Answers.{IsFoundIn, is_refuted, is_undecided, is_proved, keys_after, AreKeyAnswers, IsAnswer, AreAnswers, AreAnswersSoFar, is_for, is_needed, is_unknown, is_key, is_enough_by}
use Rattle.suggest.specs.Theorem.{IsShownToBreak, AreShownToBreak, IsBroken, IsRight}
use Rattle.suggest.specs.declared.answer.Pair.{Pair}
use Rattle.suggest.specs.declared.answer.Key.{Key}
use Rattle.suggest.specs.declared.answer.Found.{Found}
use Rattle.suggest.specs.declared.answer.Found.TheVariants as found
use Rattle.suggest.specs.declared.answer.KeyAnswer.{KeyAnswer}
use Rattle.suggest.specs.declared.answer.PairAnswer.{PairAnswer}
use Rattle.suggest.proofs.Bare.{Holds-bare}
use Rattle.suggest.proofs.Cons.{nowhere, cons_cases, none_passes}
use Rattle.suggest.proofs.Listed.{listed_pair, pair_listed}

true_false : (b : Bool) → b ≡ true → b ≡ false → ⊥
true_false b h k = let e : true ≡ false = sym h ∙ k in absurd cc

-- the kinds of what is found exclude each other
not_proved : (f : Found) → is_proved f ≡ false → (is_refuted f ≡ true) ⊎ (is_undecided f ≡ true)
not_proved found.Proved h = absurd cc
not_proved (found.Refuted ob w) h = inl refl
not_proved (found.Undecided ob cause) h = inr refl

-- ---- members

-- an answer that passes a test, with its pair
passing : (d : Specification) (budget : ℕ) (test : PairAnswer → Bool) (ps : List Pair) (xs : List PairAnswer) → AreAnswers d budget ps xs → list_any test xs ≡ true
    → (p : Pair) × (x : PairAnswer) × Contains ps p × IsAnswer d budget p x × (test x ≡ true)
passing d budget test [] [] g h = absurd cc
passing d budget test [] (x ∷ xs) g h = absurd g
passing d budget test (p ∷ ps) [] g h = absurd g
passing d budget test (p ∷ ps) (x ∷ xs) g h = elim (cases_Bool (test x)) [
  | inl e ↦ (p, x, here p ps p refl, g.0, e)
  | inr e ↦ (let r = passing d budget test ps xs g.1 (ap (λ b. b || list_any test xs) (sym e) ∙ h) in (r.0, r.1, there p ps r.0 r.2, r.3, r.4))
]

-- the answer for a pair
answer_for : (d : Specification) (budget : ℕ) (ps : List Pair) (xs : List PairAnswer) → AreAnswers d budget ps xs → (p : Pair) → Contains ps p → (x : PairAnswer) × Contains xs x × IsAnswer d budget p x
answer_for d budget [] [] g p m = absurd (nowhere p m)
answer_for d budget [] (x ∷ xs) g p m = absurd g
answer_for d budget (q ∷ ps) [] g p m = absurd g
answer_for d budget (q ∷ ps) (x ∷ xs) g p m = elim (cons_cases q ps p m) [
  | inl e ↦ (x, here x xs x refl, subst (λ (y : Pair). IsAnswer d budget y x) e g.0)
  | inr r ↦ (let k = answer_for d budget ps xs g.1 p r in (k.0, there x xs k.0 k.1, k.2))
]

-- answers for all of these pairs are answers for the first of them
so_far : (d : Specification) (budget : ℕ) (ps : List Pair) (xs : List PairAnswer) → AreAnswers d budget ps xs → AreAnswersSoFar d budget ps xs
so_far d budget [] [] g = tt
so_far d budget [] (x ∷ xs) g = absurd g
so_far d budget (p ∷ ps) [] g = tt
so_far d budget (p ∷ ps) (x ∷ xs) g = (g.0, so_far d budget ps xs g.1)

-- the pair of an answer, and the parameters of one at two of them
pair_of : (d : Specification) (budget : ℕ) (ps : List Pair) (xs : List PairAnswer) → AreAnswersSoFar d budget ps xs → (x : PairAnswer) → Contains xs x → (p : Pair) × IsAnswer d budget p x
pair_of d budget ps [] g x m = absurd (nowhere x m)
pair_of d budget [] (y ∷ xs) g x m = absurd g
pair_of d budget (p ∷ ps) (y ∷ xs) g x m = elim (cons_cases y xs x m) [
  | inl e ↦ (p, subst (λ (z : PairAnswer). IsAnswer d budget p z) e g.0)
  | inr r ↦ pair_of d budget ps xs g.1 x r
]

key_of : (d : Specification) (budget a b : ℕ) (ks : List Key) (ys : List KeyAnswer) → AreKeyAnswers d budget a b ks ys → (y : KeyAnswer) → Contains ys y
    → (k : Key) × (y.key ≡ k) × IsFoundIn (keyed d a k.p b k.q) budget a b y.found
key_of d budget a b [] [] g y m = absurd (nowhere y m)
key_of d budget a b [] (z ∷ ys) g y m = absurd g
key_of d budget a b (k ∷ ks) [] g y m = absurd g
key_of d budget a b (k ∷ ks) (z ∷ ys) g y m = elim (cons_cases z ys y m) [
  | inl e ↦ (k, ap (λ (t : KeyAnswer). t.key) (sym e) ∙ g.0, subst (λ (t : KeyAnswer). IsFoundIn (keyed d a k.p b k.q) budget a b t.found) e g.1)
  | inr r ↦ key_of d budget a b ks ys g.2 y r
]

-- an answer at two parameters that passes a test
passing_key : (d : Specification) (budget a b : ℕ) (test : KeyAnswer → Bool) (ks : List Key) (ys : List KeyAnswer) → AreKeyAnswers d budget a b ks ys → list_any test ys ≡ true
    → (k : Key) × (y : KeyAnswer) × (y.key ≡ k) × IsFoundIn (keyed d a k.p b k.q) budget a b y.found × (test y ≡ true)
passing_key d budget a b test [] [] g h = absurd cc
passing_key d budget a b test [] (y ∷ ys) g h = absurd g
passing_key d budget a b test (k ∷ ks) [] g h = absurd g
passing_key d budget a b test (k ∷ ks) (y ∷ ys) g h = elim (cases_Bool (test y)) [
  | inl e ↦ (k, y, g.0, g.1, e)
  | inr e ↦ passing_key d budget a b test ks ys g.2 (ap (λ c. c || list_any test ys) (sym e) ∙ h)
]

-- ---- the pair of an answer

same_pair : (x : PairAnswer) (p : Pair) (a b : ℕ) → x.pair ≡ p → is_for a b x ≡ true → (p.first ≡ a) × (p.second ≡ b)
same_pair x p a b e h =
    let q = and_parts (x.pair.first == a) (x.pair.second == b) h in
    (ap (λ (y : Pair). y.first) (sym e) ∙ eqb-true x.pair.first a q.0, ap (λ (y : Pair). y.second) (sym e) ∙ eqb-true x.pair.second b q.1)

for_pair : (x : PairAnswer) (a b : ℕ) → x.pair ≡ record { first = a; second = b } → is_for a b x ≡ true
for_pair x a b e = and_from (x.pair.first == a) (x.pair.second == b) (eq-eqb x.pair.first a (ap (λ (y : Pair). y.first) e)) (eq-eqb x.pair.second b (ap (λ (y : Pair). y.second) e))

moved : (P : ℕ → ℕ → Type 0) (m n a b : ℕ) → m ≡ a → n ≡ b → P m n → P a b
moved P m n a b e f h = subst (λ i. P i b) e (subst (λ j. P m j) f h)

same_key : (y : KeyAnswer) (k : Key) (p q : ℕ) → y.key ≡ k → is_key p q y ≡ true → (k.p ≡ p) × (k.q ≡ q)
same_key y k p q e h =
    let t = and_parts (y.key.p == p) (y.key.q == q) h in
    (ap (λ (z : Key). z.p) (sym e) ∙ eqb-true y.key.p p t.0, ap (λ (z : Key). z.q) (sym e) ∙ eqb-true y.key.q q t.1)

-- ---- what is found

module _ (holds : (d : Specification) (budget : ℕ) (ob : Obligation) (log : List Line) → is_specification d ≡ true → IsGood d budget ob (proved log) → Holds d ob)
    (breaks : (d : Specification) (budget : ℕ) (ob : Obligation) (p : PartialWitness) (es : List ℕ) → IsGood d budget ob (refuted p es) → Breaks d ob p.world (listing_of d p) p.calls es) where
  proved_holds : (d : Specification) (budget a b : ℕ) (f : Found) → IsFoundIn d budget a b f → is_proved f ≡ true → PairHolds d a b
  proved_holds d budget a b found.Proved h e = λ ob m. elim (h.comes_to ob m) [
    | inl log ↦ holds d budget ob log.0 h.specified log.1
    | inr log ↦ Holds-bare d ob (holds (bare d) budget ob log.0 (bare_well_formed d h.specified) log.1)
  ]
  proved_holds d budget a b (found.Refuted ob w) h e = absurd cc
  proved_holds d budget a b (found.Undecided ob cause) h e = absurd cc

  refuted_breaks : (d : Specification) (budget a b : ℕ) (f : Found) → IsFoundIn d budget a b f → is_refuted f ≡ true → IsBroken d a b
  refuted_breaks d budget a b found.Proved h e = absurd cc
  refuted_breaks d budget a b (found.Refuted ob w) h e =
      let r = h.comes_to in
      record {
        obligation = ob;
        of_pair = subst (λ (os : List Obligation). Contains os ob) (sym r.listed) (Contains-append_right r.before (ob ∷ r.behind) ob (here ob r.behind ob refl));
        world = w.world;
        state = listing_of d (shown_by d w);
        calls = w.calls;
        elements = w.elements;
        breaks = breaks d budget ob (shown_by d w) w.elements r.refutes;
      }
  refuted_breaks d budget a b (found.Undecided ob cause) h e = absurd cc

  shown_breaks : (d : Specification) (budget a b : ℕ) (f : Found) (ob : Obligation) (w : Witness) → IsFoundIn d budget a b f → f ≡ found.Refuted ob w → IsShownToBreak d a b ob w
  shown_breaks d budget a b f ob w h e =
      let r = (subst (λ (g : Found). IsFoundIn d budget a b g) e h).comes_to in
      record {
        of_pair = subst (λ (os : List Obligation). Contains os ob) (sym r.listed) (Contains-append_right r.before (ob ∷ r.behind) ob (here ob r.behind ob refl));
        breaks = breaks d budget ob (shown_by d w) w.elements r.refutes;
      }

  module _ (d : Specification) (budget : ℕ) (xs : List PairAnswer) (good : AreAnswersSoFar d budget (pairs_of d) xs) where
    needed_shown : (x : PairAnswer) (ob : Obligation) (w : Witness) → Contains xs x → x.found ≡ found.Refuted ob w → IsShownToBreak (bare d) x.pair.first x.pair.second ob w
    needed_shown x ob w m e =
        let r = pair_of d budget (pairs_of d) xs good x m in
        let same = r.1.pair_is in
        moved (λ i j. IsShownToBreak (bare d) i j ob w) r.0.first r.0.second x.pair.first x.pair.second (ap (λ (p : Pair). p.first) (sym same)) (ap (λ (p : Pair). p.second) (sym same))
        (shown_breaks (bare d) budget r.0.first r.0.second x.found ob w r.1.bare_found e)

    notby_shown : (x : PairAnswer) (y : KeyAnswer) (ob : Obligation) (w : Witness) → Contains xs x → Contains x.keys y → y.found ≡ found.Refuted ob w
        → IsShownToBreak (keyed d x.pair.first y.key.p x.pair.second y.key.q) x.pair.first x.pair.second ob w
    notby_shown x y ob w m k e =
        let r = pair_of d budget (pairs_of d) xs good x m in
        let t = key_of d budget r.0.first r.0.second (keys_after x.found (keys_of d r.0.first r.0.second)) x.keys r.1.keys y k in
        let same = r.1.pair_is in let at = t.1 in
        moved (λ i j. IsShownToBreak (keyed d i y.key.p j y.key.q) i j ob w) r.0.first r.0.second x.pair.first x.pair.second (ap (λ (p : Pair). p.first) (sym same)) (ap (λ (p : Pair). p.second) (sym same))
        (moved (λ i j. IsShownToBreak (keyed d r.0.first i r.0.second j) r.0.first r.0.second ob w) t.0.p t.0.q y.key.p y.key.q (ap (λ (z : Key). z.p) (sym at)) (ap (λ (z : Key). z.q) (sym at))
        (shown_breaks (keyed d r.0.first t.0.p r.0.second t.0.q) budget r.0.first r.0.second y.found ob w t.2 e))

    pub shown_so_far : AreShownToBreak d xs
    shown_so_far = record { needed = needed_shown; notby = notby_shown }

  module _ (d : Specification) (budget : ℕ) (xs : List PairAnswer) (good : AreAnswers d budget (pairs_of d) xs) where
    needed_breaks : (a b : ℕ) → is_needed xs a b ≡ true → IsPair d a b × IsBroken (bare d) a b
    needed_breaks a b n =
        let r = passing d budget (λ x. is_for a b x && is_refuted x.found) (pairs_of d) xs good n in
        let p = r.0 in let x = r.1 in
        let t = and_parts (is_for a b x) (is_refuted x.found) r.4 in
        let e = same_pair x p a b r.3.pair_is t.0 in (
          moved (λ i j. IsPair d i j) p.first p.second a b e.0 e.1 (listed_pair d p r.2),
          moved (λ i j. IsBroken (bare d) i j) p.first p.second a b e.0 e.1 (refuted_breaks (bare d) budget p.first p.second x.found r.3.bare_found t.1),
        )

    least : (inside : ℕ → ℕ → Bool) → IsEnough d inside → (a b : ℕ) → is_needed xs a b ≡ true → inside a b ≡ true
    least inside enough a b n =
        let r = needed_breaks a b n in
        elim (cases_Bool (inside a b)) [
          | inl e ↦ e
          | inr e ↦ (let k = r.1 in absurd (enough a b r.0 e k.obligation k.of_pair k.world k.state k.calls k.elements k.breaks))
        ]

    free : (a b : ℕ) → IsPair d a b → is_needed xs a b ≡ false → is_unknown xs a b ≡ false → PairHolds (bare d) a b
    free a b h n u =
        let r = answer_for d budget (pairs_of d) xs good (record { first = a; second = b }) (pair_listed d a b h) in
        let x = r.0 in
        let mine = for_pair x a b r.2.pair_is in
        elim (cases_Bool (is_proved x.found)) [
          | inl e ↦ proved_holds (bare d) budget a b x.found r.2.bare_found e
          | inr e ↦ absurd (elim (not_proved x.found e) [
            | inl k ↦ true_false (is_for a b x && is_refuted x.found) (and_from (is_for a b x) (is_refuted x.found) mine k) (none_passes (λ x. is_for a b x && is_refuted x.found) xs n x r.1)
            | inr k ↦ true_false (is_for a b x && is_undecided x.found) (and_from (is_for a b x) (is_undecided x.found) mine k) (none_passes (λ x. is_for a b x && is_undecided x.found) xs u x r.1)
          ])
        ]

    by_keys : (a b p q : ℕ) → is_enough_by xs a b p q ≡ true → PairHolds (keyed d a p b q) a b
    by_keys a b p q h =
        let r = passing d budget (λ x. is_for a b x && list_any (λ y. is_key p q y && is_proved y.found) x.keys) (pairs_of d) xs good h in
        let x = r.1 in
        let t = and_parts (is_for a b x) (list_any (λ y. is_key p q y && is_proved y.found) x.keys) r.4 in
        let e = same_pair x r.0 a b r.3.pair_is t.0 in
        let k = passing_key d budget r.0.first r.0.second (λ y. is_key p q y && is_proved y.found) (keys_after x.found (keys_of d r.0.first r.0.second)) x.keys r.3.keys t.1 in
        let s = and_parts (is_key p q k.1) (is_proved k.1.found) k.4 in
        let f = same_key k.1 k.0 p q k.2 s.0 in
        moved (λ i j. PairHolds (keyed d i p j q) i j) r.0.first r.0.second a b e.0 e.1
        (moved (λ i j. PairHolds (keyed d r.0.first i r.0.second j) r.0.first r.0.second) k.0.p k.0.q p q f.0 f.1
        (proved_holds (keyed d r.0.first k.0.p r.0.second k.0.q) budget r.0.first r.0.second k.1.found k.3 s.1))

    pub right : IsRight d xs
    right = record {
      shown = shown_so_far d budget xs (so_far d budget (pairs_of d) xs good);
      broken = λ a b n. (needed_breaks a b n).1;
      least = least;
      free = free;
      enough = λ u a b h n. free a b h n (u a b);
      keyed = by_keys;
    }
