-- Tuples place by place, and tuples in rising order.
use Rattle.std.proofs.Common.{◌≡◌, ℕ, zero, suc, ◌+◌, ◌-◌, ◌<◌, ◌≤◌, filter, Option, Some, Bool, true, false, cond, min, List, [], ◌∷◌, ◌++◌, length, map, drop, take, drop-cons, get_or, slice_index, append_assoc, refl, sym, ◌∙◌, ap, arith}
use Rattle.std.specs.Prelude.{◌==◌}
use Rattle.std.specs.Ordering.{nat_cmp, is_lt}
use Rattle.std.specs.Cmp.Lexicographic.{slice_cmp}
use Rattle.std.proofs.lemmas.Bool.{true≢false}
use Rattle.std.proofs.lemmas.Bool.Decides.{Decides-eqb}
use Rattle.spec_core.specs.declared.update.Thing.{Thing}
use Rattle.ground_problem.specs.Symbols.{always, same_const}
use Rattle.ground_problem.specs.Equality.{tuples_same, congruent, congruent_pairs, insert_rising, rising}
use Rattle.ground_numbers.specs.Numbered.{Numbered, known}
use Rattle.effectors.specs.Effect.{is_thing}
use Rattle.ground_atoms.specs.Known.{Known}
use Rattle.ground_atoms.specs.Symbols.{reading_of}
use Rattle.ground_atoms.specs.declared.atom.NamedReading.{NamedReading}
use Rattle.stage_defs.specs.Parts.{joined, make_parts}
use Rattle.ground_groups.proofs.Joining.{parts_step}

-- ---- two tuples

pub same_next : (ts us : List ℕ) (i : ℕ) → i < length ts → i < length us
    → tuples_same (drop i ts) (drop i us) ≡ (same_const (slice_index ts i) (slice_index us i) ∷ []) ++ tuples_same (drop (i + 1) ts) (drop (i + 1) us)
same_next ts us i h g =
    let e : suc i ≡ i + 1 = omega arith in
    let p = drop-cons ts i 0 h in let q = drop-cons us i 0 g in
    (λ j. tuples_same (p j) (q j)) ∙ ap (λ (n : ℕ). same_const (slice_index ts i) (slice_index us i) ∷ tuples_same (drop n ts) (drop n us)) e

pub same_step : (ts us : List ℕ) (i : ℕ) → i < length ts → i < length us → (so_far more : Option Numbered) (k l : Known)
    → make_parts so_far k (same_const (slice_index ts i) (slice_index us i) ∷ []) ≡ record { known = l; parts = more }
    → make_parts more l (tuples_same (drop (i + 1) ts) (drop (i + 1) us)) ≡ make_parts so_far k (tuples_same (drop i ts) (drop i us))
same_step ts us i h g so_far more k l e =
    parts_step (same_const (slice_index ts i) (slice_index us i) ∷ []) (tuples_same (drop (i + 1) ts) (drop (i + 1) us)) (tuples_same (drop i ts) (drop i us)) (same_next ts us i h g) so_far more k l e

same_equal : (ts us : List ℕ) (n : ℕ) → n ≡ min (length ts) (length us) → length ts ≡ length us → tuples_same (drop n ts) (drop n us) ≡ []
same_equal [] [] zero e h = refl
same_equal [] (u ∷ us) zero e h = absurd (omega arith)
same_equal (t ∷ ts) [] zero e h = absurd (omega arith)
same_equal (t ∷ ts) (u ∷ us) zero e h = absurd (omega arith)
same_equal [] us (suc n) e h = absurd (omega arith)
same_equal (t ∷ ts) [] (suc n) e h = absurd (omega arith)
same_equal (t ∷ ts) (u ∷ us) (suc n) e h = same_equal ts us n (omega arith) (omega arith)

same_unequal : (ts us : List ℕ) (n : ℕ) → n ≡ min (length ts) (length us) → ¬ (length ts ≡ length us) → tuples_same (drop n ts) (drop n us) ≡ always false ∷ []
same_unequal [] [] n e h = absurd (h refl)
same_unequal [] (u ∷ us) zero e h = refl
same_unequal (t ∷ ts) [] zero e h = refl
same_unequal (t ∷ ts) (u ∷ us) zero e h = absurd (omega arith)
same_unequal [] (u ∷ us) (suc n) e h = absurd (omega arith)
same_unequal (t ∷ ts) [] (suc n) e h = absurd (omega arith)
same_unequal (t ∷ ts) (u ∷ us) (suc n) e h = same_unequal ts us n (omega arith) (λ g. h (ap suc g))

pub same_done : (ts us : List ℕ) (n : ℕ) → n ≡ min (length ts) (length us) → (so_far : Option Numbered) (k : Known)
    → make_parts so_far k (tuples_same (drop n ts) (drop n us)) ≡ record { known = k; parts = cond (length ts == length us) so_far (Some (joined so_far (known false))) }
same_done ts us n e so_far k = by_test (length ts == length us) refl
  where
    by_test : (b : Bool) → (length ts == length us) ≡ b → make_parts so_far k (tuples_same (drop n ts) (drop n us)) ≡ record { known = k; parts = cond b so_far (Some (joined so_far (known false))) }
    by_test true g = ap (make_parts so_far k) (same_equal ts us n e ((Decides-eqb (length ts) (length us)).0 g))
    by_test false g = ap (make_parts so_far k) (same_unequal ts us n e (λ h. true≢false (sym ((Decides-eqb (length ts) (length us)).1 h) ∙ g)))

-- ---- each two tuples

pub congruent_next : (x : Thing) (ts : List (List ℕ)) (i : ℕ) (t : List ℕ) → i < length ts → t ≡ get_or ts i t → congruent_pairs x (drop i ts) ≡ map (congruent x t) (drop (i + 1) ts) ++ congruent_pairs x (drop (i + 1) ts)
congruent_next x ts i t h is =
    let e : suc i ≡ i + 1 = omega arith in
    ap (congruent_pairs x) (drop-cons ts i t h) ∙ (λ j. map (congruent x (sym is j)) (drop (e j) ts) ++ congruent_pairs x (drop (e j) ts))

-- ---- rising tuples

take_more : (ts : List (List ℕ)) (i : ℕ) (u : List ℕ) → i < length ts → take (i + 1) ts ≡ take i ts ++ get_or ts i u ∷ []
take_more [] i u h = absurd (omega arith)
take_more (t ∷ ts) zero u h = refl
take_more (t ∷ ts) (suc i) u h =
    let e : suc i + 1 ≡ suc (i + 1) = omega arith in
    ap (λ (n : ℕ). take n (t ∷ ts)) e ∙ ap (λ (l : List (List ℕ)). t ∷ l) (take_more ts i u (omega arith))

pub rising_here : (t : List ℕ) (us : List (List ℕ)) (i : ℕ) (u : List ℕ) → i < length us → u ≡ get_or us i u → is_lt (slice_cmp nat_cmp t u) ≡ true → take i us ++ insert_rising t (drop i us) ≡ take i us ++ t ∷ drop i us
rising_here t us i u h is b =
    let p = drop-cons us i u h ∙ ap (λ (v : List ℕ). v ∷ drop (suc i) us) (sym is) in
    let rest = drop (suc i) us in
    ap (λ (l : List (List ℕ)). take i us ++ l) (ap (insert_rising t) p ∙ ap (λ (c : Bool). cond c (t ∷ u ∷ rest) (u ∷ insert_rising t rest)) b ∙ ap (λ (l : List (List ℕ)). t ∷ l) (sym p))

pub rising_next : (t : List ℕ) (us : List (List ℕ)) (i : ℕ) (u : List ℕ) → i < length us → u ≡ get_or us i u → is_lt (slice_cmp nat_cmp t u) ≡ false
    → take i us ++ insert_rising t (drop i us) ≡ take (i + 1) us ++ insert_rising t (drop (i + 1) us)
rising_next t us i u h is b =
    let e : suc i ≡ i + 1 = omega arith in
    let p = drop-cons us i u h ∙ ap (λ (v : List ℕ). v ∷ drop (suc i) us) (sym is) in
    let rest = drop (suc i) us in
    ap (λ (l : List (List ℕ)). take i us ++ insert_rising t l) p ∙ ap (λ (c : Bool). take i us ++ cond c (t ∷ u ∷ rest) (u ∷ insert_rising t rest)) b
    ∙ sym (append_assoc (take i us) (u ∷ []) (insert_rising t rest))
    ∙ ap (λ (l : List (List ℕ)). l ++ insert_rising t rest) (sym (take_more us i u h ∙ ap (λ (v : List ℕ). take i us ++ v ∷ []) (sym is)))
    ∙ ap (λ (n : ℕ). take (i + 1) us ++ insert_rising t (drop n us)) e

-- from the last reading on, those of a thing
pub rising_last : (x : Thing) (rs : List NamedReading) (i : ℕ) (r : NamedReading) → 0 < i → i ≤ length rs → r ≡ get_or rs (i - 1) r
    → rising (filter (λ q. is_thing q.thing x) (map reading_of (drop (i - 1) rs)))
    ≡ cond (is_thing r.thing x) (insert_rising r.tuple (rising (filter (λ q. is_thing q.thing x) (map reading_of (drop i rs))))) (rising (filter (λ q. is_thing q.thing x) (map reading_of (drop i rs))))
rising_last x rs i r h g e =
    let s : suc (i - 1) ≡ i = omega (arith, h) in
    let p = drop-cons rs (i - 1) r (omega (arith, h, g)) in
    ap (λ (l : List NamedReading). rising (filter (λ q. is_thing q.thing x) (map reading_of l))) p
    ∙ (λ j. rising (filter (λ q. is_thing q.thing x) (reading_of (sym e j) ∷ map reading_of (drop (s j) rs))))
    ∙ by_test (is_thing r.thing x)
  where
    by_test : (b : Bool) → rising (cond b (reading_of r ∷ filter (λ q. is_thing q.thing x) (map reading_of (drop i rs))) (filter (λ q. is_thing q.thing x) (map reading_of (drop i rs))))
        ≡ cond b (insert_rising r.tuple (rising (filter (λ q. is_thing q.thing x) (map reading_of (drop i rs))))) (rising (filter (λ q. is_thing q.thing x) (map reading_of (drop i rs))))
    by_test true = refl
    by_test false = refl
