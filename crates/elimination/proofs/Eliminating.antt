use Rattle.std.proofs.Common.{◌≡◌, ℕ, zero, suc, ◌<◌, ◌≤◌, ◌+◌, length, ℤ, pos, negsuc, ◌<ℤ◌, Bool, true, false, not, cond, ◌&&◌, ◌||◌, List, [], ◌∷◌, ◌++◌, get_or, refl, sym, ◌∙◌, ap, subst, arith, inl, inr}
use Rattle.std.specs.Prelude.{◌==◌}
use Rattle.std.specs.List.{list_any, list_all, filter}
use Rattle.std.proofs.lemmas.Int.{ints}
use Rattle.std.proofs.lemmas.Bool.{and_parts, and_from, or_cases, cases_lt, eqb-true, eq-eqb, ne_eqb, not-true}
use Rattle.std.proofs.lemmas.List.Folds.{list_any-append}
use Rattle.std.proofs.lemmas.Map.Views.{any-filter_same}
use Rattle.lin_rows.specs.Numbers.{is_zero}
use Rattle.lin_rows.specs.Rows.{Row, is_contradiction, coefficient_at}
use Rattle.line_rows.specs.Steps.{row_at, is_positive, is_negative}
use Rattle.proof_lines.specs.Numbers.{stands_in, are_different}
use Rattle.theory_api.specs.Elimination.{stage}
use Rattle.elimination.specs.declared.tableau.Tableau.{Tableau}
use Rattle.theory_api.specs.Ends.{names_none}
use Rattle.elimination.proofs.Standing.{stands-there}
use Rattle.elimination.specs.Pairs.{place_at, IsCombined, IsCombinedAt, Pair, Paired, Eliminated}
use Rattle.elimination.specs.Tableaux.{IsTableau, IsElimination, Grown, IsGrown, CanAllMeet, AreCombined, AreTaken}
use Rattle.elimination.specs.Sides.{is_on, IsSide}
use Rattle.elimination.proofs.Signs.{lt_so}
use Rattle.theory_api.proofs.Ends.{eliminate-place}
use Rattle.elimination.proofs.Pairing.{paired-place}
use Rattle.elimination.proofs.Growing.{row_at-grown, taken-append, paired-append}
use Rattle.elimination.proofs.SideLemmas.{get_or-last}

-- A PLACE PASSES from those that are left to the end of the order

abbrev pub passed : Tableau → ℕ → Tableau
passed t p = record t { order = t.order ++ p ∷ []; left = filter (λ q. not (q == p)) t.left }

stands-more : (order : List ℕ) (p q : ℕ) → stands_in (order ++ p ∷ []) q ≡ (stands_in order q || (p == q || false))
stands-more order p q = list_any-append (λ m. m == q) order (p ∷ [])

stands-without : (left : List ℕ) (p q : ℕ) → stands_in (filter (λ m. not (m == p)) left) q ≡ (not (q == p) && stands_in left q)
stands-without left p q = any-filter_same (λ m. m == q) (λ m. not (m == p)) (not (q == p)) (λ m h. ap (λ n. not (n == p)) (eqb-true m q h)) left

different-more : (order : List ℕ) (p : ℕ) → are_different order ≡ true → stands_in order p ≡ false → are_different (order ++ p ∷ []) ≡ true
different-more [] p h k = refl
different-more (q ∷ order) p h k =
    let b = and_parts (not (stands_in order q)) (are_different order) h in
    let n = neither (q == p) (stands_in order p) k in
    and_from (not (stands_in (order ++ p ∷ []) q)) (are_different (order ++ p ∷ []))
    (ap not (stands-more order p q ∙ last (stands_in order q) (p == q) (not-true (stands_in order q) b.0) (flip q p n.0)))
    (different-more order p b.1 n.1)
  where
    neither : (a b : Bool) → (a || b) ≡ false → (a ≡ false) × (b ≡ false)
    neither true b h = absurd cc
    neither false b h = (refl, h)

    flip : (a b : ℕ) → (a == b) ≡ false → (b == a) ≡ false
    flip a b h = ne_eqb b a (λ e. let w = eq-eqb a b (sym e) in absurd cc)

    last : (a b : Bool) → a ≡ false → b ≡ false → (a || (b || false)) ≡ false
    last true b h k = absurd cc
    last false true h k = absurd cc
    last false false h k = refl

-- what stands in the order or is left, stands there still
stands-on : (order left : List ℕ) (p q : ℕ) → (stands_in order q || stands_in left q) ≡ true → (stands_in (order ++ p ∷ []) q || stands_in (filter (λ m. not (m == p)) left) q) ≡ true
stands-on order left p q h =
    (λ i. stands-more order p q i || stands-without left p q i) ∙ by_eq (p == q) (q == p) (stands_in order q) (stands_in left q) (λ e. eq-eqb p q (sym (eqb-true q p e))) h
  where
    by_eq : (a b c d : Bool) → (b ≡ true → a ≡ true) → (c || d) ≡ true → ((c || (a || false)) || (not b && d)) ≡ true
    by_eq a b true d f h = refl
    by_eq true b false d f h = refl
    by_eq false true false d f h = absurd (let w = f refl in cc)
    by_eq false false false d f h = h

-- and nothing else does
stands-back : (order left : List ℕ) (p q : ℕ) → stands_in left p ≡ true → (stands_in (order ++ p ∷ []) q || stands_in (filter (λ m. not (m == p)) left) q) ≡ true → (stands_in order q || stands_in left q) ≡ true
stands-back order left p q l h =
    by_eq (p == q) (not (q == p)) (stands_in order q) (stands_in left q) (λ e. ap (λ n. stands_in left n) (sym (eqb-true p q e)) ∙ l)
    (sym (λ i. stands-more order p q i || stands-without left p q i) ∙ h)
  where
    by_eq : (a b c d : Bool) → (a ≡ true → d ≡ true) → ((c || (a || false)) || (b && d)) ≡ true → (c || d) ≡ true
    by_eq a b true d f h = refl
    by_eq true b false d f h = f refl
    by_eq false true false d f h = h
    by_eq false false false d f h = absurd cc

pub tableau-passed : (rows : List Row) (t : Tableau) (p : ℕ) → IsTableau rows t → stands_in t.left p ≡ true → IsTableau rows (passed t p)
tableau-passed rows t p g l = record {
  run = record {
    given = g.run.given;
    some = g.run.some;
    held_is = g.run.held_is;
    rows_are = g.run.rows_are;
    cancel = g.run.cancel;
    order_different = different-more t.order p g.run.order_different (g.run.left_apart p l);
    in_order = (eliminate-place t.order p t.held 0 t.steps g.run.in_order).0;
    below = λ q h. g.run.below q (stands-back t.order t.left p q l h);
    left_apart = λ q h. (let b = and_parts (not (q == p)) (stands_in t.left q) (sym (stands-without t.left p q) ∙ h) in
        stands-more t.order p q ∙ apart (stands_in t.order q) (p == q) (q == p) (g.run.left_apart q b.1) (not-true (q == p) b.0) (λ e. eq-eqb q p (sym (eqb-true p q e))));
    named = λ i h q z. stands-on t.order t.left p q (g.run.named i h q z);
  };
  consistent = g.consistent;
  different = g.different;
  few = g.few;
}
  where
    apart : (a b c : Bool) → a ≡ false → c ≡ false → (b ≡ true → c ≡ true) → (a || (b || false)) ≡ false
    apart true b c h k f = absurd cc
    apart false true c h k f = absurd (let w = f refl in cc)
    apart false false c h k f = refl

-- fewer places are left
pub fewer-left : (left : List ℕ) (p : ℕ) → stands_in left p ≡ true → length (filter (λ m. not (m == p)) left) < length left
fewer-left [] p h = absurd cc
fewer-left (q ∷ left) p h = by_eq (q == p) refl h (fewer-left left p)
  where
    at_most : (xs : List ℕ) → length (filter (λ m. not (m == p)) xs) ≤ length xs
    at_most [] = omega arith
    at_most (x ∷ xs) = by_test (not (x == p)) (at_most xs)
      where
        by_test : (b : Bool) → length (filter (λ m. not (m == p)) xs) ≤ length xs → length (cond b (x ∷ filter (λ m. not (m == p)) xs) (filter (λ m. not (m == p)) xs)) ≤ suc (length xs)
        by_test true h = omega arith
        by_test false h = omega arith

    by_eq : (b : Bool) → (q == p) ≡ b → (b || stands_in left p) ≡ true → (stands_in left p ≡ true → length (filter (λ m. not (m == p)) left) < length left)
        → length (cond (not b) (q ∷ filter (λ m. not (m == p)) left) (filter (λ m. not (m == p)) left)) < suc (length left)
    by_eq true e h f = let m = at_most left in omega arith
    by_eq false e h f = let m = f h in omega arith

-- THE ROWS OF BOTH SIDES may be combined

positive_is : (a : ℤ) → is_positive a ≡ true → pos 0 <ℤ a
positive_is a h = omega (arith, ints, h)

negative_is : (a : ℤ) → is_negative a ≡ true → a <ℤ pos 0
negative_is a h = omega (arith, ints, h)

pub sides-meet : (t : Tableau) (p : ℕ) (highs lows : List ℕ) → IsSide true t.order p t.held (length t.held) highs → IsSide false t.order p t.held (length t.held) lows → CanAllMeet (passed t p) p highs lows
sides-meet t p highs lows u v a b h j =
    let x = u.sound a h in
    let y = v.sound b j in
    let k = and_parts (is_positive (coefficient_at (row_at t.held (get_or highs a 0)).terms p)) (names_none t.order (row_at t.held (get_or highs a 0))) x.1 in
    let l = and_parts (is_negative (coefficient_at (row_at t.held (get_or lows b 0)).terms p)) (names_none t.order (row_at t.held (get_or lows b 0))) y.1 in
    record {
      before = t.order;
      order = refl;
      high_below = x.0;
      low_below = y.0;
      high_none = k.1;
      low_none = l.1;
      high_sign = positive_is (coefficient_at (row_at t.held (get_or highs a 0)).terms p) k.0;
      low_sign = negative_is (coefficient_at (row_at t.held (get_or lows b 0)).terms p) l.0;
    }

-- AT THE END of a place all its pairs are combined

-- a row whose stage is the last place names no place before
none-of_stage : (order : List ℕ) (p : ℕ) (r : Row) → stage (order ++ p ∷ []) r ≡ length order → names_none order r ≡ true
none-of_stage [] p r h = refl
none-of_stage (q ∷ order) p r h = by_zero (is_zero (coefficient_at r.terms q)) h (none-of_stage order p r)
  where
    by_zero : (b : Bool) → cond b (1 + stage (order ++ p ∷ []) r) 0 ≡ suc (length order) → (stage (order ++ p ∷ []) r ≡ length order → names_none order r ≡ true) → (b && names_none order r) ≡ true
    by_zero true h f = f (omega arith)
    by_zero false h f = absurd (omega arith)

none-front : (order : List ℕ) (p : ℕ) (r : Row) → names_none (order ++ p ∷ []) r ≡ true → (names_none order r ≡ true) × (is_zero (coefficient_at r.terms p) ≡ true)
none-front [] p r h = (refl, (and_parts (is_zero (coefficient_at r.terms p)) true h).0)
none-front (q ∷ order) p r h =
    let b = and_parts (is_zero (coefficient_at r.terms q)) (names_none (order ++ p ∷ []) r) h in
    let ih = none-front order p r b.1 in (and_from (is_zero (coefficient_at r.terms q)) (names_none order r) b.0 ih.0, ih.1)

all-front : (order : List ℕ) (p : ℕ) (more : List Row) → list_all (names_none (order ++ p ∷ [])) more ≡ true → list_all (names_none order) more ≡ true
all-front order p [] h = refl
all-front order p (r ∷ more) h =
    let b = and_parts (names_none (order ++ p ∷ []) r) (list_all (names_none (order ++ p ∷ [])) more) h in
    and_from (names_none order r) (list_all (names_none order) more) (none-front order p r b.0).0 (all-front order p more b.1)

-- a row behind the first ones passes the test of all that are added
behind : (test : Row → Bool) (held more : List Row) (i : ℕ) → length held ≤ i → i < length (held ++ more) → list_all test more ≡ true → test (row_at (held ++ more) i) ≡ true
behind test [] [] i h k f = absurd (omega arith)
behind test [] (r ∷ more) zero h k f = (and_parts (test r) (list_all test more) f).0
behind test [] (r ∷ more) (suc i) h k f = behind test [] more i (omega arith) (omega arith) (and_parts (test r) (list_all test more) f).1
behind test (r ∷ held) more zero h k f = absurd (omega arith)
behind test (r ∷ held) more (suc i) h k f = behind test held more i (omega arith) (omega arith) f

-- a row that names the place, and no place before, is none of those that were added
old-row : (t u : Tableau) (p i : ℕ) → Grown (passed t p) u → i < length u.held → is_zero (coefficient_at (row_at u.held i).terms p) ≡ false → i < length t.held
old-row t u p i g h z = elim (cases_lt i (length t.held)) [
  | inl l ↦ l
  | inr l ↦ (let n = behind (names_none (t.order ++ p ∷ [])) t.held g.more i l (subst (λ (x : List Row). i < length x) g.held h) g.none in
      let w = (none-front t.order p (row_at (t.held ++ g.more) i) n).1 in
      let v = ap (λ (x : List Row). is_zero (coefficient_at (row_at x i).terms p)) g.held in absurd cc)
]

above-zero : (a : ℤ) → pos 0 <ℤ a → is_zero a ≡ false
above-zero (pos zero) h = absurd (omega arith)
above-zero (pos (suc n)) h = refl
above-zero (negsuc n) h = refl

below-zero : (a : ℤ) → a <ℤ pos 0 → is_zero a ≡ false
below-zero (pos zero) h = absurd (omega arith)
below-zero (pos (suc n)) h = refl
below-zero (negsuc n) h = refl

pub elimination-passed : (rows : List Row) (t u : Tableau) (p : ℕ) (highs lows : List ℕ) → IsElimination rows t → IsSide true t.order p t.held (length t.held) highs → IsSide false t.order p t.held (length t.held) lows
    → IsGrown rows (passed t p) u → AreCombined u.held p highs (length highs) lows (length lows) → IsElimination rows u
elimination-passed rows t u p highs lows e x y n c = record {
  tableau = n.tableau;
  taken = subst (λ (l : List Row). AreTaken rows (length rows) l) (sym n.grown.held) (taken-append rows (length rows) t.held n.grown.more e.taken);
  paired = subst (λ (o : List ℕ). Paired o u.held) (sym n.grown.order) (paired-place t.order p u.held paired_before at_last);
}
  where
    paired_before : Paired t.order u.held
    paired_before = subst (λ (l : List Row). Paired t.order l) (sym n.grown.held) (paired-append t.order t.held n.grown.more e.paired (all-front t.order p n.grown.more n.grown.none))

    last_place : place_at (t.order ++ p ∷ []) (length t.order) ≡ p
    last_place = get_or-last t.order p

    on_side : (upper : Bool) (i : ℕ) → i < length t.held → cond upper (is_positive (coefficient_at (row_at t.held i).terms p)) (is_negative (coefficient_at (row_at t.held i).terms p)) ≡ true
        → names_none t.order (row_at t.held i) ≡ true → is_on upper t.order p (row_at t.held i) ≡ true
    on_side upper i h s o = and_from (cond upper (is_positive (coefficient_at (row_at t.held i).terms p)) (is_negative (coefficient_at (row_at t.held i).terms p))) (names_none t.order (row_at t.held i)) s o

    at_last : (i j : ℕ) → Pair (t.order ++ p ∷ []) u.held (length t.order) i j → IsCombined (t.order ++ p ∷ []) u.held (length t.order) (row_at u.held i) (row_at u.held j)
    at_last i j q =
        let high : pos 0 <ℤ coefficient_at (row_at u.held i).terms p = subst (λ (m : ℕ). pos 0 <ℤ coefficient_at (row_at u.held i).terms m) last_place q.high_sign in
        let low : coefficient_at (row_at u.held j).terms p <ℤ pos 0 = subst (λ (m : ℕ). coefficient_at (row_at u.held j).terms m <ℤ pos 0) last_place q.low_sign in
        let i_old = old-row t u p i n.grown q.high_below (above-zero (coefficient_at (row_at u.held i).terms p) high) in
        let j_old = old-row t u p j n.grown q.low_below (below-zero (coefficient_at (row_at u.held j).terms p) low) in
        let i_same = row_at-grown (passed t p) u i n.grown i_old in
        let j_same = row_at-grown (passed t p) u j n.grown j_old in
        let a = x.complete i i_old
        (on_side true i i_old (lt_so (pos 0) (coefficient_at (row_at t.held i).terms p) (subst (λ (r : Row). pos 0 <ℤ coefficient_at r.terms p) i_same high))
        (none-of_stage t.order p (row_at t.held i) (ap (λ (r : Row). stage (t.order ++ p ∷ []) r) (sym i_same) ∙ q.high_stage))) in
        let b = y.complete j j_old
        (on_side false j j_old (lt_so (coefficient_at (row_at t.held j).terms p) (pos 0) (subst (λ (r : Row). coefficient_at r.terms p <ℤ pos 0) j_same low))
        (none-of_stage t.order p (row_at t.held j) (ap (λ (r : Row). stage (t.order ++ p ∷ []) r) (sym j_same) ∙ q.low_stage))) in
        subst (λ (m : ℕ). IsCombinedAt m u.held (row_at u.held i) (row_at u.held j)) (sym last_place)
        (subst (λ (m : ℕ). IsCombinedAt p u.held (row_at u.held i) (row_at u.held m)) b.2
        (subst (λ (m : ℕ). IsCombinedAt p u.held (row_at u.held m) (row_at u.held (get_or lows b.0 0))) a.2 (c a.0 b.0 a.1 b.1)))

-- ALL PLACES ARE ELIMINATED

none_false : (test : Row → Bool) (held : List Row) (i : ℕ) → list_any test held ≡ false → i < length held → test (row_at held i) ≡ false
none_false test [] i h k = absurd (omega arith)
none_false test (r ∷ held) zero h k = first (test r) (list_any test held) h
  where
    first : (a b : Bool) → (a || b) ≡ false → a ≡ false
    first true b h = absurd cc
    first false b h = refl
none_false test (r ∷ held) (suc i) h k = none_false test held i (second (test r) (list_any test held) h) (omega arith)
  where
    second : (a b : Bool) → (a || b) ≡ false → b ≡ false
    second true b h = absurd cc
    second false b h = h

-- where a number of a list stands
pub stands-at : (ns : List ℕ) (q : ℕ) → stands_in ns q ≡ true → (m : ℕ) × (m < length ns) × (place_at ns m ≡ q)
stands-at [] q h = absurd cc
stands-at (n ∷ ns) q h = elim (or_cases (n == q) (stands_in ns q) h) [
  | inl e ↦ (0, omega arith, eqb-true n q e)
  | inr e ↦ (let g = stands-at ns q e in (suc g.0, (let l = g.1 in omega arith), g.2))
]

-- numbers at different places of different ones differ
different-at : (ns : List ℕ) (m k : ℕ) → are_different ns ≡ true → m < k → k < length ns → place_at ns k ≡ place_at ns m → ⊥
different-at [] m k d h l e = absurd (omega arith)
different-at (n ∷ ns) zero zero d h l e = absurd (omega arith)
different-at (n ∷ ns) zero (suc k) d h l e =
    let b = and_parts (not (stands_in ns n)) (are_different ns) d in
    let s = ap (λ q. stands_in ns q) (sym e) ∙ stands-there ns k (omega arith) in
    let f = not-true (stands_in ns n) b.0 in cc
different-at (n ∷ ns) (suc m) zero d h l e = absurd (omega arith)
different-at (n ∷ ns) (suc m) (suc k) d h l e = different-at ns m k (and_parts (not (stands_in ns n)) (are_different ns) d).1 (omega arith) (omega arith) e

pub eliminated : (rows : List Row) (t : Tableau) → IsElimination rows t → t.left ≡ [] → Eliminated t.order t.held
eliminated rows t e n = record {
  rows = e.tableau.run.rows_are;
  consistent = λ i h. none_false is_contradiction t.held i e.tableau.consistent h;
  places = λ i h q z. stands-at t.order q (stands q (e.tableau.run.named i h q z));
  pairs = e.paired;
  different = λ m k h l f. different-at t.order m k e.tableau.run.order_different h l f;
}
  where
    or_false : (a : Bool) → (a || false) ≡ true → a ≡ true
    or_false true h = refl
    or_false false h = absurd cc

    stands : (q : ℕ) → (stands_in t.order q || stands_in t.left q) ≡ true → stands_in t.order q ≡ true
    stands q h = or_false (stands_in t.order q) (subst (λ (l : List ℕ). (stands_in t.order q || stands_in l q) ≡ true) n h)

-- ONE PLACE, as the code goes

pub passed-meets : (t u : Tableau) (p : ℕ) (hs ls highs lows : List ℕ) → IsSide true t.order p t.held (length t.held) highs → IsSide false t.order p t.held (length t.held) lows → u ≡ passed t p → hs ≡ highs → ls ≡ lows → CanAllMeet u p hs ls
passed-meets t u p hs ls highs lows x y e f g =
    subst (λ (v : Tableau). CanAllMeet v p hs ls) (sym e)
    (subst (λ (l : List ℕ). CanAllMeet (passed t p) p l ls) (sym f) (subst (λ (l : List ℕ). CanAllMeet (passed t p) p highs l) (sym g) (sides-meet t p highs lows x y)))

pub place-done : (rows : List Row) (t u v : Tableau) (p : ℕ) (hs ls highs lows : List ℕ) → IsElimination rows t → stands_in t.left p ≡ true → IsSide true t.order p t.held (length t.held) highs → IsSide false t.order p t.held (length t.held) lows
    → u ≡ passed t p → hs ≡ highs → ls ≡ lows → IsGrown rows u v × AreCombined v.held p hs (length hs) ls (length ls)
    → IsElimination rows v × (v.ints ≡ t.ints) × (length v.left < length t.left)
place-done rows t u v p hs ls highs lows e s x y k f g h =
    at (subst (λ (w : Tableau). IsGrown rows w v) k h.0)
    (subst (λ (l : List ℕ). AreCombined v.held p highs (length highs) l (length l)) g (subst (λ (l : List ℕ). AreCombined v.held p l (length l) ls (length ls)) f h.1))
  where
    at : IsGrown rows (passed t p) v → AreCombined v.held p highs (length highs) lows (length lows) → IsElimination rows v × (v.ints ≡ t.ints) × (length v.left < length t.left)
    at n c = (elimination-passed rows t v p highs lows e x y n c, n.grown.ints, subst (λ (l : List ℕ). length l < length t.left) (sym n.grown.left) (fewer-left t.left p s))

pub some-left : (left : List ℕ) (b : Bool) → b ≡ (length left == 0) → b ≡ false → 0 < length left
some-left [] b e f = absurd (let w : true ≡ false = sym e ∙ f in cc)
some-left (q ∷ left) b e f = omega arith

pub none-left : (left : List ℕ) (b : Bool) → b ≡ (length left == 0) → b ≡ true → left ≡ []
none-left [] b e f = refl
none-left (q ∷ left) b e f = absurd (let w = eqb-true (suc (length left)) 0 (sym e ∙ f) in omega arith)
