-- What the tests of a part come to.
use Rattle.std.proofs.Common.{◌≡◌, ℕ, zero, suc, ◌+◌, ◌-◌, ◌<◌, ◌≤◌, nat_lt, Bool, true, false, cond, ◌⊎◌, inl, inr, List, [], ◌∷◌, length, map, get_or, slice_get, refl, sym, ◌∙◌, ap, subst, arith, Option, Some, None}
use Rattle.std.proofs.lemmas.Bool.Decides.{nat_tests}
use Rattle.std.proofs.lemmas.Option.{slice_get_past, slice_get_within, slice_get-get_or, get_or_from_slice_get}
use Rattle.std.proofs.lemmas.List.{ext_get_or, get_or-map, length-map}
use Rattle.proof_lines.specs.declared.clause.Lit.{Lit}
use Rattle.proof_lines.specs.declared.problem.AtomKind.{AtomKind}
use Rattle.proof_lines.specs.Clauses.{lit_of}
use Rattle.proof_lines.specs.Problems.{PlainProblem}
use Rattle.needed_clauses.specs.Renaming.{number_in, lit_by, IsRenamed, IsPart, Rise, HaveKinds, HaveLiterals, HaveClauses}

-- ---- numbers that rise

lt-true : (a b : ℕ) → a < b → nat_lt a b ≡ true
lt-true a b h = grind (arith, nat_tests)

ge-false : (a b : ℕ) → b ≤ a → nat_lt a b ≡ false
ge-false a b h = grind (arith, nat_tests)

lt-cases : (a b : ℕ) → (a < b) ⊎ (b ≤ a)
lt-cases a b = by_case (nat_lt a b) refl
  where
    by_case : (x : Bool) → nat_lt a b ≡ x → (a < b) ⊎ (b ≤ a)
    by_case true e = inl (grind (arith, nat_tests))
    by_case false e = inr (grind (arith, nat_tests))

within : (ns : List ℕ) (whole i : ℕ) → i < length ns → number_in ns whole i ≡ get_or ns i 0
within ns whole i h = let e = lt-true i (length ns) h in cc

behind : (ns : List ℕ) (whole i : ℕ) → length ns ≤ i → number_in ns whole i ≡ (i - length ns) + whole
behind ns whole i h = let e = ge-false i (length ns) h in cc

rises-more : (ns : List ℕ) (end : ℕ) → Rise (length ns) ns end → (i k : ℕ) → i + suc k < length ns → get_or ns i 0 < get_or ns (i + suc k) 0
rises-more ns end r i zero h =
    let e : i + 1 ≡ suc i = omega arith in
    let x = (r i (omega (arith, h))).1 (omega (arith, h)) in
    subst (λ (z : ℕ). get_or ns i 0 < get_or ns z 0) (sym e) x
rises-more ns end r i (suc k) h =
    let a = rises-more ns end r i k (omega (arith, h)) in
    let b = (r (i + suc k) (omega (arith, h))).1 (omega (arith, h)) in
    let e : suc (i + suc k) ≡ i + suc (suc k) = omega arith in
    let c = subst (λ (z : ℕ). get_or ns (i + suc k) 0 < get_or ns z 0) e b in
    omega (arith, a, c)

rises-between : (ns : List ℕ) (end : ℕ) → Rise (length ns) ns end → (i j : ℕ) → i < j → j < length ns → get_or ns i 0 < get_or ns j 0
rises-between ns end r i j l h =
    let e : i + suc (j - suc i) ≡ j = omega (arith, l) in
    let x = rises-more ns end r i (j - suc i) (subst (λ (z : ℕ). z < length ns) (sym e) h) in
    subst (λ (z : ℕ). get_or ns i 0 < get_or ns z 0) e x

different-numbers : (ns : List ℕ) (whole : ℕ) → Rise (length ns) ns whole → (a b : ℕ) → number_in ns whole a ≡ number_in ns whole b → a ≡ b
different-numbers ns whole r a b e = by_places (lt-cases a (length ns)) (lt-cases b (length ns))
  where
    by_order : a < length ns → b < length ns → (a < b) ⊎ (b ≤ a) → (b < a) ⊎ (a ≤ b) → a ≡ b
    by_order x y (inl l) m = absurd (let p = rises-between ns whole r a b l y in let u = within ns whole a x in let v = within ns whole b y in omega (arith, p, u, v, e))
    by_order x y (inr l) (inl m) = absurd (let p = rises-between ns whole r b a m x in let u = within ns whole a x in let v = within ns whole b y in omega (arith, p, u, v, e))
    by_order x y (inr l) (inr m) = omega (arith, l, m)

    by_places : (a < length ns) ⊎ (length ns ≤ a) → (b < length ns) ⊎ (length ns ≤ b) → a ≡ b
    by_places (inl x) (inl y) = by_order x y (lt-cases a b) (lt-cases b a)
    by_places (inl x) (inr y) = absurd (let u = within ns whole a x in let v = behind ns whole b y in let w = (r a x).0 in omega (arith, u, v, w, e))
    by_places (inr x) (inl y) = absurd (let u = behind ns whole a x in let v = within ns whole b y in let w = (r b y).0 in omega (arith, u, v, w, e))
    by_places (inr x) (inr y) = let u = behind ns whole a x in let v = behind ns whole b y in omega (arith, u, v, e, x, y)

-- ---- kinds and clauses

kinds-all : (small large : List AtomKind) (atoms : List ℕ) → length small ≡ length atoms → HaveKinds (length atoms) small large atoms
    → (a : ℕ) → slice_get large (number_in atoms (length large) a) ≡ slice_get small a
kinds-all small large atoms n h a = by_place (lt-cases a (length atoms))
  where
    by_place : (a < length atoms) ⊎ (length atoms ≤ a) → slice_get large (number_in atoms (length large) a) ≡ slice_get small a
    by_place (inl x) = ap (λ (z : ℕ). slice_get large z) (within atoms (length large) a x) ∙ h a x
    by_place (inr x) =
        let u = behind atoms (length large) a x in
        let v = slice_get_past large (number_in atoms (length large) a) (omega (arith, u)) in
        v ∙ sym (slice_get_past small a (omega (arith, n, x)))

clauses-all : (g : ℕ → ℕ) (small large : List (List Lit)) (clauses : List ℕ) → length small ≡ length clauses → HaveClauses g (length clauses) small large clauses
    → (i : ℕ) (c : List Lit) → slice_get small i ≡ Some c → slice_get large (number_in clauses (length large) i) ≡ Some (map (lit_by g) c)
clauses-all g small large clauses n h i c e =
    let w = slice_get_within small i c e in
    let x : i < length clauses = omega (arith, n, w) in
    let v = get_or_from_slice_get small i c [] e in
    ap (λ (z : ℕ). slice_get large z) (within clauses (length large) i x) ∙ h i x ∙ ap (λ (z : List Lit). Some (map (lit_by g) z)) v

further-all : (q p : List (List Lit)) (clauses : List ℕ) → length q ≡ length clauses → (j : ℕ) → number_in clauses (length p) (length q + j) ≡ length p + j
further-all q p clauses n j =
    let u = behind clauses (length p) (length q + j) (omega (arith, n)) in
    omega (arith, u, n)

pub tested-part : (q p : PlainProblem) (clauses atoms : List ℕ) → length q.atoms ≡ length atoms → length q.clauses ≡ length clauses → Rise (length atoms) atoms (length p.atoms)
    → HaveKinds (length atoms) q.atoms p.atoms atoms → HaveClauses (number_in atoms (length p.atoms)) (length clauses) q.clauses p.clauses clauses → IsPart q p clauses atoms
tested-part q p clauses atoms a c r k h = record {
  kinds = kinds-all q.atoms p.atoms atoms a k;
  different = different-numbers atoms (length p.atoms) r;
  clauses = clauses-all (number_in atoms (length p.atoms)) q.clauses p.clauses clauses c h;
  further = further-all q.clauses p.clauses clauses c;
}

-- ---- one step of each test

pub rise-more : (n : ℕ) (ns : List ℕ) (end : ℕ) → Rise n ns end → (get_or ns n 0 < end) × (suc n < length ns → get_or ns n 0 < get_or ns (suc n) 0) → Rise (suc n) ns end
rise-more n ns end r x i h = by_place (lt-cases i n)
  where
    by_place : (i < n) ⊎ (n ≤ i) → (get_or ns i 0 < end) × (suc i < length ns → get_or ns i 0 < get_or ns (suc i) 0)
    by_place (inl l) = r i l
    by_place (inr l) = let e : n ≡ i = omega (arith, l, h) in subst (λ (z : ℕ). (get_or ns z 0 < end) × (suc z < length ns → get_or ns z 0 < get_or ns (suc z) 0)) e x

pub kinds-more : (n : ℕ) (small large : List AtomKind) (atoms : List ℕ) → HaveKinds n small large atoms → slice_get large (get_or atoms n 0) ≡ slice_get small n → HaveKinds (suc n) small large atoms
kinds-more n small large atoms r x i h = by_place (lt-cases i n)
  where
    by_place : (i < n) ⊎ (n ≤ i) → slice_get large (get_or atoms i 0) ≡ slice_get small i
    by_place (inl l) = r i l
    by_place (inr l) = let e : n ≡ i = omega (arith, l, h) in subst (λ (z : ℕ). slice_get large (get_or atoms z 0) ≡ slice_get small z) e x

pub literals-more : (g : ℕ → ℕ) (n : ℕ) (small large : List Lit) → HaveLiterals g n small large → get_or large n (lit_of 0 false) ≡ lit_by g (get_or small n (lit_of 0 false)) → HaveLiterals g (suc n) small large
literals-more g n small large r x i h = by_place (lt-cases i n)
  where
    by_place : (i < n) ⊎ (n ≤ i) → get_or large i (lit_of 0 false) ≡ lit_by g (get_or small i (lit_of 0 false))
    by_place (inl l) = r i l
    by_place (inr l) = let e : n ≡ i = omega (arith, l, h) in subst (λ (z : ℕ). get_or large z (lit_of 0 false) ≡ lit_by g (get_or small z (lit_of 0 false))) e x

pub literals-all : (g : ℕ → ℕ) (small large : List Lit) → length small ≡ length large → HaveLiterals g (length small) small large → large ≡ map (lit_by g) small
literals-all g small large n h =
    ext_get_or (lit_of 0 false) large (map (lit_by g) small) (sym n ∙ sym (length-map small (lit_by g))) (λ i l. let m : i < length small = omega (arith, n, l) in h i m ∙ sym (get_or-map (lit_by g) small i (lit_of 0 false) (lit_of 0 false) m))

pub clauses-more : (g : ℕ → ℕ) (n : ℕ) (small large : List (List Lit)) (clauses : List ℕ) → HaveClauses g n small large clauses → slice_get large (get_or clauses n 0) ≡ Some (map (lit_by g) (get_or small n [])) → HaveClauses g (suc n) small large clauses
clauses-more g n small large clauses r x i h = by_place (lt-cases i n)
  where
    by_place : (i < n) ⊎ (n ≤ i) → slice_get large (get_or clauses i 0) ≡ Some (map (lit_by g) (get_or small i []))
    by_place (inl l) = r i l
    by_place (inr l) = let e : n ≡ i = omega (arith, l, h) in subst (λ (z : ℕ). slice_get large (get_or clauses z 0) ≡ Some (map (lit_by g) (get_or small z []))) e x
