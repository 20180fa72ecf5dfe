use Rattle.std.proofs.Common.{◌≡◌, ℕ, ◌+◌, ◌<◌, ◌≤◌, ℤ, ◌+ℤ◌, ◌≤ℤ◌, ◌<ℤ◌, Bool, true, false, List, [], ◌∷◌, ◌++◌, length, refl, sym, ◌∙◌, ap, subst, arith, ◌⊎◌, inl, inr}
use Rattle.std.specs.Prelude.{slice_set, int_le, nat_lt}
use Rattle.std.proofs.lemmas.Bool.Decides.{nat_tests}
use Rattle.std.proofs.lemmas.Int.{ints}
use Rattle.std.proofs.lemmas.Bool.{cases_lt}
use Rattle.diff_bounds.specs.declared.edges.Edge.{Edge}
use Rattle.diff_bounds.specs.declared.walks.Visit.{Visit}
use Rattle.diff_bounds.specs.declared.walks.Walks.{Walks}
use Rattle.diff_bounds.specs.Edges.{edge_at, AreNear}
use Rattle.diff_bounds.specs.Walks.{now_at, AreWalks, IsNext, AreShort, IsLong, IsSettled, AreAhead}
use Rattle.diff_bounds.specs.States.{AreKept, AreShortNow, IsSettledNow, AreSettledNow, AreAheadNow, AreRelaxed, IsRound, IsSettling, IsEnd}
use Rattle.diff_bounds.proofs.Pushing.{walks-push, ahead-push, ahead-settled, ahead-round, ahead-end, short-push, long-push}

-- FROM EDGE TO EDGE

at_most : (a b : ℤ) → int_le a b ≡ true → a ≤ℤ b
at_most a b h = grind (arith, ints)

above : (a b : ℤ) → int_le a b ≡ false → b <ℤ a
above a b h = grind (arith, ints)

-- an edge that leads to no lower value
pub settled-here : (V : List Visit) (L : List ℕ) (e : Edge) (from to : Visit) (value : ℤ) (b : Bool) → from ≡ now_at V L e.from → to ≡ now_at V L e.to → value ≡ from.value +ℤ e.bound → b ≡ int_le to.value value → b ≡ true
    → IsSettled V L e
settled-here V L e from to value b f t v h k =
    let l = at_most to.value value (sym h ∙ k) in
    let p = ap (λ (u : Visit). u.value) f in
    let q = ap (λ (u : Visit). u.value) t in
    omega (arith, ints)

-- and one that does
pub lower-here : (V : List Visit) (L : List ℕ) (e : Edge) (to : Visit) (value : ℤ) (b : Bool) → to ≡ now_at V L e.to → b ≡ int_le to.value value → b ≡ false → value <ℤ (now_at V L e.to).value
lower-here V L e to value b t h k =
    let l = above to.value value (sym h ∙ k) in
    let q = ap (λ (u : Visit). u.value) t in
    omega (arith, ints)

pub relaxed-start : (E : List Edge) (w : Walks) → AreKept E w → AreShortNow w → AreRelaxed E 0 0 w w false
relaxed-start E w k s = record { kept = k; ints_same = refl; is_long = λ e. absurd cc; are_short = λ e. s; ahead = λ e round a. a }

pub relaxed-settled : (E : List Edge) (i : ℕ) (w : Walks) → AreKept E w → AreShortNow w → IsSettledNow w (edge_at E i) → AreRelaxed E i (i + 1) w w false
relaxed-settled E i w k s h = record {
  kept = k;
  ints_same = refl;
  is_long = λ e. absurd cc;
  are_short = λ e. s;
  ahead = λ e round a. ahead-settled E w.visits.items w.latest.items i round h a;
}

along : (P : ℕ → List Visit → List ℕ → Type 0) (n m : ℕ) (V U : List Visit) (L K : List ℕ) → m ≡ n → U ≡ V → K ≡ L → P n V L → P m U K
along P n m V U L K e f g p = subst (λ (k : ℕ). P k U K) (sym e) (subst (λ (u : List Visit). P n u K) (sym f) (subst (λ (l : List ℕ). P n V l) (sym g) p))

pub relaxed-push : (E : List Edge) (i : ℕ) (w z : Walks) (v : Visit) (long : Bool) → AreKept E w → AreNear w.ints E → AreShortNow w → IsNext w.ints E w.visits.items w.latest.items i v
    → z.ints ≡ w.ints → z.visits.items ≡ w.visits.items ++ v ∷ [] → z.latest.items ≡ slice_set w.latest.items v.place (length w.visits.items)
    → (long ≡ true → w.ints < v.depth) → (long ≡ false → v.depth ≤ w.ints) → AreRelaxed E i (i + 1) w z long
relaxed-push E i w z v long k near s x e f g h l = record {
  kept = along (λ n U K. AreWalks n E U K) w.ints z.ints V z.visits.items L z.latest.items e f g (walks-push w.ints E w.visits.items w.latest.items i v k (near i x.edge_below) x);
  ints_same = e;
  is_long = λ t. along (λ n U K. IsLong n U) w.ints z.ints V z.visits.items L z.latest.items e f g (long-push w.ints E w.visits.items w.latest.items i v x (h t));
  are_short = λ t. along (λ n U K. AreShort n U K) w.ints z.ints V z.visits.items L z.latest.items e f g (short-push w.ints E w.visits.items w.latest.items i v k (near i x.edge_below) x s (l t));
  ahead = λ t round a. along (λ n U K. AreAhead U K E round (i + 1)) w.ints z.ints V z.visits.items L z.latest.items e f g (ahead-push w.ints E w.visits.items w.latest.items i v round k near x a);
}
  where
    V : List Visit
    V = w.visits.items ++ v ∷ []

    L : List ℕ
    L = slice_set w.latest.items v.place (length w.visits.items)

-- after a visit was added, by whether it is deeper than there are integer names
pub relaxed-next : (E : List Edge) (i : ℕ) (w z : Walks) (v : Visit) → AreKept E w → AreNear w.ints E → AreShortNow w → IsNext w.ints E w.visits.items w.latest.items i v
    → z.ints ≡ w.ints → z.visits.items ≡ w.visits.items ++ v ∷ [] → z.latest.items ≡ slice_set w.latest.items v.place (length w.visits.items) → AreRelaxed E i (i + 1) w z (nat_lt z.ints v.depth)
relaxed-next E i w z v k near s x e f g =
    relaxed-push E i w z v (nat_lt z.ints v.depth) k near s x e f g
    (λ t. (let l = below z.ints v.depth t in omega (arith, e))) (λ t. (let l = not_below z.ints v.depth t in omega (arith, e)))
  where
    below : (a b : ℕ) → nat_lt a b ≡ true → a < b
    below a b h = grind (arith, nat_tests)

    not_below : (a b : ℕ) → nat_lt a b ≡ false → b ≤ a
    not_below a b h = grind (arith, nat_tests)

-- one edge more is settled
pub settled-more : (w : Walks) (E : List Edge) (k : ℕ) → ((i : ℕ) → i < k → IsSettledNow w (edge_at E i)) → IsSettledNow w (edge_at E k) → (i : ℕ) → i < k + 1 → IsSettledNow w (edge_at E i)
settled-more w E k f s i h = by_case (cases_lt i k)
  where
    by_case : (i < k) ⊎ (k ≤ i) → IsSettledNow w (edge_at E i)
    by_case (inl l) = f i l
    by_case (inr l) = let e : k ≡ i = omega arith in subst (λ (j : ℕ). IsSettledNow w (edge_at E j)) e s

-- one edge after the others
pub relaxed-more : (E : List Edge) (i : ℕ) (w y z : Walks) (long : Bool) → AreRelaxed E 0 i w y false → AreRelaxed E i (i + 1) y z long → AreRelaxed E 0 (i + 1) w z long
relaxed-more E i w y z long a b = record {
  kept = b.kept;
  ints_same = b.ints_same ∙ a.ints_same;
  is_long = b.is_long;
  are_short = b.are_short;
  ahead = λ e round h. b.ahead e round (a.ahead refl round h);
}

pub near-now : (E : List Edge) (w y : Walks) → AreNear w.ints E → y.ints ≡ w.ints → AreNear y.ints E
near-now E w y h e = subst (λ (n : ℕ). AreNear n E) (sym e) h

-- a round
pub round-long : (E : List Edge) (i : ℕ) (w z : Walks) (long : Bool) → AreRelaxed E 0 i w z long → long ≡ true → IsRound E w z true
round-long E i w z long a e = record {
  kept = a.kept;
  ints_same = a.ints_same;
  is_long = λ t. a.is_long e;
  are_short = λ f. absurd cc;
  ahead = λ f. absurd cc;
}

pub round-end : (E : List Edge) (i : ℕ) (w z : Walks) → AreRelaxed E 0 i w z false → i ≡ length E → IsRound E w z false
round-end E i w z a e = record {
  kept = a.kept;
  ints_same = a.ints_same;
  is_long = λ t. absurd cc;
  are_short = λ f. a.are_short refl;
  ahead = λ f round h. ahead-round E z.visits.items z.latest.items i round e (a.ahead refl round h);
}

-- round after round
pub settling-start : (E : List Edge) (w : Walks) → AreKept E w → AreShortNow w → AreAheadNow w E 0 0 → IsSettling E w.ints 0 w
settling-start E w k s a = record { kept = k; ints_same = refl; short = s; ahead = a }

pub settling-more : (E : List Edge) (n round : ℕ) (y z : Walks) (long : Bool) → IsSettling E n round y → IsRound E y z long → long ≡ false → IsSettling E n (round + 1) z
settling-more E n round y z long s r e = record { kept = r.kept; ints_same = r.ints_same ∙ s.ints_same; short = r.are_short e; ahead = r.ahead e round s.ahead }

pub end-long : (E : List Edge) (n round : ℕ) (y z : Walks) (long : Bool) → IsSettling E n round y → IsRound E y z long → long ≡ true → IsEnd E n z true
end-long E n round y z long s r e = record { kept = r.kept; ints_same = r.ints_same ∙ s.ints_same; is_long = λ t. r.is_long e; short = λ f. absurd cc; settled = λ f. absurd cc }

pub end-settled : (E : List Edge) (n round : ℕ) (y : Walks) → IsSettling E n round y → AreSettledNow y E → IsEnd E n y false
end-settled E n round y s a = record { kept = s.kept; ints_same = s.ints_same; is_long = λ t. absurd cc; short = λ f. s.short; settled = λ f. a }

pub end-rounds : (E : List Edge) (n round : ℕ) (y : Walks) → IsSettling E n round y → round ≡ n + 1 → AreNear n E → IsEnd E n y false
end-rounds E n round y s e near =
    end-settled E n round y s
    (ahead-end y.ints E y.visits.items y.latest.items round (omega (arith, s.ints_same)) (subst (λ (k : ℕ). AreNear k E) (sym s.ints_same) near) s.short s.ahead)
