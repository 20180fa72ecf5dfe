-- A log that the kernel takes over some clauses is one that it takes over the whole problem, with the numbers that clauses and atoms have
-- there.
use Rattle.std.proofs.Common.{◌≡◌, ℕ, zero, suc, ◌+◌, ◌<◌, ◌≤◌, nat_lt, Bool, true, false, not, cond, ◌&&◌, ◌||◌, ◌==◌, ◌⊎◌, inl, inr, List, [], ◌∷◌, ◌++◌, length, map, get_or, slice_get, refl, sym, ◌∙◌, ap, subst, arith, Option, Some, None, is_some, Result, Ok, Err, option_map}
use Rattle.std.specs.List.{list_any, list_all}
use Rattle.std.specs.Option.{option_and_then}
use Rattle.std.proofs.lemmas.Bool.{and_parts, and_from, or_cases, or_left, or_right, eqb-true}
use Rattle.std.proofs.lemmas.Bool.Decides.{nat_tests}
use Rattle.std.proofs.lemmas.List.{get_or_append_left, length-append}
use Rattle.std.proofs.Math.Seq.{get_or-append_seam}
use Rattle.std.proofs.lemmas.Option.{slice_get_past, slice_get_within, slice_get-get_or}
use Rattle.lin_rows.specs.Rows.{Row, negated}
use Rattle.lin_rows.specs.Divisors.{tightened}
use Rattle.proof_lines.specs.declared.clause.Lit.{Lit}
use Rattle.proof_lines.specs.declared.problem.AtomKind.{AtomKind}
use Rattle.proof_lines.specs.declared.problem.AtomKind.TheVariants.{Plain}
use Rattle.proof_lines.specs.declared.line.RowStep.{RowStep}
use Rattle.proof_lines.specs.declared.line.Line.{Line}
use Rattle.proof_lines.specs.declared.line.Line.TheVariants.{Resolve, Farkas, Split, Drop}
use Rattle.proof_lines.specs.declared.line.Why.{Why}
use Rattle.proof_lines.specs.declared.line.Why.TheVariants.{Place, Pivot, Contradiction, Dropped}
use Rattle.proof_lines.specs.Clauses.{same_bool, same_lit, lit_of, flip, has, insert, join, without, resolvent, negations, is_empty}
use Rattle.proof_lines.specs.Problems.{PlainProblem}
use Rattle.line_rows.specs.Refusals.{need, then_, or_broken}
use Rattle.line_rows.specs.Steps.{row_of_kind, atom_row, has_row, lit_row, with_row, lit_rows, is_some_literal, used_rows, with_steps, line_rows, ends_badly}
use Rattle.proof_kernel.specs.Rules.{State, start, live_clause, is_live, clause_or_empty, clause_at, grown, resolved, combined, combined_after, next, run_from, run}
use Rattle.needed_clauses.specs.Renaming.{lit_by, line_by, is_plain_line, IsRenamed}

-- ---- clauses under other numbers of their atoms

-- no two atoms have one number
abbrev AreDifferent : (ℕ → ℕ) → Type 0
AreDifferent g = (a b : ℕ) → g a ≡ g b → a ≡ b

same-nat : (a : ℕ) → (a == a) ≡ true
same-nat a = grind (arith, nat_tests)

same-atoms : (g : ℕ → ℕ) → AreDifferent g → (a b : ℕ) → (g a == g b) ≡ (a == b)
same-atoms g d a b = by_case (g a == g b) (a == b) refl refl
  where
    by_case : (x y : Bool) → (g a == g b) ≡ x → (a == b) ≡ y → x ≡ y
    by_case true true p q = refl
    by_case false false p q = refl
    by_case true false p q = absurd (let e = d a b (eqb-true (g a) (g b) p) in let r : (a == b) ≡ true = subst (λ (z : ℕ). (a == z) ≡ true) e (same-nat a) in cc)
    by_case false true p q = absurd (let e = eqb-true a b q in let r : (g a == g b) ≡ true = subst (λ (z : ℕ). (g a == g z) ≡ true) e (same-nat (g a)) in cc)

same-lits : (g : ℕ → ℕ) → AreDifferent g → (x y : Lit) → same_lit (lit_by g x) (lit_by g y) ≡ same_lit x y
same-lits g d x y = ap (λ (z : Bool). z && same_bool x.positive y.positive) (same-atoms g d x.atom y.atom)

has-by : (g : ℕ → ℕ) → AreDifferent g → (c : List Lit) (l : Lit) → has (map (lit_by g) c) (lit_by g l) ≡ has c l
has-by g d [] l = refl
has-by g d (x ∷ c) l = let e = same-lits g d x l in let f = has-by g d c l in cc

insert-by : (g : ℕ → ℕ) → AreDifferent g → (c : List Lit) (l : Lit) → insert (map (lit_by g) c) (lit_by g l) ≡ map (lit_by g) (insert c l)
insert-by g d c l = by_case (has c l) refl
  where
    map-append : (a b : List Lit) → map (lit_by g) (a ++ b) ≡ map (lit_by g) a ++ map (lit_by g) b
    map-append [] b = refl
    map-append (x ∷ a) b = ap (λ (z : List Lit). lit_by g x ∷ z) (map-append a b)

    by_case : (b : Bool) → has c l ≡ b → insert (map (lit_by g) c) (lit_by g l) ≡ map (lit_by g) (insert c l)
    by_case true e = let h = has-by g d c l in cc
    by_case false e = let h = has-by g d c l in let m = map-append c (l ∷ []) in cc

join-by : (g : ℕ → ℕ) → AreDifferent g → (c e : List Lit) → join (map (lit_by g) c) (map (lit_by g) e) ≡ map (lit_by g) (join c e)
join-by g d c [] = refl
join-by g d c (x ∷ e) = ap (λ (z : List Lit). join z (map (lit_by g) e)) (insert-by g d c x) ∙ join-by g d (insert c x) e

without-by : (g : ℕ → ℕ) → AreDifferent g → (l : Lit) (c : List Lit) → without (lit_by g l) (map (lit_by g) c) ≡ map (lit_by g) (without l c)
without-by g d l [] = refl
without-by g d l (x ∷ c) = by_case (without-by g d l c) (same_lit x l) refl
  where
    by_case : without (lit_by g l) (map (lit_by g) c) ≡ map (lit_by g) (without l c) → (b : Bool) → same_lit x l ≡ b → without (lit_by g l) (map (lit_by g) (x ∷ c)) ≡ map (lit_by g) (without l (x ∷ c))
    by_case m true e = let h = same-lits g d x l in cc
    by_case m false e = let h = same-lits g d x l in cc

resolvent-by : (g : ℕ → ℕ) → AreDifferent g → (a : ℕ) (left right : List Lit) → resolvent (g a) (map (lit_by g) left) (map (lit_by g) right) ≡ map (lit_by g) (resolvent a left right)
resolvent-by g d a left right =
    let x = without-by g d (lit_of a true) left in
    let y = without-by g d (lit_of a false) right in
    let z = join-by g d (without (lit_of a true) left) (without (lit_of a false) right) in cc

negations-by : (g : ℕ → ℕ) → AreDifferent g → (ls : List Lit) → negations (map (lit_by g) ls) ≡ map (lit_by g) (negations ls)
negations-by g d ls = ap (λ (z : List Lit). join [] z) (flips ls) ∙ join-by g d [] (map flip ls)
  where
    flips : (xs : List Lit) → map flip (map (lit_by g) xs) ≡ map (lit_by g) (map flip xs)
    flips [] = refl
    flips (x ∷ xs) = ap (λ (z : List Lit). flip (lit_by g x) ∷ z) (flips xs)

empty-by : (g : ℕ → ℕ) (c : List Lit) → is_empty (map (lit_by g) c) ≡ is_empty c
empty-by g [] = refl
empty-by g (x ∷ c) = refl

-- ---- rows under other numbers of their atoms

-- an atom stands for the same under its other number
abbrev AreKinds : (ℕ → ℕ) → List AtomKind → List AtomKind → Type 0
AreKinds g small large = (a : ℕ) → slice_get large (g a) ≡ slice_get small a

atom-row-by : (g : ℕ → ℕ) (small large : List AtomKind) → AreKinds g small large → (a : ℕ) → atom_row large (g a) ≡ atom_row small a
atom-row-by g small large k a = ap (λ (z : Option AtomKind). row_of_kind z) (k a)

lit-row-by : (g : ℕ → ℕ) (small large : List AtomKind) → AreKinds g small large → (l : Lit) → lit_row large (lit_by g l) ≡ lit_row small l
lit-row-by g small large k l = ap (λ (z : Option Row). cond l.positive z (option_and_then negated z)) (atom-row-by g small large k l.atom)

lit-rows-by : (g : ℕ → ℕ) (small large : List AtomKind) → AreKinds g small large → (ls : List Lit) → lit_rows large (map (lit_by g) ls) ≡ lit_rows small ls
lit-rows-by g small large k [] = refl
lit-rows-by g small large k (l ∷ ls) = let e = lit-row-by g small large k l in let r = lit-rows-by g small large k ls in cc

has-rows-by : (g : ℕ → ℕ) (small large : List AtomKind) → AreKinds g small large → (ls : List Lit) → list_all (has_row large) (map (lit_by g) ls) ≡ list_all (has_row small) ls
has-rows-by g small large k [] = refl
has-rows-by g small large k (l ∷ ls) = let e = atom-row-by g small large k l.atom in let r = has-rows-by g small large k ls in cc

some-by : (g : ℕ → ℕ) (ls : List Lit) → is_some_literal (map (lit_by g) ls) ≡ is_some_literal ls
some-by g [] = refl
some-by g (l ∷ ls) = refl

line-rows-by : (g : ℕ → ℕ) (small large : List AtomKind) → AreKinds g small large → (used : List Lit) (steps : List RowStep) → line_rows large (map (lit_by g) used) steps ≡ line_rows small used steps
line-rows-by g small large k used steps =
    let a = some-by g used in
    let b = has-rows-by g small large k used in
    let c = lit-rows-by g small large k used in cc

-- ---- the kernel over the part and over the whole

-- what stands over the whole where this stands over the part
record Follows (f g : ℕ → ℕ) (small large : List AtomKind) (s t : State) : Type 0 where
  small_atoms : s.atoms ≡ small
  large_atoms : t.atoms ≡ large
  live : (i : ℕ) (c : List Lit) → get_or s.slots i None ≡ Some c → get_or t.slots (f i) None ≡ Some (map (lit_by g) c)
  further : (j : ℕ) → f (length s.slots + j) ≡ length t.slots + j
  empties : s.empty ≡ true → t.empty ≡ true

past-none : {X : Type 0} (xs : List (Option X)) (i : ℕ) → length xs ≤ i → get_or xs i None ≡ None
past-none [] i h = refl
past-none (x ∷ xs) zero h = absurd (omega (arith, h))
past-none (x ∷ xs) (suc i) h = past-none xs i (omega (arith, h))

some-within : {X : Type 0} (xs : List (Option X)) (i : ℕ) (x : X) → get_or xs i None ≡ Some x → i < length xs
some-within xs i x h = by_case (nat_lt i (length xs)) refl
  where
    by_case : (b : Bool) → nat_lt i (length xs) ≡ b → i < length xs
    by_case true e = grind (arith, nat_tests)
    by_case false e = absurd (let m = past-none xs i (grind (arith, nat_tests)) in cc)

follows-grown : (f g : ℕ → ℕ) (small large : List AtomKind) (s t : State) (c : List Lit) → Follows f g small large s t → Follows f g small large (grown s c) (grown t (map (lit_by g) c))
follows-grown f g small large s t c h = record {
  small_atoms = h.small_atoms;
  large_atoms = h.large_atoms;
  live = live_after;
  further = λ j. further_after j;
  empties = empties_after;
}
  where
    at_end : f (length s.slots) ≡ length t.slots
    at_end = let e = h.further 0 in let a : length s.slots + 0 ≡ length s.slots = omega arith in let b : length t.slots + 0 ≡ length t.slots = omega arith in cc

    further_after : (j : ℕ) → f (length (s.slots ++ Some c ∷ []) + j) ≡ length (t.slots ++ Some (map (lit_by g) c) ∷ []) + j
    further_after j =
        let e = h.further (suc j) in
        let a = length-append s.slots (Some c ∷ []) in
        let b = length-append t.slots (Some (map (lit_by g) c) ∷ []) in
        let x : length s.slots + suc j ≡ length (s.slots ++ Some c ∷ []) + j = omega (arith, a) in
        let y : length t.slots + suc j ≡ length (t.slots ++ Some (map (lit_by g) c) ∷ []) + j = omega (arith, b) in cc

    empties_after : (s.empty || is_empty c) ≡ true → (t.empty || is_empty (map (lit_by g) c)) ≡ true
    empties_after e = elim (or_cases s.empty (is_empty c) e) [
      | inl x ↦ or_left t.empty (is_empty (map (lit_by g) c)) (h.empties x)
      | inr x ↦ or_right t.empty (is_empty (map (lit_by g) c)) (empty-by g c ∙ x)
    ]

    by_place : (i : ℕ) (d : List Lit) → get_or (s.slots ++ Some c ∷ []) i None ≡ Some d → (b : Bool) → nat_lt i (length s.slots) ≡ b → get_or (t.slots ++ Some (map (lit_by g) c) ∷ []) (f i) None ≡ Some (map (lit_by g) d)
    by_place i d e true p =
        let l : i < length s.slots = grind (arith, nat_tests) in
        let m = h.live i d (sym (get_or_append_left s.slots (Some c ∷ []) None i l) ∙ e) in
        get_or_append_left t.slots (Some (map (lit_by g) c) ∷ []) None (f i) (some-within t.slots (f i) (map (lit_by g) d) m) ∙ m
    by_place i d e false p =
        let w = some-within (s.slots ++ Some c ∷ []) i d e in
        let a = length-append s.slots (Some c ∷ []) in
        let q : length s.slots ≤ i = grind (arith, nat_tests) in
        let k : i ≡ length s.slots = omega (arith, w, a, q) in
        let n : get_or (s.slots ++ Some c ∷ []) i None ≡ Some c = ap (λ (z : ℕ). get_or (s.slots ++ Some c ∷ []) z None) k ∙ get_or-append_seam s.slots (Some c) [] None in
        let same : Some c ≡ Some d = sym n ∙ e in
        let there : get_or (t.slots ++ Some (map (lit_by g) c) ∷ []) (f i) None ≡ Some (map (lit_by g) c) =
        ap (λ (z : ℕ). get_or (t.slots ++ Some (map (lit_by g) c) ∷ []) z None) (ap f k ∙ at_end) ∙ get_or-append_seam t.slots (Some (map (lit_by g) c)) [] None in
        let c_is : c ≡ d = cc in
        there ∙ ap (λ (z : List Lit). Some (map (lit_by g) z)) c_is

    live_after : (i : ℕ) (d : List Lit) → get_or (s.slots ++ Some c ∷ []) i None ≡ Some d → get_or (t.slots ++ Some (map (lit_by g) c) ∷ []) (f i) None ≡ Some (map (lit_by g) d)
    live_after i d e = by_place i d e (nat_lt i (length s.slots)) refl

-- ---- one line

-- a line that is taken
abbrev kept : State → Result State Why
kept s = Ok s

need-ok : {A : Type 0} (b : Bool) (w : Why) (r : Result A Why) (x : A) → need b w r ≡ Ok x → (b ≡ true) × (r ≡ Ok x)
need-ok true w r x h = (refl, h)
need-ok false w r x h = absurd cc

need-from : {A : Type 0} (b : Bool) (w : Why) (r : Result A Why) (x : A) → b ≡ true → r ≡ Ok x → need b w r ≡ Ok x
need-from true w r x e h = h
need-from false w r x e h = absurd cc

some-clause : (o : Option (List Lit)) → is_some o ≡ true → o ≡ Some (clause_or_empty o)
some-clause (Some c) h = refl
some-clause None h = absurd cc

-- a line is taken over the whole, and what stands then follows
abbrev Taken : (f g : ℕ → ℕ) (small large : List AtomKind) → State → State → Line → Type 0
Taken f g small large s t l = (u : State) × (next t l ≡ Ok u) × Follows f g small large s u

resolve-by : (f g : ℕ → ℕ) (small large : List AtomKind) → AreKinds g small large → AreDifferent g → (s t : State) → Follows f g small large s t
    → (left right pivot : ℕ) (r : State) → resolved s left right pivot ≡ Ok r → Taken f g small large r t (Resolve (f left) (f right) (g pivot))
resolve-by f g small large k d s t h left right pivot r e = (after, taken, subst (λ (z : State). Follows f g small large z after) is_after (follows-grown f g small large s t c h))
  where
    c : List Lit
    c = resolvent pivot (clause_at s left) (clause_at s right)

    after : State
    after = grown t (map (lit_by g) c)

    placed : Bool
    placed = nat_lt left (length s.slots) && (nat_lt right (length s.slots) && nat_lt pivot (length s.atoms))

    alive : Bool
    alive = is_live s left && is_live s right

    both : Bool
    both = has (clause_at s left) (lit_of pivot true) && has (clause_at s right) (lit_of pivot false)

    one : (placed ≡ true) × (need alive Dropped (need both Pivot (Ok (grown s c))) ≡ Ok r)
    one = need-ok placed Place (need alive Dropped (need both Pivot (Ok (grown s c)))) r e

    two : (alive ≡ true) × (need both Pivot (Ok (grown s c)) ≡ Ok r)
    two = need-ok alive Dropped (need both Pivot (Ok (grown s c))) r one.1

    three : (both ≡ true) × (kept (grown s c) ≡ kept r)
    three = need-ok both Pivot (Ok (grown s c)) r two.1

    is_after : grown s c ≡ r
    is_after = let x = three.1 in cc

    there : (i : ℕ) → is_live s i ≡ true → get_or t.slots (f i) None ≡ Some (map (lit_by g) (clause_at s i))
    there i a = h.live i (clause_at s i) (some-clause (live_clause s i) a)

    left_there : get_or t.slots (f left) None ≡ Some (map (lit_by g) (clause_at s left))
    left_there = there left (and_parts (is_live s left) (is_live s right) two.0).0

    right_there : get_or t.slots (f right) None ≡ Some (map (lit_by g) (clause_at s right))
    right_there = there right (and_parts (is_live s left) (is_live s right) two.0).1

    below : (i n : ℕ) → i < n → nat_lt i n ≡ true
    below i n l = grind (arith, nat_tests)

    pivot_there : nat_lt (g pivot) (length t.atoms) ≡ true
    pivot_there =
        let p = and_parts (nat_lt right (length s.slots)) (nat_lt pivot (length s.atoms)) (and_parts (nat_lt left (length s.slots)) _ one.0).1 in
        let q : pivot < length s.atoms = grind (arith, nat_tests) in
        let a : pivot < length small = subst (λ (z : List AtomKind). pivot < length z) h.small_atoms q in
        let v = k pivot ∙ slice_get-get_or small pivot Plain a in
        let w = slice_get_within large (g pivot) (get_or small pivot Plain) v in
        below (g pivot) (length t.atoms) (subst (λ (z : List AtomKind). g pivot < length z) (sym h.large_atoms) w)

    clause_there : (i : ℕ) → get_or t.slots (f i) None ≡ Some (map (lit_by g) (clause_at s i)) → clause_at t (f i) ≡ map (lit_by g) (clause_at s i)
    clause_there i q = ap clause_or_empty q

    live_there : (i : ℕ) → get_or t.slots (f i) None ≡ Some (map (lit_by g) (clause_at s i)) → is_live t (f i) ≡ true
    live_there i q = ap is_some q

    held : (i : ℕ) (b : Bool) → get_or t.slots (f i) None ≡ Some (map (lit_by g) (clause_at s i)) → has (clause_at s i) (lit_of pivot b) ≡ true → has (clause_at t (f i)) (lit_of (g pivot) b) ≡ true
    held i b q m = ap (λ (z : List Lit). has z (lit_of (g pivot) b)) (clause_there i q) ∙ has-by g d (clause_at s i) (lit_of pivot b) ∙ m

    grown_so : grown t (resolvent (g pivot) (clause_at t (f left)) (clause_at t (f right))) ≡ after
    grown_so =
        ap (λ (z : List Lit). grown t z)
        (ap (λ (z : List Lit). resolvent (g pivot) z (clause_at t (f right))) (clause_there left left_there)
        ∙ ap (λ (z : List Lit). resolvent (g pivot) (map (lit_by g) (clause_at s left)) z) (clause_there right right_there)
        ∙ resolvent-by g d pivot (clause_at s left) (clause_at s right))

    taken : resolved t (f left) (f right) (g pivot) ≡ Ok after
    taken =
        let x = below (f left) (length t.slots) (some-within t.slots (f left) _ left_there) in
        let y = below (f right) (length t.slots) (some-within t.slots (f right) _ right_there) in
        let m = and_parts (has (clause_at s left) (lit_of pivot true)) (has (clause_at s right) (lit_of pivot false)) three.0 in
        need-from _ Place _ after (and_from _ _ x (and_from _ _ y pivot_there))
        (need-from _ Dropped _ after (and_from _ _ (live_there left left_there) (live_there right right_there))
        (need-from _ Pivot _ after (and_from _ _ (held left true left_there m.0) (held right false right_there m.1))
        (ap (λ (z : State). Ok z) grown_so)))

farkas-by : (f g : ℕ → ℕ) (small large : List AtomKind) → AreKinds g small large → AreDifferent g → (s t : State) → Follows f g small large s t
    → (used : List Lit) (steps : List RowStep) (r : State) → combined s used steps ≡ Ok r → Taken f g small large r t (Farkas (map (lit_by g) used) steps)
farkas-by f g small large k d s t h used steps r e = by_rows (line_rows s.atoms used steps) refl e
  where
    after : State
    after = grown t (map (lit_by g) (negations used))

    same : line_rows t.atoms (map (lit_by g) used) steps ≡ line_rows s.atoms used steps
    same = let a = h.small_atoms in let b = h.large_atoms in let x = line-rows-by g small large k used steps in cc

    by_rows : (o : Result (List Row) Why) → line_rows s.atoms used steps ≡ o → then_ o (combined_after s used) ≡ Ok r → Taken f g small large r t (Farkas (map (lit_by g) used) steps)
    by_rows (Err w) q x = absurd cc
    by_rows (Ok rows) q x =
        let y = need-ok (ends_badly rows) Contradiction (Ok (grown s (negations used))) r x in
        let is_after : grown s (negations used) ≡ r = let z = y.1 in cc in
        let grown_so : grown t (negations (map (lit_by g) used)) ≡ after = ap (λ (z : List Lit). grown t z) (negations-by g d used) in
        let taken : then_ (line_rows t.atoms (map (lit_by g) used) steps) (combined_after t (map (lit_by g) used)) ≡ Ok after =
        ap (λ (z : Result (List Row) Why). then_ z (combined_after t (map (lit_by g) used))) (same ∙ q)
        ∙ need-from (ends_badly rows) Contradiction (Ok (grown t (negations (map (lit_by g) used)))) after y.0 (ap (λ (z : State). Ok z) grown_so) in
        (after, taken, subst (λ (z : State). Follows f g small large z after) is_after (follows-grown f g small large s t (negations used) h))

line-taken : (f g : ℕ → ℕ) (small large : List AtomKind) → AreKinds g small large → AreDifferent g → (s t : State) → Follows f g small large s t
    → (l : Line) (r : State) → is_plain_line l ≡ true → next s l ≡ Ok r → Taken f g small large r t (line_by f g l)
line-taken f g small large k d s t h (Resolve left right pivot) r p e = resolve-by f g small large k d s t h left right pivot r e
line-taken f g small large k d s t h (Farkas used steps) r p e = farkas-by f g small large k d s t h used steps r e
line-taken f g small large k d s t h (Split place at used steps low high values) r p e = absurd cc
line-taken f g small large k d s t h (Drop clauses) r p e = absurd cc

-- ---- whole logs

-- what stands after the lines behind one
abbrev after_next : ℕ → List Line → Result State Why → Result State (ℕ × Why)
after_next n ls o = elim o [ Ok u ↦ run_from (n + 1) u ls | Err w ↦ Err (n, w) ]

-- a log is taken over the whole, and what stands then follows
abbrev AllTaken : (f g : ℕ → ℕ) (small large : List AtomKind) → ℕ → State → State → List Line → Type 0
AllTaken f g small large n s t ls = (u : State) × (run_from n t ls ≡ Ok u) × Follows f g small large s u

lines-taken : (f g : ℕ → ℕ) (small large : List AtomKind) → AreKinds g small large → AreDifferent g → (n : ℕ) (s t : State) → Follows f g small large s t
    → (ls : List Line) (r : State) → list_all is_plain_line ls ≡ true → run_from n s ls ≡ Ok r → AllTaken f g small large n r t (map (line_by f g) ls)
lines-taken f g small large k d n s t h [] r p e = (t, refl, subst (λ (z : State). Follows f g small large z t) (let x = e in cc) h)
lines-taken f g small large k d n s t h (l ∷ ls) r p e = by_line (λ u v m y. lines-taken f g small large k d (n + 1) u v m ls r plain.1 y) (next s l) refl e
  where
    plain : (is_plain_line l ≡ true) × (list_all is_plain_line ls ≡ true)
    plain = and_parts (is_plain_line l) (list_all is_plain_line ls) p

    by_line : ((u v : State) → Follows f g small large u v → run_from (n + 1) u ls ≡ Ok r → AllTaken f g small large (n + 1) r v (map (line_by f g) ls)) → (o : Result State Why) → next s l ≡ o → after_next n ls o ≡ Ok r → AllTaken f g small large n r t (map (line_by f g) (l ∷ ls))
    by_line rest (Err w) q x = absurd cc
    by_line rest (Ok u) q x =
        let one = line-taken f g small large k d s t h l u plain.0 q in
        let more = rest u one.0 one.2 x in
        (more.0, ap (after_next n (map (line_by f g) ls)) one.1 ∙ more.1, more.2)

get-map : (cs : List (List Lit)) (i : ℕ) → get_or (map (λ c. Some c) cs) i None ≡ slice_get cs i
get-map [] i = refl
get-map (c ∷ cs) zero = refl
get-map (c ∷ cs) (suc i) = get-map cs i

length-somes : (cs : List (List Lit)) → length (map (λ c. Some c) cs) ≡ length cs
length-somes [] = refl
length-somes (c ∷ cs) = ap suc (length-somes cs)

find-empty : (cs : List (List Lit)) → list_any is_empty cs ≡ true → (i : ℕ) × (slice_get cs i ≡ Some [])
find-empty [] h = absurd cc
find-empty (c ∷ cs) h = elim (or_cases (is_empty c) (list_any is_empty cs) h) [
  | inl e ↦ (zero, here c e)
  | inr e ↦ (let r = find-empty cs e in (suc r.0, r.1))
]
  where
    here : (d : List Lit) → is_empty d ≡ true → Some d ≡ Some []
    here [] e = refl
    here (x ∷ d) e = absurd cc

some-empty : (cs : List (List Lit)) (i : ℕ) → slice_get cs i ≡ Some [] → list_any is_empty cs ≡ true
some-empty [] i h = absurd cc
some-empty (c ∷ cs) zero h = let e : c ≡ [] = cc in or_left (is_empty c) (list_any is_empty cs) (ap is_empty e)
some-empty (c ∷ cs) (suc i) h = or_right (is_empty c) (list_any is_empty cs) (some-empty cs i h)

follows-start : (f g : ℕ → ℕ) (q p : PlainProblem) → IsRenamed f g q p → Follows f g q.atoms p.atoms (start q) (start p)
follows-start f g q p h = record {
  small_atoms = refl;
  large_atoms = refl;
  live = λ i c e. get-map p.clauses (f i) ∙ h.clauses i c (sym (get-map q.clauses i) ∙ e);
  further = λ j. further_so j;
  empties = empties_so;
}
  where
    further_so : (j : ℕ) → f (length (map (λ c. Some c) q.clauses) + j) ≡ length (map (λ c. Some c) p.clauses) + j
    further_so j = let a = length-somes q.clauses in let b = length-somes p.clauses in let e = h.further j in cc

    empties_so : list_any is_empty q.clauses ≡ true → list_any is_empty p.clauses ≡ true
    empties_so e = let r = find-empty q.clauses e in some-empty p.clauses (f r.0) (h.clauses r.0 [] r.1)

-- the log stands over the whole problem
pub renamed-run : (f g : ℕ → ℕ) (q p : PlainProblem) → IsRenamed f g q p → (ls : List Line) (s : State) → list_all is_plain_line ls ≡ true → run q ls ≡ Ok s → s.empty ≡ true
    → (t : State) × (run p (map (line_by f g) ls) ≡ Ok t) × (t.empty ≡ true)
renamed-run f g q p h ls s plain e z =
    let r = lines-taken f g q.atoms p.atoms h.kinds h.different 0 (start q) (start p) (follows-start f g q p h) ls s plain e in
    (r.0, r.1, r.2.empties z)
