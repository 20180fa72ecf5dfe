-- A log with lines that drop clauses refutes what it refutes without them, where each line names and drops clauses that are left.
use Rattle.std.proofs.Common.{◌≡◌, ℕ, zero, suc, ◌+◌, ◌==◌, ◌<◌, Bool, true, false, not, cond, ◌&&◌, ◌||◌, List, [], ◌∷◌, ◌++◌, length, map, set, get_or, refl, sym, ◌∙◌, ap, subst, arith, Option, Some, None, Result, Ok, Err}
use Rattle.std.specs.Prelude.{nat_lt, is_some, replicate}
use Rattle.std.specs.List.{list_all}
use Rattle.std.proofs.lemmas.Bool.{and_parts, and_from}
use Rattle.lin_rows.specs.Rows.{Row}
use Rattle.proof_lines.specs.declared.clause.Lit.{Lit}
use Rattle.proof_lines.specs.declared.line.RowStep.{RowStep}
use Rattle.proof_lines.specs.declared.line.Line.{Line}
use Rattle.proof_lines.specs.declared.line.Line.TheVariants.{Resolve, Farkas, Split, Drop}
use Rattle.proof_lines.specs.declared.line.Why.{Why}
use Rattle.proof_lines.specs.declared.line.Why.TheVariants.{Place, Pivot, Contradiction, Dropped}
use Rattle.proof_lines.specs.Clauses.{has, lit_of, resolvent, negations}
use Rattle.proof_lines.specs.Numbers.{are_different, stands_in}
use Rattle.proof_lines.specs.Problems.{PlainProblem}
use Rattle.line_rows.specs.Refusals.{need, then_}
use Rattle.line_rows.specs.Steps.{line_rows, ends_badly}
use Rattle.proof_kernel.specs.Rules.{State, next, start, is_live, clause_at, clause_or_empty, grown, resolved, combined, combined_after, dropped, without_clauses, cleared, is_some_number, run_from}
use Rattle.lazy_logs.specs.Refuted.{Refutes}
use Rattle.lazy_logs.specs.Drops.{without_drops, is_left, after_drop, after_line, name_left, DropsWell}

-- clauses by their numbers
abbrev Slots : Type 0
Slots = List (Option (List Lit))

-- the slot of a number, where it is there and wasn't let go
abbrev at : Slots → ℕ → Option (List Lit)
at xs n = get_or xs n None

abbrev live : Slots → ℕ → Bool
live xs n = is_some (at xs n)

-- ---- slots of which some were let go

-- a slot that is left has a clause, and the same in both
abbrev IsLeft : Bool → Option (List Lit) → Option (List Lit) → Type 0
IsLeft b x y = b ≡ true → (is_some y ≡ true) × (y ≡ x)

-- as many slots are here as there, and each that is left has the same clause in both
abbrev AreLeft : List Bool → Slots → Slots → Type 0
AreLeft [] [] [] = Unit {0}
AreLeft [] [] (y ∷ ys) = ⊥
AreLeft [] (x ∷ xs) ys = ⊥
AreLeft (b ∷ bs) [] ys = ⊥
AreLeft (b ∷ bs) (x ∷ xs) [] = ⊥
AreLeft (b ∷ bs) (x ∷ xs) (y ∷ ys) = IsLeft b x y × AreLeft bs xs ys

left-count : (bs : List Bool) (xs ys : Slots) → AreLeft bs xs ys → length ys ≡ length xs
left-count [] [] [] h = refl
left-count [] [] (y ∷ ys) h = absurd h
left-count [] (x ∷ xs) ys h = absurd h
left-count (b ∷ bs) [] ys h = absurd h
left-count (b ∷ bs) (x ∷ xs) [] h = absurd h
left-count (b ∷ bs) (x ∷ xs) (y ∷ ys) h = ap suc (left-count bs xs ys h.1)

left-at : (bs : List Bool) (xs ys : Slots) → AreLeft bs xs ys → (n : ℕ) → IsLeft (is_left bs n) (at xs n) (at ys n)
left-at [] [] [] h n e = absurd cc
left-at [] [] (y ∷ ys) h n e = absurd h
left-at [] (x ∷ xs) ys h n e = absurd h
left-at (b ∷ bs) [] ys h n e = absurd h
left-at (b ∷ bs) (x ∷ xs) [] h n e = absurd h
left-at (b ∷ bs) (x ∷ xs) (y ∷ ys) h zero e = h.0 e
left-at (b ∷ bs) (x ∷ xs) (y ∷ ys) h (suc n) e = left-at bs xs ys h.1 n e

-- one clause more in both
left-pushed : (bs : List Bool) (xs ys : Slots) (c : List Lit) → AreLeft bs xs ys → AreLeft (bs ++ true ∷ []) (xs ++ Some c ∷ []) (ys ++ Some c ∷ [])
left-pushed [] [] [] c h = ((λ e. (refl, refl)), tt)
left-pushed [] [] (y ∷ ys) c h = absurd h
left-pushed [] (x ∷ xs) ys c h = absurd h
left-pushed (b ∷ bs) [] ys c h = absurd h
left-pushed (b ∷ bs) (x ∷ xs) [] c h = absurd h
left-pushed (b ∷ bs) (x ∷ xs) (y ∷ ys) c h = (h.0, left-pushed bs xs ys c h.1)

-- one clause let go
left-set : (bs : List Bool) (xs ys : Slots) (n : ℕ) → AreLeft bs xs ys → AreLeft (set bs n false) xs (set ys n None)
left-set [] [] [] n h = tt
left-set [] [] (y ∷ ys) n h = absurd h
left-set [] (x ∷ xs) ys n h = absurd h
left-set (b ∷ bs) [] ys n h = absurd h
left-set (b ∷ bs) (x ∷ xs) [] n h = absurd h
left-set (b ∷ bs) (x ∷ xs) (y ∷ ys) zero h = ((λ e. absurd cc), h.1)
left-set (b ∷ bs) (x ∷ xs) (y ∷ ys) (suc n) h = (h.0, left-set bs xs ys n h.1)

-- before the first line
left-start : (cs : List (List Lit)) → AreLeft (replicate (length cs) true) (map (λ c. Some c) cs) (map (λ c. Some c) cs)
left-start [] = tt
left-start (c ∷ cs) = ((λ e. (refl, refl)), left-start cs)

-- ---- clauses that are dropped one after the other

-- what is there once another clause is let go was there, and is another one
set-live : (xs : Slots) (n i : ℕ) → live (set xs n None) i ≡ true → live xs i ≡ true
set-live [] n i h = absurd cc
set-live (x ∷ xs) zero zero h = absurd cc
set-live (x ∷ xs) zero (suc i) h = h
set-live (x ∷ xs) (suc n) zero h = h
set-live (x ∷ xs) (suc n) (suc i) h = set-live xs n i h

set-gone : (xs : Slots) (n : ℕ) → live (set xs n None) n ≡ false
set-gone [] n = refl
set-gone (x ∷ xs) zero = refl
set-gone (x ∷ xs) (suc n) = set-gone xs n

all-live : (xs : Slots) (n : ℕ) (ns : List ℕ) → list_all (live (set xs n None)) ns ≡ true → list_all (live xs) ns ≡ true
all-live xs n [] h = refl
all-live xs n (m ∷ ns) h =
    let p = and_parts (live (set xs n None) m) (list_all (live (set xs n None)) ns) h in
    and_from (live xs m) (list_all (live xs) ns) (set-live xs n m p.0) (all-live xs n ns p.1)

-- a number that fails a test isn't among those that pass it
not-among : (p : ℕ → Bool) (ns : List ℕ) (n : ℕ) → list_all p ns ≡ true → p n ≡ false → stands_in ns n ≡ false
not-among p [] n h k = refl
not-among p (m ∷ ns) n h k =
    let q = and_parts (p m) (list_all p ns) h in
    by_case (m == n) refl q.0 (not-among p ns n q.1 k)
  where
    by_case : (b : Bool) → (m == n) ≡ b → p m ≡ true → stands_in ns n ≡ false → (b || stands_in ns n) ≡ false
    by_case true e one rest = absurd (let f : m ≡ n = grind (arith, e) in let g : true ≡ false = sym one ∙ ap p f ∙ k in cc)
    by_case false e one rest = rest

-- what is left once clauses are dropped
record Drops (cs : List Bool) (xs ys : Slots) (ns : List ℕ) : Type 0 where
  pub live : list_all (live ys) ns ≡ true
  pub different : are_different ns ≡ true
  pub left : AreLeft cs xs (cleared ys ns)

drops-all : (bs : List Bool) (xs ys : Slots) (ns : List ℕ) (cs : List Bool) → AreLeft bs xs ys → after_drop bs ns ≡ Some cs → Drops cs xs ys ns
drops-all bs xs ys [] cs h e = record { live = refl; different = refl; left = subst (λ (z : List Bool). AreLeft z xs ys) (same bs cs e) h }
  where
    same : (a b : List Bool) → Some a ≡ Some b → a ≡ b
    same a b e = cc
drops-all bs xs ys (n ∷ ns) cs h e = by_case (is_left bs n) refl e (λ k. drops-all (set bs n false) xs (set ys n None) ns cs (left-set bs xs ys n h) k)
  where
    by_case : (b : Bool) → is_left bs n ≡ b → cond b (after_drop (set bs n false) ns) None ≡ Some cs
        → (after_drop (set bs n false) ns ≡ Some cs → Drops cs xs (set ys n None) ns) → Drops cs xs ys (n ∷ ns)
    by_case true q k rest =
        let r = rest k in
        record {
          live = and_from (live ys n) (list_all (live ys) ns) (left-at bs xs ys h n q).0 (all-live ys n ns r.live);
          different = and_from (not (stands_in ns n)) (are_different ns) (ap not (not-among (live (set ys n None)) ns n r.live (set-gone ys n))) r.different;
          left = r.left;
        }
    by_case false q k rest = absurd cc

-- ---- one line

-- a state with other slots
abbrev with_slots : State → Slots → State
with_slots s xs = record { atoms = s.atoms; ints = s.ints; given = s.given; slots = xs; empty = s.empty }

abbrev told : State → Result State Why
told s = Ok s

abbrev taken : State → Result State (ℕ × Why)
taken s = Ok s

same_next : (s t : State) → told s ≡ told t → s ≡ t
same_next s t e = cc

same_state : (s t : State) → taken s ≡ taken t → s ≡ t
same_state s t e = cc

same_left : (a b : List Bool) → Some a ≡ Some b → a ≡ b
same_left a b e = cc

need-ok : (b : Bool) (w : Why) (r : Result State Why) (v : State) → need b w r ≡ told v → (b ≡ true) × (r ≡ told v)
need-ok true w r v h = (refl, h)
need-ok false w r v h = absurd cc

need-from : (b : Bool) (w : Why) (r : Result State Why) (v : State) → b ≡ true → r ≡ told v → need b w r ≡ told v
need-from true w r v e h = h
need-from false w r v e h = absurd cc

-- a line leads on where some clauses were dropped
record Step (cs : List Bool) (s : State) (ys : Slots) (l : Line) (v : State) : Type 0 where
  pub slots : Slots
  pub takes : next (with_slots s ys) l ≡ told (with_slots v slots)
  pub left : AreLeft cs v.slots slots

-- a line that gives a clause leads to the states with it
grown-step : (bs cs : List Bool) (s : State) (ys : Slots) (l : Line) (c : List Lit) (v : State) → AreLeft bs s.slots ys → cs ≡ bs ++ true ∷ [] → v ≡ grown s c
    → next (with_slots s ys) l ≡ told (grown (with_slots s ys) c) → Step cs s ys l v
grown-step bs cs s ys l c v h e f k =
    subst (λ (z : State). Step cs s ys l z) (sym f)
    (subst (λ (z : List Bool). Step z s ys l (grown s c)) (sym e)
    (record { slots = ys ++ Some c ∷ []; takes = k; left = left-pushed bs s.slots ys c h }))

module _ (bs cs : List Bool) (s : State) (ys : Slots) (left right pivot : ℕ) (v : State) (h : AreLeft bs s.slots ys) where
  resolve-step : after_line bs (Resolve left right pivot) ≡ Some cs → resolved s left right pivot ≡ told v → Step cs s ys (Resolve left right pivot) v
  resolve-step e k = by_case (is_left bs left && is_left bs right) refl e
    where
      c : List Lit
      c = resolvent pivot (clause_at s left) (clause_at s right)

      t : State
      t = with_slots s ys

      placed : Bool
      placed = nat_lt left (length s.slots) && (nat_lt right (length s.slots) && nat_lt pivot (length s.atoms))

      alive : Bool
      alive = is_live s left && is_live s right

      both : Bool
      both = has (clause_at s left) (lit_of pivot true) && has (clause_at s right) (lit_of pivot false)

      one : (placed ≡ true) × (need alive Dropped (need both Pivot (Ok (grown s c))) ≡ told v)
      one = need-ok placed Place (need alive Dropped (need both Pivot (Ok (grown s c)))) v k

      two : (alive ≡ true) × (need both Pivot (Ok (grown s c)) ≡ told v)
      two = need-ok alive Dropped (need both Pivot (Ok (grown s c))) v one.1

      three : (both ≡ true) × (told (grown s c) ≡ told v)
      three = need-ok both Pivot (Ok (grown s c)) v two.1

      count : length ys ≡ length s.slots
      count = left-count bs s.slots ys h

      takes : (is_left bs left ≡ true) → (is_left bs right ≡ true) → next t (Resolve left right pivot) ≡ told (grown t c)
      takes p q =
          let a = left-at bs s.slots ys h left p in
          let b = left-at bs s.slots ys h right q in
          let x : clause_at t left ≡ clause_at s left = ap clause_or_empty a.1 in
          let y : clause_at t right ≡ clause_at s right = ap clause_or_empty b.1 in
          need-from _ Place _ (grown t c) ((λ i. nat_lt left (count i) && (nat_lt right (count i) && nat_lt pivot (length s.atoms))) ∙ one.0)
          (need-from _ Dropped _ (grown t c) (and_from (is_live t left) (is_live t right) a.0 b.0)
          (need-from _ Pivot _ (grown t c) ((λ i. has (x i) (lit_of pivot true) && has (y i) (lit_of pivot false)) ∙ three.0)
          (λ i. told (grown t (resolvent pivot (x i) (y i))))))

      by_case : (b : Bool) → (is_left bs left && is_left bs right) ≡ b → cond b (Some (bs ++ true ∷ [])) None ≡ Some cs → Step cs s ys (Resolve left right pivot) v
      by_case true p f =
          let q = and_parts (is_left bs left) (is_left bs right) p in
          grown-step bs cs s ys (Resolve left right pivot) c v h (sym (same_left (bs ++ true ∷ []) cs f)) (sym (same_next (grown s c) v three.1)) (takes q.0 q.1)
      by_case false p f = absurd cc

farkas-step : (bs cs : List Bool) (s : State) (ys : Slots) (used : List Lit) (steps : List RowStep) (v : State) → AreLeft bs s.slots ys
    → after_line bs (Farkas used steps) ≡ Some cs → combined s used steps ≡ told v → Step cs s ys (Farkas used steps) v
farkas-step bs cs s ys used steps v h e k = by_rows (line_rows s.atoms used steps) refl k
  where
    t : State
    t = with_slots s ys

    by_rows : (o : Result (List Row) Why) → line_rows s.atoms used steps ≡ o → then_ o (combined_after s used) ≡ told v → Step cs s ys (Farkas used steps) v
    by_rows (Ok rows) q x =
        let y = need-ok (ends_badly rows) Contradiction (Ok (grown s (negations used))) v x in
        let takes : then_ (line_rows t.atoms used steps) (combined_after t used) ≡ told (grown t (negations used)) =
        ap (λ (z : Result (List Row) Why). then_ z (combined_after t used)) q
        ∙ need-from (ends_badly rows) Contradiction (Ok (grown t (negations used))) (grown t (negations used)) y.0 refl in
        grown-step bs cs s ys (Farkas used steps) (negations used) v h (sym (same_left (bs ++ true ∷ []) cs e)) (sym (same_next (grown s (negations used)) v y.1)) takes
    by_rows (Err w) q x = absurd cc

-- a line that drops clauses leaves the plain state as it was
drop-step : (bs cs : List Bool) (s : State) (ys : Slots) (ns : List ℕ) → AreLeft bs s.slots ys → after_line bs (Drop ns) ≡ Some cs → Step cs s ys (Drop ns) s
drop-step bs cs s ys ns h e = by_case (is_some_number ns) refl e
  where
    t : State
    t = with_slots s ys

    within : (m j : ℕ) → m < j → nat_lt m j ≡ true
    within m j lt = grind (arith, lt)

    live-below : (xs : Slots) (n : ℕ) → live xs n ≡ true → n < length xs
    live-below [] n h = absurd cc
    live-below (x ∷ xs) zero h = omega arith
    live-below (x ∷ xs) (suc n) h = let r = live-below xs n h in omega (arith, r)

    below : (ms : List ℕ) → list_all (live ys) ms ≡ true → list_all (λ m. nat_lt m (length ys)) ms ≡ true
    below [] h = refl
    below (m ∷ ms) h =
        let p = and_parts (live ys m) (list_all (live ys) ms) h in
        and_from (nat_lt m (length ys)) (list_all (λ m. nat_lt m (length ys)) ms) (within m (length ys) (live-below ys m p.0)) (below ms p.1)

    by_case : (b : Bool) → is_some_number ns ≡ b → cond b (after_drop bs ns) None ≡ Some cs → Step cs s ys (Drop ns) s
    by_case true p f =
        let r = drops-all bs s.slots ys ns cs h f in
        record {
          slots = cleared ys ns;
          takes =
              need-from _ Place _ (without_clauses t ns) (and_from (is_some_number ns) _ p (below ns r.live))
              (need-from _ Dropped _ (without_clauses t ns) (and_from (are_different ns) _ r.different r.live) refl);
          left = r.left;
        }
    by_case false p f = absurd cc

-- ---- whole logs

-- what stands after the next line and those that follow
abbrev after_next : ℕ → List Line → Result State Why → Result State (ℕ × Why)
after_next k ls (Ok u) = run_from (k + 1) u ls
after_next k ls (Err w) = Err (k, w)

-- what is noted behind the next line, and the lines that follow
record Noted (bs : List Bool) (l : Line) (ls : List Line) : Type 0 where
  pub left : List Bool
  pub is : after_line bs l ≡ Some left
  pub named : name_left left ls ≡ true

noted : (bs : List Bool) (l : Line) (ls : List Line) → name_left bs (l ∷ ls) ≡ true → Noted bs l ls
noted bs l ls h = by_case (after_line bs l) refl h
  where
    after : Option (List Bool) → Bool
    after o = elim o [ Some next ↦ name_left next ls | None ↦ false ]

    by_case : (o : Option (List Bool)) → after_line bs l ≡ o → after o ≡ true → Noted bs l ls
    by_case (Some cs) e k = record { left = cs; is = e; named = k }
    by_case None e k = absurd cc

-- the state behind the next line, and the lines that follow
record Went (k : ℕ) (s : State) (l : Line) (ls : List Line) (u : State) : Type 0 where
  pub state : State
  pub is : next s l ≡ told state
  pub rest : run_from (k + 1) state ls ≡ taken u

went : (k : ℕ) (s : State) (l : Line) (ls : List Line) (u : State) → run_from k s (l ∷ ls) ≡ taken u → Went k s l ls u
went k s l ls u h = by_case (next s l) refl h
  where
    by_case : (o : Result State Why) → next s l ≡ o → after_next k ls o ≡ taken u → Went k s l ls u
    by_case (Ok v) e h = record { state = v; is = e; rest = h }
    by_case (Err w) e h = absurd cc

-- all lines are taken where some clauses were dropped
record Runs (s : State) (ys : Slots) (ls : List Line) (u : State) : Type 0 where
  pub slots : Slots
  pub runs : (k : ℕ) → run_from k (with_slots s ys) ls ≡ taken (with_slots u slots)

behind-step : (cs : List Bool) (s : State) (ys : Slots) (l : Line) (ls : List Line) (v u : State) → (a : Step cs s ys l v) → Runs v a.slots ls u → Runs s ys (l ∷ ls) u
behind-step cs s ys l ls v u a r = record { slots = r.slots; runs = λ k. ap (after_next k ls) a.takes ∙ r.runs (k + 1) }

drops-run : (bs : List Bool) (s : State) (ys : Slots) (ls : List Line) (u : State) → AreLeft bs s.slots ys → name_left bs ls ≡ true
    → (k : ℕ) → run_from k s (without_drops ls) ≡ taken u → Runs s ys ls u
drops-run bs s ys [] u h n k e = subst (λ (z : State). Runs s ys [] z) (same_state s u e) (record { slots = ys; runs = λ j. refl })
drops-run bs s ys (Resolve left right pivot ∷ ls) u h n k e =
    let l = Resolve left right pivot in
    let a = noted bs l ls n in
    let b = went k s l (without_drops ls) u e in
    let c = resolve-step bs a.left s ys left right pivot b.state h a.is b.is in
    behind-step a.left s ys l ls b.state u c (drops-run a.left b.state c.slots ls u c.left a.named (k + 1) b.rest)
drops-run bs s ys (Farkas used steps ∷ ls) u h n k e =
    let l = Farkas used steps in
    let a = noted bs l ls n in
    let b = went k s l (without_drops ls) u e in
    let c = farkas-step bs a.left s ys used steps b.state h a.is b.is in
    behind-step a.left s ys l ls b.state u c (drops-run a.left b.state c.slots ls u c.left a.named (k + 1) b.rest)
drops-run bs s ys (Split place at used steps low high values ∷ ls) u h n k e = absurd cc
drops-run bs s ys (Drop clauses ∷ ls) u h n k e =
    let l = Drop clauses in
    let a = noted bs l ls n in
    let c = drop-step bs a.left s ys clauses h a.is in
    behind-step a.left s ys l ls s u c (drops-run a.left s c.slots ls u c.left a.named k e)

-- THE LAW: where each line names and drops clauses that are left, a log refutes what it refutes without its lines that drop clauses
pub refutes-with-drops : (p : PlainProblem) (ls : List Line) → Refutes p (without_drops ls) → DropsWell (length p.clauses) ls → Refutes p ls
refutes-with-drops p ls r d =
    let h = drops-run (replicate (length p.clauses) true) (start p) (start p).slots ls r.state (left-start p.clauses) d 0 r.runs in
    record { state = with_slots r.state h.slots; runs = h.runs 0; empty = r.empty }
