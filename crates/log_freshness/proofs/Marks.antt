-- What dropping clauses changes: what they are, what a store keeps, and how many literals are those of clauses that weren't dropped.
use Rattle.std.proofs.Common.{◌≡◌, ℕ, zero, suc, ◌+◌, ◌≤◌, Bool, true, false, cond, List, [], ◌∷◌, ◌++◌, length, take, drop, set, get_or, refl, ◌∙◌, ap, arith, Option, Some, None}
use Rattle.proof_lines.specs.declared.clause.Lit.{Lit}
use Rattle.log_freshness.specs.declared.store.Span.{Span}
use Rattle.log_freshness.specs.Held.{size_of, live_literals}
use Rattle.log_freshness.specs.Clearing.{cleared}
use Rattle.log_freshness.specs.Spans.{clauses_at, SpansFit, gone, marked, counts_of}
use Rattle.log_freshness.proofs.Spans.{fit-dropped, clauses_at-dropped}

pub fit-marked : (lits : List Lit) (spans : List Span) (ns : List ℕ) → SpansFit lits spans → SpansFit lits (marked spans ns)
fit-marked lits spans [] h = h
fit-marked lits spans (n ∷ ns) h = fit-marked lits (set spans n gone) ns (fit-dropped lits spans n gone h refl refl refl)

pub clauses_at-marked : (lits : List Lit) (spans : List Span) (ns : List ℕ) → clauses_at lits (marked spans ns) ≡ cleared (clauses_at lits spans) ns
clauses_at-marked lits spans [] = refl
clauses_at-marked lits spans (n ∷ ns) =
    clauses_at-marked lits (set spans n gone) ns ∙ ap (λ (z : List (Option (List Lit))). cleared z ns) (clauses_at-dropped lits spans n gone refl)

pub live-append : (cs ds : List (Option (List Lit))) → live_literals (cs ++ ds) ≡ live_literals cs + live_literals ds
live-append [] ds = omega arith
live-append (c ∷ cs) ds = (let e = live-append cs ds in omega (arith, e))

-- ---- how many literals a mark takes from the live ones

short : {X : Type 0} (n : ℕ) (xs : List X) → length (take n xs) ≤ n
short zero xs = omega arith
short (suc n) [] = omega arith
short (suc n) (x ∷ xs) = (let e = short n xs in omega (arith, e))

size-within : (lits : List Lit) (s : Span) (b : Bool) → size_of (cond b (Some (take s.count (drop s.first lits))) None) ≤ s.count
size-within lits s true = short s.count (drop s.first lits)
size-within lits s false = omega arith

live-set : (lits : List Lit) (spans : List Span) (i : ℕ) → live_literals (clauses_at lits spans) ≤ live_literals (clauses_at lits (set spans i gone)) + (get_or spans i gone).count
live-set lits [] i = omega arith
live-set lits (s ∷ spans) zero = (let e = size-within lits s s.is_live in omega (arith, e))
live-set lits (s ∷ spans) (suc i) = (let e = live-set lits spans i in omega (arith, e))

count-set : (spans : List Span) (i n : ℕ) → (get_or (set spans i gone) n gone).count ≤ (get_or spans n gone).count
count-set [] i n = omega arith
count-set (s ∷ spans) zero zero = omega arith
count-set (s ∷ spans) zero (suc n) = omega arith
count-set (s ∷ spans) (suc i) zero = omega arith
count-set (s ∷ spans) (suc i) (suc n) = count-set spans i n

counts-set : (spans : List Span) (i : ℕ) (ns : List ℕ) → counts_of (set spans i gone) ns ≤ counts_of spans ns
counts-set spans i [] = omega arith
counts-set spans i (n ∷ ns) = (let a = count-set spans i n in let b = counts-set spans i ns in omega (arith, a, b))

pub live-marked : (lits : List Lit) (spans : List Span) (ns : List ℕ) → live_literals (clauses_at lits spans) ≤ live_literals (clauses_at lits (marked spans ns)) + counts_of spans ns
live-marked lits spans [] = omega arith
live-marked lits spans (n ∷ ns) =
    let a = live-set lits spans n in
    let b = live-marked lits (set spans n gone) ns in
    let c = counts-set spans n ns in
    omega (arith, a, b, c)
