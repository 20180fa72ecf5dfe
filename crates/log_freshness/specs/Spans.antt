-- Private places of clauses in one list of literals; they mirror src/store.rt, and a reader of the rules passes them by.
use Rattle.std.specs.Prelude.{◌≡◌, ℕ, ◌+◌, ◌*◌, ◌≤◌, nat_le, Bool, true, false, cond, List, [], ◌∷◌, slice_set, slice_index_or, length, map, take, drop, Option, Some, None}
use Rattle.std.specs.List.{list_all, fold}
use Rattle.proof_lines.specs.declared.clause.Lit.{Lit}
use Rattle.proof_lines.specs.Clauses.{distinct}
use Rattle.log_freshness.specs.declared.store.Span.{Span}
use Rattle.log_freshness.specs.Held.{most_literals, live_literals}

-- the literals at a span
abbrev pub lits_at : List Lit → Span → List Lit
lits_at lits s = take s.count (drop s.first lits)

-- the clause at a span, or none where it was dropped
abbrev pub clause_at : List Lit → Span → Option (List Lit)
clause_at lits s = cond s.is_live (Some (lits_at lits s)) None

-- the clauses at some spans
abbrev pub clauses_at : List Lit → List Span → List (Option (List Lit))
clauses_at lits spans = map (clause_at lits) spans

-- what stands in the place of a dropped clause
abbrev pub gone : Span
gone = record { first = 0; count = 0; is_live = false }

-- the spans with the clauses of some numbers marked as dropped
abbrev pub marked : List Span → List ℕ → List Span
marked spans ns = fold (λ left n. slice_set left n gone) spans ns

-- how many literals the clauses of some numbers have
abbrev pub counts_of : List Span → List ℕ → ℕ
counts_of spans [] = 0
counts_of spans (n ∷ ns) = (slice_index_or spans n gone).count + counts_of spans ns

-- a span ends within so many literals
abbrev pub ends_within : ℕ → Span → Bool
ends_within n s = nat_le (s.first + s.count) n

-- no literal of a clause stands in it twice
abbrev pub is_apart : Option (List Lit) → Bool
is_apart (Some c) = distinct c
is_apart None = true

-- what a store keeps: spans end within the literals, and no clause has a literal twice
pub record SpansFit (lits : List Lit) (spans : List Span) : Type 0 where
  pub within : list_all (ends_within (length lits)) spans ≡ true
  pub apart : list_all is_apart (clauses_at lits spans) ≡ true

-- and it holds no more literals than it may, and counts those of dropped clauses, which are few or less than half
pub record StoreFits (lits : List Lit) (spans : List Span) (dropped : ℕ) : Type 0 where
  pub placed : SpansFit lits spans
  pub few : length lits ≤ most_literals
  pub counted : length lits ≤ live_literals (clauses_at lits spans) + dropped
  pub tidy : 2 * dropped ≤ 8192 + length lits
