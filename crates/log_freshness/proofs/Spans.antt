-- Where clauses stand: what more literals, more spans and a dropped clause change.
use Rattle.std.proofs.Common.{◌≡◌, ℕ, zero, suc, ◌+◌, ◌<◌, ◌≤◌, Bool, true, false, cond, ◌&&◌, List, [], ◌∷◌, ◌++◌, length, take, drop, set, get_or, refl, sym, ◌∙◌, ap, subst, arith, Option, Some, None}
use Rattle.std.specs.List.{list_all}
use Rattle.std.proofs.Math.Seq.{drop-append_seam, take-length}
use Rattle.std.proofs.lemmas.Bool.{and_parts, and_from, leb-true, le-leb}
use Rattle.std.proofs.lemmas.List.{length-append, length-drop, drop-append-le, take-append-le, map-append, map-set, length-map, get_or-map}
use Rattle.std.proofs.lemmas.List.Folds.{list_all-append}
use Rattle.proof_lines.specs.declared.clause.Lit.{Lit}
use Rattle.proof_lines.specs.Clauses.{distinct}
use Rattle.log_freshness.specs.declared.store.Span.{Span}
use Rattle.log_freshness.specs.Spans.{lits_at, clause_at, clauses_at, ends_within, is_apart, SpansFit}

-- more literals behind those of a span change nothing at it
lits_at-longer : (lits more : List Lit) (s : Span) → ends_within (length lits) s ≡ true → lits_at (lits ++ more) s ≡ lits_at lits s
lits_at-longer lits more s h =
    let le = leb-true (s.first + s.count) (length lits) h in
    let first : s.first ≤ length lits = omega (arith, le) in
    let rest : s.count ≤ length (drop s.first lits) = omega (arith, le, length-drop s.first lits) in
    ap (take s.count) (drop-append-le s.first lits more first) ∙ take-append-le s.count (drop s.first lits) more rest

clause_at-longer : (lits more : List Lit) (s : Span) → ends_within (length lits) s ≡ true → clause_at (lits ++ more) s ≡ clause_at lits s
clause_at-longer lits more s h = ap (λ (c : List Lit). cond s.is_live (Some c) None) (lits_at-longer lits more s h)

pub clauses_at-longer : (lits more : List Lit) (spans : List Span) → list_all (ends_within (length lits)) spans ≡ true → clauses_at (lits ++ more) spans ≡ clauses_at lits spans
clauses_at-longer lits more [] h = refl
clauses_at-longer lits more (s ∷ spans) h =
    let p = and_parts (ends_within (length lits) s) (list_all (ends_within (length lits)) spans) h in
    λ i. clause_at-longer lits more s p.0 i ∷ clauses_at-longer lits more spans p.1 i

within-longer : (n m : ℕ) (spans : List Span) → n ≤ m → list_all (ends_within n) spans ≡ true → list_all (ends_within m) spans ≡ true
within-longer n m [] le h = refl
within-longer n m (s ∷ spans) le h =
    let p = and_parts (ends_within n s) (list_all (ends_within n) spans) h in
    let e = leb-true (s.first + s.count) n p.0 in
    and_from (ends_within m s) (list_all (ends_within m) spans) (le-leb (s.first + s.count) m (omega (arith, le, e))) (within-longer n m spans le p.1)

-- more literals leave what a store keeps
pub fit-longer : (lits more : List Lit) (spans : List Span) → SpansFit lits spans → SpansFit (lits ++ more) spans
fit-longer lits more spans h = record {
  within = within-longer (length lits) (length (lits ++ more)) spans (omega (arith, length-append lits more)) h.within;
  apart = subst (λ (z : List (Option (List Lit))). list_all is_apart z ≡ true) (sym (clauses_at-longer lits more spans h.within)) h.apart;
}

-- one more span
one : (b : Bool) → b ≡ true → (b && true) ≡ true
one b h = grind (arith, h)

pub clauses_at-more : (lits : List Lit) (spans : List Span) (s : Span) → clauses_at lits (spans ++ s ∷ []) ≡ clauses_at lits spans ++ clause_at lits s ∷ []
clauses_at-more lits spans s = map-append (clause_at lits) spans (s ∷ [])

pub fit-more : (lits : List Lit) (spans : List Span) (s : Span) → SpansFit lits spans → ends_within (length lits) s ≡ true → is_apart (clause_at lits s) ≡ true → SpansFit lits (spans ++ s ∷ [])
fit-more lits spans s h e a = record {
  within = list_all-append (ends_within (length lits)) spans (s ∷ []) ∙ and_from (list_all (ends_within (length lits)) spans) (ends_within (length lits) s && true) h.within (one (ends_within (length lits) s) e);
  apart =
      ap (list_all is_apart) (clauses_at-more lits spans s)
      ∙ list_all-append is_apart (clauses_at lits spans) (clause_at lits s ∷ [])
      ∙ and_from (list_all is_apart (clauses_at lits spans)) (is_apart (clause_at lits s) && true) h.apart (one (is_apart (clause_at lits s)) a);
}

-- the span of literals that were put behind others
pub lits_at-last : (lits c : List Lit) (s : Span) → s.first ≡ length lits → s.count ≡ length c → lits_at (lits ++ c) s ≡ c
lits_at-last lits c s f n =
    (λ i. take (n i) (drop (f i) (lits ++ c))) ∙ ap (take (length c)) (drop-append_seam lits c) ∙ take-length c

pub within-last : (lits c : List Lit) (s : Span) → s.first ≡ length lits → s.count ≡ length c → ends_within (length (lits ++ c)) s ≡ true
within-last lits c s f n = le-leb (s.first + s.count) (length (lits ++ c)) (omega (arith, f, n, length-append lits c))

-- another span in the place of one
set-within : (n : ℕ) (spans : List Span) (i : ℕ) (s : Span) → list_all (ends_within n) spans ≡ true → ends_within n s ≡ true → list_all (ends_within n) (set spans i s) ≡ true
set-within n [] i s h e = refl
set-within n (x ∷ spans) zero s h e = and_from (ends_within n s) (list_all (ends_within n) spans) e (and_parts (ends_within n x) (list_all (ends_within n) spans) h).1
set-within n (x ∷ spans) (suc i) s h e =
    let p = and_parts (ends_within n x) (list_all (ends_within n) spans) h in
    and_from (ends_within n x) (list_all (ends_within n) (set spans i s)) p.0 (set-within n spans i s p.1 e)

set-apart : (cs : List (Option (List Lit))) (i : ℕ) → list_all is_apart cs ≡ true → list_all is_apart (set cs i None) ≡ true
set-apart [] i h = refl
set-apart (x ∷ cs) zero h = (and_parts (is_apart x) (list_all is_apart cs) h).1
set-apart (x ∷ cs) (suc i) h =
    let p = and_parts (is_apart x) (list_all is_apart cs) h in
    and_from (is_apart x) (list_all is_apart (set cs i None)) p.0 (set-apart cs i p.1)

pub clauses_at-dropped : (lits : List Lit) (spans : List Span) (i : ℕ) (s : Span) → s.is_live ≡ false → clauses_at lits (set spans i s) ≡ set (clauses_at lits spans) i None
clauses_at-dropped lits spans i s d =
    map-set (clause_at lits) spans i s ∙ ap (λ (b : Bool). set (clauses_at lits spans) i (cond b (Some (lits_at lits s)) None)) d

pub fit-dropped : (lits : List Lit) (spans : List Span) (i : ℕ) (s : Span) → SpansFit lits spans → s.is_live ≡ false → s.first ≡ 0 → s.count ≡ 0 → SpansFit lits (set spans i s)
fit-dropped lits spans i s h d f n = record {
  within = set-within (length lits) spans i s h.within (le-leb (s.first + s.count) (length lits) (omega (arith, f, n)));
  apart = subst (λ (z : List (Option (List Lit))). list_all is_apart z ≡ true) (sym (clauses_at-dropped lits spans i s d)) (set-apart (clauses_at lits spans) i h.apart);
}

-- what is so of all is so at a place
at-within : (n : ℕ) (spans : List Span) (i : ℕ) (d : Span) → list_all (ends_within n) spans ≡ true → i < length spans → ends_within n (get_or spans i d) ≡ true
at-within n [] i d h lt = absurd (omega (arith, lt))
at-within n (s ∷ spans) zero d h lt = (and_parts (ends_within n s) (list_all (ends_within n) spans) h).0
at-within n (s ∷ spans) (suc i) d h lt = at-within n spans i d (and_parts (ends_within n s) (list_all (ends_within n) spans) h).1 (omega (arith, lt))

at-apart : (cs : List (Option (List Lit))) (i : ℕ) (d : Option (List Lit)) → list_all is_apart cs ≡ true → i < length cs → is_apart (get_or cs i d) ≡ true
at-apart [] i d h lt = absurd (omega (arith, lt))
at-apart (c ∷ cs) zero d h lt = (and_parts (is_apart c) (list_all is_apart cs) h).0
at-apart (c ∷ cs) (suc i) d h lt = at-apart cs i d (and_parts (is_apart c) (list_all is_apart cs) h).1 (omega (arith, lt))

-- what a store keeps of a span
pub span-within : (lits : List Lit) (spans : List Span) (i : ℕ) (d : Span) → SpansFit lits spans → i < length spans → (get_or spans i d).first + (get_or spans i d).count ≤ length lits
span-within lits spans i d h lt = leb-true _ (length lits) (at-within (length lits) spans i d h.within lt)

pub clause-at : (lits : List Lit) (spans : List Span) (i : ℕ) (d : Span) (e : Option (List Lit)) → i < length spans → get_or (clauses_at lits spans) i e ≡ clause_at lits (get_or spans i d)
clause-at lits spans i d e lt = get_or-map (clause_at lits) spans i d e lt

pub span-apart : (lits : List Lit) (spans : List Span) (i : ℕ) (d : Span) → SpansFit lits spans → i < length spans → (get_or spans i d).is_live ≡ true → distinct (lits_at lits (get_or spans i d)) ≡ true
span-apart lits spans i d h lt live =
    let a = at-apart (clauses_at lits spans) i None h.apart (omega (arith, lt, length-map spans (clause_at lits))) in
    let e : get_or (clauses_at lits spans) i None ≡ Some (lits_at lits (get_or spans i d)) =
    clause-at lits spans i d None lt ∙ ap (λ (b : Bool). cond b (Some (lits_at lits (get_or spans i d))) None) live in
    subst (λ (o : Option (List Lit)). is_apart o ≡ true) e a

pub apart-at : (lits : List Lit) (spans : List Span) (i : ℕ) (d : Span) → SpansFit lits spans → i < length spans → is_apart (clause_at lits (get_or spans i d)) ≡ true
apart-at lits spans i d h lt =
    subst (λ (o : Option (List Lit)). is_apart o ≡ true) (clause-at lits spans i d None lt) (at-apart (clauses_at lits spans) i None h.apart (omega (arith, lt, length-map spans (clause_at lits))))
