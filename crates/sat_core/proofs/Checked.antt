use Rattle.std.proofs.Common.{◌≡◌, ℕ, zero, suc, ◌+◌, ◌^◌, ◌<◌, ℤ, pos, Bool, true, false, not, cond, ◌||◌, ◌==◌, ◌⊎◌, inl, inr, List, [], ◌∷◌, ◌++◌, length, map, get_or, refl, sym, ◌∙◌, ap, subst, arith, Option, Some, None, Ok, length-append, slice_get, nat_lt}
use Rattle.std.specs.Prelude.{◌-ℤ◌}
use Rattle.std.specs.List.{list_any, list_all}
use Rattle.std.specs.Option.{option_and_then, option_map}
use Rattle.std.proofs.lemmas.Option.{slice_get-get_or, slice_get_within}
use Rattle.lin_rows.specs.declared.term.RowTerm.{RowTerm}
use Rattle.lin_rows.specs.Numbers.{fit}
use Rattle.lin_rows.specs.Rows.{Row, is_row, places_below, negated, opposite, point_of}
use Rattle.proof_lines.specs.declared.clause.Lit.{Lit}
use Rattle.proof_lines.specs.declared.problem.AtomKind.{AtomKind}
use Rattle.proof_lines.specs.declared.problem.AtomKind.TheVariants.{Plain, Row as OfRow}
use Rattle.proof_lines.specs.declared.line.RowStep.{RowStep}
use Rattle.proof_lines.specs.declared.line.RangeWhat.{RangeWhat}
use Rattle.proof_lines.specs.declared.line.Line.{Line}
use Rattle.proof_lines.specs.declared.line.Line.TheVariants.{Farkas, Split}
use Rattle.proof_lines.specs.Clauses.{has, sub, flip, lit_of, same_bool, negations, clause_true, all_true, holds_both_ways}
use Rattle.proof_lines.specs.Problems.{PlainProblem, Meaning, fits, names_below, atom_true, kind_true, meaning_of}
use Rattle.line_rows.specs.Steps.{row_of_kind, atom_row, lit_row, row_at}
use Rattle.proof_kernel.specs.Rules.{next}
use Rattle.line_rows.specs.Splits.{at_most}
use Rattle.std.proofs.lemmas.Bool.{and_parts, or_left, or_right, and_from, ltb-true, lt-ltb, not-true}
use Rattle.proof_lines.proofs.Sets.{same_nat-refl, true_by}
use Rattle.line_rows.proofs.LineRows.{row_at-is_row}
use Rattle.theory_api.specs.Laws.{all_below, is_some_row, are_given, rows_at, IsModel, IsSplit, IsTooMany, IsBeyond}
use Rattle.theory_api.proofs.Standing.{Stand, lit_at}
use Rattle.sat_core.specs.declared.trail.Entry.{Entry}
use Rattle.sat_core.specs.Trails.{in_trail, negated as opposed, is_assigned, is_false, Settled, NoneFalse, IsTrail}
use Rattle.sat_core.specs.Fresh.{IsFresh}
use Rattle.sat_core.specs.Forcing.{is_plain, are_plain}
use Rattle.sat_core.specs.SearchLogs.{SearchLog, IsSearched, between, within, farkas, split, standing, with_clause, with_row, AreHeldRows}
use Rattle.sat_core.proofs.Chain.{at_old, at_new, longer, old_or_new}
use Rattle.sat_core.proofs.Begins.{begin_theory, theory_fresh, theory_one_way}
use Rattle.sat_core.proofs.Forcing.{assigned_one, some_open}
use Rattle.sat_core.proofs.Taken.{picked-line, split_taken}
use Rattle.sat_core.proofs.Shown.{false-negations, distinct-negations, false-below, trail_one_way, rows_judged-so, range_judged-so, rows_hold-so, range_holds-so}
use Rattle.sat_core.proofs.Valued.{stand-of, valued, no_atom}
use Rattle.sat_core.specs.Answers.{AreRowsOf, IsEasy, IsModelOf, IsStopped, IsTooLong, IsTooLarge}
use Rattle.sat_core.specs.declared.state.SearchState.{SearchState}
use Rattle.sat_core.specs.Searching.{Aim, Keeps, InSearch, InChain, IsRowAssignment, IsLevel, IsAnalyzed, IsLearned, IsBefore}
use Rattle.sat_core.specs.declared.analyzing.Analyzed.{Analyzed}
use Rattle.sat_core.specs.declared.analyzing.Analyzed.TheVariants.{Empty, Cut, BudgetExhausted as ExhaustedThere, Memory as NoMemory}
use Rattle.sat_core.proofs.Resolving.{state-so, moved_start}
use Rattle.sat_core.proofs.Backjumps.{backjump-from, before-either}
use Rattle.sat_core.proofs.Keeping.{keeps_clause, keeps_row, clause-below, short_of}
use Rattle.sat_core.proofs.Ends.{settled_unrefuted, settled_full, searched-so}

-- What follows from an answer of the solver of rows.

pub none_false : (cs : List (List Lit)) (t : List Entry) → Settled t cs → NoneFalse t cs
none_false cs t s = λ k l. not-true (is_false t (get_or cs k [])) (and_parts (not (is_false t (get_or cs k []))) _ (s k l)).0

-- ROWS OF A TRAIL.

pub rows_at-are_rows : (rows : List Row) (used : List ℕ) → list_all is_row rows ≡ true → list_all is_row (rows_at rows used) ≡ true
rows_at-are_rows rows [] h = refl
rows_at-are_rows rows (u ∷ used) h = and_from (is_row (row_at rows u)) (list_all is_row (rows_at rows used)) (row_at-is_row rows u h) (rows_at-are_rows rows used h)

map-push : (atoms : List AtomKind) (lits : List Lit) (rows : List Row) (l : Lit) (r : Row) → AreRowsOf atoms lits rows → lit_row atoms l ≡ Some r → AreRowsOf atoms (lits ++ l ∷ []) (rows ++ r ∷ [])
map-push atoms [] [] l r h e = λ i. e i ∷ []
map-push atoms [] (q ∷ rows) l r h e = absurd cc
map-push atoms (k ∷ lits) [] l r h e = absurd cc
map-push atoms (k ∷ lits) (q ∷ rows) l r h e =
    let a : lit_row atoms k ≡ Some q = cc in
    let b : AreRowsOf atoms lits rows = cc in
    λ i. a i ∷ map-push atoms lits rows l r b e i

any-push : (p : Lit → Bool) (lits : List Lit) (l : Lit) → list_any p (lits ++ l ∷ []) ≡ (list_any p lits || p l)
any-push p [] l = one (p l)
  where
    one : (b : Bool) → (b || false) ≡ (false || b)
    one b = grind arith
any-push p (k ∷ lits) l = ap (λ b. p k || b) (any-push p lits l) ∙ assoc (p k) (list_any p lits) (p l)
  where
    assoc : (a b c : Bool) → (a || (b || c)) ≡ ((a || b) || c)
    assoc a b c = grind arith

all-push : (p : Lit → Bool) (lits : List Lit) (l : Lit) → list_all p lits ≡ true → p l ≡ true → list_all p (lits ++ l ∷ []) ≡ true
all-push p [] l h k = and_from (p l) true k refl
all-push p (x ∷ lits) l h k = let b = and_parts (p x) (list_all p lits) h in and_from (p x) (list_all p (lits ++ l ∷ [])) b.0 (all-push p lits l b.1 k)

-- the literal of an atom that a trail has
held : (t : List Entry) (x : ℕ) (p : Bool) → is_assigned t x ≡ true → p ≡ in_trail t (lit_of x true) → in_trail t (lit_of x p) ≡ true
held t x true n e = sym e
held t x false n e = elim (assigned_one t x n) [ inl h ↦ absurd cc | inr h ↦ h ]

pub assignment-row : (atoms : List AtomKind) (t : List Entry) (x : ℕ) (lits : List Lit) (rows : List Row) (q r : Row) (p : Bool) → IsRowAssignment atoms t x lits rows → slice_get atoms x ≡ Some (OfRow q) → is_assigned t x ≡ true → p ≡ in_trail t (lit_of x true)
    → cond p (Some q) (negated q) ≡ Some r → IsRowAssignment atoms t (x + 1) (lits ++ lit_of x p ∷ []) (rows ++ r ∷ [])
assignment-row atoms t x lits rows q r p d k n e f = record {
  stand = map-push atoms lits rows (lit_of x p) r d.stand ((λ i. cond p (row_of_kind (k i)) (option_and_then negated (row_of_kind (k i)))) ∙ f);
  in_it = all-push (in_trail t) lits (lit_of x p) d.in_it (held t x p n e);
  covers = λ y s l g. any-push (λ z. z.atom == y) lits (lit_of x p) ∙ covered y s l g (before y x l);
}
  where
    before : (y x : ℕ) → y < x + 1 → (y < x) ⊎ (y ≡ x)
    before y x h = grind arith

    covered : (y : ℕ) (s : Row) → y < x + 1 → slice_get atoms y ≡ Some (OfRow s) → (y < x) ⊎ (y ≡ x) → (list_any (λ z. z.atom == y) lits || (x == y)) ≡ true
    covered y s l g (inl b) = or_left (list_any (λ z. z.atom == y) lits) (x == y) (d.covers y s b g)
    covered y s l g (inr b) = or_right (list_any (λ z. z.atom == y) lits) (x == y) (subst (λ (z : ℕ). (x == z) ≡ true) (sym b) (same_nat-refl x))

pub assignment-plain : (atoms : List AtomKind) (t : List Entry) (x : ℕ) (lits : List Lit) (rows : List Row) → IsRowAssignment atoms t x lits rows → slice_get atoms x ≡ Some Plain → IsRowAssignment atoms t (x + 1) lits rows
assignment-plain atoms t x lits rows d k = record { stand = d.stand; in_it = d.in_it; covers = λ y s l g. covered y s g (before y x l) }
  where
    before : (y x : ℕ) → y < x + 1 → (y < x) ⊎ (y ≡ x)
    before y x h = grind arith

    covered : (y : ℕ) (s : Row) → slice_get atoms y ≡ Some (OfRow s) → (y < x) ⊎ (y ≡ x) → list_any (λ z. z.atom == y) lits ≡ true
    covered y s g (inl b) = d.covers y s b g
    covered y s g (inr b) = absurd (let e = ap (slice_get atoms) b in cc)

-- the places of the rows of a trail
places-negated : (n : ℕ) (q r : Row) → negated q ≡ Some r → places_below n q ≡ true → places_below n r ≡ true
places-negated n q r h p = by_fit (fit (pos 0 -ℤ q.bound -ℤ pos 1)) h
  where
    same : (ts : List RowTerm) → list_all (λ t. nat_lt t.place n) ts ≡ true → list_all (λ t. nat_lt t.place n) (map opposite ts) ≡ true
    same [] p = refl
    same (t ∷ ts) p = let b = and_parts (nat_lt t.place n) (list_all (λ t. nat_lt t.place n) ts) p in and_from (nat_lt t.place n) (list_all (λ t. nat_lt t.place n) (map opposite ts)) b.0 (same ts b.1)

    by_fit : (o : Option ℤ) → option_map (λ b. record { terms = map opposite q.terms; bound = b }) o ≡ Some r → places_below n r ≡ true
    by_fit (Some b) h = let e : map opposite q.terms ≡ r.terms = cc in subst (λ (ts : List RowTerm). list_all (λ t. nat_lt t.place n) ts ≡ true) e (same q.terms p)
    by_fit None h = absurd cc

row-below : (n : ℕ) (atoms : List AtomKind) (x : ℕ) (r : Row) → list_all (names_below n) atoms ≡ true → atom_row atoms x ≡ Some r → places_below n r ≡ true
row-below n [] x r p h = absurd cc
row-below n (Plain ∷ atoms) zero r p h = absurd cc
row-below n (OfRow q ∷ atoms) zero r p h = let e : q ≡ r = cc in subst (λ (z : Row). places_below n z ≡ true) e (and_parts (places_below n q) (list_all (names_below n) atoms) p).0
row-below n (k ∷ atoms) (suc x) r p h = row-below n atoms x r (and_parts (names_below n k) (list_all (names_below n) atoms) p).1 h

pub stand-places : (n : ℕ) (atoms : List AtomKind) (lits : List Lit) (rows : List Row) → list_all (names_below n) atoms ≡ true → Stand atoms lits rows → all_below n rows ≡ true
stand-places n atoms [] [] p s = refl
stand-places n atoms [] (r ∷ rows) p s = absurd s
stand-places n atoms (l ∷ lits) [] p s = absurd s
stand-places n atoms (l ∷ lits) (r ∷ rows) p s = and_from (places_below n r) (all_below n rows) (by_sign l.positive s.0) (stand-places n atoms lits rows p s.1)
  where
    by_row : (o : Option Row) → atom_row atoms l.atom ≡ o → option_and_then negated o ≡ Some r → places_below n r ≡ true
    by_row (Some q) e h = places-negated n q r h (row-below n atoms l.atom q p e)
    by_row None e h = absurd cc

    by_sign : (b : Bool) → cond b (atom_row atoms l.atom) (option_and_then negated (atom_row atoms l.atom)) ≡ Some r → places_below n r ≡ true
    by_sign true h = row-below n atoms l.atom r p h
    by_sign false h = by_row (atom_row atoms l.atom) refl h

-- plain atoms have no rows, so nothing is said of rows
pub stand-plain : (atoms : List AtomKind) (lits : List Lit) (rows : List Row) (used : List ℕ) → are_plain atoms ≡ true → Stand atoms lits rows → are_given rows used ≡ true → ⊥
stand-plain atoms lits rows used p s g = by_rows lits rows s g
  where
    no_row : (atoms : List AtomKind) (x : ℕ) → are_plain atoms ≡ true → atom_row atoms x ≡ None
    no_row [] x p = refl
    no_row (Plain ∷ atoms) zero p = refl
    no_row (OfRow q ∷ atoms) zero p = absurd cc
    no_row (k ∷ atoms) (suc x) p = no_row atoms x (and_parts (is_plain k) (are_plain atoms) p).1

    no_lit : (l : Lit) (r : Row) → lit_row atoms l ≡ Some r → ⊥
    no_lit l r h = by_sign l.positive (no_row atoms l.atom p) h
      where
        by_sign : (b : Bool) → atom_row atoms l.atom ≡ None → cond b (atom_row atoms l.atom) (option_and_then negated (atom_row atoms l.atom)) ≡ Some r → ⊥
        by_sign true e h = absurd cc
        by_sign false e h = absurd (let k = ap (option_and_then negated) e in cc)

    none_given : (used : List ℕ) → are_given [] used ≡ true → ⊥
    none_given [] g = absurd cc
    none_given (u ∷ used) g = absurd (let b = and_parts (nat_lt u 0) (list_all (λ u. nat_lt u 0) used) g in let l = ltb-true u 0 b.0 in omega arith)

    by_rows : (lits : List Lit) (rows : List Row) → Stand atoms lits rows → are_given rows used ≡ true → ⊥
    by_rows [] [] s g = none_given used g
    by_rows [] (r ∷ rows) s g = absurd s
    by_rows (l ∷ lits) [] s g = absurd s
    by_rows (l ∷ lits) (r ∷ rows) s g = no_lit l r s.0

pub no_plain : (a : Aim) (budget : ℕ) (q : PlainProblem) (ls : List Line) (lits : List Lit) (rows : List Row) (used : List ℕ) → Keeps a budget q ls → Stand q.atoms lits rows → are_given rows used ≡ true → are_plain a.problem.atoms ≡ true → ⊥
no_plain a budget q ls lits rows used k s g p = stand-plain q.atoms lits rows used (subst (λ (z : List AtomKind). are_plain z ≡ true) (sym (k.plain p)) p) s g

stand-length : (atoms : List AtomKind) (lits : List Lit) (rows : List Row) → Stand atoms lits rows → length lits ≡ length rows
stand-length atoms [] [] s = refl
stand-length atoms [] (r ∷ rows) s = absurd s
stand-length atoms (l ∷ lits) [] s = absurd s
stand-length atoms (l ∷ lits) (r ∷ rows) s = ap suc (stand-length atoms lits rows s.1)

pub given-lits : (atoms : List AtomKind) (lits : List Lit) (rows : List Row) (used : List ℕ) → Stand atoms lits rows → are_given rows used ≡ true → list_all (λ u. nat_lt u (length lits)) used ≡ true
given-lits atoms lits rows used s g = subst (λ (n : ℕ). list_all (λ u. nat_lt u n) used ≡ true) (sym (stand-length atoms lits rows s)) (and_parts (is_some_row used) (list_all (λ u. nat_lt u (length rows)) used) g).1

pub picked-in : (t : List Entry) (lits : List Lit) (used : List ℕ) → list_all (in_trail t) lits ≡ true → list_all (λ u. nat_lt u (length lits)) used ≡ true → list_all (in_trail t) (map (lit_at lits) used) ≡ true
picked-in t lits [] h g = refl
picked-in t lits (u ∷ used) h g =
    let b = and_parts (nat_lt u (length lits)) (list_all (λ u. nat_lt u (length lits)) used) g in
    and_from (in_trail t (lit_at lits u)) (list_all (in_trail t) (map (lit_at lits) used)) (one lits u h (ltb-true u (length lits) b.0)) (picked-in t lits used h b.1)
  where
    one : (lits : List Lit) (u : ℕ) → list_all (in_trail t) lits ≡ true → u < length lits → in_trail t (lit_at lits u) ≡ true
    one [] u h l = absurd (omega arith)
    one (k ∷ lits) zero h l = (and_parts (in_trail t k) (list_all (in_trail t) lits) h).0
    one (k ∷ lits) (suc u) h l = one lits u (and_parts (in_trail t k) (list_all (in_trail t) lits) h).1 (omega arith)

-- CONFLICT.

fresh-more : (first : ℕ) (cs : List (List Lit)) (c : List Lit) → IsFresh first cs → ((j : ℕ) → j < length cs → sub (get_or cs j []) c ≡ false) → ((l : Lit) → has c l ≡ true → has c (flip l) ≡ false) → IsFresh first (cs ++ c ∷ [])
fresh-more first cs c f n w = record {
  new = λ k a l j b. elim (old_or_new cs c k l) [
    | inl m ↦ subst (λ (z : List Lit). sub (get_or (cs ++ c ∷ []) j []) z ≡ false) (sym (at_old cs c k m)) (subst (λ (z : List Lit). sub z (get_or cs k []) ≡ false) (sym (at_old cs c j (omega arith))) (f.new k a m j b))
    | inr m ↦ (let g : j < length cs = omega arith in
        subst (λ (z : ℕ). sub (get_or (cs ++ c ∷ []) j []) (get_or (cs ++ c ∷ []) z []) ≡ false) (sym m)
        (subst (λ (z : List Lit). sub (get_or (cs ++ c ∷ []) j []) z ≡ false) (sym (at_new cs c))
        (subst (λ (z : List Lit). sub z c ≡ false) (sym (at_old cs c j g)) (n j g))))
  ];
  one_way = λ k a l q. elim (old_or_new cs c k l) [
    | inl m ↦ subst (λ (z : List Lit). has z q ≡ true → has z (flip q) ≡ false) (sym (at_old cs c k m)) (f.one_way k a m q)
    | inr m ↦ subst (λ (j : ℕ). has (get_or (cs ++ c ∷ []) j []) q ≡ true → has (get_or (cs ++ c ∷ []) j []) (flip q) ≡ false) (sym m)
        (subst (λ (z : List Lit). has z q ≡ true → has z (flip q) ≡ false) (sym (at_new cs c)) (w q))
  ];
}

pub farkas_begins : (a : Aim) (budget : ℕ) (s : SearchState) (used : List Lit) (steps : List RowStep) (u : List Entry) → InSearch a budget s → Settled s.trail s.grown.clauses → list_all (in_trail s.trail) used ≡ true
    → ((given : ℕ) → next (standing given s.grown) (Farkas used steps) ≡ Ok (standing given (with_clause s.grown (negations used)))) → (IsEasy a.problem → ⊥) → IsLevel s.trail u (negations used) → length s.log < budget → length s.grown.clauses + 1 < 2 ^ 32
    → (y : InChain a budget (length s.log) (record { grown = with_clause s.grown (negations used); trail = u; log = s.log ++ Farkas used steps ∷ [] }) (length s.grown.clauses)) × (y.start ≡ s.grown.clauses)
farkas_begins a budget s used steps u x w i taken uneasy level room few =
    let f = false-negations s.trail used i in
    let b = level s.grown.clauses x.trail w f in
    let n : length (s.log ++ Farkas used steps ∷ []) ≡ length s.log + 1 = length-append s.log (Farkas used steps ∷ []) in (
      record {
        keeps = keeps_clause a budget s.grown s.log (Farkas used steps) (negations used) x.keeps room refl (taken (length a.problem.clauses))
            (fresh-more (length a.problem.clauses) s.grown.clauses (negations used) x.keeps.fresh (theory_fresh s.grown.clauses u (negations used) b.0) (theory_one_way s.grown.clauses u (negations used) b.0))
            (false-below (length s.grown.atoms) s.trail (negations used) f x.below) few;
        start = s.grown.clauses;
        from = u;
        ex = begin_theory s.grown.clauses u (negations used) b.0 (distinct-negations used);
        below = λ k h. x.below k (b.1 k h);
        search = subst (λ (c : List Lit). SearchLog a.problem (s.log ++ Farkas used steps ∷ []) (with_clause s.grown (negations used)) (within s.grown.clauses u c)) (sym (at_new s.grown.clauses (negations used))) (farkas x.search u (b.0.trail, b.0.settled) used steps b.0.now);
        since = omega (arith, n);
        grew = λ _. omega (arith, n);
        early = λ r. absurd (settled_unrefuted a budget s x w (none_false s.grown.clauses s.trail w) r);
        uneasy = uneasy;
      },
      refl,
    )

-- MODEL.

open_true : (cs : List (List Lit)) (t : List Entry) (l : Lit) (v : Bool) → IsTrail cs t → is_assigned t l.atom ≡ true → opposed t l ≡ false → v ≡ in_trail t (lit_of l.atom true) → same_bool v l.positive ≡ true
open_true cs t l v w n o e = ap (λ b. same_bool b l.positive) e ∙ by_sign l.atom l.positive n o
  where
    by_sign : (x : ℕ) (b : Bool) → is_assigned t x ≡ true → opposed t (lit_of x b) ≡ false → same_bool (in_trail t (lit_of x true)) b ≡ true
    by_sign x true n o = elim (assigned_one t x n) [ inl h ↦ ap (λ z. same_bool z true) h | inr h ↦ absurd cc ]
    by_sign x false n o = ap (λ z. same_bool z false) o

module _ (a : Aim) (budget : ℕ) (s : SearchState) (lits : List Lit) (rows : List Row) (truths : List Bool) (values : List ℤ) (f : fits a.problem ≡ true) (x : InSearch a budget s) (w : Settled s.trail s.grown.clauses) (n : (y : ℕ) → y < length s.grown.atoms → is_assigned s.trail y ≡ true) (d : IsRowAssignment s.grown.atoms s.trail (length s.grown.atoms) lits rows) (m : IsModel s.grown.ints rows values) (many : length truths ≡ length a.problem.atoms) (each : (y : ℕ) → y < length a.problem.atoms → get_or truths y false ≡ in_trail s.trail (lit_of y true)) where
  meaning : Meaning
  meaning = meaning_of (record { truths = truths; ints = values })

  value : (y : ℕ) → y < length a.problem.atoms → atom_true meaning a.problem.atoms y ≡ in_trail s.trail (lit_of y true)
  unfolding meaning
  value y l = by_kind (slice_get a.problem.atoms y) refl
    where
      by_kind : (o : Option AtomKind) → slice_get a.problem.atoms y ≡ o → kind_true meaning y o ≡ in_trail s.trail (lit_of y true)
      by_kind (Some Plain) e = each y l
      by_kind (Some (OfRow r)) e =
          let k : slice_get s.grown.atoms y ≡ Some (OfRow r) = x.keeps.atoms y l ∙ e in
          valued (point_of values) s.grown.clauses s.trail s.grown.atoms lits rows y r x.trail (stand-of s.grown.atoms lits rows d.stand) d.in_it m.satisfies (ap row_of_kind k) (d.covers y r (slice_get_within s.grown.atoms y (OfRow r) k) k)
      by_kind None e = absurd (let g = slice_get-get_or a.problem.atoms y Plain l in cc)

  clause_so : (k : ℕ) → k < length a.problem.clauses → clause_true (atom_true meaning a.problem.atoms) (get_or a.problem.clauses k []) ≡ true
  clause_so k l =
      let g : k < length s.grown.clauses = (let o = x.keeps.first.long in omega arith) in
      let h : is_false s.trail (get_or a.problem.clauses k []) ≡ false = subst (λ (c : List Lit). is_false s.trail c ≡ false) (x.keeps.first.same k l) (none_false s.grown.clauses s.trail w k g) in
      let o = some_open s.trail (get_or a.problem.clauses k []) h in
      let b = clause-below a.problem f k o.0 l o.1 in
      let c = x.keeps.atom_count in
      true_by (atom_true meaning a.problem.atoms) (get_or a.problem.clauses k []) o.0 o.1
      (open_true s.grown.clauses s.trail o.0 (atom_true meaning a.problem.atoms o.0.atom) x.trail (n o.0.atom (omega arith)) o.2 (value o.0.atom b))

  all_so : (cs : List (List Lit)) → ((k : ℕ) → k < length cs → clause_true (atom_true meaning a.problem.atoms) (get_or cs k []) ≡ true) → all_true (atom_true meaning a.problem.atoms) cs ≡ true
  all_so [] h = refl
  all_so (c ∷ cs) h = and_from (clause_true (atom_true meaning a.problem.atoms) c) (all_true (atom_true meaning a.problem.atoms) cs) (h zero (omega arith)) (all_so cs (λ k l. h (suc k) (omega arith)))

  pub model_of : IsModelOf a.problem (record { truths = truths; ints = values })
  unfolding meaning
  model_of = record {
    truths = many;
    ints = m.whole ∙ x.keeps.ints;
    in_range = m.in_range;
    makes_true = all_so a.problem.clauses clause_so;
    atoms_true = λ y l. value y l ∙ sym (each y l);
    unrefuted = λ r. settled_unrefuted a budget s x w (none_false s.grown.clauses s.trail w) r;
  }

-- SPLIT, ROWS, RANGE.

module _ (a : Aim) (budget : ℕ) (s : SearchState) (lits : List Lit) (rows : List Row) (used : List ℕ) (x : InSearch a budget s) (w : Settled s.trail s.grown.clauses) (d : IsRowAssignment s.grown.atoms s.trail (length s.grown.atoms) lits rows) (g : are_given rows used ≡ true) where
  stand : Stand s.grown.atoms lits rows
  stand = stand-of s.grown.atoms lits rows d.stand

  pub uneasy_given : IsEasy a.problem → ⊥
  uneasy_given e = no_plain a budget s.grown s.log lits rows used x.keeps stand g e.0

  pub picked_in : list_all (in_trail s.trail) (map (lit_at lits) used) ≡ true
  picked_in = picked-in s.trail lits used d.in_it (given-lits s.grown.atoms lits rows used stand g)

  one_way : holds_both_ways (map (lit_at lits) used) ≡ false
  one_way = trail_one_way s.grown.clauses s.trail (map (lit_at lits) used) x.trail picked_in

  pub search_splits : (place : ℕ) (at : ℤ) (steps : List RowStep) (low high : ℕ) (values : List ℤ) → IsSplit s.grown.ints rows place at used steps low high values → (a.split ≡ false → ⊥) → length s.log < budget → length s.grown.atoms + 1 < 2 ^ 32
      → InSearch a budget (record { grown = with_row s.grown (at_most place at); trail = s.trail; log = s.log ++ Split place at (map (lit_at lits) used) steps low high values ∷ [] })
  search_splits place at steps low high values c no_split room few =
      let none = no_atom s.grown.atoms lits rows place at stand (λ y r k. d.covers y r (slice_get_within s.grown.atoms y (OfRow r) k) k) c.unsettled in
      let taken = split_taken (length a.problem.clauses) s.grown lits rows place at used steps low high values stand c none in
      let m : length (s.grown.atoms ++ OfRow (at_most place at) ∷ []) ≡ length s.grown.atoms + 1 = length-append s.grown.atoms (OfRow (at_most place at) ∷ []) in
      record {
        keeps = keeps_row a budget s.grown s.log (Split place at (map (lit_at lits) used) steps low high values) (at_most place at) x.keeps room refl taken no_split (no_plain a budget s.grown s.log lits rows used x.keeps stand g)
            (and_from (nat_lt place s.grown.ints) true (lt-ltb place s.grown.ints c.place_below) refl) few;
        trail = x.trail;
        calm = x.calm;
        below = λ k h. (let b = x.below k h in omega (arith, m, b));
        search = split x.search s.trail (x.trail, w) place at (map (lit_at lits) used) steps low high values c.held
            (record { in_it = picked_in; held_is = picked-line s.grown lits rows used steps stand g ∙ c.held_is; eliminated = c.eliminated }) c.chosen;
        early = λ r. absurd (settled_unrefuted a budget s x w (none_false s.grown.clauses s.trail w) r);
        easy = λ e. absurd (uneasy_given e);
      }

  searched : IsSearched a.problem s.log s.grown
  searched = searched-so a budget s.grown s.log between x.keeps x.search (settled_full s.trail s.grown.clauses (none_false s.grown.clauses s.trail w))

  stopped : (steps : List RowStep) (what : Option RangeWhat) (held : List Row) → AreHeldRows s.grown.atoms s.trail (map (lit_at lits) used) steps what held → IsStopped a.split a.problem budget s.log (map (lit_at lits) used) steps what held
  stopped steps what held met = record {
    within = x.keeps.room;
    makes = s.grown;
    searched = searched;
    trail = s.trail;
    settled = (x.trail, w);
    met = met;
    short = short_of a budget s.grown s.log x.keeps;
    uneasy = uneasy_given;
    unrefuted = λ r. settled_unrefuted a budget s x w (none_false s.grown.clauses s.trail w) r;
  }

  pub too_long : (steps : List RowStep) → IsTooMany rows used steps → IsTooLong a.split a.problem budget (record { log = s.log; used = map (lit_at lits) used; steps = steps })
  too_long steps c =
      let ended = stopped steps None c.held (record { in_it = picked_in; held_is = picked-line s.grown lits rows used steps stand g ∙ c.held_is; eliminated = c.eliminated }) in
      record {
        judged = rows_judged-so a.problem (record { log = s.log; used = map (lit_at lits) used; steps = steps }) (standing (length a.problem.clauses) s.grown) x.keeps.runs searched.fresh (rows_hold-so (length a.problem.clauses) s.grown lits rows used steps stand c one_way);
        held = c.held;
        stopped = ended;
      }

  pub too_large : (steps : List RowStep) (what : RangeWhat) → IsBeyond rows used steps what → IsTooLarge a.split a.problem budget (record { log = s.log; used = map (lit_at lits) used; steps = steps; what = what })
  too_large steps what c =
      let ended = stopped steps (Some what) c.held (record { in_it = picked_in; held_is = picked-line s.grown lits rows used steps stand g ∙ c.held_is; eliminated = c.eliminated }) in
      record {
        judged = range_judged-so a.problem (record { log = s.log; used = map (lit_at lits) used; steps = steps; what = what }) (standing (length a.problem.clauses) s.grown) x.keeps.runs searched.fresh (range_holds-so (length a.problem.clauses) s.grown lits rows used steps what stand c one_way);
        held = c.held;
        stopped = ended;
        chosen = c.chosen;
      }

pub refute_chain : (a : Aim) (budget : ℕ) (s : SearchState) (used : List Lit) (steps : List RowStep) (r : SearchState) (n : ℕ) → InSearch a budget s → Settled s.trail s.grown.clauses → list_all (in_trail s.trail) used ≡ true
    → ((given : ℕ) → next (standing given s.grown) (Farkas used steps) ≡ Ok (standing given (with_clause s.grown (negations used)))) → (IsEasy a.problem → ⊥) → length s.log < budget
    → (n ≡ length s.grown.clauses) × (r.grown ≡ with_clause s.grown (negations used)) × (r.log ≡ s.log ++ Farkas used steps ∷ []) × (length r.grown.clauses < 2 ^ 32) × IsLevel s.trail r.trail (negations used) → (y : InChain a budget (length s.log) r n) × (y.start ≡ s.grown.clauses)
refute_chain a budget s used steps r n x w i taken uneasy room o =
    let m = longer s.grown.clauses (negations used) in
    let k : length (s.grown.clauses ++ negations used ∷ []) < 2 ^ 32 = subst (λ (z : PlainProblem). length z.clauses < 2 ^ 32) o.1 o.3 in
    moved_start a budget (length s.log) s.grown.clauses (record { grown = with_clause s.grown (negations used); trail = r.trail; log = s.log ++ Farkas used steps ∷ [] }) r (length s.grown.clauses) n
    (farkas_begins a budget s used steps r.trail x w i taken uneasy o.4 room (omega (arith, m, k))) (sym (state-so r _ r.trail _ o.1 refl o.2)) (sym o.0)

-- what the analysis from that chain came to
pub learned-so : (e : Analyzed) (budget : ℕ) (s m : SearchState) (n : ℕ) (r : SearchState)
    → ((a : Aim) → InSearch a budget s → (y : InChain a budget (length s.log) m n) × (y.start ≡ s.grown.clauses)) → (IsTrail s.grown.clauses s.trail → (m.trail ≡ s.trail) ⊎ IsBefore m.trail s.trail) → IsAnalyzed e budget m n r → IsLearned e budget s r
learned-so Empty budget s m n r f b h = λ a x. h a (length s.log) (f a x).0
learned-so Cut budget s m n r f b h = λ a x.
    let y = f a x in
    let z = h a (length s.log) y.0 in
    (z.0, z.1, backjump-from y.0.start s.grown.clauses m.trail s.trail r.grown.clauses r.trail y.1 (before-either r.trail m.trail s.trail (b x.trail)) z.2)
learned-so ExhaustedThere budget s m n r f b h = λ a x. h a (length s.log) (f a x).0
learned-so NoMemory budget s m n r f b h = tt
