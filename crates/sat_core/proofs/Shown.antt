use Rattle.std.proofs.Common.{◌≡◌, ℕ, zero, suc, ◌+◌, ◌<◌, ◌≤◌, ◌==◌, Bool, true, false, not, cond, ◌&&◌, List, [], ◌∷◌, ◌++◌, length, map, take, drop, get_or, refl, sym, ◌∙◌, ap, subst, arith, Some, Result, Ok, Err, is_some, nat_lt, ◌-◌}
use Rattle.std.specs.List.{list_any, list_all}
use Rattle.std.proofs.Math.Seq.{take-suc, drop-cons}
use Rattle.std.proofs.lemmas.Bool.Decides.{Decides-eqb}
use Rattle.lin_rows.specs.Rows.{Row}
use Rattle.proof_lines.specs.declared.clause.Lit.{Lit}
use Rattle.proof_lines.specs.declared.line.RowStep.{RowStep}
use Rattle.proof_lines.specs.declared.line.RangeWhat.{RangeWhat}
use Rattle.proof_lines.specs.declared.line.Line.{Line}
use Rattle.proof_lines.specs.declared.line.Why.{Why}
use Rattle.proof_lines.specs.declared.line.Why.TheVariants.{Evidence}
use Rattle.proof_lines.specs.declared.line.RowsEvidence.{RowsEvidence}
use Rattle.proof_lines.specs.declared.line.RangeEvidence.{RangeEvidence}
use Rattle.proof_lines.specs.Clauses.{has, sub, flip, negations, is_empty, holds_both_ways, distinct}
use Rattle.proof_lines.specs.Problems.{PlainProblem, atoms_below}
use Rattle.line_rows.specs.Steps.{line_rows}
use Rattle.log_freshness.specs.Freshness.{live_of, is_new, each_new}
use Rattle.proof_kernel.specs.Rules.{State, run}
use Rattle.proof_kernel.specs.Evidence.{is_fresh, rows_hold, range_holds}
use Rattle.line_rows.specs.Evidence.{rows_shown, range_shown}
use Rattle.proof_kernel.specs.Answers.{judged, lines_judged, rows_judged, range_judged}
use Rattle.std.proofs.lemmas.Bool.{and_parts, and_from, lt-ltb, false_from_ne_true}
use Rattle.proof_lines.proofs.Sets.{flip_twice, distinct-join}
use Rattle.line_rows.proofs.Names.{all-join}
use Rattle.proof_kernel.proofs.States.{live_of-map}
use Rattle.theory_api.specs.Laws.{IsTooMany, IsBeyond}
use Rattle.theory_api.proofs.Standing.{Stand, lit_at}
use Rattle.sat_core.specs.declared.trail.Entry.{Entry}
use Rattle.sat_core.specs.Trails.{in_trail, negated, is_assigned, is_false, IsTrail}
use Rattle.sat_core.specs.Fresh.{IsFresh}
use Rattle.sat_core.specs.SearchLogs.{standing, is_split, splits}
use Rattle.sat_core.proofs.Trails.{has_all, all_has, any_has, in_assigned, one-way}
use Rattle.sat_core.proofs.Taken.{picked-line}

-- What a log of a search shows: it is fresh, and its evidence is that of the proof kernel.

-- the clauses of a standing problem
live_take : (g : ℕ) (cs : List (List Lit)) → live_of (take g (map (λ c. Some c) cs)) ≡ take g cs
live_take zero [] = refl
live_take zero (c ∷ cs) = refl
live_take (suc g) [] = refl
live_take (suc g) (c ∷ cs) = ap (λ (z : List (List Lit)). c ∷ z) (live_take g cs)

live_drop : (g : ℕ) (cs : List (List Lit)) → live_of (drop g (map (λ c. Some c) cs)) ≡ drop g cs
live_drop zero [] = refl
live_drop zero (c ∷ cs) = ap (λ (z : List (List Lit)). c ∷ z) (live_of-map cs)
live_drop (suc g) [] = refl
live_drop (suc g) (c ∷ cs) = live_drop g cs

all_some : (cs : List (List Lit)) → list_all (λ o. is_some o) (map (λ (c : List Lit). Some c) cs) ≡ true
all_some [] = refl
all_some (c ∷ cs) = all_some cs

any_take : (p : List Lit → Bool) (cs : List (List Lit)) (k : ℕ) → ((j : ℕ) → j < k → j < length cs → p (get_or cs j []) ≡ false) → list_any p (take k cs) ≡ false
any_take p [] zero f = refl
any_take p [] (suc k) f = refl
any_take p (c ∷ cs) zero f = refl
any_take p (c ∷ cs) (suc k) f = let a = f zero (omega arith) (omega arith) in let b = any_take p cs k (λ j l m. f (suc j) (omega arith) (omega arith)) in grind arith

drop_past : (g : ℕ) (cs : List (List Lit)) → length cs ≤ g → drop g cs ≡ []
drop_past zero [] h = refl
drop_past zero (c ∷ cs) h = absurd (omega arith)
drop_past (suc g) [] h = refl
drop_past (suc g) (c ∷ cs) h = drop_past g cs (omega arith)

each_new-all : (n g : ℕ) (cs : List (List Lit)) → g + n ≡ length cs → ((k : ℕ) → g ≤ k → k < length cs → is_new (take k cs) (get_or cs k []) ≡ true) → each_new (take g cs) (drop g cs) ≡ true
each_new-all zero g cs e f = subst (λ (z : List (List Lit)). each_new (take g cs) z ≡ true) (sym (drop_past g cs (omega arith))) refl
each_new-all (suc n) g cs e f =
    let l : g < length cs = omega arith in
    let rest = each_new-all n (suc g) cs (omega arith) (λ k h m. f k (omega arith) m) in
    let after = subst (λ (z : List (List Lit)). each_new z (drop (suc g) cs) ≡ true) (take-suc cs g [] l) rest in
    subst (λ (z : List (List Lit)). each_new (take g cs) z ≡ true) (sym (drop-cons cs g [] l))
    (and_from (is_new (take g cs) (get_or cs g [])) (each_new (take g cs ++ get_or cs g [] ∷ []) (drop (suc g) cs)) (f g (omega arith) l) after)

one_way-clause : (c : List Lit) → ((l : Lit) → has c l ≡ true → has c (flip l) ≡ false) → holds_both_ways c ≡ false
one_way-clause c f = false_from_ne_true (holds_both_ways c) (λ h. (let r = any_has (λ l. has c (flip l)) c h in let g = f r.0 r.1 in let k = r.2 in absurd cc))

-- a fresh log by the proof kernel's test
pub standing-fresh : (first : ℕ) (q : PlainProblem) → first ≤ length q.clauses → IsFresh first q.clauses → ((k : ℕ) → first ≤ k → k < length q.clauses → is_empty (get_or q.clauses k []) ≡ false) → is_fresh (standing first q) ≡ true
standing-fresh first q l f n =
    and_from (list_all (λ o. is_some o) (standing first q).slots) (each_new (live_of (take first (standing first q).slots)) (live_of (drop first (standing first q).slots)))
    (all_some q.clauses)
    (subst (λ (z : List (List Lit)). each_new z (live_of (drop first (standing first q).slots)) ≡ true) (sym (live_take first q.clauses))
    (subst (λ (z : List (List Lit)). each_new (take first q.clauses) z ≡ true) (sym (live_drop first q.clauses)) all))
  where
    is_new-at : (k : ℕ) → first ≤ k → k < length q.clauses → is_new (take k q.clauses) (get_or q.clauses k []) ≡ true
    is_new-at k a b =
        let x = any_take (λ d. sub d (get_or q.clauses k [])) q.clauses k (λ j m o. f.new k a b j m) in
        let y = one_way-clause (get_or q.clauses k []) (f.one_way k a b) in
        let z = n k a b in
        λ i. not (x i) && (not (y i) && not (z i))

    size : (n : ℕ) × (first + n ≡ length q.clauses)
    size = (length q.clauses - first, omega arith)

    all : each_new (take first q.clauses) (drop first q.clauses) ≡ true
    all = each_new-all size.0 first q.clauses size.1 is_new-at

-- the clause of the opposites of literals of a trail is false
pub false-negations : (t : List Entry) (used : List Lit) → list_all (in_trail t) used ≡ true → is_false t (negations used) ≡ true
false-negations t used h = all-join (negated t) [] (map flip used) refl (flipped used h)
  where
    flipped : (used : List Lit) → list_all (in_trail t) used ≡ true → list_all (negated t) (map flip used) ≡ true
    flipped [] h = refl
    flipped (l ∷ used) h =
        let b = and_parts (in_trail t l) (list_all (in_trail t) used) h in
        and_from (in_trail t (flip (flip l))) (list_all (negated t) (map flip used)) (subst (λ (z : Lit). in_trail t z ≡ true) (sym (flip_twice l)) b.0) (flipped used b.1)

pub distinct-negations : (used : List Lit) → distinct (negations used) ≡ true
distinct-negations used = distinct-join [] (map flip used) refl

-- the atoms of a false clause are assigned
pub false-below : (n : ℕ) (t : List Entry) (c : List Lit) → is_false t c ≡ true → ((x : ℕ) → is_assigned t x ≡ true → x < n) → atoms_below n c ≡ true
false-below n t c f b = has_all (λ l. nat_lt l.atom n) c (λ l h. lt-ltb l.atom n (b l.atom (in_assigned t (flip l) (all_has (negated t) c l f h))))

-- literals of a trail don't stand in it both ways
pub trail_one_way : (cs : List (List Lit)) (t : List Entry) (used : List Lit) → IsTrail cs t → list_all (in_trail t) used ≡ true → holds_both_ways used ≡ false
trail_one_way cs t used w h = one_way-clause used (λ l k. false_from_ne_true (has used (flip l)) (λ m. (let a = one-way cs t l w (all_has (in_trail t) used l h k) in let b = all_has (in_trail t) used (flip l) h m in absurd cc)))

pub splits-push : (ls : List Line) (l : Line) (b : Bool) → is_split l ≡ b → splits (ls ++ l ∷ []) ≡ cond b (1 + splits ls) (splits ls)
splits-push [] l b h = λ i. cond (h i) 1 0
splits-push (x ∷ ls) l b h = by_case (is_split x) b (splits-push ls l b h)
  where
    by_case : (x b : Bool) → splits (ls ++ l ∷ []) ≡ cond b (1 + splits ls) (splits ls) → cond x (1 + splits (ls ++ l ∷ [])) (splits (ls ++ l ∷ [])) ≡ cond b (1 + cond x (1 + splits ls) (splits ls)) (cond x (1 + splits ls) (splits ls))
    by_case true true e = omega (arith, e)
    by_case true false e = omega (arith, e)
    by_case false true e = e
    by_case false false e = e

-- evidence of a run
judged-so : (test : State → Bool) (lines : List Line) (o : Result State (ℕ × Why)) (s : State) → o ≡ Ok s → test s ≡ true → judged test lines o ≡ Ok tt
judged-so test lines o s e h = ap (judged test lines) e ∙ (λ i. cond (h i) (Ok tt) (Err (length lines, Evidence)))

pub lines_judged-so : (p : PlainProblem) (log : List Line) (budget : ℕ) (s : State) → run p log ≡ Ok s → length log ≡ budget → is_fresh s ≡ true → lines_judged p log budget ≡ Ok tt
lines_judged-so p log budget s e l f = judged-so (λ z. (length log == budget) && is_fresh z) log (run p log) s e (and_from (length log == budget) (is_fresh s) ((Decides-eqb (length log) budget).1 l) f)

pub rows_judged-so : (p : PlainProblem) (e : RowsEvidence) (s : State) → run p e.log ≡ Ok s → is_fresh s ≡ true → rows_hold s e.used e.steps ≡ true → rows_judged p e ≡ Ok tt
rows_judged-so p e s r f h = judged-so (λ z. is_fresh z && rows_hold z e.used e.steps) e.log (run p e.log) s r (and_from (is_fresh s) (rows_hold s e.used e.steps) f h)

pub range_judged-so : (p : PlainProblem) (e : RangeEvidence) (s : State) → run p e.log ≡ Ok s → is_fresh s ≡ true → range_holds s e.used e.steps e.what ≡ true → range_judged p e ≡ Ok tt
range_judged-so p e s r f h = judged-so (λ z. is_fresh z && range_holds z e.used e.steps e.what) e.log (run p e.log) s r (and_from (is_fresh s) (range_holds s e.used e.steps e.what) f h)

length-picked : (lits : List Lit) (used : List ℕ) → length (map (lit_at lits) used) ≡ length used
length-picked lits [] = refl
length-picked lits (u ∷ used) = ap suc (length-picked lits used)

pub rows_hold-so : (g : ℕ) (q : PlainProblem) (lits : List Lit) (rows : List Row) (used : List ℕ) (steps : List RowStep) → Stand q.atoms lits rows → IsTooMany rows used steps → holds_both_ways (map (lit_at lits) used) ≡ false
    → rows_hold (standing g q) (map (lit_at lits) used) steps ≡ true
rows_hold-so g q lits rows used steps s x h =
    let n : length (map (lit_at lits) used) + length steps ≡ 10000 = (let a = length-picked lits used in let b = x.count in omega arith) in
    and_from (length (map (lit_at lits) used) + length steps == 10000) (not (holds_both_ways (map (lit_at lits) used)) && rows_shown steps (line_rows q.atoms (map (lit_at lits) used) steps))
    ((Decides-eqb (length (map (lit_at lits) used) + length steps) 10000).1 n)
    ((λ i. not (h i) && rows_shown steps (picked-line q lits rows used steps s x.given i)) ∙ x.shown)

pub range_holds-so : (g : ℕ) (q : PlainProblem) (lits : List Lit) (rows : List Row) (used : List ℕ) (steps : List RowStep) (what : RangeWhat) → Stand q.atoms lits rows → IsBeyond rows used steps what → holds_both_ways (map (lit_at lits) used) ≡ false
    → range_holds (standing g q) (map (lit_at lits) used) steps what ≡ true
range_holds-so g q lits rows used steps what s x h = (λ i. not (h i) && range_shown steps what (picked-line q lits rows used steps s x.given i)) ∙ x.shown
