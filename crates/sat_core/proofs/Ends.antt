use Rattle.std.proofs.Common.{◌≡◌, ◌≢◌, ℕ, zero, suc, ◌<◌, ◌≤◌, Bool, true, false, cond, ◌⊎◌, inl, inr, List, [], ◌∷◌, length, get_or, refl, sym, ◌∙◌, ap, subst, arith}
use Rattle.std.specs.Prelude.{nat_le}
use Rattle.std.specs.List.{list_any, list_all}
use Rattle.std.proofs.lemmas.Bool.Decides.{nat_tests}
use Rattle.proof_lines.specs.declared.clause.Lit.{Lit}
use Rattle.proof_lines.specs.declared.line.Line.{Line}
use Rattle.proof_lines.specs.Clauses.{is_empty}
use Rattle.proof_lines.specs.Problems.{PlainProblem, fits, has_good_row}
use Rattle.proof_kernel.specs.Rules.{start}
use Rattle.proof_kernel.proofs.Runs.{run-refutes}
use Rattle.std.proofs.lemmas.Bool.{or_left, or_right, cases_eq}
use Rattle.sat_core.specs.declared.trail.Entry.{Entry}
use Rattle.sat_core.specs.Trails.{is_false, open_in, before_last, has_decision, older, is_done, Settled, NoneFalse}
use Rattle.sat_core.specs.Forcing.{AreRefuted}
use Rattle.sat_core.specs.SearchLogs.{Phase, between, within, SearchLog, standing, IsSearched}
use Rattle.sat_core.proofs.Forcing.{refuted_none, empty_unsat}
use Rattle.sat_core.proofs.Shown.{standing-fresh, lines_judged-so}
use Rattle.sat_core.specs.declared.answer.Answer.{Answer}
use Rattle.sat_core.specs.declared.answer.Answer.TheVariants.{Unsat, Sat, Lines, Rows, Range, Memory}
use Rattle.sat_core.specs.Answers.{IsEasy, IsRefuted, IsExhausted, IsAnswer, ShowsNone}
use Rattle.sat_core.specs.declared.state.SearchState.{SearchState}
use Rattle.sat_core.specs.Searching.{Aim, Keeps, InSearch, InChain}
use Rattle.sat_core.proofs.Keeping.{short_of}

-- How a search ends.

-- what Unsat means
pub shows-none : (split stop : Bool) (p : PlainProblem) (budget : ℕ) (a : Answer) → IsAnswer split stop p budget a → fits p ≡ true → list_all has_good_row p.atoms ≡ true → ShowsNone p a
shows-none split stop p budget (Unsat log) r f g = run-refutes p log r.state f g r.runs r.empty
shows-none split stop p budget (Sat i) r f g = tt
shows-none split stop p budget (Lines log) r f g = tt
shows-none split stop p budget (Rows e) r f g = tt
shows-none split stop p budget (Range e) r f g = tt
shows-none split stop p budget Memory r f g = tt

at_empty : (cs : List (List Lit)) (k : ℕ) → k < length cs → is_empty (get_or cs k []) ≡ true → list_any is_empty cs ≡ true
at_empty [] k l h = absurd (omega arith)
at_empty (c ∷ cs) zero l h = or_left (is_empty c) (list_any is_empty cs) h
at_empty (c ∷ cs) (suc k) l h = or_right (is_empty c) (list_any is_empty cs) (at_empty cs k (omega arith) h)

-- a chain that is done where nothing was decided has reached the empty clause
pub chain_refutes : (a : Aim) (budget before : ℕ) (s : SearchState) (i : ℕ) → InChain a budget before s i → is_done s.trail (get_or s.grown.clauses i []) ≡ true → has_decision s.trail ≡ false → IsRefuted a.split a.problem budget s.log
chain_refutes a budget before s i x d h = record {
  state = standing (length a.problem.clauses) s.grown;
  runs = x.keeps.runs;
  empty = at_empty s.grown.clauses i x.ex.there (nothing (get_or s.grown.clauses i []) (ap (λ b. cond b (nat_le (open_in (before_last s.trail) (get_or s.grown.clauses i [])) 1) (nat_le (length (get_or s.grown.clauses i [])) 0)) (sym h) ∙ d));
  within = x.keeps.room;
  short = short_of a budget s.grown s.log x.keeps;
  uneasy = x.uneasy;
}
  where
    nothing : (c : List Lit) → nat_le (length c) 0 ≡ true → is_empty c ≡ true
    nothing [] h = refl
    nothing (l ∷ c) h = absurd (longer_than (length c) h)
      where
        longer_than : (m : ℕ) → nat_le (suc m) 0 ≡ true → ⊥
        longer_than m h = absurd (grind (arith, nat_tests))

-- a clause that isn't false isn't empty
full : (t : List Entry) (c : List Lit) → is_false t c ≡ false → is_empty c ≡ false
full t [] h = absurd cc
full t (l ∷ c) h = refl

-- a clause that a chain isn't done with isn't empty
undone-full : (t : List Entry) (c : List Lit) → is_done t c ≡ false → is_empty c ≡ false
undone-full t [] h = absurd (by_case (has_decision t) h)
  where
    by_case : (b : Bool) → cond b (nat_le 0 1) (nat_le 0 0) ≡ false → ⊥
    by_case true h = absurd (grind (arith, nat_tests))
    by_case false h = absurd (grind (arith, nat_tests))
undone-full t (l ∷ c) h = refl

-- a log with what is known of it is a fresh search log
pub searched-so : (a : Aim) (budget : ℕ) (q : PlainProblem) (ls : List Line) (phase : Phase) → Keeps a budget q ls → SearchLog a.problem ls q phase → ((k : ℕ) → k < length q.clauses → is_empty (get_or q.clauses k []) ≡ false) → IsSearched a.problem ls q
searched-so a budget q ls phase k s n = record {
  runs = k.runs;
  fresh = standing-fresh (length a.problem.clauses) q k.first.long k.fresh (λ i l m. n i m);
  phase = phase;
  search = s;
}

pub exhausted-so : (a : Aim) (budget : ℕ) (q : PlainProblem) (ls : List Line) (phase : Phase) → Keeps a budget q ls → SearchLog a.problem ls q phase → ((k : ℕ) → k < length q.clauses → is_empty (get_or q.clauses k []) ≡ false) → budget ≤ length ls
    → (IsEasy a.problem → ⊥) → (AreRefuted a.problem.clauses → length a.problem.atoms ≤ budget → ⊥) → IsExhausted a.split a.problem budget ls
exhausted-so a budget q ls phase k s n b u f =
    let r = k.room in
    let whole : length ls ≡ budget = omega arith in
    let searched = searched-so a budget q ls phase k s n in
    record {
      judged = lines_judged-so a.problem ls budget (standing (length a.problem.clauses) q) k.runs whole searched.fresh;
      whole = whole;
      makes = q;
      searched = searched;
      short = short_of a budget q ls k;
      uneasy = u;
      hard = f;
    }

-- a chain that isn't done, with no line left
pub chain_exhausts : (a : Aim) (budget before : ℕ) (s : SearchState) (i : ℕ) → InChain a budget before s i → is_done s.trail (get_or s.grown.clauses i []) ≡ false → budget ≤ length s.log → IsExhausted a.split a.problem budget s.log
chain_exhausts a budget before s i x n b = exhausted-so a budget s.grown s.log (within x.start x.from (get_or s.grown.clauses i [])) x.keeps x.search none b x.uneasy hard
  where
    none : (k : ℕ) → k < length s.grown.clauses → is_empty (get_or s.grown.clauses k []) ≡ false
    none k l = by_case (cases_eq k i)
      where
        by_case : (k ≡ i) ⊎ (k ≢ i) → is_empty (get_or s.grown.clauses k []) ≡ false
        by_case (inl e) = subst (λ (j : ℕ). is_empty (get_or s.grown.clauses j []) ≡ false) (sym e) (undone-full s.trail (get_or s.grown.clauses i []) n)
        by_case (inr e) = full (older s.trail) (get_or s.grown.clauses k []) (x.ex.others k l e)

    some_left : (u : List Entry) → is_false u (get_or s.grown.clauses i []) ≡ true → 1 ≤ length u
    some_left [] f = absurd (let w = undone-full s.trail (get_or s.grown.clauses i []) n in let v = empty_false (get_or s.grown.clauses i []) f in cc)
      where
        empty_false : (c : List Lit) → is_false [] c ≡ true → is_empty c ≡ true
        empty_false [] f = refl
        empty_false (l ∷ c) f = absurd cc
    some_left (e ∷ u) f = omega arith

    hard : AreRefuted a.problem.clauses → length a.problem.atoms ≤ budget → ⊥
    hard r l = absurd (let y = (x.early r).1 in let m = some_left s.trail x.ex.false_now in omega (arith, y, m, l))

-- forced literals refute no clause where a trail is settled
pub settled_unrefuted : (a : Aim) (budget : ℕ) (s : SearchState) → InSearch a budget s → Settled s.trail s.grown.clauses → NoneFalse s.trail s.grown.clauses → AreRefuted a.problem.clauses → ⊥
settled_unrefuted a budget s x w n r =
    let y = x.early r in
    refuted_none a.problem.clauses s.trail r (subst (λ (z : List (List Lit)). Settled s.trail z) y.2 w) (subst (λ (z : List (List Lit)). NoneFalse s.trail z) y.2 n)

-- a settled trail leaves no clause empty
pub settled_full : (t : List Entry) (cs : List (List Lit)) → NoneFalse t cs → (k : ℕ) → k < length cs → is_empty (get_or cs k []) ≡ false
settled_full t cs n k l = full t (get_or cs k []) (n k l)

-- a settled trail where a line is wanted and none is left
pub search_exhausts : (a : Aim) (budget : ℕ) (s : SearchState) → InSearch a budget s → Settled s.trail s.grown.clauses → NoneFalse s.trail s.grown.clauses → budget ≤ length s.log → (IsEasy a.problem → ⊥) → IsExhausted a.split a.problem budget s.log
search_exhausts a budget s x w n b u = exhausted-so a budget s.grown s.log between x.keeps x.search (settled_full s.trail s.grown.clauses n) b u (λ r m. settled_unrefuted a budget s x w n r)

-- an empty clause is there from the start
pub at_once : (split : Bool) (p : PlainProblem) (budget : ℕ) (log : List Line) → log ≡ [] → list_any is_empty p.clauses ≡ true → IsRefuted split p budget log
at_once split p budget log e h = subst (λ (z : List Line). IsRefuted split p budget z) (sym e) (record {
  state = start p;
  runs = refl;
  empty = h;
  within = omega arith;
  short = record { unsplit = λ _. refl; plain = λ _. refl; few = omega arith };
  uneasy = λ u. empty_unsat p.clauses h u.1;
})
