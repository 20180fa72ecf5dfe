-- The kernel of a verifier has at most the clauses of its obligation's problem, and one for each line of the log.
use Rattle.std.proofs.Common.{◌≡◌, ℕ, suc, ◌+◌, ◌≤◌, Bool, true, false, not, cond, ◌&&◌, List, [], ◌∷◌, length, length-append, refl, sym, ◌∙◌, ap, subst, arith, Option, Some, None, Result, Ok, Err}
use Rattle.std.specs.Prelude.{nat_lt, ℤ}
use Rattle.std.specs.List.{list_any, list_all}
use Rattle.std.proofs.lemmas.List.{length-map}
use Rattle.proof_lines.specs.declared.clause.Lit.{Lit}
use Rattle.proof_lines.specs.declared.line.RowStep.{RowStep}
use Rattle.proof_lines.specs.declared.line.Line.{Line}
use Rattle.proof_lines.specs.declared.line.Line.TheVariants.{Resolve, Farkas, Split, Drop}
use Rattle.proof_lines.specs.declared.line.Why.{Why}
use Rattle.proof_lines.specs.declared.line.Why.TheVariants.{Place, Pivot, Contradiction, SplitAgain, Dropped}
use Rattle.proof_lines.specs.Clauses.{has, lit_of, resolvent, negations}
use Rattle.proof_lines.specs.Numbers.{are_different}
use Rattle.line_rows.specs.Refusals.{then_}
use Rattle.line_rows.specs.Steps.{line_rows, ends_badly, row_at}
use Rattle.line_rows.specs.Splits.{at_most, is_at_most, split_fits, split_cause}
use Rattle.line_rows.proofs.Sound.{ok_is}
use Rattle.proof_kernel.specs.Rules.{State, next, start, is_live, clause_at, grown, named, resolved, combined, combined_after, split, split_after, dropped, without_clauses, is_some_number}
use Rattle.proof_kernel.proofs.States.{length-cleared}
use Rattle.proof_kernel.proofs.Lines.{then-went}
use Rattle.spec_core.specs.Specification.{Specification}
use Rattle.obligation_list.specs.declared.obligation.Obligation.{Obligation}
use Rattle.ground_numbers.specs.Problem.{problem_of}
use Rattle.report_lines.specs.declared.verdict.VerdictWord.{VerdictWord}
use Rattle.proof_report.specs.declared.kind.Fault.{Fault}
use Rattle.proof_report.specs.declared.verdict.Ended.{Ended}
use Rattle.proof_report.specs.declared.verdict.Fed.{Fed}
use Rattle.report_verifier.specs.declared.judgement.Judgement.{Judgement}
use Rattle.report_verifier.specs.Rules.{has_many}
use Rattle.report_verifier.specs.Verifier.{obligation_due, has_log, posed, begun_behind, begun, after_line, logged_in, logged, clauses_in, most_kept, IsWithin, VerifierForm}
use Rattle.report_reader.specs.Reader.{ReaderForm}
use Rattle.report_bytes.specs.Collecting.{budget_in}
use Rattle.report_verifier.specs.Taking.{ended_as, taken_as}

-- ---- a line gives one clause at most

abbrev AtMostOneMore : State → State → Type 0
AtMostOneMore s t = length t.slots ≤ suc (length s.slots)

grown-one : (s : State) (c : List Lit) → AtMostOneMore s (grown s c)
grown-one s c = let l = length-append s.slots (Some c ∷ []) in omega (arith, l)

same-one : (s t : State) → length t.slots ≡ length s.slots → AtMostOneMore s t
same-one s t e = omega (arith, e)

resolved-one : (s : State) (left right pivot : ℕ) (t : State) → resolved s left right pivot ≡ Ok t → AtMostOneMore s t
resolved-one s left right pivot t h =
    by_case (nat_lt left (length s.slots) && (nat_lt right (length s.slots) && nat_lt pivot (length s.atoms))) (is_live s left && is_live s right)
    (has (clause_at s left) (lit_of pivot true) && has (clause_at s right) (lit_of pivot false)) h
  where
    by_case : (a b e : Bool) → cond a (cond b (cond e (Ok (grown s (resolvent pivot (clause_at s left) (clause_at s right)))) (Err Pivot)) (Err Dropped)) (Err Place) ≡ Ok t → AtMostOneMore s t
    by_case true true true h = subst (λ (z : State). AtMostOneMore s z) (ok_is _ t _ refl h) (grown-one s (resolvent pivot (clause_at s left) (clause_at s right)))
    by_case true true false h = absurd cc
    by_case true false e h = absurd cc
    by_case false b e h = absurd cc

combined-one : (s : State) (used : List Lit) (steps : List RowStep) (t : State) → combined s used steps ≡ Ok t → AtMostOneMore s t
combined-one s used steps t h =
    let w = then-went (line_rows s.atoms used steps) (combined_after s used) t h in
    by_case (ends_badly w.first) w.second
  where
    by_case : (b : Bool) → cond b (Ok (grown s (negations used))) (Err Contradiction) ≡ Ok t → AtMostOneMore s t
    by_case true h = subst (λ (z : State). AtMostOneMore s z) (ok_is _ t _ refl h) (grown-one s (negations used))
    by_case false h = absurd cc

split-one : (s : State) (place : ℕ) (at : ℤ) (used : List Lit) (steps : List RowStep) (low high : ℕ) (values : List ℤ) (t : State) → split s place at used steps low high values ≡ Ok t → AtMostOneMore s t
split-one s place at used steps low high values t h = by_case (nat_lt place s.ints) h
  where
    after : (a b : Bool) (o : Result (Unit {0}) Why) → cond a (cond (not b) (then_ o (λ _. Ok (named s (at_most place at)))) (Err SplitAgain)) (Err Place) ≡ Ok t → AtMostOneMore s t
    after true false (Ok u) h = subst (λ (z : State). AtMostOneMore s z) (ok_is _ t _ refl h) (same-one s (named s (at_most place at)) refl)
    after true false (Err w) h = absurd cc
    after true true o h = absurd cc
    after false b o h = absurd cc

    by_case : (a : Bool) → cond a (then_ (line_rows s.atoms used steps) (λ rows. split_after s place at rows low high values)) (Err Place) ≡ Ok t → AtMostOneMore s t
    by_case true h =
        let w = then-went (line_rows s.atoms used steps) (λ rows. split_after s place at rows low high values) t h in
        after (split_fits w.first place low high values) (list_any (is_at_most place at) s.atoms) (split_cause place at (row_at w.first low) (row_at w.first high) values) w.second
    by_case false h = absurd cc

dropped-one : (s : State) (ns : List ℕ) (t : State) → dropped s ns ≡ Ok t → AtMostOneMore s t
dropped-one s ns t h = by_case (is_some_number ns && list_all (λ n. nat_lt n (length s.slots)) ns) (are_different ns && list_all (is_live s) ns) h
  where
    by_case : (a b : Bool) → cond a (cond b (Ok (without_clauses s ns)) (Err Dropped)) (Err Place) ≡ Ok t → AtMostOneMore s t
    by_case true true h = subst (λ (z : State). AtMostOneMore s z) (ok_is _ t _ refl h) (same-one s (without_clauses s ns) (length-cleared s.slots ns))
    by_case true false h = absurd cc
    by_case false b h = absurd cc

next-one : (s : State) (l : Line) (t : State) → next s l ≡ Ok t → AtMostOneMore s t
next-one s (Resolve left right pivot) t h = resolved-one s left right pivot t h
next-one s (Farkas used steps) t h = combined-one s used steps t h
next-one s (Split place at used steps low high values) t h = split-one s place at used steps low high values t h
next-one s (Drop clauses) t h = dropped-one s clauses t h

-- ---- what is kept

begun_within : (d : Specification) (n : ℕ) (b : Option VerdictWord) (j : Judgement) → IsWithin d j → IsWithin d (begun d n b j)
begun_within d n None j h = h
begun_within d n (Some w) j h = by_fault j.fault
  where
    ob : Obligation
    ob = obligation_due d j

    first : clauses_in (Some (start (problem_of d ob))) ≤ length (problem_of d ob).clauses + 0
    first = let l = length-map (problem_of d ob).clauses (λ c. Some c) in omega (arith, l)

    by_test : (logs many : Bool) → clauses_in (posed d ob logs) ≤ length (problem_of d ob).clauses + 0
    by_test true many = by_many (has_many d ob)
      where
        by_many : (m : Bool) → clauses_in (cond m None (Some (start (problem_of d ob)))) ≤ length (problem_of d ob).clauses + 0
        by_many true = omega arith
        by_many false = first
    by_test false many = omega arith

    by_fault : (o : Option Fault) → IsWithin d (begun_behind d n w j o)
    by_fault (Some f) = omega arith
    by_fault None = by_test (has_log w) true

logged_within : (d : Specification) (n : ℕ) (l : Option Line) (j : Judgement) → IsWithin d j → IsWithin d (logged n l j)
logged_within d n None j h = h
logged_within d n (Some l) j h = by_kernel j.kernel h
  where
    by_line : (s : State) (r : Result State Why) → next s l ≡ r → length s.slots ≤ most_kept d j → IsWithin d (after_line n j r)
    by_line s (Ok t) e h = let o = next-one s l t e in omega (arith, o, h)
    by_line s (Err w) e h = omega arith

    by_kernel : (k : Option State) → clauses_in k ≤ most_kept d j → IsWithin d (logged_in n l j k)
    by_kernel None h = omega arith
    by_kernel (Some s) h = by_line s (next s l) refl h

ended_within : (d : Specification) (budget : ℕ) (e : Option Ended) (j : Judgement) → IsWithin d j → IsWithin d (ended_as d budget e j)
ended_within d budget None j h = h
ended_within d budget (Some e) j h = omega arith

pub taken_within : (d : Specification) (budget n : ℕ) (f : Fed) (j : Judgement) → IsWithin d j → IsWithin d (taken_as d budget n f j)
taken_within d budget n f j h = ended_within d budget f.ended _ (logged_within d n f.log _ (begun_within d n f.begin j h))

pub kept_bound : (d e : Specification) (j : Judgement) (n : ℕ) → IsWithin d j → n ≡ clauses_in j.kernel → e ≡ d → n ≤ most_kept e j
kept_bound d e j n h m same = subst (λ (x : Specification). n ≤ most_kept x j) (sym same) (omega (arith, m, h))

-- what a verifier is behind what was told of a line
pub told_so : (v : VerifierForm) (d : Specification) (r : ReaderForm) (i j : Judgement) (failed : Bool) (f : Fed) (budget n : ℕ) → v ≡ record { reader = r; judgement = i; failed = failed } → r.spec ≡ d → v.failed ≡ false
    → budget ≡ budget_in r.budget → n ≡ r.number → j ≡ taken_as d budget n f i
    → ◌≡◌ {A = VerifierForm} (record { reader = r; judgement = j; failed = failed }) (record { reader = v.reader; judgement = taken_as v.reader.spec (budget_in v.reader.budget) v.reader.number f v.judgement; failed = false })
told_so v d r i j failed f budget n e s h b m t =
    let reader : r ≡ v.reader = sym (ap (λ (x : VerifierForm). x.reader) e) in
    let judgement : i ≡ v.judgement = sym (ap (λ (x : VerifierForm). x.judgement) e) in
    let works : failed ≡ false = sym (ap (λ (x : VerifierForm). x.failed) e) ∙ h in
    let path : j ≡ taken_as v.reader.spec (budget_in v.reader.budget) v.reader.number f v.judgement =
    t ∙ (λ k. taken_as (sym s k) (b k) (m k) f i) ∙ (λ k. taken_as (reader k).spec (budget_in (reader k).budget) (reader k).number f (judgement k)) in
    λ k. record { reader = reader k; judgement = path k; failed = works k }

pub within_so : (d : Specification) (i j : Judgement) (f : Fed) (budget n : ℕ) → IsWithin d i → j ≡ taken_as d budget n f i → IsWithin d j
within_so d i j f budget n h t = subst (λ (x : Judgement). IsWithin d x) (sym t) (taken_within d budget n f i h)
