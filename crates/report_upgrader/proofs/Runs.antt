-- A log that breaks no rule does so upgraded too: after each line both states agree on all clauses that later lines name.
use Rattle.std.proofs.Common.{◌≡◌, ℕ, ◌+◌, ◌<◌, Bool, true, false, not, cond, ◌&&◌, ◌||◌, List, [], ◌∷◌, ◌++◌, length, refl, sym, ◌∙◌, ap, subst, arith, Option, Some, Result, Ok, Err, length-append}
use Rattle.std.specs.Prelude.{nat_lt, is_some, ℤ, IsOk}
use Rattle.std.specs.List.{list_any, list_all}
use Rattle.std.proofs.lemmas.Bool.{and_parts, and_from}
use Rattle.lin_rows.specs.Rows.{Row}
use Rattle.proof_lines.specs.declared.clause.Lit.{Lit}
use Rattle.proof_lines.specs.declared.line.RowStep.{RowStep}
use Rattle.proof_lines.specs.declared.line.Line.{Line}
use Rattle.proof_lines.specs.declared.line.Line.TheVariants.{Resolve, Farkas, Split, Drop}
use Rattle.proof_lines.specs.declared.line.Why.{Why}
use Rattle.proof_lines.specs.declared.line.Why.TheVariants.{Place, Pivot, Contradiction, SplitAgain, Dropped}
use Rattle.proof_lines.specs.Numbers.{are_different, stands_in}
use Rattle.proof_lines.specs.Clauses.{has, lit_of, resolvent, negations}
use Rattle.proof_lines.specs.Problems.{PlainProblem}
use Rattle.line_rows.specs.Refusals.{then_}
use Rattle.line_rows.specs.Steps.{line_rows, ends_badly, row_at}
use Rattle.line_rows.specs.Splits.{at_most, is_at_most, split_fits, split_cause}
use Rattle.proof_kernel.specs.Rules.{State, next, start, is_live, clause_at, clause_or_empty, grown, named as with_atom, resolved, combined, combined_after, split, split_after, dropped, without_clauses, cleared, is_some_number, run, run_from}
use Rattle.proof_kernel.proofs.States.{length-cleared}
use Rattle.report_upgrader.specs.UpgradedLogs.{rising, named, is_named, last_named, drop_line, unless_drop, upgraded}
use Rattle.proof_kernel.specs.Answers.{IsJudged}
use Rattle.proof_kernel.specs.declared.answer.Checked.{Checked}
use Rattle.proof_kernel.specs.declared.answer.KernelRefused.{KernelRefused}
use Rattle.proof_kernel.specs.declared.answer.KernelRefused.TheVariants.{BadLine, NoEmptyClause, Memory as NoMemory}
use Rattle.report_upgrader.specs.Agreement.{IsAccepted, StandsUpgraded, Accepts}
use Rattle.report_upgrader.proofs.Slots.{Slots, at, live, cleared-live, cleared-other, live-below, pushed-front, pushed-same, pushed-kept}
use Rattle.report_upgrader.proofs.Names.{rising-left, rising-right, last-all, last-different, last-later}

-- a state with other slots
abbrev with_slots : State → Slots → State
with_slots s xs = record { atoms = s.atoms; ints = s.ints; given = s.given; slots = xs; empty = s.empty }

-- The second list has every clause that the first one has and that a later line names; a clause that both have is the same.
record Agree (xs ys : Slots) (ls : List Line) : Type 0 where
  pub count : length xs ≡ length ys
  pub same : (n : ℕ) → live xs n ≡ true → live ys n ≡ true → at xs n ≡ at ys n
  pub kept : (n : ℕ) → is_named ls n ≡ true → live xs n ≡ true → live ys n ≡ true

abbrev taken : State → Result State (ℕ × Why)
taken s = Ok s

abbrev told : State → Result State Why
told s = Ok s

same_state : (s t : State) → taken s ≡ taken t → s ≡ t
same_state s t e = cc

same_next : (s t : State) → told s ≡ told t → s ≡ t
same_next s t e = cc

-- what stands after the next line and those that follow
abbrev after_next : ℕ → List Line → Result State Why → Result State (ℕ × Why)
after_next k ls (Ok u) = run_from (k + 1) u ls
after_next k ls (Err w) = Err (k, w)

-- some first lines lead from one state to another
abbrev Leads : State → List Line → State → Type 0
Leads s front t = (rest : List Line) (r : State) → ((k : ℕ) → run_from k t rest ≡ taken r) → (k : ℕ) → run_from k s (front ++ rest) ≡ taken r

-- a line leads on
leads : (s : State) (l : Line) (t : State) → next s l ≡ told t → Leads s (l ∷ []) t
leads s l t e rest r h k = ap (after_next k rest) e ∙ h (k + 1)

-- a Drop line of clauses that are there, or none
drops : (s : State) (ns : List ℕ) → list_all (live s.slots) ns ≡ true → are_different ns ≡ true → Leads s (drop_line ns) (without_clauses s ns)
drops s [] there different rest r h k = h k
drops s (n ∷ ns) there different rest r h k =
    leads s (Drop (n ∷ ns)) (without_clauses s (n ∷ ns)) (by_case (below (n ∷ ns) there) different there) rest r h k
  where
    within : (m j : ℕ) → m < j → nat_lt m j ≡ true
    within m j lt = grind (arith, lt)

    below : (ms : List ℕ) → list_all (live s.slots) ms ≡ true → list_all (λ m. nat_lt m (length s.slots)) ms ≡ true
    below [] h = refl
    below (m ∷ ms) h =
        let p = and_parts (live s.slots m) (list_all (live s.slots) ms) h in
        and_from (nat_lt m (length s.slots)) (list_all (λ m. nat_lt m (length s.slots)) ms) (within m (length s.slots) (live-below s.slots m p.0)) (below ms p.1)

    test : (a b c : Bool) → a ≡ true → b ≡ true → c ≡ true → cond a (cond (b && c) (told (without_clauses s (n ∷ ns))) (Err Dropped)) (Err Place) ≡ told (without_clauses s (n ∷ ns))
    test a b c h k l = λ i. cond (h i) (cond (k i && l i) (told (without_clauses s (n ∷ ns))) (Err Dropped)) (Err Place)

    by_case : list_all (λ m. nat_lt m (length s.slots)) (n ∷ ns) ≡ true → are_different (n ∷ ns) ≡ true → list_all (live s.slots) (n ∷ ns) ≡ true → next s (Drop (n ∷ ns)) ≡ told (without_clauses s (n ∷ ns))
    by_case h k l = test (list_all (λ m. nat_lt m (length s.slots)) (n ∷ ns)) (are_different (n ∷ ns)) (list_all (live s.slots) (n ∷ ns)) h k l

-- what a line and the upgraded line lead to
record Step (s : State) (ys : Slots) (l : Line) (ls : List Line) (u : State) : Type 0 where
  pub slots : Slots
  pub front : (rest : List Line) (r : State) → ((k : ℕ) → run_from k (with_slots u slots) rest ≡ taken r)
      → (k : ℕ) → run_from k (with_slots s ys) (unless_drop l ++ (drop_line (last_named l ls) ++ rest)) ≡ taken r
  pub agree : Agree u.slots slots ls

or_right : (a b : Bool) → b ≡ true → (a || b) ≡ true
or_right a b h = grind arith

or_left : (a b : Bool) → a ≡ true → (a || b) ≡ true
or_left a b h = grind arith

-- ---- RESOLVE

module _ (s : State) (ys : Slots) (left right pivot : ℕ) (ls : List Line) (a : Agree s.slots ys (Resolve left right pivot ∷ ls)) where
  -- the clause that the line gives
  abbrev c : List Lit
  c = resolvent pivot (clause_at s left) (clause_at s right)

  -- the clauses that it names last
  abbrev gone : List ℕ
  gone = last_named (Resolve left right pivot) ls

  module _ (placed : (nat_lt left (length s.slots) && (nat_lt right (length s.slots) && nat_lt pivot (length s.atoms))) ≡ true)
      (there : (live s.slots left && live s.slots right) ≡ true)
      (fits : (has (clause_at s left) (lit_of pivot true) && has (clause_at s right) (lit_of pivot false)) ≡ true) where
    left_there : live ys left ≡ true
    left_there = a.kept left (or_left (stands_in (rising left right) left) (is_named ls left) (rising-left left right)) (and_parts (live s.slots left) (live s.slots right) there).0

    right_there : live ys right ≡ true
    right_there = a.kept right (or_left (stands_in (rising left right) right) (is_named ls right) (rising-right left right)) (and_parts (live s.slots left) (live s.slots right) there).1

    left_same : at ys left ≡ at s.slots left
    left_same = sym (a.same left (and_parts (live s.slots left) (live s.slots right) there).0 left_there)

    right_same : at ys right ≡ at s.slots right
    right_same = sym (a.same right (and_parts (live s.slots left) (live s.slots right) there).1 right_there)

    taken_too : next (with_slots s ys) (Resolve left right pivot) ≡ told (with_slots (grown s c) (ys ++ Some c ∷ []))
    taken_too =
        let p : (nat_lt left (length ys) && (nat_lt right (length ys) && nat_lt pivot (length s.atoms))) ≡ true =
        ap (λ (n : ℕ). nat_lt left n && (nat_lt right n && nat_lt pivot (length s.atoms))) (sym a.count) ∙ placed in
        let q : (live ys left && live ys right) ≡ true = and_from (live ys left) (live ys right) left_there right_there in
        let r : (has (clause_or_empty (at ys left)) (lit_of pivot true) && has (clause_or_empty (at ys right)) (lit_of pivot false)) ≡ true =
        (λ i. has (clause_or_empty (left_same i)) (lit_of pivot true) && has (clause_or_empty (right_same i)) (lit_of pivot false)) ∙ fits in
        λ i. cond (p i) (cond (q i) (cond (r i) (told (grown (with_slots s ys) (resolvent pivot (clause_or_empty (left_same i)) (clause_or_empty (right_same i))))) (Err Pivot)) (Err Dropped)) (Err Place)

    drop_there : list_all (live (ys ++ Some c ∷ [])) gone ≡ true
    drop_there =
        last-all left right pivot ls (live (ys ++ Some c ∷ []))
        (ap is_some (pushed-front ys (Some c) left (live-below ys left left_there)) ∙ left_there)
        (ap is_some (pushed-front ys (Some c) right (live-below ys right right_there)) ∙ right_there)

  -- what is left when the clauses are dropped that the line names last
  left_over : (d : List Lit) → Agree (s.slots ++ Some d ∷ []) (cleared (ys ++ Some d ∷ []) gone) ls
  left_over d = record {
    count = omega (arith, a.count, length-append s.slots (Some d ∷ []), length-append ys (Some d ∷ []), length-cleared (ys ++ Some d ∷ []) gone);
    same = λ n h k.
        let e = cleared-live (ys ++ Some d ∷ []) gone n k in
        pushed-same s.slots ys (Some d) a.count a.same n h (subst (λ (o : Option (List Lit)). is_some o ≡ true) e k) ∙ sym e;
    kept = λ n later h.
        let e = cleared-other (ys ++ Some d ∷ []) gone n (last-later left right pivot ls n later) in
        ap is_some e ∙ pushed-kept s.slots ys (Some d) a.count n (a.kept n (or_right (stands_in (rising left right) n) (is_named ls n) later)) h;
  }

  resolve-step : (u : State) → resolved s left right pivot ≡ told u → Step s ys (Resolve left right pivot) ls u
  resolve-step u h =
      by_case (nat_lt left (length s.slots) && (nat_lt right (length s.slots) && nat_lt pivot (length s.atoms))) (live s.slots left && live s.slots right)
      (has (clause_at s left) (lit_of pivot true) && has (clause_at s right) (lit_of pivot false)) refl refl refl h
    where
      step : (nat_lt left (length s.slots) && (nat_lt right (length s.slots) && nat_lt pivot (length s.atoms))) ≡ true → (live s.slots left && live s.slots right) ≡ true
          → (has (clause_at s left) (lit_of pivot true) && has (clause_at s right) (lit_of pivot false)) ≡ true → Step s ys (Resolve left right pivot) ls (grown s c)
      step p q r = record {
        slots = cleared (ys ++ Some c ∷ []) gone;
        front = λ rest t h k.
            leads (with_slots s ys) (Resolve left right pivot) (with_slots (grown s c) (ys ++ Some c ∷ [])) (taken_too p q r) (drop_line gone ++ rest) t
            (λ j. drops (with_slots (grown s c) (ys ++ Some c ∷ [])) gone (drop_there p q r) (last-different left right pivot ls) rest t h j) k;
        agree = left_over c;
      }

      by_case : (b d e : Bool) → (nat_lt left (length s.slots) && (nat_lt right (length s.slots) && nat_lt pivot (length s.atoms))) ≡ b → (live s.slots left && live s.slots right) ≡ d
          → (has (clause_at s left) (lit_of pivot true) && has (clause_at s right) (lit_of pivot false)) ≡ e
          → cond b (cond d (cond e (told (grown s c)) (Err Pivot)) (Err Dropped)) (Err Place) ≡ told u → Step s ys (Resolve left right pivot) ls u
      by_case true true true p q r h = subst (λ (z : State). Step s ys (Resolve left right pivot) ls z) (same_next (grown s c) u h) (step p q r)
      by_case true true false p q r h = absurd cc
      by_case true false e p q r h = absurd cc
      by_case false d e p q r h = absurd cc

-- ---- FARKAS

-- one clause more in both
pushed-agree : (xs ys : Slots) (l : Line) (ls : List Line) (d : List Lit) → Agree xs ys (l ∷ ls) → Agree (xs ++ Some d ∷ []) (ys ++ Some d ∷ []) ls
pushed-agree xs ys l ls d a = record {
  count = omega (arith, a.count, length-append xs (Some d ∷ []), length-append ys (Some d ∷ []));
  same = pushed-same xs ys (Some d) a.count a.same;
  kept = λ n later h. pushed-kept xs ys (Some d) a.count n (a.kept n (or_right (stands_in (named l) n) (is_named ls n) later)) h;
}

-- the same in both
same-agree : (xs ys : Slots) (l : Line) (ls : List Line) → Agree xs ys (l ∷ ls) → Agree xs ys ls
same-agree xs ys l ls a = record { count = a.count; same = a.same; kept = λ n later h. a.kept n (or_right (stands_in (named l) n) (is_named ls n) later) h }

module _ (s : State) (ys : Slots) (used : List Lit) (steps : List RowStep) (ls : List Line) (a : Agree s.slots ys (Farkas used steps ∷ ls)) where
  farkas-step : (u : State) → combined s used steps ≡ told u → Step s ys (Farkas used steps) ls u
  farkas-step u h = by_rows (line_rows s.atoms used steps) refl h
    where
      step : next (with_slots s ys) (Farkas used steps) ≡ told (with_slots (grown s (negations used)) (ys ++ Some (negations used) ∷ [])) → Step s ys (Farkas used steps) ls (grown s (negations used))
      step e = record {
        slots = ys ++ Some (negations used) ∷ [];
        front = λ rest r h k. leads (with_slots s ys) (Farkas used steps) (with_slots (grown s (negations used)) (ys ++ Some (negations used) ∷ [])) e rest r h k;
        agree = pushed-agree s.slots ys (Farkas used steps) ls (negations used) a;
      }

      by_case : (rows : List Row) → line_rows s.atoms used steps ≡ Ok rows → (b : Bool) → ends_badly rows ≡ b → cond b (told (grown s (negations used))) (Err Contradiction) ≡ told u → Step s ys (Farkas used steps) ls u
      by_case rows e true p h =
          subst (λ (z : State). Step s ys (Farkas used steps) ls z) (same_next (grown s (negations used)) u h)
          (step (ap (λ (o : Result (List Row) Why). then_ o (combined_after (with_slots s ys) used)) e ∙ ap (λ (b : Bool). cond b (told (grown (with_slots s ys) (negations used))) (Err Contradiction)) p))
      by_case rows e false p h = absurd cc

      by_rows : (o : Result (List Row) Why) → line_rows s.atoms used steps ≡ o → then_ o (combined_after s used) ≡ told u → Step s ys (Farkas used steps) ls u
      by_rows (Ok rows) e h = by_case rows e (ends_badly rows) refl h
      by_rows (Err w) e h = absurd cc

-- ---- SPLIT

module _ (s : State) (ys : Slots) (place : ℕ) (at : ℤ) (used : List Lit) (steps : List RowStep) (low high : ℕ) (values : List ℤ) (ls : List Line)
    (a : Agree s.slots ys (Split place at used steps low high values ∷ ls)) where
  abbrev line : Line
  line = Split place at used steps low high values

  abbrev split_from : State → List Row → Result State Why
  split_from t rows = split_after t place at rows low high values

  split-step : (u : State) → split s place at used steps low high values ≡ told u → Step s ys line ls u
  split-step u h = by_place (nat_lt place s.ints) refl h
    where
      r : Row
      r = at_most place at

      step : next (with_slots s ys) line ≡ told (with_slots (with_atom s (at_most place at)) ys) → Step s ys line ls (with_atom s (at_most place at))
      step e = record {
        slots = ys;
        front = λ rest r h k. leads (with_slots s ys) line (with_slots (with_atom s (at_most place at)) ys) e rest r h k;
        agree = same-agree s.slots ys line ls a;
      }

      by_case : nat_lt place s.ints ≡ true → (rows : List Row) → line_rows s.atoms used steps ≡ Ok rows → (b : Bool) → split_fits rows place low high values ≡ b → (c : Bool) → list_any (is_at_most place at) s.atoms ≡ c
          → (o : Result (Unit {0}) Why) → split_cause place at (row_at rows low) (row_at rows high) values ≡ o
          → cond b (cond (not c) (then_ o (λ _. told (with_atom s (at_most place at)))) (Err SplitAgain)) (Err Place) ≡ told u → Step s ys line ls u
      by_case p rows e true q false r (Ok t) g h =
          subst (λ (z : State). Step s ys line ls z) (same_next (with_atom s (at_most place at)) u h)
          (step (ap (λ (b : Bool). cond b (then_ (line_rows s.atoms used steps) (split_from (with_slots s ys))) (Err Place)) p
          ∙ ap (λ (o : Result (List Row) Why). then_ o (split_from (with_slots s ys))) e
          ∙ (λ i. cond (q i) (cond (not (r i)) (then_ (g i) (λ _. told (with_atom (with_slots s ys) (at_most place at)))) (Err SplitAgain)) (Err Place))))
      by_case p rows e true q false r (Err w) g h = absurd cc
      by_case p rows e true q true r o g h = absurd cc
      by_case p rows e false q c r o g h = absurd cc

      by_rows : nat_lt place s.ints ≡ true → (o : Result (List Row) Why) → line_rows s.atoms used steps ≡ o → then_ o (split_from s) ≡ told u → Step s ys line ls u
      by_rows p (Ok rows) e h = by_case p rows e (split_fits rows place low high values) refl (list_any (is_at_most place at) s.atoms) refl (split_cause place at (row_at rows low) (row_at rows high) values) refl h
      by_rows p (Err w) e h = absurd cc

      by_place : (b : Bool) → nat_lt place s.ints ≡ b → cond b (then_ (line_rows s.atoms used steps) (split_from s)) (Err Place) ≡ told u → Step s ys line ls u
      by_place true p h = by_rows p (line_rows s.atoms used steps) refl h
      by_place false p h = absurd cc

-- ---- DROP

drop-step : (s : State) (ys : Slots) (ns : List ℕ) (ls : List Line) → Agree s.slots ys (Drop ns ∷ ls) → (u : State) → dropped s ns ≡ told u → Step s ys (Drop ns) ls u
drop-step s ys ns ls a u h = by_case (is_some_number ns && list_all (λ n. nat_lt n (length s.slots)) ns) (are_different ns && list_all (is_live s) ns) h
  where
    step : Step s ys (Drop ns) ls (without_clauses s ns)
    step = record {
      slots = ys;
      front = λ rest r h k. h k;
      agree = record {
        count = length-cleared s.slots ns ∙ a.count;
        same = λ n h k.
            let e = cleared-live s.slots ns n h in
            e ∙ a.same n (subst (λ (o : Option (List Lit)). is_some o ≡ true) e h) k;
        kept = λ n later h.
            let e = cleared-live s.slots ns n h in
            a.kept n later (subst (λ (o : Option (List Lit)). is_some o ≡ true) e h);
      };
    }

    by_case : (b c : Bool) → cond b (cond c (told (without_clauses s ns)) (Err Dropped)) (Err Place) ≡ told u → Step s ys (Drop ns) ls u
    by_case true true h = subst (λ (z : State). Step s ys (Drop ns) ls z) (same_next (without_clauses s ns) u h) step
    by_case true false h = absurd cc
    by_case false c h = absurd cc

-- ---- whole logs

step : (s : State) (ys : Slots) (l : Line) (ls : List Line) → Agree s.slots ys (l ∷ ls) → (u : State) → next s l ≡ told u → Step s ys l ls u
step s ys (Resolve left right pivot) ls a u h = resolve-step s ys left right pivot ls a u h
step s ys (Farkas used steps) ls a u h = farkas-step s ys used steps ls a u h
step s ys (Split place at used steps low high values) ls a u h = split-step s ys place at used steps low high values ls a u h
step s ys (Drop clauses) ls a u h = drop-step s ys clauses ls a u h

-- what stands after the upgraded lines
record Stands (t : State) (lines : List Line) (s : State) : Type 0 where
  pub slots : Slots
  pub stands : (k : ℕ) → run_from k t lines ≡ taken (with_slots s slots)
  pub agree : Agree s.slots slots []

upgraded-stands : (s : State) (ys : Slots) (ls : List Line) (u : State) → Agree s.slots ys ls → (k : ℕ) → run_from k s ls ≡ taken u → Stands (with_slots s ys) (upgraded ls) u
upgraded-stands s ys [] u a k h =
    subst (λ (z : State). Stands (with_slots s ys) [] z) (same_state s u h) (record { slots = ys; stands = λ j. refl; agree = a })
upgraded-stands s ys (l ∷ ls) u a k h = by_line (next s l) refl h (λ v zs b e. upgraded-stands v zs ls u b (k + 1) e)
  where
    by_line : (o : Result State Why) → next s l ≡ o → after_next k ls o ≡ taken u
        → ((v : State) (zs : Slots) → Agree v.slots zs ls → run_from (k + 1) v ls ≡ taken u → Stands (with_slots v zs) (upgraded ls) u)
        → Stands (with_slots s ys) (upgraded (l ∷ ls)) u
    by_line (Ok v) e h rest =
        let f = step s ys l ls a v e in
        let r = rest v f.slots f.agree h in
        record { slots = r.slots; stands = λ j. f.front (upgraded ls) (with_slots u r.slots) r.stands j; agree = r.agree }
    by_line (Err w) e h rest = absurd cc

-- at first both states are one
first-agree : (xs : Slots) (ls : List Line) → Agree xs xs ls
first-agree xs ls = record { count = refl; same = λ n h k. refl; kept = λ n later h. h }

pub run-upgraded : (p : PlainProblem) (ls : List Line) → StandsUpgraded (run p ls) (run p (upgraded ls))
run-upgraded p ls = by_case (run p ls) refl
  where
    after : (u : State) (r : Stands (start p) (upgraded ls) u) → StandsUpgraded (taken u) (run p (upgraded ls))
    after u r = subst (λ (o : Result State (ℕ × Why)). StandsUpgraded (taken u) o) (sym (r.stands 0))
        (record { atoms = refl; ints = refl; given = refl; count = r.agree.count; clauses = r.agree.same; empty = refl })

    by_case : (o : Result State (ℕ × Why)) → run p ls ≡ o → StandsUpgraded o (run p (upgraded ls))
    by_case (Ok u) e = after u (upgraded-stands (start p) (start p).slots ls u (first-agree (start p).slots ls) 0 e)
    by_case (Err w) e = tt

pub accepted-upgraded : (p : PlainProblem) (ls : List Line) → IsAccepted (run p ls) → IsAccepted (run p (upgraded ls))
accepted-upgraded p ls h = by_case (run p ls) (run p (upgraded ls)) (run-upgraded p ls) h
  where
    by_case : (o q : Result State (ℕ × Why)) → StandsUpgraded o q → IsAccepted o → IsAccepted q
    by_case (Ok s) (Ok t) a h = sym a.empty ∙ h
    by_case (Ok s) (Err w) a h = a
    by_case (Err w) q a h = absurd h

-- ---- answers to logs

accepted-judged : (lines : List Line) (o : Result State (ℕ × Why)) (r : Result Checked KernelRefused) → IsJudged lines o r → IsOk r → IsAccepted o
accepted-judged lines (Ok s) (Ok answer) j k = j.0
accepted-judged lines (Err e) (Ok answer) j k = j
accepted-judged lines o (Err e) j k = absurd (let q : false ≡ true = k in cc)

accepts : (lines : List Line) (o : Result State (ℕ × Why)) (q : Result Checked KernelRefused) → IsJudged lines o q → IsAccepted o → Accepts q
accepts lines o (Ok answer) j h = tt
accepts lines (Ok s) (Err (BadLine k w)) j h = absurd (let e : taken s ≡ Err (k, w) = j in cc)
accepts lines (Err e) (Err (BadLine k w)) j h = absurd h
accepts lines (Ok s) (Err NoEmptyClause) j h = absurd (let e : true ≡ false = sym h ∙ j in cc)
accepts lines (Err e) (Err NoEmptyClause) j h = absurd h
accepts lines o (Err NoMemory) j h = tt

pub answer-upgraded : (p : PlainProblem) (ls : List Line) (r q : Result Checked KernelRefused) → IsJudged ls (run p ls) r → IsOk r → IsJudged (upgraded ls) (run p (upgraded ls)) q → Accepts q
answer-upgraded p ls r q j k i = accepts (upgraded ls) (run p (upgraded ls)) q i (accepted-upgraded p ls (accepted-judged ls (run p ls) r j k))
