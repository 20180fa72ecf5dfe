-- What is written for each line of a log, found from the last one on, and its text.
use Rattle.std.proofs.Common.{◌≡◌, ℕ, zero, suc, ◌+◌, ◌<◌, ◌==◌, ◌||◌, Bool, true, false, not, cond, List, [], ◌∷◌, ◌++◌, length, length-append, get_or, drop, refl, sym, ap, subst, ◌∙◌, arith, append_assoc, append-nil, Result, Ok, Err}
use Rattle.std.specs.Prelude.{if◌then◌else◌, filter, slice_index_or, slice_set, replicate, nat_lt, OnOk}
use Rattle.std.specs.Result.{is_ok}
use Rattle.std.proofs.lemmas.List.{get_or-set_other}
use Rattle.std.proofs.lemmas.Grind.{get_or-set_at, flat_map-append}
use Rattle.std.proofs.lemmas.Bool.Decides.{nat_tests}
use Rattle.std.specs.Fmt.{digits, decimal}
use Rattle.std.specs.List.{flat_map}
use Rattle.proof_lines.specs.declared.line.Line.{Line}
use Rattle.proof_lines.specs.declared.line.Line.TheVariants.{Resolve, Drop}
use Rattle.proof_lines.specs.Numbers.{stands_in}
use Rattle.report_lines.specs.Fields.{count_format}
use Rattle.report_lines.specs.Words.{line_text, spaced}
use Rattle.report_lines.proofs.Splitting.{written, more}
use Rattle.report_lines.specs.Logs.{line_format}
use Rattle.proof_report.specs.Texts.{log_text}
use Rattle.report_upgrader.specs.UpgradedLogs.{rising, named, is_named, last_named, unless_drop, drop_line, upgraded}
use Rattle.report_upgrader.specs.declared.log_bytes.LogLine.TheVariants as kinds
use Rattle.report_upgrader.specs.declared.planning.Rewritten.{Rewritten}
use Rattle.report_upgrader.specs.declared.planning.Rewritten.TheVariants as rewritten
use Rattle.report_upgrader.specs.Plans.{IsKind, with_drops, dropped_by, dropped_from, written_for, written_by, AreWritten, IsWritten, IsSeen}
use Rattle.report_upgrader.specs.Passing.{IsText}
use Rattle.report_upgrader.proofs.Texts.{text_same}

-- ---- what is written for a line

-- the Drop line behind a line that resolves two clauses, which these are in rising order, by whether later lines name each
abbrev drops_of : ℕ → ℕ → List ℕ → Bool → Bool → List Line
drops_of a b ns true true = []
drops_of a b ns true false = Drop (b ∷ []) ∷ []
drops_of a b ns false true = Drop (a ∷ []) ∷ []
drops_of a b ns false false = Drop ns ∷ []

shown : (a b p : ℕ) (x y : Bool) → written_for (written_by x y) (Resolve a b p) ≡ Resolve a b p ∷ drops_of a b (rising a b) x y
shown a b p true true = refl
shown a b p true false = refl
shown a b p false true = refl
shown a b p false false = refl

unnamed : (later : List Line) (a b : ℕ) → drops_of a b (rising a b) (is_named later a) ((a == b) || is_named later b) ≡ drop_line (filter (λ n. not (is_named later n)) (rising a b))
unnamed later a b = by_case (a == b) (nat_lt a b)
  where
    one : (ns : List ℕ) (x : Bool) → drops_of a b ns x true ≡ drop_line (cond (not x) (a ∷ []) [])
    one ns true = refl
    one ns false = refl

    two : (x y : Bool) → drops_of a b (a ∷ b ∷ []) x y ≡ drop_line (cond (not x) (a ∷ cond (not y) (b ∷ []) []) (cond (not y) (b ∷ []) []))
    two true true = refl
    two true false = refl
    two false true = refl
    two false false = refl

    other : (x y : Bool) → drops_of a b (b ∷ a ∷ []) x y ≡ drop_line (cond (not y) (b ∷ cond (not x) (a ∷ []) []) (cond (not x) (a ∷ []) []))
    other true true = refl
    other true false = refl
    other false true = refl
    other false false = refl

    by_case : (e l : Bool) → drops_of a b (cond e (a ∷ []) (cond l (a ∷ b ∷ []) (b ∷ a ∷ []))) (is_named later a) (e || is_named later b)
        ≡ drop_line (filter (λ n. not (is_named later n)) (cond e (a ∷ []) (cond l (a ∷ b ∷ []) (b ∷ a ∷ []))))
    by_case true l = one (a ∷ []) (is_named later a)
    by_case false true = two (is_named later a) (is_named later b)
    by_case false false = other (is_named later a) (is_named later b)

-- a line that resolves two clauses; the second is seen where it is the first again
pub pair_written_for : (l : Line) (later : List Line) (a b : ℕ) (x y : Bool) → IsKind (kinds.Resolve a b) l → x ≡ is_named later a → y ≡ ((a == b) || is_named later b) → written_for (written_by x y) l ≡ with_drops l later
pair_written_for l later a b x y (p, same) is this =
    (λ i. written_for (written_by (is i) (this i)) (same i)) ∙ shown a b p (is_named later a) ((a == b) || is_named later b)
    ∙ ap (λ (ds : List Line). Resolve a b p ∷ ds) (unnamed later a b) ∙ ap (λ (m : Line). with_drops m later) (sym same)

-- the same by a table
pub pair_by_table : (old middle : List Bool) (l : Line) (later : List Line) (a b : ℕ) (x y : Bool) → IsKind (kinds.Resolve a b) l → IsSeen old later → x ≡ slice_index_or old a false → ((n : ℕ) → slice_index_or middle n false ≡ ((a == n) || slice_index_or old n false))
    → y ≡ slice_index_or middle b false → written_for (written_by x y) l ≡ with_drops l later
pair_by_table old middle l later a b x y kind seen one step two = pair_written_for l later a b x y kind (one ∙ seen a) (two ∙ step b ∙ (λ i. (a == b) || seen b i))

-- any other line
pub drop_written_for : (l : Line) (later : List Line) → IsKind kinds.Drop l → written_for rewritten.Nothing l ≡ with_drops l later
drop_written_for l later kind = sym (λ i. kind.1 i ++ drop_line (filter (λ n. not (is_named later n)) (kind.0 i)))

pub other_written_for : (l : Line) (later : List Line) → IsKind kinds.Other l → written_for rewritten.Alone l ≡ with_drops l later
other_written_for l later kind = sym (λ i. kind.1 i ++ drop_line (filter (λ n. not (is_named later n)) (kind.0 i)))

-- an upgraded log from a line on
pub upgraded_on : (x : Rewritten) (l : Line) (later : List Line) → written_for x l ≡ with_drops l later → upgraded (l ∷ later) ≡ written_for x l ++ upgraded later
upgraded_on x l later is = sym (append_assoc (unless_drop l) (drop_line (last_named l later)) (upgraded later)) ∙ ap (λ (ds : List Line). ds ++ upgraded later) (sym is)

-- how many lines it has
pub upgraded_long : (x : Rewritten) (l : Line) (later : List Line) → written_for x l ≡ with_drops l later → length (upgraded (l ∷ later)) ≡ length (written_for x l) + length (upgraded later)
upgraded_long x l later is = ap (λ (ds : List Line). length ds) (upgraded_on x l later is) ∙ length-append (written_for x l) (upgraded later)

-- ---- its text

-- a line that is copied, and others behind it
copied : (l : Line) (ds : List Line) (line old mid new : List ℕ) → IsText l line → mid ≡ old ++ (line ++ 10 ∷ []) → new ≡ mid ++ log_text ds → new ≡ old ++ log_text (l ∷ ds)
copied l ds line old mid new text is more =
    more ∙ ap (λ (x : List ℕ). x ++ log_text ds) is ∙ append_assoc old (line ++ 10 ∷ []) (log_text ds)
    ∙ ap (λ (x : List ℕ). old ++ (x ++ log_text ds)) (sym (text_same line (line_format.put l) text.0))

one_digit : decimal 1 ≡ 49 ∷ []
unfolding digits
one_digit = refl

two_digit : decimal 2 ≡ 50 ∷ []
unfolding digits
two_digit = refl

-- a Drop line of these clauses, of which there are so many
listed_written : (old first body after : List ℕ) (digit : ℕ) (clauses : List ℕ) → decimal (length clauses) ≡ digit ∷ [] → first ≡ old ++ 100 ∷ 32 ∷ digit ∷ [] → body ≡ first ++ spaced (flat_map count_format.put clauses) → after ≡ body ++ 10 ∷ []
    → after ≡ old ++ line_text (line_format.put (Drop clauses))
listed_written old first body after digit clauses many e f g =
    let others : List ℕ = spaced (flat_map count_format.put clauses) in
    let same : body ≡ (old ++ 100 ∷ []) ++ spaced (decimal (length clauses) ∷ flat_map count_format.put clauses) =
    f ∙ ap (λ (t : List ℕ). t ++ others) e ∙ append_assoc old (100 ∷ 32 ∷ digit ∷ []) others ∙ sym (append_assoc old (100 ∷ []) (32 ∷ digit ∷ others))
    ∙ ap (λ (d : List ℕ). (old ++ 100 ∷ []) ++ (32 ∷ d ++ others)) (sym many) in
    written old (old ++ 100 ∷ []) body after (100 ∷ []) (decimal (length clauses) ∷ flat_map count_format.put clauses) refl same g

-- a Drop line of one clause
pub single_written : (old first body after : List ℕ) (clause : ℕ) → first ≡ old ++ 100 ∷ 32 ∷ 49 ∷ [] → body ≡ first ++ spaced (decimal clause ∷ []) → after ≡ body ++ 10 ∷ [] → after ≡ old ++ log_text (Drop (clause ∷ []) ∷ [])
single_written old first body after clause e f g = listed_written old first body after 49 (clause ∷ []) one_digit e f g ∙ ap (λ (x : List ℕ). old ++ x) (sym (append-nil _))

-- a Drop line of two
pub pair_written : (old first middle body after : List ℕ) (a b : ℕ) → first ≡ old ++ 100 ∷ 32 ∷ 50 ∷ [] → middle ≡ first ++ spaced (decimal a ∷ []) → body ≡ middle ++ spaced (decimal b ∷ []) → after ≡ body ++ 10 ∷ []
    → after ≡ old ++ log_text (Drop (a ∷ b ∷ []) ∷ [])
pair_written old first middle body after a b e f f2 g =
    listed_written old first body after 50 (a ∷ b ∷ []) two_digit e (more first middle body (decimal a ∷ []) (decimal b ∷ []) f f2) g ∙ ap (λ (x : List ℕ). old ++ x) (sym (append-nil _))

-- lines that are copied, and the last of them
ended_by : (old front line ended : List ℕ) → ended ≡ front ++ (line ++ 10 ∷ []) → old ++ ended ≡ (old ++ front) ++ (line ++ 10 ∷ [])
ended_by old front line ended is = ap (λ (x : List ℕ). old ++ x) is ∙ sym (append_assoc old front (line ++ 10 ∷ []))

-- a line that resolves two clauses, and its Drop line
pub resolve_written : (x : Rewritten) (l : Line) (line front ended old mid new : List ℕ) (a b : ℕ) → ended ≡ front ++ (line ++ 10 ∷ []) → IsText l line → IsKind (kinds.Resolve a b) l → mid ≡ old ++ ended
    → IsWritten (dropped_by x a b) mid new → IsWritten (l ∷ dropped_from x l) (old ++ front) new
resolve_written x l line front ended old mid new a b cut text kind is more =
    let same : dropped_from x l ≡ dropped_by x a b = ap (dropped_from x) kind.1 in
    subst (λ (ds : List Line). IsWritten (l ∷ ds) (old ++ front) new) (sym same) (copied l (dropped_by x a b) line (old ++ front) mid new text (is ∙ ended_by old front line ended cut) more)

pub resolve_result : {E : Type 0} (result : Result (Unit {0}) E) (x : Rewritten) (l : Line) (line front ended old mid new : List ℕ) (a b : ℕ) → ended ≡ front ++ (line ++ 10 ∷ []) → IsText l line → IsKind (kinds.Resolve a b) l → mid ≡ old ++ ended
    → OnOk result (IsWritten (dropped_by x a b) mid new) → OnOk result (IsWritten (l ∷ dropped_from x l) (old ++ front) new)
resolve_result (Ok u) x l line front ended old mid new a b cut text kind is more = resolve_written x l line front ended old mid new a b cut text kind is more
resolve_result (Err e) x l line front ended old mid new a b cut text kind is more = tt

-- a line alone
alone_written : (l : Line) (line front ended old new : List ℕ) → ended ≡ front ++ (line ++ 10 ∷ []) → IsText l line → new ≡ old ++ ended → IsWritten (l ∷ []) (old ++ front) new
alone_written l line front ended old new cut text is = copied l [] line (old ++ front) new new text (is ∙ ended_by old front line ended cut) (sym (append-nil new))

pub alone_result : {E : Type 0} (result : Result (Unit {0}) E) (l : Line) (line front ended old new : List ℕ) → ended ≡ front ++ (line ++ 10 ∷ []) → IsText l line → new ≡ (if is_ok result then old ++ ended else old) → OnOk result (IsWritten (l ∷ []) (old ++ front) new)
alone_result (Ok u) l line front ended old new cut text is = alone_written l line front ended old new cut text is
alone_result (Err e) l line front ended old new cut text is = tt

-- nothing
pub none_written : (front old new : List ℕ) → new ≡ old ++ front → IsWritten [] (old ++ front) new
none_written front old new is = is ∙ sym (append-nil (old ++ front))

log_text-append : (xs ys : List Line) → log_text (xs ++ ys) ≡ log_text xs ++ log_text ys
log_text-append xs ys = flat_map-append (λ l. line_text (line_format.put l)) xs ys

-- its text, before other bytes
pub text_on : (ls ds later : List Line) (rest : List ℕ) → ls ≡ ds ++ later → log_text ls ++ rest ≡ log_text ds ++ (log_text later ++ rest)
text_on ls ds later rest is =
    ap (λ (x : List Line). log_text x ++ rest) is ∙ ap (λ (x : List ℕ). x ++ rest) (log_text-append ds later) ∙ append_assoc (log_text ds) (log_text later) rest

-- the text of a line alone
pub text_alone : (l : Line) (line : List ℕ) → IsText l line → log_text (l ∷ []) ≡ line ++ 10 ∷ []
text_alone l line text = append-nil (line_text (line_format.put l)) ∙ text_same line (line_format.put l) text.0

-- ---- the table

abbrev falses : ℕ → List Bool
falses k = replicate k false

falses_at : (k n : ℕ) → get_or (falses k) n false ≡ false
falses_at zero n = refl
falses_at (suc k) zero = refl
falses_at (suc k) (suc n) = falses_at k n

-- a table that is longer reads the same
pub falses_behind : (xs : List Bool) (k n : ℕ) → get_or (xs ++ falses k) n false ≡ get_or xs n false
falses_behind [] k n = falses_at k n
falses_behind (x ∷ xs) k zero = refl
falses_behind (x ∷ xs) k (suc n) = falses_behind xs k n

-- one clause more
pub seen_more : (xs : List Bool) (i n : ℕ) → i < length xs → get_or (slice_set xs i true) n false ≡ ((i == n) || get_or xs n false)
seen_more xs i n lt = by_case (i == n) refl
  where
    by_case : (b : Bool) → (i == n) ≡ b → get_or (slice_set xs i true) n false ≡ (b || get_or xs n false)
    by_case true e = let is : n ≡ i = grind (arith, nat_tests, e) in get_or-set_at xs i n true false is lt
    by_case false e = get_or-set_other xs i n true false (λ h. let f : (i == n) ≡ true = grind (arith, nat_tests, h) in let g : true ≡ false = sym f ∙ e in cc)

-- the two clauses of a line
both_seen : (a b n : ℕ) (later : Bool) → ((b == n) || ((a == n) || later)) ≡ (stands_in (rising a b) n || later)
both_seen a b n later = by_case (a == b) refl (nat_lt a b)
  where
    twice : (x : Bool) → (x || (x || later)) ≡ ((x || false) || later)
    twice true = refl
    twice false = refl

    two : (x y : Bool) → (y || (x || later)) ≡ ((x || (y || false)) || later)
    two true true = refl
    two true false = refl
    two false true = refl
    two false false = refl

    other : (x y : Bool) → (y || (x || later)) ≡ ((y || (x || false)) || later)
    other true true = refl
    other true false = refl
    other false true = refl
    other false false = refl

    by_case : (e : Bool) → (a == b) ≡ e → (l : Bool) → ((b == n) || ((a == n) || later)) ≡ (stands_in (cond e (a ∷ []) (cond l (a ∷ b ∷ []) (b ∷ a ∷ []))) n || later)
    by_case true k l = let is : b ≡ a = grind (arith, nat_tests, k) in ap (λ (m : ℕ). (m == n) || ((a == n) || later)) is ∙ twice (a == n)
    by_case false k true = two (a == n) (b == n)
    by_case false k false = other (a == n) (b == n)

-- a line more
pub pair_seen : (old middle new : List Bool) (l : Line) (later : List Line) (a b : ℕ) → IsKind (kinds.Resolve a b) l → IsSeen old later → ((n : ℕ) → slice_index_or middle n false ≡ ((a == n) || slice_index_or old n false))
    → ((n : ℕ) → slice_index_or new n false ≡ ((b == n) || slice_index_or middle n false)) → IsSeen new (l ∷ later)
pair_seen old middle new l later a b kind seen one two = λ n.
    two n ∙ (λ i. (b == n) || one n i) ∙ (λ i. (b == n) || ((a == n) || seen n i)) ∙ both_seen a b n (is_named later n) ∙ ap (λ (m : Line). stands_in (named m) n || is_named later n) (sym kind.1)

pub none_seen : (seen : List Bool) (l : Line) (later : List Line) → named l ≡ [] → IsSeen seen later → IsSeen seen (l ∷ later)
none_seen seen l later none so = λ n. so n ∙ ap (λ (ns : List ℕ). stands_in ns n || is_named later n) (sym none)
