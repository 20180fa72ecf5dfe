-- Loops over two lists at their end.
use Rattle.std.proofs.Common.{◌≡◌, ℕ, zero, suc, ◌+◌, ◌<◌, List, [], ◌∷◌, ◌++◌, length, drop, drop-cons, slice_index, get_or, min, refl, sym, ◌∙◌, ap, arith}
use Rattle.spec_core.specs.Line.{Line}
use Rattle.spec_core.specs.Specification.{Specification, op_of}
use Rattle.ground_problem.specs.Symbols.{Symbolic}
use Rattle.ground_problem.specs.Constants.{Constants}
use Rattle.ground_problem.specs.Formulas.{Caller, caller, Readings, at_stage}
use Rattle.ground_problem.specs.Entry.{line_holds, lines_hold, calls_ready}
use Rattle.ground_groups.specs.Lines.{lines_at}

pub lines_end : (z : Constants) (r : Readings) (c : Caller) (m : ℕ) (ls : List Line) (owns : List (List ℕ)) (n : ℕ) → n ≡ min (length ls) (length owns) → lines_at z r c m (drop n ls) (drop n owns) ≡ []
lines_end z r c m [] owns zero e = refl
lines_end z r c m (l ∷ ls) [] zero e = refl
lines_end z r c m (l ∷ ls) (own ∷ owns) zero e = absurd (omega arith)
lines_end z r c m [] owns (suc n) e = absurd (omega arith)
lines_end z r c m (l ∷ ls) [] (suc n) e = absurd (omega arith)
lines_end z r c m (l ∷ ls) (own ∷ owns) (suc n) e = lines_end z r c m ls owns n (omega arith)

-- lines at the entry
pub lines_at_entry : (z : Constants) (c : Caller) (m : ℕ) (ls : List Line) (owns : List (List ℕ)) → lines_at z (at_stage []) c m ls owns ≡ lines_hold z c ls owns
lines_at_entry z c m [] owns = refl
lines_at_entry z c m (l ∷ ls) [] = refl
lines_at_entry z c m (l ∷ ls) (own ∷ owns) = ap (λ (fs : List Symbolic). line_holds z c l own ++ fs) (lines_at_entry z c (m + 1) ls owns)

-- ---- the requires lines of all calls

pub ready_next : (d : Specification) (z : Constants) (os : List ℕ) (owns : List (List (List ℕ))) (i : ℕ) (own : List (List ℕ)) → i < length os → i < length owns → own ≡ get_or owns i own
    → calls_ready d z i (drop i os) (drop i owns) ≡ lines_hold z (caller z i) (op_of d (slice_index os i)).requires_ own ++ calls_ready d z (i + 1) (drop (i + 1) os) (drop (i + 1) owns)
ready_next d z os owns i own h g is =
    let e : suc i ≡ i + 1 = omega arith in
    let p = drop-cons os i 0 h in let q = drop-cons owns i own g in
    (λ j. calls_ready d z i (p j) (q j))
    ∙ (λ j. lines_hold z (caller z i) (op_of d (slice_index os i)).requires_ (sym is j) ++ calls_ready d z (e j) (drop (e j) os) (drop (e j) owns))

pub ready_end : (d : Specification) (z : Constants) (m : ℕ) (os : List ℕ) (owns : List (List (List ℕ))) (n : ℕ) → n ≡ min (length os) (length owns) → calls_ready d z m (drop n os) (drop n owns) ≡ []
ready_end d z m [] owns zero e = refl
ready_end d z m (o ∷ os) [] zero e = refl
ready_end d z m (o ∷ os) (own ∷ owns) zero e = absurd (omega arith)
ready_end d z m [] owns (suc n) e = absurd (omega arith)
ready_end d z m (o ∷ os) [] (suc n) e = absurd (omega arith)
ready_end d z m (o ∷ os) (own ∷ owns) (suc n) e = ready_end d z m os owns n (omega arith)
