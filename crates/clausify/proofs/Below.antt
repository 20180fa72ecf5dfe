-- The literals of the clauses name atoms of the problem.
use Rattle.std.proofs.Common.{◌≡◌, ℕ, zero, suc, ◌+◌, ◌-◌, ◌≤◌, nat_lt, Bool, true, false, not, cond, ◌&&◌, Option, None, Some, List, [], ◌∷◌, ◌++◌, length, replicate, length-append, refl, sym, ◌∙◌, ap, subst, arith}
use Rattle.std.specs.List.{list_all}
use Rattle.std.proofs.lemmas.List.{length-replicate}
use Rattle.std.proofs.lemmas.Bool.{and_parts, and_from}
use Rattle.std.proofs.lemmas.Bool.Decides.{nat_tests}
use Rattle.std.proofs.lemmas.List.Folds.{list_all-append}
use Rattle.proof_lines.specs.declared.clause.Lit.{Lit}
use Rattle.proof_lines.specs.Clauses.{has, insert, join, lit_of}
use Rattle.proof_lines.specs.Problems.{atoms_below, names_below, fits}
use Rattle.proof_lines.specs.declared.problem.AtomKind.{AtomKind}
use Rattle.proof_lines.specs.declared.problem.AtomKind.TheVariants.{Plain}
use Rattle.ground_numbers.specs.Numbered.{Numbered, known, literal, negation, conjunction, disjunction, is_below}
use Rattle.ground_numbers.specs.Clauses.{Normal, lit, all, any, Folded, settled, unsettled, fold_all, fold_any, folded, names, own_names, inner_names, literals, in_front, clause_of, Role, whole, parts, written, names_of, clauses_of, all_names, all_clauses}

below_more : (a m n : ℕ) → nat_lt a m ≡ true → m ≤ n → nat_lt a n ≡ true
below_more a m n h k = grind (arith, nat_tests)

-- ---- folding

abbrev pub normal_below : ℕ → Normal → Bool
normal_below m (lit l) = nat_lt l.atom m
normal_below m (all f g) = normal_below m f && normal_below m g
normal_below m (any f g) = normal_below m f && normal_below m g

abbrev pub folded_below : ℕ → Folded → Bool
folded_below m (settled b) = true
folded_below m (unsettled f) = normal_below m f

fold_all-below : (m : ℕ) (f g : Folded) → folded_below m f ≡ true → folded_below m g ≡ true → folded_below m (fold_all f g) ≡ true
fold_all-below m (settled true) g h k = k
fold_all-below m (settled false) g h k = refl
fold_all-below m (unsettled f) (settled true) h k = h
fold_all-below m (unsettled f) (settled false) h k = refl
fold_all-below m (unsettled f) (unsettled g) h k = and_from (normal_below m f) (normal_below m g) h k

fold_any-below : (m : ℕ) (f g : Folded) → folded_below m f ≡ true → folded_below m g ≡ true → folded_below m (fold_any f g) ≡ true
fold_any-below m (settled true) g h k = refl
fold_any-below m (settled false) g h k = k
fold_any-below m (unsettled f) (settled true) h k = refl
fold_any-below m (unsettled f) (settled false) h k = h
fold_any-below m (unsettled f) (unsettled g) h k = and_from (normal_below m f) (normal_below m g) h k

pub folded-below : (m : ℕ) (s : Bool) (f : Numbered) → is_below m f ≡ true → folded_below m (folded s f) ≡ true
folded-below m s (known b) h = refl
folded-below m s (literal a t) h = h
folded-below m s (negation f) h = folded-below m (not s) f h
folded-below m true (conjunction f g) h = (let p = and_parts (is_below m f) (is_below m g) h in fold_all-below m (folded true f) (folded true g) (folded-below m true f p.0) (folded-below m true g p.1))
folded-below m false (conjunction f g) h = (let p = and_parts (is_below m f) (is_below m g) h in fold_any-below m (folded false f) (folded false g) (folded-below m false f p.0) (folded-below m false g p.1))
folded-below m true (disjunction f g) h = (let p = and_parts (is_below m f) (is_below m g) h in fold_any-below m (folded true f) (folded true g) (folded-below m true f p.0) (folded-below m true g p.1))
folded-below m false (disjunction f g) h = (let p = and_parts (is_below m f) (is_below m g) h in fold_all-below m (folded false f) (folded false g) (folded-below m false f p.0) (folded-below m false g p.1))

-- ---- clauses

append-all : {X : Type 0} (p : X → Bool) (xs ys : List X) → list_all p xs ≡ true → list_all p ys ≡ true → list_all p (xs ++ ys) ≡ true
append-all p xs ys h k = list_all-append p xs ys ∙ and_from (list_all p xs) (list_all p ys) h k

insert-below : (n : ℕ) (c : List Lit) (l : Lit) → atoms_below n c ≡ true → nat_lt l.atom n ≡ true → atoms_below n (insert c l) ≡ true
insert-below n c l h k = by_case (has c l)
  where
    by_case : (b : Bool) → atoms_below n (cond b c (c ++ l ∷ [])) ≡ true
    by_case true = h
    by_case false = append-all (λ x. nat_lt x.atom n) c (l ∷ []) h (and_from (nat_lt l.atom n) true k refl)

join-below : (n : ℕ) (c ls : List Lit) → atoms_below n c ≡ true → atoms_below n ls ≡ true → atoms_below n (join c ls) ≡ true
join-below n c [] h k = h
join-below n c (l ∷ ls) h k = (let p = and_parts (nat_lt l.atom n) (atoms_below n ls) k in join-below n (insert c l) ls (insert-below n c l h p.0) p.1)

literals-below : (m n p : ℕ) (f : Normal) → m ≤ n → normal_below m f ≡ true → p + names f ≤ n → atoms_below n (literals p f) ≡ true
literals-below m n p (lit l) mn h k = and_from (nat_lt l.atom n) true (below_more l.atom m n h mn) refl
literals-below m n p (all f g) mn h k = and_from (nat_lt p n) true (grind (arith, nat_tests)) refl
literals-below m n p (any f g) mn h k =
    let q = and_parts (normal_below m f) (normal_below m g) h in
    append-all (λ (x : Lit). nat_lt x.atom n) (literals p f) (literals (p + names f) g) (literals-below m n p f mn q.0 (omega arith)) (literals-below m n (p + names f) g mn q.1 (omega arith))

-- the numbers that clauses of this role take are below n
abbrev Room : ℕ → Role → ℕ → Normal → Type 0
Room n (whole front) next f = (atoms_below n (in_front front) ≡ true) × (next + (own_names f + inner_names f) ≤ n)
Room n (parts p) next f = (p + names f ≤ n) × (next + inner_names f ≤ n)

clause-below : (m n : ℕ) (front : Option Lit) (p : ℕ) (f : Normal) → m ≤ n → normal_below m f ≡ true → atoms_below n (in_front front) ≡ true → p + names f ≤ n → atoms_below n (clause_of front p f) ≡ true
clause-below m n front p f mn h k l = join-below n [] (in_front front ++ literals p f) refl (append-all (λ (x : Lit). nat_lt x.atom n) (in_front front) (literals p f) k (literals-below m n p f mn h l))

two-below : (n : ℕ) (cs ds : List (List Lit)) → list_all (atoms_below n) cs ≡ true → list_all (atoms_below n) ds ≡ true → list_all (atoms_below n) (cs ++ ds) ≡ true
two-below n cs ds h k = append-all (atoms_below n) cs ds h k

written-below : (m n : ℕ) (r : Role) (next : ℕ) (f : Normal) → m ≤ n → normal_below m f ≡ true → Room n r next f → list_all (atoms_below n) (written r next f) ≡ true
written-below m n (whole front) next (lit l) mn h k = and_from (atoms_below n (clause_of front next (lit l))) true (clause-below m n front next (lit l) mn h k.0 (omega (arith, k.1))) refl
written-below m n (whole front) next (all f g) mn h k =
    let p = and_parts (normal_below m f) (normal_below m g) h in
    let room : next + ((0 + ((own_names f + inner_names f) + (own_names g + inner_names g)))) ≤ n = k.1 in
    two-below n (written (whole front) next f) (written (whole front) (next + (own_names f + inner_names f)) g)
    (written-below m n (whole front) next f mn p.0 (k.0, omega arith))
    (written-below m n (whole front) (next + (own_names f + inner_names f)) g mn p.1 (k.0, omega arith))
written-below m n (whole front) next (any f g) mn h k =
    let p = and_parts (normal_below m f) (normal_below m g) h in
    let room : next + ((names f + names g) + (inner_names f + inner_names g)) ≤ n = k.1 in
    let from = next + names f + names g in
    and_from (atoms_below n (clause_of front next (any f g))) _
    (clause-below m n front next (any f g) mn h k.0 (omega arith))
    (two-below n (written (parts next) from f) (written (parts (next + names f)) (from + inner_names f) g)
    (written-below m n (parts next) from f mn p.0 (omega arith, omega arith))
    (written-below m n (parts (next + names f)) (from + inner_names f) g mn p.1 (omega arith, omega arith)))
written-below m n (parts q) next (lit l) mn h k = refl
written-below m n (parts q) next (all f g) mn h k =
    let p = and_parts (normal_below m f) (normal_below m g) h in
    let room : next + ((own_names f + inner_names f) + (own_names g + inner_names g)) ≤ n = k.1 in
    let name : q + 1 ≤ n = k.0 in
    let front : atoms_below n (in_front (Some (lit_of q false))) ≡ true = and_from (nat_lt q n) true (grind (arith, nat_tests)) refl in
    two-below n (written (whole (Some (lit_of q false))) next f) (written (whole (Some (lit_of q false))) (next + (own_names f + inner_names f)) g)
    (written-below m n (whole (Some (lit_of q false))) next f mn p.0 (front, omega arith))
    (written-below m n (whole (Some (lit_of q false))) (next + (own_names f + inner_names f)) g mn p.1 (front, omega arith))
written-below m n (parts q) next (any f g) mn h k =
    let p = and_parts (normal_below m f) (normal_below m g) h in
    let room : next + (inner_names f + inner_names g) ≤ n = k.1 in
    let name : q + (names f + names g) ≤ n = k.0 in
    two-below n (written (parts q) next f) (written (parts (q + names f)) (next + inner_names f) g)
    (written-below m n (parts q) next f mn p.0 (omega arith, omega arith))
    (written-below m n (parts (q + names f)) (next + inner_names f) g mn p.1 (omega arith, omega arith))

folded_clauses-below : (m n next : ℕ) (f : Folded) → m ≤ n → folded_below m f ≡ true → next + names_of f ≤ n → list_all (atoms_below n) (clauses_of next f) ≡ true
folded_clauses-below m n next (settled true) mn h k = refl
folded_clauses-below m n next (settled false) mn h k = refl
folded_clauses-below m n next (unsettled f) mn h k = written-below m n (whole None) next f mn h (refl, k)

clauses-below : (m n next : ℕ) (fs : List Numbered) → m ≤ n → list_all (is_below m) fs ≡ true → next + all_names fs ≤ n → list_all (atoms_below n) (all_clauses next fs) ≡ true
clauses-below m n next [] mn h k = refl
clauses-below m n next (f ∷ fs) mn h k =
    let p = and_parts (is_below m f) (list_all (is_below m) fs) h in
    let room : next + (names_of (folded true f) + all_names fs) ≤ n = k in
    two-below n (clauses_of next (folded true f)) (all_clauses (next + names_of (folded true f)) fs)
    (folded_clauses-below m n next (folded true f) mn (folded-below m true f p.0) (omega arith))
    (clauses-below m n (next + names_of (folded true f)) fs mn p.1 (omega arith))

-- The literals of the clauses of formulas over m atoms name these atoms, and those that name parts.
pub all_clauses-below : (m : ℕ) (fs : List Numbered) → list_all (is_below m) fs ≡ true → list_all (atoms_below (m + all_names fs)) (all_clauses m fs) ≡ true
all_clauses-below m fs h = clauses-below m (m + all_names fs) m fs (omega arith) h (omega arith)

kinds-placed : (ints n : ℕ) (kinds : List AtomKind) → list_all (names_below ints) kinds ≡ true → list_all (names_below ints) (kinds ++ replicate n Plain) ≡ true
kinds-placed ints n kinds h = append-all (names_below ints) kinds (replicate n Plain) h (plain_placed n)
  where
    plain_placed : (n : ℕ) → list_all (names_below ints) (replicate n Plain) ≡ true
    plain_placed zero = refl
    plain_placed (suc n) = plain_placed n

-- The parts of a problem fit, where the formulas name atoms of these kinds and the rows of these name integers.
pub parts-fit : (kinds atoms : List AtomKind) (ints first end : ℕ) (fs : List Numbered) (cs : List (List Lit)) → first ≡ length kinds → end ≡ first + all_names fs → atoms ≡ kinds ++ replicate (end - first) Plain → cs ≡ all_clauses first fs
    → list_all (is_below first) fs ≡ true → list_all (names_below ints) kinds ≡ true → fits (record { atoms = atoms; ints = ints; clauses = cs }) ≡ true
parts-fit kinds atoms ints first end fs cs e f g i h k =
    let count : end - first ≡ all_names fs = omega arith in
    let a : atoms ≡ kinds ++ replicate (all_names fs) Plain = g ∙ ap (λ n. kinds ++ replicate n Plain) count in
    let b : length (kinds ++ replicate (all_names fs) Plain) ≡ length kinds + all_names fs = length-append kinds (replicate (all_names fs) Plain) ∙ ap (λ n. length kinds + n) (length-replicate (all_names fs) Plain) in
    let size : length atoms ≡ first + all_names fs = ap length a ∙ b ∙ ap (λ n. n + all_names fs) (sym e) in
    and_from (list_all (names_below ints) atoms) _
    (subst (λ (x : List AtomKind). list_all (names_below ints) x ≡ true) (sym a) (kinds-placed ints (all_names fs) kinds k))
    (subst (λ (n : ℕ). list_all (atoms_below n) cs ≡ true) (sym size)
    (subst (λ (x : List (List Lit)). list_all (atoms_below (first + all_names fs)) x ≡ true) (sym i) (all_clauses-below first fs h)))
