-- The atoms of clauses, and the places of rows, are numbers of the problem.
use Rattle.std.proofs.Common.{◌≡◌, ℕ, zero, suc, ◌+◌, ◌<◌, ◌≤◌, ℤ, Bool, true, false, cond, ◌&&◌, Option, Some, None, List, [], ◌∷◌, ◌++◌, map, length, refl, ◌∙◌, ap, arith, length-append}
use Rattle.std.specs.Prelude.{nat_lt, replicate, ◌+ℤ◌}
use Rattle.std.specs.List.{fold, list_all}
use Rattle.std.proofs.lemmas.Bool.{and_parts, and_from}
use Rattle.std.proofs.lemmas.Bool.Decides.{nat_tests}
use Rattle.std.proofs.lemmas.List.{length-map, length-replicate}
use Rattle.std.proofs.lemmas.List.Folds.{list_all-append}
use Rattle.lin_rows.specs.declared.term.RowTerm.{RowTerm}
use Rattle.lin_rows.specs.Numbers.{is_zero}
use Rattle.lin_rows.specs.Rows.{Row, places_below}
use Rattle.lin_rows.specs.Sums.{put}
use Rattle.proof_lines.specs.declared.clause.Lit.{Lit}
use Rattle.proof_lines.specs.declared.problem.AtomKind.{AtomKind}
use Rattle.proof_lines.specs.declared.problem.AtomKind.TheVariants.{Plain, Row as OfRow}
use Rattle.proof_lines.specs.Clauses.{lit_of, has, insert, join}
use Rattle.proof_lines.specs.Problems.{atoms_below, names_below, fits}
use Rattle.ground_problem.specs.Symbols.{Integer, Part, number, multiple, Symbolic, always, same, has as holds_at, at_most, negated, both, either}
use Rattle.ground_numbers.specs.Numbered.{Numbered, known, literal, negation, conjunction, disjunction, is_below}
use Rattle.ground_numbers.specs.Numbers.{Atom, same_atom, has_atom, row_atom, same_integers, Table, has_number, has_integer, integer_of, with_atom, with_integer, with_integers, terms_of, with_term, row_of, with_row, with_sums, naming, naming_all}
use Rattle.ground_numbers.specs.Clauses.{Normal, lit, all, any, Folded, settled, unsettled, fold_all, fold_any, folded, names, inner_names, new_names, literals, in_front, clause_of, Role, whole, parts, written, clauses_of, names_of, all_names, all_clauses}
use Rattle.ground_numbers.specs.Problem.{kind_of, rows_placed, problem}
use Rattle.ground_numbers.proofs.Lookups.{position-below}
use Rattle.ground_numbers.proofs.Growing.{IntegersIn, with_sums-has}

below : (a b : ℕ) → a < b → nat_lt a b ≡ true
below a b h = grind (arith, nat_tests)

is_under : (a b : ℕ) → nat_lt a b ≡ true → a < b
is_under a b h = grind (arith, nat_tests)

under : (a b c : ℕ) → nat_lt a b ≡ true → b ≤ c → nat_lt a c ≡ true
under a b c h k = grind (arith, nat_tests)

-- ---- clauses

module _ (m : ℕ) where
  insert-below : (c : List Lit) (l : Lit) → atoms_below m c ≡ true → nat_lt l.atom m ≡ true → atoms_below m (insert c l) ≡ true
  insert-below c l h k = by_test (has c l)
    where
      by_test : (b : Bool) → atoms_below m (cond b c (c ++ l ∷ [])) ≡ true
      by_test true = h
      by_test false = list_all-append (λ x. nat_lt x.atom m) c (l ∷ []) ∙ and_from (atoms_below m c) _ h (and_from (nat_lt l.atom m) true k refl)

  join-below : (c d : List Lit) → atoms_below m c ≡ true → atoms_below m d ≡ true → atoms_below m (join c d) ≡ true
  join-below c [] h k = h
  join-below c (l ∷ d) h k = (let p = and_parts (nat_lt l.atom m) (atoms_below m d) k in join-below (insert c l) d (insert-below c l h p.0) p.1)

  both-below : (c d : List Lit) → atoms_below m c ≡ true → atoms_below m d ≡ true → atoms_below m (c ++ d) ≡ true
  both-below c d h k = list_all-append (λ x. nat_lt x.atom m) c d ∙ and_from (atoms_below m c) (atoms_below m d) h k

  abbrev pub normal_below : Normal → Bool
  normal_below (lit l) = nat_lt l.atom m
  normal_below (all f g) = normal_below f && normal_below g
  normal_below (any f g) = normal_below f && normal_below g

  left_fits : (a b c n : ℕ) → a + (b + c) ≤ n → a + b ≤ n
  left_fits a b c n h = omega arith

  right_fits : (a b c n : ℕ) → a + (b + c) ≤ n → a + b + c ≤ n
  right_fits a b c n h = omega arith

  literals-below : (p : ℕ) (f : Normal) → normal_below f ≡ true → p + names f ≤ m → atoms_below m (literals p f) ≡ true
  literals-below p (lit l) h k = and_from (nat_lt l.atom m) true h refl
  literals-below p (all f g) h k = and_from (nat_lt p m) true (below p m (omega arith)) refl
  literals-below p (any f g) h k =
      let q = and_parts (normal_below f) (normal_below g) h in
      both-below (literals p f) (literals (p + names f) g) (literals-below p f q.0 (left_fits p (names f) (names g) m k)) (literals-below (p + names f) g q.1 (right_fits p (names f) (names g) m k))

  clause-below : (front : Option Lit) (p : ℕ) (f : Normal) → atoms_below m (in_front front) ≡ true → normal_below f ≡ true → p + names f ≤ m → atoms_below m (clause_of front p f) ≡ true
  clause-below front p f e h k = join-below [] (in_front front ++ literals p f) refl (both-below (in_front front) (literals p f) e (literals-below p f h k))

  abbrev RoleBelow : Role → Normal → Type 0
  RoleBelow (whole front) f = atoms_below m (in_front front) ≡ true
  RoleBelow (parts p) f = p + names f ≤ m

  abbrev names_by : Role → Normal → ℕ
  names_by (whole front) f = new_names f
  names_by (parts p) f = inner_names f

  all-both : (xs ys : List (List Lit)) → list_all (atoms_below m) xs ≡ true → list_all (atoms_below m) ys ≡ true → list_all (atoms_below m) (xs ++ ys) ≡ true
  all-both xs ys h k = list_all-append (atoms_below m) xs ys ∙ and_from (list_all (atoms_below m) xs) (list_all (atoms_below m) ys) h k

  written-below : (role : Role) (n : ℕ) (f : Normal) → normal_below f ≡ true → RoleBelow role f → n + names_by role f ≤ m → list_all (atoms_below m) (written role n f) ≡ true
  written-below (whole front) n (lit l) h e k = and_from (atoms_below m (clause_of front n (lit l))) true (clause-below front n (lit l) e h (omega arith)) refl
  written-below (parts p) n (lit l) h e k = refl
  written-below (whole front) n (all f g) h e k =
      let q = and_parts (normal_below f) (normal_below g) h in
      all-both (written (whole front) n f) (written (whole front) (n + new_names f) g)
      (written-below (whole front) n f q.0 e (fits_left n (new_names f) (new_names g) k))
      (written-below (whole front) (n + new_names f) g q.1 e (fits_right n (new_names f) (new_names g) k))
    where
      fits_left : (n a b : ℕ) → n + (0 + (a + b)) ≤ m → n + a ≤ m
      fits_left n a b h = omega arith

      fits_right : (n a b : ℕ) → n + (0 + (a + b)) ≤ m → n + a + b ≤ m
      fits_right n a b h = omega arith
  written-below (parts p) n (all f g) h e k =
      let q = and_parts (normal_below f) (normal_below g) h in
      let named = whole (Some (lit_of p false)) in
      let front = and_from (nat_lt p m) true (below p m (omega arith)) refl in
      all-both (written named n f) (written named (n + new_names f) g)
      (written-below named n f q.0 front (left_fits n (new_names f) (new_names g) m k))
      (written-below named (n + new_names f) g q.1 front (right_fits n (new_names f) (new_names g) m k))
  written-below (whole front) n (any f g) h e k =
      let q = and_parts (normal_below f) (normal_below g) h in
      let from = n + names f + names g in
      and_from (atoms_below m (clause_of front n (any f g))) _
      (clause-below front n (any f g) e h (left_fits n (names f + names g) (inner_names f + inner_names g) m k))
      (all-both (written (parts n) from f) (written (parts (n + names f)) (from + inner_names f) g)
      (written-below (parts n) from f q.0 (first n (names f) (names g) (inner_names f) (inner_names g) k) (second n (names f) (names g) (inner_names f) (inner_names g) k))
      (written-below (parts (n + names f)) (from + inner_names f) g q.1 (third n (names f) (names g) (inner_names f) (inner_names g) k) (fourth n (names f) (names g) (inner_names f) (inner_names g) k)))
    where
      first : (n a b c d : ℕ) → n + (a + b + (c + d)) ≤ m → n + a ≤ m
      first n a b c d h = omega arith

      second : (n a b c d : ℕ) → n + (a + b + (c + d)) ≤ m → n + a + b + c ≤ m
      second n a b c d h = omega arith

      third : (n a b c d : ℕ) → n + (a + b + (c + d)) ≤ m → n + a + b ≤ m
      third n a b c d h = omega arith

      fourth : (n a b c d : ℕ) → n + (a + b + (c + d)) ≤ m → n + a + b + c + d ≤ m
      fourth n a b c d h = omega arith
  written-below (parts p) n (any f g) h e k =
      let q = and_parts (normal_below f) (normal_below g) h in
      all-both (written (parts p) n f) (written (parts (p + names f)) (n + inner_names f) g)
      (written-below (parts p) n f q.0 (left_fits p (names f) (names g) m e) (left_fits n (inner_names f) (inner_names g) m k))
      (written-below (parts (p + names f)) (n + inner_names f) g q.1 (right_fits p (names f) (names g) m e) (right_fits n (inner_names f) (inner_names g) m k))

  -- ---- of folded formulas

  abbrev folded_below : Folded → Bool
  folded_below (settled b) = true
  folded_below (unsettled f) = normal_below f

  fold_all-below : (f g : Folded) → folded_below f ≡ true → folded_below g ≡ true → folded_below (fold_all f g) ≡ true
  fold_all-below (settled true) g h k = k
  fold_all-below (settled false) g h k = refl
  fold_all-below (unsettled f) (settled true) h k = h
  fold_all-below (unsettled f) (settled false) h k = refl
  fold_all-below (unsettled f) (unsettled g) h k = and_from (normal_below f) (normal_below g) h k

  fold_any-below : (f g : Folded) → folded_below f ≡ true → folded_below g ≡ true → folded_below (fold_any f g) ≡ true
  fold_any-below (settled true) g h k = refl
  fold_any-below (settled false) g h k = k
  fold_any-below (unsettled f) (settled true) h k = refl
  fold_any-below (unsettled f) (settled false) h k = h
  fold_any-below (unsettled f) (unsettled g) h k = and_from (normal_below f) (normal_below g) h k

  folded-below : (base : ℕ) → base ≤ m → (s : Bool) (f : Numbered) → is_below base f ≡ true → folded_below (folded s f) ≡ true
  folded-below base l s (known b) h = refl
  folded-below base l true (literal a t) h = under a base m h l
  folded-below base l false (literal a t) h = under a base m h l
  folded-below base l true (negation f) h = folded-below base l false f h
  folded-below base l false (negation f) h = folded-below base l true f h
  folded-below base l true (conjunction f g) h = (let k = and_parts (is_below base f) (is_below base g) h in fold_all-below (folded true f) (folded true g) (folded-below base l true f k.0) (folded-below base l true g k.1))
  folded-below base l false (conjunction f g) h = (let k = and_parts (is_below base f) (is_below base g) h in fold_any-below (folded false f) (folded false g) (folded-below base l false f k.0) (folded-below base l false g k.1))
  folded-below base l true (disjunction f g) h = (let k = and_parts (is_below base f) (is_below base g) h in fold_any-below (folded true f) (folded true g) (folded-below base l true f k.0) (folded-below base l true g k.1))
  folded-below base l false (disjunction f g) h = (let k = and_parts (is_below base f) (is_below base g) h in fold_all-below (folded false f) (folded false g) (folded-below base l false f k.0) (folded-below base l false g k.1))

  clauses_of-below : (n : ℕ) (f : Folded) → folded_below f ≡ true → n + names_of f ≤ m → list_all (atoms_below m) (clauses_of n f) ≡ true
  clauses_of-below n (settled true) h k = refl
  clauses_of-below n (settled false) h k = refl
  clauses_of-below n (unsettled f) h k = written-below (whole None) n f h refl k

  -- The clauses of formulas whose atoms are below a number name their atoms and the new ones.
  pub all_clauses-below : (base : ℕ) → base ≤ m → (n : ℕ) (fs : List Numbered) → list_all (is_below base) fs ≡ true → n + all_names fs ≤ m → list_all (atoms_below m) (all_clauses n fs) ≡ true
  all_clauses-below base l n [] h k = refl
  all_clauses-below base l n (f ∷ fs) h k =
      let q = and_parts (is_below base f) (list_all (is_below base) fs) h in
      let c = names_of (folded true f) in
      all-both (clauses_of n (folded true f)) (all_clauses (n + c) fs)
      (clauses_of-below n (folded true f) (folded-below base l true f q.0) (left_fits n c (all_names fs) m k))
      (all_clauses-below base l (n + c) fs q.1 (right_fits n c (all_names fs) m k))

-- ---- places of rows

abbrev pub terms_below : ℕ → List RowTerm → Bool
terms_below n ts = list_all (λ t. nat_lt t.place n) ts

put-placed : (n p : ℕ) (k : ℤ) (ts : List RowTerm) → nat_lt p n ≡ true → terms_below n ts ≡ true → terms_below n (put (record { place = p; coef = k }) ts) ≡ true
put-placed n p k ts h e = by_test (is_zero k)
  where
    by_test : (b : Bool) → terms_below n (cond b ts (record { place = p; coef = k } ∷ ts)) ≡ true
    by_test true = e
    by_test false = and_from (nat_lt p n) (terms_below n ts) h e

with_term-placed : (n : ℕ) (ts : List RowTerm) (u : RowTerm) → terms_below n ts ≡ true → nat_lt u.place n ≡ true → terms_below n (with_term ts u) ≡ true
with_term-placed n [] u h e = put-placed n u.place u.coef [] e refl
with_term-placed n (t ∷ ts) u h e =
    let k = and_parts (nat_lt t.place n) (terms_below n ts) h in
    by_tests (nat_lt t.place u.place) (nat_lt u.place t.place) k.0 k.1 (with_term-placed n ts u k.1 e)
  where
    by_tests : (b c : Bool) → nat_lt t.place n ≡ true → terms_below n ts ≡ true → terms_below n (with_term ts u) ≡ true → terms_below n (cond b (t ∷ with_term ts u) (cond c (put u (t ∷ ts)) (put (record { place = t.place; coef = t.coef +ℤ u.coef }) ts))) ≡ true
    by_tests true c p q ih = and_from (nat_lt t.place n) _ p ih
    by_tests false true p q ih = put-placed n u.place u.coef (t ∷ ts) e h
    by_tests false false p q ih = put-placed n t.place (t.coef +ℤ u.coef) ts p q

fold-placed : (n : ℕ) (so_far ts : List RowTerm) → terms_below n so_far ≡ true → terms_below n ts ≡ true → terms_below n (fold with_term so_far ts) ≡ true
fold-placed n so_far [] h e = h
fold-placed n so_far (t ∷ ts) h e = (let k = and_parts (nat_lt t.place n) (terms_below n ts) e in fold-placed n (with_term so_far t) ts (with_term-placed n so_far t h k.0) k.1)

terms_of-placed : (o : Table) (s : Bool) (ps : List Part) → IntegersIn o ps → terms_below (length o.ints) (terms_of o s ps) ≡ true
terms_of-placed o s [] h = refl
terms_of-placed o s (number n ∷ ps) h = terms_of-placed o s ps h
terms_of-placed o s (multiple k x ∷ ps) h = and_from (nat_lt (integer_of o x) (length o.ints)) _ (below _ _ (position-below (same_integers x) o.ints h.0)) (terms_of-placed o s ps h.1)

pub row_of-placed : (o : Table) (t u : List Part) (n : ℤ) → IntegersIn o t → IntegersIn o u → places_below (length o.ints) (row_of o t u n) ≡ true
row_of-placed o t u n h k = fold-placed (length o.ints) [] (terms_of o true t ++ terms_of o false u) refl (list_all-append (λ x. nat_lt x.place (length o.ints)) (terms_of o true t) (terms_of o false u) ∙ and_from _ _ (terms_of-placed o true t h) (terms_of-placed o false u k))

-- ---- rows of a table

wider : (m n : ℕ) → m ≤ n → (ks : List AtomKind) → list_all (names_below m) ks ≡ true → list_all (names_below n) ks ≡ true
wider m n l [] h = refl
wider m n l (Plain ∷ ks) h = wider m n l ks h
wider m n l (OfRow r ∷ ks) h = (let k = and_parts (places_below m r) (list_all (names_below m) ks) h in and_from (places_below n r) _ (wider_terms r.terms k.0) (wider m n l ks k.1))
  where
    wider_terms : (ts : List RowTerm) → terms_below m ts ≡ true → terms_below n ts ≡ true
    wider_terms [] h = refl
    wider_terms (t ∷ ts) h = (let k = and_parts (nat_lt t.place m) (terms_below m ts) h in and_from (nat_lt t.place n) _ (under t.place m n k.0 l) (wider_terms ts k.1))

with_integer-placed : (o : Table) (x : Integer) → rows_placed o ≡ true → rows_placed (with_integer o x) ≡ true
with_integer-placed o x h = by_test (has_integer o x)
  where
    longer : length o.ints ≤ length (o.ints ++ x ∷ [])
    longer = (let e = length-append o.ints (x ∷ []) in omega arith)

    by_test : (b : Bool) → list_all (names_below (length (cond b o.ints (o.ints ++ x ∷ [])))) (map kind_of o.atoms) ≡ true
    by_test true = h
    by_test false = wider (length o.ints) (length (o.ints ++ x ∷ [])) longer (map kind_of o.atoms) h

with_integers-placed : (o : Table) (ps : List Part) → rows_placed o ≡ true → rows_placed (with_integers o ps) ≡ true
with_integers-placed o [] h = h
with_integers-placed o (number n ∷ ps) h = with_integers-placed o ps h
with_integers-placed o (multiple k x ∷ ps) h = with_integers-placed (with_integer o x) ps (with_integer-placed o x h)

with_atom-placed : (o : Table) (a : Atom) → rows_placed o ≡ true → names_below (length o.ints) (kind_of a) ≡ true → rows_placed (with_atom o a) ≡ true
with_atom-placed o a h e = by_test (has_number o a)
  where
    map-last : (bs : List Atom) → map kind_of (bs ++ a ∷ []) ≡ map kind_of bs ++ kind_of a ∷ []
    map-last [] = refl
    map-last (b ∷ bs) = ap (λ ks. kind_of b ∷ ks) (map-last bs)

    by_test : (b : Bool) → list_all (names_below (length o.ints)) (map kind_of (cond b o.atoms (o.atoms ++ a ∷ []))) ≡ true
    by_test true = h
    by_test false = ap (list_all (names_below (length o.ints))) (map-last o.atoms) ∙ list_all-append (names_below (length o.ints)) (map kind_of o.atoms) (kind_of a ∷ []) ∙ and_from (rows_placed o) _ h (and_from (names_below (length o.ints) (kind_of a)) true e refl)

with_row-placed : (o : Table) (ts : List RowTerm) (r : Row) → rows_placed o ≡ true → places_below (length o.ints) r ≡ true → rows_placed (with_row o ts r) ≡ true
with_row-placed o [] r h e = h
with_row-placed o (t ∷ ts) r h e = with_atom-placed o (row_atom r) h e

pub naming-placed : (o : Table) (f : Symbolic) → rows_placed o ≡ true → rows_placed (naming o f) ≡ true
naming-placed o (always b) h = h
naming-placed o (same a b) h = with_atom-placed o (same_atom a b) h refl
naming-placed o (holds_at k r t) h = with_atom-placed o (has_atom k r t) h refl
naming-placed o (at_most t u n) h =
    let p = with_sums o t u in
    let k = with_sums-has o t u in
    with_row-placed p (row_of p t u n).terms (row_of p t u n) (with_integers-placed (with_integers o t) u (with_integers-placed o t h)) (row_of-placed p t u n k.0 k.1)
naming-placed o (negated f) h = naming-placed o f h
naming-placed o (both f g) h = naming-placed (naming o f) g (naming-placed o f h)
naming-placed o (either f g) h = naming-placed (naming o f) g (naming-placed o f h)

pub naming_all-placed : (o : Table) (fs : List Symbolic) → rows_placed o ≡ true → rows_placed (naming_all o fs) ≡ true
naming_all-placed o [] h = h
naming_all-placed o (f ∷ fs) h = naming_all-placed (naming o f) fs (naming-placed o f h)

-- ---- a problem

plain-placed : (n k : ℕ) → list_all (names_below n) (replicate k Plain) ≡ true
plain-placed n zero = refl
plain-placed n (suc k) = plain-placed n k

-- The problem of formulas that name atoms of a table whose rows are placed.
pub problem-fits : (o : Table) (fs : List Numbered) → rows_placed o ≡ true → list_all (is_below (length o.atoms)) fs ≡ true → fits (problem o fs) ≡ true
problem-fits o fs h k =
    let n = length o.atoms in
    let m = length (problem o fs).atoms in
    and_from (list_all (names_below (length o.ints)) (problem o fs).atoms) _
    (list_all-append (names_below (length o.ints)) (map kind_of o.atoms) (replicate (all_names fs) Plain) ∙ and_from (rows_placed o) _ h (plain-placed (length o.ints) (all_names fs)))
    (all_clauses-below m n (first n (all_names fs) m count) n fs k (second n (all_names fs) m count))
  where
    count : length (map kind_of o.atoms ++ replicate (all_names fs) Plain) ≡ length o.atoms + all_names fs
    count = length-append (map kind_of o.atoms) (replicate (all_names fs) Plain) ∙ (let p = length-map o.atoms kind_of in let q = length-replicate (all_names fs) Plain in omega arith)

    first : (a b c : ℕ) → c ≡ a + b → a ≤ c
    first a b c e = omega arith

    second : (a b c : ℕ) → c ≡ a + b → a + b ≤ c
    second a b c e = omega arith
