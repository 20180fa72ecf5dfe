-- The arguments of calls, numbered one by one, are the first integers.
use Rattle.std.proofs.Common.{◌≡◌, ℕ, suc, ◌≤◌, Bool, true, false, cond, ◌&&◌, ◌||◌, List, [], ◌∷◌, ◌++◌, map, refl, sym, ◌∙◌, ap, arith, append_assoc}
use Rattle.std.specs.Prelude.{◌==◌, nat_lt}
use Rattle.std.specs.List.{fold, list_all, list_any}
use Rattle.std.proofs.lemmas.Bool.{and_parts, and_from}
use Rattle.std.proofs.lemmas.Bool.Decides.{nat_tests}
use Rattle.std.proofs.lemmas.List.{append-nil}
use Rattle.std.proofs.lemmas.List.Folds.{list_all-append}
use Rattle.spec_core.specs.declared.operation.Param.{Param as Parameter}
use Rattle.spec_core.specs.Specification.{Specification}
use Rattle.spec_core.specs.Typed.{is_int}
use Rattle.obligation_list.specs.declared.obligation.Obligation.{Obligation}
use Rattle.ground_problem.specs.Symbols.{Integer, argument, reading, partial}
use Rattle.ground_problem.specs.Constants.{params_of}
use Rattle.ground_numbers.specs.Numbers.{same_integers, Table, with_integer}
use Rattle.ground_numbers.specs.Problem.{numbers_from, arguments_from, arguments_of}

-- an argument of a call before n, or of this call and before i
abbrev is_before : ℕ → ℕ → Integer → Bool
is_before n i (argument c p) = nat_lt c n || ((c == n) && nat_lt p i)
is_before n i (reading k c t) = false
is_before n i (partial m k c t) = false

absent : (n i j : ℕ) (xs : List Integer) → list_all (is_before n i) xs ≡ true → i ≤ j → list_any (same_integers (argument n j)) xs ≡ false
absent n i j [] h l = refl
absent n i j (x ∷ xs) h l = (let k = and_parts (is_before n i x) (list_all (is_before n i) xs) h in neither (same_integers (argument n j) x) (list_any (same_integers (argument n j)) xs) (not_it x k.0) (absent n i j xs k.1 l))
  where
    neither : (a b : Bool) → a ≡ false → b ≡ false → (a || b) ≡ false
    neither a b p q = grind arith

    apart : (c p : ℕ) → (nat_lt c n || ((c == n) && nat_lt p i)) ≡ true → ((n == c) && (j == p)) ≡ false
    apart c p h = grind (arith, nat_tests, l)

    not_it : (x : Integer) → is_before n i x ≡ true → same_integers (argument n j) x ≡ false
    not_it (argument c p) h = apart c p h
    not_it (reading k c t) h = absurd cc
    not_it (partial m k c t) h = absurd cc

wider : (n i m j : ℕ) → ((c p : ℕ) → (nat_lt c n || ((c == n) && nat_lt p i)) ≡ true → (nat_lt c m || ((c == m) && nat_lt p j)) ≡ true) → (xs : List Integer) → list_all (is_before n i) xs ≡ true → list_all (is_before m j) xs ≡ true
wider n i m j f [] h = refl
wider n i m j f (x ∷ xs) h = (let k = and_parts (is_before n i x) (list_all (is_before n i) xs) h in and_from (is_before m j x) _ (one x k.0) (wider n i m j f xs k.1))
  where
    one : (x : Integer) → is_before n i x ≡ true → is_before m j x ≡ true
    one (argument c p) h = f c p h
    one (reading k c t) h = absurd cc
    one (partial o k c t) h = absurd cc

further : (n i c p : ℕ) → (nat_lt c n || ((c == n) && nat_lt p i)) ≡ true → (nat_lt c n || ((c == n) && nat_lt p (suc i))) ≡ true
further n i c p h = grind (arith, nat_tests)

next_call : (n i c p : ℕ) → (nat_lt c n || ((c == n) && nat_lt p i)) ≡ true → (nat_lt c (suc n) || ((c == suc n) && nat_lt p 0)) ≡ true
next_call n i c p h = grind (arith, nat_tests)

here : (n i : ℕ) → (nat_lt n n || ((n == n) && nat_lt i (suc i))) ≡ true
here n i = grind (arith, nat_tests)

-- a table of integers alone
abbrev pub only : List Integer → Table
only xs = record { atoms = []; ints = xs }

-- the table once these are numbered
abbrev pub with_all : Table → List Integer → Table
with_all o xs = fold with_integer o xs

with_all-append : (o : Table) (xs ys : List Integer) → with_all o (xs ++ ys) ≡ with_all (with_all o xs) ys
with_all-append o [] ys = refl
with_all-append o (x ∷ xs) ys = with_all-append (with_integer o x) xs ys

one_more : (done : List Integer) (x : Integer) → list_any (same_integers x) done ≡ false → with_integer (only done) x ≡ only (done ++ x ∷ [])
one_more done x h = ap (λ b. only (cond b done (done ++ x ∷ []))) h

-- the last call's parameters, how far they go, and those before
record NumberedCall (n : ℕ) (done xs : List Integer) : Type 0 where
  pub last : ℕ
  pub before : list_all (is_before n last) (done ++ xs) ≡ true
  pub table : with_all (only done) xs ≡ only (done ++ xs)

numbered_call : (n i : ℕ) (ps : List Parameter) (done : List Integer) → list_all (is_before n i) done ≡ true → NumberedCall n done (map (argument n) (numbers_from i ps))
numbered_call n i [] done h = record { last = i; before = ap (list_all (is_before n i)) (append-nil done) ∙ h; table = ap only (sym (append-nil done)) }
numbered_call n i (p ∷ ps) done h = by_kind (is_int p.kind) (numbered_call n (suc i) ps done (wider n i n (suc i) (further n i) done h)) (numbered_call n (suc i) ps (done ++ argument n i ∷ []) with_this)
  where
    with_this : list_all (is_before n (suc i)) (done ++ argument n i ∷ []) ≡ true
    with_this = list_all-append (is_before n (suc i)) done (argument n i ∷ []) ∙ and_from (list_all (is_before n (suc i)) done) _ (wider n i n (suc i) (further n i) done h) (and_from (is_before n (suc i) (argument n i)) true (here n i) refl)

    by_kind : (b : Bool) → NumberedCall n done (map (argument n) (numbers_from (suc i) ps)) → NumberedCall n (done ++ argument n i ∷ []) (map (argument n) (numbers_from (suc i) ps)) → NumberedCall n done (map (argument n) (cond b (i ∷ numbers_from (suc i) ps) (numbers_from (suc i) ps)))
    by_kind true a c =
        let rest = map (argument n) (numbers_from (suc i) ps) in
        let e = append_assoc done (argument n i ∷ []) rest in
        record { last = c.last; before = ap (list_all (is_before n c.last)) (sym e) ∙ c.before; table = ap (λ (o : Table). with_all o rest) (one_more done (argument n i) (absent n i i done h (omega arith))) ∙ c.table ∙ ap only e }
    by_kind false a c = a

numbered_calls : (n : ℕ) (pss : List (List Parameter)) (done : List Integer) → list_all (is_before n 0) done ≡ true → with_all (only done) (arguments_from n pss) ≡ only (done ++ arguments_from n pss)
numbered_calls n [] done h = ap only (sym (append-nil done))
numbered_calls n (ps ∷ pss) done h =
    let xs = map (argument n) (numbers_from 0 ps) in
    let ys = arguments_from (suc n) pss in
    let a = numbered_call n 0 ps done h in
    with_all-append (only done) xs ys
    ∙ ap (λ (o : Table). with_all o ys) a.table
    ∙ numbered_calls (suc n) pss (done ++ xs) (wider n a.last (suc n) 0 (next_call n a.last) (done ++ xs) a.before)
    ∙ ap only (append_assoc done xs ys)

-- Numbered one by one, the arguments of an obligation's calls are the first integers.
pub arguments-first : (d : Specification) (ob : Obligation) → fold with_integer (record { atoms = []; ints = [] }) (arguments_of d ob) ≡ record { atoms = []; ints = arguments_of d ob }
arguments-first d ob = numbered_calls 0 (params_of d ob) [] refl
