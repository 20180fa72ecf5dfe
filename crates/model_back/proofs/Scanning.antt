-- A list that is read from its front, one by one, until there is none.
use Rattle.std.specs.List.{range_with_len, list_all}
use Rattle.std.proofs.lemmas.Bool.{and_parts}
use Rattle.std.proofs.lemmas.List.FromFn.{get_or-map-range_with_len}
use Rattle.std.proofs.Common.{map, ◌≡◌, ℕ, zero, suc, ◌+◌, ◌==◌, ◌<◌, ℤ, Bool, true, false, not, cond, ◌&&◌, length, get_or, None, Some, List, [], ◌∷◌, ◌++◌, drop, drop-cons, slice_get, refl, sym, ◌∙◌, ap, subst, append_assoc, arith}
use Rattle.spec_core.specs.declared.world.World.{World}
use Rattle.spec_core.specs.Specification.{Specification}
use Rattle.spec_core.specs.State.{Reads}
use Rattle.spec_core.specs.declared.spec.Relation.{Relation}
use Rattle.spec_core.specs.declared.spec.Counter.{Counter}
use Rattle.spec_core.specs.Fits.{lists_fit, values_fit}
use Rattle.ground_problem.specs.Symbols.{Integer}
use Rattle.model_back.specs.Filling.{fill_atom, filled, fill_integer, filled_integers, AtomFits, AtomsFit, IntegerFits, IntegersFit}
use Rattle.ground_numbers.specs.Numbers.{Atom}
use Rattle.model_back.specs.declared.equals.Equal.{Equal}
use Rattle.ground_problem.specs.Classes.{any_like, firsts}
use Rattle.ground_problem.specs.Constants.{of_sort}
use Rattle.model_back.specs.Equals.{equal_of, equals_from, with_class}

pub drop_one : {X : Type 0} (xs : List X) (n : ℕ) (x : X) → Some x ≡ slice_get xs n → drop n xs ≡ x ∷ drop (suc n) xs
drop_one [] n x h = absurd cc
drop_one (y ∷ xs) zero x h = (let e : x ≡ y = cc in ap (λ z. z ∷ xs) (sym e))
drop_one (y ∷ xs) (suc n) x h = drop_one xs n x h

pub drop_none : {X : Type 0} (xs : List X) (n : ℕ) → None ≡ slice_get xs n → drop n xs ≡ []
drop_none [] zero h = refl
drop_none [] (suc n) h = refl
drop_none (y ∷ xs) zero h = absurd cc
drop_none (y ∷ xs) (suc n) h = drop_none xs n h

append_none : {X : Type 0} (xs : List X) → xs ++ [] ≡ xs
append_none [] = refl
append_none (x ∷ xs) = ap (λ ys. x ∷ ys) (append_none xs)

pub equals_on : (v : ℕ → Bool) (xs : List Atom) (es fs : List Equal) (n : ℕ) (x : Atom) → equals_from v 0 xs ≡ es ++ equals_from v n (drop n xs) → Some x ≡ slice_get xs n → fs ≡ es ++ equal_of (v n) x → equals_from v 0 xs ≡ fs ++ equals_from v (n + 1) (drop (n + 1) xs)
equals_on v xs es fs n x h g e =
    let next : n + 1 ≡ suc n = omega arith in
    h ∙ ap (λ zs. es ++ equals_from v n zs) (drop_one xs n x g) ∙ sym (append_assoc es (equal_of (v n) x) (equals_from v (suc n) (drop (suc n) xs))) ∙ ap (λ z. z ++ equals_from v (suc n) (drop (suc n) xs)) (sym e) ∙ ap (λ m. fs ++ equals_from v m (drop m xs)) (sym next)

pub equals_all : (v : ℕ → Bool) (xs : List Atom) (es : List Equal) (n : ℕ) → equals_from v 0 xs ≡ es ++ equals_from v n (drop n xs) → None ≡ slice_get xs n → es ≡ equals_from v 0 xs
equals_all v xs es n h g = sym (h ∙ ap (λ zs. es ++ equals_from v n zs) (drop_none xs n g) ∙ append_none es)

-- ---- the constants of a sort

pub classes_on : (like : ℕ → ℕ → Bool) (all fs gs sorts : List ℕ) (c n i s : ℕ) → all ≡ fs ++ firsts like fs (of_sort c (drop i sorts) s) → i < length sorts → gs ≡ with_class like (get_or sorts i 0 == s) c fs → n ≡ c + 1 → all ≡ gs ++ firsts like gs (of_sort n (drop (i + 1) sorts) s)
classes_on like all fs gs sorts c n i s h l g k =
    let more = drop (i + 1) sorts in
    let next : n ≡ suc c = omega arith in
    let one : drop i sorts ≡ get_or sorts i 0 ∷ more = (let q : i + 1 ≡ suc i = omega arith in rw (q, drop-cons sorts i 0)) in
    h ∙ ap (λ x. fs ++ firsts like fs (of_sort c x s)) one ∙ by_tests (get_or sorts i 0 == s) (any_like like c fs) refl ∙ ap (λ x. x ++ firsts like x (of_sort (suc c) more s)) (sym g) ∙ ap (λ m. gs ++ firsts like gs (of_sort m more s)) (sym next)
  where
    by_tests : (b e : Bool) → any_like like c fs ≡ e → fs ++ firsts like fs (cond b (c ∷ of_sort (suc c) (drop (i + 1) sorts) s) (of_sort (suc c) (drop (i + 1) sorts) s)) ≡ cond (b && not (any_like like c fs)) (fs ++ c ∷ []) fs ++ firsts like (cond (b && not (any_like like c fs)) (fs ++ c ∷ []) fs) (of_sort (suc c) (drop (i + 1) sorts) s)
    by_tests false e q = refl
    by_tests true true q = ap (λ x. fs ++ cond x (firsts like fs (of_sort (suc c) (drop (i + 1) sorts) s)) (c ∷ firsts like (fs ++ c ∷ []) (of_sort (suc c) (drop (i + 1) sorts) s))) q ∙ ap (λ x. cond (not x) (fs ++ c ∷ []) fs ++ firsts like (cond (not x) (fs ++ c ∷ []) fs) (of_sort (suc c) (drop (i + 1) sorts) s)) (sym q)
    by_tests true false q = ap (λ x. fs ++ cond x (firsts like fs (of_sort (suc c) (drop (i + 1) sorts) s)) (c ∷ firsts like (fs ++ c ∷ []) (of_sort (suc c) (drop (i + 1) sorts) s))) q ∙ sym (append_assoc fs (c ∷ []) (firsts like (fs ++ c ∷ []) (of_sort (suc c) (drop (i + 1) sorts) s))) ∙ ap (λ x. cond (not x) (fs ++ c ∷ []) fs ++ firsts like (cond (not x) (fs ++ c ∷ []) fs) (of_sort (suc c) (drop (i + 1) sorts) s)) (sym q)

-- ---- the readings at the entry

pub filled_on : (d : Specification) (val : ℕ → ℕ) (v : ℕ → Bool) (xs : List Atom) (n : ℕ) (x : Atom) (all r q : Reads) → all ≡ filled d val v n (drop n xs) r → Some x ≡ slice_get xs n → q ≡ fill_atom d val (v n) x r → all ≡ filled d val v (n + 1) (drop (n + 1) xs) q
filled_on d val v xs n x all r q h g e =
    let next : n + 1 ≡ suc n = omega arith in
    h ∙ ap (λ zs. filled d val v n zs r) (drop_one xs n x g) ∙ ap (filled d val v (suc n) (drop (suc n) xs)) (sym e) ∙ ap (λ m. filled d val v m (drop m xs) q) (sym next)

pub filled_all : (d : Specification) (val : ℕ → ℕ) (v : ℕ → Bool) (xs : List Atom) (n : ℕ) (all r : Reads) → all ≡ filled d val v n (drop n xs) r → None ≡ slice_get xs n → r ≡ all
filled_all d val v xs n all r h g = sym (h ∙ ap (λ zs. filled d val v n zs r) (drop_none xs n g))

pub filled_integers_on : (d : Specification) (val : ℕ → ℕ) (v : ℕ → ℤ) (xs : List Integer) (n : ℕ) (x : Integer) (all r q : Reads) → all ≡ filled_integers d val v n (drop n xs) r → Some x ≡ slice_get xs n → q ≡ fill_integer d val (v n) x r → all ≡ filled_integers d val v (n + 1) (drop (n + 1) xs) q
filled_integers_on d val v xs n x all r q h g e =
    let next : n + 1 ≡ suc n = omega arith in
    h ∙ ap (λ zs. filled_integers d val v n zs r) (drop_one xs n x g) ∙ ap (filled_integers d val v (suc n) (drop (suc n) xs)) (sym e) ∙ ap (λ m. filled_integers d val v m (drop m xs) q) (sym next)

pub filled_integers_all : (d : Specification) (val : ℕ → ℕ) (v : ℕ → ℤ) (xs : List Integer) (n : ℕ) (all r : Reads) → all ≡ filled_integers d val v n (drop n xs) r → None ≡ slice_get xs n → r ≡ all
filled_integers_all d val v xs n all r h g = sym (h ∙ ap (λ zs. filled_integers d val v n zs r) (drop_none xs n g))

pub atoms_fit_on : (d : Specification) (w : World) (val : ℕ → ℕ) (xs : List Atom) (n : ℕ) (x : Atom) → AtomsFit d w val (drop n xs) → Some x ≡ slice_get xs n → AtomFits d w val x × AtomsFit d w val (drop (n + 1) xs)
atoms_fit_on d w val xs n x h g =
    let next : n + 1 ≡ suc n = omega arith in
    let k = subst (AtomsFit d w val) (drop_one xs n x g) h in
    (k.0, subst (λ m. AtomsFit d w val (drop m xs)) (sym next) k.1)

pub integers_fit_on : (d : Specification) (w : World) (val : ℕ → ℕ) (xs : List Integer) (n : ℕ) (x : Integer) → IntegersFit d w val (drop n xs) → Some x ≡ slice_get xs n → IntegerFits d w val x × IntegersFit d w val (drop (n + 1) xs)
integers_fit_on d w val xs n x h g =
    let next : n + 1 ≡ suc n = omega arith in
    let k = subst (IntegersFit d w val) (drop_one xs n x g) h in
    (k.0, subst (λ m. IntegersFit d w val (drop m xs)) (sym next) k.1)

-- ---- the elements of constants

pub class_at : (f : ℕ → List ℕ) (lists : List (List ℕ)) (own : List ℕ) (s : ℕ) → lists ≡ map f (range_with_len 0 (length lists)) → s < length lists → own ≡ get_or lists s own → own ≡ f s
class_at f lists own s h l e =
    let z : 0 + s ≡ s = omega arith in
    e ∙ ap (λ xs. get_or xs s own) h ∙ get_or-map-range_with_len f 0 (length lists) s s own l z

pub all_at : (p : ℕ → Bool) (xs : List ℕ) (n : ℕ) → list_all p xs ≡ true → n < length xs → p (get_or xs n 0) ≡ true
all_at p [] n h l = absurd (omega arith)
all_at p (x ∷ xs) zero h l = (and_parts (p x) (list_all p xs) h).0
all_at p (x ∷ xs) (suc n) h l = all_at p xs n (and_parts (p x) (list_all p xs) h).1 (omega arith)

-- a state has a list for each relation and each counter
pub lists_sized : (w : World) (rs : List Relation) (ls : List (List (List ℕ))) → lists_fit w rs ls ≡ true → length ls ≡ length rs
lists_sized w [] [] h = refl
lists_sized w [] (l ∷ ls) h = absurd cc
lists_sized w (r ∷ rs) [] h = absurd cc
lists_sized w (r ∷ rs) (l ∷ ls) h = ap suc (lists_sized w rs ls (and_parts _ (lists_fit w rs ls) h).1)

pub values_sized : (w : World) (cs : List Counter) (ls : List (List (List ℕ × ℤ))) → values_fit w cs ls ≡ true → length ls ≡ length cs
values_sized w [] [] h = refl
values_sized w [] (l ∷ ls) h = absurd cc
values_sized w (c ∷ cs) [] h = absurd cc
values_sized w (c ∷ cs) (l ∷ ls) h = ap suc (values_sized w cs ls (and_parts _ (values_fit w cs ls) h).1)
