use Rattle.std.proofs.Common.{◌≡◌, ℕ, ◌≤◌, ◌^◌, ℤ, true, nat_lt, nat_le, List, [], ◌∷◌, length, refl, arith}
use Rattle.std.proofs.lemmas.Bool.Decides.{nat_tests}
use Rattle.std.specs.List.{list_all}
use Rattle.spec_core.specs.declared.formula.Elem.{Elem}
use Rattle.spec_core.specs.declared.world.World.{World}
use Rattle.spec_core.specs.Limits.{most_elements}
use Rattle.spec_core.specs.Specification.{Specification}
use Rattle.spec_core.specs.World.{size_of}
use Rattle.spec_core.specs.Truth.{elems_of}
use Rattle.spec_core.specs.Fits.{fits_places, elems_fit, world_fits}
use Rattle.spec_core.specs.Sizes.{is_small}
use Rattle.std.proofs.lemmas.Bool.{and_parts, and_from}
use Rattle.spec_core.proofs.Lists.{list_all-get_or}

pub length-fits_places : (w : World) (ss es : List ℕ) → fits_places w ss es ≡ true → length es ≡ length ss
length-fits_places w [] [] h = refl
length-fits_places w [] (e ∷ es) h = absurd cc
length-fits_places w (s ∷ ss) [] h = absurd cc
length-fits_places w (s ∷ ss) (e ∷ es) h = let p : length es ≡ length ss = length-fits_places w ss es (and_parts (nat_lt e (size_of w s)) (fits_places w ss es) h).1 in omega arith

-- a sort has few elements
pub size_at_most : (d : Specification) (w : World) → world_fits d w ≡ true → (s : ℕ) → size_of w s ≤ most_elements
size_at_most d w h s = let p : nat_le (size_of w s) most_elements ≡ true = list_all-get_or (λ n. nat_le n most_elements) w.sizes (and_parts _ _ h).1 s 0 refl in grind (arith, nat_tests)

below_small : (e n : ℕ) → nat_lt e n ≡ true → n ≤ most_elements → nat_lt e (2 ^ 32) ≡ true
below_small e n h le = grind (arith, nat_tests)

pub small-fits_places : (d : Specification) (w : World) → world_fits d w ≡ true → (args : List ℤ) (vars : List ℕ) (ss : List ℕ) (es : List Elem) → fits_places w ss (elems_of w args vars es) ≡ true → list_all (is_small w args vars) es ≡ true
small-fits_places d w fit args vars [] [] h = refl
small-fits_places d w fit args vars [] (e ∷ es) h = absurd cc
small-fits_places d w fit args vars (s ∷ ss) [] h = refl
small-fits_places d w fit args vars (s ∷ ss) (e ∷ es) h =
    let p = and_parts _ _ h in
    and_from _ _ (below_small _ _ p.0 (size_at_most d w fit s)) (small-fits_places d w fit args vars ss es p.1)

length-elems_of : (w : World) (args : List ℤ) (vars : List ℕ) (es : List Elem) → length (elems_of w args vars es) ≡ length es
length-elems_of w args vars [] = refl
length-elems_of w args vars (e ∷ es) = let p = length-elems_of w args vars es in omega arith

-- what stands at places is small, and no longer than they are
pub elems_small : (d : Specification) (w : World) → world_fits d w ≡ true → (args : List ℤ) (vars : List ℕ) (ss : List ℕ) (es : List Elem) → elems_fit w args vars ss es ≡ true → list_all (is_small w args vars) es ≡ true
elems_small d w fit args vars ss es h = small-fits_places d w fit args vars ss es (and_parts _ _ h).1

pub elems_few : (w : World) (args : List ℤ) (vars : List ℕ) (ss : List ℕ) (es : List Elem) (n : ℕ) → length ss ≤ n → elems_fit w args vars ss es ≡ true → length es ≤ n
elems_few w args vars ss es n le h = let p : length (elems_of w args vars es) ≡ length ss = length-fits_places w ss (elems_of w args vars es) (and_parts _ _ h).1 in let q : length (elems_of w args vars es) ≡ length es = length-elems_of w args vars es in omega arith
