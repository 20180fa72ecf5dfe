-- A list of elements is among all those of some sorts exactly where it fits them.
use Rattle.std.proofs.Common.{◌≡◌, ℕ, zero, suc, Bool, false, ◌&&◌, ◌||◌, ◌==◌, nat_lt, List, [], ◌∷◌, map, refl, ◌∙◌, ap, arith}
use Rattle.std.specs.Str.{bytes_eq}
use Rattle.std.specs.List.{list_any}
use Rattle.std.proofs.lemmas.Bool.Decides.{nat_tests}
use Rattle.std.proofs.lemmas.List.Folds.{list_any-append}
use Rattle.spec_core.specs.declared.world.World.{World}
use Rattle.spec_core.specs.World.{size_of, below, each_before, tuples}
use Rattle.spec_core.specs.State.{is_in}
use Rattle.spec_core.specs.Fits.{fits_places}

nil_in-map : (e : ℕ) (ts : List (List ℕ)) → is_in [] (map (λ t. e ∷ t) ts) ≡ false
nil_in-map e [] = refl
nil_in-map e (t ∷ ts) = nil_in-map e ts

pub nil_in-each_before : (es : List ℕ) (ts : List (List ℕ)) → is_in [] (each_before es ts) ≡ false
nil_in-each_before [] ts = refl
nil_in-each_before (e ∷ es) ts =
    list_any-append (bytes_eq []) (map (λ t. e ∷ t) ts) (each_before es ts)
    ∙ (λ i. nil_in-map e ts i || nil_in-each_before es ts i)

split_and : (a b c : Bool) → ((a && b) || (a && c)) ≡ (a && (b || c))
split_and a b c = grind arith

split_or : (a b c : Bool) → ((a && c) || (b && c)) ≡ ((a || b) && c)
split_or a b c = grind arith

no_and : (a : Bool) → false ≡ (a && false)
no_and a = grind arith

cons_in-map : (k e : ℕ) (ks : List ℕ) (ts : List (List ℕ)) → is_in (k ∷ ks) (map (λ t. e ∷ t) ts) ≡ ((k == e) && is_in ks ts)
cons_in-map k e ks [] = no_and (k == e)
cons_in-map k e ks (t ∷ ts) = ap (λ b. ((k == e) && bytes_eq ks t) || b) (cons_in-map k e ks ts) ∙ split_and (k == e) (bytes_eq ks t) (is_in ks ts)

pub cons_in-each_before : (k : ℕ) (ks es : List ℕ) (ts : List (List ℕ)) → is_in (k ∷ ks) (each_before es ts) ≡ (list_any (λ e. k == e) es && is_in ks ts)
cons_in-each_before k ks [] ts = refl
cons_in-each_before k ks (e ∷ es) ts =
    list_any-append (bytes_eq (k ∷ ks)) (map (λ t. e ∷ t) ts) (each_before es ts)
    ∙ (λ i. cons_in-map k e ks ts i || cons_in-each_before k ks es ts i)
    ∙ split_or (k == e) (list_any (λ e. k == e) es) (is_in ks ts)

pub in_below : (k n : ℕ) → list_any (λ e. k == e) (below n) ≡ nat_lt k n
in_below k zero = none k
  where
    none : (k : ℕ) → false ≡ nat_lt k 0
    none k = grind (arith, nat_tests)
in_below k (suc n) = list_any-append (λ e. k == e) (below n) (n ∷ []) ∙ ap (λ b. b || ((k == n) || false)) (in_below k n) ∙ one_more k n
  where
    one_more : (k n : ℕ) → (nat_lt k n || ((k == n) || false)) ≡ nat_lt k (suc n)
    one_more k n = grind (arith, nat_tests)

pub is_in-tuples : (w : World) (ss t : List ℕ) → is_in t (tuples w ss) ≡ fits_places w ss t
is_in-tuples w [] [] = refl
is_in-tuples w [] (k ∷ ks) = refl
is_in-tuples w (s ∷ ss) [] = nil_in-each_before (below (size_of w s)) (tuples w ss)
is_in-tuples w (s ∷ ss) (k ∷ ks) = cons_in-each_before k ks (below (size_of w s)) (tuples w ss) ∙ (λ i. in_below k (size_of w s) i && is_in-tuples w ss ks i)
