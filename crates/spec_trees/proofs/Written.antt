-- One more of a list that is written.
use Rattle.std.proofs.Common.{◌≡◌, ℕ, zero, suc, ◌+◌, ◌<◌, List, [], ◌∷◌, ◌++◌, length, get_or, take, map, refl, sym, ap, ◌∙◌, append_assoc, arith}
use Rattle.std.proofs.lemmas.List.{append-nil, take_more}
use Rattle.parser_combinators.specs.declared.token.Symbol.{Symbol}
use Rattle.parser_combinators.specs.Words.{Spelt, plain, each, with_place}
use Rattle.parser_combinators.proofs.Part.{plain-append, plain-with_place}

each_push : {A : Type 0} (f : A → List Spelt) (xs : List A) (x : A) → plain (each f (xs ++ x ∷ [])) ≡ plain (each f xs) ++ plain (f x)
each_push f [] x = ap plain (append-nil (f x))
each_push f (y ∷ ys) x = plain-append (f y) (each f (ys ++ x ∷ [])) ∙ ap (λ (t : List Symbol). plain (f y) ++ t) (each_push f ys x) ∙ sym (append_assoc (plain (f y)) (plain (each f ys)) (plain (f x))) ∙ ap (λ (t : List Symbol). t ++ plain (f x)) (sym (plain-append (f y) (each f ys)))

pub each_more : {A : Type 0} (f : A → List Spelt) (xs : List A) (i : ℕ) (d : A) → i < length xs → plain (each f (take (i + 1) xs)) ≡ plain (each f (take i xs)) ++ plain (f (get_or xs i d))
each_more f xs i d lt = ap (λ (ys : _). plain (each f ys)) (take_more xs i d lt) ∙ each_push f (take i xs) (get_or xs i d)

pub each-map : {A B : Type 0} (f : B → List Spelt) (g : A → B) (xs : List A) → each f (map g xs) ≡ each (λ x. f (g x)) xs
each-map f g [] = refl
each-map f g (x ∷ xs) = ap (λ (t : List Spelt). f (g x) ++ t) (each-map f g xs)

pub ruleset putting = (plain-append, append_assoc, plain-with_place, each-map)

pub written : {A : Type 0} (f : A → List Spelt) (xs : List A) (i : ℕ) (x : A) (start out new : List Symbol) → i < length xs → x ≡ get_or xs i x → out ≡ start ++ plain (each f (take i xs)) → new ≡ out ++ plain (f x) → new ≡ start ++ plain (each f (take (i + 1) xs))
written f xs i x start out new lt is so_far now =
    now ∙ ap (λ (t : List Symbol). t ++ plain (f x)) so_far ∙ append_assoc start (plain (each f (take i xs))) (plain (f x)) ∙ ap (λ (t : List Symbol). start ++ t) (ap (λ (y : _). plain (each f (take i xs)) ++ plain (f y)) is ∙ sym (each_more f xs i x lt))
