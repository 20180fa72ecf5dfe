-- Loops over pairs and over places.
use Rattle.std.proofs.Common.{◌≡◌, ℕ, suc, ◌+◌, ◌<◌, Bool, true, false, ◌&&◌, List, [], ◌∷◌, ◌++◌, length, map, drop, drop-cons, get_or, append_assoc, Option, Some, refl, sym, ◌∙◌, ap, subst, arith}
use Rattle.std.specs.Prelude.{◌==◌, None, Result, Ok, Err, IfOk, IfSome}
use Rattle.std.specs.List.{filter, list_any}
use Rattle.std.proofs.lemmas.List.{map-append}
use Rattle.spec_core.specs.declared.update.Thing.{Thing}
use Rattle.spec_core.specs.declared.update.Thing.TheVariants as thing
use Rattle.effectors.specs.Effect.{is_thing}
use Rattle.ground_problem.specs.Definitions.{Reading}
use Rattle.ground_problem.specs.Equality.{rising}
use Rattle.lazy_ground.specs.declared.pairs.ReadingPairs.{ReadingPairs}
use Rattle.ground_numbers.specs.Numbers.{Table}
use Rattle.lazy_ground.specs.Equal.{fits}
use Rattle.lazy_ground.specs.Kept.{thing_of, IsBuilt, AllBuilt}
use Rattle.lazy_ground.specs.Pairs.{AreNumbers, AllNumbered}
use Rattle.lazy_ground.specs.Named.{ArePairsAt, ArePairsOf}

numbered_last : (o : Table) (ss : List ReadingPairs) (s : ReadingPairs) → AllNumbered o ss → AreNumbers o s.relation s.tuples s.atoms → AllNumbered o (ss ++ s ∷ [])
numbered_last o [] s h k = (k, tt)
numbered_last o (r ∷ ss) s h k = (h.0, numbered_last o ss s h.1 k)

-- a tuple with more or fewer places than there are lists doesn't fit
pub not_fitting : (columns : List (List ℕ)) (t : List ℕ) → ¬ (length columns ≡ length t) → false ≡ fits columns t
not_fitting [] [] h = absurd (h refl)
not_fitting [] (x ∷ t) h = refl
not_fitting (cs ∷ columns) [] h = refl
not_fitting (cs ∷ columns) (x ∷ t) h = by_test (list_any (λ c. c == x) cs) (not_fitting columns t (λ e. h (ap suc e)))
  where
    by_test : (b : Bool) → false ≡ fits columns t → false ≡ (b && fits columns t)
    by_test true e = e
    by_test false e = refl

-- ---- the pairs of a thing

pairs_from : (o : Table) (qs : List Reading) (x : Thing) (r : ℕ) (ts : List (List ℕ)) (s : ReadingPairs) → x ≡ thing.Relation r → ts ≡ rising (filter (λ q. is_thing q.thing (thing.Relation r)) qs)
    → ArePairsAt o r ts s → ArePairsOf o qs x s
pairs_from o qs x r ts s e t h =
    let is : thing_of s ≡ x = ap (λ n. thing.Relation n) h.relation ∙ sym e in
    record {
      thing = is;
      built = record {
        tuples = h.tuples ∙ t ∙ ap (λ n. rising (filter (λ q. is_thing q.thing (thing.Relation n)) qs)) (sym h.relation);
        different = h.built.different;
        columns = h.built.fit;
      };
      numbers = h.built.numbers;
    }

pub pairs_of_if : {E : Type 0} (o : Table) (qs : List Reading) (x : Thing) (r : ℕ) (ts : List (List ℕ)) → x ≡ thing.Relation r → ts ≡ rising (filter (λ q. is_thing q.thing (thing.Relation r)) qs)
    → (found : Result (Option ReadingPairs) E) → IfOk found (λ f. IfSome f (ArePairsAt o r ts)) → IfOk found (λ f. IfSome f (ArePairsOf o qs x))
pairs_of_if o qs x r ts e t (Err why) h = tt
pairs_of_if o qs x r ts e t (Ok None) h = tt
pairs_of_if o qs x r ts e t (Ok (Some s)) h = pairs_from o qs x r ts s e t h

-- ---- one relation more

pub of_some : (o : Table) (qs : List Reading) (x : Thing) (found : Option ReadingPairs) (s : ReadingPairs) → found ≡ Some s → IfSome found (ArePairsOf o qs x) → ArePairsOf o qs x s
of_some o qs x found s e h = subst (λ f. IfSome f (ArePairsOf o qs x)) e h

pub things_next : (xs : List Thing) (i : ℕ) (d : Thing) (ss new : List ReadingPairs) (s : ReadingPairs) → i < length xs → thing_of s ≡ get_or xs i d → new ≡ ss ++ s ∷ []
    → map thing_of ss ++ drop i xs ≡ xs → map thing_of new ++ drop (i + 1) xs ≡ xs
things_next xs i d ss new s h k e g =
    let j : suc i ≡ i + 1 = omega arith in
    let p : drop i xs ≡ thing_of s ∷ drop (i + 1) xs = drop-cons xs i d h ∙ (λ z. sym k z ∷ drop (j z) xs) in
    ap (λ (l : List ReadingPairs). map thing_of l ++ drop (i + 1) xs) e
    ∙ ap (λ (l : List Thing). l ++ drop (i + 1) xs) (map-append thing_of ss (s ∷ []))
    ∙ append_assoc (map thing_of ss) (thing_of s ∷ []) (drop (i + 1) xs)
    ∙ ap (λ (l : List Thing). map thing_of ss ++ l) (sym p)
    ∙ g

built_last : (qs : List Reading) (ss : List ReadingPairs) (s : ReadingPairs) → AllBuilt qs ss → IsBuilt qs s → AllBuilt qs (ss ++ s ∷ [])
built_last qs [] s h k = (k, tt)
built_last qs (r ∷ ss) s h k = (h.0, built_last qs ss s h.1 k)

pub built_next : (qs : List Reading) (ss new : List ReadingPairs) (s : ReadingPairs) → AllBuilt qs ss → IsBuilt qs s → new ≡ ss ++ s ∷ [] → AllBuilt qs new
built_next qs ss new s h k e = subst (AllBuilt qs) (sym e) (built_last qs ss s h k)

pub numbered_next : (o : Table) (ss new : List ReadingPairs) (s : ReadingPairs) → AllNumbered o ss → AreNumbers o s.relation s.tuples s.atoms → new ≡ ss ++ s ∷ [] → AllNumbered o new
numbered_next o ss new s h k e = subst (AllNumbered o) (sym e) (numbered_last o ss s h k)
