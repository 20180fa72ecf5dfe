-- How long a number is written, and names in use by kind.
use Rattle.std.proofs.Common.{◌≡◌, ℕ, suc, ◌+◌, ◌<◌, ◌≤◌, Bool, not, ◌||◌, List, [], ◌∷◌, ◌++◌, map, length, refl, sym, ◌∙◌, ap, arith}
use Rattle.std.specs.Fmt.{decimal}
use Rattle.std.specs.List.{list_any, flat_map, filter}
use Rattle.std.specs.Str.{bytes_eq}
use Rattle.std.proofs.lemmas.Fmt.{length-decimal-le}
use Rattle.std.proofs.lemmas.List.{map-append}
use Rattle.std.proofs.lemmas.List.Folds.{list_any-append}
use Rattle.std.proofs.lemmas.List.Elements.{filter-append}
use Rattle.spec_core.specs.declared.operation.Param.{Param}
use Rattle.spec_core.specs.declared.operation.Operation.{Operation}
use Rattle.spec_core.specs.declared.spec.Const.{Const}
use Rattle.spec_core.specs.declared.spec.Relation.{Relation}
use Rattle.spec_core.specs.declared.spec.Counter.{Counter}
use Rattle.spec_core.specs.declared.spec.Invariant.{Invariant}
use Rattle.spec_core.specs.Specification.{Specification}
use Rattle.spec_core.specs.State.{is_in}
use Rattle.spec_core.specs.World.{below}
use Rattle.spec_core.specs.Typed.{parameter_names}
use Rattle.conflict_variants.specs.Takes.{with_takes}
use Rattle.conflict_variants.specs.Keyed.{names_in_use, token_name, unused_below, unused_names}

-- the decimal of a byte has at most 3 digits
pub length_of_byte : (i : ℕ) → i < 256 → length (decimal i) ≤ 3
length_of_byte i small = length-decimal-le 3 i (omega arith) (omega arith) (omega (arith, small))

-- a name among those of some things
among : {X : Type 0} (n : List ℕ) (f : X → List ℕ) (xs : List X) → is_in n (map f xs) ≡ list_any (λ x. bytes_eq n (f x)) xs
among n f [] = refl
among n f (x ∷ xs) = ap (λ b. bytes_eq n (f x) || b) (among n f xs)

among_more : {X : Type 0} (n : List ℕ) (f : X → List ℕ) (xs : List X) (ys : List (List ℕ)) (b : Bool) → is_in n ys ≡ b → is_in n (map f xs ++ ys) ≡ (list_any (λ x. bytes_eq n (f x)) xs || b)
among_more n f xs ys b h = list_any-append (bytes_eq n) (map f xs) ys ∙ ap (λ c. c || is_in n ys) (among n f xs) ∙ ap (λ c. list_any (λ x. bytes_eq n (f x)) xs || c) h

pub bare_names : (os : List Operation) → map (λ (o : Operation). o.name) (map (λ o. with_takes o []) os) ≡ map (λ (o : Operation). o.name) os
bare_names [] = refl
bare_names (o ∷ os) = ap (λ ns. o.name ∷ ns) (bare_names os)

among_params : (n : List ℕ) (os : List Operation) → is_in n (flat_map (λ (o : Operation). parameter_names o.params) os) ≡ list_any (λ (o : Operation). list_any (λ (p : Param). bytes_eq n p.name) o.params) os
among_params n [] = refl
among_params n (o ∷ os) =
    list_any-append (bytes_eq n) (parameter_names o.params) (flat_map (λ (o : Operation). parameter_names o.params) os)
    ∙ ap (λ b. b || is_in n (flat_map (λ (o : Operation). parameter_names o.params) os)) (among n (λ (p : Param). p.name) o.params)
    ∙ ap (λ b. list_any (λ (p : Param). bytes_eq n p.name) o.params || b) (among_params n os)

or_regrouped : (a b c e f g h : Bool) → ((a || (b || (c || (e || (f || g))))) || h) ≡ ((a || b || c) || (e || f || g) || h)
or_regrouped a b c e f g h = grind arith

pub any_of_same : (a b c x y z : Bool) → a ≡ x → b ≡ y → c ≡ z → (a || b || c) ≡ (x || y || z)
any_of_same a b c x y z e f g = λ i. e i || f i || g i

-- a name in use, by kind
pub in_use_by_kind : (d : Specification) (n : List ℕ) →
    ((list_any (λ s. bytes_eq n s) d.sorts || list_any (λ (c : Const). bytes_eq n c.name) d.consts || list_any (λ (r : Relation). bytes_eq n r.name) d.relations)
    || (list_any (λ (c : Counter). bytes_eq n c.name) d.counters || list_any (λ (i : Invariant). bytes_eq n i.name) d.invariants || list_any (λ (o : Operation). bytes_eq n o.name) d.operations)
    || list_any (λ (o : Operation). list_any (λ (p : Param). bytes_eq n p.name) o.params) d.operations) ≡ is_in n (names_in_use d)
in_use_by_kind d n =
    let o : is_in n (map (λ (o : Operation). o.name) (map (λ o. with_takes o []) d.operations)) ≡ list_any (λ (o : Operation). bytes_eq n o.name) d.operations = ap (is_in n) (bare_names d.operations) ∙ among n (λ (o : Operation). o.name) d.operations in
    let i = among_more n (λ (i : Invariant). i.name) d.invariants _ _ o in
    let c = among_more n (λ (c : Counter). c.name) d.counters _ _ i in
    let r = among_more n (λ (r : Relation). r.name) d.relations _ _ c in
    let k = among_more n (λ (c : Const). c.name) d.consts _ _ r in
    let s = list_any-append (bytes_eq n) d.sorts (map (λ (c : Const). c.name) d.consts ++ (map (λ (r : Relation). r.name) d.relations ++ (map (λ (c : Counter). c.name) d.counters ++ (map (λ (i : Invariant). i.name) d.invariants ++ map (λ (o : Operation). o.name) (map (λ o. with_takes o []) d.operations))))) in
    let g = s ∙ ap (λ b. is_in n d.sorts || b) k in
    let p = list_any-append (bytes_eq n) (d.sorts ++ (map (λ (c : Const). c.name) d.consts ++ (map (λ (r : Relation). r.name) d.relations ++ (map (λ (c : Counter). c.name) d.counters ++ (map (λ (i : Invariant). i.name) d.invariants ++ map (λ (o : Operation). o.name) (map (λ o. with_takes o []) d.operations)))))) (flat_map (λ (o : Operation). parameter_names o.params) d.operations) in
    let w = p ∙ ap (λ b. b || is_in n (flat_map (λ (o : Operation). parameter_names o.params) d.operations)) g ∙ ap (λ b. (is_in n d.sorts || (list_any (λ (c : Const). bytes_eq n c.name) d.consts || (list_any (λ (r : Relation). bytes_eq n r.name) d.relations || (list_any (λ (c : Counter). bytes_eq n c.name) d.counters || (list_any (λ (i : Invariant). bytes_eq n i.name) d.invariants || list_any (λ (o : Operation). bytes_eq n o.name) d.operations))))) || b) (among_params n d.operations) in
    sym (w ∙ or_regrouped (is_in n d.sorts) (list_any (λ (c : Const). bytes_eq n c.name) d.consts) (list_any (λ (r : Relation). bytes_eq n r.name) d.relations) (list_any (λ (c : Counter). bytes_eq n c.name) d.counters) (list_any (λ (i : Invariant). bytes_eq n i.name) d.invariants) (list_any (λ (o : Operation). bytes_eq n o.name) d.operations) (list_any (λ (o : Operation). list_any (λ (p : Param). bytes_eq n p.name) o.params) d.operations))

-- one candidate more
pub unused_more : (d : Specification) (k : ℕ) → unused_below d (k + 1) ≡ unused_below d k ++ filter (λ name. not (is_in name (names_in_use d))) (token_name k ∷ [])
unused_more d k =
    let p = λ (name : List ℕ). not (is_in name (names_in_use d)) in
    ap (λ m. unused_below d m) (let e : k + 1 ≡ suc k = omega arith in e)
    ∙ ap (filter p) (map-append token_name (below k) (k ∷ []))
    ∙ filter-append p (map token_name (below k)) (token_name k ∷ [])

pub all_unused : (d : Specification) (k : ℕ) → k ≡ 250 → unused_below d k ≡ unused_names d
unfolding unused_names
all_unused d k e = ap (unused_below d) e
