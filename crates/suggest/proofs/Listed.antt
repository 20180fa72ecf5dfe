-- The members of the lists of pairs and of parameters.
use Rattle.std.proofs.Common.{◌≡◌, ℕ, suc, ◌+◌, ◌<◌, Bool, true, false, cond, inl, inr, List, [], ◌∷◌, ◌++◌, length, nat_le, refl, sym, subst, ap, ◌∙◌, append_assoc, take, get_or, arith}
use Rattle.std.proofs.lemmas.Bool.{leb-true, le-leb}
use Rattle.std.specs.List.{filter, flat_map, Contains}
use Rattle.std.proofs.lemmas.List.Elements.{filter-append}
use Rattle.std.proofs.Math.Seq.{take-suc}
use Rattle.spec_core.specs.Specification.{Specification, op_of}
use Rattle.spec_core.specs.World.{below}
use Rattle.spec_core.specs.Typed.{same_sort}
use Rattle.obligation_list.specs.declared.obligation.Obligation.{Obligation}
use Rattle.obligation_list.specs.Obligations.{obligations_of, IsObligation}
use Rattle.obligation_list.proofs.Below.{flat_map-below_more}
use Rattle.obligation_list.proofs.Members.{here, Contains-filter_cases, Contains-flat_map, Contains-flat_map_cases, Contains-below, Contains-below_cases}
use Rattle.conflict_variants.specs.Keyed.{sort_of_parameter, CanBeKeyed}
use Rattle.suggest.specs.Pairs.{is_of_pair, IsPair, pairs_from, pairs_of, keys_from, keys_of}
use Rattle.suggest.specs.declared.answer.Pair.{Pair}
use Rattle.suggest.specs.declared.answer.Key.{Key}
use Rattle.suggest.proofs.Cons.{nowhere, cons_cases}

-- a member of a list of one, or of none
one_if : {X : Type 0} (b : Bool) (x y : X) → Contains (cond b (x ∷ []) []) y → (b ≡ true) × (x ≡ y)
one_if true x y m = elim (cons_cases x [] y m) [ inl e ↦ (refl, e) | inr r ↦ absurd (nowhere y r) ]
one_if false x y m = absurd (nowhere y m)

in_one : {X : Type 0} (b : Bool) (x : X) → b ≡ true → Contains (cond b (x ∷ []) []) x
in_one b x h = subst (λ c. Contains (cond c (x ∷ []) []) x) (sym_ b h) (here x [] x refl)
  where
    sym_ : (b : Bool) → b ≡ true → true ≡ b
    sym_ b h = cc

pub listed_pair : (d : Specification) (x : Pair) → Contains (pairs_of d) x → IsPair d x.first x.second
listed_pair d x m =
    let n = length d.operations in
    let a = Contains-flat_map_cases (pairs_from n) (below n) x m in
    let b = Contains-flat_map_cases (λ b. cond (nat_le a.0 b) (record { first = a.0; second = b } ∷ []) []) (below n) x a.2 in
    let o = one_if (nat_le a.0 b.0) (record { first = a.0; second = b.0 }) x b.2 in
    subst (λ (y : Pair). IsPair d y.first y.second) o.1 (record { ordered = leb-true a.0 b.0 o.0; operation = Contains-below_cases n b.0 b.1 })

pub pair_listed : (d : Specification) (a b : ℕ) → IsPair d a b → Contains (pairs_of d) (record { first = a; second = b })
pair_listed d a b h =
    let n = length d.operations in
    let ordered = h.ordered in let last = h.operation in
    Contains-flat_map (pairs_from n) (below n) a (record { first = a; second = b }) (Contains-below n a (omega arith))
    (Contains-flat_map (λ b. cond (nat_le a b) (record { first = a; second = b } ∷ []) []) (below n) b (record { first = a; second = b }) (Contains-below n b h.operation)
    (in_one (nat_le a b) (record { first = a; second = b }) (le-leb a b h.ordered)))

pub listed_key : (d : Specification) (a b : ℕ) → IsPair d a b → (k : Key) → Contains (keys_of d a b) k → CanBeKeyed d a k.p b k.q
listed_key d a b h k m =
    let p = Contains-flat_map_cases (keys_from d a b) (below (length (op_of d a).params)) k m in
    let q = Contains-flat_map_cases (λ q. cond (same_sort (sort_of_parameter d a p.0) (sort_of_parameter d b q)) (record { p = p.0; q = q } ∷ []) []) (below (length (op_of d b).params)) k p.2 in
    let o = one_if (same_sort (sort_of_parameter d a p.0) (sort_of_parameter d b q.0)) (record { p = p.0; q = q.0 }) k q.2 in
    subst (λ (y : Key). CanBeKeyed d a y.p b y.q) o.1 (record { ordered = h.ordered; operation = h.operation; one_sort = o.0 })

pub listed_obligation : (d : Specification) (a b : ℕ) (obs : List Obligation) → obs ≡ obligations_of d → ((ob : Obligation) → Contains obs ob → IsObligation d ob)
    → (ob : Obligation) → Contains (filter (is_of_pair a b) obs) ob → IsObligation d ob
listed_obligation d a b obs e all ob m = all ob (Contains-filter_cases (is_of_pair a b) obs ob m).0

-- one obligation more
pub filter_next : (p : Obligation → Bool) (obs : List Obligation) (i : ℕ) (ob : Obligation) → i < length obs
    → filter p (take (i + 1) obs) ≡ filter p (take i obs) ++ filter p (get_or obs i ob ∷ [])
filter_next p obs i ob lt =
    ap (λ n. filter p (take n obs)) (let e : i + 1 ≡ suc i = omega arith in e) ∙ ap (filter p) (take-suc obs i ob lt) ∙ filter-append p (take i obs) (get_or obs i ob ∷ [])

-- a list for each number below a size, with one more
pub listed_more : {X : Type 0} (f : ℕ → List X) (old mid new : List X) (n : ℕ) → mid ≡ old ++ flat_map f (below n) → new ≡ mid ++ f n → new ≡ old ++ flat_map f (below (n + 1))
listed_more f old mid new n e h = h ∙ ap (λ t. t ++ f n) e ∙ append_assoc old (flat_map f (below n)) (f n) ∙ ap (λ t. old ++ t) (sym (flat_map-below_more f n))
