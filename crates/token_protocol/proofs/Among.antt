-- Ids: equal ones, and those among others.
use Rattle.std.specs.Prelude.{Contains, slice_get, None, Some, Option}
use Rattle.std.specs.List.{list_any, find}
use Rattle.std.specs.Cmp.{IsEquivalence}
use Rattle.std.proofs.Common.{◌≡◌, ℕ, Bool, true, false, not, ◌&&◌, ◌||◌, ◌⊎◌, inl, inr, List, [], ◌∷◌, refl, sym, ◌∙◌, ap, subst, arith}
use Rattle.std.proofs.lemmas.Bool.{cases_Bool}
use Rattle.std.proofs.lemmas.Bool.Decides.{nat_tests}
use Rattle.std.proofs.lemmas.Map.Views.{list_any-from_Contains, Contains-from_any}
use Rattle.token_protocol.specs.declared.message.EventId.{EventId}
use Rattle.token_protocol.specs.Ids.{same_id, is_among, first_outside}
use Rattle.token_protocol.proofs.Places.{found_none, first_or_rest, in_none}

pub same_ids : (a b : EventId) → same_id a b ≡ true → a ≡ b
same_ids a b h =
    let r : a.replica ≡ b.replica = grind (arith, nat_tests) in
    let t : a.turn ≡ b.turn = grind (arith, nat_tests) in
    ap (λ n. let id : EventId = record { replica = n; turn = a.turn } in id) r ∙ ap (λ n. let id : EventId = record { replica = b.replica; turn = n } in id) t

pub id_itself : (a : EventId) → same_id a a ≡ true
id_itself a = grind (arith, nat_tests)

pub ids_same : (a b : EventId) → a ≡ b → same_id a b ≡ true
ids_same a b e = subst (λ x. same_id a x ≡ true) e (id_itself a)

pub among_contains : (ids : List EventId) (id : EventId) → is_among ids id ≡ true → Contains ids id
among_contains ids id h = Contains-from_any same_ids id ids h

pub contains_among : (ids : List EventId) (id : EventId) → Contains ids id → is_among ids id ≡ true
contains_among [] id c = absurd (in_none id c)
contains_among (x ∷ xs) id c = elim (first_or_rest x id xs c) [
  | inl e ↦ (let p = ids_same id x (sym e) in grind arith)
  | inr r ↦ (let p = contains_among xs id r in grind arith)
]

not_false : (b : Bool) → not b ≡ false → b ≡ true
not_false b h = grind arith

-- none is outside: all are among those
pub none_outside : (those ids : List EventId) → first_outside those ids ≡ None → (id : EventId) → Contains ids id → Contains those id
none_outside those ids h id c = among_contains those id (not_false (is_among those id) (found_none (λ id. not (is_among those id)) ids h id c))
