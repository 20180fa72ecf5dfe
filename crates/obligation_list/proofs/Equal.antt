-- Tests of equal truth values, numbers and readings say that they are equal.
use Rattle.std.proofs.Common.{◌≡◌, ℕ, ℤ, Bool, true, false, List, refl, sym, arith}
use Rattle.std.proofs.lemmas.Int.{ints}
use Rattle.spec_core.specs.declared.update.Thing.{Thing}
use Rattle.spec_core.specs.declared.update.Thing.TheVariants as thing
use Rattle.spec_core.specs.State.{Reads}
use Rattle.spec_core.specs.Truth.{int_eq}
use Rattle.obligation_list.specs.Breaking.{bool_eq, reads_same}

pub same_bool : (a b : Bool) → bool_eq a b ≡ true → a ≡ b
same_bool true b h = sym h
same_bool false true h = absurd cc
same_bool false false h = refl

pub bool_same : (a b : Bool) → a ≡ b → bool_eq a b ≡ true
bool_same true b h = sym h
bool_same false true h = absurd cc
bool_same false false h = refl

pub same_int : (a b : ℤ) → int_eq a b ≡ true → a ≡ b
same_int a b h = grind (arith, ints)

pub int_same : (a b : ℤ) → a ≡ b → int_eq a b ≡ true
int_same a b h = grind (arith, ints)

pub reads_same_swap : (x : Thing) (t : List ℕ) (r s : Reads) → reads_same x t r s ≡ true → reads_same x t s r ≡ true
reads_same_swap (thing.Relation k) t r s h = bool_same (s.has k t) (r.has k t) (sym (same_bool (r.has k t) (s.has k t) h))
reads_same_swap (thing.Counter k) t r s h = int_same (s.count k t) (r.count k t) (sym (same_int (r.count k t) (s.count k t) h))
