-- Which calls conflict, and what a grant names.
use Rattle.std.specs.Prelude.{Contains, slice_get, Some, map, filter}
use Rattle.std.specs.List.{list_any}
use Rattle.std.proofs.Common.{◌≡◌, ℕ, suc, ◌<◌, Bool, true, false, ◌||◌, ◌==◌, List, [], ◌∷◌, take, length, refl, sym, ◌∙◌, ap, subst, arith}
use Rattle.spec_core.specs.declared.world.World.{World}
use Rattle.spec_core.specs.declared.world.Call.{Call}
use Rattle.spec_core.specs.declared.operation.Take.{Take}
use Rattle.spec_core.specs.declared.spec.Rule.{Rule}
use Rattle.spec_core.specs.Specification.{Specification, op_of}
use Rattle.token_rules.specs.Conflict.{lines_match, matched, conflicts}
use Rattle.token_protocol.specs.declared.granted.Granted.{Granted}
use Rattle.token_protocol.specs.Manager.{conflicting}
use Rattle.token_protocol.specs.Node.{takes_none}
use Rattle.token_protocol.proofs.Places.{at_place, get_take, in_filter, in_map}

any_none : {X : Type 0} (p : X → Bool) (xs : List X) → ((x : X) → p x ≡ false) → list_any p xs ≡ false
any_none p [] h = refl
any_none p (x ∷ xs) h = let a = h x in let b = any_none p xs h in grind arith

or_swap : (a b : Bool) → (a || b) ≡ (b || a)
or_swap a b = grind arith

pub conflicts_symmetric : (d : Specification) (w : World) (a b : Call) → conflicts d w a b ≡ true → conflicts d w b a ≡ true
conflicts_symmetric d w a b h = or_swap (matched d w b a) (matched d w a b) ∙ h

-- a call that takes no token conflicts with none
none_left : (d : Specification) (w : World) (a b : Call) (takes : List Take) → length takes ≡ 0
    → list_any (λ (rule : Rule). list_any (λ (t : Take). list_any (λ (u : Take). lines_match w a.args b.args rule t u) (op_of d b.op).takes) takes) d.rules ≡ false
none_left d w a b [] h = any_none _ d.rules (λ rule. refl)
none_left d w a b (t ∷ ts) h = absurd (omega (arith, h))

none_right : (d : Specification) (w : World) (a b : Call) (takes : List Take) → length takes ≡ 0
    → list_any (λ (rule : Rule). list_any (λ (t : Take). list_any (λ (u : Take). lines_match w a.args b.args rule t u) takes) (op_of d a.op).takes) d.rules ≡ false
none_right d w a b [] h = any_none _ d.rules (λ rule. any_none _ (op_of d a.op).takes (λ t. refl))
none_right d w a b (t ∷ ts) h = absurd (omega (arith, h))

is_zero : (n : ℕ) → (n == 0) ≡ true → n ≡ 0
is_zero n h = grind arith

pub none_conflicts : (d : Specification) (w : World) (a b : Call) → takes_none d a ≡ true → conflicts d w a b ≡ false
none_conflicts d w a b h =
    let z = is_zero (length (op_of d a.op).takes) h in
    let l = none_left d w a b (op_of d a.op).takes z in
    let r = none_right d w b a (op_of d a.op).takes z in
    both (matched d w a b) (matched d w b a) l r
  where
    both : (x y : Bool) → x ≡ false → y ≡ false → (x || y) ≡ false
    both x y p q = grind arith

not_both : (b : Bool) → b ≡ true → b ≡ false → ⊥
not_both b p q = cc

takes_some : (b : Bool) → (b ≡ true → ⊥) → b ≡ false
takes_some true h = absurd (h refl)
takes_some false h = refl

pub left_takes : (d : Specification) (w : World) (a b : Call) → conflicts d w a b ≡ true → takes_none d a ≡ false
left_takes d w a b h = takes_some (takes_none d a) (λ n. not_both (conflicts d w a b) h (none_conflicts d w a b n))

pub right_takes : (d : Specification) (w : World) (a b : Call) → conflicts d w a b ≡ true → takes_none d b ≡ false
right_takes d w a b h = left_takes d w b a (conflicts_symmetric d w a b h)

-- a grant names each earlier one whose call conflicts with its own
pub names : (d : Specification) (w : World) (granted : List Granted) (i j : ℕ) (g : Granted) (call : Call) → j < i → slice_get granted j ≡ Some g → conflicts d w g.call call ≡ true
    → Contains (conflicting d w (take i granted) call) g.id
names d w granted i j g call lt here c =
    in_map (λ (g : Granted). g.id) (filter (λ (g : Granted). conflicts d w g.call call) (take i granted)) g
    (in_filter (λ (g : Granted). conflicts d w g.call call) (take i granted) g c (at_place (take i granted) j g (get_take granted i j g lt here)))
