-- The first fault of what stands in a tree is its least.
use Rattle.std.proofs.Common.{◌≡◌, ℕ, zero, suc, ◌<◌, ◌≤◌, ◌⊎◌, ◌↔◌, inl, inr, List, [], ◌∷◌, length, slice_index_or, Option, None, Some, Result, Ok, Err, refl, sym, ◌∙◌, ap, subst, arith}
use Rattle.std.specs.List.{AllByRecursion, Contains}
use Rattle.spec_trees.specs.Form.{TreeForm}
use Rattle.spec_trees.specs.Spelling.{tree}
use Rattle.spec_core.specs.Specification.{Specification}
use Rattle.typing_rules.specs.Fault.{Fault, ◌otherwise◌}
use Rattle.typing_rules.specs.Lines.{unless}
use Rattle.typing_rules.specs.Items.{typing}
use Rattle.typing_rules.specs.Sites.{Site, sites_of, specification_of}
use Rattle.typing_rules.specs.FaultRules.{IsWrong, IsTypingOf, IsWritten}
use Rattle.typing_rules.proofs.Order.{IsSameOrBefore, all_mono, weight, IsAmong, Precedes, InOrder}
use Rattle.typing_rules.proofs.Declarations.{tree_spelled}
use Rattle.typing_rules.proofs.Deciding.{fault_at, Decides, decided}
use Rattle.typing_rules.proofs.Lists.{first_of}
use Rattle.typing_rules.proofs.WholeTrees.{typing_agrees}

-- ---- members

nowhere : {X : Type 0} (y : X) → Contains [] y → ⊥
nowhere y m = let lt = m.1 in omega arith

there : {X : Type 0} (x : X) (xs : List X) (y : X) → Contains xs y → Contains (x ∷ xs) y
there x xs y m = (let k = m.0 in let lt = m.1 in (suc m.0, (let more : suc m.0 < suc (length xs) = omega arith in more), m.2))

here : {X : Type 0} (x : X) (xs : List X) → Contains (x ∷ xs) x
here x xs = (0, (let lt : 0 < suc (length xs) = omega arith in lt), refl)

cons_cases : {X : Type 0} (x : X) (xs : List X) (y : X) → Contains (x ∷ xs) y → (x ≡ y) ⊎ Contains xs y
cons_cases x xs y m = at m.0 m.1 m.2
  where
    at : (k : ℕ) → k < suc (length xs) → slice_index_or (x ∷ xs) k y ≡ y → (x ≡ y) ⊎ Contains xs y
    at zero lt e = inl e
    at (suc k) lt e = inr (k, (let less : k < length xs = omega arith in less), e)

all_at : {X : Type 0} (P : X → Type 0) (xs : List X) (x : X) → AllByRecursion P xs → Contains xs x → P x
all_at P [] x h m = absurd (nowhere x m)
all_at P (y ∷ ys) x h m = elim (cons_cases y ys x m) [
  | inl e ↦ subst P e h.0
  | inr r ↦ all_at P ys x h.1 r
]

-- ---- the first fault

-- something in a list is wrong, and nothing that is wrong in it comes before
abbrev IsFirst : List Site → Option Fault → Type 0
IsFirst ss None = (s : Site) → Contains ss s → (f : Fault) → IsWrong s f → ⊥
IsFirst ss (Some f) = ((s : Site) × Contains ss s × IsWrong s f) × ((s : Site) → Contains ss s → (g : Fault) → IsWrong s g → IsSameOrBefore f g)

first_first : (ss : List Site) → InOrder ss → AllByRecursion (λ s. weight s ≤ 4294967296) ss → IsFirst ss (first_of ss)
first_first [] order few = λ s m f h. nowhere s m
first_first (s ∷ ss) order few = by (fault_at s) (first_of ss) (decided s few.0) (first_first ss order.1 few.1)
  where
    by : (o p : Option Fault) → Decides s o → IsFirst ss p → IsFirst (s ∷ ss) (o otherwise p)
    by None None d more = λ t m f h. elim (cons_cases s ss t m) [
      | inl e ↦ d f (subst (λ x. IsWrong x f) (sym e) h)
      | inr r ↦ more t r f h
    ]
    by None (Some f) d more = (
      (more.0.0, there s ss more.0.0 more.0.1, more.0.2),
      λ t m g h. elim (cons_cases s ss t m) [
        | inl e ↦ absurd (d g (subst (λ x. IsWrong x g) (sym e) h))
        | inr r ↦ more.1 t r g h
      ],
    )
    by (Some f) p d more = (
      (s, here s ss, d.0),
      λ t m g h. elim (cons_cases s ss t m) [
        | inl e ↦ inl (d.1 g (subst (λ x. IsWrong x g) (sym e) h))
        | inr r ↦ all_at (Precedes s) ss t order.0 r f g d.0 h
      ],
    )

pub least : (t : TreeForm) → IsWritten t → IsTypingOf t (typing t)
least t w =
    let spelled = tree_spelled t in
    let few = all_mono (IsAmong (tree t)) (λ s. weight s ≤ 4294967296) (λ s h. (let a = h.1 in let b = w.few in let r : weight s ≤ 4294967296 = omega arith in r)) (sites_of t) spelled.among in
    subst (IsTypingOf t) (sym (typing_agrees t)) (by (first_of (sites_of t)) (first_first (sites_of t) (spelled.rising 0 w.placed) few))
  where
    by : (o : Option Fault) → IsFirst (sites_of t) o → IsTypingOf t (unless o (Ok (specification_of t)))
    by None h = (λ f x. h x.0 x.1 f x.2, refl)
    by (Some f) h = record { is_fault = h.0; least = λ g x. h.1 x.0 x.1 g x.2 }

-- ---- one answer

one_least : (f g : Fault) → IsSameOrBefore f g → IsSameOrBefore g f → f ≡ g
one_least f g (inl e) b = e
one_least f g (inr a) (inl e) = sym e
one_least f g (inr (inl a)) (inr (inl b)) = absurd (omega (arith, a, b))
one_least f g (inr (inl a)) (inr (inr b)) = let e = b.0 in absurd (omega (arith, a, e))
one_least f g (inr (inr a)) (inr (inl b)) = let e = a.0 in absurd (omega (arith, b, e))
one_least f g (inr (inr a)) (inr (inr b)) = let c = a.1 in let d = b.1 in absurd (omega (arith, c, d))

pub one_answer : (t : TreeForm) (r q : Result Specification Fault) → IsTypingOf t r → IsTypingOf t q → r ≡ q
one_answer t (Ok d) (Ok e) a b = ap Ok (a.1 ∙ sym b.1)
one_answer t (Ok d) (Err g) a b = absurd (a.0 g b.is_fault)
one_answer t (Err f) (Ok e) a b = absurd (b.0 f a.is_fault)
one_answer t (Err f) (Err g) a b = ap Err (one_least f g (a.least g b.is_fault) (b.least f a.is_fault))

pub answers : (t : TreeForm) (r : Result Specification Fault) → IsWritten t → IsTypingOf t r ↔ (typing t ≡ r)
answers t r w = (λ a. one_answer t (typing t) r (least t w) a, λ e. subst (IsTypingOf t) e (least t w))
