-- What conflicts with a call conflicts with each that takes the same tokens.
use Rattle.std.specs.Prelude.{map, filter}
use Rattle.std.specs.List.{list_all, list_any}
use Rattle.std.proofs.Common.{◌≡◌, ℕ, Bool, true, not, ◌&&◌, ◌||◌, ◌==◌, List, [], ◌∷◌, ◌++◌, take, drop, ℤ, refl, sym, ◌∙◌, ap, arith}
use Rattle.std.proofs.lemmas.Bool.Decides.{nat_tests}
use Rattle.std.proofs.lemmas.List.{take-append-drop}
use Rattle.std.proofs.lemmas.List.Elements.{filter-append, filter_agree}
use Rattle.spec_core.specs.declared.world.World.{World}
use Rattle.spec_core.specs.declared.world.Call.{Call}
use Rattle.spec_core.specs.declared.formula.Elem.{Elem}
use Rattle.spec_core.specs.declared.operation.Take.{Take}
use Rattle.spec_core.specs.declared.spec.Rule.{Rule}
use Rattle.spec_core.specs.Specification.{Specification, op_of}
use Rattle.spec_core.specs.Truth.{elem_of, elems_of}
use Rattle.token_rules.specs.Assignment.{one_assignment}
use Rattle.token_rules.specs.Conflict.{lines_match, matched, conflicts}
use Rattle.token_protocol.specs.declared.message.EventId.{EventId}
use Rattle.token_protocol.specs.declared.granted.Granted.{Granted}
use Rattle.token_protocol.specs.Manager.{conflicting}
use Rattle.token_manager.specs.Alike.{same_elems, same_takes, take_alike}

first_of : (a b : Bool) → (a && b) ≡ true → a ≡ true
first_of a b h = grind (arith, nat_tests)

second_of : (a b : Bool) → (a && b) ≡ true → b ≡ true
second_of a b h = grind (arith, nat_tests)

equal : (a b : ℕ) → (a == b) ≡ true → a ≡ b
equal a b h = grind (arith, nat_tests)

any_same : {X : Type 0} (p q : X → Bool) → ((x : X) → p x ≡ q x) → (xs : List X) → list_any p xs ≡ list_any q xs
any_same p q same [] = refl
any_same p q same (x ∷ xs) = ap (λ b. b || list_any p xs) (same x) ∙ ap (λ b. q x || b) (any_same p q same xs)

any_alike : {X : Type 0} (p q r : X → Bool) → ((x : X) → r x ≡ true → p x ≡ q x) → (xs : List X) → list_all r xs ≡ true → list_any p xs ≡ list_any q xs
any_alike p q r same [] h = refl
any_alike p q r same (x ∷ xs) h =
    ap (λ b. b || list_any p xs) (same x (first_of (r x) (list_all r xs) h))
    ∙ ap (λ b. q x || b) (any_alike p q r same xs (second_of (r x) (list_all r xs) h))

elems_alike : (w : World) (one other : List ℤ) (es : List Elem) → same_elems w one other es ≡ true → elems_of w one [] es ≡ elems_of w other [] es
elems_alike w one other [] h = refl
elems_alike w one other (e ∷ es) h =
    let same_here = equal (elem_of w one [] e) (elem_of w other [] e) (first_of (elem_of w one [] e == elem_of w other [] e) (same_elems w one other es) h) in
    ap (λ (x : ℕ). x ∷ elems_of w one [] es) same_here
    ∙ ap (λ (l : List ℕ). elem_of w other [] e ∷ l) (elems_alike w one other es (second_of (elem_of w one [] e == elem_of w other [] e) (same_elems w one other es) h))

module _ (w : World) (g one other : List ℤ) where
  -- a line of a third call, and one of both calls
  right_line : (rule : Rule) (t u : Take) → same_elems w one other u.args ≡ true → lines_match w g one rule t u ≡ lines_match w g other rule t u
  right_line rule t u h =
      ap (λ (l : List ℕ). not (t.shared && u.shared) && (rule.left.token == t.token) && (rule.right.token == u.token) && one_assignment rule.left.vars (elems_of w g [] t.args) rule.right.vars l)
      (elems_alike w one other u.args h)

  left_line : (rule : Rule) (t u : Take) → same_elems w one other t.args ≡ true → lines_match w one g rule t u ≡ lines_match w other g rule t u
  left_line rule t u h =
      ap (λ (l : List ℕ). not (t.shared && u.shared) && (rule.left.token == t.token) && (rule.right.token == u.token) && one_assignment rule.left.vars l rule.right.vars (elems_of w g [] u.args))
      (elems_alike w one other t.args h)

  module _ (mine theirs : List Take) (h : same_takes w one other mine ≡ true) where
    right_lines : (rule : Rule) (t : Take) → list_any (λ u. lines_match w g one rule t u) mine ≡ list_any (λ u. lines_match w g other rule t u) mine
    right_lines rule t =
        any_alike (λ u. lines_match w g one rule t u) (λ u. lines_match w g other rule t u) (λ u. same_elems w one other u.args) (right_line rule t) mine h

    right_rule : (rule : Rule) → list_any (λ t. list_any (λ u. lines_match w g one rule t u) mine) theirs ≡ list_any (λ t. list_any (λ u. lines_match w g other rule t u) mine) theirs
    right_rule rule =
        any_same (λ t. list_any (λ u. lines_match w g one rule t u) mine) (λ t. list_any (λ u. lines_match w g other rule t u) mine) (right_lines rule) theirs

    left_lines : (rule : Rule) (t : Take) → same_elems w one other t.args ≡ true → list_any (λ u. lines_match w one g rule t u) theirs ≡ list_any (λ u. lines_match w other g rule t u) theirs
    left_lines rule t k =
        any_same (λ u. lines_match w one g rule t u) (λ u. lines_match w other g rule t u) (λ u. left_line rule t u k) theirs

    left_rule : (rule : Rule) → list_any (λ t. list_any (λ u. lines_match w one g rule t u) theirs) mine ≡ list_any (λ t. list_any (λ u. lines_match w other g rule t u) theirs) mine
    left_rule rule =
        any_alike (λ t. list_any (λ u. lines_match w one g rule t u) theirs) (λ t. list_any (λ u. lines_match w other g rule t u) theirs) (λ t. same_elems w one other t.args) (left_lines rule) mine h

module _ (d : Specification) (w : World) where
  abbrev call_of : ℕ → List ℤ → Call
  call_of op args = record { op = op; args = args }

  -- with the operation of the one call written for that of the other
  same_operation : (g : Call) (op : ℕ) (one other : List ℤ) → same_takes w one other (op_of d op).takes ≡ true
      → conflicts d w g (call_of op one) ≡ conflicts d w g (call_of op other)
  same_operation g op one other h =
      ap (λ b. b || matched d w (call_of op one) g)
      (any_same (λ rule. list_any (λ t. list_any (λ u. lines_match w g.args one rule t u) (op_of d op).takes) (op_of d g.op).takes)
      (λ rule. list_any (λ t. list_any (λ u. lines_match w g.args other rule t u) (op_of d op).takes) (op_of d g.op).takes)
      (right_rule w g.args one other (op_of d op).takes (op_of d g.op).takes h) d.rules)
      ∙ ap (λ b. matched d w g (call_of op other) || b)
      (any_same (λ rule. list_any (λ t. list_any (λ u. lines_match w one g.args rule t u) (op_of d g.op).takes) (op_of d op).takes)
      (λ rule. list_any (λ t. list_any (λ u. lines_match w other g.args rule t u) (op_of d g.op).takes) (op_of d op).takes)
      (left_rule w g.args one other (op_of d op).takes (op_of d g.op).takes h) d.rules)

  pub conflicts_alike : (a b : Call) → take_alike d w a b ≡ true → (g : Call) → conflicts d w g a ≡ conflicts d w g b
  conflicts_alike a b h g =
      let op_is = equal a.op b.op (first_of (a.op == b.op) (same_takes w a.args b.args (op_of d b.op).takes) h) in
      ap (λ (n : ℕ). conflicts d w g (call_of n a.args)) op_is
      ∙ same_operation g b.op a.args b.args (second_of (a.op == b.op) (same_takes w a.args b.args (op_of d b.op).takes) h)

  -- the same grants conflict with both
  kept_alike : (a b : Call) → take_alike d w a b ≡ true → (granted : List Granted) → conflicting d w granted a ≡ conflicting d w granted b
  kept_alike a b h granted =
      ap (map (λ (x : Granted). x.id))
      (filter_agree (λ (x : Granted). conflicts d w x.call a) (λ (x : Granted). conflicts d w x.call b) (λ (x : Granted). conflicts_alike a b h x.call) granted)

  map_two : (xs ys : List Granted) → map (λ (x : Granted). x.id) (xs ++ ys) ≡ map (λ (x : Granted). x.id) xs ++ map (λ (x : Granted). x.id) ys
  map_two [] ys = refl
  map_two (x ∷ xs) ys = ap (λ (l : List EventId). x.id ∷ l) (map_two xs ys)

  -- the calls of all grants that conflict are those of a front, and those behind it
  conflicting_two : (xs ys : List Granted) (call : Call) → conflicting d w (xs ++ ys) call ≡ conflicting d w xs call ++ conflicting d w ys call
  conflicting_two xs ys call =
      ap (map (λ (x : Granted). x.id)) (filter-append (λ (x : Granted). conflicts d w x.call call) xs ys)
      ∙ map_two (filter (λ (x : Granted). conflicts d w x.call call) xs) (filter (λ (x : Granted). conflicts d w x.call call) ys)

  -- where a grant names the conflicting ones before it, a call that takes the same tokens conflicts with these, and with some from it on
  pub named_behind : (granted : List Granted) (i : ℕ) (a b : Call) (after : List EventId) → take_alike d w a b ≡ true → after ≡ conflicting d w (take i granted) a
      → after ++ conflicting d w (drop i granted) b ≡ conflicting d w granted b
  named_behind granted i a b after h is =
      ap (λ (l : List EventId). l ++ conflicting d w (drop i granted) b) (is ∙ kept_alike a b h (take i granted))
      ∙ sym (conflicting_two (take i granted) (drop i granted) b)
      ∙ ap (λ (l : List Granted). conflicting d w l b) (take-append-drop i granted)
