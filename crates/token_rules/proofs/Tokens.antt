-- Calls that conflict are of rivals: of operations that some rule can match, with one element for the parameters that it ties.
use Rattle.std.proofs.Common.{◌≡◌, ℕ, zero, suc, Bool, true, false, ◌||◌, inl, inr, List, [], ◌∷◌, map, get_or, refl, sym, ◌∙◌, ap, subst, arith, ◌&&◌, not, ◌==◌, cond, ℤ}
use Rattle.std.specs.List.{list_any, list_all}
use Rattle.std.proofs.lemmas.Bool.{and_parts, cases_Bool, true≢false, eqb-true, eqb-false, eq-eqb}
use Rattle.spec_core.specs.declared.world.World.{World}
use Rattle.spec_core.specs.declared.world.Call.{Call}
use Rattle.spec_core.specs.declared.formula.Elem.{Elem}
use Rattle.spec_core.specs.declared.formula.Elem.TheVariants.{Const, Param, Var}
use Rattle.spec_core.specs.declared.operation.Operation.{Operation}
use Rattle.spec_core.specs.declared.operation.Take.{Take}
use Rattle.spec_core.specs.declared.spec.Rule.{Rule}
use Rattle.spec_core.specs.Specification.{Specification, op_of, no_operation}
use Rattle.spec_core.specs.Truth.{elems_of}
use Rattle.token_rules.specs.Assignment.{stands_for, one_assignment}
use Rattle.token_rules.specs.Conflict.{lines_match, matched, conflicts}
use Rattle.token_rules.specs.Rivals.{tokens_match, some_rule_may, are_rivals, starts_with, same_first, tied_by, all_tied, are_tied, key_of, rivalry, rivals_of, element_at, may_conflict}
use Rattle.token_rules.specs.declared.rivals.Rivalry.{Rivalry}
use Rattle.token_rules.specs.declared.rivals.Rivalry.TheVariants.{Never, Tied, Free}

either : (a b c : Bool) → (a ≡ true → c ≡ true) → (b ≡ true → c ≡ true) → (a || b) ≡ true → c ≡ true
either true b c f g h = f refl
either false b c f g h = g h

first_up : (a b : Bool) → a ≡ true → (a || b) ≡ true
first_up a b h = grind arith

second_up : (a b : Bool) → b ≡ true → (a || b) ≡ true
second_up a b h = grind arith

any_too : {X : Type 0} (p q : X → Bool) → ((x : X) → p x ≡ true → q x ≡ true) → (xs : List X) → list_any p xs ≡ true → list_any q xs ≡ true
any_too p q f [] h = h
any_too p q f (x ∷ xs) h = either (p x) (list_any p xs) (q x || list_any q xs) (λ a. first_up (q x) (list_any q xs) (f x a)) (λ b. second_up (q x) (list_any q xs) (any_too p q f xs b)) h

any_all : {X : Type 0} (p q : X → Bool) (C : Type 0) → ((x : X) → p x ≡ true → q x ≡ true → C) → (xs : List X) → list_any p xs ≡ true → list_all q xs ≡ true → C
any_all p q C f [] h all = absurd (true≢false (sym h))
any_all p q C f (x ∷ xs) h all = by_first (p x) refl (λ later. any_all p q C f xs later (and_parts (q x) (list_all q xs) all).1)
  where
    by_first : (b : Bool) → p x ≡ b → (list_any p xs ≡ true → C) → C
    by_first true e next = f x e (and_parts (q x) (list_all q xs) all).0
    by_first false e next = next (rw e at h)

one_element : (v e f : ℕ) (vs es us fs : List ℕ) → one_assignment (v ∷ vs) (e ∷ es) (v ∷ us) (f ∷ fs) ≡ true → e ≡ f
one_element v e f vs es us fs h =
    let front = (and_parts (stands_for v e vs es && stands_for v e (v ∷ us) (f ∷ fs)) (one_assignment vs es (v ∷ us) (f ∷ fs)) h).0 in
    let there = (and_parts (stands_for v e vs es) (stands_for v e (v ∷ us) (f ∷ fs)) front).1 in
    let here = (and_parts (not (v == v) || (f == e)) (stands_for v e us fs) there).0 in
    let same : (v == v) ≡ true = eq-eqb v v refl in
    let equal : (f == e) ≡ true = rw same at here in
    sym (eqb-true f e equal)

-- lines that begin with tied parameters have one element there
tied_elements : (w : World) (one other : List ℤ) (j k : ℕ) (vs us : List ℕ) (es fs : List Elem) → same_first vs us ≡ true → starts_with j es ≡ true → starts_with k fs ≡ true
    → one_assignment vs (elems_of w one [] es) us (elems_of w other [] fs) ≡ true → element_at one j ≡ element_at other k
tied_elements w one other j k [] us es fs s a b h = absurd (true≢false (sym s))
tied_elements w one other j k (v ∷ vs) [] es fs s a b h = absurd (true≢false (sym s))
tied_elements w one other j k (v ∷ vs) (u ∷ us) [] fs s a b h = absurd (true≢false (sym a))
tied_elements w one other j k (v ∷ vs) (u ∷ us) (Const m ∷ es) fs s a b h = absurd (true≢false (sym a))
tied_elements w one other j k (v ∷ vs) (u ∷ us) (Var m ∷ es) fs s a b h = absurd (true≢false (sym a))
tied_elements w one other j k (v ∷ vs) (u ∷ us) (Param m ∷ es) [] s a b h = absurd (true≢false (sym b))
tied_elements w one other j k (v ∷ vs) (u ∷ us) (Param m ∷ es) (Const n ∷ fs) s a b h = absurd (true≢false (sym b))
tied_elements w one other j k (v ∷ vs) (u ∷ us) (Param m ∷ es) (Var n ∷ fs) s a b h = absurd (true≢false (sym b))
tied_elements w one other j k (v ∷ vs) (u ∷ us) (Param m ∷ es) (Param n ∷ fs) s a b h =
    let same : v ≡ u = eqb-true v u s in
    let first : m ≡ j = eqb-true m j a in
    let second : n ≡ k = eqb-true n k b in
    let all : one_assignment (v ∷ vs) (element_at one m ∷ elems_of w one [] es) (v ∷ us) (element_at other n ∷ elems_of w other [] fs) ≡ true
    = subst (λ (x : ℕ). one_assignment (v ∷ vs) (element_at one m ∷ elems_of w one [] es) (x ∷ us) (element_at other n ∷ elems_of w other [] fs) ≡ true) (sym same) h in
    ap (element_at one) (sym first) ∙ one_element v (element_at one m) (element_at other n) vs (elems_of w one [] es) us (elems_of w other [] fs) all ∙ ap (element_at other) second

module _ (d : Specification) (w : World) where
  line_elements : (one other : List ℤ) (j k : ℕ) (rule : Rule) (t u : Take) → lines_match w one other rule t u ≡ true → tied_by j k rule t u ≡ true → element_at one j ≡ element_at other k
  line_elements one other j k rule t u m tied =
      let parts = and_parts (tokens_match rule t u) (one_assignment rule.left.vars (elems_of w one [] t.args) rule.right.vars (elems_of w other [] u.args)) m in
      let wants : (same_first rule.left.vars rule.right.vars && (starts_with j t.args && starts_with k u.args)) ≡ true = rw parts.0 at tied in
      let same = and_parts (same_first rule.left.vars rule.right.vars) (starts_with j t.args && starts_with k u.args) wants in
      let begins = and_parts (starts_with j t.args) (starts_with k u.args) same.1 in
      tied_elements w one other j k rule.left.vars rule.right.vars t.args u.args same.0 begins.0 begins.1 parts.1

  matched_elements : (one other : Call) (j k : ℕ) → matched d w one other ≡ true → all_tied j k d.rules (op_of d one.op).takes (op_of d other.op).takes ≡ true → element_at one.args j ≡ element_at other.args k
  matched_elements one other j k h tied =
      any_all (λ rule. list_any (λ t. list_any (λ u. lines_match w one.args other.args rule t u) (op_of d other.op).takes) (op_of d one.op).takes)
      (λ rule. list_all (λ t. list_all (λ u. tied_by j k rule t u) (op_of d other.op).takes) (op_of d one.op).takes) _
      (λ rule. any_all (λ t. list_any (λ u. lines_match w one.args other.args rule t u) (op_of d other.op).takes) (λ t. list_all (λ u. tied_by j k rule t u) (op_of d other.op).takes) _
      (λ t. any_all (λ u. lines_match w one.args other.args rule t u) (λ u. tied_by j k rule t u) _ (λ u. line_elements one.args other.args j k rule t u) (op_of d other.op).takes)
      (op_of d one.op).takes)
      d.rules h tied

  matched_may : (one other : Call) → matched d w one other ≡ true → some_rule_may d.rules (op_of d one.op).takes (op_of d other.op).takes ≡ true
  matched_may one other h =
      any_too (λ rule. list_any (λ t. list_any (λ u. lines_match w one.args other.args rule t u) (op_of d other.op).takes) (op_of d one.op).takes)
      (λ rule. list_any (λ t. list_any (λ u. tokens_match rule t u) (op_of d other.op).takes) (op_of d one.op).takes)
      (λ rule. any_too (λ t. list_any (λ u. lines_match w one.args other.args rule t u) (op_of d other.op).takes) (λ t. list_any (λ u. tokens_match rule t u) (op_of d other.op).takes)
      (λ t. any_too (λ u. lines_match w one.args other.args rule t u) (λ u. tokens_match rule t u) (λ u m. (and_parts (tokens_match rule t u) (one_assignment rule.left.vars (elems_of w one.args [] t.args) rule.right.vars (elems_of w other.args [] u.args)) m).0) (op_of d other.op).takes)
      (op_of d one.op).takes)
      d.rules h

  conflicts_are_rivals : (a b : Call) → conflicts d w a b ≡ true → are_rivals d.rules (op_of d a.op).takes (op_of d b.op).takes ≡ true
  conflicts_are_rivals a b h =
      let one = some_rule_may d.rules (op_of d a.op).takes (op_of d b.op).takes in let other = some_rule_may d.rules (op_of d b.op).takes (op_of d a.op).takes in
      either (matched d w a b) (matched d w b a) (one || other) (λ m. first_up one other (matched_may a b m)) (λ m. second_up one other (matched_may b a m)) h

  conflict_elements : (a b : Call) (j k : ℕ) → are_tied j k d.rules (op_of d a.op).takes (op_of d b.op).takes ≡ true → conflicts d w a b ≡ true → element_at a.args j ≡ element_at b.args k
  conflict_elements a b j k tied h =
      let both = and_parts (all_tied j k d.rules (op_of d a.op).takes (op_of d b.op).takes) (all_tied k j d.rules (op_of d b.op).takes (op_of d a.op).takes) tied in
      elim (cases_Bool (matched d w a b)) [
        | inl m ↦ matched_elements a b j k m both.0
        | inr m ↦ sym (matched_elements b a k j (rw m at h) both.1)
      ]

  -- the calls of two operations conflict only as their rivalry says
  rivals_may : (a b : Call) (x y : Bool) → are_rivals d.rules (op_of d a.op).takes (op_of d b.op).takes ≡ x
      → are_tied (key_of (op_of d a.op).takes) (key_of (op_of d b.op).takes) d.rules (op_of d a.op).takes (op_of d b.op).takes ≡ y
      → may_conflict (cond x (cond y (Tied (key_of (op_of d a.op).takes) (key_of (op_of d b.op).takes)) Free) Never) a.args b.args ≡ false → conflicts d w a b ≡ true → ⊥
  rivals_may a b false y rivals tied down h = true≢false (sym (conflicts_are_rivals a b h) ∙ rivals)
  rivals_may a b true false rivals tied down h = true≢false down
  rivals_may a b true true rivals tied down h =
      eqb-false (element_at a.args (key_of (op_of d a.op).takes)) (element_at b.args (key_of (op_of d b.op).takes)) down (conflict_elements a b _ _ tied h)

  rivalry_at : (f : Operation → Rivalry) (os : List Operation) (k : ℕ) (one own : List ℤ) → may_conflict (get_or (map f os) k Free) one own ≡ false → may_conflict (f (get_or os k no_operation)) one own ≡ false
  rivalry_at f [] k one own h = absurd (true≢false h)
  rivalry_at f (o ∷ os) zero one own h = h
  rivalry_at f (o ∷ os) (suc k) one own h = rivalry_at f os k one own h

  -- calls that cannot conflict by their rivalry don't
  pub no_conflict : (a b : Call) (rivals : List Rivalry) → rivals ≡ rivals_of d b.op → may_conflict (get_or rivals a.op Free) a.args b.args ≡ false → conflicts d w a b ≡ false
  no_conflict a b rivals is down = elim (cases_Bool (conflicts d w a b)) [
    | inl e ↦ absurd (rivals_may a b _ _ refl refl (rivalry_at (λ o. rivalry d.rules o.takes (op_of d b.op).takes) d.operations a.op a.args b.args (ap (λ (l : List Rivalry). may_conflict (get_or l a.op Free) a.args b.args) (sym is) ∙ down)) e)
    | inr e ↦ e
  ]
