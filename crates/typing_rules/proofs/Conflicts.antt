-- Conflict rules without a fault are well formed.
use Rattle.std.proofs.Common.{◌≡◌, ℕ, suc, ◌+◌, ◌<◌, ◌≤◌, Bool, true, false, not, ◌&&◌, ◌||◌, ◌==◌, nat_lt, if◌then◌else◌, List, [], ◌∷◌, ◌++◌, length, get_or, map, Option, None, Some, refl, sym, ◌∙◌, ap, arith}
use Rattle.std.proofs.lemmas.Bool.{and_from, and_parts, or_left, or_right}
use Rattle.std.proofs.lemmas.List.{length-append, length-map}
use Rattle.std.proofs.lemmas.List.Folds.{list_all-append, list_any-append}
use Rattle.std.proofs.lemmas.List.Quantifiers.{position-Some}
use Rattle.std.specs.Prelude.{unwrap_or, position, is_none}
use Rattle.std.specs.List.{list_all, list_any, zip, position_or_len}
use Rattle.std.specs.Str.{bytes_eq}
use Rattle.spec_core.specs.Specification.{token_places}
use Rattle.spec_core.specs.Typed.{is_sort, is_pattern, agree_on, sorts_of_vars, is_rule}
use Rattle.spec_trees.specs.declared.tree.Mark.{Mark}
use Rattle.spec_trees.specs.declared.tree.Reading.{Reading}
use Rattle.typing_rules.specs.declared.which.Which.TheVariants as which
use Rattle.typing_rules.specs.Fault.{◌otherwise◌, kind_at, limit_at}
use Rattle.typing_rules.specs.Scope.{token_meant}
use Rattle.typing_rules.specs.Terms.{small, places_fault}
use Rattle.typing_rules.specs.Items.{Known, scope_in, rule_sort, rule_variable_fault, rule_variables_fault, pattern_fault_at, pattern_fault, conflict_fault, variable_number, pattern_of, rule_of}
use Rattle.typing_rules.proofs.Basics.{list_all-mono, test, same_number, equal_self, sort_some, otherwise_none}
use Rattle.typing_rules.proofs.Elements.{NamesFit, stranger, places_none}
use Rattle.typing_rules.proofs.Distinct.{same_text, text_self}

-- ---- places with one sort for each variable

pub agree_all : (σ : ℕ → Option ℕ) (xs : List (ℕ × ℕ)) → list_all (λ (x : ℕ × ℕ). is_sort (σ x.0) x.1) xs ≡ true → list_all (agree_on xs) xs ≡ true
agree_all σ xs h = list_all-mono (λ (x : ℕ × ℕ). is_sort (σ x.0) x.1) (agree_on xs) (λ x hx. list_all-mono (λ (y : ℕ × ℕ). is_sort (σ y.0) y.1) (λ (y : ℕ × ℕ). not (x.0 == y.0) || (x.1 == y.1)) (λ y hy. one x.0 x.1 y.0 y.1 hx hy) xs h) xs h
  where
    one : (a s b t : ℕ) → is_sort (σ a) s ≡ true → is_sort (σ b) t ≡ true → (not (a == b) || (s == t)) ≡ true
    one a s b t p q = by (a == b) refl
      where
        by : (c : Bool) → (a == b) ≡ c → (not c || (s == t)) ≡ true
        by false e = refl
        by true e =
            let f : σ a ≡ σ b = ap σ (same_number a b e) in
            let g : Some s ≡ Some t = sym (sort_some (σ a) s p) ∙ f ∙ sort_some (σ b) t q in
            let i : s ≡ t = cc in
            ap (λ u. s == u) (sym i) ∙ equal_self s

-- ---- the place of a variable

among : List ℕ → List Mark → Bool
among name ms = list_any (λ o. bytes_eq o.text name) ms

no_mark : Mark
no_mark = record { text = []; word = 0 }

within : {X : Type 0} (p : X → Bool) (xs : List X) → list_any p xs ≡ true → position_or_len p xs < length xs
within p [] h = absurd cc
within p (x ∷ xs) h = by (p x) h (within p xs)
  where
    by : (b : Bool) → (b || list_any p xs) ≡ true → (list_any p xs ≡ true → position_or_len p xs < length xs) → (if not b then 1 + position_or_len p xs else 0) < suc (length xs)
    by true h f = omega arith
    by false h f = let q = f h in omega arith

found : {X : Type 0} (p : X → Bool) (xs : List X) → list_any p xs ≡ true → (i : ℕ) × (position p xs ≡ Some i)
found p xs h = (position_or_len p xs, ap (λ b. if b then Some (position_or_len p xs) else None) (test (position_or_len p xs) (length xs) (within p xs h)))

small_some : (o : Option ℕ) (i : ℕ) → o ≡ Some i → i < 256 → small o ≡ Some i
small_some o i h lt = ap small h ∙ ap (λ b. if b then Some i else None) (test i 256 lt)

module _ (k : Known) (p q : Reading) where
  -- the sort of the variable that is first at a place of the rule
  numbered_sort : ℕ → Option ℕ
  numbered_sort i = rule_sort k p q (get_or (p.args ++ q.args) i no_mark).text

  numbered : (m : Mark) → length (p.args ++ q.args) < 256 → among m.text (p.args ++ q.args) ≡ true → (get_or (p.args ++ q.args) (variable_number p q m) no_mark).text ≡ m.text
  unfolding among
  numbered m few h =
      let f = found (λ o. bytes_eq o.text m.text) (p.args ++ q.args) h in
      let g = position-Some (λ o. bytes_eq o.text m.text) (p.args ++ q.args) f.0 no_mark f.1 in
      let i : f.0 < 256 = omega (arith, g.0) in
      let e : variable_number p q m ≡ f.0 = ap (λ (o : Option ℕ). unwrap_or o 0) (small_some (position (λ o. bytes_eq o.text m.text) (p.args ++ q.args)) f.0 f.1 i) in
      ap (λ n. (get_or (p.args ++ q.args) n no_mark).text) e ∙ same_text (get_or (p.args ++ q.args) f.0 no_mark).text m.text g.1

  variable_is : (s : ℕ) (m : Mark) → rule_variable_fault k p q s m ≡ None → is_sort (rule_sort k p q m.text) s ≡ true
  variable_is s m h = (and_parts (is_none (k.names m.text)) (is_sort (rule_sort k p q m.text) s) (by (is_none (k.names m.text) && is_sort (rule_sort k p q m.text) s) h)).1
    where
      by : (b : Bool) → (if b then None else kind_at m) ≡ None → b ≡ true
      by true h = refl
      by false h = absurd cc

  -- each variable has the sort of its place
  variables_are : length (p.args ++ q.args) < 256 → (ss : List ℕ) (ms : List Mark) → ((m : Mark) → among m.text ms ≡ true → among m.text (p.args ++ q.args) ≡ true) → rule_variables_fault k p q ss ms ≡ None
      → list_all (λ (x : ℕ × ℕ). is_sort (numbered_sort x.0) x.1) (zip (map (variable_number p q) ms) ss) ≡ true
  unfolding numbered_sort among
  variables_are few [] [] has h = refl
  variables_are few [] (m ∷ ms) has h = refl
  variables_are few (s ∷ ss) [] has h = refl
  variables_are few (s ∷ ss) (m ∷ ms) has h =
      let f = otherwise_none (rule_variable_fault k p q s m) (rule_variables_fault k p q ss ms) h in
      let e = numbered m few (has m (or_left (bytes_eq m.text m.text) (among m.text ms) (text_self m.text))) in
      and_from (is_sort (numbered_sort (variable_number p q m)) s) (list_all (λ (x : ℕ × ℕ). is_sort (numbered_sort x.0) x.1) (zip (map (variable_number p q) ms) ss))
      (ap (λ name. is_sort (rule_sort k p q name) s) e ∙ variable_is s m f.0)
      (variables_are few ss ms (λ o g. has o (or_right (bytes_eq m.text o.text) (among o.text ms) g)) f.1)

  -- what a pattern without a fault is
  record Patterned (r : Reading) (o : Option ℕ) : Type 0 where
    token : nat_lt (unwrap_or o 0) (length k.design.tokens) ≡ true
    long : length (token_places k.design (unwrap_or o 0)) ≡ length r.args
    sorted : rule_variables_fault k p q (token_places k.design (unwrap_or o 0)) r.args ≡ None

  patterned : NamesFit k.design k.names → (r : Reading) (o : Option ℕ) → token_meant (k.names r.name.text) ≡ o → pattern_fault_at k p q r o ≡ None → Patterned r o
  patterned fit r None e h = absurd (stranger (scope_in k) r.name h)
  patterned fit r (Some t) e h =
      let f = otherwise_none (places_fault r.name (token_places k.design t) (length r.args)) (rule_variables_fault k p q (token_places k.design t) r.args) h in
      record { token = test t (length k.design.tokens) (fit.tokens r.name.text t e); long = places_none r.name (token_places k.design t) (length r.args) f.0; sorted = f.1 }

  pattern_is : (r : Reading) → Patterned r (token_meant (k.names r.name.text)) → is_pattern k.design (pattern_of k p q r) ≡ true
  pattern_is r f =
      let e : length (map (variable_number p q) r.args) ≡ length (token_places k.design (unwrap_or (token_meant (k.names r.name.text)) 0)) = length-map r.args (variable_number p q) ∙ sym f.long in
      and_from (nat_lt (unwrap_or (token_meant (k.names r.name.text)) 0) (length k.design.tokens)) (length (map (variable_number p q) r.args) == length (token_places k.design (unwrap_or (token_meant (k.names r.name.text)) 0)))
      f.token (ap (λ n. n == length (token_places k.design (unwrap_or (token_meant (k.names r.name.text)) 0))) e ∙ equal_self (length (token_places k.design (unwrap_or (token_meant (k.names r.name.text)) 0))))

  -- a rule, where tokens have few places
  pub rule_is_typed : NamesFit k.design k.names → ((t : ℕ) → length (token_places k.design t) ≤ 3) → (w : ℕ) → conflict_fault k w p q ≡ None → is_rule k.design (rule_of k p q) ≡ true
  unfolding among
  rule_is_typed fit few w h =
      let f = otherwise_none (limit_at which.Conflicts 32 (length k.design.rules) w) (pattern_fault k p q p otherwise pattern_fault k p q q) h in
      let g = otherwise_none (pattern_fault k p q p) (pattern_fault k p q q) f.1 in
      let a = patterned fit p (token_meant (k.names p.name.text)) refl g.0 in
      let b = patterned fit q (token_meant (k.names q.name.text)) refl g.1 in
      let c = few (unwrap_or (token_meant (k.names p.name.text)) 0) in
      let e = few (unwrap_or (token_meant (k.names q.name.text)) 0) in
      let all = length-append p.args q.args in
      let al = a.long in let bl = b.long in
      let lt : length (p.args ++ q.args) < 256 = omega arith in
      let in_left = λ (m : Mark) (x : among m.text p.args ≡ true). list_any-append (λ o. bytes_eq o.text m.text) p.args q.args ∙ or_left (among m.text p.args) (among m.text q.args) x in
      let in_right = λ (m : Mark) (x : among m.text q.args ≡ true). list_any-append (λ o. bytes_eq o.text m.text) p.args q.args ∙ or_right (among m.text p.args) (among m.text q.args) x in
      let left = variables_are lt (token_places k.design (unwrap_or (token_meant (k.names p.name.text)) 0)) p.args in_left a.sorted in
      let right = variables_are lt (token_places k.design (unwrap_or (token_meant (k.names q.name.text)) 0)) q.args in_right b.sorted in
      and_from (is_pattern k.design (pattern_of k p q p) && is_pattern k.design (pattern_of k p q q)) (list_all (agree_on (sorts_of_vars k.design (rule_of k p q))) (sorts_of_vars k.design (rule_of k p q)))
      (and_from (is_pattern k.design (pattern_of k p q p)) (is_pattern k.design (pattern_of k p q q)) (pattern_is p a) (pattern_is q b))
      (agree_all numbered_sort (sorts_of_vars k.design (rule_of k p q))
      (list_all-append (λ (x : ℕ × ℕ). is_sort (numbered_sort x.0) x.1) (zip (map (variable_number p q) p.args) (token_places k.design (unwrap_or (token_meant (k.names p.name.text)) 0))) (zip (map (variable_number p q) q.args) (token_places k.design (unwrap_or (token_meant (k.names q.name.text)) 0)))
      ∙ and_from (list_all (λ (x : ℕ × ℕ). is_sort (numbered_sort x.0) x.1) (zip (map (variable_number p q) p.args) (token_places k.design (unwrap_or (token_meant (k.names p.name.text)) 0))))
      (list_all (λ (x : ℕ × ℕ). is_sort (numbered_sort x.0) x.1) (zip (map (variable_number p q) q.args) (token_places k.design (unwrap_or (token_meant (k.names q.name.text)) 0)))) left right))
