-- The text of a state is that of the facts and readings that are shown of it.
use Rattle.std.proofs.Common.{◌≡◌, ℕ, suc, ◌+◌, ℤ, Bool, true, false, not, cond, List, [], ◌∷◌, ◌++◌, map, get_or, refl, sym, ap, ◌∙◌, append_assoc, arith}
use Rattle.std.specs.Prelude.{pos, codes}
use Rattle.std.specs.List.{filter, flat_map}
use Rattle.std.specs.Fmt.{decimal, signed_decimal}
use Rattle.std.proofs.lemmas.Bool.{cond-true}
use Rattle.std.proofs.lemmas.List.{append-nil}
use Rattle.std.proofs.lemmas.Grind.{flat_map-append}
use Rattle.spec_core.specs.declared.spec.Relation.{Relation}
use Rattle.spec_core.specs.declared.spec.Counter.{Counter}
use Rattle.spec_core.specs.declared.world.World.{World}
use Rattle.spec_core.specs.Specification.{Specification}
use Rattle.spec_core.specs.State.{Reads}
use Rattle.spec_core.specs.World.{tuples}
use Rattle.spec_core.specs.Truth.{int_eq}
use Rattle.spec_states.specs.StateText
use Rattle.spec_states.specs.StateText.{true_line, count_line, relation_lines, counter_lines, state_text}
use Rattle.report_lines.specs.declared.witness.Fact.{Fact}
use Rattle.report_lines.specs.declared.witness.Reading.{Reading}
use Rattle.report_lines.specs.declared.witness.Shown.TheVariants as shown
use Rattle.report_lines.specs.Words.{joined, line_text, spaced}
use Rattle.report_lines.specs.Witnesses.{relation_names, counter_names, is_other}
use Rattle.report_lines.proofs.Splitting.{joined_spaced, spaced-append}
use Rattle.proof_report.specs.Events.{shown_words}
use Rattle.report_bytes.specs.Showing.{fact_of, reading_of, facts_from, readings_from}

-- ---- one line

spaced_elements : (es : List ℕ) → spaced (map decimal es) ≡ StateText.spaced es
spaced_elements [] = refl
spaced_elements (e ∷ es) = ap (λ (t : List ℕ). 32 ∷ decimal e ++ t) (spaced_elements es)

fact_line : (name t : List ℕ) → true_line name t ≡ line_text (codes "true" ∷ name ∷ map decimal t)
fact_line name t =
    let words : joined (name ∷ map decimal t) ≡ name ++ StateText.spaced t = joined_spaced name (map decimal t) ∙ ap (λ (z : List ℕ). name ++ z) (spaced_elements t) in
    ap (λ (z : List ℕ). codes "true " ++ (z ++ 10 ∷ [])) (sym words)

not_true : (b : Bool) → not b ≡ true → b ≡ false
not_true true h = sym h
not_true false h = refl

not_false : (b : Bool) → not b ≡ false → b ≡ true
not_false true h = refl
not_false false h = sym h

reading_line : (name t : List ℕ) (v : ℤ) → is_other v ≡ true → count_line name (t, v) ≡ line_text (codes "count" ∷ name ∷ (map decimal t ++ signed_decimal v ∷ []))
reading_line name t v other =
    let z : int_eq v (pos 0) ≡ false = not_true (int_eq v (pos 0)) other in
    let value : spaced (map decimal t ++ signed_decimal v ∷ []) ≡ StateText.spaced t ++ 32 ∷ signed_decimal v =
    spaced-append (map decimal t) (signed_decimal v ∷ []) ∙ (λ i. spaced_elements t i ++ 32 ∷ append-nil (signed_decimal v) i) in
    let words : joined (name ∷ (map decimal t ++ signed_decimal v ∷ [])) ≡ ((name ++ StateText.spaced t) ++ 32 ∷ []) ++ signed_decimal v =
    joined_spaced name (map decimal t ++ signed_decimal v ∷ []) ∙ ap (λ (x : List ℕ). name ++ x) value
    ∙ sym (append_assoc name (StateText.spaced t) (32 ∷ signed_decimal v)) ∙ sym (append_assoc (name ++ StateText.spaced t) (32 ∷ []) (signed_decimal v)) in
    let text = ap (λ (x : List ℕ). codes "count " ++ (x ++ 10 ∷ [])) (sym words) in
    rw z text

no_line : (name t : List ℕ) (v : ℤ) → is_other v ≡ false → count_line name (t, v) ≡ []
no_line name t v h = cond-true _ _ _ (not_false (int_eq v (pos 0)) h)

-- ---- the lines of one relation, and of one counter

module _ (d : Specification) where
  abbrev pub fact_text : Fact → List ℕ
  fact_text f = line_text (shown_words d (shown.Fact f))

  abbrev pub reading_text : Reading → List ℕ
  reading_text r = line_text (shown_words d (shown.Reading r))

  one_relation : (name : List ℕ) (k : ℕ) → get_or (relation_names d) k [] ≡ name → (ts : List (List ℕ)) → flat_map fact_text (map (fact_of k) ts) ≡ flat_map (true_line name) ts
  one_relation name k e [] = refl
  one_relation name k e (t ∷ ts) =
      let a : fact_text (fact_of k t) ≡ true_line name t = ap (λ (n : List ℕ). line_text (codes "true" ∷ n ∷ map decimal t)) e ∙ sym (fact_line name t) in
      let b = one_relation name k e ts in
      λ i. a i ++ b i

  one_counter : (name : List ℕ) (r : Reads) (k : ℕ) → get_or (counter_names d) k [] ≡ name → (ts : List (List ℕ))
      → flat_map reading_text (map (reading_of r k) (filter (λ t. is_other (r.count k t)) ts)) ≡ flat_map (λ t. count_line name (t, r.count k t)) ts
  one_counter name r k e [] = refl
  one_counter name r k e (t ∷ ts) = at (is_other (r.count k t)) refl (one_counter name r k e ts)
    where
      at : (b : Bool) → is_other (r.count k t) ≡ b → flat_map reading_text (map (reading_of r k) (filter (λ t. is_other (r.count k t)) ts)) ≡ flat_map (λ t. count_line name (t, r.count k t)) ts
          → flat_map reading_text (map (reading_of r k) (cond b (t ∷ filter (λ t. is_other (r.count k t)) ts) (filter (λ t. is_other (r.count k t)) ts))) ≡ count_line name (t, r.count k t) ++ flat_map (λ t. count_line name (t, r.count k t)) ts
      at true h rest =
          let a : reading_text (reading_of r k t) ≡ count_line name (t, r.count k t) = ap (λ (n : List ℕ). line_text (codes "count" ∷ n ∷ (map decimal t ++ signed_decimal (r.count k t) ∷ []))) e ∙ sym (reading_line name t (r.count k t) h) in
          λ i. a i ++ rest i
      at false h rest = rest ∙ ap (λ (x : List ℕ). x ++ flat_map (λ t. count_line name (t, r.count k t)) ts) (sym (no_line name t (r.count k t) h))

  -- ---- all of them

  relations_shown : (w : World) (r : Reads) (k : ℕ) (rs : List Relation) → ((n j : ℕ) → n ≡ k + j → get_or (relation_names d) n [] ≡ get_or (map (λ (x : Relation). x.name) rs) j []) → flat_map fact_text (facts_from w r k rs) ≡ relation_lines w r k rs
  relations_shown w r k [] e = refl
  relations_shown w r k (x ∷ rs) e =
      let ts = filter (r.has k) (tuples w x.places) in
      let here : k ≡ k + 0 = omega arith in
      let a = one_relation x.name k (e k 0 here) ts in
      let b = relations_shown w r (suc k) rs (λ n j h. e n (suc j) (let z : n ≡ k + suc j = omega (arith, h) in z)) in
      flat_map-append fact_text (map (fact_of k) ts) (facts_from w r (suc k) rs) ∙ (λ i. a i ++ b i)

  counters_shown : (w : World) (r : Reads) (k : ℕ) (cs : List Counter) → ((n j : ℕ) → n ≡ k + j → get_or (counter_names d) n [] ≡ get_or (map (λ (x : Counter). x.name) cs) j []) → flat_map reading_text (readings_from w r k cs) ≡ counter_lines w r k cs
  counters_shown w r k [] e = refl
  counters_shown w r k (c ∷ cs) e =
      let ts = tuples w c.keys in
      let here : k ≡ k + 0 = omega arith in
      let a = one_counter c.name r k (e k 0 here) ts in
      let b = counters_shown w r (suc k) cs (λ n j h. e n (suc j) (let z : n ≡ k + suc j = omega (arith, h) in z)) in
      flat_map-append reading_text (map (reading_of r k) (filter (λ t. is_other (r.count k t)) ts)) (readings_from w r (suc k) cs) ∙ (λ i. a i ++ b i)

  pub state_shown : (w : World) (r : Reads) → state_text d w r ≡ flat_map fact_text (facts_from w r 0 d.relations) ++ flat_map reading_text (readings_from w r 0 d.counters)
  state_shown w r =
      let same : (n j : ℕ) → n ≡ 0 + j → n ≡ j = λ n j k. omega (arith, k) in
      let a = relations_shown w r 0 d.relations (λ n j k. ap (λ (m : ℕ). get_or (relation_names d) m []) (same n j k)) in
      let b = counters_shown w r 0 d.counters (λ n j k. ap (λ (m : ℕ). get_or (counter_names d) m []) (same n j k)) in
      sym (λ i. a i ++ b i)
