use Rattle.std.proofs.Common.{◌≡◌, ℕ, suc, ◌+◌, ◌<◌, ℤ, pos, ◌*ℤ◌, ◌+ℤ◌, Bool, true, false, not, cond, ◌&&◌, ◌||◌, ◌==◌, ◌⊎◌, inl, inr, nat_lt, nat_le, List, [], ◌∷◌, length, refl, sym, ◌∙◌, ap, subst, arith}
use Rattle.std.specs.Prelude.{slice_index}
use Rattle.std.specs.List.{list_all, list_any}
use Rattle.std.proofs.lemmas.Bool.{and_parts, and_from, cases_Bool}
use Rattle.std.proofs.lemmas.Bool.Decides.{nat_tests}
use Rattle.spec_core.specs.declared.formula.Elem.{Elem}
use Rattle.spec_core.specs.declared.formula.Elem.TheVariants.{Const, Param, Var}
use Rattle.spec_core.specs.declared.formula.Body.{Body}
use Rattle.spec_core.specs.declared.formula.Body.TheVariants as body
use Rattle.spec_core.specs.declared.formula.Summand.{Summand}
use Rattle.spec_core.specs.declared.formula.Term.{Term}
use Rattle.spec_core.specs.declared.update.Spot.{Spot}
use Rattle.spec_core.specs.declared.update.Spot.TheVariants.{Every, One}
use Rattle.spec_core.specs.declared.update.Thing.{Thing}
use Rattle.spec_core.specs.declared.update.Thing.TheVariants as thing
use Rattle.spec_core.specs.declared.world.World.{World}
use Rattle.spec_core.specs.declared.world.Call.{Call}
use Rattle.spec_core.specs.Form.{Form, true_form, false_form, not_form, and_form, or_form, implies_form, has_form, same_form, differ_form, compare_form}
use Rattle.spec_core.specs.Line.{Line}
use Rattle.spec_core.specs.Specification.{Specification, op_of, relation_places, counter_keys}
use Rattle.spec_core.specs.UpdateLine.{UpdateLine}
use Rattle.spec_core.specs.State.{Reads}
use Rattle.spec_core.specs.World.{size_of, tuples}
use Rattle.spec_core.specs.Truth.{elem_of, elems_of, body_of, sum_of, term_of, compare_of, truth, is_exists, line_true}
use Rattle.spec_core.specs.Fits.{fits_places, in_literal_range, elem_exists, elems_fit, body_fits, summand_fits, term_fits, form_fits, vars_fit, line_fits}
use Rattle.spec_core.proofs.Choosing.{all_tuples}
use Rattle.spec_core.proofs.Members.{is_in-tuples}
use Rattle.effectors.specs.Effect.{spots_match, is_thing, has_changed, count_changed, has_after, count_after, after}
use Rattle.effectors.proofs.Reading.{has_in_world, count_in_world}
use Rattle.touched_lines.specs.declared.spans.Span.{Span}
use Rattle.touched_lines.specs.Spans.{in_span, are_within, all_within}
use Rattle.touched_lines.specs.Touched.{whole, single_if, single, is_var, spot_span, span_at, spans_from, true_where, true_reached, body_true, term_true, form_true}
use Rattle.touched_lines.proofs.Spanning.{below_of, test, within_at, within_all, tuple_at}

-- ---- spans

in_whole : (e size : ℕ) → nat_lt e size ≡ true → in_span (whole size) e ≡ true
in_whole e size h = and_from (nat_le 0 e) (nat_lt e size) (zero_le e) h
  where
    zero_le : (e : ℕ) → nat_le 0 e ≡ true
    zero_le e = grind (arith, nat_tests)

in_single : (v e size : ℕ) → v ≡ e → nat_lt e size ≡ true → in_span (single v size) e ≡ true
in_single v e size same h = subst (λ (x : ℕ). in_span (single x size) e ≡ true) (sym same) (by (nat_lt e size) h)
  where
    itself : (e : ℕ) → nat_le e e ≡ true
    itself e = grind (arith, nat_tests)

    below_next : (e : ℕ) → nat_lt e (suc e) ≡ true
    below_next e = let lt : e < suc e = omega arith in test e (suc e) lt

    by : (b : Bool) → b ≡ true → in_span (single_if b e) e ≡ true
    by true k = and_from (nat_le e e) (nat_lt e (suc e)) (itself e) (below_next e)
    by false k = absurd cc

module _ (w : World) (args : List ℤ) where
  -- a span has elements of the sort alone
  whole_small : (e size : ℕ) → in_span (whole size) e ≡ true → nat_lt e size ≡ true
  whole_small e size h = (and_parts (nat_le 0 e) (nat_lt e size) h).1

  single_small : (v e size : ℕ) → in_span (single v size) e ≡ true → nat_lt e size ≡ true
  single_small v e size h = by (nat_lt v size) refl h
    where
      less : (v e size : ℕ) → nat_lt v size ≡ true → nat_lt e (suc v) ≡ true → nat_lt e size ≡ true
      less v e size a b = let x = below_of v size a in let y = below_of e (suc v) b in test e size (omega (arith, x, y))

      none : (e : ℕ) → nat_lt e 0 ≡ true → ⊥
      none e h = let l = below_of e 0 h in omega (arith, l)

      by : (b : Bool) → nat_lt v size ≡ b → in_span (single_if b v) e ≡ true → nat_lt e size ≡ true
      by true q k = less v e size q (and_parts (nat_le v e) (nat_lt e (suc v)) k).1
      by false q k = absurd (none e (and_parts (nat_le 0 e) (nat_lt e 0) k).1)

  spot_small : (size e : ℕ) (rest : Span) (b : Bool) (x : Spot) → (in_span rest e ≡ true → nat_lt e size ≡ true) → in_span (cond b (spot_span w args size x rest) rest) e ≡ true → nat_lt e size ≡ true
  spot_small size e rest false x f k = f k
  spot_small size e rest true Every f k = f k
  spot_small size e rest true (One y) f k = single_small (elem_of w args [] y) e size k

  span_small : (size n e : ℕ) (es : List Elem) (xs : List Spot) → in_span (span_at w args size n es xs) e ≡ true → nat_lt e size ≡ true
  span_small size n e [] xs h = whole_small e size h
  span_small size n e (y ∷ es) [] h = whole_small e size h
  span_small size n e (y ∷ es) (x ∷ xs) h = spot_small size e (span_at w args size n es xs) (is_var n y) x (span_small size n e es xs) h

  spans_fit : (es : List Elem) (xs : List Spot) (n : ℕ) (ss t : List ℕ) → are_within (spans_from w args es xs n ss) t ≡ true → fits_places w ss t ≡ true
  spans_fit es xs n [] [] h = refl
  spans_fit es xs n [] (e ∷ t) h = absurd cc
  spans_fit es xs n (s ∷ ss) [] h = absurd cc
  spans_fit es xs n (s ∷ ss) (e ∷ t) h =
      let p = and_parts (in_span (span_at w args (size_of w s) n es xs) e) (are_within (spans_from w args es xs (suc n) ss) t) h in
      and_from (nat_lt e (size_of w s)) (fits_places w ss t) (span_small (size_of w s) n e es xs p.0) (spans_fit es xs (suc n) ss t p.1)

  -- Where the spots match what stands at the places, the variables are within their spans.
  module _ (vars : List ℕ) where
    same_var : (k n : ℕ) → (k == n) ≡ true → k ≡ n
    same_var k n h = grind (arith, nat_tests)

    same_elem : (a b : ℕ) → (a == b) ≡ true → a ≡ b
    same_elem a b h = grind (arith, nat_tests)

    either_way : (b : Bool) (s : Span) (v : ℕ) → in_span s v ≡ true → in_span (cond b s s) v ≡ true
    either_way true s v h = h
    either_way false s v h = h

    named_holds : (c n size : ℕ) (y : Elem) (rest : Span) (b : Bool) → (c == n) ≡ b → (elem_of w args [] y == slice_index vars c) ≡ true → nat_lt (slice_index vars n) size ≡ true → in_span rest (slice_index vars n) ≡ true
        → in_span (cond b (single (elem_of w args [] y) size) rest) (slice_index vars n) ≡ true
    named_holds c n size y rest true q m k h = in_single (elem_of w args [] y) (slice_index vars n) size (same_elem (elem_of w args [] y) (slice_index vars c) m ∙ ap (slice_index vars) (same_var c n q)) k
    named_holds c n size y rest false q m k h = h

    span_holds : (es : List Elem) (xs : List Spot) → spots_match w args xs (elems_of w [] vars es) ≡ true → (n size : ℕ) → nat_lt (slice_index vars n) size ≡ true → in_span (span_at w args size n es xs) (slice_index vars n) ≡ true
    span_holds [] xs h n size k = in_whole (slice_index vars n) size k
    span_holds (e ∷ es) [] h n size k = in_whole (slice_index vars n) size k
    span_holds (e ∷ es) (Every ∷ xs) h n size k = either_way (is_var n e) (span_at w args size n es xs) (slice_index vars n) (span_holds es xs h n size k)
    span_holds (Const c ∷ es) (One y ∷ xs) h n size k =
        span_holds es xs (and_parts (elem_of w args [] y == elem_of w [] vars (Const c)) (spots_match w args xs (elems_of w [] vars es)) h).1 n size k
    span_holds (Param c ∷ es) (One y ∷ xs) h n size k =
        span_holds es xs (and_parts (elem_of w args [] y == elem_of w [] vars (Param c)) (spots_match w args xs (elems_of w [] vars es)) h).1 n size k
    span_holds (Var c ∷ es) (One y ∷ xs) h n size k =
        let p = and_parts (elem_of w args [] y == slice_index vars c) (spots_match w args xs (elems_of w [] vars es)) h in
        named_holds c n size y (span_at w args size n es xs) (c == n) refl p.0 k (span_holds es xs p.1 n size k)

    spans_hold : (es : List Elem) (xs : List Spot) → spots_match w args xs (elems_of w [] vars es) ≡ true → (n : ℕ) (ss t : List ℕ) → ((j : ℕ) → slice_index vars (n + j) ≡ slice_index t j) → fits_places w ss t ≡ true
        → are_within (spans_from w args es xs n ss) t ≡ true
    spans_hold es xs m n [] [] at h = refl
    spans_hold es xs m n [] (e ∷ t) at h = absurd cc
    spans_hold es xs m n (s ∷ ss) [] at h = absurd cc
    spans_hold es xs m n (s ∷ ss) (e ∷ t) at h =
        let p = and_parts (nat_lt e (size_of w s)) (fits_places w ss t) h in
        let here : slice_index vars n ≡ e = ap (slice_index vars) (let z : n ≡ n + 0 = omega arith in z) ∙ at 0 in
        let one = span_holds es xs m n (size_of w s) (ap (λ (v : ℕ). nat_lt v (size_of w s)) here ∙ p.0) in
        let next : (j : ℕ) → slice_index vars (suc n + j) ≡ slice_index t j = λ j. ap (slice_index vars) (let z : suc n + j ≡ n + suc j = omega arith in z) ∙ at (suc j) in
        and_from (in_span (span_at w args (size_of w s) n es xs) e) (are_within (spans_from w args es xs (suc n) ss) t)
        (ap (in_span (span_at w args (size_of w s) n es xs)) (sym here) ∙ one) (spans_hold es xs m (suc n) ss t next p.1)

-- ---- what no update reaches stays

-- one of the updates reaches the tuple or key
abbrev pub reaches : World → List ℤ → List UpdateLine → Thing → List ℕ → Bool
reaches w args us x t = list_any (λ (u : UpdateLine). is_thing u.thing x && spots_match w args u.at t) us

or_parts : (a b : Bool) → (a || b) ≡ false → (a ≡ false) × (b ≡ false)
or_parts true b h = absurd cc
or_parts false b h = (refl, h)

or_true : (a b : Bool) → (a || b) ≡ true → (a ≡ true) ⊎ (b ≡ true)
or_true true b h = inl refl
or_true false b h = inr h

guarded : (a b c : Bool) → (a && b) ≡ false → (a && (b && c)) ≡ false
guarded a b c h = grind (arith, h)

has_unreached : (w : World) (r : Reads) (args : List ℤ) (k : ℕ) (t : List ℕ) (us : List UpdateLine) (b : Bool) → reaches w args us (thing.Relation k) t ≡ false → has_after w r args k t us b ≡ b
has_unreached w r args k t [] b h = refl
has_unreached w r args k t (u ∷ us) b h =
    let p = or_parts (is_thing u.thing (thing.Relation k) && spots_match w args u.at t) (reaches w args us (thing.Relation k) t) h in
    ap (has_after w r args k t us) (ap (λ (x : Bool). cond x (has_changed u.change b) b) (guarded (is_thing u.thing (thing.Relation k)) (spots_match w args u.at t) (truth w r args [] u.guard) p.0))
    ∙ has_unreached w r args k t us b p.1

count_unreached : (w : World) (r : Reads) (args : List ℤ) (k : ℕ) (t : List ℕ) (us : List UpdateLine) (v : ℤ) → reaches w args us (thing.Counter k) t ≡ false → count_after w r args k t us v ≡ v
count_unreached w r args k t [] v h = refl
count_unreached w r args k t (u ∷ us) v h =
    let p = or_parts (is_thing u.thing (thing.Counter k) && spots_match w args u.at t) (reaches w args us (thing.Counter k) t) h in
    ap (count_after w r args k t us) (ap (λ (x : Bool). cond x (count_changed w r args u.change v) v) (guarded (is_thing u.thing (thing.Counter k)) (spots_match w args u.at t) (truth w r args [] u.guard) p.0))
    ∙ count_unreached w r args k t us v p.1

-- ---- a line after a call

cond_holds : (a b : Bool) → a ≡ true → cond a b true ≡ true → b ≡ true
cond_holds true b h k = k
cond_holds false b h k = absurd cc

cond_from : (a b : Bool) → (a ≡ true → b ≡ true) → cond a b true ≡ true
cond_from true b h = h refl
cond_from false b h = refl

module _ (d : Specification) (w : World) (l : Line) (fits : line_fits d w [] l ≡ true) where
  body_fits_at : (vars : List ℕ) → fits_places w l.vars vars ≡ true → form_fits d w [] vars l.body ≡ true
  body_fits_at vars h = tuple_at w l.vars (λ vars. form_fits d w [] vars l.body) (and_parts (vars_fit w l) (list_all (λ vars. form_fits d w [] vars l.body) (tuples w l.vars)) fits).1 vars h

  -- the body fits wherever it is asked
  pub where_fits : (args : List ℤ) (es : List Elem) (xs : List Spot) → all_within (spans_from w args es xs 0 l.vars) [] (λ vars. form_fits d w [] vars l.body) ≡ true
  where_fits args es xs = within_all (spans_from w args es xs 0 l.vars) [] (λ vars. form_fits d w [] vars l.body) (λ t k. body_fits_at t (spans_fit w args es xs 0 l.vars t k))

module _ (d : Specification) (w : World) (c : Call) (before : Reads) (l : Line) (fits : line_fits d w [] l ≡ true) where
  abbrev now : Reads
  now = after d w c before

  abbrev updates : List UpdateLine
  updates = (op_of d c.op).updates

  -- at elements that fit the line's variables
  module _ (vars : List ℕ) (fit : fits_places w l.vars vars ≡ true) where
    abbrev Here : Type 0
    Here = truth w now [] vars l.body ≡ true

    where_true : (es : List Elem) (xs : List Spot) → true_where w now c.args l es xs ≡ true → spots_match w c.args xs (elems_of w [] vars es) ≡ true → Here
    where_true es xs h m =
        within_at (spans_from w c.args es xs 0 l.vars) [] vars (λ vars. truth w now [] vars l.body) h
        (spans_hold w c.args vars es xs m 0 l.vars vars (λ j. ap (slice_index vars) (let z : 0 + j ≡ j = omega arith in z)) fit)

    reached_true : (x : Thing) (es : List Elem) (us : List UpdateLine) → true_reached w now c.args l us x es ≡ true → reaches w c.args us x (elems_of w [] vars es) ≡ true → Here
    reached_true x es [] h k = absurd cc
    reached_true x es (u ∷ us) h k =
        let p = and_parts (cond (is_thing u.thing x) (true_where w now c.args l es u.at) true) (true_reached w now c.args l us x es) h in
        elim (or_true (is_thing u.thing x && spots_match w c.args u.at (elems_of w [] vars es)) (reaches w c.args us x (elems_of w [] vars es)) k) [
          | inl here ↦ (let q = and_parts (is_thing u.thing x) (spots_match w c.args u.at (elems_of w [] vars es)) here in where_true es u.at (cond_holds (is_thing u.thing x) (true_where w now c.args l es u.at) q.0 p.0) q.1)
          | inr later ↦ reached_true x es us p.1 later
        ]

    has_stays : (k : ℕ) (es : List Elem) → form_fits d w [] vars (has_form k es) ≡ true → true_reached w now c.args l updates (thing.Relation k) es ≡ true
        → Here ⊎ (now.has k (elems_of w [] vars es) ≡ before.has k (elems_of w [] vars es))
    has_stays k es h t =
        let p = and_parts (nat_lt k (length d.relations)) (elems_fit w [] vars (relation_places d k) es) h in
        let q = and_parts (list_all (elem_exists w [] vars) es) (fits_places w (relation_places d k) (elems_of w [] vars es)) p.1 in
        let at = elems_of w [] vars es in
        elim (cases_Bool (reaches w c.args updates (thing.Relation k) at)) [
          | inl met ↦ inl (reached_true (thing.Relation k) es updates t met)
          | inr unmet ↦ inr (has_in_world d w c before k at (below_of k (length d.relations) p.0)
              ∙ ap (λ (b : Bool). b && has_after w before c.args k at updates (before.has k at)) (is_in-tuples w (relation_places d k) at ∙ q.1)
              ∙ has_unreached w before c.args k at updates (before.has k at) unmet)
        ]

    count_stays : (k : ℕ) (es : List Elem) → body_fits d w [] vars (body.Count k es) ≡ true → true_reached w now c.args l updates (thing.Counter k) es ≡ true
        → Here ⊎ (now.count k (elems_of w [] vars es) ≡ before.count k (elems_of w [] vars es))
    count_stays k es h t =
        let p = and_parts (nat_lt k (length d.counters)) (elems_fit w [] vars (counter_keys d k) es) h in
        let q = and_parts (list_all (elem_exists w [] vars) es) (fits_places w (counter_keys d k) (elems_of w [] vars es)) p.1 in
        let at = elems_of w [] vars es in
        elim (cases_Bool (reaches w c.args updates (thing.Counter k) at)) [
          | inl met ↦ inl (reached_true (thing.Counter k) es updates t met)
          | inr unmet ↦ inr (count_in_world d w c before k at (below_of k (length d.counters) p.0)
              ∙ ap (λ (b : Bool). cond b (count_after w before c.args k at updates (before.count k at)) (pos 0)) (is_in-tuples w (counter_keys d k) at ∙ q.1)
              ∙ count_unreached w before c.args k at updates (before.count k at) unmet)
        ]

    body_stays : (b : Body) → body_fits d w [] vars b ≡ true → body_true w now c.args l updates b ≡ true → Here ⊎ (body_of w now [] vars b ≡ body_of w before [] vars b)
    body_stays body.One h t = inr refl
    body_stays (body.Param k) h t = inr refl
    body_stays (body.Count k es) h t = count_stays k es h t

    sum_stays : (ss : List Summand) → list_all (summand_fits d w [] vars) ss ≡ true → list_all (λ (s : Summand). body_true w now c.args l updates s.body) ss ≡ true → Here ⊎ (sum_of w now [] vars ss ≡ sum_of w before [] vars ss)
    sum_stays [] h t = inr refl
    sum_stays (m ∷ ss) h t =
        let p = and_parts (summand_fits d w [] vars m) (list_all (summand_fits d w [] vars) ss) h in
        let q = and_parts (in_literal_range m.coef) (body_fits d w [] vars m.body) p.0 in
        let u = and_parts (body_true w now c.args l updates m.body) (list_all (λ (s : Summand). body_true w now c.args l updates s.body) ss) t in
        elim (body_stays m.body q.1 u.0) [
          | inl here ↦ inl here
          | inr one ↦ elim (sum_stays ss p.1 u.1) [ inl here ↦ inl here | inr more ↦ inr (λ i. m.coef *ℤ one i +ℤ more i) ]
        ]

    term_stays : (t : Term) → term_fits d w [] vars t ≡ true → term_true w now c.args l updates t ≡ true → Here ⊎ (term_of w now [] vars t ≡ term_of w before [] vars t)
    term_stays t h k = sum_stays t.summands (and_parts _ _ h).1 k

    both_stay : {P Q : Type 0} → Here ⊎ P → Here ⊎ Q → Here ⊎ (P × Q)
    both_stay (inl here) other = inl here
    both_stay (inr one) (inl here) = inl here
    both_stay (inr one) (inr other) = inr (one, other)

    -- the body is true here, or a part of it reads nothing that was reached
    form_stays : (f : Form) → form_fits d w [] vars f ≡ true → form_true w now c.args l updates f ≡ true → Here ⊎ (truth w now [] vars f ≡ truth w before [] vars f)
    form_stays true_form h t = inr refl
    form_stays false_form h t = inr refl
    form_stays (not_form f) h t = elim (form_stays f h t) [ inl here ↦ inl here | inr same ↦ inr (ap not same) ]
    form_stays (and_form f g) h t =
        let p = and_parts (form_fits d w [] vars f) (form_fits d w [] vars g) h in
        let q = and_parts (form_true w now c.args l updates f) (form_true w now c.args l updates g) t in
        elim (both_stay (form_stays f p.0 q.0) (form_stays g p.1 q.1)) [ inl here ↦ inl here | inr same ↦ inr (λ i. same.0 i && same.1 i) ]
    form_stays (or_form f g) h t =
        let p = and_parts (form_fits d w [] vars f) (form_fits d w [] vars g) h in
        let q = and_parts (form_true w now c.args l updates f) (form_true w now c.args l updates g) t in
        elim (both_stay (form_stays f p.0 q.0) (form_stays g p.1 q.1)) [ inl here ↦ inl here | inr same ↦ inr (λ i. same.0 i || same.1 i) ]
    form_stays (implies_form f g) h t =
        let p = and_parts (form_fits d w [] vars f) (form_fits d w [] vars g) h in
        let q = and_parts (form_true w now c.args l updates f) (form_true w now c.args l updates g) t in
        elim (both_stay (form_stays f p.0 q.0) (form_stays g p.1 q.1)) [ inl here ↦ inl here | inr same ↦ inr (λ i. not (same.0 i) || same.1 i) ]
    form_stays (has_form k es) h t = has_stays k es h t
    form_stays (same_form a b) h t = inr refl
    form_stays (differ_form a b) h t = inr refl
    form_stays (compare_form t m u) h k =
        let p = and_parts (term_fits d w [] vars t) (term_fits d w [] vars u) h in
        let q = and_parts (term_true w now c.args l updates t) (term_true w now c.args l updates u) k in
        elim (both_stay (term_stays t p.0 q.0) (term_stays u p.1 q.1)) [ inl here ↦ inl here | inr same ↦ inr (λ i. compare_of m (same.0 i) (same.1 i)) ]

  -- where the line's body is true at all that was reached, the line is
  reached_line : is_exists l.prefix ≡ false → line_true w before [] l ≡ true → form_true w now c.args l updates l.body ≡ true → line_true w now [] l ≡ true
  reached_line all was t =
      let p = λ (r : Reads) (vars : List ℕ). truth w r [] vars l.body in
      let was_all : list_all (p before) (tuples w l.vars) ≡ true = sym (ap (λ (b : Bool). cond b (list_any (p before) (tuples w l.vars)) (list_all (p before) (tuples w l.vars))) all) ∙ was in
      ap (λ (b : Bool). cond b (list_any (p now) (tuples w l.vars)) (list_all (p now) (tuples w l.vars))) all
      ∙ all_tuples w l.vars (p now) (λ vars fit. elim (form_stays vars fit l.body (body_fits_at d w l fits vars fit) t) [
        | inl here ↦ here
        | inr same ↦ same ∙ tuple_at w l.vars (p before) was_all vars fit
      ])

  -- and where the line is true, its body is true at all that was reached
  module _ (r : Reads) (args : List ℤ) (us : List UpdateLine) (all : list_all (λ vars. truth w r [] vars l.body) (tuples w l.vars) ≡ true) where
    where_so : (es : List Elem) (xs : List Spot) → true_where w r args l es xs ≡ true
    where_so es xs = within_all (spans_from w args es xs 0 l.vars) [] (λ vars. truth w r [] vars l.body) (λ t k. tuple_at w l.vars (λ vars. truth w r [] vars l.body) all t (spans_fit w args es xs 0 l.vars t k))

    reached_so : (x : Thing) (es : List Elem) (vs : List UpdateLine) → true_reached w r args l vs x es ≡ true
    reached_so x es [] = refl
    reached_so x es (v ∷ vs) = and_from _ _ (cond_from (is_thing v.thing x) (true_where w r args l es v.at) (λ h. where_so es v.at)) (reached_so x es vs)

    body_so : (b : Body) → body_true w r args l us b ≡ true
    body_so body.One = refl
    body_so (body.Param k) = refl
    body_so (body.Count k es) = reached_so (thing.Counter k) es us

    sum_so : (ss : List Summand) → list_all (λ (s : Summand). body_true w r args l us s.body) ss ≡ true
    sum_so [] = refl
    sum_so (m ∷ ss) = and_from _ _ (body_so m.body) (sum_so ss)

    form_so : (f : Form) → form_true w r args l us f ≡ true
    form_so true_form = refl
    form_so false_form = refl
    form_so (not_form f) = form_so f
    form_so (and_form f g) = and_from _ _ (form_so f) (form_so g)
    form_so (or_form f g) = and_from _ _ (form_so f) (form_so g)
    form_so (implies_form f g) = and_from _ _ (form_so f) (form_so g)
    form_so (has_form k es) = reached_so (thing.Relation k) es us
    form_so (same_form a b) = refl
    form_so (differ_form a b) = refl
    form_so (compare_form t m u) = and_from _ _ (sum_so t.summands) (sum_so u.summands)

  both_ways : (a b : Bool) → (a ≡ true → b ≡ true) → (b ≡ true → a ≡ true) → a ≡ b
  both_ways true b h k = sym (h refl)
  both_ways false true h k = k refl
  both_ways false false h k = refl

  -- So a line that was true is true after the call exactly where its body is true at all that was reached.
  pub reached_is_line : is_exists l.prefix ≡ false → line_true w before [] l ≡ true → form_true w now c.args l updates l.body ≡ line_true w now [] l
  reached_is_line all was =
      let p = λ (vars : List ℕ). truth w now [] vars l.body in
      both_ways (form_true w now c.args l updates l.body) (line_true w now [] l) (reached_line all was)
      (λ h. form_so now c.args updates (sym (ap (λ (b : Bool). cond b (list_any p (tuples w l.vars)) (list_all p (tuples w l.vars))) all) ∙ h) l.body)
