-- The world, the state, the calls and the elements that an interpretation gives, where it makes the list of an obligation true.
use Rattle.std.proofs.Common.{◌≡◌, ℕ, zero, suc, ◌+◌, ◌<◌, ◌≤◌, ◌==◌, nat_lt, ℤ, pos, Bool, true, inl, inr, None, unwrap_or, List, [], ◌∷◌, ◌++◌, map, length, get_or, slice_get, slice_index, slice_index_or, unsigned_abs, filter, flat_map, refl, sym, ◌∙◌, ap, subst, arith}
use Rattle.std.specs.List.{list_all, range_with_len}
use Rattle.std.proofs.lemmas.List.{length-map}
use Rattle.std.proofs.lemmas.Bool.{lt-ltb, ltb-true, eq-eqb, eqb-true, and_parts, and_from, or_cases}
use Rattle.spec_core.specs.declared.operation.Operation.{Operation}
use Rattle.spec_core.specs.declared.update.Thing.{Thing}
use Rattle.spec_core.specs.declared.update.Thing.TheVariants as thing
use Rattle.spec_core.specs.declared.world.World.{World}
use Rattle.spec_core.specs.declared.world.Call.{Call}
use Rattle.spec_core.specs.Specification.{Specification, op_of, places_of, no_relation, no_counter, relation_places, counter_keys}
use Rattle.spec_core.specs.World.{size_of, below}
use Rattle.spec_core.specs.State.{Listing, Reads, reads, is_in, count_in}
use Rattle.spec_core.specs.Fits.{fits_places, is_world, are_arguments, is_call, is_state, lists_fit, values_fit, AgreeOn}
use Rattle.spec_core.specs.Typed.{is_number, is_specification}
use Rattle.spec_core.proofs.Members.{in_below}
use Rattle.obligation_list.specs.declared.obligation.Obligation.{Obligation}
use Rattle.obligation_list.specs.Obligations.{things, IsObligation}
use Rattle.obligation_list.specs.Breaking.{operations_of, elements_of}
use Rattle.ground_problem.specs.Symbols.{Symbolic, argument, reading, Interpretation, all_true}
use Rattle.ground_problem.specs.Constants.{Constants, constants_of}
use Rattle.ground_problem.specs.Formulas.{caller}
use Rattle.ground_problem.specs.Definitions.{Reading, definition, readings_after, with_definitions}
use Rattle.ground_problem.specs.Equality.{equality, rising, congruent_pairs, congruence}
use Rattle.ground_problem.specs.Problem.{stated, formulas_of}
use Rattle.ground_problem.specs.Readback.{arguments_from, held, held_count}
use Rattle.effectors.specs.Effect.{is_thing}
use Rattle.ground_problem.proofs.Choices.{one_of}
use Rattle.ground_problem.proofs.First.{call_at, Setting}
use Rattle.ground_problem.proofs.Interpret.{const_value}
use Rattle.ground_problem.proofs.Groups.{all_append}
use Rattle.ground_problem.proofs.Names.{EachOf, StageIn, after_names, stated_names, with_names}
use Rattle.ground_problem.proofs.Closed.{each_in, at_in, rows_in}
use Rattle.ground_problem.proofs.Worlds.{HasSort, has_sort, append_left, append_right, element, element_below, firsts_of, constant_of}
use Rattle.ground_problem.proofs.Rows.{HaveSorts, SameRead, rows_same}
use Rattle.ground_problem.proofs.Sorted.{own_sort, params_sorted, elements_sorted}
use Rattle.ground_problem.proofs.Places.{Place}
use Rattle.ground_problem.proofs.Existing.{operation_there, operation_typed, sorts_exist}
use Rattle.ground_problem.proofs.Placed.{with_places, stated_places}
use Rattle.ground_problem.proofs.Values.{split_at, numbers_length, numbers_at, numbers_out, list_at, element_at, number_at, arguments_fit, listed_has, listed_count, held_fit, entries_fit, all_lists_fit, all_values_fit}

-- what the formulas of each thing say, of one thing
thing_piece : (m : Interpretation) (g : Thing → List Symbolic) (make : ℕ → Thing) (xs : List ℕ) (i : ℕ) → one_of i xs ≡ true → all_true m (flat_map g (map make xs)) ≡ true → all_true m (g (make i)) ≡ true
thing_piece m g make [] i k h = absurd cc
thing_piece m g make (x ∷ xs) i k h = elim (or_cases (i == x) (one_of i xs) k) [
  | inl e ↦ subst (λ (v : ℕ). all_true m (g (make v)) ≡ true) (sym (eqb-true i x e)) (append_left m (g (make x)) (flat_map g (map make xs)) h)
  | inr l ↦ thing_piece m g make xs i l (append_right m (g (make x)) (flat_map g (map make xs)) h)
]

things_split : (m : Interpretation) (g : Thing → List Symbolic) (xs ys : List Thing) → all_true m (flat_map g (xs ++ ys)) ≡ true → (all_true m (flat_map g xs) ≡ true) × (all_true m (flat_map g ys) ≡ true)
things_split m g [] ys h = (refl, h)
things_split m g (x ∷ xs) ys h = (let p = things_split m g xs ys (append_right m (g x) (flat_map g (xs ++ ys)) h) in (all_append m (g x) (flat_map g xs) (append_left m (g x) (flat_map g (xs ++ ys)) h) p.0, p.1))

-- a constant's sort exists
sort_exists : (p : ℕ → Bool) (ss : List ℕ) (s n : ℕ) → list_all p ss ≡ true → HasSort ss s n → p s ≡ true
sort_exists p [] s n h k = absurd cc
sort_exists p (x ∷ ss) s zero h k = subst (λ (y : ℕ). p y ≡ true) (eqb-true x s k) (and_parts (p x) (list_all p ss) h).0
sort_exists p (x ∷ ss) s (suc n) h k = sort_exists p ss s n (and_parts (p x) (list_all p ss) h).1 k

sorted_from : (all ss : List ℕ) (from n : ℕ) → n ≡ length ss → ((j s : ℕ) → HasSort ss s j → HasSort all s (from + j)) → HaveSorts all ss (range_with_len from n)
sorted_from all [] from zero e f = tt
sorted_from all [] from (suc n) e f = absurd (omega arith)
sorted_from all (s ∷ ss) from zero e f = absurd (omega arith)
sorted_from all (s ∷ ss) from (suc n) e f = (
  (let q : from + 0 ≡ from = omega arith in subst (λ (x : ℕ). HasSort all s x) q (f 0 s (eq-eqb s s refl))),
  sorted_from all ss (from + 1) n (omega arith) (λ j v k. (let q : from + suc j ≡ from + 1 + j = omega arith in subst (λ (x : ℕ). HasSort all v x) q (f (suc j) v k))),
)

none_past : {X : Type 0} (xs : List X) (x : X) (n : ℕ) → length xs ≤ n → get_or xs n x ≡ x
none_past [] x n h = refl
none_past (y ∷ xs) x zero h = absurd (omega arith)
none_past (y ∷ xs) x (suc n) h = none_past xs x n (omega arith)

module _ (d : Specification) (ob : Obligation) (m : Interpretation) (h : all_true m (formulas_of d ob) ≡ true) (t : is_specification d ≡ true) (io : IsObligation d ob) where
  abbrev pub z : Constants
  z = constants_of d ob

  abbrev pub one : List Symbolic
  one = stated d ob z

  abbrev pub two : List Symbolic
  two = with_definitions d ob z 2 one

  abbrev pub all : List Symbolic
  all = with_definitions d ob z 1 two

  abbrev pub entries : List Reading
  entries = readings_after 0 all

  pub all_holds : all_true m all ≡ true
  all_holds = append_left m all (equality 0 z.sorts ++ congruence entries (things d)) h

  pub axioms : all_true m (equality 0 z.sorts) ≡ true
  axioms = append_left m (equality 0 z.sorts) (congruence entries (things d)) (append_right m all (equality 0 z.sorts ++ congruence entries (things d)) h)

  congruences : all_true m (congruence entries (things d)) ≡ true
  congruences = append_right m (equality 0 z.sorts) (congruence entries (things d)) (append_right m all (equality 0 z.sorts ++ congruence entries (things d)) h)

  pub two_holds : all_true m two ≡ true
  two_holds = append_left m two (flat_map (definition d ob z) (readings_after 1 two)) all_holds

  pub one_holds : all_true m one ≡ true
  one_holds = append_left m one (flat_map (definition d ob z) (readings_after 2 one)) two_holds

  -- ---- the values
  abbrev pub val : ℕ → ℕ
  val = element m z.sorts axioms

  abbrev pub size : ℕ → ℕ
  size s = length (firsts_of m z.sorts axioms s)

  abbrev pub w : World
  w = record { sizes = map size (range_with_len 0 (length d.sorts)); consts = map val (range_with_len 0 (length d.consts)) }

  abbrev pub rows : Thing → List (List ℕ)
  rows x = rising (filter (λ q. is_thing q.thing x) entries)

  -- what is read at the entry, of every thing
  abbrev pub r : Reads
  r = record {
    has = λ i u. held (map val) (m.has [] i) (rows (thing.Relation i)) u;
    count = λ i u. held_count (map val) (λ v. m.int (reading [] i v)) (rows (thing.Counter i)) u;
  }

  -- the state
  abbrev pub listing : Listing
  listing = record {
    relations = map (λ i. map (map val) (filter (m.has [] i) (rows (thing.Relation i)))) (range_with_len 0 (length d.relations));
    counters = map (λ i. map (λ v. (map val v, m.int (reading [] i v))) (rows (thing.Counter i))) (range_with_len 0 (length d.counters));
  }

  abbrev pub call_of : ℕ → ℕ → Call
  call_of n o = record { op = o; args = arguments_from (λ i. val (unwrap_or (get_or (caller z n).params i None) 0)) (λ i. m.int (argument n i)) 0 (op_of d o).params }

  abbrev pub calls_from : ℕ → List ℕ → List Call
  calls_from n [] = []
  calls_from n (o ∷ os) = call_of n o ∷ calls_from (suc n) os

  abbrev pub cs : List Call
  cs = calls_from 0 (operations_of ob)

  abbrev pub es : List ℕ
  es = map val z.elements

  abbrev pub op_n : ℕ → Operation
  op_n n = op_of d (slice_index (operations_of ob) n)

  call_is : (from : ℕ) (os : List ℕ) (n : ℕ) → n < length os → call_at (calls_from from os) n ≡ call_of (from + n) (slice_index os n)
  call_is from [] n l = absurd (omega arith)
  call_is from (o ∷ os) zero l = (let e : from ≡ from + 0 = omega arith in ap (λ (x : ℕ). call_of x o) e)
  call_is from (o ∷ os) (suc n) l = (let e : suc from + n ≡ from + suc n = omega arith in call_is (suc from) os n (omega arith) ∙ ap (λ (x : ℕ). call_of x (slice_index os n)) e)

  pub call_here : (n : ℕ) → n < length (operations_of ob) → call_at cs n ≡ call_of n (slice_index (operations_of ob) n)
  call_here n l = call_is 0 (operations_of ob) n l ∙ (let e : 0 + n ≡ n = omega arith in ap (λ (x : ℕ). call_of x (slice_index (operations_of ob) n)) e)

  -- ---- they fit
  pub size_at : (s : ℕ) → s < length d.sorts → size_of w s ≡ size s
  size_at s l = numbers_at size 0 (length d.sorts) s l ∙ (let e : 0 + s ≡ s = omega arith in ap size e)

  sort_there : (s c : ℕ) → HasSort z.sorts s c → s < length d.sorts
  sort_there s c k = ltb-true s (length d.sorts) (sort_exists (λ s. nat_lt s (length d.sorts)) z.sorts s c (sorts_exist d ob t io) k)

  pub value_below : (s c : ℕ) → HasSort z.sorts s c → val c < size_of w s
  value_below s c k = (let a = element_below m z.sorts axioms s c k in let b = size_at s (sort_there s c k) in omega arith)

  pub sorted_fit : (ss ns : List ℕ) → HaveSorts z.sorts ss ns → fits_places w ss (map val ns) ≡ true
  sorted_fit [] [] k = refl
  sorted_fit [] (n ∷ ns) k = absurd k
  sorted_fit (s ∷ ss) [] k = absurd k
  sorted_fit (s ∷ ss) (n ∷ ns) k = and_from (nat_lt (val n) (size_of w s)) (fits_places w ss (map val ns)) (lt-ltb (val n) (size_of w s) (value_below s n k.0)) (sorted_fit ss ns k.1)

  pub world : is_world d w ≡ true
  world = and_from (length w.sizes == length d.sorts) (fits_places w (map (λ c. c.sort) d.consts) w.consts) (eq-eqb (length w.sizes) (length d.sorts) (numbers_length size 0 (length d.sorts)))
      (sorted_fit (map (λ c. c.sort) d.consts) (range_with_len 0 (length d.consts)) (sorted_from z.sorts (map (λ c. c.sort) d.consts) 0 (length d.consts) (sym (length-map d.consts (λ c. c.sort))) (λ j s k. (let e : j ≡ 0 + j = omega arith in subst (λ (x : ℕ). HasSort z.sorts s x) e (own_sort d ob j s k)))))

  pub elements_fit_here : fits_places w (elements_of d ob) es ≡ true
  elements_fit_here = sorted_fit (elements_of d ob) z.elements (elements_sorted d ob)

  args_fit : (n : ℕ) → n < length (operations_of ob) → are_arguments w (op_n n).params (call_of n (slice_index (operations_of ob) n)).args ≡ true
  args_fit n l = arguments_fit (λ i. val (unwrap_or (get_or (caller z n).params i None) 0)) (λ i. m.int (argument n i)) w 0 (op_n n).params (λ i s k. (let e : i ≡ 0 + i = omega arith in subst (λ (x : ℕ). val (unwrap_or (get_or (caller z n).params x None) 0) < size_of w s) e (value_below s (unwrap_or (get_or (caller z n).params i None) 0) (params_sorted d ob n l i s k))))

  pub call_fits_here : (n : ℕ) → n < length (operations_of ob) → is_call d w (call_of n (slice_index (operations_of ob) n)) ≡ true
  call_fits_here n l = and_from (nat_lt (slice_index (operations_of ob) n) (length d.operations)) _ (lt-ltb (slice_index (operations_of ob) n) (length d.operations) (operation_there d ob io n l)) (args_fit n l)

  pub setting : Setting d ob w cs val
  setting = record {
    typed = t;
    world = world;
    consts = λ n s k. (let e : n ≡ 0 + n = omega arith in ap val e ∙ sym (numbers_at val 0 (length d.consts) n (const_value w d n s k)));
    fit = record { below = λ n l. value_below (slice_index z.sorts n) n (has_sort z.sorts (slice_index z.sorts n) n l refl) };
    ops = λ n l. ap (λ (c : Call). c.op) (call_here n l);
    operation = λ n l. operation_typed d ob t io n l;
    arguments = λ n l. subst (λ (c : Call). are_arguments w (op_n n).params c.args ≡ true) (sym (call_here n l)) (args_fit n l);
    elements = λ n l i s k. subst (λ (c : Call). val (unwrap_or (get_or (caller z n).params i None) 0) ≡ unsigned_abs (slice_index_or c.args i (pos 0))) (sym (call_here n l))
        ((let e : i ≡ 0 + i = omega arith in ap (λ (x : ℕ). val (unwrap_or (get_or (caller z n).params x None) 0)) e) ∙ element_at (λ i. val (unwrap_or (get_or (caller z n).params i None) 0)) (λ i. m.int (argument n i)) 0 (op_n n).params i s k);
  }

  pub integers : (n : ℕ) → n < length (operations_of ob) → (p : ℕ) → is_number (slice_get (op_n n).params p) ≡ true → m.int (argument n p) ≡ slice_index_or (call_at cs n).args p (pos 0)
  integers n l p k = subst (λ (c : Call). m.int (argument n p) ≡ slice_index_or c.args p (pos 0)) (sym (call_here n l))
      ((let e : p ≡ 0 + p = omega arith in ap (λ (x : ℕ). m.int (argument n x)) e) ∙ number_at (λ i. val (unwrap_or (get_or (caller z n).params i None) 0)) (λ i. m.int (argument n i)) 0 (op_n n).params p k)

  -- ---- all that is named is of its thing's sorts
  pub two_places : EachOf (Place d z.sorts) two
  two_places = with_places d ob t io 2 one (stated_names d ob) (stated_places d ob t io)

  pub two_stages : EachOf (StageIn ob) two
  two_stages = with_names d ob 2 one (stated_names d ob)

  all_places : EachOf (Place d z.sorts) all
  all_places = with_places d ob t io 1 two two_stages two_places

  pub row_sorted : (x : Thing) (u : List ℕ) → is_in u (rows x) ≡ true → HaveSorts z.sorts (places_of d x) u
  row_sorted x u k = rows_in (λ v. HaveSorts z.sorts (places_of d x) v) x entries (each_in (λ q. q.thing ≡ x → HaveSorts z.sorts (places_of d x) q.tuple) entries
      (λ q l e. subst (λ (y : Thing). HaveSorts z.sorts (places_of d y) q.tuple) e (at_in (Place d z.sorts) entries (after_names (Place d z.sorts) 0 all all_places) q l))) u k

  -- ---- the state
  row_fits : (x : Thing) (u : List ℕ) → is_in u (rows x) ≡ true → fits_places w (places_of d x) (map val u) ≡ true
  row_fits x u k = sorted_fit (places_of d x) u (row_sorted x u k)

  pub state : is_state d w listing ≡ true
  state = and_from (lists_fit w d.relations listing.relations) (values_fit w d.counters listing.counters)
      (all_lists_fit w d.relations (λ i. map (map val) (filter (m.has [] i) (rows (thing.Relation i)))) 0
      (λ i l. (let e : i ≡ 0 + i = omega arith in subst (λ (x : ℕ). list_all (λ v. fits_places w (relation_places d i) v) (map (map val) (filter (m.has [] x) (rows (thing.Relation x)))) ≡ true) e
      (held_fit w (relation_places d i) (map val) (m.has [] i) (rows (thing.Relation i)) (row_fits (thing.Relation i))))))
      (all_values_fit w d.counters (λ i. map (λ v. (map val v, m.int (reading [] i v))) (rows (thing.Counter i))) 0
      (λ i l. (let e : i ≡ 0 + i = omega arith in subst (λ (x : ℕ). list_all (λ (v : List ℕ × ℤ). fits_places w (counter_keys d i) v.0) (map (λ v. (map val v, m.int (reading [] x v))) (rows (thing.Counter x))) ≡ true) e
      (entries_fit w (counter_keys d i) (map val) (λ v. m.int (reading [] i v)) (rows (thing.Counter i)) (row_fits (thing.Counter i))))))

  pub state_reads : AgreeOn d w (reads listing) r
  state_reads = record {
    has = λ i u l f. ap (is_in u) (list_at (λ i. map (map val) (filter (m.has [] i) (rows (thing.Relation i)))) 0 (length d.relations) i l)
        ∙ (let e : 0 + i ≡ i = omega arith in ap (λ (x : ℕ). is_in u (map (map val) (filter (m.has [] x) (rows (thing.Relation x))))) e) ∙ listed_has (map val) (m.has [] i) (rows (thing.Relation i)) u;
    count = λ i u l f. ap (λ (x : List (List ℕ × ℤ)). count_in x u) (list_at (λ i. map (λ v. (map val v, m.int (reading [] i v))) (rows (thing.Counter i))) 0 (length d.counters) i l)
        ∙ (let e : 0 + i ≡ i = omega arith in ap (λ (x : ℕ). count_in (map (λ v. (map val v, m.int (reading [] x v))) (rows (thing.Counter x))) u) e) ∙ listed_count (map val) (λ v. m.int (reading [] i v)) (rows (thing.Counter i)) u;
  }

  -- ---- equal rows read the same
  nothing_else : (u : List ℕ) → HaveSorts z.sorts [] u → u ≡ []
  nothing_else [] k = refl
  nothing_else (x ∷ u) k = absurd k

  pub entry_same : (x : Thing) (u v : List ℕ) → is_in u (rows x) ≡ true → is_in v (rows x) ≡ true → map val u ≡ map val v → SameRead m z.sorts axioms x u v
  entry_same (thing.Relation i) u v a b e = elim (split_at i (length d.relations)) [
    | inl l ↦ rows_same m z.sorts axioms (thing.Relation i) (places_of d (thing.Relation i)) (rows (thing.Relation i)) (row_sorted (thing.Relation i))
        (thing_piece m (λ x. congruent_pairs x (rows x)) (λ k. thing.Relation k) (below (length d.relations)) i (in_below i (length d.relations) ∙ lt-ltb i (length d.relations) l)
        (things_split m (λ x. congruent_pairs x (rows x)) (map (λ k. thing.Relation k) (below (length d.relations))) (map (λ k. thing.Counter k) (below (length d.counters))) congruences).0) u v a b e
    | inr l ↦ (let p = ap (λ x. x.places) (none_past d.relations no_relation i l) in ap (m.has [] i) (nothing_else u (subst (λ (s : List ℕ). HaveSorts z.sorts s u) p (row_sorted (thing.Relation i) u a)) ∙ sym (nothing_else v (subst (λ (s : List ℕ). HaveSorts z.sorts s v) p (row_sorted (thing.Relation i) v b)))))
  ]
  entry_same (thing.Counter i) u v a b e = elim (split_at i (length d.counters)) [
    | inl l ↦ rows_same m z.sorts axioms (thing.Counter i) (places_of d (thing.Counter i)) (rows (thing.Counter i)) (row_sorted (thing.Counter i))
        (thing_piece m (λ x. congruent_pairs x (rows x)) (λ k. thing.Counter k) (below (length d.counters)) i (in_below i (length d.counters) ∙ lt-ltb i (length d.counters) l)
        (things_split m (λ x. congruent_pairs x (rows x)) (map (λ k. thing.Relation k) (below (length d.relations))) (map (λ k. thing.Counter k) (below (length d.counters))) congruences).1) u v a b e
    | inr l ↦ (let p = ap (λ x. x.keys) (none_past d.counters no_counter i l) in ap (λ (y : List ℕ). m.int (reading [] i y)) (nothing_else u (subst (λ (s : List ℕ). HaveSorts z.sorts s u) p (row_sorted (thing.Counter i) u a)) ∙ sym (nothing_else v (subst (λ (s : List ℕ). HaveSorts z.sorts s v) p (row_sorted (thing.Counter i) v b)))))
  ]

  -- ---- an element of a sort is a constant's
  pub element_of : (s e : ℕ) → e < size_of w s → (c : ℕ) × HasSort z.sorts s c × (val c ≡ e)
  element_of s e l = elim (split_at s (length d.sorts)) [
    | inl b ↦ constant_of m z.sorts axioms s e (let q = size_at s b in omega arith)
    | inr b ↦ absurd (let q = numbers_out size 0 (length d.sorts) s b in omega arith)
  ]
