-- A specification none of whose obligations is broken is a safe system in every world.
use Rattle.std.proofs.Common.{◌≡◌, ℕ, suc, ◌<◌, ◌≤◌, ℤ, Bool, true, false, cond, ◌||◌, inl, inr, List, [], ◌∷◌, map, length, get_or, refl, sym, ◌∙◌, subst, arith}
use Rattle.std.specs.Prelude.{nat_lt}
use Rattle.std.specs.List.{list_all, list_any}
use Rattle.std.proofs.lemmas.Bool.{and_parts, and_from, or_parts, cases_Bool, cases_lt, ltb-true, true_from_ne_false, false_from_ne_true}
use Rattle.spec_core.specs.declared.world.World.{World}
use Rattle.spec_core.specs.declared.world.Call.{Call}
use Rattle.spec_core.specs.declared.update.Thing.{Thing}
use Rattle.spec_core.specs.declared.update.Thing.TheVariants as thing
use Rattle.spec_core.specs.declared.spec.Invariant.{Invariant}
use Rattle.spec_core.specs.Line.{Line}
use Rattle.spec_core.specs.Specification.{Specification, relation_places, counter_keys, places_of, no_line, no_invariant, op_of}
use Rattle.spec_core.specs.State.{Listing, Reads, reads, is_in}
use Rattle.spec_core.specs.World.{tuples}
use Rattle.spec_core.specs.Truth.{truth, is_exists, line_true, lines_true}
use Rattle.spec_core.specs.Meaning.{inv, pre, initial, invariant_line}
use Rattle.spec_core.specs.Fits.{fits_places, is_world, is_call, is_state, are_arguments}
use Rattle.spec_core.proofs.Choosing.{all_tuples}
use Rattle.spec_core.proofs.States.{tuples_fit}
use Rattle.effectors.specs.Effect.{after_call, after}
use Rattle.effectors.proofs.Reading.{after_is_state, initial_is_state, has_undeclared, count_undeclared, has_outside, has_stays, count_outside, count_stays}
use Rattle.token_rules.specs.Conflict.{matched, conflicts}
use Rattle.obligation_list.specs.declared.obligation.Obligation.TheVariants.{Init, Safety, Commute, Stable}
use Rattle.obligation_list.specs.Obligations.{writes, either_writes, IsThing}
use Rattle.obligation_list.specs.Breaking.{reads_same, line_at, failing_vars, requires_line, MayRunTogether, Safe}
use Rattle.obligation_list.proofs.Equal.{same_bool, same_int, reads_same_swap}
use Rattle.executions.specs.Executions.{IsSystem, IsSafe}
use Rattle.executions.specs.Convergence.{system_of, Converges}
use Rattle.executions.proofs.Systems.{system_converges}

-- ---- a line is true where it is true at all its elements
by_prefix : (w : World) (b : Bool) (vars : List ℕ) (p : List ℕ → Bool)
    → ((es : List ℕ) → fits_places w (cond b [] vars) es ≡ true → cond b (cond b (list_any p (tuples w vars)) (list_all p (tuples w vars))) (p es) ≡ true)
    → cond b (list_any p (tuples w vars)) (list_all p (tuples w vars)) ≡ true
by_prefix w true vars p h = h [] refl
by_prefix w false vars p h = all_tuples w vars p h

line_from : (w : World) (r : Reads) (args : List ℤ) (l : Line) → ((es : List ℕ) → fits_places w (failing_vars l) es ≡ true → line_at w r args l es ≡ true) → line_true w r args l ≡ true
line_from w r args l h = by_prefix w (is_exists l.prefix) l.vars (λ vars. truth w r args vars l.body) h

lines_from : (w : World) (r : Reads) (args : List ℤ) (ls : List Line) → ((i : ℕ) → i < length ls → line_true w r args (get_or ls i no_line) ≡ true) → lines_true w r args ls ≡ true
lines_from w r args [] h = refl
lines_from w r args (l ∷ ls) h = and_from (line_true w r args l) (lines_true w r args ls) (h 0 (let lt : 0 < suc (length ls) = omega arith in lt)) (lines_from w r args ls (λ i k. h (suc i) (let lt : suc i < suc (length ls) = omega (arith, k) in lt)))

inv_from : (w : World) (r : Reads) (is : List Invariant) → ((i : ℕ) → i < length is → line_true w r [] (get_or is i no_invariant).line ≡ true) → lines_true w r [] (map (λ i. i.line) is) ≡ true
inv_from w r [] h = refl
inv_from w r (i ∷ is) h = and_from (line_true w r [] i.line) (lines_true w r [] (map (λ i. i.line) is)) (h 0 (let lt : 0 < suc (length is) = omega arith in lt)) (inv_from w r is (λ i k. h (suc i) (let lt : suc i < suc (length is) = omega (arith, k) in lt)))

-- ---- calls
or_swap : (a b : Bool) → (a || b) ≡ (b || a)
or_swap a b = grind arith

call_op : (d : Specification) (w : World) (c : Call) → is_call d w c ≡ true → c.op < length d.operations
call_op d w c h = ltb-true c.op (length d.operations) (and_parts (nat_lt c.op (length d.operations)) (are_arguments w (op_of d c.op).params c.args) h).0

conflict_swap : (d : Specification) (w : World) (a b : Call) → conflicts d w a b ≡ conflicts d w b a
conflict_swap d w a b = or_swap (matched d w a b) (matched d w b a)

swapped : (d : Specification) (w : World) (r : Reads) (a b : Call) → MayRunTogether d w r a b → MayRunTogether d w r b a
swapped d w r a b t = record { invariant = t.invariant; first = t.second; second = t.first; apart = conflict_swap d w b a ∙ t.apart }

-- ---- nothing breaks an obligation
module _ (d : Specification) (safe : Safe d) (w : World) (world : is_world d w ≡ true) where
  init_holds : inv d w (reads (initial d w)) ≡ true
  init_holds = inv_from w (reads (initial d w)) d.invariants (λ i lt. line_from w (reads (initial d w)) [] (invariant_line d i) (λ es fits.
      true_from_ne_false _ (λ fails. safe (Init i) lt w (initial d w) [] es (record {
        world = world;
        state = initial_is_state d w;
        elements = fits;
        broken = record { start = refl; fails = fails };
      }))))

  safety_holds : (a : Call) (s : Listing) → is_call d w a ≡ true → is_state d w s ≡ true → inv d w (reads s) ≡ true → pre d w a (reads s) ≡ true → inv d w (after d w a (reads s)) ≡ true
  safety_holds a s call state inv ready = inv_from w (after d w a (reads s)) d.invariants (λ i lt. line_from w (after d w a (reads s)) [] (invariant_line d i) (λ es fits.
      true_from_ne_false _ (λ fails. safe (Safety a.op i) (call_op d w a call, lt) w s (a ∷ []) es (record {
        world = world;
        state = state;
        elements = fits;
        broken = record { call = record { operation = refl; fits = call }; invariant = inv; ready = ready; fails = fails };
      }))))

  module _ (s : Listing) (state : is_state d w s ≡ true) where
    -- two calls in the state, one of them after the other
    abbrev then : Call → Call → Reads
    then a b = after d w b (after d w a (reads s))

    abbrev Together : Call → Call → Type 0
    Together a b = MayRunTogether d w (reads s) a b

    stable_holds : (a b : Call) → is_call d w a ≡ true → is_call d w b ≡ true → Together a b → pre d w a (after d w b (reads s)) ≡ true
    stable_holds a b one other t = lines_from w (after d w b (reads s)) a.args (op_of d a.op).requires_ (λ l lt. line_from w (after d w b (reads s)) a.args (requires_line d a.op l) (λ es fits.
        true_from_ne_false _ (λ fails. safe (Stable a.op l b.op) (call_op d w a one, lt, call_op d w b other) w s (a ∷ b ∷ []) es (record {
          world = world;
          state = state;
          elements = fits;
          broken = record { first = record { operation = refl; fits = one }; second = record { operation = refl; fits = other }; together = t; fails = fails };
        }))))

    -- what either call writes reads the same after both orders; the obligation asks it of a pair of operations in one order
    same_in_order : (a b : Call) (x : Thing) (es : List ℕ) → a.op ≤ b.op → is_call d w a ≡ true → is_call d w b ≡ true → Together a b → IsThing d x → either_writes d a.op b.op x ≡ true → is_in es (tuples w (places_of d x)) ≡ true
        → reads_same x es (then a b) (then b a) ≡ true
    same_in_order a b x es le one other t thing written there =
        true_from_ne_false _ (λ fails. safe (Commute a.op b.op x) (le, call_op d w b other, thing, written) w s (a ∷ b ∷ []) es (record {
          world = world;
          state = state;
          elements = tuples_fit w (places_of d x) es there;
          broken = record { first = record { operation = refl; fits = one }; second = record { operation = refl; fits = other }; together = t; fails = fails };
        }))

    module _ (a b : Call) (one : is_call d w a ≡ true) (other : is_call d w b ≡ true) (t : Together a b) where
      same_written : (x : Thing) (es : List ℕ) → IsThing d x → either_writes d a.op b.op x ≡ true → is_in es (tuples w (places_of d x)) ≡ true → reads_same x es (then a b) (then b a) ≡ true
      same_written x es thing written there = elim (cases_lt b.op a.op) [
        | inr le ↦ same_in_order a b x es le one other t thing written there
        | inl lt ↦ reads_same_swap x es (then b a) (then a b)
            (same_in_order b a x es (omega (arith, lt)) other one (swapped d w (reads s) a b t) thing (or_swap (writes (op_of d b.op).updates x) (writes (op_of d a.op).updates x) ∙ written) there)
      ]

      -- Every reading is the same after both orders: of what isn't declared or not of the world it is false or 0, what neither call
      -- writes stays, and the rest is as above.
      same_has : (k : ℕ) (es : List ℕ) → (then a b).has k es ≡ (then b a).has k es
      same_has k es = elim (cases_lt k (length d.relations)) [
        | inr le ↦ has_undeclared d w b (after d w a (reads s)) k es le ∙ sym (has_undeclared d w a (after d w b (reads s)) k es le)
        | inl lt ↦ elim (cases_Bool (is_in es (tuples w (relation_places d k)))) [
          | inr out ↦ has_outside d w b (after d w a (reads s)) k es lt out ∙ sym (has_outside d w a (after d w b (reads s)) k es lt out)
          | inl there ↦ elim (cases_Bool (writes (op_of d a.op).updates (thing.Relation k) || writes (op_of d b.op).updates (thing.Relation k))) [
            | inl written ↦ same_bool _ _ (same_written (thing.Relation k) es lt written there)
            | inr unwritten ↦ (let n = or_parts (writes (op_of d a.op).updates (thing.Relation k)) (writes (op_of d b.op).updates (thing.Relation k)) unwritten in
                has_stays d w b (after d w a (reads s)) k es lt there n.1 ∙ has_stays d w a (reads s) k es lt there n.0
                ∙ sym (has_stays d w a (after d w b (reads s)) k es lt there n.0 ∙ has_stays d w b (reads s) k es lt there n.1))
          ]
        ]
      ]

      same_count : (k : ℕ) (es : List ℕ) → (then a b).count k es ≡ (then b a).count k es
      same_count k es = elim (cases_lt k (length d.counters)) [
        | inr le ↦ count_undeclared d w b (after d w a (reads s)) k es le ∙ sym (count_undeclared d w a (after d w b (reads s)) k es le)
        | inl lt ↦ elim (cases_Bool (is_in es (tuples w (counter_keys d k)))) [
          | inr out ↦ count_outside d w b (after d w a (reads s)) k es lt out ∙ sym (count_outside d w a (after d w b (reads s)) k es lt out)
          | inl there ↦ elim (cases_Bool (writes (op_of d a.op).updates (thing.Counter k) || writes (op_of d b.op).updates (thing.Counter k))) [
            | inl written ↦ same_int _ _ (same_written (thing.Counter k) es lt written there)
            | inr unwritten ↦ (let n = or_parts (writes (op_of d a.op).updates (thing.Counter k)) (writes (op_of d b.op).updates (thing.Counter k)) unwritten in
                count_stays d w b (after d w a (reads s)) k es lt there n.1 ∙ count_stays d w a (reads s) k es lt there n.0
                ∙ sym (count_stays d w a (after d w b (reads s)) k es lt there n.0 ∙ count_stays d w b (reads s) k es lt there n.1))
          ]
        ]
      ]

      commute_holds : then a b ≡ then b a
      commute_holds = λ j. record { has = λ k es. same_has k es j; count = λ k es. same_count k es j }

  -- what holds of the readings of each state holds of readings that are those of a state
  at_state : (P : Reads → Type 0) → ((s : Listing) → is_state d w s ≡ true → P (reads s)) → (r : Reads) → (s : Listing) × (is_state d w s ≡ true) × (reads s ≡ r) → P r
  at_state P h r x = subst P x.2 (h x.0 x.1)

  together : (r : Reads) (a b : Call) → ¬ (conflicts d w a b ≡ true) → inv d w r ≡ true → pre d w a r ≡ true → pre d w b r ≡ true → MayRunTogether d w r a b
  together r a b free i p q = record { invariant = i; first = p; second = q; apart = false_from_ne_true (conflicts d w a b) free }

  is_system : IsSystem (system_of d w)
  is_system = record {
    initial = (initial d w, initial_is_state d w, refl);
    effect = λ a r call x. (after_call d w a r, after_is_state d w a r, refl);
    symmetric = λ a b c. conflict_swap d w b a ∙ c;
  }

  is_safe : IsSafe (system_of d w)
  is_safe = record {
    init = init_holds;
    safety = λ a r call x. at_state (λ r. inv d w r ≡ true → pre d w a r ≡ true → inv d w (after d w a r) ≡ true) (λ s state. safety_holds a s call state) r x;
    commute = λ a b r one other free x. at_state (λ r. inv d w r ≡ true → pre d w a r ≡ true → pre d w b r ≡ true → after d w b (after d w a r) ≡ after d w a (after d w b r))
        (λ s state i p q. commute_holds s state a b one other (together (reads s) a b free i p q)) r x;
    stable = λ a b r one other free x. at_state (λ r. inv d w r ≡ true → pre d w a r ≡ true → pre d w b r ≡ true → pre d w a (after d w b r) ≡ true)
        (λ s state i p q. stable_holds s state a b one other (together (reads s) a b free i p q)) r x;
  }

-- a safe specification converges
pub converges : (d : Specification) → Safe d → Converges d
converges d safe w world = system_converges (system_of d w) (is_system d safe w world) (is_safe d safe w world)
