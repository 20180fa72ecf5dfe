-- The test of a refutation says what a refutation is.
use Rattle.std.proofs.Common.{◌≡◌, ℕ, Bool, true, false, not, ◌&&◌, ◌==◌, nat_le, List, [], ◌∷◌, length, get_or, Option, None, Some, refl, sym, ◌∙◌, ap, arith}
use Rattle.std.specs.Prelude.{is_none, is_some}
use Rattle.std.specs.List.{list_all}
use Rattle.std.proofs.lemmas.Bool.{and_parts, and_from, not-true, not_from_false, eqb-true, eq-eqb}
use Rattle.std.proofs.lemmas.List.Folds.{list_all-map}
use Rattle.spec_core.specs.declared.world.World.{World}
use Rattle.spec_core.specs.declared.world.Call.{Call}
use Rattle.spec_core.specs.declared.spec.Invariant.{Invariant}
use Rattle.spec_core.specs.Specification.{Specification}
use Rattle.spec_core.specs.State.{Listing, Reads, reads}
use Rattle.spec_core.specs.Truth.{line_true}
use Rattle.spec_core.specs.Meaning.{invariant_line, inv, pre, broken_at}
use Rattle.spec_core.specs.Fits.{in_state_range, fits_places, is_world, is_call, is_state, world_fits, call_fits}
use Rattle.effectors.specs.Effect.{after}
use Rattle.token_rules.specs.Conflict.{conflicts}
use Rattle.spec_core.proofs.Positions.{position_none}
use Rattle.obligation_list.specs.declared.obligation.Obligation.{Obligation}
use Rattle.obligation_list.specs.declared.obligation.Obligation.TheVariants.{Init, Safety, Commute, Stable}
use Rattle.obligation_list.specs.Breaking.{elements_of, requires_line, line_at, reads_same, IsCallOf, MayRunTogether, BreaksIn}
use Rattle.obligation_list.specs.Refuting.{IsRefutation, is_call_of, may_run_together, are_together, refutes_in, parts_fit, refutes}
use Rattle.obligation_list.specs.Starting.{starts}
use Rattle.obligation_list.proofs.Begins.{starts_initial, initial_starts}

not_not : (b : Bool) → not (not b) ≡ b
not_not true = refl
not_not false = refl

-- no invariant is broken exactly where every one is true
pub none_broken : (d : Specification) (w : World) (r : Reads) → is_none (broken_at d w r) ≡ inv d w r
none_broken d w r =
    position_none (λ (i : Invariant). line_true w r [] i.line) 0 d.invariants
    ∙ sym (list_all-map (line_true w r []) (λ (i : Invariant). i.line) d.invariants)

-- the numbers of calls are in range
abbrev NumbersFit : List Call → Type 0
NumbersFit cs = list_all (λ c. list_all in_state_range c.args) cs ≡ true

-- ---- a call of an operation, and two that may run together
record FittingCall (d : Specification) (w : World) (o : ℕ) (a : Call) : Type 0 where
  of : IsCallOf d w o a
  numbers : list_all in_state_range a.args ≡ true

module _ (d : Specification) (w : World) where
  call_from : (o : ℕ) (a : Call) → is_call_of d w o a ≡ true → FittingCall d w o a
  call_from o a h =
      let p = and_parts (a.op == o) (call_fits d w a) h in
      let q = and_parts (is_call d w a) (list_all in_state_range a.args) p.1 in
      record { of = record { operation = eqb-true a.op o p.0; fits = q.0 }; numbers = q.1 }

  call_to : (o : ℕ) (a : Call) → IsCallOf d w o a → list_all in_state_range a.args ≡ true → is_call_of d w o a ≡ true
  call_to o a c n = and_from _ _ (eq-eqb a.op o c.operation) (and_from _ _ c.fits n)

  together_from : (r : Reads) (a b : Call) → may_run_together d w r a b ≡ true → MayRunTogether d w r a b
  together_from r a b h =
      let p = and_parts (inv d w r && pre d w a r && pre d w b r) (not (conflicts d w a b)) h in
      let q = and_parts (inv d w r && pre d w a r) (pre d w b r) p.0 in
      let s = and_parts (inv d w r) (pre d w a r) q.0 in
      record { invariant = s.0; first = s.1; second = q.1; apart = not-true (conflicts d w a b) p.1 }

  together_to : (r : Reads) (a b : Call) → MayRunTogether d w r a b → may_run_together d w r a b ≡ true
  together_to r a b t = and_from _ _ (and_from _ _ (and_from _ _ t.invariant t.first) t.second) (not_from_false (conflicts d w a b) t.apart)

  -- two calls of these operations that may run together, whose numbers are in range
  record Pair (o p : ℕ) (r : Reads) (a b : Call) : Type 0 where
    first : FittingCall d w o a
    second : FittingCall d w p b
    together : MayRunTogether d w r a b

  pair_from : (o p : ℕ) (r : Reads) (a b : Call) → are_together d o p w r a b ≡ true → Pair o p r a b
  pair_from o p r a b h =
      let q = and_parts (is_call_of d w o a && is_call_of d w p b) (may_run_together d w r a b) h in
      let c = and_parts (is_call_of d w o a) (is_call_of d w p b) q.0 in
      record { first = call_from o a c.0; second = call_from p b c.1; together = together_from r a b q.1 }

  pair_to : (o p : ℕ) (r : Reads) (a b : Call) → IsCallOf d w o a → IsCallOf d w p b → MayRunTogether d w r a b → NumbersFit (a ∷ b ∷ []) → are_together d o p w r a b ≡ true
  pair_to o p r a b c e t n =
      let m = and_parts (list_all in_state_range a.args) (list_all (λ c. list_all in_state_range c.args) (b ∷ [])) n in
      and_from _ _ (and_from _ _ (call_to o a c m.0) (call_to p b e (and_parts (list_all in_state_range b.args) true m.1).0)) (together_to r a b t)

  pair_numbers : (o p : ℕ) (r : Reads) (a b : Call) → Pair o p r a b → NumbersFit (a ∷ b ∷ [])
  pair_numbers o p r a b q = and_from _ _ q.first.numbers (and_from _ _ q.second.numbers refl)

  module _ (s : Listing) (fit : is_state d w s ≡ true) (es : List ℕ) where
    -- the test by its kinds says what breaks an obligation
    refuted_in : (ob : Obligation) (cs : List Call) → refutes_in d ob w (reads s) cs es ≡ true → BreaksIn d ob w (reads s) cs es × NumbersFit cs
    refuted_in (Init i) [] h =
        let p = and_parts (starts d w (reads s)) (not (line_at w (reads s) [] (invariant_line d i) es)) h in
        (record { start = starts_initial d w s fit p.0; fails = not-true (line_at w (reads s) [] (invariant_line d i) es) p.1 }, refl)
    refuted_in (Init i) (a ∷ cs) h = absurd cc
    refuted_in (Safety o i) [] h = absurd cc
    refuted_in (Safety o i) (a ∷ []) h =
        let end = line_at w (after d w a (reads s)) [] (invariant_line d i) es in
        let p = and_parts (is_call_of d w o a && inv d w (reads s) && pre d w a (reads s)) (not end) h in
        let q = and_parts (is_call_of d w o a && inv d w (reads s)) (pre d w a (reads s)) p.0 in
        let t = and_parts (is_call_of d w o a) (inv d w (reads s)) q.0 in
        let c = call_from o a t.0 in
        (record { call = c.of; invariant = t.1; ready = q.1; fails = not-true end p.1 }, and_from _ _ c.numbers refl)
    refuted_in (Safety o i) (a ∷ b ∷ cs) h = absurd cc
    refuted_in (Commute o p x) [] h = absurd cc
    refuted_in (Commute o p x) (a ∷ []) h = absurd cc
    refuted_in (Commute o p x) (a ∷ b ∷ []) h =
        let end = reads_same x es (after d w b (after d w a (reads s))) (after d w a (after d w b (reads s))) in
        let t = and_parts (are_together d o p w (reads s) a b) (not end) h in
        let q = pair_from o p (reads s) a b t.0 in
        (record { first = q.first.of; second = q.second.of; together = q.together; fails = not-true end t.1 }, pair_numbers o p (reads s) a b q)
    refuted_in (Commute o p x) (a ∷ b ∷ c ∷ cs) h = absurd cc
    refuted_in (Stable o l p) [] h = absurd cc
    refuted_in (Stable o l p) (a ∷ []) h = absurd cc
    refuted_in (Stable o l p) (a ∷ b ∷ []) h =
        let end = line_at w (after d w b (reads s)) a.args (requires_line d o l) es in
        let t = and_parts (are_together d o p w (reads s) a b) (not end) h in
        let q = pair_from o p (reads s) a b t.0 in
        (record { first = q.first.of; second = q.second.of; together = q.together; fails = not-true end t.1 }, pair_numbers o p (reads s) a b q)
    refuted_in (Stable o l p) (a ∷ b ∷ c ∷ cs) h = absurd cc

    refuting_in : (ob : Obligation) (cs : List Call) → BreaksIn d ob w (reads s) cs es → NumbersFit cs → refutes_in d ob w (reads s) cs es ≡ true
    refuting_in (Init i) [] b n = and_from _ _ (initial_starts d w (reads s) b.start) (not_from_false (line_at w (reads s) [] (invariant_line d i) es) b.fails)
    refuting_in (Init i) (a ∷ cs) b n = absurd b
    refuting_in (Safety o i) [] b n = absurd b
    refuting_in (Safety o i) (a ∷ []) b n =
        and_from _ _ (and_from _ _ (and_from _ _ (call_to o a b.call (and_parts (list_all in_state_range a.args) true n).0) b.invariant) b.ready)
        (not_from_false (line_at w (after d w a (reads s)) [] (invariant_line d i) es) b.fails)
    refuting_in (Safety o i) (a ∷ c ∷ cs) b n = absurd b
    refuting_in (Commute o p x) [] b n = absurd b
    refuting_in (Commute o p x) (a ∷ []) b n = absurd b
    refuting_in (Commute o p x) (a ∷ c ∷ []) b n =
        and_from _ _ (pair_to o p (reads s) a c b.first b.second b.together n)
        (not_from_false (reads_same x es (after d w c (after d w a (reads s))) (after d w a (after d w c (reads s)))) b.fails)
    refuting_in (Commute o p x) (a ∷ c ∷ e ∷ cs) b n = absurd b
    refuting_in (Stable o l p) [] b n = absurd b
    refuting_in (Stable o l p) (a ∷ []) b n = absurd b
    refuting_in (Stable o l p) (a ∷ c ∷ []) b n =
        and_from _ _ (pair_to o p (reads s) a c b.first b.second b.together n)
        (not_from_false (line_at w (after d w c (reads s)) a.args (requires_line d o l) es) b.fails)
    refuting_in (Stable o l p) (a ∷ c ∷ e ∷ cs) b n = absurd b

-- what the test of the parts says
pub record Parts (d : Specification) (ob : Obligation) (w : World) (s : Listing) (es : List ℕ) : Type 0 where
  pub world : world_fits d w ≡ true
  pub state : is_state d w s ≡ true
  pub elements : fits_places w (elements_of d ob) es ≡ true

module _ (d : Specification) (ob : Obligation) (w : World) (s : Listing) (es : List ℕ) where
  pub parts : parts_fit d ob w s es ≡ true → Parts d ob w s es
  parts h =
      let a = and_parts (world_fits d w && is_state d w s) (fits_places w (elements_of d ob) es) h in
      let b = and_parts (world_fits d w) (is_state d w s) a.0 in
      record { world = b.0; state = b.1; elements = a.1 }

  module _ (cs : List Call) where
    pub refuted : refutes d ob w s cs es ≡ true → IsRefutation d ob w s cs es
    refuted h =
        let t = and_parts (parts_fit d ob w s es) (refutes_in d ob w (reads s) cs es) h in
        let p = parts t.0 in
        let v = and_parts (is_world d w) (list_all (λ n. nat_le n 100) w.sizes) p.world in
        let b = refuted_in d w s p.state es ob cs t.1 in
        record { breaks = record { world = v.0; state = p.state; elements = p.elements; broken = b.0 }; sizes = v.1; numbers = b.1 }

    pub refuting : IsRefutation d ob w s cs es → refutes d ob w s cs es ≡ true
    refuting r =
        let b = r.breaks in
        and_from _ _ (and_from _ _ (and_from _ _ (and_from _ _ b.world r.sizes) b.state) b.elements) (refuting_in d w s b.state es ob cs b.broken r.numbers)

pub none_of : (o : Option ℕ) (b : Bool) → is_some o ≡ not b → b ≡ is_none o
none_of None b h = sym (not_not b) ∙ ap not (sym h)
none_of (Some n) b h = sym (not_not b) ∙ ap not (sym h)

-- a list of one call or two, by the calls at its places
pub one_call : (cs : List Call) (a : Call) → length cs ≡ 1 → a ≡ get_or cs 0 a → cs ≡ a ∷ []
one_call [] a n e = absurd (omega (arith, n))
one_call (x ∷ []) a n e = ap (λ y. y ∷ []) (sym e)
one_call (x ∷ y ∷ cs) a n e = absurd (omega (arith, n))

pub two_calls : (cs : List Call) (a b : Call) → length cs ≡ 2 → a ≡ get_or cs 0 a → b ≡ get_or cs 1 b → cs ≡ a ∷ b ∷ []
two_calls [] a b n e f = absurd (omega (arith, n))
two_calls (x ∷ []) a b n e f = absurd (omega (arith, n))
two_calls (x ∷ y ∷ []) a b n e f = (λ i. sym e i ∷ sym f i ∷ [])
two_calls (x ∷ y ∷ z ∷ cs) a b n e f = absurd (omega (arith, n))
