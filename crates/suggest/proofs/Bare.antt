-- What the bare specification has in common with the given one and with the keyed ones, and that what holds in it holds in the given one.
use Rattle.std.proofs.Common.{◌≡◌, ℕ, zero, suc, ◌&&◌, List, [], ◌∷◌, map, length, get_or, nat_lt, refl, sym, ◌∙◌, ap, subst}
use Rattle.std.specs.List.{filter}
use Rattle.std.proofs.lemmas.List.{length-map}
use Rattle.spec_core.specs.declared.world.World.{World}
use Rattle.spec_core.specs.declared.world.Call.{Call}
use Rattle.spec_core.specs.declared.operation.Operation.{Operation}
use Rattle.spec_core.specs.declared.operation.Param.{Param}
use Rattle.spec_core.specs.declared.update.Thing.{Thing}
use Rattle.spec_core.specs.declared.update.Thing.TheVariants as thing
use Rattle.spec_core.specs.Line.{Line}
use Rattle.spec_core.specs.UpdateLine.{UpdateLine}
use Rattle.spec_core.specs.Specification.{Specification, no_operation, op_of, no_line, places_of}
use Rattle.spec_core.specs.World.{tuples}
use Rattle.spec_core.specs.State.{Listing, Reads, reads}
use Rattle.spec_core.specs.Truth.{lines_true}
use Rattle.spec_core.specs.Meaning.{invariant_line, pre}
use Rattle.spec_core.specs.Fits.{fits_places, are_arguments, is_call}
use Rattle.effectors.specs.Effect.{has_after, count_after, numbered, after}
use Rattle.obligation_list.specs.declared.obligation.Obligation.{Obligation}
use Rattle.obligation_list.specs.declared.obligation.Obligation.TheVariants.{Init, Safety, Commute, Stable}
use Rattle.obligation_list.specs.Breaking.{requires_line, failing_vars, line_at, reads_same, elements_of, IsCallOf, MayRunTogether, BreaksIn, Breaks, Holds}
use Rattle.conflict_variants.specs.Takes.{with_takes}
use Rattle.conflict_variants.specs.Bare.{with_tokens, bare}
use Rattle.conflict_variants.specs.Keyed.{keyed_from, keyed}
use Rattle.suggest.specs.Answers.{HaveLogs}

-- ---- the bare specification of a keyed one

map-keyed_from : (a p b q n : ℕ) (os : List Operation) → map (λ (o : Operation). with_takes o []) (keyed_from a p b q n os) ≡ map (λ (o : Operation). with_takes o []) os
map-keyed_from a p b q n [] = refl
map-keyed_from a p b q n (o ∷ os) = ap (λ (rest : List Operation). with_takes o [] ∷ rest) (map-keyed_from a p b q (suc n) os)

-- it is the bare one of what is keyed
pub bare-keyed : (d : Specification) (a p b q : ℕ) → bare (keyed d a p b q) ≡ bare d
bare-keyed d a p b q = ap (with_tokens d [] []) (map-keyed_from a p b q 0 d.operations)

-- what has logs where nothing conflicts has them for the keyed specification
pub free_at_key : (d : Specification) (budget a p b q : ℕ) (e : Specification) (obs : List Obligation) → e ≡ keyed d a p b q → HaveLogs (bare d) budget obs → HaveLogs (bare e) budget obs
free_at_key d budget a p b q e obs same h = subst (λ (s : Specification). HaveLogs s budget obs) (sym (ap bare same ∙ bare-keyed d a p b q)) h

-- ---- what is the same without tokens

get_or-bares : (os : List Operation) (n : ℕ) → get_or (map (λ (o : Operation). with_takes o []) os) n no_operation ≡ with_takes (get_or os n no_operation) []
get_or-bares [] n = refl
get_or-bares (o ∷ os) zero = refl
get_or-bares (o ∷ os) (suc n) = get_or-bares os n

module _ (d : Specification) where
  op_of-bare : (n : ℕ) → op_of (bare d) n ≡ with_takes (op_of d n) []
  op_of-bare n = get_or-bares d.operations n

  params-bare : (n : ℕ) → (op_of (bare d) n).params ≡ (op_of d n).params
  params-bare n = ap (λ (o : Operation). o.params) (op_of-bare n)

  requires-bare : (n : ℕ) → (op_of (bare d) n).requires_ ≡ (op_of d n).requires_
  requires-bare n = ap (λ (o : Operation). o.requires_) (op_of-bare n)

  updates-bare : (n : ℕ) → (op_of (bare d) n).updates ≡ (op_of d n).updates
  updates-bare n = ap (λ (o : Operation). o.updates) (op_of-bare n)

  requires_line-bare : (o l : ℕ) → requires_line (bare d) o l ≡ requires_line d o l
  requires_line-bare o l = ap (λ (ls : List Line). get_or ls l no_line) (requires-bare o)

  module _ (w : World) where
    is_call-bare : (c : Call) → is_call (bare d) w c ≡ is_call d w c
    is_call-bare c =
        ap (λ (n : ℕ). nat_lt c.op n && are_arguments w (op_of (bare d) c.op).params c.args) (length-map d.operations (λ (o : Operation). with_takes o []))
        ∙ ap (λ (ps : List Param). nat_lt c.op (length d.operations) && are_arguments w ps c.args) (params-bare c.op)

    pre-bare : (c : Call) (r : Reads) → pre (bare d) w c r ≡ pre d w c r
    pre-bare c r = ap (λ (ls : List Line). lines_true w r c.args ls) (requires-bare c.op)

    after-bare : (c : Call) (r : Reads) → after (bare d) w c r ≡ after d w c r
    after-bare c r =
        ap (λ (us : List UpdateLine). reads (record {
          relations = numbered (λ k it. filter (λ t. has_after w r c.args k t us (r.has k t)) (tuples w it.places)) 0 d.relations;
          counters = numbered (λ k it. map (λ t. (t, count_after w r c.args k t us (r.count k t))) (tuples w it.keys)) 0 d.counters;
        })) (updates-bare c.op)

    after_both-bare : (a b : Call) (r : Reads) → after (bare d) w b (after (bare d) w a r) ≡ after d w b (after d w a r)
    after_both-bare a b r = after-bare b (after (bare d) w a r) ∙ ap (after d w b) (after-bare a r)

    IsCallOf-bare : (o : ℕ) (c : Call) → IsCallOf d w o c → IsCallOf (bare d) w o c
    IsCallOf-bare o c h = record { operation = h.operation; fits = is_call-bare c ∙ h.fits }

    -- calls that may run together may so where nothing conflicts
    MayRunTogether-bare : (r : Reads) (a b : Call) → MayRunTogether d w r a b → MayRunTogether (bare d) w r a b
    MayRunTogether-bare r a b h = record { invariant = h.invariant; first = pre-bare a r ∙ h.first; second = pre-bare b r ∙ h.second; apart = refl }

    places_of-bare : (x : Thing) → places_of (bare d) x ≡ places_of d x
    places_of-bare (thing.Relation k) = refl
    places_of-bare (thing.Counter k) = refl

    elements_of-bare : (ob : Obligation) → elements_of (bare d) ob ≡ elements_of d ob
    elements_of-bare (Init i) = refl
    elements_of-bare (Safety o i) = refl
    elements_of-bare (Commute o p x) = places_of-bare x
    elements_of-bare (Stable o l p) = ap failing_vars (requires_line-bare o l)

    BreaksIn-bare : (ob : Obligation) (r : Reads) (cs : List Call) (es : List ℕ) → BreaksIn d ob w r cs es → BreaksIn (bare d) ob w r cs es
    BreaksIn-bare (Init i) r [] es h = record { start = h.start; fails = h.fails }
    BreaksIn-bare (Init i) r (a ∷ cs) es h = absurd h
    BreaksIn-bare (Safety o i) r [] es h = absurd h
    BreaksIn-bare (Safety o i) r (a ∷ []) es h = record {
      call = IsCallOf-bare o a h.call;
      invariant = h.invariant;
      ready = pre-bare a r ∙ h.ready;
      fails = ap (λ (s : Reads). line_at w s [] (invariant_line d i) es) (after-bare a r) ∙ h.fails;
    }
    BreaksIn-bare (Safety o i) r (a ∷ b ∷ cs) es h = absurd h
    BreaksIn-bare (Commute o p x) r [] es h = absurd h
    BreaksIn-bare (Commute o p x) r (a ∷ []) es h = absurd h
    BreaksIn-bare (Commute o p x) r (a ∷ b ∷ []) es h = record {
      first = IsCallOf-bare o a h.first;
      second = IsCallOf-bare p b h.second;
      together = MayRunTogether-bare r a b h.together;
      fails =
          ap (λ (s : Reads). reads_same x es s (after (bare d) w a (after (bare d) w b r))) (after_both-bare a b r)
          ∙ ap (λ (s : Reads). reads_same x es (after d w b (after d w a r)) s) (after_both-bare b a r) ∙ h.fails;
    }
    BreaksIn-bare (Commute o p x) r (a ∷ b ∷ c ∷ cs) es h = absurd h
    BreaksIn-bare (Stable o l p) r [] es h = absurd h
    BreaksIn-bare (Stable o l p) r (a ∷ []) es h = absurd h
    BreaksIn-bare (Stable o l p) r (a ∷ b ∷ []) es h = record {
      first = IsCallOf-bare o a h.first;
      second = IsCallOf-bare p b h.second;
      together = MayRunTogether-bare r a b h.together;
      fails =
          ap (λ (s : Reads). line_at w s a.args (requires_line (bare d) o l) es) (after-bare b r)
          ∙ ap (λ (line : Line). line_at w (after d w b r) a.args line es) (requires_line-bare o l) ∙ h.fails;
    }
    BreaksIn-bare (Stable o l p) r (a ∷ b ∷ c ∷ cs) es h = absurd h

  -- what breaks an obligation breaks it where nothing conflicts
  Breaks-bare : (ob : Obligation) (w : World) (s : Listing) (cs : List Call) (es : List ℕ) → Breaks d ob w s cs es → Breaks (bare d) ob w s cs es
  Breaks-bare ob w s cs es h = record {
    world = h.world;
    state = h.state;
    elements = ap (λ (places : List ℕ). fits_places w places es) (elements_of-bare w ob) ∙ h.elements;
    broken = BreaksIn-bare w ob (reads s) cs es h.broken;
  }

  -- what holds where nothing conflicts holds
  pub Holds-bare : (ob : Obligation) → Holds (bare d) ob → Holds d ob
  Holds-bare ob h w s cs es k = h w s cs es (Breaks-bare ob w s cs es k)
