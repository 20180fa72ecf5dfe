-- What holds of a call and of a taking that aren't refused.
use Rattle.std.specs.Prelude.{Contains, slice_get, Option, None, Some, cond, is_none}
use Rattle.std.proofs.Common.{◌≡◌, ℕ, zero, suc, ◌+◌, Bool, true, false, not, ◌&&◌, inl, inr, List, [], ◌∷◌, refl, sym, ◌∙◌, ap, arith}
use Rattle.spec_core.specs.declared.world.World.{World}
use Rattle.spec_core.specs.declared.world.Call.{Call}
use Rattle.spec_core.specs.Specification.{Specification, op_of}
use Rattle.spec_core.specs.Line.{Line}
use Rattle.spec_core.specs.State.{Reads, reads}
use Rattle.spec_core.specs.Truth.{line_true}
use Rattle.spec_core.specs.Meaning.{first_false, pre, observed}
use Rattle.spec_core.specs.Fits.{call_fits}
use Rattle.spec_core.proofs.Positions.{position_none}
use Rattle.token_rules.specs.Conflict.{conflicts}
use Rattle.executions.specs.Orders.{Event, AreIn}
use Rattle.executions.proofs.Lists.{mem, not_both, contains_mem, in_none, first_or_rest}
use Rattle.replica_replay.specs.declared.step.StepRefused.{StepRefused}
use Rattle.replica_replay.specs.declared.step.StepRefused.TheVariants.{Arguments, Conflict, Seen, Missing}
use Rattle.replica_replay.specs.declared.keeping.Replica.{Replica}
use Rattle.replica_replay.specs.Held.{is_taken}
use Rattle.replica_replay.specs.Refusals.{need, unless, least_unseen, first_untaken, false_requires, false_observes, LocalView, call_refused, taking_refused}
use Rattle.replica_replay.proofs.Taking.{absent, found, one_found, taken_contains, contains_taken}

pub need_none : (test : Bool) (why : StepRefused) (next : Option StepRefused) → need test why next ≡ None → (test ≡ true) × (next ≡ None)
need_none true why next h = (refl, h)
need_none false why next h = absurd (found why h)

pub unless_none : {A : Type 0} (o : Option A) (why : A → StepRefused) (next : Option StepRefused) → unless o why next ≡ None → (o ≡ None) × (next ≡ None)
unless_none None why next h = (refl, h)
unless_none (Some a) why next h = absurd (found (why a) h)

cond_none : (b : Bool) (n : ℕ) (next : Option ℕ) → cond b (Some n) next ≡ None → (b ≡ false) × (next ≡ None)
cond_none true n next h = absurd (found n h)
cond_none false n next h = (refl, h)

then_taken : (a b : Bool) → (a && not b) ≡ false → a ≡ true → b ≡ true
then_taken a b h k = grind arith

not_false : (b : Bool) → not b ≡ false → b ≡ true
not_false b h = grind arith

pub not_true : (b : Bool) → not b ≡ true → b ≡ false
not_true b h = grind arith

-- no unseen event conflicts: each that conflicts was taken
pub conflicting_taken : (d : Specification) (w : World) (taken : List ℕ) (call : Call) (n : ℕ) (others : List Call) → least_unseen d w taken call n others ≡ None
    → (k : ℕ) (other : Call) → slice_get others k ≡ Some other → conflicts d w other call ≡ true → is_taken taken (n + k) ≡ true
conflicting_taken d w taken call n [] h k other q c = absurd (absent other q)
conflicting_taken d w taken call n (o ∷ os) h zero other q c =
    let p = cond_none (conflicts d w o call && not (is_taken taken n)) n (least_unseen d w taken call (suc n) os) h in
    let same : n + 0 ≡ n = omega arith in
    ap (is_taken taken) same ∙ then_taken (conflicts d w o call) (is_taken taken n) p.0 (ap (λ x. conflicts d w x call) (one_found o other q) ∙ c)
conflicting_taken d w taken call n (o ∷ os) h (suc k) other q c =
    let p = cond_none (conflicts d w o call && not (is_taken taken n)) n (least_unseen d w taken call (suc n) os) h in
    let same : n + suc k ≡ suc n + k = omega arith in
    ap (is_taken taken) same ∙ conflicting_taken d w taken call (suc n) os p.1 k other q c

-- none is missing: all that was seen was taken
pub none_missing : (taken seen : List ℕ) → first_untaken taken seen ≡ None → AreIn seen taken
none_missing taken seen h x c = taken_contains taken x (each seen h (contains_mem x seen c))
  where
    each : (seen : List ℕ) → first_untaken taken seen ≡ None → mem x seen ≡ true → is_taken taken x ≡ true
    each [] h m = absurd (in_none x m)
    each (y ∷ ys) h m =
        let p = cond_none (not (is_taken taken y)) y (first_untaken taken ys) h in
        elim (first_or_rest x y ys m) [ inl e ↦ ap (is_taken taken) e ∙ not_false (is_taken taken y) p.0 | inr k ↦ each ys p.1 k ]

-- what a replica knows, from its parts
abbrev pub view_with : List ℕ → Reads → LocalView
view_with taken state = record { taken = taken; state = state }

-- what a replica that the code holds knows
abbrev pub view_of : Replica → LocalView
view_of at = view_with at.order (reads at.state)

-- what holds of a call that isn't refused
pub record IsAccepted (d : Specification) (w : World) (calls : List Call) (at : LocalView) (call : Call) : Type 0 where
  pub fits : call_fits d w call ≡ true
  pub ordered : least_unseen d w at.taken call 0 calls ≡ None
  pub ready : pre d w call at.state ≡ true
  pub observed : observed d w call at.state ≡ true

pub call_accepted : (d : Specification) (w : World) (calls : List Call) (at : LocalView) (call : Call) → call_refused d w calls at call ≡ None → IsAccepted d w calls at call
call_accepted d w calls at call h =
    let lines = λ (ls : List Line). first_false w at.state call.args ls in
    let a = need_none (call_fits d w call) Arguments _ h in
    let b = unless_none (least_unseen d w at.taken call 0 calls) Conflict _ a.1 in
    let c = unless_none (lines (op_of d call.op).requires_) false_requires _ b.1 in
    let e = unless_none (lines (op_of d call.op).observes) false_observes _ c.1 in
    record {
      fits = a.0;
      ordered = b.0;
      ready = sym (position_none (line_true w at.state call.args) 0 (op_of d call.op).requires_) ∙ ap is_none c.0;
      observed = sym (position_none (line_true w at.state call.args) 0 (op_of d call.op).observes) ∙ ap is_none e.0;
    }

-- what holds of a taking that isn't refused
pub record IsTakeable (taken : List ℕ) (e : ℕ) (seen : List ℕ) : Type 0 where
  pub new : ¬ Contains taken e
  pub after : AreIn seen taken

pub taking_accepted : (d : Specification) (w : World) (at : LocalView) (e : ℕ) (event : Event Call) → taking_refused d w at e event ≡ None → IsTakeable at.taken e event.seen
taking_accepted d w at e event h =
    let a = need_none (not (is_taken at.taken e)) Seen _ h in
    let b = unless_none (first_untaken at.taken event.seen) Missing _ a.1 in
    record {
      new = λ c. not_both _ (contains_taken at.taken e c) (not_true (is_taken at.taken e) a.0);
      after = none_missing at.taken event.seen b.0;
    }
