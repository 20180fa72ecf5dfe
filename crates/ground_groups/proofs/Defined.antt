-- The definitions of readings by a program's calls are those of the obligation.
use Rattle.std.proofs.Common.{◌≡◌, ℕ, zero, suc, ◌<◌, Bool, false, cond, List, [], ◌∷◌, ◌++◌, length, map, get_or, slice_index, refl, sym, ◌∙◌, ap, arith}
use Rattle.std.specs.List.{flat_map}
use Rattle.std.specs.Prelude.{◌==◌, pos}
use Rattle.std.proofs.lemmas.List.{length-map}
use Rattle.std.proofs.lemmas.Bool.Decides.{nat_tests}
use Rattle.spec_core.specs.declared.update.Thing.{Thing}
use Rattle.spec_core.specs.declared.update.Thing.TheVariants as thing
use Rattle.spec_core.specs.UpdateLine.{UpdateLine}
use Rattle.spec_core.specs.Specification.{Specification, op_of}
use Rattle.obligation_list.specs.declared.obligation.Obligation.{Obligation}
use Rattle.obligation_list.specs.Breaking.{operations_of}
use Rattle.ground_problem.specs.Symbols.{Stage, Symbolic, has}
use Rattle.ground_problem.specs.Constants.{constants_of, all_params_from, params_of}
use Rattle.ground_problem.specs.Formulas.{Caller, caller, Readings, at_stage}
use Rattle.ground_problem.specs.Definitions.{Reading, define, definition, define_has, define_count, value_stays, values_defined, updates_of, updates_at}
use Rattle.ground_numbers.specs.Stages.{stage_of, stage_before, latest_call}
use Rattle.ground_numbers.proofs.Staged.{stage_of-made}
use Rattle.ground_atoms.specs.Symbols.{reading_of}
use Rattle.ground_atoms.specs.Formulas.{consts_of_args}
use Rattle.ground_atoms.specs.declared.atom.NamedReading.{NamedReading}
use Rattle.ground_atoms.specs.declared.call.GroundCall.{GroundCall}
use Rattle.stage_defs.specs.Settings.{caller_at}
use Rattle.ground_atoms.specs.Calls.{calls_from, calls_of}
use Rattle.ground_groups.specs.Defined.{no_call, call_at, defined_at, defined_by}
use Rattle.ground_groups.proofs.Gathered.{calls-params}

call-op : (d : Specification) (os : List ℕ) (m n i : ℕ) → (get_or (calls_from d n i os) m no_call).op ≡ slice_index os m
call-op d [] m n i = refl
call-op d (o ∷ os) zero n i = refl
call-op d (o ∷ os) (suc m) n i = call-op d os m _ _

get-args : (calls : List GroundCall) (m : ℕ) → get_or (map (λ g. consts_of_args g.args) calls) m [] ≡ consts_of_args (get_or calls m no_call).args
get-args [] m = refl
get-args (c ∷ cs) zero = refl
get-args (c ∷ cs) (suc m) = get-args cs m

params-are : (d : Specification) (ob : Obligation) (calls : List GroundCall) → calls ≡ calls_of d ob → map (λ g. consts_of_args g.args) calls ≡ (constants_of d ob).params
params-are d ob calls e =
    ap (map (λ g. consts_of_args g.args)) e ∙ calls-params d (length d.consts) 0 (operations_of ob)
    ∙ ap (λ (n : ℕ). all_params_from n (params_of d ob)) (sym (length-map d.consts (λ c. c.sort)))

pub caller-is : (d : Specification) (ob : Obligation) (calls : List GroundCall) → calls ≡ calls_of d ob → (k : ℕ) → caller (constants_of d ob) (latest_call k) ≡ caller_at (call_at calls (latest_call k)) k
caller-is d ob calls e k =
    let p : get_or (constants_of d ob).params (latest_call k) [] ≡ consts_of_args (call_at calls (latest_call k)).args = ap (λ ps. get_or ps (latest_call k) []) (sym (params-are d ob calls e)) ∙ get-args calls (latest_call k) in
    λ i. record { call = latest_call k; params = p i }

updates-are : (d : Specification) (ob : Obligation) (calls : List GroundCall) → calls ≡ calls_of d ob → (n : ℕ) → updates_at d ob n ≡ (op_of d (call_at calls n).op).updates
updates-are d ob calls e n = ap (λ (o : ℕ). (op_of d o).updates) (sym (ap (λ cs. (get_or cs n no_call).op) e ∙ call-op d (operations_of ob) n (length d.consts) 0))

defined_at-is : (d : Specification) (ob : Obligation) (calls : List GroundCall) → calls ≡ calls_of d ob → (m : ℕ) (x : Thing) (t : List ℕ)
    → define d ob (constants_of d ob) (stage_of (suc m)) x t ≡ defined_at d (call_at calls (latest_call (suc m))) (suc m) x t
defined_at-is d ob calls e m (thing.Relation r) t =
    let s = sym (stage_of-made m) in let c = caller-is d ob calls e (suc m) in let u = updates-are d ob calls e (latest_call (suc m)) in
    ap (λ (k : Stage). define d ob (constants_of d ob) k (thing.Relation r) t) (stage_of-made m)
    ∙ (λ i. define_has (at_stage (stage_of (stage_before (suc m)))) (c i) (u i) (has (s i) r t) r t)
defined_at-is d ob calls e m (thing.Counter r) t =
    let s = sym (stage_of-made m) in let c = caller-is d ob calls e (suc m) in let u = updates-are d ob calls e (latest_call (suc m)) in
    ap (λ (k : Stage). define d ob (constants_of d ob) k (thing.Counter r) t) (stage_of-made m)
    ∙ (λ i. define_count (at_stage (stage_of (stage_before (suc m)))) (c i) (u i) (s i) r t)

defined_by-is : (d : Specification) (ob : Obligation) (calls : List GroundCall) → calls ≡ calls_of d ob → (k : ℕ) (x : Thing) (t : List ℕ)
    → defined_by d calls k x t ≡ define d ob (constants_of d ob) (stage_of k) x t
defined_by-is d ob calls e zero x t = refl
defined_by-is d ob calls e (suc m) x t =
    let after : (suc m == 0) ≡ false = grind (arith, nat_tests) in
    ap (λ (b : Bool). cond b [] (defined_at d (call_at calls (latest_call (suc m))) (suc m) x t)) after ∙ sym (defined_at-is d ob calls e m x t)

mapped : {X Y : Type 0} (f : X → Y) (g : Y → List Symbolic) (xs : List X) → flat_map (λ x. g (f x)) xs ≡ flat_map g (map f xs)
mapped f g [] = refl
mapped f g (x ∷ xs) = ap (λ (fs : List Symbolic). g (f x) ++ fs) (mapped f g xs)

-- the definitions of named readings
pub all_defined : (d : Specification) (ob : Obligation) (calls : List GroundCall) → calls ≡ calls_of d ob → (named : List NamedReading) (qs : List Reading) → map reading_of named ≡ qs
    → flat_map (λ (q : NamedReading). defined_by d calls q.stage q.thing q.tuple) named ≡ flat_map (definition d ob (constants_of d ob)) qs
all_defined d ob calls e named qs g =
    ap (λ (f : NamedReading → List Symbolic). flat_map f named) (λ i q. defined_by-is d ob calls e q.stage q.thing q.tuple i)
    ∙ mapped reading_of (definition d ob (constants_of d ob)) named
    ∙ ap (flat_map (definition d ob (constants_of d ob))) g

-- there is at least one formula
pub some_has : (r : Readings) (c : Caller) (us : List UpdateLine) (h : Symbolic) (k : ℕ) (t : List ℕ) → 0 < length (define_has r c us h k t)
some_has r c us h k t = omega arith

pub some_count : (r : Readings) (c : Caller) (us : List UpdateLine) (k : Stage) (i : ℕ) (t : List ℕ) → 0 < length (define_count r c us k i t)
some_count r c us k i t = by_mine (updates_of (thing.Counter i) us)
  where
    by_mine : (mine : List UpdateLine) → 0 < length (value_stays r k i t mine ++ values_defined r c k i t 1 (r.count (pos 1) i t ∷ []) mine)
    by_mine [] = omega arith
    by_mine (u ∷ more) = omega arith
