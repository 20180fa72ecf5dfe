-- The interpretation that values give, and what must be true of the values.
use Rattle.std.proofs.Common.{◌≡◌, ℕ, zero, suc, ◌+◌, ◌<◌, ◌==◌, ℤ, pos, unsigned_abs, Bool, true, false, cond, None, option_map, unwrap_or, List, [], ◌∷◌, ◌++◌, map, length, get_or, slice_get, slice_index, slice_index_or, flat_map, refl, sym, ◌∙◌, ap, subst, arith}
use Rattle.std.specs.List.{list_all, list_any}
use Rattle.std.proofs.lemmas.Bool.{and_parts}
use Rattle.spec_core.specs.declared.update.Thing.TheVariants as thing
use Rattle.spec_core.specs.declared.world.World.{World}
use Rattle.spec_core.specs.declared.world.Call.{Call}
use Rattle.spec_core.specs.Line.{Line}
use Rattle.spec_core.specs.Specification.{Specification, op_of}
use Rattle.spec_core.specs.World.{tuples}
use Rattle.spec_core.specs.State.{Reads}
use Rattle.spec_core.specs.Truth.{truth, is_exists, line_true, lines_true}
use Rattle.spec_core.specs.Meaning.{pre}
use Rattle.spec_core.specs.Fits.{is_world, are_arguments}
use Rattle.spec_core.specs.Typed.{sort_of_param, is_sort, is_operation, is_specification}
use Rattle.spec_core.proofs.Operations.{call_parts}
use Rattle.obligation_list.specs.declared.obligation.Obligation.{Obligation}
use Rattle.obligation_list.specs.declared.obligation.Obligation.TheVariants.{Init, Safety, Commute, Stable}
use Rattle.obligation_list.specs.Breaking.{operations_of, IsCallOf, BreaksIn}
use Rattle.spec_core.proofs.Members.{is_in-tuples}
use Rattle.ground_problem.specs.Symbols.{Stage, Integer, argument, reading, partial, Interpretation}
use Rattle.ground_problem.specs.Constants.{constants_of, chosen_vars, sorts_of_params, all_params_from}
use Rattle.ground_problem.specs.Formulas.{caller}
use Rattle.ground_problem.specs.Definitions.{updates_of}
use Rattle.ground_problem.proofs.Means.{count_first}
use Rattle.ground_problem.proofs.Agree.{after_everywhere}
use Rattle.ground_problem.proofs.Choices.{Fit, InSorts, InLists, InAll, find_one, in_sorts_append, in_sorts_length}
use Rattle.ground_problem.proofs.Seats.{Tail, tail_past, tail_at, tail_grouped, elements_among, elements_fit, params_read, arguments_length}

-- ---- the interpretation of values

abbrev pub no_call : Call
no_call = record { op = 0; args = [] }

abbrev pub call_at : List Call → ℕ → Call
call_at cs n = get_or cs n no_call

-- what is read at a stage, from what is read at the entry
abbrev pub state_at : Specification → World → List Call → Reads → Stage → Reads
state_at d w cs r [] = r
state_at d w cs r (n ∷ k) = after_everywhere d w (call_at cs n) (state_at d w cs r k)

abbrev pub partial_value : Specification → World → List Call → Reads → ℕ → Stage → ℕ → List ℕ → ℤ
partial_value d w cs r n [] i t = pos 0
partial_value d w cs r n (c ∷ k) i t = count_first w (state_at d w cs r k) (call_at cs c).args t n (updates_of (thing.Counter i) (op_of d (call_at cs c).op).updates) ((state_at d w cs r k).count i t)

abbrev pub int_value : Specification → World → List Call → Reads → (ℕ → ℕ) → Integer → ℤ
int_value d w cs r val (argument n p) = slice_index_or (call_at cs n).args p (pos 0)
int_value d w cs r val (reading k i t) = (state_at d w cs r k).count i (map val t)
int_value d w cs r val (partial n k i t) = partial_value d w cs r n k i (map val t)

abbrev pub interpret : Specification → World → List Call → Reads → (ℕ → ℕ) → Interpretation
interpret d w cs r val = record {
  same = λ a b. val a == val b;
  has = λ k i t. (state_at d w cs r k).has i (map val t);
  int = int_value d w cs r val;
}

-- values of the constants of an obligation that stand for a world's and for the calls'
pub record Setting (d : Specification) (ob : Obligation) (w : World) (cs : List Call) (val : ℕ → ℕ) : Type 0 where
  pub typed : is_specification d ≡ true
  pub world : is_world d w ≡ true
  pub consts : (n s : ℕ) → is_sort (option_map (λ c. c.sort) (slice_get d.consts n)) s ≡ true → val n ≡ slice_index w.consts n
  pub fit : Fit w (constants_of d ob).sorts val
  pub ops : (n : ℕ) → n < length (operations_of ob) → (call_at cs n).op ≡ slice_index (operations_of ob) n
  pub operation : (n : ℕ) → n < length (operations_of ob) → is_operation d (op_of d (slice_index (operations_of ob) n)) ≡ true
  pub arguments : (n : ℕ) → n < length (operations_of ob) → are_arguments w (op_of d (slice_index (operations_of ob) n)).params (call_at cs n).args ≡ true
  pub elements : (n : ℕ) → n < length (operations_of ob) → (i s : ℕ) → is_sort (sort_of_param (slice_get (op_of d (slice_index (operations_of ob) n)).params i)) s ≡ true
      → val (unwrap_or (get_or (caller (constants_of d ob) n).params i None) 0) ≡ unsigned_abs (slice_index_or (call_at cs n).args i (pos 0))

-- ---- calls that are ready

pub record ReadyCall (d : Specification) (w : World) (r : Reads) (o : ℕ) (c : Call) : Type 0 where
  pub call : IsCallOf d w o c
  pub ready : pre d w c r ≡ true

abbrev pub ReadyCalls : Specification → World → Reads → List ℕ → List Call → Type 0
ReadyCalls d w r [] [] = Unit {0}
ReadyCalls d w r [] (c ∷ cs) = ⊥
ReadyCalls d w r (o ∷ os) [] = ⊥
ReadyCalls d w r (o ∷ os) (c ∷ cs) = ReadyCall d w r o c × ReadyCalls d w r os cs

-- the calls of what breaks an obligation
pub ready_calls : (d : Specification) (ob : Obligation) (w : World) (r : Reads) (cs : List Call) (es : List ℕ) → BreaksIn d ob w r cs es → ReadyCalls d w r (operations_of ob) cs
ready_calls d (Init i) w r [] es b = tt
ready_calls d (Init i) w r (a ∷ cs) es b = absurd b
ready_calls d (Safety o i) w r [] es b = absurd b
ready_calls d (Safety o i) w r (a ∷ []) es b = (record { call = b.call; ready = b.ready }, tt)
ready_calls d (Safety o i) w r (a ∷ c ∷ cs) es b = absurd b
ready_calls d (Commute o p x) w r [] es b = absurd b
ready_calls d (Commute o p x) w r (a ∷ []) es b = absurd b
ready_calls d (Commute o p x) w r (a ∷ c ∷ []) es b = (record { call = b.first; ready = b.together.first }, (record { call = b.second; ready = b.together.second }, tt))
ready_calls d (Commute o p x) w r (a ∷ c ∷ e ∷ cs) es b = absurd b
ready_calls d (Stable o l p) w r [] es b = absurd b
ready_calls d (Stable o l p) w r (a ∷ []) es b = absurd b
ready_calls d (Stable o l p) w r (a ∷ c ∷ []) es b = (record { call = b.first; ready = b.together.first }, (record { call = b.second; ready = b.together.second }, tt))
ready_calls d (Stable o l p) w r (a ∷ c ∷ e ∷ cs) es b = absurd b

-- the call at a place
pub ready_at : (d : Specification) (w : World) (r : Reads) (os : List ℕ) (cs : List Call) (n : ℕ) → ReadyCalls d w r os cs → n < length os → ReadyCall d w r (slice_index os n) (call_at cs n)
ready_at d w r [] cs n a h = absurd (omega arith)
ready_at d w r (o ∷ os) [] n a h = absurd a
ready_at d w r (o ∷ os) (c ∷ cs) zero a h = a.0
ready_at d w r (o ∷ os) (c ∷ cs) (suc n) a h = ready_at d w r os cs n a.1 (omega arith)

pub record TypedCall (d : Specification) (w : World) (o : ℕ) (c : Call) : Type 0 where
  pub operation : is_operation d (op_of d o) ≡ true
  pub arguments : are_arguments w (op_of d o).params c.args ≡ true

pub typed_call : (d : Specification) (w : World) (o : ℕ) (c : Call) → is_specification d ≡ true → is_world d w ≡ true → IsCallOf d w o c → TypedCall d w o c
typed_call d w o c s v h =
    let p = call_parts d w c s v h.fits in
    record {
      operation = subst (λ (x : ℕ). is_operation d (op_of d x) ≡ true) h.operation p.operation;
      arguments = subst (λ (x : ℕ). are_arguments w (op_of d x).params c.args ≡ true) h.operation p.arguments;
    }

-- the elements among the arguments of some calls
abbrev pub elements_of_calls : Specification → List ℕ → List Call → List ℕ
elements_of_calls d [] cs = []
elements_of_calls d (o ∷ os) [] = []
elements_of_calls d (o ∷ os) (c ∷ cs) = elements_among (op_of d o).params c.args ++ elements_of_calls d os cs

abbrev pub sorts_of_calls : Specification → List ℕ → List ℕ
sorts_of_calls d os = flat_map sorts_of_params (map (λ o. (op_of d o).params) os)

pub elements_of_calls_fit : (d : Specification) (w : World) (r : Reads) (os : List ℕ) (cs : List Call) → is_specification d ≡ true → is_world d w ≡ true → ReadyCalls d w r os cs → InSorts w (sorts_of_calls d os) (elements_of_calls d os cs)
elements_of_calls_fit d w r [] [] s v h = refl
elements_of_calls_fit d w r [] (c ∷ cs) s v h = absurd h
elements_of_calls_fit d w r (o ∷ os) [] s v h = absurd h
elements_of_calls_fit d w r (o ∷ os) (c ∷ cs) s v h = in_sorts_append w (sorts_of_params (op_of d o).params) (sorts_of_calls d os) (elements_among (op_of d o).params c.args) (elements_of_calls d os cs) (elements_fit w (op_of d o).params c.args (typed_call d w o c s v h.0.call).arguments) (elements_of_calls_fit d w r os cs s v h.1)

-- the constants of the calls have the values of their arguments
pub calls_read : (d : Specification) (w : World) (r : Reads) (vals : List ℕ) (n : ℕ) (os : List ℕ) (cs : List Call) (rest : List ℕ) → is_specification d ≡ true → is_world d w ≡ true → ReadyCalls d w r os cs → Tail vals n (elements_of_calls d os cs ++ rest)
    → (k : ℕ) → k < length os → (i s : ℕ) → is_sort (sort_of_param (slice_get (op_of d (slice_index os k)).params i)) s ≡ true
    → slice_index vals (unwrap_or (get_or (get_or (all_params_from n (map (λ o. (op_of d o).params) os)) k []) i None) 0) ≡ unsigned_abs (slice_index_or (call_at cs k).args i (pos 0))
calls_read d w r vals n [] cs rest t v h g k l i s q = absurd (omega arith)
calls_read d w r vals n (o ∷ os) [] rest t v h g k l i s q = absurd h
calls_read d w r vals n (o ∷ os) (c ∷ cs) rest t v h g zero l i s q =
    params_read vals n (op_of d o).params c.args (elements_of_calls d os cs ++ rest) (arguments_length w (op_of d o).params c.args (typed_call d w o c t v h.0.call).arguments) (tail_grouped vals n (elements_among (op_of d o).params c.args) (elements_of_calls d os cs) rest g) i s q
calls_read d w r vals n (o ∷ os) (c ∷ cs) rest t v h g (suc k) l i s q =
    let a = elements_among (op_of d o).params c.args in
    let e = in_sorts_length w (sorts_of_params (op_of d o).params) a (elements_fit w (op_of d o).params c.args (typed_call d w o c t v h.0.call).arguments) in
    calls_read d w r vals (n + length (sorts_of_params (op_of d o).params)) os cs rest t v h.1
    (tail_at vals (n + length a) (n + length (sorts_of_params (op_of d o).params)) (elements_of_calls d os cs ++ rest) (ap (λ (x : ℕ). n + x) e) (tail_past vals n a (elements_of_calls d os cs ++ rest) (tail_grouped vals n a (elements_of_calls d os cs) rest g)))
    k (omega arith) i s q

-- ---- what a line with chosen variables says

abbrev pub HoldsBy : Bool → World → Reads → List ℤ → Line → List ℕ → Type 0
HoldsBy true w r args l own = (truth w r args own l.body ≡ true) × (length own ≡ length l.vars)
HoldsBy false w r args l own = list_all (λ vs. truth w r args vs l.body) (tuples w l.vars) ≡ true

pub choose_line : (w : World) (r : Reads) (args : List ℤ) (l : Line) → line_true w r args l ≡ true → (own : List ℕ) × InSorts w (chosen_vars l) own × HoldsBy (is_exists l.prefix) w r args l own
choose_line w r args l h = by_test (is_exists l.prefix) h
  where
    by_test : (b : Bool) → cond b (list_any (λ vs. truth w r args vs l.body) (tuples w l.vars)) (list_all (λ vs. truth w r args vs l.body) (tuples w l.vars)) ≡ true → (own : List ℕ) × InSorts w (cond b l.vars []) own × HoldsBy b w r args l own
    by_test true h = (let it = find_one (λ vs. truth w r args vs l.body) (tuples w l.vars) h in let there = sym (is_in-tuples w l.vars it.it) ∙ it.there in (it.it, there, (it.fine, in_sorts_length w l.vars it.it there)))
    by_test false h = ([], refl, h)

abbrev pub LinesHold : World → Reads → List ℤ → List Line → List (List ℕ) → Type 0
LinesHold w r args [] owns = Unit {0}
LinesHold w r args (l ∷ ls) [] = ⊥
LinesHold w r args (l ∷ ls) (own ∷ owns) = HoldsBy (is_exists l.prefix) w r args l own × LinesHold w r args ls owns

pub choose_lines : (w : World) (r : Reads) (args : List ℤ) (ls : List Line) → lines_true w r args ls ≡ true → (owns : List (List ℕ)) × InLists w (map chosen_vars ls) owns × LinesHold w r args ls owns
choose_lines w r args [] h = ([], tt, tt)
choose_lines w r args (l ∷ ls) h =
    let h2 = and_parts (line_true w r args l) (lines_true w r args ls) h in
    let one = choose_line w r args l h2.0 in
    let more = choose_lines w r args ls h2.1 in
    (one.0 ∷ more.0, (one.1, more.1), (one.2, more.2))

abbrev pub CallsHold : Specification → World → Reads → List ℕ → List Call → List (List (List ℕ)) → Type 0
CallsHold d w r [] cs owns = Unit {0}
CallsHold d w r (o ∷ os) [] owns = ⊥
CallsHold d w r (o ∷ os) (c ∷ cs) [] = ⊥
CallsHold d w r (o ∷ os) (c ∷ cs) (own ∷ owns) = LinesHold w r c.args (op_of d o).requires_ own × CallsHold d w r os cs owns

pub choose_calls : (d : Specification) (w : World) (r : Reads) (os : List ℕ) (cs : List Call) → ReadyCalls d w r os cs
    → (owns : List (List (List ℕ))) × InAll w (map (λ o. map chosen_vars (op_of d o).requires_) os) owns × CallsHold d w r os cs owns
choose_calls d w r [] cs a = ([], tt, tt)
choose_calls d w r (o ∷ os) [] a = absurd a
choose_calls d w r (o ∷ os) (c ∷ cs) a =
    let p = subst (λ (x : ℕ). lines_true w r c.args (op_of d x).requires_ ≡ true) a.0.call.operation a.0.ready in
    let one = choose_lines w r c.args (op_of d o).requires_ p in
    let more = choose_calls d w r os cs a.1 in
    (one.0 ∷ more.0, (one.1, more.1), (one.2, more.2))
