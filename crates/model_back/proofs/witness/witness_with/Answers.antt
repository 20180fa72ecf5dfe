use Rattle.std.proofs.Common.{◌≡◌, ℕ, pos, Bool, true, false, nat_lt, List, map, length, slice_index, slice_index_or, Ok, Err, Result, refl, sym, ◌∙◌, subst}
use Rattle.std.specs.Prelude.{IfOk}
use Rattle.std.specs.List.{list_all, range_with_len}
use Rattle.spec_core.specs.declared.world.World.{World}
use Rattle.spec_core.specs.Specification.{Specification}
use Rattle.spec_core.specs.Typed.{is_specification}
use Rattle.spec_core.specs.Fits.{in_state_range, world_fits}
use Rattle.obligation_list.specs.declared.obligation.Obligation.{Obligation}
use Rattle.obligation_list.specs.declared.witness.Witness.{Witness}
use Rattle.obligation_list.specs.Obligations.{IsObligation}
use Rattle.obligation_list.specs.Refuting.{IsRefutation}
use Rattle.proof_lines.specs.declared.problem.Interpretation.{Interpretation as Found}
use Rattle.proof_lines.specs.Problems.{meaning_of}
use Rattle.ground_problem.specs.Symbols.{all_true}
use Rattle.ground_problem.specs.Constants.{constants_of}
use Rattle.ground_problem.specs.Problem.{formulas_of}
use Rattle.ground_problem.specs.Readback as back
use Rattle.ground_problem.proofs.Existing.{sorts_exist}
use Rattle.ground_numbers.specs.Numbers.{Table}
use Rattle.ground_numbers.specs.Problem.{table_of, interpretation_of}
use Rattle.ground_atoms.specs.Calls.{calls_of}
use Rattle.ground_atoms.specs.declared.call.GroundCall.{GroundCall}
use Rattle.model_back.specs.declared.classed.Classed.{Classed}
use Rattle.model_back.specs.Calls.{call_by}
use Rattle.model_back.specs.Classed.{like_in, elements_in, world_in, IsClassed}
use Rattle.model_back.specs.Equals.{equals_from}
use Rattle.model_back.specs.Witnesses.{IsGivenBy, IsStateFor}
use Rattle.model_back.proofs.Breaking.{own_classes, own_elements, own, made-is, elements-are, parts-witness}
use Rattle.model_back.proofs.Called.{calls-are}
use Rattle.model_back.proofs.witness.witness_with.Goals as goal

pub world_of-requires : goal.world_of-requires
world_of-requires c =
    let d = c.args.spec.now in
    subst (λ (ss : List ℕ). list_all (λ (s : ℕ). nat_lt s (length d.sorts)) ss ≡ true) (sym c.requires.sorts) (sorts_exist d c.args.ob.now c.well_formed-2.ensures c.requires.member)

-- what was made is the world and the elements that the interpretation gives
given : (d : Specification) (ob : Obligation) (found : Found) (t : is_specification d ≡ true) (io : IsObligation d ob) (h : all_true (interpretation_of (table_of d ob) (meaning_of found)) (formulas_of d ob) ≡ true)
    → (o : Table) (sorts : List ℕ) (truths : List Bool) (c : Classed) → o ≡ table_of d ob → sorts ≡ (constants_of d ob).sorts → truths ≡ found.truths → IsClassed d o sorts truths c
    → (c.elements.items ≡ own_elements d ob found t io h) × (c.world ≡ back.world_of d ob (interpretation_of (table_of d ob) (meaning_of found))) × (world_fits d c.world ≡ true)
given d ob found t io h o sorts truths c eo es et k =
    let els : c.elements.items ≡ own_elements d ob found t io h = k.elements ∙ (λ i. elements_in (like_in (eo i) (et i)) (es i)) in
    let world : c.world ≡ world_in d (like_in (table_of d ob) found.truths) (constants_of d ob).sorts = k.world ∙ (λ i. world_in d (like_in (eo i) (et i)) (es i)) in
    made-is d ob found t io h (equals_from (λ (n : ℕ). slice_index_or found.truths n false) 0 (table_of d ob).atoms) (own_classes d ob found t io h) c.elements.items (constants_of d ob).sorts (length d.sorts) (length d.consts) c.world refl refl refl refl refl els
    (world ∙ (λ i. record { sizes = map length (own_classes d ob found t io h); consts = map (slice_index (sym els i)) (range_with_len 0 (length d.consts)) }))

pub witness_in-requires-clause-world : goal.witness_in-requires-clause-world
witness_in-requires-clause-world c =
    let all = given c.args.spec.now c.args.ob.now c.args.found.now c.well_formed-2.ensures c.requires.member c.requires.satisfied c.args.named.now.atoms.now.table c.args.named.now.sorts.now c.as_slice-truths.result.now c.in_ok-classed.classed c.requires.table c.requires.sorts c.as_slice-truths.ensures c.in_ok-classed.ensures in
    all.2

-- a witness that is made so breaks the obligation, and is given
breaking : {E : Type 0} (d : Specification) (ob : Obligation) (found : Found) (t : is_specification d ≡ true) (io : IsObligation d ob) (h : all_true (interpretation_of (table_of d ob) (meaning_of found)) (formulas_of d ob) ≡ true)
    → (o : Table) (consts : List ℕ) (calls : List GroundCall) (world : World) (els : List ℕ)
    → map (call_by (slice_index (own_elements d ob found t io h)) (λ n. slice_index_or found.ints n (pos 0))) (calls_of d ob) ≡ back.calls_of d ob (interpretation_of (table_of d ob) (meaning_of found))
    → o ≡ table_of d ob → consts ≡ (constants_of d ob).elements → calls ≡ calls_of d ob → els ≡ own_elements d ob found t io h → world ≡ back.world_of d ob (interpretation_of (table_of d ob) (meaning_of found))
    → (r : Result Witness E) → IfOk r (λ w. w.world ≡ world) → IfOk r (λ w. IsStateFor d ob world (slice_index els) found.truths found.ints o w.state)
    → IfOk r (λ w. w.calls ≡ map (call_by (slice_index els) (λ n. slice_index_or found.ints n (pos 0))) calls) → IfOk r (λ w. list_all (λ c. list_all in_state_range c.args) w.calls ≡ true) → IfOk r (λ w. w.elements ≡ map (slice_index els) consts)
    → IfOk r (λ w. IsRefutation d ob w.world w.state w.calls w.elements × IsGivenBy d ob (interpretation_of (table_of d ob) (meaning_of found)) w.world w.state w.calls w.elements)
breaking d ob found t io h o consts calls world els given eo ek ec el ew (Err e) w s c n k = tt
breaking d ob found t io h o consts calls world els given eo ek ec el ew (Ok r) w s c n k =
    let state = subst (λ (x : World). IsStateFor d ob x (slice_index (own_elements d ob found t io h)) found.truths found.ints (table_of d ob) r.state) (sym w)
    (subst (λ (x : List ℕ). IsStateFor d ob world (slice_index x) found.truths found.ints (table_of d ob) r.state) el (subst (λ (x : Table). IsStateFor d ob world (slice_index els) found.truths found.ints x r.state) eo s)) in
    parts-witness d ob found t io h r.world r.state r.calls r.elements (w ∙ ew) state (c ∙ (λ i. map (call_by (slice_index (el i)) (λ n. slice_index_or found.ints n (pos 0))) (ec i)) ∙ given)
    (k ∙ (λ i. map (slice_index (el i)) (ek i)) ∙ elements-are d ob found t io h) n

pub returns : goal.returns
returns c =
    let d = c.args.spec.now in
    let ob = c.args.ob.now in
    let found = c.args.found.now in
    let t = c.well_formed-2.ensures in
    let all = given d ob found t c.requires.member c.requires.satisfied c.args.named.now.atoms.now.table c.args.named.now.sorts.now c.as_slice-truths.result.now c.in_ok-classed.classed c.requires.table c.requires.sorts c.as_slice-truths.ensures c.in_ok-classed.ensures in
    let calls = calls-are d ob (c.law_arguments_are_first.ensures d ob) (meaning_of found) (slice_index (own_elements d ob found t c.requires.member c.requires.satisfied)) (own d ob found t c.requires.member c.requires.satisfied) in
    breaking d ob found t c.requires.member c.requires.satisfied c.args.named.now.atoms.now.table c.args.named.now.consts.now c.args.named.now.calls.now c.in_ok-classed.classed.world c.in_ok-classed.classed.elements.items
    calls c.requires.table c.requires.consts c.requires.calls all.0 all.1 c.witness_in.result c.witness_in.ensures.world c.witness_in.ensures.state c.witness_in.ensures.calls c.witness_in.ensures.range c.witness_in.ensures.elements
