-- What is shown of a witness that fits can stand in a report.
use Rattle.std.proofs.Common.{◌≡◌, ℕ, suc, ◌+◌, ◌<◌, ◌≤◌, ℤ, negsuc, unsigned_abs, Bool, true, eqb, leb, List, [], ◌∷◌, ◌++◌, map, length, get_or, Option, Some, None, ◌⊎◌, inl, inr, refl, sym, ap, subst, ◌∙◌, arith, le-leb, lt-ltb}
use Rattle.std.specs.Prelude.{pos, nat_le, nat_lt}
use Rattle.std.specs.List.{filter, list_all}
use Rattle.std.proofs.lemmas.Bool.{and_parts, and_from, false≢true, ltb-true, eqb-true, eq-eqb}
use Rattle.std.proofs.lemmas.List.{length-map}
use Rattle.spec_core.specs.declared.spec.Const.{Const}
use Rattle.spec_core.specs.declared.spec.Relation.{Relation}
use Rattle.spec_core.specs.declared.spec.Counter.{Counter}
use Rattle.spec_core.specs.declared.operation.Kind.{Kind}
use Rattle.spec_core.specs.declared.operation.Operation.{Operation}
use Rattle.spec_core.specs.declared.operation.Kind.TheVariants.{Sort, Int}
use Rattle.spec_core.specs.declared.operation.Param.{Param as Parameter}
use Rattle.spec_core.specs.declared.world.World.{World}
use Rattle.spec_core.specs.declared.world.Call.{Call}
use Rattle.spec_core.specs.Limits.{greatest_value, most_elements}
use Rattle.spec_core.specs.Specification.{Specification, no_relation, no_counter, relation_places, counter_keys, op_of}
use Rattle.spec_core.specs.State.{Reads, reads, is_in, is_rising}
use Rattle.spec_core.specs.World.{size_of, tuples}
use Rattle.spec_core.specs.Fits.{fits_places, is_world, world_fits, is_argument, are_arguments, is_call, call_fits, in_state_range}
use Rattle.spec_core.proofs.Members.{is_in-tuples}
use Rattle.spec_states.proofs.Rising.{before, is_rising-filter, is_in-filter, is_rising-tuples}
use Rattle.spec_core.proofs.States.{list_all-from_is_in}
use Rattle.spec_core.proofs.Places.{size_at_most}
use Rattle.obligation_list.specs.declared.obligation.Obligation.{Obligation}
use Rattle.obligation_list.specs.declared.witness.Witness.{Witness}
use Rattle.report_lines.specs.declared.witness.Fact.{Fact}
use Rattle.report_lines.specs.declared.witness.Reading.{Reading}
use Rattle.report_lines.specs.Fields.{most_count, element_format}
use Rattle.report_lines.specs.Witnesses.{tuple_words, relation_names, counter_names, operation_names, call_format, is_other, argument_format, arguments_words}
use Rattle.proof_report.specs.Verdicts.{call_count, are_sizes, are_consts, are_facts, are_readings, are_calls, const_at, no_const, fact_behind, relation_due, reading_behind, counter_due, is_witness}
use Rattle.report_reader.proofs.Ordered.{first_agrees, first_differs}
use Rattle.report_bytes.specs.Showing.{fact_of, reading_of, facts_from, readings_from, shown_by, CanBeShown}

-- ---- elements

element_fits : (d : Specification) (w : World) (s e : ℕ) → world_fits d w ≡ true → nat_lt e (size_of w s) ≡ true → (element_format (size_of w s)).fits e ≡ true
element_fits d w s e h lt =
    let a = size_at_most d w h s in
    let b = ltb-true e (size_of w s) lt in
    let c : leb e most_count ≡ true = le-leb e most_count (omega (arith, a, b)) in
    and_from _ _ c lt

tuple_fits : (d : Specification) (w : World) (ss es : List ℕ) → world_fits d w ≡ true → fits_places w ss es ≡ true → (tuple_words w ss).fits es ≡ true
tuple_fits d w [] [] h f = refl
tuple_fits d w [] (e ∷ es) h f = absurd (false≢true f)
tuple_fits d w (s ∷ ss) [] h f = absurd (false≢true f)
tuple_fits d w (s ∷ ss) (e ∷ es) h f = let p = and_parts (nat_lt e (size_of w s)) (fits_places w ss es) f in and_from _ _ (element_fits d w s e h p.0) (tuple_fits d w ss es h p.1)

-- ---- worlds

sizes_fit : (d : Specification) (i : ℕ) (ns : List ℕ) → i + length ns ≡ length d.sorts → list_all (λ n. nat_le n most_elements) ns ≡ true → are_sizes d i ns ≡ true
sizes_fit d i [] e h = eq-eqb i (length d.sorts) (omega (arith, e))
sizes_fit d i (n ∷ ns) e h =
    let p = and_parts (nat_le n most_elements) (list_all (λ n. nat_le n most_elements) ns) h in
    let lt : i < length d.sorts = omega (arith, e) in
    and_from _ _ (lt-ltb i (length d.sorts) lt) (and_from _ _ p.0 (sizes_fit d (suc i) ns (omega (arith, e)) p.1))

-- the constants from a place on
consts_fit : (d : Specification) (w : World) (cs : List Const) (j : ℕ) (xs : List ℕ) → world_fits d w ≡ true → ((n k : ℕ) → n ≡ j + k → get_or d.consts n no_const ≡ get_or cs k no_const) → j + length cs ≡ length d.consts
    → fits_places w (map (λ (c : Const). c.sort) cs) xs ≡ true → are_consts d w j xs ≡ true
consts_fit d w [] j [] h e n f = eq-eqb j (length d.consts) (omega (arith, n))
consts_fit d w [] j (x ∷ xs) h e n f = absurd (false≢true f)
consts_fit d w (c ∷ cs) j [] h e n f = absurd (false≢true f)
consts_fit d w (c ∷ cs) j (x ∷ xs) h e n f =
    let p = and_parts (nat_lt x (size_of w c.sort)) (fits_places w (map (λ (c : Const). c.sort) cs) xs) f in
    let lt : j < length d.consts = omega (arith, n) in
    let here : j ≡ j + 0 = omega arith in
    let same : const_at d j ≡ c = e j 0 here in
    let one : nat_lt x (size_of w (const_at d j).sort) ≡ true = subst (λ (k : Const). nat_lt x (size_of w k.sort) ≡ true) (sym same) p.0 in
    let rest = consts_fit d w cs (suc j) xs h (λ n k q. e n (suc k) (let z : n ≡ j + suc k = omega (arith, q) in z)) (omega (arith, n)) p.1 in
    and_from _ _ (lt-ltb j (length d.consts) lt) (and_from _ _ (element_fits d w (const_at d j).sort x h one) rest)

-- ---- what holds

all_kept : (f : List ℕ → Bool) (ts : List (List ℕ)) → list_all f (filter f ts) ≡ true
all_kept f ts = list_all-from_is_in f (filter f ts) (λ q m. let e = sym (is_in-filter f ts q) ∙ m in (and_parts (is_in q ts) (f q) e).1)

all_fit : (w : World) (ss : List ℕ) (f : List ℕ → Bool) → list_all (fits_places w ss) (filter f (tuples w ss)) ≡ true
all_fit w ss f = list_all-from_is_in (fits_places w ss) (filter f (tuples w ss)) (λ q m. let e = sym (is_in-filter f (tuples w ss) q) ∙ m in sym (is_in-tuples w ss q) ∙ (and_parts (is_in q (tuples w ss)) (f q) e).0)

-- the last fact is of a relation before this one, or of this one and before these tuples
abbrev FactsMay : Option Fact → ℕ → List (List ℕ) → Type 0
FactsMay None k ts = Unit {0}
FactsMay (Some f) k ts = (f.relation < k) ⊎ ((f.relation ≡ k) × (list_all (before f.tuple) ts ≡ true))

abbrev FactsBelow : Option Fact → ℕ → Type 0
FactsBelow None k = Unit {0}
FactsBelow (Some f) k = f.relation < k

fact_may_follow : (last : Option Fact) (k : ℕ) (t : List ℕ) (ts : List (List ℕ)) → FactsMay last k (t ∷ ts) → (relation_due last ≤ k) × (fact_behind last (fact_of k t) ≡ true)
fact_may_follow None k t ts m = (omega arith, refl)
fact_may_follow (Some f) k t ts (inl lt) = (omega (arith, lt), first_differs f.relation f.tuple k t (λ e. let a : f.relation ≡ k = e in omega (arith, a, lt)) ∙ lt-ltb f.relation k lt)
fact_may_follow (Some f) k t ts (inr same) = let e = same.0 in (omega (arith, e), first_agrees f.relation f.tuple k t e ∙ (and_parts (before f.tuple t) (list_all (before f.tuple) ts) same.1).0)

facts_below : (last : Option Fact) (k : ℕ) → FactsMay last k [] → FactsBelow last (suc k)
facts_below None k m = tt
facts_below (Some f) k (inl lt) = omega (arith, lt)
facts_below (Some f) k (inr same) = let e = same.0 in omega (arith, e)

facts_may : (last : Option Fact) (k : ℕ) (ts : List (List ℕ)) → FactsBelow last k → FactsMay last k ts
facts_may None k ts b = tt
facts_may (Some f) k ts b = inl b

relation_fits : (d : Specification) (w : World) (k : ℕ) (last : Option Fact) (ts : List (List ℕ)) (rest : List Fact) → world_fits d w ≡ true → k < length (relation_names d) → list_all (fits_places w (relation_places d k)) ts ≡ true → is_rising ts ≡ true → FactsMay last k ts
    → ((o : Option Fact) → FactsBelow o (suc k) → are_facts d w o rest ≡ true) → are_facts d w last (map (fact_of k) ts ++ rest) ≡ true
relation_fits d w k last [] rest h lt fit up m more = more last (facts_below last k m)
relation_fits d w k last (t ∷ ts) rest h lt fit up m more =
    let p = and_parts (fits_places w (relation_places d k) t) (list_all (fits_places w (relation_places d k)) ts) fit in
    let q = and_parts (list_all (before t) ts) (is_rising ts) up in
    let f = fact_may_follow last k t ts m in
    let due : leb (relation_due last) k ≡ true = le-leb (relation_due last) k f.0 in
    let among = and_from _ _ due (lt-ltb k (length (relation_names d)) lt) in
    and_from _ _ (and_from _ _ (and_from _ _ among (tuple_fits d w (relation_places d k) t h p.0)) f.1)
    (relation_fits d w k (Some (fact_of k t)) ts rest h lt p.1 q.1 (inr (refl, q.0)) more)

facts_fit : (d : Specification) (w : World) (r : Reads) (rs : List Relation) (k : ℕ) (last : Option Fact) → world_fits d w ≡ true → ((n j : ℕ) → n ≡ k + j → get_or d.relations n no_relation ≡ get_or rs j no_relation) → k + length rs ≡ length d.relations → FactsBelow last k
    → are_facts d w last (facts_from w r k rs) ≡ true
facts_fit d w r [] k last h e n b = refl
facts_fit d w r (x ∷ rs) k last h e n b =
    let ts = filter (r.has k) (tuples w x.places) in
    let here : k ≡ k + 0 = omega arith in
    let many : length (relation_names d) ≡ length d.relations = length-map d.relations (λ (r : Relation). r.name) in
    let lt : k < length (relation_names d) = omega (arith, n, many) in
    let places : relation_places d k ≡ x.places = ap (λ (y : Relation). y.places) (e k 0 here) in
    let fit : list_all (fits_places w (relation_places d k)) ts ≡ true = subst (λ (ss : List ℕ). list_all (fits_places w ss) ts ≡ true) (sym places) (all_fit w x.places (r.has k)) in
    relation_fits d w k last ts (facts_from w r (suc k) rs) h lt fit (is_rising-filter (r.has k) (tuples w x.places) (is_rising-tuples w x.places)) (facts_may last k ts b)
    (λ o below. facts_fit d w r rs (suc k) o h (λ n j q. e n (suc j) (let z : n ≡ k + suc j = omega (arith, q) in z)) (omega (arith, n)) below)

-- ---- values

abbrev ReadingsMay : Option Reading → ℕ → List (List ℕ) → Type 0
ReadingsMay None k ts = Unit {0}
ReadingsMay (Some f) k ts = (f.counter < k) ⊎ ((f.counter ≡ k) × (list_all (before f.key) ts ≡ true))

abbrev ReadingsBelow : Option Reading → ℕ → Type 0
ReadingsBelow None k = Unit {0}
ReadingsBelow (Some f) k = f.counter < k

reading_may_follow : (r : Reads) (last : Option Reading) (k : ℕ) (t : List ℕ) (ts : List (List ℕ)) → ReadingsMay last k (t ∷ ts) → (counter_due last ≤ k) × (reading_behind last (reading_of r k t) ≡ true)
reading_may_follow r None k t ts m = (omega arith, refl)
reading_may_follow r (Some f) k t ts (inl lt) = (omega (arith, lt), first_differs f.counter f.key k t (λ e. let a : f.counter ≡ k = e in omega (arith, a, lt)) ∙ lt-ltb f.counter k lt)
reading_may_follow r (Some f) k t ts (inr same) = let e = same.0 in (omega (arith, e), first_agrees f.counter f.key k t e ∙ (and_parts (before f.key t) (list_all (before f.key) ts) same.1).0)

readings_below : (last : Option Reading) (k : ℕ) → ReadingsMay last k [] → ReadingsBelow last (suc k)
readings_below None k m = tt
readings_below (Some f) k (inl lt) = omega (arith, lt)
readings_below (Some f) k (inr same) = let e = same.0 in omega (arith, e)

readings_may : (last : Option Reading) (k : ℕ) (ts : List (List ℕ)) → ReadingsBelow last k → ReadingsMay last k ts
readings_may None k ts b = tt
readings_may (Some f) k ts b = inl b

-- the values of a state are in its range
abbrev InRange : Reads → Type 0
InRange r = (k : ℕ) (t : List ℕ) → unsigned_abs (r.count k t) ≤ greatest_value

counter_fits : (d : Specification) (w : World) (r : Reads) (k : ℕ) (last : Option Reading) (ts : List (List ℕ)) (rest : List Reading) → world_fits d w ≡ true → InRange r → k < length (counter_names d) → list_all (fits_places w (counter_keys d k)) ts ≡ true
    → list_all (λ t. is_other (r.count k t)) ts ≡ true → is_rising ts ≡ true → ReadingsMay last k ts → ((o : Option Reading) → ReadingsBelow o (suc k) → are_readings d w o rest ≡ true) → are_readings d w last (map (reading_of r k) ts ++ rest) ≡ true
counter_fits d w r k last [] rest h v lt fit other up m more = more last (readings_below last k m)
counter_fits d w r k last (t ∷ ts) rest h v lt fit other up m more =
    let p = and_parts (fits_places w (counter_keys d k) t) (list_all (fits_places w (counter_keys d k)) ts) fit in
    let o = and_parts (is_other (r.count k t)) (list_all (λ t. is_other (r.count k t)) ts) other in
    let q = and_parts (list_all (before t) ts) (is_rising ts) up in
    let f = reading_may_follow r last k t ts m in
    let due : leb (counter_due last) k ≡ true = le-leb (counter_due last) k f.0 in
    let among = and_from _ _ due (lt-ltb k (length (counter_names d)) lt) in
    let value : leb (unsigned_abs (r.count k t)) greatest_value ≡ true = le-leb _ _ (v k t) in
    and_from _ _ (and_from _ _ (and_from _ _ among (and_from _ _ (tuple_fits d w (counter_keys d k) t h p.0) (and_from _ _ value o.0))) f.1)
    (counter_fits d w r k (Some (reading_of r k t)) ts rest h v lt p.1 o.1 q.1 (inr (refl, q.0)) more)

readings_fit : (d : Specification) (w : World) (r : Reads) (cs : List Counter) (k : ℕ) (last : Option Reading) → world_fits d w ≡ true → InRange r → ((n j : ℕ) → n ≡ k + j → get_or d.counters n no_counter ≡ get_or cs j no_counter) → k + length cs ≡ length d.counters
    → ReadingsBelow last k → are_readings d w last (readings_from w r k cs) ≡ true
readings_fit d w r [] k last h v e n b = refl
readings_fit d w r (x ∷ cs) k last h v e n b =
    let test = λ (t : List ℕ). is_other (r.count k t) in
    let ts = filter test (tuples w x.keys) in
    let here : k ≡ k + 0 = omega arith in
    let many : length (counter_names d) ≡ length d.counters = length-map d.counters (λ (c : Counter). c.name) in
    let lt : k < length (counter_names d) = omega (arith, n, many) in
    let keys : counter_keys d k ≡ x.keys = ap (λ (y : Counter). y.keys) (e k 0 here) in
    let fit : list_all (fits_places w (counter_keys d k)) ts ≡ true = subst (λ (ss : List ℕ). list_all (fits_places w ss) ts ≡ true) (sym keys) (all_fit w x.keys test) in
    counter_fits d w r k last ts (readings_from w r (suc k) cs) h v lt fit (all_kept test (tuples w x.keys)) (is_rising-filter test (tuples w x.keys) (is_rising-tuples w x.keys)) (readings_may last k ts b)
    (λ o below. readings_fit d w r cs (suc k) o h v (λ n j q. e n (suc j) (let z : n ≡ k + suc j = omega (arith, q) in z)) (omega (arith, n)) below)

-- ---- calls

argument_fits : (d : Specification) (w : World) (k : Kind) (z : ℤ) → world_fits d w ≡ true → is_argument w k z ≡ true → in_state_range z ≡ true → (argument_format k).fits z ≡ true
argument_fits d w (Sort s) (pos n) h a v =
    let p = and_parts _ (nat_lt n (size_of w s)) a in
    let x = size_at_most d w h s in
    let y = ltb-true n (size_of w s) p.1 in
    le-leb n most_count (omega (arith, x, y))
argument_fits d w (Sort s) (negsuc n) h a v = absurd (false≢true a)
argument_fits d w Int z h a v = v

arguments_fit : (d : Specification) (w : World) (ps : List Parameter) (zs : List ℤ) → world_fits d w ≡ true → are_arguments w ps zs ≡ true → list_all in_state_range zs ≡ true → (arguments_words ps).fits zs ≡ true
arguments_fit d w [] [] h a v = refl
arguments_fit d w [] (z ∷ zs) h a v = absurd (false≢true a)
arguments_fit d w (p ∷ ps) [] h a v = absurd (false≢true a)
arguments_fit d w (p ∷ ps) (z ∷ zs) h a v =
    let x = and_parts (is_argument w p.kind z) (are_arguments w ps zs) a in
    let y = and_parts (in_state_range z) (list_all in_state_range zs) v in
    and_from _ _ (argument_fits d w p.kind z h x.0 y.0) (arguments_fit d w ps zs h x.1 y.1)

one_call_fits : (d : Specification) (w : World) (c : Call) → world_fits d w ≡ true → call_fits d w c ≡ true → (call_format d).fits c ≡ true
one_call_fits d w c h f =
    let p = and_parts (is_call d w c) (list_all in_state_range c.args) f in
    let q = and_parts (nat_lt c.op (length d.operations)) (are_arguments w (op_of d c.op).params c.args) p.0 in
    let many : length (operation_names d) ≡ length d.operations = length-map d.operations (λ (o : Operation). o.name) in
    let op : nat_lt c.op (length (operation_names d)) ≡ true = ap (nat_lt c.op) many ∙ q.0 in
    let least : leb 0 c.op ≡ true = le-leb 0 c.op (omega arith) in
    and_from _ _ (and_from _ _ least op) (arguments_fit d w (op_of d c.op).params c.args h q.1 p.1)

calls_fit : (d : Specification) (w : World) (ob : Obligation) (n : ℕ) (cs : List Call) → world_fits d w ≡ true → n + length cs ≡ call_count ob → list_all (call_fits d w) cs ≡ true → are_calls d ob n cs ≡ true
calls_fit d w ob n [] h e f = eq-eqb n (call_count ob) (omega (arith, e))
calls_fit d w ob n (c ∷ cs) h e f =
    let p = and_parts (call_fits d w c) (list_all (call_fits d w) cs) f in
    let lt : n < call_count ob = omega (arith, e) in
    and_from _ _ (and_from _ _ (one_call_fits d w c h p.0) (lt-ltb n (call_count ob) lt)) (calls_fit d w ob (suc n) cs h (omega (arith, e)) p.1)

-- ---- witnesses

pub shown_fits : (d : Specification) (ob : Obligation) (w : Witness) → CanBeShown d ob w → is_witness d ob (shown_by d w) w.elements ≡ true
shown_fits d ob w c =
    let h = c.fits.world in
    let p = and_parts (is_world d w.world) (list_all (λ n. nat_le n most_elements) w.world.sizes) h in
    let q = and_parts (eqb (length w.world.sizes) (length d.sorts)) (fits_places w.world (map (λ (c : Const). c.sort) d.consts) w.world.consts) p.0 in
    let many = eqb-true (length w.world.sizes) (length d.sorts) q.0 in
    let same : (n j : ℕ) → n ≡ 0 + j → n ≡ j = λ n j k. omega (arith, k) in
    let r = reads w.state in
    let a = sizes_fit d 0 w.world.sizes (omega (arith, many)) p.1 in
    let b = consts_fit d w.world d.consts 0 w.world.consts h (λ n j k. ap (λ (m : ℕ). get_or d.consts m no_const) (same n j k)) (omega arith) q.1 in
    let f = facts_fit d w.world r d.relations 0 None h (λ n j k. ap (λ (m : ℕ). get_or d.relations m no_relation) (same n j k)) (omega arith) tt in
    let v = readings_fit d w.world r d.counters 0 None h c.values (λ n j k. ap (λ (m : ℕ). get_or d.counters m no_counter) (same n j k)) (omega arith) tt in
    let g = calls_fit d w.world ob 0 w.calls h (let n = c.calls in omega (arith, n)) c.fits.calls in
    and_from _ _ a (and_from _ _ b (and_from _ _ f (and_from _ _ v (and_from _ _ g c.elements))))
