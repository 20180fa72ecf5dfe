-- The parts of a witness, as a program makes them, break the obligation.
use Rattle.std.proofs.Common.{◌≡◌, ℕ, zero, suc, ◌+◌, ◌<◌, ◌≤◌, nat_le, Bool, true, false, slice_index_or, List, [], ◌∷◌, ◌++◌, map, length, slice_index, refl, sym, ◌∙◌, ap, subst, arith, length-append}
use Rattle.std.specs.List.{list_all, range_with_len}
use Rattle.std.proofs.lemmas.List.{length-map}
use Rattle.std.proofs.lemmas.List.FromFn.{get_or-map-range_with_len}
use Rattle.spec_core.specs.declared.world.World.{World}
use Rattle.spec_core.specs.declared.world.Call.{Call}
use Rattle.spec_core.specs.Specification.{Specification}
use Rattle.spec_core.specs.State.{Listing, Reads, reads}
use Rattle.spec_core.specs.Fits.{is_state, is_world, world_fits, in_state_range, AgreeOn}
use Rattle.spec_core.specs.Typed.{is_specification}
use Rattle.obligation_list.specs.declared.obligation.Obligation.{Obligation}
use Rattle.obligation_list.specs.declared.obligation.Obligation.TheVariants.{Init, Safety, Commute, Stable}
use Rattle.obligation_list.specs.Obligations.{IsObligation}
use Rattle.obligation_list.specs.Breaking.{elements_of, Breaks}
use Rattle.obligation_list.specs.Refuting.{IsRefutation}
use Rattle.proof_lines.specs.declared.problem.Interpretation.{Interpretation as Found}
use Rattle.proof_lines.specs.Problems.{Meaning, meaning_of}
use Rattle.ground_problem.specs.Symbols.{Interpretation, all_true}
use Rattle.ground_problem.specs.Constants.{constants_of}
use Rattle.ground_problem.specs.Problem.{formulas_of}
use Rattle.ground_problem.specs.Classes.{alike, classes}
use Rattle.ground_problem.specs.Readback.{element_at, world_of, calls_of, elements_at, entry_of, IsEntry}
use Rattle.ground_problem.proofs.Second.{entry_breaks}
use Rattle.ground_problem.proofs.Given as given
use Rattle.ground_problem.proofs.Sorted.{elements_sorted}
use Rattle.std.proofs.lemmas.Bool.{and_from}
use Rattle.model_back.specs.declared.equals.Equal.{Equal}
use Rattle.ground_numbers.specs.Numbers.{Table}
use Rattle.ground_numbers.specs.Problem.{table_of, interpretation_of}
use Rattle.model_back.specs.Equals.{equals_from, alike_by, classes_by, element_by}
use Rattle.model_back.specs.Witnesses.{IsGivenBy, read_from, IsReadFrom, IsStateFor}
use Rattle.model_back.proofs.Equality.{alike-listed}
use Rattle.model_back.proofs.Entry.{filled-is-entry}
use Rattle.model_back.proofs.Fitting.{map-same, read-same, elements-fit, integer-elements-fit}
use Rattle.model_back.proofs.Small.{world_small}

front_few : (xs ys : List ℕ) → length xs ≤ length (xs ++ ys)
front_few xs ys = (let e = length-append xs ys in omega arith)

map-lengths : (f : ℕ → List ℕ) (xs : List ℕ) → map length (map f xs) ≡ map (λ s. length (f s)) xs
map-lengths f [] = refl
map-lengths f (x ∷ xs) = ap (λ (ys : List ℕ). length (f x) ∷ ys) (map-lengths f xs)

range-same : (f g : ℕ → ℕ) (from n : ℕ) → ((c : ℕ) → c < from + n → f c ≡ g c) → map f (range_with_len from n) ≡ map g (range_with_len from n)
range-same f g from zero h = refl
range-same f g from (suc n) h = (let p = h from (omega arith) in let q = range-same f g (from + 1) n (λ c l. h c (omega arith)) in λ i. p i ∷ q i)

module _ (d : Specification) (ob : Obligation) (found : Found) (t : is_specification d ≡ true) (io : IsObligation d ob) (h : all_true (interpretation_of (table_of d ob) (meaning_of found)) (formulas_of d ob) ≡ true) where
  abbrev pub mu : Meaning
  mu = meaning_of found

  abbrev pub o : Table
  o = table_of d ob

  abbrev m : Interpretation
  m = interpretation_of o mu

  abbrev pub sorts : List ℕ
  sorts = (constants_of d ob).sorts

  abbrev pub like : ℕ → ℕ → Bool
  like = alike_by (equals_from mu.truth 0 o.atoms)

  like-is : like ≡ alike m
  like-is = λ i. λ a. λ b. alike-listed d ob mu a b i

  abbrev pub own_classes : List (List ℕ)
  own_classes = map (classes_by like sorts) (range_with_len 0 (length d.sorts))

  abbrev pub own_elements : List ℕ
  own_elements = map (element_by like sorts) (range_with_len 0 (length sorts))

  pub own : (c : ℕ) → c < length sorts → slice_index own_elements c ≡ element_at d ob m c
  own c l = get_or-map-range_with_len (element_by like sorts) 0 (length sorts) c c 0 l (omega arith) ∙ ap (λ (f : ℕ → ℕ → Bool). element_by f sorts c) like-is

  declared : length d.consts ≤ length sorts
  declared = (let e = length-map d.consts (λ c. c.sort) in let a : length (map (λ c. c.sort) d.consts) ≤ length sorts = front_few (map (λ c. c.sort) d.consts) _ in omega arith)

  sizes-are : map length own_classes ≡ map (λ s. length (classes m sorts s)) (range_with_len 0 (length d.sorts))
  sizes-are = map-lengths (classes_by like sorts) (range_with_len 0 (length d.sorts)) ∙ ap (λ (f : ℕ → ℕ → Bool). map (λ s. length (classes_by f sorts s)) (range_with_len 0 (length d.sorts))) like-is

  consts-are : map (slice_index own_elements) (range_with_len 0 (length d.consts)) ≡ map (element_at d ob m) (range_with_len 0 (length d.consts))
  consts-are = range-same (slice_index own_elements) (element_at d ob m) 0 (length d.consts) (λ c l. own c (let k = declared in omega arith))

  -- the world
  pub world-is : (w : World) → w ≡ record { sizes = map length own_classes; consts = map (slice_index own_elements) (range_with_len 0 (length d.consts)) } → w ≡ world_of d ob m
  world-is w e = e ∙ (λ i. record { sizes = sizes-are i; consts = consts-are i })

  -- the state
  entry-agrees : (s : Listing) → reads s ≡ read_from d (slice_index own_elements) found.truths found.ints o → AgreeOn d (world_of d ob m) (reads s) (entry_of d ob m)
  entry-agrees s e = subst (λ (r : Reads). AgreeOn d (world_of d ob m) r (entry_of d ob m)) (sym (e ∙ read-same d ob mu t io h (slice_index own_elements) own)) (filled-is-entry d ob mu t io h)

  read-fits : (s : Listing) → IsReadFrom d (world_of d ob m) (slice_index own_elements) found.truths found.ints o s → is_state d (world_of d ob m) s ≡ true
  read-fits s e = e.1 (elements-fit d ob mu t io h (slice_index own_elements) own) (integer-elements-fit d ob mu t io h (slice_index own_elements) own)

by_kind : (d : Specification) (ob : Obligation) (found : Found) (t : is_specification d ≡ true) (io : IsObligation d ob) (h : all_true (interpretation_of (table_of d ob) (meaning_of found)) (formulas_of d ob) ≡ true) (s : Listing)
    → IsStateFor d ob (world_of d ob (interpretation_of (table_of d ob) (meaning_of found))) (slice_index (own_elements d ob found t io h)) found.truths found.ints (table_of d ob) s
    → (is_state d (world_of d ob (interpretation_of (table_of d ob) (meaning_of found))) s ≡ true) × IsEntry d ob (interpretation_of (table_of d ob) (meaning_of found)) s
by_kind d (Init i) found t io h s e = (e.1, e.0)
by_kind d (Safety p i) found t io h s e = (read-fits d (Safety p i) found t io h s e, entry-agrees d (Safety p i) found t io h s e.0)
by_kind d (Commute p q x) found t io h s e = (read-fits d (Commute p q x) found t io h s e, entry-agrees d (Commute p q x) found t io h s e.0)
by_kind d (Stable p l q) found t io h s e = (read-fits d (Stable p l q) found t io h s e, entry-agrees d (Stable p l q) found t io h s e.0)

-- The world, the state, the calls and the elements refute the obligation, and they are those that the interpretation gives.
pub parts-witness : (d : Specification) (ob : Obligation) (found : Found) (t : is_specification d ≡ true) (io : IsObligation d ob) (h : all_true (interpretation_of (table_of d ob) (meaning_of found)) (formulas_of d ob) ≡ true) (w : World) (s : Listing) (cs : List Call) (es : List ℕ)
    → w ≡ world_of d ob (interpretation_of (table_of d ob) (meaning_of found))
    → IsStateFor d ob w (slice_index (own_elements d ob found t io h)) found.truths found.ints (table_of d ob) s
    → cs ≡ calls_of d ob (interpretation_of (table_of d ob) (meaning_of found)) → es ≡ elements_at d ob (interpretation_of (table_of d ob) (meaning_of found))
    → list_all (λ (c : Call). list_all in_state_range c.args) cs ≡ true
    → IsRefutation d ob w s cs es × IsGivenBy d ob (interpretation_of (table_of d ob) (meaning_of found)) w s cs es
parts-witness d ob found t io h w s cs es ew st ec ee numbers =
    let m = interpretation_of (table_of d ob) (meaning_of found) in
    let st2 = subst (λ (x : World). IsStateFor d ob x (slice_index (own_elements d ob found t io h)) found.truths found.ints (table_of d ob) s) ew st in
    let k = by_kind d ob found t io h s st2 in
    let b = entry_breaks d ob m s t io h k.0 k.1 in (
      record {
        breaks = subst (λ (x : World). Breaks d ob x s cs es) (sym ew) (subst (λ (x : List Call). Breaks d ob (world_of d ob m) s x es) (sym ec) (subst (λ (x : List ℕ). Breaks d ob (world_of d ob m) s (calls_of d ob m) x) (sym ee) b));
        sizes = subst (λ (x : World). list_all (λ n. nat_le n 100) x.sizes ≡ true) (sym ew) (world_small d ob m t io);
        numbers = numbers;
      },
      record { world = ew; state = k.1; calls = ec; elements = ee },
    )

-- What a program computes is the world and the elements, and the world fits.
pub made-is : (d : Specification) (ob : Obligation) (found : Found) (t : is_specification d ≡ true) (io : IsObligation d ob) (h : all_true (interpretation_of (table_of d ob) (meaning_of found)) (formulas_of d ob) ≡ true)
    → (es : List Equal) (cls : List (List ℕ)) (els ss : List ℕ) (count declared : ℕ) (w : World)
    → es ≡ equals_from (λ n. slice_index_or found.truths n false) 0 (table_of d ob).atoms → ss ≡ (constants_of d ob).sorts → count ≡ length d.sorts → declared ≡ length d.consts
    → cls ≡ map (classes_by (alike_by es) ss) (range_with_len 0 count) → els ≡ map (element_by (alike_by es) ss) (range_with_len 0 (length ss))
    → w ≡ record { sizes = map length cls; consts = map (slice_index els) (range_with_len 0 declared) }
    → (els ≡ own_elements d ob found t io h) × (w ≡ world_of d ob (interpretation_of (table_of d ob) (meaning_of found))) × (world_fits d w ≡ true)
made-is d ob found t io h es cls els ss count declared w e s n k c l f =
    let x : cls ≡ own_classes d ob found t io h = c ∙ (λ i. map (classes_by (alike_by (e i)) (s i)) (range_with_len 0 (n i))) in
    let y : els ≡ own_elements d ob found t io h = l ∙ (λ i. map (element_by (alike_by (e i)) (s i)) (range_with_len 0 (length (s i)))) in
    let z = world-is d ob found t io h w (f ∙ (λ i. record { sizes = map length (x i); consts = map (slice_index (y i)) (range_with_len 0 (k i)) })) in
    let m = interpretation_of (table_of d ob) (meaning_of found) in
    (y, z, subst (λ (v : World). world_fits d v ≡ true) (sym z) (and_from (is_world d (world_of d ob m)) (list_all (λ n. nat_le n 100) (world_of d ob m).sizes) (given.world d ob m h t io) (world_small d ob m t io)))

-- the elements of the conclusion's constants
pub elements-are : (d : Specification) (ob : Obligation) (found : Found) (t : is_specification d ≡ true) (io : IsObligation d ob) (h : all_true (interpretation_of (table_of d ob) (meaning_of found)) (formulas_of d ob) ≡ true)
    → map (slice_index (own_elements d ob found t io h)) (constants_of d ob).elements ≡ elements_at d ob (interpretation_of (table_of d ob) (meaning_of found))
elements-are d ob found t io h = map-same (slice_index (own_elements d ob found t io h)) (element_at d ob (interpretation_of (table_of d ob) (meaning_of found))) (constants_of d ob).sorts (elements_of d ob) (constants_of d ob).elements (own d ob found t io h) (elements_sorted d ob)
