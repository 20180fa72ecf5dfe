-- The whole list in three parts: the formulas in front, those that pairs stand for, and those behind.
use Rattle.std.proofs.Common.{◌≡◌, ℕ, ◌≤◌, true, Some, None, Option, List, [], ◌∷◌, ◌++◌, length, map, length-append, append_assoc, refl, sym, ◌∙◌, ap, subst, arith}
use Rattle.std.specs.Prelude.{Err, Result, IfSome}
use Rattle.std.specs.List.{filter, flat_map}
use Rattle.std.proofs.lemmas.Grind.{flat_map-append}
use Rattle.std.proofs.lemmas.List.{map-append, length-map}
use Rattle.std.proofs.lemmas.Bool.{and_parts, and_from}
use Rattle.spec_core.specs.Specification.{Specification}
use Rattle.spec_core.specs.declared.update.Thing.{Thing}
use Rattle.obligation_list.specs.declared.obligation.Obligation.{Obligation}
use Rattle.obligation_list.specs.Obligations.{things}
use Rattle.effectors.specs.Effect.{is_thing}
use Rattle.ground_problem.specs.Symbols.{Symbolic}
use Rattle.ground_problem.specs.Constants.{Constants, constants_of}
use Rattle.ground_problem.specs.Definitions.{Reading}
use Rattle.ground_problem.specs.Equality.{equality, congruent_pairs, rising, congruence}
use Rattle.ground_problem.specs.Problem.{defined, formulas_of, most_formulas}
use Rattle.ground_numbers.specs.Numbered.{Numbered}
use Rattle.ground_numbers.specs.Numbers.{Table, has_atom, has_number, number_of, numbered, naming_all}
use Rattle.ground_numbers.specs.Problem.{table_of}
use Rattle.ground_numbers.proofs.Growing.{Extends, extends-then, AllNamesIn, naming_all-extends, naming_all-has}
use Rattle.ground_atoms.specs.Calls.{calls_of}
use Rattle.ground_atoms.specs.Formulas.{form_of}
use Rattle.ground_atoms.specs.Symbols.{reading_of}
use Rattle.ground_atoms.specs.Known.{Known}
use Rattle.ground_atoms.specs.Making.{MadeList}
use Rattle.ground_atoms.specs.declared.atom.NamedReading.{NamedReading}
use Rattle.ground_atoms.proofs.Numbering.{make_all-is}
use Rattle.ground_groups.specs.Calls.{numbered_arguments}
use Rattle.ground_groups.specs.Limited.{make_upto, Appends, made_in, Makes}
use Rattle.ground_groups.specs.declared.refused.GroundRefused.{GroundRefused}
use Rattle.ground_groups.specs.declared.refused.GroundRefused.TheVariants.{TooMany, Memory}
use Rattle.ground_groups.proofs.Lists.{upto_made, upto_none, makes_then}
use Rattle.instances.specs.declared.entry.EntryPart.{EntryPart}
use Rattle.instances.proofs.Whole.{many_made}
use Rattle.lazy_ground.specs.declared.pairs.ReadingPairs.{ReadingPairs}
use Rattle.lazy_ground.specs.declared.front.Front.{Front}
use Rattle.lazy_ground.specs.declared.grounding.LazyGround.{LazyGround}
use Rattle.lazy_ground.specs.Pairs.{pairs_of, pair_forms, readings_known, AllNumbered}
use Rattle.lazy_ground.specs.Lazy.{IsLazyGround, ArePairs, IsGroundEither}
use Rattle.lazy_ground.specs.Kept.{thing_of, AllBuilt}
use Rattle.lazy_ground.specs.Named.{AllNamed, AreFound}
use Rattle.lazy_ground.specs.Front.{front_of, entry_readings, HasPart, IsFront, IsFrontOr}
use Rattle.ground_groups.specs.declared.grounding.Grounding.{Grounding}
use Rattle.lazy_ground.proofs.Stays.{naming_all-append, all_names_there, all_numbered-stay, all_names-stay, all_names_in}

-- ---- the list

-- the front, and then the formulas on equal readings
pub front_then : (d : Specification) (ob : Obligation) → front_of d ob ++ congruence (entry_readings d ob) (things d) ≡ formulas_of d ob
front_then d ob = append_assoc (defined d ob (constants_of d ob)) (equality 0 (constants_of d ob).sorts) (congruence (entry_readings d ob) (things d))

-- these in two parts
pub three_parts : (d : Specification) (ob : Obligation) (rs cs : List Thing) → rs ++ cs ≡ things d
    → front_of d ob ++ (congruence (entry_readings d ob) rs ++ congruence (entry_readings d ob) cs) ≡ formulas_of d ob
three_parts d ob rs cs e =
    ap (λ (l : List Symbolic). front_of d ob ++ l) (sym (flat_map-append _ rs cs))
    ∙ ap (λ (xs : List Thing). front_of d ob ++ congruence (entry_readings d ob) xs) e
    ∙ front_then d ob

pub front_refused : (A : Type 0) (d : Specification) (ob : Obligation) (why : GroundRefused) (new : Grounding)
    → Makes {A = A} (Err why) (numbered_arguments d ob) (front_of d ob) new → IsFrontOr d ob (Err why)
front_refused A d ob TooMany new e =
    many_made (numbered_arguments d ob) (formulas_of d ob)
    (ap (make_upto [] (numbered_arguments d ob)) (sym (front_then d ob)) ∙ upto_none [] (numbered_arguments d ob) (front_of d ob) (congruence (entry_readings d ob) (things d)) e)
front_refused A d ob Memory new e = tt

-- the front: what is defined, and then equality
pub front_seq : (d : Specification) (ob : Obligation) (r : Result (Unit {0}) GroundRefused) (mid new : Grounding) (ss : List ℕ) → ss ≡ (constants_of d ob).sorts
    → make_upto [] (numbered_arguments d ob) (defined d ob (constants_of d ob)) ≡ Some (made_in mid)
    → Appends r mid (equality 0 ss) new → Makes r (numbered_arguments d ob) (front_of d ob) new
front_seq d ob r mid new ss e made h =
    makes_then r (numbered_arguments d ob) mid new (defined d ob (constants_of d ob)) (equality 0 (constants_of d ob).sorts) made
    (subst (λ (xs : List ℕ). Appends r mid (equality 0 xs) new) e h)

-- ---- what is made of it

made_on : (so_far : List Numbered) (k l : Known) (fs : List Symbolic) (gs : List Numbered) → make_upto so_far k fs ≡ Some (record { known = l; forms = gs }) → l.table ≡ naming_all k.table fs
made_on so_far k l fs gs e = ap (λ (m : MadeList). m.known.table) (sym (upto_made so_far k fs (record { known = l; forms = gs }) e) ∙ make_all-is so_far k fs)

made_table : (k l : Known) (fs : List Symbolic) (gs : List Numbered) → make_upto [] k fs ≡ Some (record { known = l; forms = gs }) → l.table ≡ naming_all k.table fs
made_table k l fs gs e = made_on [] k l fs gs e

-- What is made on has the numbers that there were.
pub made_extends : (so_far : List Numbered) (k l : Known) (fs : List Symbolic) (gs : List Numbered) → make_upto so_far k fs ≡ Some (record { known = l; forms = gs }) → Extends k.table l.table
made_extends so_far k l fs gs e = subst (Extends k.table) (sym (made_on so_far k l fs gs e)) (naming_all-extends k.table fs)

made_forms : (k l : Known) (fs : List Symbolic) (gs : List Numbered) → make_upto [] k fs ≡ Some (record { known = l; forms = gs }) → gs ≡ map (numbered l.table) fs
made_forms k l fs gs e =
    ap (λ (m : MadeList). m.forms) (sym (upto_made [] k fs (record { known = l; forms = gs }) e) ∙ make_all-is [] k fs)
    ∙ ap (λ (o : Table). map (numbered o) fs) (sym (made_table k l fs gs e))

-- Formulas in front, formulas of which only what they name is known, and formulas behind.
module _ (k l n m : Known) (fs ps bs : List Symbolic) (front behind : List Numbered)
    (in_front : make_upto [] k fs ≡ Some (record { known = l; forms = front }))
    (between : n.table ≡ naming_all l.table ps)
    (then_behind : make_upto [] n bs ≡ Some (record { known = m; forms = behind })) where
  pub grown : Extends n.table m.table
  grown = subst (λ (o : Table). Extends n.table o) (sym (made_table n m bs behind then_behind)) (naming_all-extends n.table bs)

  all_grown : Extends l.table m.table
  all_grown = extends-then l.table n.table m.table (subst (λ (o : Table). Extends l.table o) (sym between) (naming_all-extends l.table ps)) grown

  pub parts_table : m.table ≡ naming_all k.table (fs ++ (ps ++ bs))
  parts_table =
      made_table n m bs behind then_behind
      ∙ ap (λ (o : Table). naming_all o bs) between
      ∙ sym (naming_all-append l.table ps bs)
      ∙ ap (λ (o : Table). naming_all o (ps ++ bs)) (made_table k l fs front in_front)
      ∙ sym (naming_all-append k.table fs (ps ++ bs))

  front_forms : front ≡ map (numbered m.table) fs
  front_forms =
      made_forms k l fs front in_front
      ∙ sym (all_numbered-stay l.table m.table all_grown fs (subst (λ (o : Table). AllNamesIn o fs) (sym (made_table k l fs front in_front)) (naming_all-has k.table fs)))

  pub parts_forms : front ++ (map (numbered m.table) ps ++ behind) ≡ map (numbered m.table) (fs ++ (ps ++ bs))
  parts_forms =
      (λ i. front_forms i ++ (map (numbered m.table) ps ++ made_forms n m bs behind then_behind i))
      ∙ ap (λ (l : List Numbered). map (numbered m.table) fs ++ l) (sym (map-append (numbered m.table) ps bs))
      ∙ sym (map-append (numbered m.table) fs (ps ++ bs))

-- ---- pairs over a larger table

map_flat_map : (o : Table) (ss : List ReadingPairs) → flat_map (pair_forms o) ss ≡ map (numbered o) (flat_map pairs_of ss)
map_flat_map o [] = refl
map_flat_map o (s ∷ ss) = ap (λ (l : List Numbered). pair_forms o s ++ l) (map_flat_map o ss) ∙ sym (map-append (numbered o) (pairs_of s) (flat_map pairs_of ss))

numbers_stay : (t o : Table) (r : ℕ) (ts : List (List ℕ)) → Extends t o → readings_known t r ts ≡ true
    → map (λ u. number_of t (has_atom [] r u)) ts ≡ map (λ u. number_of o (has_atom [] r u)) ts
numbers_stay t o r [] e h = refl
numbers_stay t o r (u ∷ us) e h =
    let p = and_parts (has_number t (has_atom [] r u)) (readings_known t r us) h in
    let q = sym (e.atoms (has_atom [] r u) p.0).1 in
    let g = numbers_stay t o r us e p.1 in
    λ i. q i ∷ g i

pub readings_stay : (t o : Table) (r : ℕ) (ts : List (List ℕ)) → Extends t o → readings_known t r ts ≡ true → readings_known o r ts ≡ true
readings_stay t o r [] e h = refl
readings_stay t o r (u ∷ us) e h =
    let p = and_parts (has_number t (has_atom [] r u)) (readings_known t r us) h in
    and_from (has_number o (has_atom [] r u)) (readings_known o r us) (e.atoms (has_atom [] r u) p.0).0 (readings_stay t o r us e p.1)

pub numbered_stay : (t o : Table) (ss : List ReadingPairs) → Extends t o → AllNumbered t ss → AllNumbered o ss
numbered_stay t o [] e h = tt
numbered_stay t o (s ∷ ss) e h = (
  record {
    known = readings_stay t o s.relation s.tuples e h.0.known;
    numbers = h.0.numbers ∙ numbers_stay t o s.relation s.tuples e h.0.known;
  },
  numbered_stay t o ss e h.1,
)

pub numbered_stay_in : (t o : Table) (found : Option (List ReadingPairs)) → Extends t o → IfSome found (AllNumbered t) → IfSome found (AllNumbered o)
numbered_stay_in t o None e h = tt
numbered_stay_in t o (Some ss) e h = numbered_stay t o ss e h

named_stay : (t o : Table) (ss : List ReadingPairs) → Extends t o → AllNamed t ss → AllNamed o ss
named_stay t o [] e h = tt
named_stay t o (s ∷ ss) e h = (
  record {
    different = h.0.different;
    atoms = h.0.atoms ∙ numbers_stay t o s.relation s.tuples e h.0.known;
    known = readings_stay t o s.relation s.tuples e h.0.known;
    names = all_names_there o (pairs_of s) (all_names-stay t o e (pairs_of s) (all_names_in t (pairs_of s) h.0.names));
  },
  named_stay t o ss e h.1,
)

are_pairs : (o : Table) (ss : List ReadingPairs) → AllNamed o ss → ArePairs o ss
are_pairs o [] h = tt
are_pairs o (s ∷ ss) h = ((h.0.different, h.0.atoms), are_pairs o ss h.1)

-- ---- what pairs stand for

-- pairs of all these things stand for the formulas on equal readings
pub built_pairs : (qs : List Reading) (ss : List ReadingPairs) → AllBuilt qs ss → flat_map pairs_of ss ≡ congruence qs (map thing_of ss)
built_pairs qs [] h = refl
built_pairs qs (s ∷ ss) h =
    let p : pairs_of s ≡ congruent_pairs (thing_of s) (rising (filter (λ q. is_thing q.thing (thing_of s)) qs)) = ap (congruent_pairs (thing_of s)) h.0.tuples in
    let q = built_pairs qs ss h.1 in
    λ i. p i ++ q i

pub found_pairs : (o : Table) (qs : List Reading) (xs : List Thing) (ss : List ReadingPairs) → AreFound o qs xs ss → flat_map pairs_of ss ≡ congruence qs xs
found_pairs o qs xs ss h = built_pairs qs ss h.built ∙ ap (congruence qs) h.things

-- ---- the lazy ground problem

pub lazy_made : (d : Specification) (ob : Obligation) (l n m : Known) (rs cs : List Thing) (g : LazyGround)
    → g.sorts ≡ (constants_of d ob).sorts
    → g.calls ≡ calls_of d ob
    → g.elements ≡ (constants_of d ob).elements
    → IfSome g.part (λ p. p.size.formulas ≤ length g.front)
    → rs ++ cs ≡ things d
    → make_upto [] (numbered_arguments d ob) (front_of d ob) ≡ Some (record { known = l; forms = map form_of g.front })
    → flat_map pairs_of g.pairs ≡ congruence (entry_readings d ob) rs
    → n.table ≡ naming_all l.table (flat_map pairs_of g.pairs)
    → AllNamed n.table g.pairs
    → make_upto [] n (congruence (entry_readings d ob) cs) ≡ Some (record { known = m; forms = map form_of g.behind })
    → m ≡ g.atoms
    → length (formulas_of d ob) ≤ most_formulas
    → IsLazyGround d ob g
lazy_made d ob l n m rs cs g consts calls elements entry all in_front found between named then_behind same few =
    let k = numbered_arguments d ob in
    let fs = front_of d ob in
    let ps = flat_map pairs_of g.pairs in
    let bs = congruence (entry_readings d ob) cs in
    let over : AllNamed m.table g.pairs = named_stay n.table m.table g.pairs (grown k l n m fs ps bs _ _ in_front between then_behind) named in
    let whole : fs ++ (ps ++ bs) ≡ formulas_of d ob = ap (λ (x : List Symbolic). fs ++ (x ++ bs)) found ∙ three_parts d ob rs cs all in
    let table : m.table ≡ table_of d ob = parts_table k l n m fs ps bs _ _ in_front between then_behind ∙ ap (naming_all k.table) whole in
    let tables : g.atoms.table ≡ m.table = ap (λ (z : Known). z.table) (sym same) in
    record {
      few = few;
      consts = consts;
      calls = calls;
      elements = elements;
      table = tables ∙ table;
      forms =
          ap (λ (o : Table). map form_of g.front ++ (flat_map (pair_forms o) g.pairs ++ map form_of g.behind)) tables
          ∙ ap (λ (x : List Numbered). map form_of g.front ++ (x ++ map form_of g.behind)) (map_flat_map m.table g.pairs)
          ∙ parts_forms k l n m fs ps bs _ _ in_front between then_behind
          ∙ (λ i. map (numbered (table i)) (whole i));
      pairs = subst (λ (o : Table). ArePairs o g.pairs) (sym tables) (are_pairs m.table g.pairs over);
      named = subst (λ (o : Table). AllNamed o g.pairs) (sym tables) over;
      entry = entry;
    }

-- ---- the whole ground problem

-- formulas on equal readings of all things, after the front
pub whole_then : (d : Specification) (ob : Obligation) (r : Result (Unit {0}) GroundRefused) (f : Front) (rs : List NamedReading) (xs : List Thing) (new : Grounding)
    → IsFront d ob f → rs ≡ f.readings → xs ≡ things d → Appends r f.grounding (congruence (map reading_of rs) xs) new → Makes r (numbered_arguments d ob) (formulas_of d ob) new
whole_then d ob r f rs xs new is q e h =
    subst (λ (list : List Symbolic). Makes r (numbered_arguments d ob) list new) (front_then d ob)
    (makes_then r (numbered_arguments d ob) f.grounding new (front_of d ob) (congruence (entry_readings d ob) (things d)) is.made
    (subst (λ (qs : List Reading). Appends r f.grounding (congruence qs (things d)) new) (ap (map reading_of) q ∙ is.readings)
    (subst (λ (ys : List Thing). Appends r f.grounding (congruence (map reading_of rs) ys) new) e h)))

pub whole_refused : (d : Specification) (ob : Obligation) (why : GroundRefused) (new : Grounding)
    → Makes {A = Unit {0}} (Err why) (numbered_arguments d ob) (formulas_of d ob) new → IsGroundEither d ob (Err why)
whole_refused d ob TooMany new e = many_made (numbered_arguments d ob) (formulas_of d ob) e
whole_refused d ob Memory new e = tt

-- ---- the lazy one, of what is chosen

-- the entry's formulas are among those in front
part_within : (d : Specification) (ob : Obligation) (g : Grounding) (found : Option EntryPart) → IfSome found (HasPart d ob g) → IfSome found (λ p. p.size.formulas ≤ length g.formulas)
part_within d ob g None h = tt
part_within d ob g (Some p) h =
    let a = h.part.formulas in
    let b = ap length h.begins.is ∙ length-append h.forms h.begins.more in
    let c = length-map g.formulas form_of in
    omega (arith, a, b, c)

-- what is made of the front, the pairs and the formulas behind them
abbrev pub lazy_of : Front → List ReadingPairs → Grounding → LazyGround
lazy_of f ss behind = record {
  atoms = behind.atoms;
  front = f.grounding.formulas;
  pairs = ss;
  behind = behind.formulas;
  sorts = f.named.sorts;
  calls = f.named.calls;
  elements = f.named.elements;
  readings = f.readings;
  part = f.part;
}

pub lazy_from : (d : Specification) (ob : Obligation) (f : Front) (ss : List ReadingPairs) (xs ys : List Thing) (rs : List NamedReading) (mid : Known) (behind : Grounding)
    → length (formulas_of d ob) ≤ most_formulas → IsFront d ob f → AreFound f.grounding.atoms.table (map reading_of f.readings) xs ss → xs ++ ys ≡ things d → rs ≡ f.readings
    → mid.table ≡ naming_all f.grounding.atoms.table (flat_map pairs_of ss) → AllNamed mid.table ss
    → make_upto [] mid (congruence (map reading_of rs) ys) ≡ Some (made_in behind) → IsLazyGround d ob (lazy_of f ss behind)
lazy_from d ob f ss xs ys rs mid behind few is found all q between named made =
    lazy_made d ob f.grounding.atoms mid behind.atoms xs ys (lazy_of f ss behind)
    (ap (λ (z : Constants). z.sorts) is.constants)
    is.calls
    (ap (λ (z : Constants). z.elements) is.constants)
    (part_within d ob f.grounding f.part is.shared)
    all is.made
    (found_pairs f.grounding.atoms.table (map reading_of f.readings) xs ss found ∙ ap (λ (qs : List Reading). congruence qs xs) is.readings)
    between named
    (ap (λ (qs : List Reading). make_upto [] mid (congruence qs ys)) (sym (ap (map reading_of) q ∙ is.readings)) ∙ made)
    refl few
