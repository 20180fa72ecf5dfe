-- What is known once the equalities that pairs name have numbers: what would be known if their formulas were made.
use Rattle.std.proofs.Common.{◌≡◌, ℕ, suc, zero, ◌+◌, ◌<◌, ◌≤◌, true, List, [], ◌∷◌, ◌++◌, length, map, drop, drop-cons, get_or, min, refl, sym, ◌∙◌, ap, subst, arith}
use Rattle.std.specs.Prelude.{Result, Ok, Err, OnOk}
use Rattle.std.specs.List.{list_all, flat_map}
use Rattle.std.proofs.lemmas.Bool.{and_parts}
use Rattle.spec_core.specs.declared.update.Thing.{Thing}
use Rattle.spec_core.specs.declared.update.Thing.TheVariants as thing
use Rattle.ground_problem.specs.Symbols.{Symbolic, both, both_and, all_parts, same_const}
use Rattle.ground_problem.specs.Definitions.{Reading}
use Rattle.ground_problem.specs.Equality.{tuples_same, readings_same, congruent, congruent_pairs}
use Rattle.ground_numbers.specs.Numbered.{Numbered}
use Rattle.ground_numbers.specs.Numbers.{Table, has_atom, has_number, naming_all}
use Rattle.ground_numbers.proofs.Growing.{Extends, NamesIn, AllNamesIn, naming_all-extends, naming_all-has}
use Rattle.ground_atoms.specs.Known.{Known}
use Rattle.ground_atoms.specs.Making.{Made, make, make_all}
use Rattle.ground_atoms.specs.declared.formula.GroundFormula.{GroundFormula}
use Rattle.ground_atoms.specs.Formulas.{form_of}
use Rattle.ground_atoms.proofs.Numbering.{make-is}
use Rattle.ground_atoms.proofs.Cutting.{Grows, all_grows}
use Rattle.lazy_ground.specs.declared.pairs.ReadingPairs.{ReadingPairs}
use Rattle.lazy_ground.specs.Equal.{all_known, fits}
use Rattle.lazy_ground.specs.Pairs.{pairs_of, readings_known, AllNumbered}
use Rattle.lazy_ground.specs.Kept.{AllBuilt}
use Rattle.lazy_ground.specs.Named.{known_after, AllFit, AllNamed, columns_known}
use Rattle.lazy_ground.proofs.Stays.{made_there, names_apart, all_names-append, all_names_there}
use Rattle.lazy_ground.proofs.Tested.{pairs_named}
use Rattle.lazy_ground.proofs.Parts.{readings_stay, numbered_stay}

-- ---- what is known after formulas

after_made : (done : List Numbered) (k : Known) (fs : List Symbolic) → (make_all done k fs).known ≡ known_after k fs
after_made done k [] = refl
after_made done k (f ∷ fs) = after_made (done ++ (make k f).form ∷ []) (make k f).known fs

pub after_grows : (k : Known) (fs : List Symbolic) → Grows k (known_after k fs)
after_grows k fs = subst (Grows k) (after_made [] k fs) (all_grows [] k fs)

pub after_table : (k : Known) (fs : List Symbolic) → (known_after k fs).table ≡ naming_all k.table fs
after_table k [] = refl
after_table k (f ∷ fs) = after_table (make k f).known fs ∙ ap (λ (m : Made). naming_all m.known.table fs) (make-is k f)

pub after_extends : (k : Known) (fs : List Symbolic) → Extends k.table (known_after k fs).table
after_extends k fs = subst (Extends k.table) (sym (after_table k fs)) (naming_all-extends k.table fs)

after_append : (k : Known) (fs gs : List Symbolic) → known_after k (fs ++ gs) ≡ known_after (known_after k fs) gs
after_append k [] gs = refl
after_append k (f ∷ fs) gs = after_append (make k f).known fs gs

-- what has numbers is known already
after_there : (k : Known) (fs : List Symbolic) → AllNamesIn k.table fs → known_after k fs ≡ k
after_there k [] h = refl
after_there k (f ∷ fs) h = ap (λ (m : Made). known_after m.known fs) (made_there k f h.0) ∙ after_there k fs h.1

-- ---- two tuples

parts_known : (k : Known) (f : Symbolic) (gs : List Symbolic) → (make k (both_and f gs)).known ≡ known_after (make k f).known gs
parts_known k f [] = refl
parts_known k f (g ∷ gs) = parts_known k (both f g) gs

all_parts_known : (k : Known) (fs : List Symbolic) → (make k (all_parts fs)).known ≡ known_after k fs
all_parts_known k [] = refl
all_parts_known k (f ∷ fs) = parts_known k f fs

-- The formula of two tuples names their equality alone, where the readings have numbers.
pub pair_known : (k : Known) (r : ℕ) (t u : List ℕ) → has_number k.table (has_atom [] r t) ≡ true → has_number k.table (has_atom [] r u) ≡ true
    → known_after k (tuples_same t u) ≡ (make k (congruent (thing.Relation r) t u)).known
pair_known k r t u h g =
    let l : Known = known_after k (tuples_same t u) in
    let same = readings_same (thing.Relation r) t u in
    let x = after_extends k (tuples_same t u) in
    let p = (x.atoms (has_atom [] r t) h).0 in
    let q = (x.atoms (has_atom [] r u) g).0 in
    let there : NamesIn l.table same = ((p, q), (p, q)) in
    sym (ap (λ (z : Known). (make z same).known) (all_parts_known k (tuples_same t u)) ∙ ap (λ (m : Made). m.known) (made_there l same there))

-- the same, of a call that answers
pub pair_if : {A E : Type 0} (found : Result A E) (k new : Known) (r : ℕ) (t u : List ℕ) → has_number k.table (has_atom [] r t) ≡ true → has_number k.table (has_atom [] r u) ≡ true
    → OnOk found (new ≡ known_after k (tuples_same t u)) → OnOk found (new ≡ (make k (congruent (thing.Relation r) t u)).known)
pair_if (Ok v) k new r t u h g e = e ∙ pair_known k r t u h g
pair_if (Err w) k new r t u h g e = tt

-- the equalities of two tuples from a place on
abbrev pub places_after : Known → List ℕ → List ℕ → ℕ → Known
places_after k t u j = known_after k (tuples_same (drop j t) (drop j u))

pub place_after : (k new : Known) (t u : List ℕ) (j a b : ℕ) (f : GroundFormula) → j < length t → j < length u
    → make k (same_const (get_or t j a) (get_or u j b)) ≡ record { known = new; form = form_of f } → places_after k t u j ≡ places_after new t u (j + 1)
place_after k new t u j a b f h g made =
    let n : suc j ≡ j + 1 = omega arith in
    (λ i. known_after k (tuples_same (drop-cons t j a h i) (drop-cons u j b g i)))
    ∙ ap (λ (m : Made). known_after m.known (tuples_same (drop (suc j) t) (drop (suc j) u))) made
    ∙ (λ i. known_after new (tuples_same (drop (n i) t) (drop (n i) u)))

-- behind the end of one of them nothing is named
pub places_done : (k : Known) (t u : List ℕ) (j : ℕ) → min (length t) (length u) ≤ j → places_after k t u j ≡ k
places_done k [] [] zero h = refl
places_done k [] [] (suc j) h = refl
places_done k [] (y ∷ u) zero h = refl
places_done k [] (y ∷ u) (suc j) h = by_rest (drop j u)
  where
    by_rest : (us : List ℕ) → known_after k (tuples_same [] us) ≡ k
    by_rest [] = refl
    by_rest (y ∷ us) = refl
places_done k (x ∷ t) [] zero h = refl
places_done k (x ∷ t) [] (suc j) h = by_rest (drop j t)
  where
    by_rest : (ts : List ℕ) → known_after k (tuples_same ts []) ≡ k
    by_rest [] = refl
    by_rest (x ∷ ts) = refl
places_done k (x ∷ t) (y ∷ u) zero h = absurd (omega (arith, h))
places_done k (x ∷ t) (y ∷ u) (suc j) h = places_done k t u j (omega (arith, h))

-- ---- the tuples of a relation

pub reading_known : (o : Table) (r : ℕ) (ts : List (List ℕ)) (i : ℕ) → i < length ts → readings_known o r ts ≡ true → has_number o (has_atom [] r (get_or ts i [])) ≡ true
reading_known o r [] i b h = absurd (omega (arith, b))
reading_known o r (t ∷ ts) zero b h = (and_parts (has_number o (has_atom [] r t)) (readings_known o r ts) h).0
reading_known o r (t ∷ ts) (suc i) b h = reading_known o r ts i (omega (arith, b)) (and_parts (has_number o (has_atom [] r t)) (readings_known o r ts) h).1

-- numbers stay where more is known
pub readings_stay_after : (k new : Known) (fs : List Symbolic) (r : ℕ) (ts : List (List ℕ)) → new ≡ known_after k fs → readings_known k.table r ts ≡ true → readings_known new.table r ts ≡ true
readings_stay_after k new fs r ts e h = readings_stay k.table new.table r ts (subst (λ (z : Known). Extends k.table z.table) (sym e) (after_extends k fs)) h

-- a tuple with those from a place on
abbrev pub with_after : Known → Thing → List ℕ → List (List ℕ) → ℕ → Known
with_after k x t ts j = known_after k (map (congruent x t) (drop j ts))

pub with_next : (k new : Known) (x : Thing) (t : List ℕ) (ts : List (List ℕ)) (j : ℕ) → j < length ts → new ≡ (make k (congruent x t (get_or ts j []))).known
    → with_after k x t ts j ≡ with_after new x t ts (j + 1)
with_next k new x t ts j h e =
    let n : suc j ≡ j + 1 = omega arith in
    (λ i. known_after k (map (congruent x t) (drop-cons ts j [] h i)))
    ∙ ap (λ (z : Known). known_after z (map (congruent x t) (drop (suc j) ts))) (sym e)
    ∙ (λ i. known_after new (map (congruent x t) (drop (n i) ts)))

-- every two tuples from a place on
abbrev pub from_after : Known → Thing → List (List ℕ) → ℕ → Known
from_after k x ts i = known_after k (congruent_pairs x (drop i ts))

pub from_next : (k new : Known) (x : Thing) (ts : List (List ℕ)) (i : ℕ) → i < length ts → new ≡ known_after k (map (congruent x (get_or ts i [])) (drop (i + 1) ts))
    → from_after k x ts i ≡ from_after new x ts (i + 1)
from_next k new x ts i h e =
    let n : suc i ≡ i + 1 = omega arith in
    (λ j. known_after k (congruent_pairs x (drop-cons ts i [] h j)))
    ∙ (λ j. known_after k (map (congruent x (get_or ts i [])) (drop (n j) ts) ++ congruent_pairs x (drop (n j) ts)))
    ∙ after_append k (map (congruent x (get_or ts i [])) (drop (i + 1) ts)) (congruent_pairs x (drop (i + 1) ts))
    ∙ ap (λ (z : Known). from_after z x ts (i + 1)) (sym e)

-- ---- where the equalities of each two constants of a place have numbers

pub pairs_after_there : (k : Known) (s : ReadingPairs) → list_all (all_known k.table) s.columns ≡ true → list_all (fits s.columns) s.tuples ≡ true → readings_known k.table s.relation s.tuples ≡ true
    → known_after k (pairs_of s) ≡ k
pairs_after_there k s a b c = after_there k (pairs_of s) (pairs_named k.table s.relation s.columns s.tuples a b c)

all_pairs_named : (o : Table) (ss : List ReadingPairs) → columns_known o ss ≡ true → AllFit ss → AllNumbered o ss → AllNamesIn o (flat_map pairs_of ss)
all_pairs_named o [] c f n = tt
all_pairs_named o (s ∷ ss) c f n =
    let p = and_parts (list_all (all_known o) s.columns) (columns_known o ss) c in
    all_names-append o (pairs_of s) (flat_map pairs_of ss) (pairs_named o s.relation s.columns s.tuples p.0 f.0 n.0.known) (all_pairs_named o ss p.1 f.1 n.1)

pub all_after_there : (k : Known) (ss : List ReadingPairs) → columns_known k.table ss ≡ true → AllFit ss → AllNumbered k.table ss → known_after k (flat_map pairs_of ss) ≡ k
all_after_there k ss c f n = after_there k (flat_map pairs_of ss) (all_pairs_named k.table ss c f n)

-- ---- the pairs of all relations

abbrev pub all_after : Known → List ReadingPairs → ℕ → Known
all_after k ss i = known_after k (flat_map pairs_of (drop i ss))

pub drop_numbered : (o : Table) (ss : List ReadingPairs) (i : ℕ) (s : ReadingPairs) → i < length ss → s ≡ get_or ss i s → AllNumbered o (drop i ss) → AllFit (drop i ss)
    → (AllNumbered o (s ∷ drop (i + 1) ss)) × AllFit (s ∷ drop (i + 1) ss)
drop_numbered o ss i s h is n f =
    let e : suc i ≡ i + 1 = omega arith in
    let p : drop i ss ≡ s ∷ drop (i + 1) ss = drop-cons ss i s h ∙ (λ j. sym is j ∷ drop (e j) ss) in
    (subst (AllNumbered o) p n, subst AllFit p f)

pub numbered_after : (k new : Known) (fs : List Symbolic) (ss : List ReadingPairs) → new ≡ known_after k fs → AllNumbered k.table ss → AllNumbered new.table ss
numbered_after k new fs ss e h = numbered_stay k.table new.table ss (subst (λ (z : Known). Extends k.table z.table) (sym e) (after_extends k fs)) h

pub all_next : (k new : Known) (ss : List ReadingPairs) (i : ℕ) (s : ReadingPairs) → i < length ss → s ≡ get_or ss i s → new ≡ known_after k (pairs_of s) → all_after k ss i ≡ all_after new ss (i + 1)
all_next k new ss i s h is e =
    let n : suc i ≡ i + 1 = omega arith in
    let p : drop i ss ≡ s ∷ drop (i + 1) ss = drop-cons ss i s h ∙ (λ j. sym is j ∷ drop (n j) ss) in
    ap (λ (l : List ReadingPairs). known_after k (flat_map pairs_of l)) p
    ∙ after_append k (pairs_of s) (flat_map pairs_of (drop (i + 1) ss))
    ∙ ap (λ (z : Known). all_after z ss (i + 1)) (sym e)

-- ---- nothing is new then

pub fit_built : (qs : List Reading) (ss : List ReadingPairs) → AllBuilt qs ss → AllFit ss
fit_built qs [] h = tt
fit_built qs (s ∷ ss) h = (h.0.columns, fit_built qs ss h.1)

named_over : (qs : List Reading) (o : Table) (ss : List ReadingPairs) → AllBuilt qs ss → AllNumbered o ss → AllNamesIn o (flat_map pairs_of ss) → AllNamed o ss
named_over qs o [] b n h = tt
named_over qs o (s ∷ ss) b n h =
    let p = names_apart o (pairs_of s) (flat_map pairs_of ss) h in
    (record { different = b.0.different; atoms = n.0.numbers; known = n.0.known; names = all_names_there o (pairs_of s) p.0 }, named_over qs o ss b.1 n.1 p.1)

-- Once what pairs name has numbers, they name nothing new.
pub named_after : (qs : List Reading) (k new : Known) (ss : List ReadingPairs) → new ≡ known_after k (flat_map pairs_of ss) → AllBuilt qs ss → AllNumbered k.table ss → AllNamed new.table ss
named_after qs k new ss e b n =
    named_over qs new.table ss b (numbered_after k new (flat_map pairs_of ss) ss e n)
    (subst (λ (o : Table). AllNamesIn o (flat_map pairs_of ss)) (sym (ap (λ (z : Known). z.table) e ∙ after_table k (flat_map pairs_of ss))) (naming_all-has k.table (flat_map pairs_of ss)))
