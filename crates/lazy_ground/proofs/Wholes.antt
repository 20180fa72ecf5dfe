-- The whole ground problem, completed from the lazy one.
use Rattle.std.proofs.Common.{◌≡◌, ℕ, zero, suc, ◌<◌, ◌≤◌, Some, None, Option, Result, Ok, Err, List, [], ◌∷◌, length, map, take, drop, get_or, refl, sym, ◌∙◌, ap, subst, arith}
use Rattle.std.specs.Prelude.{IfSome, IfOk, OnOk}
use Rattle.std.proofs.lemmas.List.{length-map, take-append-le}
use Rattle.spec_core.specs.Specification.{Specification}
use Rattle.spec_core.specs.declared.update.Thing.{Thing}
use Rattle.spec_core.specs.declared.update.Thing.TheVariants as thing
use Rattle.obligation_list.specs.declared.obligation.Obligation.{Obligation}
use Rattle.ground_problem.specs.Symbols.{Symbolic}
use Rattle.ground_problem.specs.Equality.{congruent, congruent_pairs}
use Rattle.ground_numbers.specs.Numbered.{Numbered}
use Rattle.ground_numbers.specs.Numbers.{Table, numbered}
use Rattle.ground_numbers.proofs.Growing.{NamesIn}
use Rattle.ground_atoms.specs.Known.{Known}
use Rattle.ground_atoms.specs.Making.{Made, make}
use Rattle.ground_atoms.specs.Sizes.{cut_back}
use Rattle.ground_atoms.specs.Formulas.{form_of}
use Rattle.ground_atoms.specs.declared.formula.GroundFormula.{GroundFormula}
use Rattle.clausify.specs.Kept.{AreClausesOf}
use Rattle.instances.specs.declared.entry.EntryPart.{EntryPart}
use Rattle.instances.specs.Entry.{IsEntry, entry_with}
use Rattle.lazy_ground.specs.declared.pairs.ReadingPairs.{ReadingPairs}
use Rattle.lazy_ground.specs.declared.grounding.LazyGround.{LazyGround}
use Rattle.lazy_ground.specs.Pairs.{pairs_of, AllNumbered}
use Rattle.lazy_ground.specs.Lazy.{lazy_forms, IsLazyGround}
use Rattle.lazy_ground.specs.Named.{IsNamed}
use Rattle.lazy_ground.specs.Kept.{HasLazyKept, HasWholeKept}
use Rattle.lazy_ground.proofs.Stays.{made_there, all_names_in, pair_in}

-- ---- one formula

-- a formula that names nothing new is made, and what is known stays
formula_made : {E : Type 0} (k now : Known) (f : Symbolic) (r : Result GroundFormula E) → NamesIn k.table f → IfOk r (λ g. make k f ≡ record { known = now; form = form_of g })
    → OnOk r (now ≡ k) × IfOk r (λ g. form_of g ≡ numbered k.table f)
formula_made k now f (Err e) n h = (tt, tt)
formula_made k now f (Ok g) n h =
    let q = sym h ∙ made_there k f n in
    (ap (λ (m : Made). m.known) q, ap (λ (m : Made). m.form) q)

-- a member of a list is the same whatever stands behind its end
any_default : (xs : List (List ℕ)) (i : ℕ) (t u : List ℕ) → i < length xs → get_or xs i t ≡ get_or xs i u
any_default [] i t u h = absurd (omega (arith, h))
any_default (x ∷ xs) zero t u h = refl
any_default (x ∷ xs) (suc i) t u h = any_default xs i t u (omega (arith, h))

pub tuple_at : (xs ys : List (List ℕ)) (i : ℕ) (t v d : List ℕ) → t ≡ v → v ≡ get_or ys i d → ys ≡ xs → i < length xs → t ≡ get_or xs i []
tuple_at xs ys i t v d e is same h = e ∙ is ∙ ap (λ (us : List (List ℕ)). get_or us i d) same ∙ any_default xs i d [] h

-- the formula of the tuples at two places, of a relation whose pairs name nothing new
pub pair_made : {E : Type 0} (k now : Known) (s : ReadingPairs) (i j : ℕ) (t u : List ℕ) (r : Result GroundFormula E) → IsNamed k.table s → i < j → j < length s.tuples
    → t ≡ get_or s.tuples i [] → u ≡ get_or s.tuples j [] → IfOk r (λ g. make k (congruent (thing.Relation s.relation) t u) ≡ record { known = now; form = form_of g })
    → OnOk r (now ≡ k) × IfOk r (λ g. form_of g ≡ numbered k.table (congruent (thing.Relation s.relation) (get_or s.tuples i []) (get_or s.tuples j [])))
pair_made k now s i j t u r named a b p q h =
    formula_made k now (congruent (thing.Relation s.relation) (get_or s.tuples i []) (get_or s.tuples j [])) r
    (pair_in k.table (thing.Relation s.relation) s.tuples i j a b (all_names_in k.table (pairs_of s) named.names))
    (subst (λ (f : Symbolic). IfOk r (λ g. make k f ≡ record { known = now; form = form_of g })) (λ z. congruent (thing.Relation s.relation) (p z) (q z)) h)

-- ---- loops

-- the formulas of a tuple and those from a place on
abbrev pub forms_with : Table → Thing → List ℕ → List (List ℕ) → ℕ → List Numbered
forms_with o x t ts j = map (numbered o) (map (congruent x t) (drop j ts))

-- the formulas of every two tuples from a place on
abbrev pub forms_from : Table → Thing → List (List ℕ) → ℕ → List Numbered
forms_from o x ts i = map (numbered o) (congruent_pairs x (drop i ts))

-- ---- what is left for the next obligation

-- the entry stands first in more formulas
entry_longer : (d : Specification) (sorts : List ℕ) (atoms now : Known) (front new : List GroundFormula) (p : EntryPart) → now ≡ atoms → take p.size.formulas (map form_of new) ≡ take p.size.formulas (map form_of front)
    → IsEntry d (entry_with sorts atoms front p) → IsEntry d (entry_with sorts now new p)
entry_longer d sorts atoms now front new p same q h =
    subst (λ (k : Known). IsEntry d (entry_with sorts k new p)) (sym same)
    (record {
      made = h.made ∙ ap (λ (fs : List Numbered). Some (record { known = cut_back p.size.known atoms; forms = fs })) (sym q);
      clauses = subst (λ (fs : List Numbered). AreClausesOf fs p.clauses) (sym q) h.clauses;
    })

pub completed_kept : (d : Specification) (ob : Obligation) (g : LazyGround) (now : Known) (new : List GroundFormula) → IsLazyGround d ob g → now ≡ g.atoms → map form_of new ≡ lazy_forms g → HasLazyKept d g
    → HasWholeKept d (record { ground = record { consts = g.sorts; calls = g.calls; elements = g.elements; atoms = now; formulas = new; part = g.part }; pairs = record { readings = g.readings; pairs = g.pairs } })
completed_kept d ob g now new is same forms kept = record {
  entry = by_part g.part is.entry kept.entry;
  pairs = kept.pairs;
  numbers = subst (λ (k : Known). AllNumbered k.table g.pairs) (sym same) kept.numbers;
}
  where
    by_part : (found : Option EntryPart) → IfSome found (λ p. p.size.formulas ≤ length g.front) → IfSome found (λ p. IsEntry d (entry_with g.sorts g.atoms g.front p))
        → IfSome found (λ p. IsEntry d (entry_with g.sorts now new p))
    by_part None b h = tt
    by_part (Some p) b h =
        let n = length-map g.front form_of in
        entry_longer d g.sorts g.atoms now g.front new p same
        (ap (take p.size.formulas) forms ∙ take-append-le p.size.formulas (map form_of g.front) _ (omega (arith, b, n))) h
