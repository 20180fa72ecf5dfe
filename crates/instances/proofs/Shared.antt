-- What is made of the entry, and taken back from what was made after it.
use Rattle.std.proofs.Common.{◌≡◌, ℕ, Some, None, Option, true, List, [], ◌∷◌, ◌++◌, length, map, take, refl, sym, ◌∙◌, ap, subst, flat_map}
use Rattle.std.specs.Prelude.{IfSome, Result, Ok, Err}
use Rattle.std.specs.List.{list_all}
use Rattle.std.proofs.lemmas.List.{length-map}
use Rattle.std.proofs.lemmas.Bool.{and_from}
use Rattle.spec_core.specs.Specification.{Specification}
use Rattle.obligation_list.specs.declared.obligation.Obligation.{Obligation}
use Rattle.obligation_list.specs.Obligations.{things}
use Rattle.ground_problem.specs.Symbols.{Integer, Symbolic}
use Rattle.ground_problem.specs.Constants.{Constants, constants_of}
use Rattle.ground_problem.specs.Conclusion.{conclusion}
use Rattle.ground_problem.specs.Definitions.{definition, readings_after, with_definitions}
use Rattle.ground_problem.specs.Entry.{entry, before_conclusion, calls_ready, calls_free}
use Rattle.ground_problem.specs.Equality.{equality, congruence}
use Rattle.ground_problem.specs.Problem.{stated, defined, formulas_of}
use Rattle.obligation_list.specs.Breaking.{operations_of}
use Rattle.ground_numbers.specs.Numbered.{Numbered, is_below}
use Rattle.ground_numbers.specs.Numbers.{Table, numbered, naming_all}
use Rattle.ground_numbers.proofs.Growing.{AllNamesIn, naming_all-has, numbered-below}
use Rattle.ground_atoms.specs.Known.{Known}
use Rattle.ground_atoms.specs.Making.{MadeList}
use Rattle.ground_atoms.specs.Sizes.{size_of, cut_back}
use Rattle.ground_atoms.specs.Formulas.{form_of}
use Rattle.ground_atoms.specs.declared.formula.GroundFormula.{GroundFormula}
use Rattle.ground_atoms.proofs.Numbering.{make_all-is}
use Rattle.ground_atoms.proofs.Cutting.{Begins, then_more, front_of, Grows, grows_then, all_grows, forms_begin, cut-grown}
use Rattle.clausify.specs.Kept.{AreClausesOf}
use Rattle.ground_groups.specs.Calls.{numbered_arguments}
use Rattle.ground_groups.specs.Limited.{make_upto, made_in, made_with, Appends}
use Rattle.ground_groups.proofs.Lists.{upto_then, upto_none, upto_made}
use Rattle.instances.specs.declared.entry.Entry.{Entry}
use Rattle.instances.specs.declared.entry.EntryPart.{EntryPart}
use Rattle.instances.specs.declared.entry.Begun.{Begun}
use Rattle.instances.specs.declared.grounding.Grounded.{Grounded}
use Rattle.ground_groups.specs.declared.grounding.Grounding.{Grounding}
use Rattle.ground_groups.specs.declared.refused.GroundRefused.{GroundRefused}
use Rattle.ground_groups.specs.declared.refused.GroundRefused.TheVariants.{TooMany, Memory}
use Rattle.instances.specs.Ground.{IsGround}
use Rattle.instances.proofs.Whole.{many_made}
use Rattle.instances.specs.Entry.{invariants_at, known_from, HasClausesOf, IsEntry, IsPart, IsShared, IsSharedOr, IsBegun, IsBegunOr, entry_with, HasEntry, HasEntryClauses}

-- ---- made on

-- What is made on grows.
pub upto_grows : (so_far : List Numbered) (k : Known) (fs : List Symbolic) (m : MadeList) → make_upto so_far k fs ≡ Some m → Grows k m.known
upto_grows so_far k fs m e = subst (λ (z : MadeList). Grows k z.known) (upto_made so_far k fs m e) (all_grows so_far k fs)

-- and its formulas stand behind those that were there
pub upto_begins : (so_far : List Numbered) (k : Known) (fs : List Symbolic) (m : MadeList) → make_upto so_far k fs ≡ Some m → Begins so_far m.forms
upto_begins so_far k fs m e = subst (λ (z : MadeList). Begins so_far z.forms) (upto_made so_far k fs m e) (forms_begin so_far k fs)

-- The atoms of formulas that are made are those that are known.
all-below : (o : Table) (fs : List Symbolic) → AllNamesIn o fs → list_all (is_below (length o.atoms)) (map (numbered o) fs) ≡ true
all-below o [] h = refl
all-below o (f ∷ fs) h = and_from (is_below (length o.atoms) (numbered o f)) _ (numbered-below o f h.0) (all-below o fs h.1)

pub upto_below : (k l : Known) (fs : List Symbolic) (forms : List Numbered) → make_upto [] k fs ≡ Some (record { known = l; forms = forms })
    → list_all (is_below (length l.table.atoms)) forms ≡ true
upto_below k l fs forms e =
    subst (λ (m : MadeList). list_all (is_below (length m.known.table.atoms)) m.forms ≡ true)
    (sym (make_all-is [] k fs) ∙ upto_made [] k fs (record { known = l; forms = forms }) e)
    (all-below (naming_all k.table fs) fs (naming_all-has k.table fs))

-- So it is with formulas that a call appends to none.
pub made_below : {A : Type 0} (r : Result A GroundRefused) (value : A) (old new : Grounding) (fs : List Symbolic)
    → r ≡ Ok value → old.formulas ≡ [] → Appends r old fs new → list_all (is_below (length new.atoms.table.atoms)) (map form_of new.formulas) ≡ true
made_below r value old new fs ok none made =
    let there : made_with old fs ≡ Some (made_in new) = subst (λ z. Appends z old fs new) ok made in
    upto_below old.atoms new.atoms fs (map form_of new.formulas) (ap (λ (z : List GroundFormula). make_upto (map form_of z) old.atoms fs) (sym none) ∙ there)

-- ---- an entry that is cut back

-- what is left of a part where its entry is cut back
abbrev IsCut : Entry → Begun → EntryPart → Type 0
IsCut e b p = (p.size.arguments ≡ e.part.size.arguments) × (p.size.known ≡ size_of b.grounding.atoms) × (p.size.formulas ≡ length b.grounding.formulas) × (p.clauses ≡ e.part.clauses)

pub cut_shared : (d : Specification) (e : Entry) (k : Known) (sorts : List ℕ) (b : Begun) → IsEntry d e → k ≡ known_from k.table.ints → e.sorts ≡ sorts
    → e.part.size.arguments ≡ length k.table.ints → take (length k.table.ints) e.atoms.table.ints ≡ k.table.ints
    → b.grounding.atoms ≡ cut_back e.part.size.known e.atoms → map form_of b.grounding.formulas ≡ take e.part.size.formulas (map form_of e.formulas) → IfSome b.part (IsCut e b) → IsShared d k sorts b
cut_shared d e k sorts b is start same count arguments atoms forms part = record { made = made; part = by_part b.part part }
  where
    ints : take e.part.size.arguments e.atoms.table.ints ≡ k.table.ints
    ints = ap (λ (n : ℕ). take n e.atoms.table.ints) count ∙ arguments

    made : make_upto [] k (invariants_at d sorts) ≡ Some (record { known = b.grounding.atoms; forms = map form_of b.grounding.formulas })
    made =
        ap (λ (z : Known). make_upto [] z (invariants_at d sorts)) start
        ∙ ap (λ (xs : List Integer). make_upto [] (known_from xs) (invariants_at d sorts)) (sym ints)
        ∙ ap (λ (xs : List ℕ). make_upto [] (known_from (take e.part.size.arguments e.atoms.table.ints)) (invariants_at d xs)) (sym same)
        ∙ is.made ∙ (λ i. Some (record { known = sym atoms i; forms = sym forms i }))

    by_part : (found : Option EntryPart) → IfSome found (IsCut e b) → IfSome found (IsPart k.table.ints b.grounding.atoms (map form_of b.grounding.formulas))
    by_part None h = tt
    by_part (Some p) h = record {
      arguments = h.0 ∙ count;
      known = h.1;
      formulas = h.2 ∙ sym (length-map b.grounding.formulas form_of);
      clauses = subst (λ (z : List Numbered). AreClausesOf z p.clauses) (sym forms) (subst (AreClausesOf (take e.part.size.formulas (map form_of e.formulas))) (sym h.3) is.clauses);
    }

-- ---- an entry in what was made on from it

-- Of what was made of the invariants alone, and then made on, the entry can be taken back.
pub entry_in : (d : Specification) (sorts : List ℕ) (k l now : Known) (fs : List Numbered) (new : List GroundFormula) (p : EntryPart)
    → k ≡ known_from k.table.ints → make_upto [] k (invariants_at d sorts) ≡ Some (record { known = l; forms = fs })
    → IsPart k.table.ints l fs p → Grows l now → Begins fs (map form_of new) → IsEntry d (entry_with sorts now new p)
entry_in d sorts k l now fs new p start made part grows begins =
    let from : Grows k now = grows_then k l now (upto_grows [] k (invariants_at d sorts) (record { known = l; forms = fs }) made) grows in
    let ints : take p.size.arguments now.table.ints ≡ k.table.ints = ap (λ n. take n now.table.ints) part.arguments ∙ front_of k.table.ints now.table.ints from.ints in
    let known : cut_back p.size.known now ≡ l = ap (λ n. cut_back n now) part.known ∙ cut-grown l now grows in
    let forms : take p.size.formulas (map form_of new) ≡ fs = ap (λ n. take n (map form_of new)) part.formulas ∙ front_of fs (map form_of new) begins in
    record {
      made = ap (λ (xs : List Integer). make_upto [] (known_from xs) (invariants_at d sorts)) ints
          ∙ ap (λ (z : Known). make_upto [] z (invariants_at d sorts)) (sym start)
          ∙ made
          ∙ (λ i. Some (record { known = sym known i; forms = sym forms i }));
      clauses = subst (λ (zs : List Numbered). AreClausesOf zs p.clauses) (sym forms) part.clauses;
    }

-- An entry that can be taken back has its clauses.
pub entry_clauses : (d : Specification) (g : Grounded) → HasEntry d g → HasEntryClauses g
entry_clauses d g h = by_part g.part h
  where
    by_part : (found : Option EntryPart) → IfSome found (λ p. IsEntry d (entry_with g.consts g.atoms g.formulas p)) → IfSome found (HasClausesOf (map form_of g.formulas))
    by_part None k = tt
    by_part (Some p) k = k.clauses

-- ---- the entry stands first

-- The formulas of an obligation begin with what is true at the entry.
pub defined-begins : (d : Specification) (ob : Obligation) (z : Constants) → Begins (entry d ob z) (defined d ob z)
defined-begins d ob z =
    let rest = calls_ready d z 0 (operations_of ob) z.chosen ++ calls_free d z (operations_of ob) in
    let second = with_definitions d ob z 2 (stated d ob z) in
    then_more (entry d ob z) (before_conclusion d ob z) _ (record { more = rest; is = refl })
    (then_more (before_conclusion d ob z) (stated d ob z) _ (record { more = conclusion d ob z; is = refl })
    (then_more (stated d ob z) second _ (record { more = flat_map (definition d ob z) (readings_after 2 (stated d ob z)); is = refl })
    (record { more = flat_map (definition d ob z) (readings_after 1 second); is = refl })))

pub formulas-begin : (d : Specification) (ob : Obligation) → Begins (entry d ob (constants_of d ob)) (formulas_of d ob)
formulas-begin d ob =
    let z = constants_of d ob in
    then_more (entry d ob z) (defined d ob z) _ (defined-begins d ob z)
    (record { more = equality 0 z.sorts ++ congruence (readings_after 0 (defined d ob z)) (things d); is = refl })

-- Of what was made of a list that begins with what is true at the entry, the entry can be taken back.
pub entry_of : (d : Specification) (ob : Obligation) (b : Begun) (all : List Symbolic) (now : Known) (new : List GroundFormula)
    → IsBegun d ob b → Begins (entry d ob (constants_of d ob)) all
    → make_upto [] (numbered_arguments d ob) all ≡ Some (record { known = now; forms = map form_of new })
    → IfSome b.part (λ p. IsEntry d (entry_with (constants_of d ob).sorts now new p))
entry_of d ob b all now new is begins e = by_part b.part is.shared
  where
    z : Constants
    z = constants_of d ob

    on : make_upto (map form_of b.grounding.formulas) b.grounding.atoms begins.more ≡ Some (record { known = now; forms = map form_of new })
    on = sym (upto_then [] (map form_of b.grounding.formulas) (numbered_arguments d ob) b.grounding.atoms (entry d ob z) begins.more is.made) ∙ ap (make_upto [] (numbered_arguments d ob)) (sym begins.is) ∙ e

    by_part : (found : Option EntryPart)
        → IfSome found (λ p. (entry d ob z ≡ invariants_at d z.sorts) × IsPart (numbered_arguments d ob).table.ints b.grounding.atoms (map form_of b.grounding.formulas) p)
        → IfSome found (λ p. IsEntry d (entry_with z.sorts now new p))
    by_part None h = tt
    by_part (Some p) h =
        entry_in d z.sorts (numbered_arguments d ob) b.grounding.atoms now (map form_of b.grounding.formulas) new p refl
        (ap (make_upto [] (numbered_arguments d ob)) (sym h.0) ∙ is.made) h.1
        (upto_grows (map form_of b.grounding.formulas) b.grounding.atoms begins.more (record { known = now; forms = map form_of new }) on)
        (upto_begins (map form_of b.grounding.formulas) b.grounding.atoms begins.more (record { known = now; forms = map form_of new }) on)

-- ---- what is begun

-- What was made of the invariants at these constants is what is true at the entry of an obligation that asks for them.
pub begun_from : (d : Specification) (ob : Obligation) (k : Known) (sorts : List ℕ) (r : Result Begun GroundRefused)
    → k ≡ numbered_arguments d ob → sorts ≡ (constants_of d ob).sorts
    → entry d ob (constants_of d ob) ≡ invariants_at d (constants_of d ob).sorts → IsSharedOr d k sorts r → IsBegunOr d ob r
begun_from d ob k sorts (Ok b) a s e h =
    record { made = start h.made; shared = with_part b.part (subst (λ (l : Known). IfSome b.part (IsPart l.table.ints b.grounding.atoms (map form_of b.grounding.formulas))) a h.part) }
  where
    z : Constants
    z = constants_of d ob

    start : {m : Option MadeList} → make_upto [] k (invariants_at d sorts) ≡ m → make_upto [] (numbered_arguments d ob) (entry d ob z) ≡ m
    start h = ap (make_upto [] (numbered_arguments d ob)) e ∙ ap (λ (xs : List ℕ). make_upto [] (numbered_arguments d ob) (invariants_at d xs)) (sym s)
        ∙ ap (λ (l : Known). make_upto [] l (invariants_at d sorts)) (sym a) ∙ h

    with_part : (found : Option EntryPart) → IfSome found (IsPart (numbered_arguments d ob).table.ints b.grounding.atoms (map form_of b.grounding.formulas))
        → IfSome found (λ p. (entry d ob z ≡ invariants_at d z.sorts) × IsPart (numbered_arguments d ob).table.ints b.grounding.atoms (map form_of b.grounding.formulas) p)
    with_part None g = tt
    with_part (Some p) g = (e, g)
begun_from d ob k sorts (Err TooMany) a s e h =
    ap (make_upto [] (numbered_arguments d ob)) e ∙ ap (λ (xs : List ℕ). make_upto [] (numbered_arguments d ob) (invariants_at d xs)) (sym s)
    ∙ ap (λ (l : Known). make_upto [] l (invariants_at d sorts)) (sym a) ∙ h
begun_from d ob k sorts (Err Memory) a s e h = tt

-- Where what is true at the entry has too many formulas, the whole list has.
pub begun_refused : (d : Specification) (ob : Obligation) (why : GroundRefused) → IsBegunOr d ob (Err why) → IsGround d ob (Err why)
begun_refused d ob TooMany h =
    let b = formulas-begin d ob in
    many_made (numbered_arguments d ob) (formulas_of d ob)
    (ap (make_upto [] (numbered_arguments d ob)) b.is ∙ upto_none [] (numbered_arguments d ob) (entry d ob (constants_of d ob)) b.more h)
begun_refused d ob Memory h = tt
