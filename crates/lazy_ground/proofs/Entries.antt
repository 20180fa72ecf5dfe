-- The entry in what was made of it and more, which is left for the next obligation.
use Rattle.std.proofs.Common.{◌≡◌, ℕ, Some, None, Option, List, [], map, refl, sym, ◌∙◌, ap, subst}
use Rattle.std.specs.Prelude.{IfSome, IfOk, Result, Ok, Err}
use Rattle.std.specs.List.{flat_map}
use Rattle.spec_core.specs.Specification.{Specification}
use Rattle.spec_core.specs.declared.update.Thing.{Thing}
use Rattle.obligation_list.specs.declared.obligation.Obligation.{Obligation}
use Rattle.ground_problem.specs.Symbols.{Symbolic}
use Rattle.ground_problem.specs.Constants.{Constants, constants_of}
use Rattle.ground_problem.specs.Entry.{entry}
use Rattle.ground_problem.specs.Equality.{equality}
use Rattle.ground_problem.specs.Problem.{defined}
use Rattle.ground_atoms.specs.Known.{Known}
use Rattle.ground_atoms.specs.Formulas.{form_of}
use Rattle.ground_atoms.specs.Symbols.{reading_of}
use Rattle.ground_atoms.specs.declared.formula.GroundFormula.{GroundFormula}
use Rattle.ground_atoms.proofs.Cutting.{Begins, same_list, then_more, Grows, stays, grows_then}
use Rattle.ground_numbers.proofs.Growing.{Extends}
use Rattle.ground_groups.specs.Calls.{numbered_arguments}
use Rattle.ground_groups.specs.Limited.{make_upto, made_in, made_with}
use Rattle.ground_groups.specs.declared.refused.GroundRefused.{GroundRefused}
use Rattle.ground_groups.specs.declared.refused.GroundRefused.TheVariants.{TooMany, Memory}
use Rattle.ground_groups.proofs.Lists.{upto_then}
use Rattle.instances.specs.declared.entry.EntryPart.{EntryPart}
use Rattle.instances.specs.declared.entry.Begun.{Begun}
use Rattle.instances.specs.declared.grounding.Grounded.{Grounded}
use Rattle.instances.specs.Entry.{invariants_at, IsEntry, IsPart, IsBegun, IsBegunOr, entry_with, HasEntry, HasClausesOf}
use Rattle.instances.proofs.Shared.{upto_grows, upto_begins, entry_in, defined-begins, begun_refused}
use Rattle.lazy_ground.specs.declared.front.Front.{Front}
use Rattle.lazy_ground.specs.declared.pairs.ReadingPairs.{ReadingPairs}
use Rattle.lazy_ground.specs.declared.grounding.LazyGround.{LazyGround}
use Rattle.lazy_ground.specs.declared.grounding.EitherGround.{EitherGround}
use Rattle.lazy_ground.specs.declared.grounding.EitherGround.TheVariants as either
use Rattle.lazy_ground.specs.declared.grounding.Kept.{Kept}
use Rattle.lazy_ground.specs.Front.{front_of, HasPart, IsFront, ArePairsFor, IsFrontOr}
use Rattle.lazy_ground.specs.Pairs.{pairs_of, AllNumbered}
use Rattle.lazy_ground.specs.Named.{known_after, AreFound}
use Rattle.lazy_ground.specs.Kept.{AllBuilt, IsKept, HasLazyKept, HasKept, HasClauses, HasEitherClauses}
use Rattle.lazy_ground.proofs.Parts.{lazy_of, made_extends, numbered_stay}
use Rattle.ground_groups.specs.declared.grounding.Grounding.{Grounding}
use Rattle.lazy_ground.proofs.NamedAfter.{after_grows, numbered_after}

-- ---- the front

-- the front begins with what is true at the entry
front_begins : (d : Specification) (ob : Obligation) → Begins (entry d ob (constants_of d ob)) (front_of d ob)
front_begins d ob =
    let z = constants_of d ob in
    then_more (entry d ob z) (defined d ob z) _ (defined-begins d ob z) (record { more = equality 0 z.sorts; is = refl })

-- What is made of the entry stands first in what is made of the front.
pub front_shared : (d : Specification) (ob : Obligation) (b : Begun) (new : Grounding) → IsBegun d ob b
    → make_upto [] (numbered_arguments d ob) (front_of d ob) ≡ Some (made_in new)
    → IfSome b.part (HasPart d ob new)
front_shared d ob b new is e = by_part b.part is.shared
  where
    begins : Begins (entry d ob (constants_of d ob)) (front_of d ob)
    begins = front_begins d ob

    on : make_upto (map form_of b.grounding.formulas) b.grounding.atoms begins.more ≡ Some (made_in new)
    on = sym (upto_then [] (map form_of b.grounding.formulas) (numbered_arguments d ob) b.grounding.atoms (entry d ob (constants_of d ob)) begins.more is.made) ∙ ap (make_upto [] (numbered_arguments d ob)) (sym begins.is) ∙ e

    by_part : (found : Option EntryPart)
        → IfSome found (λ p. (entry d ob (constants_of d ob) ≡ invariants_at d (constants_of d ob).sorts) × IsPart (numbered_arguments d ob).table.ints b.grounding.atoms (map form_of b.grounding.formulas) p)
        → IfSome found (HasPart d ob new)
    by_part None h = tt
    by_part (Some p) h = record {
      known = b.grounding.atoms;
      forms = map form_of b.grounding.formulas;
      made = ap (make_upto [] (numbered_arguments d ob)) (sym h.0) ∙ is.made;
      part = h.1;
      grows = upto_grows (map form_of b.grounding.formulas) b.grounding.atoms begins.more (made_in new) on;
      begins = upto_begins (map form_of b.grounding.formulas) b.grounding.atoms begins.more (made_in new) on;
    }

-- What is made of the front has the numbers that there were at the entry.
pub front_extends : (d : Specification) (ob : Obligation) (b : Begun) (new : Grounding) → IsBegun d ob b
    → make_upto [] (numbered_arguments d ob) (front_of d ob) ≡ Some (made_in new)
    → Extends b.grounding.atoms.table new.atoms.table
front_extends d ob b new is e =
    let begins = front_begins d ob in
    made_extends (map form_of b.grounding.formulas) b.grounding.atoms new.atoms begins.more (map form_of new.formulas)
    (sym (upto_then [] (map form_of b.grounding.formulas) (numbered_arguments d ob) b.grounding.atoms (entry d ob (constants_of d ob)) begins.more is.made) ∙ ap (make_upto [] (numbered_arguments d ob)) (sym begins.is) ∙ e)

-- pairs of these readings, with their numbers
pub pairs_for : (f : Front) (found : Option (List ReadingPairs)) → IfSome found (AllBuilt (map reading_of f.readings)) → IfSome found (AllNumbered f.grounding.atoms.table) → IfSome found (ArePairsFor f)
pairs_for f None h k = tt
pairs_for f (Some ss) h k = (h, k)

pub built_for : (f : Front) (found : Option (List ReadingPairs)) → IfSome found (ArePairsFor f) → IfSome found (λ ss. AllBuilt (map reading_of f.readings) ss)
built_for f None h = tt
built_for f (Some ss) h = h.0

pub numbers_for : (f : Front) (found : Option (List ReadingPairs)) → IfSome found (ArePairsFor f) → IfSome found (AllNumbered f.grounding.atoms.table)
numbers_for f None h = tt
numbers_for f (Some ss) h = h.1

pub front_begun_refused : (d : Specification) (ob : Obligation) (why : GroundRefused) → IsBegunOr d ob (Err why) → IsFrontOr d ob (Err why)
front_begun_refused d ob TooMany h = begun_refused d ob TooMany h
front_begun_refused d ob Memory h = tt

-- ---- after the front

part_entry : (d : Specification) (ob : Obligation) (sorts : List ℕ) (old new : Grounding) (p : EntryPart) → sorts ≡ (constants_of d ob).sorts
    → HasPart d ob old p → Grows old.atoms new.atoms → Begins (map form_of old.formulas) (map form_of new.formulas) → IsEntry d (entry_with sorts new.atoms new.formulas p)
part_entry d ob sorts old new p e h g b =
    subst (λ (ss : List ℕ). IsEntry d (entry_with ss new.atoms new.formulas p)) (sym e)
    (entry_in d (constants_of d ob).sorts (numbered_arguments d ob) h.known new.atoms h.forms new.formulas p refl h.made h.part
    (grows_then h.known old.atoms new.atoms h.grows g) (then_more h.forms (map form_of old.formulas) (map form_of new.formulas) h.begins b))

parts_entry : (d : Specification) (ob : Obligation) (sorts : List ℕ) (old new : Grounding) (found : Option EntryPart) → sorts ≡ (constants_of d ob).sorts
    → IfSome found (HasPart d ob old) → Grows old.atoms new.atoms → Begins (map form_of old.formulas) (map form_of new.formulas) → IfSome found (λ p. IsEntry d (entry_with sorts new.atoms new.formulas p))
parts_entry d ob sorts old new None e h g b = tt
parts_entry d ob sorts old new (Some p) e h g b = part_entry d ob sorts old new p e h g b

-- the sorts of the constants
front_sorts : (d : Specification) (ob : Obligation) (f : Front) → IsFront d ob f → f.named.sorts ≡ (constants_of d ob).sorts
front_sorts d ob f is = ap (λ (z : Constants). z.sorts) is.constants

-- The entry stands first in the front.
pub front_entry : (d : Specification) (ob : Obligation) (f : Front) → IsFront d ob f → IfSome f.part (λ p. IsEntry d (entry_with f.named.sorts f.grounding.atoms f.grounding.formulas p))
front_entry d ob f is =
    parts_entry d ob f.named.sorts f.grounding f.grounding f.part (front_sorts d ob f is) is.shared (stays f.grounding.atoms) (same_list (map form_of f.grounding.formulas))

-- The entry stands first in the whole ground problem.
pub whole_entry : (d : Specification) (ob : Obligation) (f : Front) (fs : List Symbolic) (new : Grounding) → IsFront d ob f
    → made_with f.grounding fs ≡ Some (made_in new)
    → IfSome f.part (λ p. IsEntry d (entry_with f.named.sorts new.atoms new.formulas p))
whole_entry d ob f fs new is e =
    parts_entry d ob f.named.sorts f.grounding new f.part (front_sorts d ob f is) is.shared
    (upto_grows (map form_of f.grounding.formulas) f.grounding.atoms fs (made_in new) e)
    (upto_begins (map form_of f.grounding.formulas) f.grounding.atoms fs (made_in new) e)

-- So it does in the lazy one, whose pairs are those of its readings.
pub lazy_kept : (d : Specification) (ob : Obligation) (f : Front) (ss : List ReadingPairs) (xs : List Thing) (fs : List Symbolic) (mid : Known) (behind : Grounding)
    → IsFront d ob f → AreFound f.grounding.atoms.table (map reading_of f.readings) xs ss → mid ≡ known_after f.grounding.atoms (flat_map pairs_of ss)
    → make_upto [] mid fs ≡ Some (made_in behind) → HasLazyKept d (lazy_of f ss behind)
lazy_kept d ob f ss xs fs mid behind is found between made =
    let g = f.grounding in
    record {
      entry = parts_entry d ob f.named.sorts g (record { atoms = behind.atoms; formulas = g.formulas; alloc = g.alloc }) f.part (front_sorts d ob f is) is.shared
          (grows_then g.atoms mid behind.atoms (subst (Grows g.atoms) (sym between) (after_grows g.atoms (flat_map pairs_of ss)))
          (upto_grows [] mid fs (made_in behind) made)) (same_list (map form_of g.formulas));
      pairs = found.built;
      numbers = numbered_stay mid.table behind.atoms.table ss (made_extends [] mid behind.atoms fs (map form_of behind.formulas) made) (numbered_after g.atoms mid (flat_map pairs_of ss) ss between found.numbered);
    }

-- ---- what is left

pub entry_some : (d : Specification) (sorts : List ℕ) (atoms : Known) (formulas : List GroundFormula) (found : Option EntryPart) (p : EntryPart) → found ≡ Some p
    → IfSome found (λ q. IsEntry d (entry_with sorts atoms formulas q)) → IsEntry d (entry_with sorts atoms formulas p)
entry_some d sorts atoms formulas found p is h = subst (λ f. IfSome f (λ q. IsEntry d (entry_with sorts atoms formulas q))) is h

pub either_whole : (d : Specification) (e : EitherGround) (g : Grounded) → e ≡ either.Whole g → HasKept d e → HasEntry d g
either_whole d e g is h = subst (HasKept d) is h

pub either_lazy : (d : Specification) (e : EitherGround) (g : LazyGround) → e ≡ either.Lazy g → HasKept d e → HasLazyKept d g
either_lazy d e g is h = subst (HasKept d) is h

pub either_left : (d : Specification) (e : EitherGround) (k : Kept) → e ≡ either.TooMany k → HasKept d e → IsKept d k
either_left d e k is h = subst (HasKept d) is h

-- ---- the entry's clauses

lazy_clauses : (d : Specification) (g : LazyGround) → HasLazyKept d g → HasClauses g
lazy_clauses d g h = by_part g.part h.entry
  where
    by_part : (found : Option EntryPart) → IfSome found (λ p. IsEntry d (entry_with g.sorts g.atoms g.front p))
        → IfSome found (HasClausesOf (map form_of g.front))
    by_part None h = tt
    by_part (Some p) h = h.clauses

-- What can be taken back has the clauses of its entry.
pub kept_clauses : {E : Type 0} (d : Specification) (r : Result EitherGround E) → IfOk r (HasKept d) → IfOk r HasEitherClauses
kept_clauses d (Err e) h = tt
kept_clauses d (Ok (either.Whole g)) h = tt
kept_clauses d (Ok (either.Lazy g)) h = lazy_clauses d g h
kept_clauses d (Ok (either.TooMany k)) h = tt
