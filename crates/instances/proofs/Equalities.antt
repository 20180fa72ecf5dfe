-- Equalities of constants that have numbers: a formula over them names nothing new.
use Rattle.std.proofs.Common.{◌≡◌, ℕ, true, List, [], ◌∷◌, ◌++◌, map, length, cond, None, refl, sym, ◌∙◌, ap}
use Rattle.std.specs.Prelude.{ltb, Result, Ok, Err}
use Rattle.ground_problem.specs.Symbols.{Symbolic, same}
use Rattle.ground_problem.specs.Problem.{most_formulas}
use Rattle.ground_problem.specs.Equality.{three_agree}
use Rattle.ground_numbers.specs.Numbered.{Numbered, known, literal, negation, conjunction, disjunction}
use Rattle.ground_numbers.specs.Numbers.{same_atom, has_number, number_of}
use Rattle.ground_numbers.proofs.Stepping.{with_atom-number}
use Rattle.ground_numbers.proofs.Growing.{with_atom-extends, with_atom-has}
use Rattle.ground_atoms.specs.Known.{Known, know_atom}
use Rattle.ground_atoms.specs.Making.{Made, make}
use Rattle.ground_atoms.specs.Formulas.{form_of}
use Rattle.ground_atoms.proofs.Same.{atom_stays}
use Rattle.ground_groups.specs.declared.grounding.Grounding.{Grounding}
use Rattle.ground_groups.specs.declared.refused.GroundRefused.{GroundRefused}
use Rattle.ground_groups.specs.declared.refused.GroundRefused.TheVariants.{TooMany, Memory}
use Rattle.ground_groups.specs.Limited.{make_upto, made_with, Appends}
use Rattle.instances.specs.Equalities.{HasNumber, AreNumbered}
use Rattle.instances.proofs.Triples.{where_two}

-- ---- numbers stay

-- the number of a literal
abbrev value : Numbered → ℕ
value (literal n b) = n
value (known b) = 0
value (negation f) = 0
value (conjunction f g) = 0
value (disjunction f g) = 0

-- what was numbered just now has its number
pub numbered_now : (k l : Known) (a b n : ℕ) → make k (same a b) ≡ record { known = l; form = literal n true } → HasNumber l a b n
numbered_now k l a b n e =
    let x = same_atom a b in
    let next : know_atom k x ≡ l = ap (λ (m : Made). m.known) e in
    let same_number : number_of k.table x ≡ n = ap (λ (m : Made). value m.form) e in (
      ap (λ (z : Known). has_number z.table x) (sym next) ∙ with_atom-has k.table x,
      sym same_number ∙ sym (with_atom-number k.table x) ∙ ap (λ (z : Known). number_of z.table x) next,
    )

-- and keeps it where another one is numbered
pub numbered_before : (k l : Known) (a b n c d m : ℕ) → HasNumber k a b n → make k (same c d) ≡ record { known = l; form = literal m true } → HasNumber l a b n
numbered_before k l a b n c d m h e =
    let x = same_atom a b in
    let next : know_atom k (same_atom c d) ≡ l = ap (λ (z : Made). z.known) e in
    let stays = (with_atom-extends k.table (same_atom c d)).atoms x h.0 in (
      ap (λ (z : Known). has_number z.table x) (sym next) ∙ stays.0,
      h.1 ∙ sym stays.1 ∙ ap (λ (z : Known). number_of z.table x) next,
    )

-- the equalities of three constants, numbered one after the other
pub three_numbered : (k l m o : Known) (a b c ab bc ac : ℕ)
    → make k (same a b) ≡ record { known = l; form = literal ab true } → make l (same b c) ≡ record { known = m; form = literal bc true } → make m (same a c) ≡ record { known = o; form = literal ac true }
    → AreNumbered o a b c ab bc ac
three_numbered k l m o a b c ab bc ac e f g = record {
  front = numbered_before m o a b ab a c ac (numbered_before l m a b ab b c bc (numbered_now k l a b ab e) f) g;
  back = numbered_before m o b c bc a c ac (numbered_now l m b c bc f) g;
  ends = numbered_now m o a c ac g;
}

-- ---- formulas over them

-- an equality that has a number, made
made_known : (k : Known) (a b n : ℕ) → HasNumber k a b n → make k (same a b) ≡ record { known = k; form = literal n true }
made_known k a b n h =
    ap (λ (z : Known). record { known = z; form = literal (number_of k.table (same_atom a b)) true }) (sym (atom_stays k (same_atom a b) h.0))
    ∙ ap (λ (p : ℕ). record { known = k; form = literal p true }) (sym h.1)

-- where two equalities are true, so is a third one, over their numbers
abbrev pub implied : ℕ → ℕ → ℕ → Numbered
implied p q r =
    disjunction (negation (conjunction (literal p true) (literal q true))) (literal r true)

-- such a formula, by what each of its three equalities makes
pub implied_made : (k l m o : Known) (a b c d e f p q r : ℕ)
    → make k (same a b) ≡ record { known = l; form = literal p true } → make l (same c d) ≡ record { known = m; form = literal q true } → make m (same e f) ≡ record { known = o; form = literal r true }
    → make k (where_two a b c d e f) ≡ record { known = o; form = implied p q r }
implied_made k l m o a b c d e f p q r x y z =
    ap
    (λ (s : Made). record { known = (make (make s.known (same c d)).known (same e f)).known; form = disjunction (negation (conjunction s.form (make s.known (same c d)).form)) (make (make s.known (same c d)).known (same e f)).form })
    x
    ∙ ap (λ (s : Made). record { known = (make s.known (same e f)).known; form = disjunction (negation (conjunction (literal p true) s.form)) (make s.known (same e f)).form }) y
    ∙ ap (λ (s : Made). record { known = s.known; form = disjunction (negation (conjunction (literal p true) (literal q true))) s.form }) z

-- over equalities that have numbers it names nothing new
pub implied_known : (k : Known) (a b c d e f p q r : ℕ) → HasNumber k a b p → HasNumber k c d q → HasNumber k e f r
    → make k (where_two a b c d e f) ≡ record { known = k; form = implied p q r }
implied_known k a b c d e f p q r x y z = implied_made k k k k a b c d e f p q r (made_known k a b p x) (made_known k c d q y) (made_known k e f r z)

-- ---- groundings that begin with them

-- numbering what the first of three formulas names, before it is made, changes nothing
pub numbered_first : {A : Type 0} (r : Result A GroundRefused) (old mid new : Grounding) (l m : Known) (a b c ab bc ac : ℕ)
    → old.formulas ≡ mid.formulas
    → make old.atoms (same a b) ≡ record { known = l; form = literal ab true } → make l (same b c) ≡ record { known = m; form = literal bc true } → make m (same a c) ≡ record { known = mid.atoms; form = literal ac true }
    → Appends r mid (three_agree a b c) new → Appends r old (three_agree a b c) new
numbered_first r old mid new l m a b c ab bc ac s e f g h = begun r h
  where
    there : AreNumbered mid.atoms a b c ab bc ac
    there = three_numbered old.atoms l m mid.atoms a b c ab bc ac e f g

    first : make old.atoms (where_two a b b c a c) ≡ make mid.atoms (where_two a b b c a c)
    first =
        implied_made old.atoms l m mid.atoms a b b c a c ab bc ac e f g
        ∙ sym (implied_known mid.atoms a b b c a c ab bc ac there.front there.back there.ends)

    rest : List Symbolic
    rest = where_two a b a c b c ∷ where_two a c b c a b ∷ []

    all : made_with old (three_agree a b c) ≡ made_with mid (three_agree a b c)
    all =
        ap (λ (fs : List Numbered). make_upto fs old.atoms (three_agree a b c)) (ap (map form_of) s)
        ∙ ap
        (λ (z : Made). cond (ltb (length (map form_of mid.formulas)) most_formulas) (make_upto (map form_of mid.formulas ++ z.form ∷ []) z.known rest) None)
        first

    begun : {A : Type 0} (r : Result A GroundRefused) → Appends r mid (three_agree a b c) new → Appends r old (three_agree a b c) new
    begun (Ok v) h = all ∙ h
    begun (Err TooMany) h = all ∙ h
    begun (Err Memory) h = tt
