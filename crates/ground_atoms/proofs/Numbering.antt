-- What is made while it is numbered: the numbers are those of the final table, and the readings are those of the formulas, each where it
-- is first named.
use Rattle.std.proofs.Common.{◌≡◌, ℕ, ◌==◌, Bool, true, false, cond, List, [], ◌∷◌, ◌++◌, length, map, filter, refl, sym, ◌∙◌, ap}
use Rattle.std.proofs.lemmas.List.{append-nil}
use Rattle.lin_rows.specs.declared.term.RowTerm.{RowTerm}
use Rattle.lin_rows.specs.Rows.{Row}
use Rattle.spec_core.specs.Specification.{Specification}
use Rattle.obligation_list.specs.declared.obligation.Obligation.{Obligation}
use Rattle.ground_problem.specs.Symbols.{Part, number, multiple, Symbolic, always, same, has, at_most, negated, both, either}
use Rattle.ground_problem.specs.Definitions.{Reading, readings_after}
use Rattle.ground_numbers.specs.Numbered.{Numbered, negation, conjunction, disjunction}
use Rattle.ground_numbers.specs.Numbers.{row_atom, Table, has_number, numbered, naming, naming_all, bound_of}
use Rattle.ground_numbers.specs.Steps.{Terms, terms_after, Step, steps, Steps, steps_after, row_step}
use Rattle.ground_numbers.specs.Problem.{arguments_of}
use Rattle.ground_numbers.proofs.Stepping.{terms_after-is, steps-is, steps_after-is}
use Rattle.ground_numbers.proofs.Meeting.{named_parts, named_by, named_by_all, readings_after-named}
use Rattle.ground_atoms.specs.Known.{Known, know_integer}
use Rattle.ground_atoms.specs.Making.{KnownTerms, make_terms, Made, make_row, make_sum, make_at_most, make, MadeList, make_all}

no_more : (b : Bool) (met : List Reading) → cond b met (met ++ []) ≡ met
no_more true met = refl
no_more false met = append-nil met

-- ---- sums

make_terms-is : (s : Bool) (k : Known) (done : List RowTerm) (ps : List Part)
    → make_terms s k done ps ≡ record { known = record { table = (terms_after s k.table done ps).table; named = named_parts k.table k.named ps }; terms = (terms_after s k.table done ps).terms }
make_terms-is s k done [] = refl
make_terms-is s k done (number n ∷ ps) = make_terms-is s k done ps
make_terms-is s k done (multiple c x ∷ ps) = make_terms-is s (know_integer k x) _ ps

make_row-is : (k : Known) (ts : List RowTerm) (r : Row) → make_row k ts r ≡ record { known = record { table = (row_step k.table ts r).table; named = k.named }; form = (row_step k.table ts r).form }
make_row-is k [] r = refl
make_row-is k (t ∷ ts) r = ap (λ n. record { known = record { table = (row_step k.table (t ∷ ts) r).table; named = n }; form = (row_step k.table (t ∷ ts) r).form }) (no_more (has_number k.table (row_atom r)) k.named)

-- ---- formulas

-- A formula is made with the numbers of its table, and names the readings that the formula names.
pub make-is : (k : Known) (f : Symbolic) → make k f ≡ record { known = record { table = naming k.table f; named = named_by k.table k.named f }; form = numbered (naming k.table f) f }
make-is k f = as_steps k f ∙ ap (λ (a : Step). record { known = record { table = a.table; named = named_by k.table k.named f }; form = a.form }) (steps-is k.table f)
  where
    as_steps : (k : Known) (f : Symbolic) → make k f ≡ record { known = record { table = (steps k.table f).table; named = named_by k.table k.named f }; form = (steps k.table f).form }
    as_steps k (always b) = refl
    as_steps k (same a b) = refl
    as_steps k (has s r t) = refl
    as_steps k (at_most t u n) =
        let a = terms_after true k.table [] t in
        let known_a : Known = record { table = a.table; named = named_parts k.table k.named t } in
        ap (λ (z : KnownTerms). make_at_most z u (bound_of t u n)) (make_terms-is true k [] t)
        ∙ ap (λ (z : KnownTerms). make_sum z (bound_of t u n)) (make_terms-is false known_a a.terms u)
        ∙ make_row-is _ _ _
        ∙ ap (λ (o : Table). record { known = record { table = (steps k.table (at_most t u n)).table; named = named_parts o (named_parts k.table k.named t) u }; form = (steps k.table (at_most t u n)).form }) (ap (λ (z : Terms). z.table) (terms_after-is true k.table [] t))
    as_steps k (negated f) = (let e = as_steps k f in ap (λ (a : Made). record { known = a.known; form = negation a.form }) e)
    as_steps k (both f g) =
        let o = (steps k.table f).table in
        let met = named_by k.table k.named f in
        let at : Known = record { table = o; named = met } in
        ap (λ (a : Made). record { known = (make a.known g).known; form = conjunction a.form (make a.known g).form }) (as_steps k f)
        ∙ ap (λ (b : Made). record { known = b.known; form = conjunction (steps k.table f).form b.form }) (as_steps at g)
        ∙ ap (λ (p : Table). record { known = record { table = (steps k.table (both f g)).table; named = named_by p met g }; form = (steps k.table (both f g)).form }) (ap (λ (a : Step). a.table) (steps-is k.table f))
    as_steps k (either f g) =
        let o = (steps k.table f).table in
        let met = named_by k.table k.named f in
        let at : Known = record { table = o; named = met } in
        ap (λ (a : Made). record { known = (make a.known g).known; form = disjunction a.form (make a.known g).form }) (as_steps k f)
        ∙ ap (λ (b : Made). record { known = b.known; form = disjunction (steps k.table f).form b.form }) (as_steps at g)
        ∙ ap (λ (p : Table). record { known = record { table = (steps k.table (either f g)).table; named = named_by p met g }; form = (steps k.table (either f g)).form }) (ap (λ (a : Step). a.table) (steps-is k.table f))

-- ---- lists of formulas

-- the table and the readings once a list is made
known_all : (done : List Numbered) (k : Known) (fs : List Symbolic) → make_all done k fs ≡ record { known = record { table = naming_all k.table fs; named = named_by_all k.table k.named fs }; forms = (steps_after done k.table fs).forms }
known_all done k [] = refl
known_all done k (f ∷ fs) =
    let m : Known = record { table = naming k.table f; named = named_by k.table k.named f } in
    ap (λ (a : Made). make_all (done ++ a.form ∷ []) a.known fs) (make-is k f)
    ∙ known_all (done ++ numbered (naming k.table f) f ∷ []) m fs
    ∙ ap (λ (a : Step). record { known = record { table = naming_all m.table fs; named = named_by_all m.table m.named fs }; forms = (steps_after (done ++ a.form ∷ []) a.table fs).forms }) (sym (steps-is k.table f))

-- Formulas that are made one after the other have the numbers of the final table.
pub make_all-is : (done : List Numbered) (k : Known) (fs : List Symbolic) → make_all done k fs ≡ record { known = record { table = naming_all k.table fs; named = named_by_all k.table k.named fs }; forms = done ++ map (numbered (naming_all k.table fs)) fs }
make_all-is done k fs = known_all done k fs ∙ ap (λ (a : Steps). record { known = record { table = naming_all k.table fs; named = named_by_all k.table k.named fs }; forms = a.forms }) (steps_after-is done k.table fs)

-- Where the arguments alone had numbers, the readings after so many calls are, in their order, those of that many among the named ones.
pub readings_after-made : (d : Specification) (ob : Obligation) (done : List Numbered) (n : ℕ) (list : List Symbolic)
    → readings_after n list ≡ filter (λ q. length q.stage == n) (make_all done (record { table = record { atoms = []; ints = arguments_of d ob }; named = [] }) list).known.named
readings_after-made d ob done n list = readings_after-named d ob n list ∙ ap (λ (a : MadeList). filter (λ q. length q.stage == n) a.known.named) (sym (make_all-is done (record { table = record { atoms = []; ints = arguments_of d ob }; named = [] }) list))
