-- Numbering as it goes gives the numbers of the final table.
use Rattle.std.proofs.Common.{◌≡◌, ℕ, Bool, true, false, cond, List, [], ◌∷◌, ◌++◌, map, refl, sym, ◌∙◌, ap, append_assoc, append-nil}
use Rattle.std.specs.List.{position_or_len}
use Rattle.lin_rows.specs.declared.term.RowTerm.{RowTerm}
use Rattle.lin_rows.specs.Rows.{Row}
use Rattle.ground_problem.specs.Symbols.{Integer, Part, number, multiple, Symbolic, always, same, has, at_most, negated, both, either}
use Rattle.ground_numbers.specs.Numbered.{Numbered, literal, conjunction, disjunction}
use Rattle.ground_numbers.specs.Numbers.{Atom, same_atom, has_atom, row_atom, same_atoms, same_integers, Table, has_number, has_integer, number_of, integer_of, with_atom, with_integer, with_integers, signed, terms_of, bound_of, row_of, row_literal, numbered, with_row, with_sums, naming, naming_all}
use Rattle.ground_numbers.specs.Steps.{Terms, terms_after, Step, row_step, terms_step, at_most_step, negation_step, steps, steps_after}
use Rattle.ground_numbers.proofs.Lookups.{position-next, position-none}
use Rattle.ground_numbers.proofs.Sameness.{same_atoms-refl, same_integers-refl}
use Rattle.ground_numbers.proofs.Growing.{with_integers-extends, with_row-extends, naming-extends, naming_all-extends, with_integer-has, with_integers-has, with_sums-has, naming-has, terms-stay, row-stays, numbered-stays}

-- ---- an atom and a name get their numbers

pub with_atom-number : (t : Table) (a : Atom) → number_of (with_atom t a) a ≡ number_of t a
with_atom-number t a = by_test (has_number t a) refl
  where
    by_test : (c : Bool) → has_number t a ≡ c → position_or_len (same_atoms a) (cond c t.atoms (t.atoms ++ a ∷ [])) ≡ number_of t a
    by_test true e = refl
    by_test false e = position-next (same_atoms a) t.atoms a e (same_atoms-refl a) ∙ sym (position-none (same_atoms a) t.atoms e)

pub with_integer-number : (t : Table) (x : Integer) → integer_of (with_integer t x) x ≡ integer_of t x
with_integer-number t x = by_test (has_integer t x) refl
  where
    by_test : (c : Bool) → has_integer t x ≡ c → position_or_len (same_integers x) (cond c t.ints (t.ints ++ x ∷ [])) ≡ integer_of t x
    by_test true e = refl
    by_test false e = position-next (same_integers x) t.ints x e (same_integers-refl x) ∙ sym (position-none (same_integers x) t.ints e)

-- ---- sums

named_terms : Bool → Table → List RowTerm → List Part → Terms
named_terms s o done ps = record { table = with_integers o ps; terms = done ++ terms_of (with_integers o ps) s ps }

pub terms_after-is : (s : Bool) (o : Table) (done : List RowTerm) (ps : List Part) → terms_after s o done ps ≡ record { table = with_integers o ps; terms = done ++ terms_of (with_integers o ps) s ps }
terms_after-is s o done [] = ap (λ ts. record { table = o; terms = ts }) (sym (append-nil done))
terms_after-is s o done (number n ∷ ps) = terms_after-is s o done ps
terms_after-is s o done (multiple k x ∷ ps) =
    let p = with_integer o x in
    terms_after-is s p (done ++ record { place = integer_of o x; coef = signed s k } ∷ []) ps
    ∙ ap (λ ts. record { table = with_integers p ps; terms = ts }) (append_assoc done (record { place = integer_of o x; coef = signed s k } ∷ []) (terms_of (with_integers p ps) s ps))
    ∙ ap (λ (n : ℕ). record { table = with_integers p ps; terms = done ++ record { place = n; coef = signed s k } ∷ terms_of (with_integers p ps) s ps })
    (sym (((with_integers-extends p ps).ints x (with_integer-has o x)).1 ∙ with_integer-number o x))

-- ---- formulas

row_step-is : (o : Table) (ts : List RowTerm) (r : Row) → row_step o ts r ≡ record { table = with_row o ts r; form = row_literal (with_row o ts r) ts r }
row_step-is o [] r = refl
row_step-is o (t ∷ ts) r = ap (λ n. record { table = with_atom o (row_atom r); form = literal n true }) (sym (with_atom-number o (row_atom r)))

numbered_step : Table → Symbolic → Step
numbered_step o f = record { table = naming o f; form = numbered (naming o f) f }

-- A formula numbered as it goes has the numbers of the table then.
pub steps-is : (o : Table) (f : Symbolic) → steps o f ≡ record { table = naming o f; form = numbered (naming o f) f }
steps-is o (always b) = refl
steps-is o (same a b) = ap (λ n. record { table = with_atom o (same_atom a b); form = literal n true }) (sym (with_atom-number o (same_atom a b)))
steps-is o (has k r t) = ap (λ n. record { table = with_atom o (has_atom k r t); form = literal n true }) (sym (with_atom-number o (has_atom k r t)))
steps-is o (at_most t u n) =
    let p = with_integers o t in
    let q = with_sums o t u in
    let b = bound_of t u n in
    let r = row_of q t u n in
    let h = with_sums-has o t u in
    ap (λ a. at_most_step a u b) (terms_after-is true o [] t)
    ∙ ap (λ a. terms_step a b) (terms_after-is false p (terms_of p true t) u)
    ∙ ap (λ (ts : List RowTerm). terms_step (record { table = q; terms = ts ++ terms_of q false u }) b) (sym (terms-stay p q (with_integers-extends p u) true t (with_integers-has o t)))
    ∙ row_step-is q r.terms r
    ∙ ap (λ (z : Row). record { table = with_row q r.terms r; form = row_literal (with_row q r.terms r) z.terms z }) (sym (row-stays q (with_row q r.terms r) (with_row-extends q r.terms r) t u n h.0 h.1))
steps-is o (negated f) = ap negation_step (steps-is o f)
steps-is o (both f g) =
    let p = naming o f in
    ap (λ (a : Step). record { table = (steps a.table g).table; form = conjunction a.form (steps a.table g).form }) (steps-is o f)
    ∙ ap (λ (b : Step). record { table = b.table; form = conjunction (numbered p f) b.form }) (steps-is p g)
    ∙ ap (λ (z : Numbered). record { table = naming p g; form = conjunction z (numbered (naming p g) g) }) (sym (numbered-stays p (naming p g) (naming-extends p g) f (naming-has o f)))
steps-is o (either f g) =
    let p = naming o f in
    ap (λ (a : Step). record { table = (steps a.table g).table; form = disjunction a.form (steps a.table g).form }) (steps-is o f)
    ∙ ap (λ (b : Step). record { table = b.table; form = disjunction (numbered p f) b.form }) (steps-is p g)
    ∙ ap (λ (z : Numbered). record { table = naming p g; form = disjunction z (numbered (naming p g) g) }) (sym (numbered-stays p (naming p g) (naming-extends p g) f (naming-has o f)))

-- ---- lists of formulas

-- Formulas numbered as they come have the numbers of the final table.
pub steps_after-is : (done : List Numbered) (o : Table) (fs : List Symbolic) → steps_after done o fs ≡ record { table = naming_all o fs; forms = done ++ map (numbered (naming_all o fs)) fs }
steps_after-is done o [] = ap (λ gs. record { table = o; forms = gs }) (sym (append-nil done))
steps_after-is done o (f ∷ fs) =
    let p = naming o f in
    let q = naming_all p fs in
    ap (λ (a : Step). steps_after (done ++ a.form ∷ []) a.table fs) (steps-is o f)
    ∙ steps_after-is (done ++ numbered p f ∷ []) p fs
    ∙ ap (λ gs. record { table = q; forms = gs }) (append_assoc done (numbered p f ∷ []) (map (numbered q) fs))
    ∙ ap (λ (z : Numbered). record { table = q; forms = done ++ z ∷ map (numbered q) fs }) (sym (numbered-stays p q (naming_all-extends p fs) f (naming-has o f)))

-- formulas in two parts
pub steps_after-append : (done : List Numbered) (o : Table) (fs gs : List Symbolic) → steps_after done o (fs ++ gs) ≡ steps_after (steps_after done o fs).forms (steps_after done o fs).table gs
steps_after-append done o [] gs = refl
steps_after-append done o (f ∷ fs) gs = steps_after-append (done ++ (steps o f).form ∷ []) (steps o f).table fs gs
