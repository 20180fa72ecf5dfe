-- Numbering appends: what is known after some formulas, cut back to its size before them, is what was known before.
use Rattle.std.proofs.Common.{◌≡◌, Bool, true, false, cond, List, [], ◌∷◌, ◌++◌, length, map, take, append_assoc, refl, sym, ◌∙◌, ap}
use Rattle.std.proofs.Math.Seq.{take-append_seam}
use Rattle.std.proofs.lemmas.List.{append-nil, length-map, take-map}
use Rattle.lin_rows.specs.declared.term.RowTerm.{RowTerm}
use Rattle.lin_rows.specs.Rows.{Row}
use Rattle.ground_problem.specs.Symbols.{Integer, Part, number, multiple, Symbolic, always, same, has, at_most, negated, both, either}
use Rattle.ground_problem.specs.Definitions.{reading_of_integer}
use Rattle.ground_numbers.specs.Numbered.{Numbered}
use Rattle.ground_numbers.specs.Numbers.{Atom, same_atom, has_atom, row_atom, has_number, has_integer}
pub use Rattle.ground_atoms.specs.Staying.{Begins, Grows}
use Rattle.ground_atoms.specs.Known.{Known, reading_of_atom, know_atom, know_integer}
use Rattle.ground_atoms.specs.Making.{make_terms, make_row, make, MadeList, make_all}
use Rattle.ground_atoms.specs.Sizes.{size_of, cut_back}

-- ---- lists that begin with others

pub same_list : {A : Type 0} (xs : List A) → Begins xs xs
same_list xs = record { more = []; is = sym (append-nil xs) }

pub then_more : {A : Type 0} (xs ys zs : List A) → Begins xs ys → Begins ys zs → Begins xs zs
then_more xs ys zs p q = record {
  more = p.more ++ q.more;
  is = q.is ∙ ap (λ l. l ++ q.more) p.is ∙ append_assoc xs p.more q.more;
}

pub unless : {A : Type 0} (b : Bool) (xs more : List A) → Begins xs (cond b xs (xs ++ more))
unless true xs more = same_list xs
unless false xs more = record { more = more; is = refl }

pub front_of : {A : Type 0} (xs ys : List A) → Begins xs ys → take (length xs) ys ≡ xs
front_of xs ys p = ap (take (length xs)) p.is ∙ take-append_seam xs p.more

-- ---- what is known

pub stays : (k : Known) → Grows k k
stays k = record { atoms = same_list k.table.atoms; ints = same_list k.table.ints; named = same_list k.named }

pub grows_then : (k l m : Known) → Grows k l → Grows l m → Grows k m
grows_then k l m p q = record {
  atoms = then_more k.table.atoms l.table.atoms m.table.atoms p.atoms q.atoms;
  ints = then_more k.table.ints l.table.ints m.table.ints p.ints q.ints;
  named = then_more k.named l.named m.named p.named q.named;
}

atom_grows : (k : Known) (a : Atom) → Grows k (know_atom k a)
atom_grows k a = record {
  atoms = unless (has_number k.table a) k.table.atoms (a ∷ []);
  ints = same_list k.table.ints;
  named = unless (has_number k.table a) k.named (reading_of_atom a);
}

integer_grows : (k : Known) (x : Integer) → Grows k (know_integer k x)
integer_grows k x = record {
  atoms = same_list k.table.atoms;
  ints = unless (has_integer k.table x) k.table.ints (x ∷ []);
  named = unless (has_integer k.table x) k.named (reading_of_integer x);
}

terms_grow : (s : Bool) (k : Known) (done : List RowTerm) (ps : List Part) → Grows k (make_terms s k done ps).known
terms_grow s k done [] = stays k
terms_grow s k done (number n ∷ ps) = terms_grow s k done ps
terms_grow s k done (multiple c x ∷ ps) = grows_then k (know_integer k x) _ (integer_grows k x) (terms_grow s (know_integer k x) _ ps)

row_grows : (k : Known) (ts : List RowTerm) (r : Row) → Grows k (make_row k ts r).known
row_grows k [] r = stays k
row_grows k (t ∷ ts) r = atom_grows k (row_atom r)

make-grows : (k : Known) (f : Symbolic) → Grows k (make k f).known
make-grows k (always b) = stays k
make-grows k (same a b) = atom_grows k (same_atom a b)
make-grows k (has s r t) = atom_grows k (has_atom s r t)
make-grows k (at_most t u n) =
    let a = make_terms true k [] t in
    let b = make_terms false a.known a.terms u in
    grows_then k a.known _ (terms_grow true k [] t)
    (grows_then a.known b.known _ (terms_grow false a.known a.terms u) (row_grows b.known _ _))
make-grows k (negated f) = make-grows k f
make-grows k (both f g) = grows_then k (make k f).known _ (make-grows k f) (make-grows (make k f).known g)
make-grows k (either f g) = grows_then k (make k f).known _ (make-grows k f) (make-grows (make k f).known g)

pub all_grows : (done : List Numbered) (k : Known) (fs : List Symbolic) → Grows k (make_all done k fs).known
all_grows done k [] = stays k
all_grows done k (f ∷ fs) = grows_then k (make k f).known _ (make-grows k f) (all_grows (done ++ (make k f).form ∷ []) (make k f).known fs)

pub forms_begin : (done : List Numbered) (k : Known) (fs : List Symbolic) → Begins done (make_all done k fs).forms
forms_begin done k [] = same_list done
forms_begin done k (f ∷ fs) =
    then_more done (done ++ (make k f).form ∷ []) _ (record { more = (make k f).form ∷ []; is = refl })
    (forms_begin (done ++ (make k f).form ∷ []) (make k f).known fs)

-- ---- cut back

pub cut-grown : (k l : Known) → Grows k l → cut_back (size_of k) l ≡ k
cut-grown k l p =
    let a = front_of k.table.atoms l.table.atoms p.atoms in
    let b = front_of k.table.ints l.table.ints p.ints in
    let c = front_of k.named l.named p.named in
    λ i. record { table = record { atoms = a i; ints = b i }; named = c i }

-- What is known after some formulas, cut back to the size before them, is what was known before.
pub cut-made : (done : List Numbered) (k : Known) (fs : List Symbolic) (m : MadeList) → make_all done k fs ≡ m → cut_back (size_of k) m.known ≡ k
cut-made done k fs m e = ap (λ (z : MadeList). cut_back (size_of k) z.known) (sym e) ∙ cut-grown k (make_all done k fs).known (all_grows done k fs)

-- The first formulas are those that were there before.
pub forms-made : (done : List Numbered) (k : Known) (fs : List Symbolic) (m : MadeList) → make_all done k fs ≡ m → take (length done) m.forms ≡ done
forms-made done k fs m e = ap (λ (z : MadeList). take (length done) z.forms) (sym e) ∙ front_of done (make_all done k fs).forms (forms_begin done k fs)

-- ---- names that stand first

-- Where some names are the first of others, what they stand for is the first of what the others stand for.
pub front-map : {A B : Type 0} (f : A → B) (few names : List A) → take (length few) names ≡ few → take (length (map f few)) (map f names) ≡ map f few
front-map f few names h = ap (λ n. take n (map f names)) (length-map few f) ∙ take-map f (length few) names ∙ ap (map f) h
