use Rattle.std.proofs.Common.{◌≡◌, ◌&&◌, true, ap, int_eq, nat_eq}
use Rattle.std.proofs.lemmas.Bool.{and_from}
use Rattle.std.specs.Bool.{Decides}
use Rattle.std.proofs.lemmas.Bool.Decides.{Decides-int_eq, Decides-eqb}
use Rattle.std.proofs.lemmas.Slice.Eq.{slice_eq-Decides}
use Rattle.lin_rows.specs.declared.term.RowTerm.{RowTerm}
use Rattle.lin_rows.proofs.Kept.{first_of_both, second_of_both}
use Rattle.lin_rows.proofs.row.same_terms.Goals as goal

term_Decides : (a b : RowTerm) → Decides (nat_eq a.place b.place && int_eq a.coef b.coef) (a ≡ b)
term_Decides a b = (yes, no_)
  where
    yes : (nat_eq a.place b.place && int_eq a.coef b.coef) ≡ true → a ≡ b
    yes h =
        let p = (Decides-eqb a.place b.place).0 (first_of_both (nat_eq a.place b.place) (int_eq a.coef b.coef) h) in
        let q = (Decides-int_eq a.coef b.coef).0 (second_of_both (nat_eq a.place b.place) (int_eq a.coef b.coef) h) in
        λ i. record { place = p i; coef = q i }

    no_ : a ≡ b → (nat_eq a.place b.place && int_eq a.coef b.coef) ≡ true
    no_ e = and_from (nat_eq a.place b.place) (int_eq a.coef b.coef) ((Decides-eqb a.place b.place).1 (ap (λ t. t.place) e)) ((Decides-int_eq a.coef b.coef).1 (ap (λ t. t.coef) e))

pub returns : goal.returns
returns c = slice_eq-Decides term_Decides c.args.left.now c.args.right.now c.eq.result c.eq.ensures
