use Rattle.std.proofs.Common.{◌≡◌, ℕ, true, List, [], sym, ◌∙◌, ap, subst}
use Rattle.std.specs.Prelude.{slice_index_or}
use Rattle.lin_rows.specs.Rows.{Row}
use Rattle.proof_lines.specs.Numbers.{stands_in}
use Rattle.elimination.specs.Naming.{IsNaming}
use Rattle.elimination.proofs.held.Held.naming.Goals as goal

pub returns : goal.returns
returns c = λ i l n. subst (λ (m : List ℕ). stands_in m i ≡ true) (sym (c.numbers_at.ensures ∙ ap (λ (b : List (List ℕ)). slice_index_or b c.args.place []) c.as_slice.ensures.value))
    (subst (λ (rows : List Row). IsNaming rows c.self.inside.by_place.items) c.self.view_is c.self.invariant.1 i l c.args.place n)
