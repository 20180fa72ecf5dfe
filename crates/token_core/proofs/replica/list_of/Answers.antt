use Rattle.std.specs.Prelude.{IfOk}
use Rattle.std.proofs.Common.{◌≡◌, List, ℕ, sym, ◌∙◌, subst}
use Rattle.std.proofs.lemmas.Slice.Eq.{bytes_eq-Decides}
use Rattle.token_core.proofs.replica.list_of.Goals as goal

pub returns : goal.returns
returns c =
    let same = c.loop-number.invariant ∙ sym c.as_slice.ensures ∙ (bytes_eq-Decides c.as_slice.result.now c.args.taken.now).0 (sym c.are_same.ensures ∙ c.if-not-are_same.false) in
    subst (λ (l : List ℕ). IfOk c.share.result (λ (x : List ℕ). x ≡ l)) same c.share.ensures
