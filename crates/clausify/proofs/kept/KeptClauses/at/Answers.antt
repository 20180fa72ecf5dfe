use Rattle.std.proofs.Common.{◌≡◌, List, get_or, slice_get, Some, ◌∙◌, ap}
use Rattle.std.proofs.lemmas.Option.{slice_get_read}
use Rattle.proof_lines.specs.declared.clause.Lit.{Lit}
use Rattle.clausify.proofs.Raised.{kept_at}
use Rattle.clausify.proofs.kept.KeptClauses.at.Goals as goal

pub returns : goal.returns
returns c =
    let k = c.args.self.now in
    let clause : List Lit = c.index-as_slice-place.result in
    let there : slice_get k.clauses c.args.place ≡ Some clause =
    slice_get_read k.clauses c.len.result c.args.place clause c.len.ensures c.if-place-len.false (c.index-as_slice-place.is ∙ ap (λ (z : List (List Lit)). get_or z c.args.place clause) c.as_slice.ensures) in
    kept_at k c.args.name c.args.place clause c.in_ok-copy.copy c.if-name-self.false there c.in_ok-copy.ensures
