use Rattle.std.proofs.Common.{◌∙◌, ap, List}
use Rattle.std.specs.Prelude.{not}
use Rattle.std.specs.List.{list_all}
use Rattle.lin_rows.specs.declared.term.RowTerm.{RowTerm}
use Rattle.proof_lines.specs.Numbers.{stands_in}
use Rattle.elimination.proofs.SideLemmas.{free-none}
use Rattle.elimination.proofs.sides.names_none.Goals as goal

pub returns : goal.returns
returns c =
    c.stands_free.ensures ∙ ap (λ (ts : List RowTerm). list_all (λ t. not (stands_in c.args.places.now t.place)) ts) c.terms.ensures.terms
    ∙ free-none c.args.places.now c.args.row.now c.terms.ensures.row
