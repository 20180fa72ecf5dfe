use Rattle.std.proofs.Common.{sym, subst}
use Rattle.elimination.specs.declared.tableau.Tableau.{Tableau}
use Rattle.elimination.specs.Tableaux.{IsTableau}
use Rattle.elimination.proofs.Eliminating.{tableau-passed, passed-meets, place-done}
use Rattle.elimination.proofs.eliminate.eliminate_place.Goals as goal

pub combine_all-requires-clause-tableau : goal.combine_all-requires-clause-tableau
combine_all-requires-clause-tableau c =
    subst (λ (v : Tableau). IsTableau c.args.rows.now v) (sym c.in-Ok-pass_on.ensures) (tableau-passed c.args.rows.now c.args.tableau.now c.args.place c.requires.elimination.tableau c.requires.left)

pub combine_all-requires-clause-meet : goal.combine_all-requires-clause-meet
combine_all-requires-clause-meet c =
    passed-meets c.args.tableau.now c.pass_on.new.tableau c.args.place c.as_slice-highs.result.now c.as_slice-lows.result.now c.in-Ok.uppers c.in-Ok-side_of.lowers c.in-Ok.ensures c.in-Ok-side_of.ensures c.in-Ok-pass_on.ensures c.as_slice-highs.ensures c.as_slice-lows.ensures

pub returns-in-Ok-combine_all : goal.returns-in-Ok-combine_all
returns-in-Ok-combine_all c =
    place-done c.args.rows.now c.args.tableau.now c.pass_on.new.tableau c.combine_all.new.tableau c.args.place c.as_slice-highs.result.now c.as_slice-lows.result.now c.in-Ok.uppers c.in-Ok-side_of.lowers c.requires.elimination c.requires.left
    c.in-Ok.ensures c.in-Ok-side_of.ensures c.in-Ok-pass_on.ensures c.as_slice-highs.ensures c.as_slice-lows.ensures c.in-Ok-combine_all.ensures
