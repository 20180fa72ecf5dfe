use Rattle.std.proofs.Common.{◌≡◌, ◌+◌, ◌∙◌, length, map, take}
use Rattle.ground_atoms.specs.Formulas.{form_of}
use Rattle.lazy_search.specs.declared.places.Place.{Place}
use Rattle.lazy_search.specs.Chosen.{IsBehind}
use Rattle.lazy_search.proofs.Behind.{behind_kept, stand_behind, behind_both}
use Rattle.lazy_search.proofs.choosing.Chosen.add_behind.Goals as goal

-- the place behind the formulas whose clauses were kept
abbrev at : goal.In_ok-next → Place
at c = record { clause = c.in-Ok.clause; name = c.in-Some.after }

first_behind : (c : goal.In_ok-next) → IsBehind c.args.name (take c.args.count (map form_of c.args.forms.now)) (at c)
first_behind c =
    let clause : c.in-Ok.clause ≡ length c.args.kept.now.clauses = c.in-Ok.ensures.1 ∙ c.len.ensures in
    let name : c.in-Some.after ≡ c.args.name + c.args.kept.now.names = c.in-Some.ensures.1 in
    behind_kept c.args.kept.now c.args.name c.args.count (map form_of c.args.forms.now) (at c) c.requires.within c.requires.kept clause name

pub returns-clause-chosen : goal.returns-clause-chosen
returns-clause-chosen c = λ every s h.
    c.in_ok-next.ensures.chosen every
    (stand_behind every c.args.name c.args.count (map form_of c.args.forms.now) (map form_of c.forms_behind.result.now) (at c) (first_behind c) c.forms_behind.ensures s) h

pub returns-clause-behind : goal.returns-clause-behind
returns-clause-behind c =
    behind_both c.args.name c.args.count (map form_of c.args.forms.now) (map form_of c.forms_behind.result.now) (at c) c.in_ok-next.next (first_behind c) c.forms_behind.ensures
    c.in_ok-next.ensures.clause c.in_ok-next.ensures.name
