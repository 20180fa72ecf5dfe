use Rattle.std.proofs.Common.{◌≡◌, not, cond, List, subst, sym, ap, ◌∙◌, Bool, ℕ}
use Rattle.std.specs.List.{list_all, list_any}
use Rattle.spec_core.specs.Form.{form_of}
use Rattle.spec_core.specs.Line.{Line}
use Rattle.spec_core.specs.World.{tuples}
use Rattle.spec_core.specs.Truth.{truth, is_exists, line_true}
use Rattle.spec_core.proofs.Choosing.{list_any-not}
use Rattle.spec_core.proofs.lines.line_holds.Goals as goal

pub returns-in-Exists : goal.returns-in-Exists
returns-in-Exists g c =
    let w = c.args.world.now in let r = g.R.Readings.reads c.args.at.now in
    let p = λ (vars : List ℕ). truth w r c.args.args.now vars (form_of c.line.inside.body) in
    subst (λ (l : Line). not c.all_agree.result ≡ line_true w r c.args.args.now l) c.line.view_is
    (ap not c.all_agree.ensures
    ∙ ap (λ (ss : List ℕ). not (list_all (λ vars. not (p vars)) (tuples w ss))) c.as_slice-sorts.ensures
    ∙ sym (list_any-not p (tuples w c.line.inside.vars))
    ∙ ap (λ (b : Bool). cond b (list_any p (tuples w c.line.inside.vars)) (list_all p (tuples w c.line.inside.vars))) (sym (ap is_exists c.in-Exists.is)))
