use Rattle.std.proofs.Common.{◌≡◌, false, [], sym, ◌∙◌, ap, subst}
use Rattle.spec_core.specs.Line.{Line}
use Rattle.spec_core.specs.State.{Reads}
use Rattle.spec_core.specs.Truth.{is_exists, line_true}
use Rattle.touched_lines.specs.Touched.{form_true}
use Rattle.touched_lines.proofs.Touching.{reached_is_line}
use Rattle.touched_lines.proofs.reached.line_holds_after.Goals as goal

pub returns-in-Forall : goal.returns-in-Forall
returns-in-Forall g c before went was =
    let d = c.args.spec.now in let w = c.args.world.now in let call = c.args.call.now in let l = c.args.line.now in
    let all : is_exists l.prefix ≡ false = subst (λ (x : Line). is_exists x.prefix ≡ false) c.line.view_is (ap is_exists c.in-Forall.is) in
    let body = ap (λ (x : Line). x.body) c.line.view_is in
    c.form_true.ensures
    ∙ (λ i. form_true w (went i) (c.as_slice-args.ensures i) l (c.updates_of-updates.ensures i) (body i))
    ∙ reached_is_line d w call before l c.requires.fits all was
    ∙ ap (λ (x : Reads). line_true w x [] l) (sym went)

pub returns-in-Plain : goal.returns-in-Plain
returns-in-Plain g c before went was =
    let d = c.args.spec.now in let w = c.args.world.now in let call = c.args.call.now in let l = c.args.line.now in
    let all : is_exists l.prefix ≡ false = subst (λ (x : Line). is_exists x.prefix ≡ false) c.line.view_is (ap is_exists c.in-Plain.is) in
    let body = ap (λ (x : Line). x.body) c.line.view_is in
    c.form_true-in-Plain.ensures
    ∙ (λ i. form_true w (went i) (c.as_slice-args.ensures i) l (c.updates_of-updates.ensures i) (body i))
    ∙ reached_is_line d w call before l c.requires.fits all was
    ∙ ap (λ (x : Reads). line_true w x [] l) (sym went)
