use Rattle.std.proofs.Common.{◌≤◌, ◌∙◌, ℕ, List, sym, ap, subst, length}
use Rattle.std.specs.List.{list_any}
use Rattle.log_freshness.specs.Blocks.{number_within, RulesOut, AreNotWithin}
use Rattle.log_freshness.proofs.Masks.{all-ruled, ruled-not_within}
use Rattle.log_freshness.proofs.blocks.any_in_block.Goals as goal

pub returns-then-out : goal.returns-then-out
returns-then-out c =
    let rules : RulesOut c.args.look.now.marks.now c.args.block.now.masks.items c.ruled_out-out.result =
    subst (λ (z : List ℕ). RulesOut c.args.look.now.marks.now z c.ruled_out-out.result) c.as_slice.ensures.value c.ruled_out-out.ensures in
    sym (all-ruled c.args.look.now.count c.args.look.now.slots.now c.args.block.now c.args.look.now.marks.now c.args.look.now.lits.now c.ruled_out-out.result c.requires.fits c.requires.marks rules c.if-out.true)

pub any_left_within-requires-clause-few : goal.any_left_within-requires-clause-few
any_left_within-requires-clause-few c = subst (λ (z : List ℕ). length z ≤ 128) (sym c.as_slice-numbers.ensures) c.requires.fits.few

pub any_left_within-requires-clause-out : goal.any_left_within-requires-clause-out
any_left_within-requires-clause-out c =
    let rules : RulesOut c.args.look.now.marks.now c.args.block.now.masks.items c.ruled_out-out.result =
    subst (λ (z : List ℕ). RulesOut c.args.look.now.marks.now z c.ruled_out-out.result) c.as_slice.ensures.value c.ruled_out-out.ensures in
    subst (λ (z : List ℕ). AreNotWithin c.args.look.now.slots.now c.args.look.now.lits.now z c.ruled_out-out.result) (sym c.as_slice-numbers.ensures)
    (λ i d. ruled-not_within c.args.look.now.count c.args.look.now.slots.now c.args.block.now c.args.look.now.marks.now c.args.look.now.lits.now c.ruled_out-out.result i d c.requires.fits c.requires.marks rules)

pub returns : goal.returns
returns c = c.any_left_within.ensures ∙ ap (list_any (number_within c.args.look.now.slots.now c.args.look.now.lits.now)) c.as_slice-numbers.ensures
