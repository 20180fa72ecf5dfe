use Rattle.std.proofs.Common.{◌≡◌, ◌∙◌, sym, ap, Bool, true, false, List, ◌||◌, arith}
use Rattle.log_freshness.specs.declared.freshness.Entry.{Entry}
use Rattle.log_freshness.specs.Index.{finds, finds_marked}
use Rattle.log_freshness.specs.Blocks.{finds_in_blocks}
use Rattle.log_freshness.proofs.Index.{finds-marked}
use Rattle.log_freshness.proofs.freshness.finds_either.Goals as goal

or_first : (a b : Bool) → a ≡ true → true ≡ (a || b)
or_first a b h = grind arith

or_second : (a b : Bool) → a ≡ false → b ≡ (a || b)
or_second a b h = grind arith

pub returns-then-listed : goal.returns-then-listed
returns-then-listed c =
    let look = c.args.look.now in
    let lists = c.args.index.now.lists.items in
    or_first (finds look.count look.slots.now lists look.lits.now) (finds_in_blocks look.slots.now c.args.index.now.blocks look.lits.now)
    (sym (c.finds_marked-listed.ensures ∙ ap (λ (z : List (List Entry)). finds_marked look.count look.marks.now look.slots.now z look.lits.now) c.as_slice.ensures.value
    ∙ finds-marked look.count look.marks.now look.slots.now lists look.lits.now c.requires.marks) ∙ c.if-listed.true)

pub returns : goal.returns
returns c =
    let look = c.args.look.now in
    let lists = c.args.index.now.lists.items in
    c.any_in_blocks.ensures
    ∙ or_second (finds look.count look.slots.now lists look.lits.now) (finds_in_blocks look.slots.now c.args.index.now.blocks look.lits.now)
    (sym (c.finds_marked-listed.ensures ∙ ap (λ (z : List (List Entry)). finds_marked look.count look.marks.now look.slots.now z look.lits.now) c.as_slice.ensures.value
    ∙ finds-marked look.count look.marks.now look.slots.now lists look.lits.now c.requires.marks) ∙ c.if-listed.false)
