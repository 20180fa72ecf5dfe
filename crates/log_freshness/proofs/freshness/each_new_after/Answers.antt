use Rattle.std.proofs.Common.{◌+◌, ◌∙◌, sym, ap, arith, Bool, take, drop, ◌&&◌}
use Rattle.std.proofs.lemmas.Grind.{common_steps}
use Rattle.log_freshness.specs.Freshness.{live_of, each_new}
use Rattle.log_freshness.proofs.Index.{each_new-slot}
use Rattle.log_freshness.proofs.freshness.each_new_after.Goals as goal

pub loop-i-preserved : goal.loop-i-preserved
loop-i-preserved c =
    let slots = c.args.slots.now in
    let i = c.loop-i.i in
    record {
      fits = c.in_ok-put_slot.ensures.fits;
      before = c.in_ok-put_slot.ensures.next c.loop-i.invariant.before;
      sized = c.is_slot_new.ensures.sized ∙ sym c.in_ok-put_slot.ensures.count;
      clear = c.is_slot_new.ensures.clear;
      rest = c.loop-i.invariant.rest ∙ each_new-slot slots i _ (omega arith) (omega (arith, c.loop-i-test.true, c.len-i-end.ensures))
          ∙ ap (λ (b : Bool). b && each_new (live_of (take (i + 1) slots)) (live_of (drop (i + 1) slots))) (sym c.is_slot_new.ensures.is ∙ c.if-not-is_slot_new.false);
    }

pub loop-i-init : goal.loop-i-init
loop-i-init c = grind (arith, common_steps)

pub returns-then-not-is_slot_new : goal.returns-then-not-is_slot_new
returns-then-not-is_slot_new c = grind (arith, common_steps)

pub loop-i-smaller : goal.loop-i-smaller
loop-i-smaller c = grind (arith, common_steps)

pub returns : goal.returns
returns c = grind (arith, common_steps)
