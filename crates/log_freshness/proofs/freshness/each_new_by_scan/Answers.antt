use Rattle.std.proofs.Common.{◌≡◌, ◌+◌, ◌<◌, ◌∙◌, sym, ap, arith, true, length, take, None}
use Rattle.std.specs.Prelude.{option_copied}
use Rattle.log_freshness.specs.Freshness.{live_of, is_new}
use Rattle.log_freshness.proofs.Slots.{each_new-some, each_new-none}
use Rattle.log_freshness.proofs.freshness.each_new_by_scan.Goals as goal
use Rattle.log_freshness.proofs.freshness.each_new_by_scan.Goals.{in-Some+else-not-is_new, in_default}

pub loop-i-preserved : goal.loop-i-preserved
loop-i-preserved c =
    let slots = c.args.slots.now in
    let i = c.loop-i.i in
    let within : i < length slots = omega (arith, c.loop-i-test.true, c.len-i-end.ensures) in
    elim c.match-get.branch [
      | in-Some+else-not-is_new w ↦ (
          let new : is_new (live_of (take i slots)) w.in-Some.clause.now ≡ true = sym w.is_new.ensures ∙ w.if-not-is_new.false in
          c.loop-i.invariant ∙ each_new-some slots i (i + 1) None w.in-Some.clause.now (omega arith) within (sym c.get.ensures.there ∙ ap option_copied w.in-Some.is) new)
      | in_default w ↦ (
          c.loop-i.invariant ∙ each_new-none slots i (i + 1) None (omega arith) within (sym c.get.ensures.there ∙ ap option_copied w.in_default.is))
    ]
