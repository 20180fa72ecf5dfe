use Rattle.std.proofs.Common.{◌≡◌, ◌+◌, ◌||◌, Bool, sym, ap, ◌∙◌, arith, take, drop}
use Rattle.std.specs.List.{list_any}
use Rattle.proof_lines.specs.Clauses.{sub}
use Rattle.log_freshness.specs.Freshness.{live_of}
use Rattle.log_freshness.proofs.Slots.{within-step, within-end}
use Rattle.log_freshness.proofs.freshness.holds_one_within.Goals as goal

pub returns-then-is_slot_within : goal.returns-then-is_slot_within
returns-then-is_slot_within c =
    let slots = c.args.slots.now in
    let i = c.loop-i.i in
    let rest = list_any (λ d. sub d c.args.lits.now) (live_of (drop (i + 1) (take c.args.number slots))) in
    sym (c.loop-i.invariant ∙ within-step slots c.args.number i (i + 1) c.args.lits.now (omega arith) c.loop-i-test.true c.requires
    ∙ ap (λ (b : Bool). b || rest) (sym c.is_slot_within.ensures ∙ c.if-is_slot_within.true))

pub loop-i-preserved : goal.loop-i-preserved
loop-i-preserved c =
    let slots = c.args.slots.now in
    let i = c.loop-i.i in
    let rest = list_any (λ d. sub d c.args.lits.now) (live_of (drop (i + 1) (take c.args.number slots))) in
    c.loop-i.invariant ∙ within-step slots c.args.number i (i + 1) c.args.lits.now (omega arith) c.loop-i-test.true c.requires
    ∙ ap (λ (b : Bool). b || rest) (sym c.is_slot_within.ensures ∙ c.if-is_slot_within.false)

pub returns : goal.returns
returns c =
    let done : c.loop-i.i ≡ c.args.number = omega (arith, c.loop-i-test.false, c.loop-i.auto.i-end) in
    sym (c.loop-i.invariant ∙ ap (λ k. list_any (λ d. sub d c.args.lits.now) (live_of (drop k (take c.args.number c.args.slots.now)))) done ∙ within-end c.args.slots.now c.args.number c.args.lits.now)
