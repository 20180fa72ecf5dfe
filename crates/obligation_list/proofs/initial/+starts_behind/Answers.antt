use Rattle.std.proofs.Common.{◌≡◌, ℕ, List, [], ◌∷◌, ◌++◌, ◌+◌, ◌-◌, ◌<◌, length, get_or, take, drop, sym, ◌∙◌, ap, arith}
use Rattle.spec_core.specs.World.{size_of}
use Rattle.spec_core.specs.State.{reads}
use Rattle.spec_core.specs.Choices.{all_choices}
use Rattle.obligation_list.specs.Starting.{starts_at}
use Rattle.obligation_list.proofs.Chosen.{longer, below_one_more, chosen_all, chosen_fails}
use Rattle.obligation_list.proofs.initial.+starts_behind.Goals as goal

pub returns-then-not-starts_behind : goal.returns-then-not-starts_behind
returns-then-not-starts_behind t c =
    let w = c.args.world.now in let sorts = c.args.sorts.now in let p = λ (t : List ℕ). starts_at c.args.spec.now c.args.thing t (reads c.args.state.now) in
    let some = c.in-len1-up.len_at_least in
    let end : c.size-element-end.result ≡ size_of w (get_or sorts 0 0) = c.size-element-end.ensures in
    let below : c.loop-element.element < c.size-element-end.result = c.loop-element-test.true in
    chosen_fails w (take c.args.count c.args.chosen) sorts p some c.loop-element.element (omega arith)
    (ap (λ l. all_choices w l (take (length sorts - 1) (drop 1 sorts)) p) (sym (longer c.args.chosen c.args.count c.loop-element.element (omega arith))) ∙ sym c.starts_behind.ensures ∙ c.if-not-starts_behind.true)

pub loop-element-preserved : goal.loop-element-preserved
loop-element-preserved t c =
    let w = c.args.world.now in let sorts = c.args.sorts.now in let p = λ (t : List ℕ). starts_at c.args.spec.now c.args.thing t (reads c.args.state.now) in
    below_one_more (λ e. all_choices w (take c.args.count c.args.chosen ++ e ∷ []) (take (length sorts - 1) (drop 1 sorts)) p) c.loop-element.element c.loop-element.invariant
    (ap (λ l. all_choices w l (take (length sorts - 1) (drop 1 sorts)) p) (sym (longer c.args.chosen c.args.count c.loop-element.element (omega arith))) ∙ sym c.starts_behind.ensures ∙ c.if-not-starts_behind.false)

pub returns-after-loop-element : goal.returns-after-loop-element
returns-after-loop-element t c =
    let w = c.args.world.now in let sorts = c.args.sorts.now in let p = λ (t : List ℕ). starts_at c.args.spec.now c.args.thing t (reads c.args.state.now) in
    let end : c.size-element-end.result ≡ size_of w (get_or sorts 0 0) = c.size-element-end.ensures in
    let at_end = c.loop-element-test.false in let before = c.loop-element.auto.element-end in
    chosen_all w (take c.args.count c.args.chosen) sorts p c.in-len1-up.len_at_least c.loop-element.element c.loop-element.invariant (omega arith) (omega arith)
