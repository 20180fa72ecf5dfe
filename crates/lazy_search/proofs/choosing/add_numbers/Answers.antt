use Rattle.std.proofs.Common.{◌≡◌, ◌+◌, ◌++◌, ℕ, List, sym, ◌∙◌, ap}
use Rattle.std.specs.List.{range_with_len}
use Rattle.lazy_search.proofs.Adding.{range_next, append-one}
use Rattle.lazy_search.proofs.choosing.add_numbers.Goals as goal

pub loop-place-preserved : goal.loop-place-preserved
loop-place-preserved c =
    let number : c.in-Some.number ≡ c.args.from + c.loop-place.place = let a = c.in-Some.ensures in let b = c.in-Ok.ensures in cc in
    append-one c.args.numbers.now.items (range_with_len c.args.from c.loop-place.place) c.loop-place.numbers.items c.push.new.self.items c.in-Some.number (c.args.from + c.loop-place.place)
    c.loop-place.invariant c.in_ok-push.ensures.items number
    ∙ ap (λ (z : List ℕ). c.args.numbers.now.items ++ z) (sym (range_next c.args.from c.loop-place.place))
