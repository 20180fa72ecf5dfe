use Rattle.std.proofs.Common.{rules, ◌≡◌, ◌∙◌, length, reverse, arith}
use Rattle.std.proofs.lemmas.List.{length-reverse}
use Rattle.sat_core.proofs.Seats.{places-put}
use Rattle.sat_core.proofs.places.enter_new.Goals as goal

pub returns-clause-ok : goal.returns-clause-ok
returns-clause-ok c =
    let l : c.len-place.result ≡ length (reverse c.args.entries.now.items) = (let r = length-reverse c.args.entries.now.items in let m : c.len-place.result ≡ length c.args.entries.now.items = search rules in omega (arith, r, m)) in
    (c.in_ok-push.ensures.items, places-put c.args.entry (reverse c.args.entries.now.items) c.widen.new.places.items c.len-place.result l c.in_ok-widen.ensures.wide c.requires.new (λ a. c.in_ok-widen.ensures.kept a ∙ c.requires.places a))
