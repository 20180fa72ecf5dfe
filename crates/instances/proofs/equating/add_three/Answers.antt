use Rattle.std.proofs.Common.{refl}
use Rattle.instances.proofs.Equalities.{three_numbered, numbered_first}
use Rattle.instances.proofs.equating.add_three.Goals as goal

pub returns : goal.returns
returns c =
    let k = c.args.grounding.now.atoms in
    let l = c.number_of.new.atoms in
    let m = c.number_of-2.new.atoms in
    let o = c.number_of-3.new.atoms in
    let e = c.in_ok-front.ensures in
    let f = c.in_ok-back.ensures in
    let g = c.in_ok-ends.ensures in
    let numbered = three_numbered k l m o c.args.a c.args.b c.args.c c.in_ok-front.front c.in_ok-back.back c.in_ok-ends.ends e f g in
    numbered_first c.push_three.result c.args.grounding.now _ c.push_three.new.grounding l m c.args.a c.args.b c.args.c c.in_ok-front.front c.in_ok-back.back c.in_ok-ends.ends refl e f g
    (c.push_three.ensures c.args.a c.args.b c.args.c numbered)
