use Rattle.std.proofs.Common.{◌≡◌, true, rules, sym}
use Rattle.std.specs.List.{list_all}
use Rattle.lazy_ground.specs.Equal.{all_known}
use Rattle.lazy_ground.proofs.NamedAfter.{pairs_after_there}
use Rattle.lazy_ground.proofs.numbering.number_pairs.Goals as goal

pub returns-then-are_all_known : goal.returns-then-are_all_known
returns-then-are_all_known c =
    let known : list_all (all_known c.args.atoms.now.table) c.args.pairs.now.columns ≡ true = search rules in
    sym (pairs_after_there c.args.atoms.now c.args.pairs.now known c.requires.fit c.requires.known)
