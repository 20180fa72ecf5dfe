use Rattle.lazy_ground.proofs.Entries.{front_entry, built_for, numbers_for}
use Rattle.lazy_ground.proofs.Serving.{have_numbers}
use Rattle.lazy_ground.proofs.front.Front.into_kept.Goals as goal

pub kept_with-requires : goal.kept_with-requires
kept_with-requires c = built_for c.args.self c.args.pairs c.requires

pub returns : goal.returns
returns c =
    let f = c.args.self in
    λ d ob is. record {
      entry = c.entry_of.ensures.entry d (front_entry d ob f is);
      pairs = c.kept_with.ensures.pairs;
      numbers = have_numbers c.entry_of.result c.kept_with.result f.grounding.atoms c.entry_of.ensures.atoms (c.kept_with.ensures.numbers f.grounding.atoms.table (numbers_for f c.args.pairs c.requires));
    }
