use Rattle.std.proofs.Common.{map, sym, subst}
use Rattle.ground_atoms.specs.Symbols.{atom_of, integer_of, reading_of}
use Rattle.ground_atoms.specs.Known.{Known}
use Rattle.ground_atoms.specs.Staying.{Begins, NumbersStay}
use Rattle.ground_atoms.proofs.Cutting.{same_list}
use Rattle.ground_atoms.proofs.Staying.{begins-inserted}
use Rattle.ground_atoms.proofs.atoms.Atoms.int_of.Goals as goal

pub returns-clause-stay : goal.returns-clause-stay
returns-clause-stay c =
    let s = c.self.inside in
    let now : Known = record { table = record { atoms = map atom_of s.atoms.keys; ints = map integer_of c.insert_full.new.self.keys }; named = map reading_of c.note_integer.new.named } in
    subst (λ (k : Known). NumbersStay k now) c.self.view_is (record {
      atoms = same_list (map atom_of s.atoms.keys);
      ints = subst (λ ks. Begins (map integer_of s.ints.keys) (map integer_of ks)) (sym c.in-Ok.ensures.keys) (begins-inserted integer_of _ s.ints.keys c.args.name);
    })
