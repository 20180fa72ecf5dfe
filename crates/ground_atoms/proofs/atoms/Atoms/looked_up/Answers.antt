use Rattle.std.proofs.Common.{map, sym, subst}
use Rattle.ground_atoms.specs.Symbols.{atom_of, integer_of, reading_of}
use Rattle.ground_atoms.specs.Known.{Known}
use Rattle.ground_atoms.specs.Staying.{Begins, NumbersStay}
use Rattle.ground_atoms.proofs.Cutting.{same_list}
use Rattle.ground_atoms.proofs.Staying.{begins-inserted}
use Rattle.ground_atoms.proofs.atoms.Atoms.looked_up.Goals as goal

pub returns-clause-stay : goal.returns-clause-stay
returns-clause-stay c =
    let s = c.self.inside in
    let now : Known = record { table = record { atoms = map atom_of c.insert_full.new.self.keys; ints = map integer_of s.ints.keys }; named = map reading_of c.note_atom.new.named } in
    subst (λ (k : Known). NumbersStay k now) c.self.view_is (record {
      atoms = subst (λ ks. Begins (map atom_of s.atoms.keys) (map atom_of ks)) (sym c.in-Ok.ensures.keys) (begins-inserted atom_of _ s.atoms.keys c.args.atom);
      ints = same_list (map integer_of s.ints.keys);
    })
