use Rattle.std.proofs.Common.{◌≡◌, map, sym, ◌∙◌, ap, subst}
use Rattle.ground_numbers.specs.Numbers.{number_of}
use Rattle.ground_atoms.specs.Symbols.{atom_of, integer_of, reading_of}
use Rattle.ground_atoms.specs.Known.{Known, know_atom}
use Rattle.ground_atoms.proofs.Same.{atom_stays}
use Rattle.ground_atoms.proofs.Guessing.{guess_among, guess_place}
use Rattle.ground_atoms.proofs.atoms.Atoms.guessed.Goals as goal

pub returns-in-Some-clause-known : goal.returns-in-Some-clause-known
returns-in-Some-clause-known c =
    let a = c.args.atom.now in
    let s = c.self.inside in
    let seen : Known = record { table = record { atoms = map atom_of s.atoms.keys; ints = map integer_of s.ints.keys }; named = map reading_of s.named } in
    subst (λ (k : Known). k ≡ know_atom k (atom_of a)) c.self.view_is
    (atom_stays seen (atom_of a)
    (guess_among a c.in-Some.other.now s.atoms.keys c.at-number.result c.len.ensures.unique c.in-Some.ensures.key (sym c.if-eq.ensures)))

pub returns-in-Some-clause-number : goal.returns-in-Some-clause-number
returns-in-Some-clause-number c =
    let a = c.args.atom.now in
    guess_place a c.in-Some.other.now c.self.inside.atoms.keys c.at-number.result c.len.ensures.unique c.in-Some.ensures.key (sym c.if-eq.ensures)
    ∙ ap (λ (k : Known). number_of k.table (atom_of a)) c.self.view_is
