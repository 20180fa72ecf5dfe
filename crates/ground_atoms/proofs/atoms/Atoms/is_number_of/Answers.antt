use Rattle.std.proofs.Common.{sym, ◌∙◌, ap}
use Rattle.ground_numbers.specs.Numbers.{has_number, number_of}
use Rattle.ground_atoms.specs.Symbols.{atom_of}
use Rattle.ground_atoms.specs.Known.{Known}
use Rattle.ground_atoms.proofs.Guessing.{guess_among, guess_place}
use Rattle.ground_atoms.proofs.atoms.Atoms.is_number_of.Goals as goal

pub returns-in-Some-clause-known : goal.returns-in-Some-clause-known
returns-in-Some-clause-known c =
    λ t. sym (ap (λ (k : Known). has_number k.table (atom_of c.args.atom.now)) c.self.view_is)
    ∙ guess_among c.args.atom.now c.in-Some.other.now c.self.inside.atoms.keys c.args.number c.len.ensures.unique c.in-Some.ensures.key (sym c.if-eq.ensures)

pub returns-in-Some-clause-number : goal.returns-in-Some-clause-number
returns-in-Some-clause-number c =
    λ t. guess_place c.args.atom.now c.in-Some.other.now c.self.inside.atoms.keys c.args.number c.len.ensures.unique c.in-Some.ensures.key (sym c.if-eq.ensures)
    ∙ ap (λ (k : Known). number_of k.table (atom_of c.args.atom.now)) c.self.view_is
