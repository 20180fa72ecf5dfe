use Rattle.std.proofs.Common.{take, map, sym, ◌∙◌, ap}
use Rattle.std.proofs.lemmas.List.{take-map}
use Rattle.ground_atoms.specs.Sizes.{cut_back}
use Rattle.ground_atoms.specs.Symbols.{atom_of, integer_of, reading_of}
use Rattle.ground_atoms.proofs.atoms.Atoms.cut_back.Goals as goal

pub returns : goal.returns
returns c =
    let s = c.self.inside in
    let n = c.args.size in
    let a = ap (map atom_of) c.truncate.ensures.keys ∙ sym (take-map atom_of n.atoms s.atoms.keys) in
    let b = ap (map integer_of) c.truncate-2.ensures.keys ∙ sym (take-map integer_of n.ints s.ints.keys) in
    let r = ap (map reading_of) (c.from_vec.ensures ∙ c.truncate-3.ensures.items ∙ ap (take n.named) c.into_vec-readings.ensures) ∙ sym (take-map reading_of n.named s.named) in
    (λ i. record { table = record { atoms = a i; ints = b i }; named = r i })
    ∙ ap (cut_back n) c.self.view_is
