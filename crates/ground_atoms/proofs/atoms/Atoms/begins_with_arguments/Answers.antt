use Rattle.std.proofs.Common.{◌≡◌, length, take, map, sym, ◌∙◌, ap, List}
use Rattle.ground_problem.specs.Symbols.{Integer}
use Rattle.ground_atoms.specs.declared.atom.IntName.{IntName}
use Rattle.ground_atoms.specs.Symbols.{integer_of}
use Rattle.ground_atoms.specs.Known.{Known}
use Rattle.ground_atoms.proofs.Cutting.{front-map}
use Rattle.ground_atoms.proofs.atoms.Atoms.begins_with_arguments.Goals as goal

pub returns : goal.returns
returns c =
    λ t. (let few = c.other.inside.ints.keys in let names = c.self.inside.ints.keys in
    let e : take (length few) names ≡ few =
    ap (λ (l : List IntName). take (length l) names) (sym c.as_slice.ensures.keys) ∙ ap (take (length c.as_slice.result.now)) (sym c.as_slice-2.ensures.keys) ∙ c.same_arguments.ensures t ∙ c.as_slice.ensures.keys in
    let m : take (length (map integer_of few)) (map integer_of names) ≡ map integer_of few = front-map integer_of few names e in
    let o : map integer_of few ≡ c.args.other.now.table.ints = ap (λ (k : Known). k.table.ints) c.other.view_is in
    let s : map integer_of names ≡ c.args.self.now.table.ints = ap (λ (k : Known). k.table.ints) c.self.view_is in
    ap (λ (l : List Integer). take (length l) c.args.self.now.table.ints) (sym o) ∙ ap (take (length (map integer_of few))) (sym s) ∙ m ∙ o)
