-- How much a numbering knows, and what is left of it where it is cut back to an earlier size.
use Rattle.std.specs.Prelude.{length, take}
use Rattle.ground_atoms.specs.Known.{Known}
use Rattle.ground_atoms.specs.declared.atoms.KnownSize.{KnownSize}

-- as many atoms, names of whole numbers and readings as are known
abbrev pub size_of : Known → KnownSize
size_of k = record { atoms = length k.table.atoms; ints = length k.table.ints; named = length k.named }

-- the first of each: what was known when there were so many
abbrev pub cut_back : KnownSize → Known → Known
cut_back n k = record {
  table = record { atoms = take n.atoms k.table.atoms; ints = take n.ints k.table.ints };
  named = take n.named k.named;
}
