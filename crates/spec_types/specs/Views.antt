-- The tie from the code to the definitions of typing: what is known behind some items, as a program holds it.
use Rattle.typing_rules.specs.Items.{Known}
use Rattle.spec_types.specs.faults.Names.{meaning_in}
use Rattle.spec_types.specs.declared.known.Known.{Known as Held}

-- what is known behind some items
abbrev pub known_of : Held → Known
known_of k = record { design = k.draft; names = meaning_in k.names; stated = meaning_in k.stated }
