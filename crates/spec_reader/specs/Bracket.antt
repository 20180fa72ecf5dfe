-- The tie from the code to the readers of `Reading`: what stands in brackets, wherever it lies in
-- memory.
use Rattle.spec_reader.specs.declared.formulas.Bracket.{Bracket}
use Rattle.spec_reader.specs.declared.formulas.Bracket.TheVariants as bracket
use Rattle.spec_trees.specs.Form.{form_of}
use Rattle.spec_reader.specs.Reading.{Inside, compared, connected}

-- what stands in brackets, as the code has it, without addresses
abbrev pub bracket_of : Bracket → Inside
bracket_of (bracket.Compared s c t) = compared s.value c t.value
bracket_of (bracket.Connected f c g) = connected (form_of f.value) c (form_of g.value)
