-- A private form of lists of literals; it mirrors src/literals.rt, and a reader of the rules passes it by.
use Rattle.std.specs.Prelude.{List}
use Rattle.proof_lines.specs.declared.clause.Lit.{Lit}
use Rattle.proof_lines.specs.declared.literals.Form.{Form}
use Rattle.proof_lines.specs.declared.literals.Form.TheVariants.{Few, Many}

-- the literals that a form holds, wherever they stand
abbrev pub literals : Form → List Lit
literals (Few lits) = lits
literals (Many lits) = lits
