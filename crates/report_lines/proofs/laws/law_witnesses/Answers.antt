use Rattle.std.proofs.Common.{refl}
use Rattle.spec_core.specs.declared.world.World.{World}
use Rattle.spec_core.specs.Specification.{Specification}
use Rattle.report_lines.specs.declared.witness.Due.{Due}
use Rattle.report_lines.specs.declared.witness.Shown.TheVariants as shown
use Rattle.report_lines.specs.Witnesses.{size_format, const_format, shown_format}
use Rattle.report_lines.proofs.WholeLines.{HasWord, line_of}
use Rattle.report_lines.proofs.WitnessLines.{size_exact, size_clean, const_exact, const_clean, shown_exact, shown_clean}
use Rattle.report_lines.proofs.laws.law_witnesses.Goals as goal

pub returns-clause-size : goal.returns-clause-size
returns-clause-size c = λ sort h. line_of (size_format sort) (λ a. refl) (size_exact sort) (size_clean sort h)

pub returns-clause-constant : goal.returns-clause-constant
returns-clause-constant c = λ name size h. line_of (const_format name size) (λ a. refl) (const_exact name size) (const_clean name size h)

shown_word : (d : Specification) (w : World) (due : Due) → HasWord (shown_format d w due)
shown_word d w due (shown.Fact f) = refl
shown_word d w due (shown.Reading r) = refl
shown_word d w due (shown.Call a) = refl
shown_word d w due (shown.At es) = refl

pub returns-clause-shown : goal.returns-clause-shown
returns-clause-shown c = λ d w due h. line_of (shown_format d w due) (shown_word d w due) (shown_exact d w due h) (shown_clean d w due h)
