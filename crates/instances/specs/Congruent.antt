-- What the code has of a premise, that two tuples are equal, and of its conclusion, that their readings are one.
use Rattle.ground_numbers.specs.Numbered.{Numbered}
use Rattle.ground_atoms.specs.Formulas.{form_of, tuples_equal, readings_agree}
use Rattle.instances.specs.declared.congruence.Premise.{Premise}
use Rattle.instances.specs.declared.congruence.Premise.TheVariants as premise
use Rattle.instances.specs.declared.congruence.Conclusion.{Conclusion}
use Rattle.instances.specs.declared.congruence.Conclusion.TheVariants as conclusion

-- the equality of two tuples
abbrev pub premise_of : Premise → Numbered
premise_of (premise.Equal p m n) = tuples_equal p m n
premise_of (premise.Other f) = form_of f

-- that two readings are one
abbrev pub conclusion_of : Conclusion → Numbered
conclusion_of (conclusion.Agree a m n) = readings_agree a m n
conclusion_of (conclusion.Other f) = form_of f
