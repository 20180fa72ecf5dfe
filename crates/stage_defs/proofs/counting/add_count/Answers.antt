use Rattle.std.proofs.Common.{◌≡◌, ℕ, pos, List, [], ◌∷◌, ap, sym, ◌∙◌, map}
use Rattle.ground_problem.specs.Symbols.{Part}
use Rattle.ground_numbers.specs.Stages.{stage_of}
use Rattle.ground_atoms.specs.Symbols.{parts_of}
use Rattle.ground_atoms.specs.Making.{make_all}
use Rattle.ground_atoms.specs.Formulas.{form_of}
use Rattle.stage_defs.specs.Settings.{readings_in, caller_in}
use Rattle.stage_defs.specs.Parts.{count_in_turn}
use Rattle.stage_defs.proofs.Updates.{counter_defined}
use Rattle.stage_defs.proofs.counting.add_count.Goals as goal

pub returns-clause-made : goal.returns-clause-made
returns-clause-made c =
    let q = c.args.reading.now in
    let s = q.before in
    let start = make_all (map form_of c.args.out.now) c.args.atoms.now in
    let value : parts_of c.in_ok-value.value ≡ (readings_in s).count (pos 1) q.number q.tuple.now ∷ [] =
    c.in_ok-value.ensures ∙ ap (λ (p : Part). p ∷ []) c.reading_part-part.ensures ∙ ap (λ (t : List ℕ). (readings_in s).count (pos 1) q.number t ∷ []) c.in_ok-tuple.ensures in
    ap start (counter_defined (readings_in s) (caller_in s) (stage_of q.stage) q.number q.tuple.now q.updates.now)
    ∙ ap (λ (v : List Part). start (count_in_turn (readings_in s) (caller_in s) (stage_of q.stage) q.number q.tuple.now v q.updates.now)) (sym value)
    ∙ c.in_ok-add_in_turn.ensures.made
