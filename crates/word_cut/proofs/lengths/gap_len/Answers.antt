use Rattle.std.proofs.Common.{get_or, arith, rules, tests}
use Rattle.word_cut.proofs.Gaps.{Steps, grows_more, steps_inside, steps_hash, steps_space, IsGapFront-here, IsGapFront-all}
use Rattle.word_cut.proofs.lengths.gap_len.Goals as goal
use Rattle.word_cut.proofs.lengths.gap_len.Goals.{then-commented, else-commented+then-byte-eq35, else-commented+else-byte-eq35+else-not-is_space}

pub loop-place-init : goal.loop-place-init
loop-place-init c = λ more rest g. g

pub returns-then-not-is_space : goal.returns-then-not-is_space
returns-then-not-is_space c =
    IsGapFront-here _ _ c.loop-place.commented c.loop-place-test.true c.loop-place.invariant c.if-commented.false c.if-byte-eq35.false (cc)

pub loop-place-preserved : goal.loop-place-preserved
loop-place-preserved c =
    let byte = get_or c.args.bytes.now c.loop-place.place 0 in
    let step : Steps c.loop-place.commented byte c.if-commented.commented =
    elim c.if-commented.branch [
      | then-commented w ↦ steps_inside c.loop-place.commented byte c.if-commented.commented w.if-commented.true (search (rules, tests))
      | else-commented+then-byte-eq35 w ↦ steps_hash c.loop-place.commented byte c.if-commented.commented w.if-commented.false w.if-byte-eq35.true (cc)
      | else-commented+else-byte-eq35+else-not-is_space w ↦ steps_space c.loop-place.commented byte c.if-commented.commented w.if-commented.false w.if-byte-eq35.false (cc) (cc)
    ] in
    grows_more _ _ c.loop-place.commented _ c.loop-place-test.true c.loop-place.invariant step

pub returns : goal.returns
returns c = IsGapFront-all _ _ c.loop-place.commented (omega arith) c.loop-place.invariant
