use Rattle.std.proofs.Common.{◌≡◌, ◌<◌, true, take, refl, arith}
use Rattle.word_cut.specs.Texts.{is_long_name, is_long_number}
use Rattle.word_cut.proofs.CutLemmas.{Begins-front}
use Rattle.word_cut.proofs.cutting.word_here.Goals as goal

pub returns-then-is_long_name : goal.returns-then-is_long_name
returns-then-is_long_name c =
    let n = c.word_len-len.result in
    let some : 0 < n = omega arith in
    let long : is_long_name (take n c.args.bytes.now) ≡ true = cc in
    (refl, Begins-front is_long_name c.args.bytes.now n some c.word_len-len.ensures long)

pub returns-then-is_long_number : goal.returns-then-is_long_number
returns-then-is_long_number c =
    let n = c.word_len-len.result in
    let some : 0 < n = omega arith in
    let long : is_long_number (take n c.args.bytes.now) ≡ true = cc in
    (refl, Begins-front is_long_number c.args.bytes.now n some c.word_len-len.ensures long)
