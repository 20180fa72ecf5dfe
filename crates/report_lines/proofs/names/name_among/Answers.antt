use Rattle.std.proofs.Common.{◌<◌, sym, ◌&&◌, map, drop, length, arith}
use Rattle.std.specs.Prelude.{nat_lt, nat_le}
use Rattle.report_lines.specs.Formats.{place_from}
use Rattle.report_lines.specs.Words.{left}
use Rattle.report_lines.proofs.Finding.{found_small, found_fits, word_read}
use Rattle.report_lines.proofs.names.name_among.Goals as goal

pub overflow_cast-result : goal.overflow_cast-result
overflow_cast-result g c =
    let small : c.in-Some.place < 255 = found_small g.T.Named.named c.args.things.now c.args.from c.in_ok-word.word.now c.in-Some.place c.requires.few c.in-Some.ensures in
    omega (arith, small)

pub returns-in-Some : goal.returns-in-Some
returns-in-Some g c =
    let f = found_fits c.args.from (map g.T.Named.named c.args.things.now) c.in_ok-word.word.now c.in-Some.place c.in-Some.ensures in
    word_read (place_from c.args.from (drop c.args.from (map g.T.Named.named c.args.things.now))) (λ k. nat_le c.args.from k && nat_lt k (length (map g.T.Named.named c.args.things.now)))
    (left c.args.words) (left c.in_ok-word.rest) c.in_ok-word.word.now c.in-Some.place c.in_ok-word.ensures (sym c.in-Some.ensures) f
