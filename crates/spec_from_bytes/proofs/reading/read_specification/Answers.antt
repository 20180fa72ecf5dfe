use Rattle.std.proofs.Common.{ap, subst}
use Rattle.std.specs.Prelude.{Err}
use Rattle.byte_ports.proofs.Sources.{long_told, read_told, read_at_end, read_of_many}
use Rattle.spec_from_bytes.specs.Reading.{SaysRefusal, IsReadingOf}
use Rattle.spec_from_bytes.proofs.reading.read_specification.Goals as goal

pub returns-in-Ok-read_bytes-clause-ok : goal.returns-in-Ok-read_bytes-clause-ok
returns-in-Ok-read_bytes-clause-ok g c =
    let reading = c.in-Ok-read_bytes.reading in
    read_told (λ bytes. IsReadingOf bytes reading) (g.S.Source.left c.args.spec.now) c.in-Ok.bytes.items c.in-Ok.ensures.ok
    (subst (λ bytes. IsReadingOf bytes reading) c.as_slice.ensures.value c.in-Ok-read_bytes.ensures)

pub returns-in-Ok-too_long-clause-ok : goal.returns-in-Ok-too_long-clause-ok
returns-in-Ok-too_long-clause-ok g c =
    long_told 65536 (λ bytes. SaysRefusal bytes c.in-Ok-too_long.text.items) (g.S.Source.left c.args.spec.now)
    (c.in-Err-TooLong.ensures.too_long (ap Err c.in-Err-TooLong.field-0-is)) c.in-Ok-too_long.ensures

pub returns-in-Ok-read_bytes-clause-end : goal.returns-in-Ok-read_bytes-clause-end
returns-in-Ok-read_bytes-clause-end g c = read_at_end 65536 (g.S.Source.left c.args.spec.now) (g.S.Source.left c.read_up_to.new.src) c.in-Ok.ensures.end

pub returns-in-Ok-too_long-clause-end : goal.returns-in-Ok-too_long-clause-end
returns-in-Ok-too_long-clause-end g c =
    read_of_many 65536 (g.S.Source.left c.args.spec.now) (g.S.Source.left c.read_up_to.new.src) (c.in-Err-TooLong.ensures.too_long (ap Err c.in-Err-TooLong.field-0-is))
