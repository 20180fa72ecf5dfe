use Rattle.schedule_json.proofs.Reading.{text_at}
use Rattle.schedule_json.proofs.worlds.read_each_element.Goals as goal

pub member-requires : goal.member-requires
member-requires c =
    let h = text_at (λ one. one.name) c.args.consts.now c.loop-one.one-index c.one-item.result c.requires c.loop-one-test.true c.one-item.is in
    rw c.bytes.ensures.value h
