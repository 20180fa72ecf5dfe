use Rattle.cise_program.proofs.Upgrades.{ok_ends, long_ends, line_ends, fault_ends, write_fault_ends, memory_ends}
use Rattle.byte_ports.specs.Ports.{port_of}
use Rattle.byte_ports.proofs.Sources.{read_at_end}
use Rattle.report_verifier.specs.Verified.{most_report_bytes}
use Rattle.cise_program.proofs.Ends.{long_upgrade}
use Rattle.cise_program.proofs.commands.upgrade.upgrade.Goals as goal

pub returns-in-Ok-clause-ends : goal.returns-in-Ok-clause-ends
returns-in-Ok-clause-ends g c =
    let port = port_of g.K.Sink.held g.K.Sink.faults in
    ok_ends c.args.spec.now (g.E.Source.left c.args.extra.now) c.in-Ok.tally c.status_of.result (port c.args.out.now) (port c.upgrade_all.new.out) c.status_of.ensures c.in-Ok.ensures.upgraded

pub returns-in-Err-Long-clause-ends : goal.returns-in-Err-Long-clause-ends
returns-in-Err-Long-clause-ends g c =
    long_ends (port_of g.K.Sink.held g.K.Sink.faults) c.args.out.now c.upgrade_all.new.out c.refuse.new.out c.args.spec.now (g.E.Source.left c.args.extra.now) c.refuse.result c.in-Err-Long.field-0
    c.in-Err-Long.field-0-is c.in-Err-Long.ensures.unwritten c.in-Err-Long.ensures.upgraded c.refuse.ensures.ends

pub returns-in-Err-Line-clause-ends : goal.returns-in-Err-Line-clause-ends
returns-in-Err-Line-clause-ends g c =
    let is = c.in-Err-Line.field-0-is in
    line_ends (port_of g.K.Sink.held g.K.Sink.faults) c.args.out.now c.upgrade_all.new.out c.refuse-in-Err-Line.new.out c.args.spec.now (g.E.Source.left c.args.extra.now) c.refuse-in-Err-Line.result c.in-Err-Line.number c.in-Err-Line.kind
    (rw is at c.in-Err-Line.ensures.unwritten tt) (rw is at c.in-Err-Line.ensures.upgraded) c.refuse-in-Err-Line.ensures.ends

pub returns-in-Err-Fault-clause-ends : goal.returns-in-Err-Fault-clause-ends
returns-in-Err-Fault-clause-ends g c =
    let port = port_of g.K.Sink.held g.K.Sink.faults in
    let is = c.in-Err-Fault.field-0-is in
    fault_ends c.args.spec.now (g.E.Source.left c.args.extra.now) (port c.args.out.now) (port c.upgrade_all.new.out) (rw is at c.in-Err-Fault.ensures.upgraded)

pub returns-in-Err-WriteFault-clause-ends : goal.returns-in-Err-WriteFault-clause-ends
returns-in-Err-WriteFault-clause-ends g c =
    let port = port_of g.K.Sink.held g.K.Sink.faults in
    let is = c.in-Err-WriteFault.field-0-is in
    write_fault_ends c.args.spec.now (g.E.Source.left c.args.extra.now) (port c.args.out.now) (port c.upgrade_all.new.out) (rw is at c.in-Err-WriteFault.ensures.upgraded) (c.in-Err-WriteFault.ensures.write_fault (let e = c.in-Err-WriteFault.field-0-is in cc))

pub returns-in-Err-Memory-clause-ends : goal.returns-in-Err-Memory-clause-ends
returns-in-Err-Memory-clause-ends g c =
    let port = port_of g.K.Sink.held g.K.Sink.faults in
    let is = c.in-Err-Memory.field-0-is in
    memory_ends c.args.spec.now (g.E.Source.left c.args.extra.now) (port c.args.out.now) (port c.upgrade_all.new.out) (rw is at c.in-Err-Memory.ensures.upgraded)

-- ---- that the source was read to its end

pub returns-in-Ok-clause-end : goal.returns-in-Ok-clause-end
returns-in-Ok-clause-end g c = λ below. read_at_end most_report_bytes (g.E.Source.left c.args.extra.now) (g.E.Source.left c.upgrade_all.new.report) (c.in-Ok.ensures.end tt)

pub returns-in-Err-Long-clause-end : goal.returns-in-Err-Long-clause-end
returns-in-Err-Long-clause-end g c = λ below.
    long_upgrade c.args.spec.now (g.E.Source.left c.args.extra.now) (g.K.Sink.held c.args.out.now) (g.K.Sink.held c.upgrade_all.new.out) (g.E.Source.left c.upgrade_all.new.report) c.in-Err-Long.field-0
    c.in-Err-Long.field-0-is c.in-Err-Long.ensures.upgraded

pub returns-in-Err-Line-clause-end : goal.returns-in-Err-Line-clause-end
returns-in-Err-Line-clause-end g c = λ below.
    let is = c.in-Err-Line.field-0-is in
    read_at_end most_report_bytes (g.E.Source.left c.args.extra.now) (g.E.Source.left c.upgrade_all.new.report) (rw is at c.in-Err-Line.ensures.end tt)
