use Rattle.std.proofs.Common.{Err, refl, sym, subst, arith}
use Rattle.report_upgrader.specs.declared.refused.UpgradeRefused.{UpgradeRefused}
use Rattle.report_upgrader.specs.Upgrading.{IsUpgraded}
use Rattle.report_upgrader.proofs.Held.{refused_so, written_so, stopped_so, no_read, no_write}
use Rattle.report_upgrader.proofs.upgrading.upgrade_noted.Goals as goal

pub verify_held-requires : goal.verify_held-requires
verify_held-requires g c = record { few = c.requires.few; none = c.requires.none }

-- ---- a report that is refused

pub returns-in-Err-clause-upgraded : goal.returns-in-Err-clause-upgraded
returns-in-Err-clause-upgraded g c =
    let held = g.K.Sink.held c.args.out.now in
    subst (λ (x : UpgradeRefused). IsUpgraded c.args.spec.now c.args.bytes.now held held (Err x)) (sym c.refused.ensures)
    (refused_so c.args.spec.now c.args.bytes.now held c.in-Err.why c.in-Err.ensures.verified)

pub returns-in-Err-clause-unwritten : goal.returns-in-Err-clause-unwritten
returns-in-Err-clause-unwritten g c = λ e. refl

pub returns-in-Err-clause-no_read : goal.returns-in-Err-clause-no_read
returns-in-Err-clause-no_read g c = no_read c.in-Err.why c.refused.result c.refused.ensures c.in-Err.ensures.no_read

pub returns-in-Err-clause-write_fault : goal.returns-in-Err-clause-write_fault
returns-in-Err-clause-write_fault g c = λ e. absurd (no_write c.in-Err.why c.refused.result c.refused.ensures e)

pub returns-in-Err-clause-never_falls : goal.returns-in-Err-clause-never_falls
returns-in-Err-clause-never_falls g c = omega arith

-- ---- the upgraded report is written

pub returns-in-Ok-write_upgraded-clause-upgraded : goal.returns-in-Ok-write_upgraded-clause-upgraded
returns-in-Ok-write_upgraded-clause-upgraded g c =
    let accepted = c.in-Ok.ensures.verified.1 in
    written_so c.args.spec.now c.args.bytes.now c.in-Ok.tally (g.K.Sink.held c.args.out.now) (g.K.Sink.held c.write_upgraded.new.out) accepted c.requires.few
    (c.in-Ok-write_upgraded.ensures.ok accepted.report accepted.bytes_of.can_stand accepted.bytes_of.same)

pub returns-in-Ok-write_upgraded-clause-unwritten : goal.returns-in-Ok-write_upgraded-clause-unwritten
returns-in-Ok-write_upgraded-clause-unwritten g c = λ e. absurd e

pub returns-in-Ok-write_upgraded-clause-no_read : goal.returns-in-Ok-write_upgraded-clause-no_read
returns-in-Ok-write_upgraded-clause-no_read g c = λ e. cc

pub returns-in-Ok-write_upgraded-clause-write_fault : goal.returns-in-Ok-write_upgraded-clause-write_fault
returns-in-Ok-write_upgraded-clause-write_fault g c = λ e. absurd cc

pub returns-in-Ok-write_upgraded-clause-never_falls : goal.returns-in-Ok-write_upgraded-clause-never_falls
returns-in-Ok-write_upgraded-clause-never_falls g c = c.write_upgraded.ensures.never_falls

-- ---- or a front of it

pub returns-in-Err-Fault-clause-upgraded : goal.returns-in-Err-Fault-clause-upgraded
returns-in-Err-Fault-clause-upgraded g c =
    let accepted = c.in-Ok.ensures.verified.1 in
    stopped_so c.args.spec.now c.args.bytes.now c.in-Ok.tally (g.K.Sink.held c.args.out.now) (g.K.Sink.held c.write_upgraded.new.out) accepted c.requires.few
    (c.in-Err-Fault.ensures.front accepted.report accepted.bytes_of.can_stand accepted.bytes_of.same)

pub returns-in-Err-Fault-clause-unwritten : goal.returns-in-Err-Fault-clause-unwritten
returns-in-Err-Fault-clause-unwritten g c = λ e. absurd e

pub returns-in-Err-Fault-clause-no_read : goal.returns-in-Err-Fault-clause-no_read
returns-in-Err-Fault-clause-no_read g c = λ e. cc

pub returns-in-Err-Fault-clause-write_fault : goal.returns-in-Err-Fault-clause-write_fault
returns-in-Err-Fault-clause-write_fault g c = λ e. c.in-Err-Fault.ensures.fault c.in-Err-Fault.field-0-is

pub returns-in-Err-Fault-clause-never_falls : goal.returns-in-Err-Fault-clause-never_falls
returns-in-Err-Fault-clause-never_falls g c = c.write_upgraded.ensures.never_falls

pub returns-in-Err-Memory-clause-upgraded : goal.returns-in-Err-Memory-clause-upgraded
returns-in-Err-Memory-clause-upgraded g c =
    let accepted = c.in-Ok.ensures.verified.1 in
    stopped_so c.args.spec.now c.args.bytes.now c.in-Ok.tally (g.K.Sink.held c.args.out.now) (g.K.Sink.held c.write_upgraded.new.out) accepted c.requires.few
    (c.in-Err-Memory.ensures.front accepted.report accepted.bytes_of.can_stand accepted.bytes_of.same)

pub returns-in-Err-Memory-clause-unwritten : goal.returns-in-Err-Memory-clause-unwritten
returns-in-Err-Memory-clause-unwritten g c = λ e. absurd e

pub returns-in-Err-Memory-clause-no_read : goal.returns-in-Err-Memory-clause-no_read
returns-in-Err-Memory-clause-no_read g c = λ e. cc

pub returns-in-Err-Memory-clause-write_fault : goal.returns-in-Err-Memory-clause-write_fault
returns-in-Err-Memory-clause-write_fault g c = λ e. absurd cc

pub returns-in-Err-Memory-clause-never_falls : goal.returns-in-Err-Memory-clause-never_falls
returns-in-Err-Memory-clause-never_falls g c = c.write_upgraded.ensures.never_falls
