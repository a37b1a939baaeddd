use Rattle.std.proofs.Common.{subst}
use Rattle.tsdb_pin.proofs.Changing.{nothing_changed}
use Rattle.tsdb_pin.proofs.Pinned.{pin_for, stated}
use Rattle.tsdb_pin.specs.Items.{AreRead}
use Rattle.tsdb_pin.proofs.taking.take_pin.Goals as goal

pub returns-in-Ok-clause-answer : goal.returns-in-Ok-clause-answer
returns-in-Ok-clause-answer g c =
    (subst (AreRead c.args.memory.now.series c.args.device.now c.args.items.now) c.in-Ok-Ok.field-0-is
    c.in-Ok-Ok.ensures).0

pub returns-in-Ok-clause-pin : goal.returns-in-Ok-clause-pin
returns-in-Ok-clause-pin g c =
    let read = subst (AreRead c.args.memory.now.series c.args.device.now c.args.items.now) c.in-Ok-Ok.field-0-is
    c.in-Ok-Ok.ensures in
    pin_for g.F.Right.ReadRight.file c.args.files.now c.args.memory.now c.args.device.now c.args.range.now
    c.args.items.now c.in-Ok-Ok.all.items c.take_all.new.files c.in-Ok.pin read.1 c.in-Ok.ensures.ok

pub returns-in-Ok-clause-rights : goal.returns-in-Ok-clause-rights
returns-in-Ok-clause-rights g c = (c.in-Ok.ensures.ok.rights, c.in-Ok.ensures.ok.held)

pub returns-in-Ok-clause-state : goal.returns-in-Ok-clause-state
returns-in-Ok-clause-state g c =
    let read = subst (AreRead c.args.memory.now.series c.args.device.now c.args.items.now) c.in-Ok-Ok.field-0-is
    c.in-Ok-Ok.ensures in
    λ known engine memory are. stated g.F.Right.ReadRight.file c.args.files.now c.args.memory.now known engine memory are
    c.sound.ensures.kept c.args.device.now c.args.range.now c.take_all.new.files c.args.items.now c.in-Ok.pin
    (pin_for g.F.Right.ReadRight.file c.args.files.now c.args.memory.now c.args.device.now c.args.range.now
    c.args.items.now c.in-Ok-Ok.all.items c.take_all.new.files c.in-Ok.pin read.1 c.in-Ok.ensures.ok)
    c.in-Ok.ensures.ok.rights

pub returns-in-Ok-Err-clause-answer : goal.returns-in-Ok-Err-clause-answer
returns-in-Ok-Err-clause-answer g c =
    subst (AreRead c.args.memory.now.series c.args.device.now c.args.items.now) c.in-Ok-Err.field-0-is
    c.in-Ok-Err.ensures

pub returns-in-Ok-Err-clause-rights : goal.returns-in-Ok-Err-clause-rights
returns-in-Ok-Err-clause-rights g c = nothing_changed c.args.files.now

pub returns-in-Err-clause-rights : goal.returns-in-Err-clause-rights
returns-in-Err-clause-rights g c = nothing_changed c.args.files.now
