use Rattle.std.proofs.Common.{refl}
use Rattle.tsdb_pin.proofs.Asked.{nothing_read, read_item, read_missing, whole}
use Rattle.tsdb_pin.proofs.items.read_items.Goals as goal
use Rattle.tsdb_pin.specs.Items.{is_unfit_for}

pub loop-item-init : goal.loop-item-init
loop-item-init c = nothing_read c.args.memory.now.series c.args.device.now c.in_ok-all.all.items c.in_ok-all.ensures.items

pub loop-item-preserved : goal.loop-item-preserved
loop-item-preserved c =
    rw c.stay_fit-fit.ensures
    (read_item c.args.memory.now.series c.args.device.now c.args.items.now c.loop-item.item-index c.loop-item.fit
    c.loop-item.all.items c.push.new.self.items c.item-item.result c.in_ok-asked.field-0 c.in-Series.asked
    (is_unfit_for c.in-Series.asked.aggregate c.in-Series.asked.schema.data_type) c.loop-item-test.true c.item-item.is
    c.loop-item.invariant c.in_ok-asked.ensures c.in-Series.is refl c.in_ok-push-in-Series.ensures.items)

pub returns-in-Missing : goal.returns-in-Missing
returns-in-Missing c = read_missing c.args.memory.now.series c.args.device.now c.args.items.now c.loop-item.item-index
    c.item-item.result c.in_ok-asked.field-0 c.loop-item-test.true c.item-item.is c.in_ok-asked.ensures c.in-Missing.is

pub returns-then-fit : goal.returns-then-fit
returns-then-fit c =
    let all = whole c.args.memory.now.series c.args.device.now c.args.items.now c.loop-item.item-index c.loop-item.fit
    c.loop-item.all.items c.loop-item-test.false c.loop-item.invariant in
    (all.fits c.if-fit.true, all.asked)

pub returns-else-fit : goal.returns-else-fit
returns-else-fit c =
    let all = whole c.args.memory.now.series c.args.device.now c.args.items.now c.loop-item.item-index c.loop-item.fit
    c.loop-item.all.items c.loop-item-test.false c.loop-item.invariant in
    (all.there, all.unfit c.if-fit.false)
