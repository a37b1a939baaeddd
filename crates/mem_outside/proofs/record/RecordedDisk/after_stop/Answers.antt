use Rattle.std.proofs.Common.{◌≤◌, List, length, take, sym, ap, ◌∙◌, arith}
use Rattle.std.proofs.lemmas.List.{take_all}
use Rattle.tsdb_outside.specs.Disk.{in_slot}
use Rattle.mem_outside.specs.declared.record.Call.{Call}
use Rattle.mem_outside.specs.Record.{slot_after_stop}
use Rattle.mem_outside.specs.RecordedDisk.{disk_first}
use Rattle.mem_outside.proofs.record.RecordedDisk.after_stop.Goals as goal

pub returns : goal.returns
returns c =
    let over : length (take c.args.moment c.deref.result.now) ≤ c.loop-call.call-index = omega arith in
    sym c.loop-call.invariant.left_is
    ∙ ap (λ (l : List Call). slot_after_stop c.args.stop c.args.slot (in_slot c.args.slot (disk_first c.args.self.now)) l)
    (take_all c.loop-call.call-index (take c.args.moment c.deref.result.now) over ∙ ap (λ (l : List Call). take c.args.moment l) c.deref.ensures.value)
