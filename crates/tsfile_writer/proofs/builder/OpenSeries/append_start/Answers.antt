use Rattle.std.proofs.lemmas.Grind.{common_steps}
use Rattle.std.proofs.Common.{◌≡◌, ℕ, ◌++◌, Bool, sym, ◌∙◌, ap, arith}
use Rattle.std.specs.declared.vec.Vec.{Vec}
use Rattle.std.specs.Global.{Global}
use Rattle.std.proofs.lemmas.List.{append-nil}
use Rattle.tsfile_writer.specs.Steps.{start_if}
use Rattle.tsfile_writer.proofs.Waiting.{started}
use Rattle.tsfile_writer.proofs.builder.OpenSeries.append_start.Goals as goal
use Rattle.tsfile_writer.proofs.builder.OpenSeries.append_start.Goals.{then-begins_group+in_ok-append_group_start, else-begins_group}

pub returns-clause-ok : goal.returns-clause-ok
returns-clause-ok c =
    let self = c.args.self.now in
    let first : c.if-begins_group.into.items ≡ c.args.into.now.items ++ start_if c.begins_group.result c.in_ok-device.device = elim c.if-begins_group.branch [
      | then-begins_group+in_ok-append_group_start w ↦ ap (λ (v : Vec ℕ Global). v.items) w.into-is ∙ w.in_ok-append_group_start.ensures.ok
          ∙ ap (λ (b : Bool). c.args.into.now.items ++ start_if b c.in_ok-device.device) (sym w.if-begins_group.true)
      | else-begins_group w ↦ ap (λ (v : Vec ℕ Global). v.items) w.into-is ∙ sym (append-nil c.args.into.now.items)
          ∙ ap (λ (b : Bool). c.args.into.now.items ++ start_if b c.in_ok-device.device) (sym w.if-begins_group.false)
    ]
    in
    started c.append_chunk.result self.path self.data_type self.encoding self.points.items c.args.entries.now c.args.into.now.items c.if-begins_group.into.items c.append_chunk.new.into.items c.begins_group.result
    c.in_ok-device.device c.in_ok-measurement.measurement c.deref.result.now c.in_ok-device.ensures.value c.in_ok-measurement.ensures.value c.deref.ensures.value c.begins_group.ensures first c.append_chunk.ensures.bytes c.append_chunk.ensures.chunk c.append_chunk.ensures.sums

pub returns-in_err-device-clause-kept : goal.returns-in_err-device-clause-kept
returns-in_err-device-clause-kept c = grind (arith, common_steps)

pub returns-in_err-measurement-clause-kept : goal.returns-in_err-measurement-clause-kept
returns-in_err-measurement-clause-kept c = grind (arith, common_steps)

pub returns-clause-kept : goal.returns-clause-kept
returns-clause-kept c = grind (arith, common_steps)
