use Rattle.std.proofs.Common.{sym, ◌∙◌}
use Rattle.tsdb_querying.proofs.Out.{none_out, none_read}
use Rattle.use_core.proofs.use_core.Goals as goal

pub write_and_read-lines-requires-clause-ready : goal.write_and_read-lines-requires-clause-ready
write_and_read-lines-requires-clause-ready g c = λ lifetimes lives. none_out c.in-Ok-recover.core _
    c.in-Ok-recover.ensures.quiet c.in-Ok-recover.ensures.no_rights
    (record {
      sequence = c.in-Ok-recover.ensures.unclaimed.list;
      late = c.in-Ok-recover.ensures.unclaimed.files.unsequence;
    })
    (c.in-Ok.ensures.store ∙ sym c.port.ensures.same_store ∙ sym c.in-Ok-recover.ensures.of_store)

pub close-requires-clause-no_rights : goal.close-requires-clause-no_rights
close-requires-clause-no_rights g c = λ lifetimes lives. none_read c.write_and_read-lines.new.core _
    c.write_and_read-lines.ensures.ready
