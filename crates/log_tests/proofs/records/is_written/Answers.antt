use Rattle.log_tests.proofs.Few.{few_parts}
use Rattle.log_tests.proofs.records.is_written.Goals as goal

pub write_record-requires : goal.write_record-requires
write_record-requires g = few_parts g.args.item.now g.requires
