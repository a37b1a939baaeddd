use Rattle.std.proofs.Common.{refl, rules}
use Rattle.tsdb_frames.proofs.RecordLemmas.{gate_first, torn_at_first}
use Rattle.tsdb_frames.proofs.reading.start_of.Goals as goal

pub returns-in_default-split_record-clause-begins : goal.returns-in_default-split_record-clause-begins
returns-in_default-split_record-clause-begins c =
    torn_at_first c.args.bytes.now _ (gate_first c.args.bytes.now _ 1 refl c.requires (search rules))
    (c.split_record.ensures.none c.in_default-split_record.is)
