-- A record that its bytes can hold has few enough parts to be written.
use Rattle.tsdb_log.specs.Spelling.{HasFewParts, IsRecord}
use Rattle.tsdb_log.specs.declared.record.LogRecord.{LogRecord}
use Rattle.tsdb_log.specs.declared.record.LogRecord.TheVariants.{Create, Insert, Delete, Freeze, Flushed, Replaced}
use Rattle.tsdb_log.specs.declared.record.LogRecord.TheVariants.{Snapshot}

pub few_parts : (item : LogRecord) → IsRecord item → HasFewParts item
few_parts (Create path data_type encoding) is = tt
few_parts (Insert time cells) is = is.1
few_parts (Delete path range) is = tt
few_parts Freeze is = tt
few_parts (Flushed sequence unsequence) is = tt
few_parts (Replaced born space place output sequence unsequence) is = (is.3.0, is.4.0)
few_parts (Snapshot snapshot) is = is.frozen.0
