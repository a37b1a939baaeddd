use Rattle.tsdb_state.proofs.Parts.{late_files_below, late_pair_below, parts_below, parts_rise}
use Rattle.tsdb_state.proofs.order_laws.order_of_times.Goals as goal

pub returns-clause-sequence_parts_rise : goal.returns-clause-sequence_parts_rise
returns-clause-sequence_parts_rise c told state order = parts_rise told state order.layers

pub returns-clause-below_the_watermark : goal.returns-clause-below_the_watermark
returns-clause-below_the_watermark c told state order = parts_below told state order.layers

pub returns-clause-above_the_watermark : goal.returns-clause-above_the_watermark
returns-clause-above_the_watermark c told state order = order.layers.above

pub returns-clause-unsequence_files_below_sequence : goal.returns-clause-unsequence_files_below_sequence
returns-clause-unsequence_files_below_sequence c told state order = late_files_below told state order.layers

pub returns-clause-unsequence_pairs_below_sequence : goal.returns-clause-unsequence_pairs_below_sequence
returns-clause-unsequence_pairs_below_sequence c told state before pair behind order are =
    late_pair_below told state order.layers before pair behind are
