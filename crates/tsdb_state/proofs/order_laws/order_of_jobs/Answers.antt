use Rattle.tsdb_state.proofs.Parts.{numbers_differ}
use Rattle.tsdb_state.specs.Jobs.{drawn_numbers}
use Rattle.tsdb_state.specs.Order.{all_files}
use Rattle.tsdb_state.proofs.order_laws.order_of_jobs.Goals as goal

pub returns-clause-distinct_file_numbers : goal.returns-clause-distinct_file_numbers
returns-clause-distinct_file_numbers c told known named state order =
    numbers_differ named state.next_file (all_files state) (drawn_numbers state.flushes state.compactions) order.numbers

pub returns-clause-inputs_stand : goal.returns-clause-inputs_stand
returns-clause-inputs_stand c told known named state order = order.compactions.stand

pub returns-clause-claims_match : goal.returns-clause-claims_match
returns-clause-claims_match c told known named state order = order.compactions.apart

pub returns-clause-marks_of_a_job : goal.returns-clause-marks_of_a_job
returns-clause-marks_of_a_job c told known named state order = order.compactions.marked

pub returns-clause-room_kept : goal.returns-clause-room_kept
returns-clause-room_kept c told known named state order = order.room

pub returns-clause-flush_jobs : goal.returns-clause-flush_jobs
returns-clause-flush_jobs c told known named state order = order.flushes

pub returns-clause-entries : goal.returns-clause-entries
returns-clause-entries c told known named state order = order.entries

pub returns-clause-rights : goal.returns-clause-rights
returns-clause-rights c told known named state order = order.rights
