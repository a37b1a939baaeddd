use Rattle.std.proofs.Common.{◌+◌, ap, refl, subst, ◌∙◌}
use Rattle.tsdb_tasks.specs.Series.{AreSeriesOfJob, run_paths}
use Rattle.tsdb_core.proofs.Beginnings.{job_begun, plan_fits}
use Rattle.tsdb_core.proofs.BeginningsExits.{memory_taken, untouched}
use Rattle.tsdb_core.proofs.Commits.{on_err}
use Rattle.tsdb_memory.specs.Store.{MemoryState}
use Rattle.tsdb_core.proofs.engine.Core.take_inputs.Goals as goal

pub input_count-requires-clause-sequence : goal.input_count-requires-clause-sequence
input_count-requires-clause-sequence g c =
    (plan_fits c.args.space c.args.self.now c.args.runs c.requires.plan).sequence.rises

pub input_count-requires-clause-unsequence : goal.input_count-requires-clause-unsequence
input_count-requires-clause-unsequence g c =
    (plan_fits c.args.space c.args.self.now c.args.runs c.requires.plan).unsequence.rises

pub returns-in_err-reserve_replaced-clause-not : goal.returns-in_err-reserve_replaced-clause-not
returns-in_err-reserve_replaced-clause-not g c = on_err _ (memory_taken c.args.self.now c.reserve_replaced.new.self
    c.in_err-reserve_replaced.ensures.kept)

pub job_series-requires-clause-sequence : goal.job_series-requires-clause-sequence
job_series-requires-clause-sequence g c κs within =
    (plan_fits c.args.space c.args.self.now c.args.runs c.requires.plan).sequence

pub job_series-requires-clause-unsequence : goal.job_series-requires-clause-unsequence
job_series-requires-clause-unsequence g c κs within =
    (plan_fits c.args.space c.args.self.now c.args.runs c.requires.plan).unsequence

pub returns-in_err-series-clause-not : goal.returns-in_err-series-clause-not
returns-in_err-series-clause-not g c = on_err _ (memory_taken c.args.self.now c.reserve_replaced.new.self
    c.in_ok-reserve_replaced.ensures.kept)

pub take_job_inputs-requires-clause-sequence : goal.take_job_inputs-requires-clause-sequence
take_job_inputs-requires-clause-sequence g c κs within =
    (plan_fits c.args.space c.args.self.now c.args.runs c.requires.plan).sequence

pub take_job_inputs-requires-clause-unsequence : goal.take_job_inputs-requires-clause-unsequence
take_job_inputs-requires-clause-unsequence g c κs within =
    (plan_fits c.args.space c.args.self.now c.args.runs c.requires.plan).unsequence

pub returns-in_err-inputs-clause-not : goal.returns-in_err-inputs-clause-not
returns-in_err-inputs-clause-not g c = on_err _ (untouched c.args.self.now c.reserve_replaced.new.self
    c.take_job_inputs.new.files c.in_ok-reserve_replaced.ensures.kept c.in_err-inputs.ensures.memory)

pub returns-clause-begun : goal.returns-clause-begun
returns-clause-begun g c = job_begun g.F.Right.ReadRight.file c.args.self.now c.reserve_replaced.new.self
    c.take_job_inputs.new.files (c.args.self.now.next_file + 1) c.claims_sequence-self.result c.args.space c.args.runs
    c.in_ok-input_count.field-0 c.in_ok-series.series c.in_ok-inputs.field-0 c.requires.plan c.requires.kept
    c.requires.left c.in_ok-reserve_replaced.ensures.kept c.in_ok-input_count.ensures.count
    c.in_ok-input_count.ensures.few_sequence c.in_ok-input_count.ensures.few_late c.in_ok-reserve_replaced.ensures.room
    (subst (λ (store : MemoryState). AreSeriesOfJob (run_paths c.args.runs c.args.self.now.files) store c.in_ok-series.series)
    c.memory.ensures c.in_ok-series.ensures) c.in_ok-inputs.ensures.ok refl c.claims_sequence-self.ensures c.stamp.result
    (c.stamp.ensures.value ∙ ap (λ (store : MemoryState). store.stamp) c.memory-2.ensures)
