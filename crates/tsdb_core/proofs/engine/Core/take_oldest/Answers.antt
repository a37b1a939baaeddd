use Rattle.std.proofs.Common.{◌+◌, ap, refl, subst, sym, ◌∙◌}
use Rattle.tsdb_core.proofs.Commits.{not_taken, not_taken_world, on_err}
use Rattle.tsdb_core.proofs.Oldest.{count_is}
use Rattle.tsdb_core.proofs.Taking.{flush_taken, taken_world}
use Rattle.tsdb_fileset.specs.Taking.{IsJobTaken}
use Rattle.tsdb_core.proofs.engine.Core.take_oldest.Goals as goal

pub returns-in_err-reserve_flushed-clause-not : goal.returns-in_err-reserve_flushed-clause-not
returns-in_err-reserve_flushed-clause-not g c = on_err _ (not_taken c.args.self.now c.reserve_flushed.new.self
    c.args.self.now.files c.in_err-reserve_flushed.ensures.kept
    (record { store = refl; sequence = refl; unsequence = refl; outgoing = refl })
    (record { files = λ n. refl; places = λ n is. is }) refl)

pub returns-in_err-job-clause-not : goal.returns-in_err-job-clause-not
returns-in_err-job-clause-not g c = on_err _ (not_taken c.args.self.now c.reserve_flushed.new.self
    c.args.self.now.files c.in_ok-reserve_flushed.ensures.kept
    (record { store = refl; sequence = refl; unsequence = refl; outgoing = refl })
    (record { files = λ n. refl; places = λ n is. is }) refl)

pub returns-in_err-prepare_flush-clause-not : goal.returns-in_err-prepare_flush-clause-not
returns-in_err-prepare_flush-clause-not g c = on_err _ (not_taken c.args.self.now c.reserve_flushed.new.self
    c.prepare_flush.new.self c.in_ok-reserve_flushed.ensures.kept c.in_err-prepare_flush.ensures.lists
    c.in_err-prepare_flush.ensures.files c.in_err-prepare_flush.ensures.memory)

pub returns-clause-taken : goal.returns-clause-taken
returns-clause-taken g c = flush_taken c.args.self.now c.reserve_flushed.new.self c.prepare_flush.new.self
    c.in_ok-job.job
    (c.args.self.now.next_file + c.count_drawn.result) c.in_ok-reserve_flushed.ensures.kept
    c.in_ok-reserve_flushed.ensures.room c.in_ok-job.ensures.job
    (subst (λ store. IsJobTaken store c.args.self.now.next_file c.in_ok-job.job) c.memory.ensures
    c.in_ok-job.ensures.taken) c.in_ok-job.ensures.some
    c.requires.left c.in_ok-prepare_flush.ensures.lists c.in_ok-prepare_flush.ensures.files
    c.in_ok-prepare_flush.ensures.places c.in_ok-prepare_flush.ensures.room
    (ap (λ n. c.args.self.now.next_file + n) (c.count_drawn.ensures ∙ sym (count_is c.in_ok-job.job)))

pub returns-in_err-reserve_flushed-clause-world : goal.returns-in_err-reserve_flushed-clause-world
returns-in_err-reserve_flushed-clause-world g c = not_taken_world c.args.self.now _ (not_taken c.args.self.now
    c.reserve_flushed.new.self c.args.self.now.files c.in_err-reserve_flushed.ensures.kept
    (record { store = refl; sequence = refl; unsequence = refl; outgoing = refl })
    (record { files = λ n. refl; places = λ n is. is }) refl)

pub returns-in_err-job-clause-world : goal.returns-in_err-job-clause-world
returns-in_err-job-clause-world g c = not_taken_world c.args.self.now _ (not_taken c.args.self.now
    c.reserve_flushed.new.self c.args.self.now.files c.in_ok-reserve_flushed.ensures.kept
    (record { store = refl; sequence = refl; unsequence = refl; outgoing = refl })
    (record { files = λ n. refl; places = λ n is. is }) refl)

pub returns-in_err-prepare_flush-clause-world : goal.returns-in_err-prepare_flush-clause-world
returns-in_err-prepare_flush-clause-world g c = not_taken_world c.args.self.now _ (not_taken c.args.self.now
    c.reserve_flushed.new.self c.prepare_flush.new.self c.in_ok-reserve_flushed.ensures.kept
    c.in_err-prepare_flush.ensures.lists c.in_err-prepare_flush.ensures.files c.in_err-prepare_flush.ensures.memory)

pub returns-clause-world : goal.returns-clause-world
returns-clause-world g c = taken_world c.args.self.now _ c.in_ok-job.job
    (flush_taken c.args.self.now c.reserve_flushed.new.self c.prepare_flush.new.self c.in_ok-job.job
    (c.args.self.now.next_file + c.count_drawn.result) c.in_ok-reserve_flushed.ensures.kept
    c.in_ok-reserve_flushed.ensures.room c.in_ok-job.ensures.job
    (subst (λ store. IsJobTaken store c.args.self.now.next_file c.in_ok-job.job) c.memory.ensures
    c.in_ok-job.ensures.taken) c.in_ok-job.ensures.some
    c.requires.left c.in_ok-prepare_flush.ensures.lists c.in_ok-prepare_flush.ensures.files
    c.in_ok-prepare_flush.ensures.places c.in_ok-prepare_flush.ensures.room
    (ap (λ n. c.args.self.now.next_file + n) (c.count_drawn.ensures ∙ sym (count_is c.in_ok-job.job))))
