use Rattle.std.proofs.Common.{◌≡◌, ◌+◌, length, subst, sym}
use Rattle.std.specs.Option.{option_map}
use Rattle.tsdb_tasks.specs.Files.{file_built}
use Rattle.tsdb_core.proofs.Replacements.{all_inputs, committed_from}
use Rattle.tsdb_core.specs.Replacements.{EndsFiles, without_claim}
use Rattle.tsdb_core.proofs.engine.Core.commit_job.Goals as goal

pub returns : goal.returns
returns g c = committed_from g.F.Right.ReadRight.file g.F.Sealed.SealedFile.file g.F.Sealed.SealedFile.rights c.args.job
    c.args.output c.args.self.now c.log_end-job.new.self c.free_sequence.new.self c.end_files.new.self
    c.runs_of-runs.result c.log_end-job.result.1 c.requires.out c.sound.ensures.kept c.requires.output
    c.runs_of-runs.ensures c.log_end-job.ensures.rest c.log_end-job.ensures.logged
    (subst (λ job. c.free_sequence.new.self ≡ record c.log_end-job.new.self {
      sequence_claimed = without_claim job.space c.log_end-job.new.self.sequence_claimed;
    }) c.log_end-job.ensures.job c.free_sequence.ensures)
    c.end_files.ensures.rest
    (subst (λ job. EndsFiles job c.runs_of-runs.result (option_map (file_built g.F.Sealed.SealedFile.file) c.args.output)
    c.free_sequence.new.self.files c.end_files.new.self.files c.log_end-job.result.1) c.log_end-job.ensures.job
    c.end_files.ensures.files)

pub end_files-requires-clause-all : goal.end_files-requires-clause-all
end_files-requires-clause-all g c = λ lifetimes lives.
    subst (λ job. length job.sequence + length job.unsequence ≡ length job.inputs) (sym c.log_end-job.ensures.job)
    (all_inputs c.args.job c.requires.out.kept.formed)
