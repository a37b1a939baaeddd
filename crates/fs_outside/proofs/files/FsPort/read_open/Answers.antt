use Rattle.std.proofs.Common.{◌∙◌, inl}
use Rattle.fs_outside.specs.Files.{port_directory}
use Rattle.fs_outside.proofs.CauseLemmas.{rose_later}
use Rattle.fs_outside.proofs.DirectoryLemmas.{always_on_err, bytes_read, where_err}
use Rattle.fs_outside.proofs.files.FsPort.read_open.Goals as goal

pub returns-in_err-file-clause-same : goal.returns-in_err-file-clause-same
returns-in_err-file-clause-same g c = c.open.ensures.same

pub returns-in_err-file-clause-store : goal.returns-in_err-file-clause-store
returns-in_err-file-clause-store g c = c.open.ensures.store

pub returns-in_err-file-clause-faults : goal.returns-in_err-file-clause-faults
returns-in_err-file-clause-faults g c = c.open.ensures.faults

pub returns-in_err-file-clause-reason : goal.returns-in_err-file-clause-reason
returns-in_err-file-clause-reason g c = always_on_err c.from_residual.result c.in_err-file.ensures.reason

pub returns-clause-bytes : goal.returns-clause-bytes
returns-clause-bytes g c =
    bytes_read c.read_at-answer.result (g.F.NumberedFile.number c.in_ok-file.file) c.args.number c.args.at c.read_at-answer.new.into
    (g.D.FileDirectory.told (port_directory c.args.self.now)) (g.D.FileDirectory.told (port_directory c.open.new.self))
    c.in_ok-file.ensures.number c.open.ensures.same c.read_at-answer.ensures.bytes

pub returns-clause-same : goal.returns-clause-same
returns-clause-same g c = c.read_at-answer.ensures.same.0 ∙ c.open.ensures.same

pub returns-clause-store : goal.returns-clause-store
returns-clause-store g c = c.open.ensures.store

pub returns-clause-faults : goal.returns-clause-faults
returns-clause-faults g c = c.open.ensures.faults

pub returns-clause-reason : goal.returns-clause-reason
returns-clause-reason g c = where_err c.read_at-answer.result (λ rose. inl (rose_later _ _ _ c.open.ensures.later rose))
    c.read_at-answer.ensures.cause.failed
