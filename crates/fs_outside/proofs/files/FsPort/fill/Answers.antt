use Rattle.std.proofs.Common.{map, refl}
use Rattle.fs_outside.specs.Directory.{change_one, with_bytes, with_synced_bytes, with_synced_name}
use Rattle.fs_outside.specs.Files.{port_directory}
use Rattle.fs_outside.proofs.CauseLemmas.{cause_passed, cause_then, same_count}
use Rattle.fs_outside.proofs.DirectoryLemmas.{always_on_err, becomes_twice, where_err, where_ok, same_but_written, same_but_synced, same_but_then, same_but_equal}
use Rattle.fs_outside.proofs.files.FsPort.fill.Goals as goal

pub returns-in_err-sync_file-clause-others : goal.returns-in_err-sync_file-clause-others
returns-in_err-sync_file-clause-others g c =
    let n = g.F.NumberedFile.number c.args.file.now in
    let before = g.D.FileDirectory.told (port_directory c.args.self.now) in
    let written = g.D.FileDirectory.told c.write_all.new.self in
    let synced = g.D.FileDirectory.told c.sync_file.new.self in
    always_on_err c.from_residual-in_err-sync_file.result (same_but_then n before written synced
    (same_but_written n c.args.bytes.now before written c.in_ok-write_all.ensures.ok)
    (same_but_equal n written synced c.in_err-sync_file.ensures.err))

pub returns-clause-others : goal.returns-clause-others
returns-clause-others g c =
    let n = g.F.NumberedFile.number c.args.file.now in
    let before = g.D.FileDirectory.told (port_directory c.args.self.now) in
    let written = g.D.FileDirectory.told c.write_all.new.self in
    let synced = g.D.FileDirectory.told c.sync_file.new.self in
    let named = g.D.FileDirectory.told c.sync_names.new.self in
    where_err c.sync_names.result (λ same. same_but_then n before synced named
    (same_but_then n before written synced
    (same_but_written n c.args.bytes.now before written c.in_ok-write_all.ensures.ok)
    (same_but_synced n written synced c.in_ok-sync_file.ensures.ok))
    (same_but_equal n synced named same)) c.sync_names.ensures.err

pub returns-in_err-write_all-clause-others : goal.returns-in_err-write_all-clause-others
returns-in_err-write_all-clause-others g c = always_on_err c.from_residual.result c.in_err-write_all.ensures.err

pub returns-in_err-write_all-clause-store : goal.returns-in_err-write_all-clause-store
returns-in_err-write_all-clause-store g c = refl

pub returns-in_err-write_all-clause-faults : goal.returns-in_err-write_all-clause-faults
returns-in_err-write_all-clause-faults g c = refl

pub returns-in_err-write_all-clause-reason : goal.returns-in_err-write_all-clause-reason
returns-in_err-write_all-clause-reason g c =
    cause_passed c.from_residual.result _ _ _ (same_count _) c.write_all.ensures.cause.later c.in_err-write_all.ensures.cause.failed

pub returns-in_err-sync_file-clause-store : goal.returns-in_err-sync_file-clause-store
returns-in_err-sync_file-clause-store g c = refl

pub returns-in_err-sync_file-clause-faults : goal.returns-in_err-sync_file-clause-faults
returns-in_err-sync_file-clause-faults g c = refl

pub returns-in_err-sync_file-clause-reason : goal.returns-in_err-sync_file-clause-reason
returns-in_err-sync_file-clause-reason g c = cause_passed c.from_residual-in_err-sync_file.result _ _ _ c.write_all.ensures.cause.later
    c.sync_file.ensures.cause.later c.in_err-sync_file.ensures.cause.failed

pub returns-clause-durable : goal.returns-clause-durable
returns-clause-durable g c =
    let n = g.F.NumberedFile.number c.args.file.now in
    let before = g.D.FileDirectory.told (port_directory c.args.self.now) in
    let written = g.D.FileDirectory.told c.write_all.new.self in
    let synced = g.D.FileDirectory.told c.sync_file.new.self in
    let named = g.D.FileDirectory.told c.sync_names.new.self in
    where_ok c.sync_names.result (λ is. becomes_twice (λ files. change_one n with_synced_bytes (change_one n (with_bytes c.args.bytes.now) files))
    (map with_synced_name) before synced named (becomes_twice (change_one n (with_bytes c.args.bytes.now)) (change_one n with_synced_bytes) before
    written synced c.in_ok-write_all.ensures.ok c.in_ok-sync_file.ensures.ok) is) c.sync_names.ensures.ok

pub returns-clause-store : goal.returns-clause-store
returns-clause-store g c = refl

pub returns-clause-faults : goal.returns-clause-faults
returns-clause-faults g c = refl

pub returns-clause-reason : goal.returns-clause-reason
returns-clause-reason g c = cause_then c.sync_names.result _ _ _ c.write_all.ensures.cause.later
    (cause_then c.sync_names.result _ _ _ c.sync_file.ensures.cause.later c.sync_names.ensures.cause)
