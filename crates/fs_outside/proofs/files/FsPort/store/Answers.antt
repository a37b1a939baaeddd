use Rattle.std.proofs.Common.{refl, sym, ◌∙◌, arith}
use Rattle.std.proofs.lemmas.Bool.{false≢true}
use Rattle.std.proofs.lemmas.Result.{IfOk-from_err}
use Rattle.fs_outside.specs.Files.{port_directory}
use Rattle.fs_outside.proofs.DirectoryLemmas.{always_on_err, put_is_durable, taken_away_same, same_but_equal, same_but_filled, same_but_same}
use Rattle.fs_outside.proofs.DirectoryLemmas.{others_after_removal, away_after_removal, not_taken, stays_taken_same}
use Rattle.fs_outside.proofs.files.FsPort.store.Goals as goal

pub returns-in-Ok-clause-durable : goal.returns-in-Ok-clause-durable
returns-in-Ok-clause-durable g c =
    put_is_durable c.args.number (g.F.NumberedFile.number c.in_ok-file.file) c.args.bytes.now
    (g.D.FileDirectory.told (port_directory c.args.self.now)) (g.D.FileDirectory.told c.create_new.new.self)
    (g.D.FileDirectory.told (port_directory c.fill.new.self)) c.in_ok-file.ensures.number c.in_ok-file.ensures.free
    c.in_ok-file.ensures.ok c.in-Ok.ensures.durable

pub returns-then-not-is_file_number-clause-away : goal.returns-then-not-is_file_number-clause-away
returns-then-not-is_file_number-clause-away g c =
    let before = g.D.FileDirectory.told (port_directory c.args.self.now) in
    let faults = g.D.FileDirectory.faults (port_directory c.args.self.now) in
    taken_away_same c.args.number faults faults before before refl

pub returns-in_err-file-clause-away : goal.returns-in_err-file-clause-away
returns-in_err-file-clause-away g c = always_on_err c.from_residual.result (taken_away_same c.args.number
    (g.D.FileDirectory.faults (port_directory c.args.self.now)) (g.D.FileDirectory.faults c.create_new.new.self)
    (g.D.FileDirectory.told (port_directory c.args.self.now)) (g.D.FileDirectory.told c.create_new.new.self)
    c.in_err-file.ensures.err)

pub returns-clause-others : goal.returns-clause-others
returns-clause-others g c = others_after_removal c.remove.result c.args.number
    (g.D.FileDirectory.told (port_directory c.args.self.now)) (g.D.FileDirectory.told (port_directory c.fill.new.self))
    (g.D.FileDirectory.told c.remove.new.self) (same_but_filled c.args.number (g.F.NumberedFile.number c.in_ok-file.file)
    (g.D.FileDirectory.told (port_directory c.args.self.now)) (g.D.FileDirectory.told c.create_new.new.self)
    (g.D.FileDirectory.told (port_directory c.fill.new.self)) c.in_ok-file.ensures.number c.in_ok-file.ensures.ok
    c.in-Err.ensures.others) c.remove.ensures.ok c.remove.ensures.err

pub returns-clause-away : goal.returns-clause-away
returns-clause-away g c = away_after_removal c.remove.result c.args.number
    (g.D.FileDirectory.faults (port_directory c.args.self.now)) (g.D.FileDirectory.faults c.create_new.new.self)
    (g.D.FileDirectory.faults (port_directory c.fill.new.self)) (g.D.FileDirectory.faults c.remove.new.self)
    (g.D.FileDirectory.told (port_directory c.args.self.now)) (g.D.FileDirectory.told (port_directory c.fill.new.self))
    (g.D.FileDirectory.told c.remove.new.self) (same_but_filled c.args.number (g.F.NumberedFile.number c.in_ok-file.file)
    (g.D.FileDirectory.told (port_directory c.args.self.now)) (g.D.FileDirectory.told c.create_new.new.self)
    (g.D.FileDirectory.told (port_directory c.fill.new.self)) c.in_ok-file.ensures.number c.in_ok-file.ensures.ok
    c.in-Err.ensures.others) c.in_ok-file.ensures.cause.later
    c.in-Err.ensures.reason.failed c.remove.ensures.cause c.remove.ensures.ok

pub returns-then-not-is_file_number-clause-others : goal.returns-then-not-is_file_number-clause-others
returns-then-not-is_file_number-clause-others g c = same_but_same c.args.number (g.D.FileDirectory.told (port_directory c.args.self.now))

pub returns-then-not-is_file_number-clause-there : goal.returns-then-not-is_file_number-clause-there
returns-then-not-is_file_number-clause-there g c =
    let before = g.D.FileDirectory.told (port_directory c.args.self.now) in
    stays_taken_same c.args.number before before refl

pub returns-then-not-is_file_number-clause-reason : goal.returns-then-not-is_file_number-clause-reason
returns-then-not-is_file_number-clause-reason g c = λ fits.
    absurd (false≢true (sym c.if-not-is_file_number.true ∙ c.is_file_number.ensures.says.1 fits))

pub returns-in_err-file-clause-others : goal.returns-in_err-file-clause-others
returns-in_err-file-clause-others g c = always_on_err c.from_residual.result (same_but_equal c.args.number
    (g.D.FileDirectory.told (port_directory c.args.self.now)) (g.D.FileDirectory.told c.create_new.new.self) c.in_err-file.ensures.err)

pub returns-in_err-file-clause-there : goal.returns-in_err-file-clause-there
returns-in_err-file-clause-there g c = always_on_err c.from_residual.result (stays_taken_same c.args.number
    (g.D.FileDirectory.told (port_directory c.args.self.now)) (g.D.FileDirectory.told c.create_new.new.self) c.in_err-file.ensures.err)

pub returns-in_err-file-clause-refused : goal.returns-in_err-file-clause-refused
returns-in_err-file-clause-refused g c = λ failed. c.from_residual.ensures.0

pub returns-in_err-file-clause-store : goal.returns-in_err-file-clause-store
returns-in_err-file-clause-store g c = refl

pub returns-in_err-file-clause-faults : goal.returns-in_err-file-clause-faults
returns-in_err-file-clause-faults g c = refl

pub returns-in_err-file-clause-reason : goal.returns-in_err-file-clause-reason
returns-in_err-file-clause-reason g c = always_on_err c.from_residual.result (λ fits. c.in_err-file.ensures.cause.failed)

pub returns-in-Ok-clause-number : goal.returns-in-Ok-clause-number
returns-in-Ok-clause-number g c = c.is_file_number.ensures.says.0 c.if-not-is_file_number.false

pub returns-in-Ok-clause-free : goal.returns-in-Ok-clause-free
returns-in-Ok-clause-free g c = c.in_ok-file.ensures.free

pub returns-in-Ok-clause-refused : goal.returns-in-Ok-clause-refused
returns-in-Ok-clause-refused g c = λ failed. absurd (false≢true (c.in_ok-file.ensures.refused failed))

pub returns-in-Ok-clause-store : goal.returns-in-Ok-clause-store
returns-in-Ok-clause-store g c = c.fill.ensures.store

pub returns-in-Ok-clause-faults : goal.returns-in-Ok-clause-faults
returns-in-Ok-clause-faults g c = c.fill.ensures.faults

pub returns-clause-there : goal.returns-clause-there
returns-clause-there g c = not_taken c.args.number (g.D.FileDirectory.told (port_directory c.args.self.now))
    (g.D.FileDirectory.told c.remove.new.self) c.in_ok-file.ensures.free

pub returns-clause-store : goal.returns-clause-store
returns-clause-store g c = c.fill.ensures.store

pub returns-clause-faults : goal.returns-clause-faults
returns-clause-faults g c = c.fill.ensures.faults

pub returns-clause-reason : goal.returns-clause-reason
returns-clause-reason g c = λ fits.
    omega (arith, c.in_ok-file.ensures.cause.later, c.in-Err.ensures.reason.failed, c.remove.ensures.cause.later)

pub returns-in_err-file-clause-number : goal.returns-in_err-file-clause-number
returns-in_err-file-clause-number g c = IfOk-from_err c.from_residual.result _ c.from_residual.ensures.0

pub returns-in_err-file-clause-durable : goal.returns-in_err-file-clause-durable
returns-in_err-file-clause-durable g c = IfOk-from_err c.from_residual.result _ c.from_residual.ensures.0

pub returns-in_err-file-clause-free : goal.returns-in_err-file-clause-free
returns-in_err-file-clause-free g c = IfOk-from_err c.from_residual.result _ c.from_residual.ensures.0

pub returns-in-Ok-clause-others : goal.returns-in-Ok-clause-others
returns-in-Ok-clause-others g c = tt

pub returns-in-Ok-clause-there : goal.returns-in-Ok-clause-there
returns-in-Ok-clause-there g c = tt

pub returns-in-Ok-clause-away : goal.returns-in-Ok-clause-away
returns-in-Ok-clause-away g c = tt

pub returns-in-Ok-clause-reason : goal.returns-in-Ok-clause-reason
returns-in-Ok-clause-reason g c = tt

pub returns-clause-number : goal.returns-clause-number
returns-clause-number g c = tt

pub returns-clause-durable : goal.returns-clause-durable
returns-clause-durable g c = tt

pub returns-clause-free : goal.returns-clause-free
returns-clause-free g c = tt

pub returns-then-not-is_file_number-clause-number : goal.returns-then-not-is_file_number-clause-number
returns-then-not-is_file_number-clause-number g c = tt

pub returns-then-not-is_file_number-clause-durable : goal.returns-then-not-is_file_number-clause-durable
returns-then-not-is_file_number-clause-durable g c = tt

pub returns-then-not-is_file_number-clause-free : goal.returns-then-not-is_file_number-clause-free
returns-then-not-is_file_number-clause-free g c = tt

pub returns-then-not-is_file_number-clause-store : goal.returns-then-not-is_file_number-clause-store
returns-then-not-is_file_number-clause-store g c = refl

pub returns-then-not-is_file_number-clause-faults : goal.returns-then-not-is_file_number-clause-faults
returns-then-not-is_file_number-clause-faults g c = refl
