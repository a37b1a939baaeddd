use Rattle.std.proofs.Common.{◌∙◌, ap, arith, refl, sym}
use Rattle.std.proofs.lemmas.Bool.{false≢true}
use Rattle.std.proofs.lemmas.Result.{IfOk-from_err}
use Rattle.fs_outside.specs.Files.{files_directory}
use Rattle.fs_outside.proofs.CauseLemmas.{fault_of, never_err, no_memory, rose_still}
use Rattle.fs_outside.proofs.files.FsFilesFiles.fetch.Goals as goal

pub returns-then-not-is_file_number-clause-number : goal.returns-then-not-is_file_number-clause-number
returns-then-not-is_file_number-clause-number g c = tt

pub returns-then-not-is_file_number-clause-store : goal.returns-then-not-is_file_number-clause-store
returns-then-not-is_file_number-clause-store g c = tt

pub returns-then-not-is_file_number-clause-same_store : goal.returns-then-not-is_file_number-clause-same_store
returns-then-not-is_file_number-clause-same_store g c = refl

pub returns-then-not-is_file_number-clause-cause : goal.returns-then-not-is_file_number-clause-cause
returns-then-not-is_file_number-clause-cause g c = record { later = omega arith; failed = λ is. never_err _ _ is }

pub returns-then-not-is_file_number-clause-found : goal.returns-then-not-is_file_number-clause-found
returns-then-not-is_file_number-clause-found g c =
    λ fits. absurd (false≢true (sym c.if-not-is_file_number.true ∙ c.is_file_number.ensures.says.1 fits))

pub returns-then-not-is_file_number-clause-same : goal.returns-then-not-is_file_number-clause-same
returns-then-not-is_file_number-clause-same g c = refl

pub returns-then-not-is_file_number-clause-reason : goal.returns-then-not-is_file_number-clause-reason
returns-then-not-is_file_number-clause-reason g c = λ is. never_err _ _ is

pub returns-in_err-path-clause-number : goal.returns-in_err-path-clause-number
returns-in_err-path-clause-number g c = IfOk-from_err c.from_residual.result _ c.from_residual.ensures.0

pub returns-in_err-path-clause-store : goal.returns-in_err-path-clause-store
returns-in_err-path-clause-store g c = IfOk-from_err c.from_residual.result _ c.from_residual.ensures.0

pub returns-in_err-path-clause-found : goal.returns-in_err-path-clause-found
returns-in_err-path-clause-found g c = IfOk-from_err c.from_residual.result _ c.from_residual.ensures.0

pub returns-in_err-path-clause-same_store : goal.returns-in_err-path-clause-same_store
returns-in_err-path-clause-same_store g c = refl

pub returns-in_err-path-clause-cause : goal.returns-in_err-path-clause-cause
returns-in_err-path-clause-cause g c = record { later = omega arith; failed = λ is. no_memory c.from_residual.result c.from_residual.ensures.1 is }

pub returns-in_err-path-clause-same : goal.returns-in_err-path-clause-same
returns-in_err-path-clause-same g c = refl

pub returns-in_err-path-clause-reason : goal.returns-in_err-path-clause-reason
returns-in_err-path-clause-reason g c = λ is. no_memory c.from_residual.result c.from_residual.ensures.1 is

pub returns-in-Ok-true-clause-number : goal.returns-in-Ok-true-clause-number
returns-in-Ok-true-clause-number g c = (refl, refl)

pub returns-in-Ok-true-clause-same_store : goal.returns-in-Ok-true-clause-same_store
returns-in-Ok-true-clause-same_store g c = refl

pub returns-in-Ok-true-clause-cause : goal.returns-in-Ok-true-clause-cause
returns-in-Ok-true-clause-cause g c = record { later = omega arith; failed = λ is. never_err _ _ is }

pub returns-in-Ok-true-clause-same : goal.returns-in-Ok-true-clause-same
returns-in-Ok-true-clause-same g c = c.is_there.ensures.same.0

pub returns-in-Ok-true-clause-reason : goal.returns-in-Ok-true-clause-reason
returns-in-Ok-true-clause-reason g c = λ is. never_err _ _ is

pub returns-in-Ok-false-clause-number : goal.returns-in-Ok-false-clause-number
returns-in-Ok-false-clause-number g c = tt

pub returns-in-Ok-false-clause-store : goal.returns-in-Ok-false-clause-store
returns-in-Ok-false-clause-store g c = tt

pub returns-in-Ok-false-clause-same_store : goal.returns-in-Ok-false-clause-same_store
returns-in-Ok-false-clause-same_store g c = refl

pub returns-in-Ok-false-clause-cause : goal.returns-in-Ok-false-clause-cause
returns-in-Ok-false-clause-cause g c = record { later = omega arith; failed = λ is. never_err _ _ is }

pub returns-in-Ok-false-clause-same : goal.returns-in-Ok-false-clause-same
returns-in-Ok-false-clause-same g c = c.is_there.ensures.same.0

pub returns-in-Ok-false-clause-reason : goal.returns-in-Ok-false-clause-reason
returns-in-Ok-false-clause-reason g c = λ is. never_err _ _ is

pub returns-in-Err-clause-number : goal.returns-in-Err-clause-number
returns-in-Err-clause-number g c = tt

pub returns-in-Err-clause-store : goal.returns-in-Err-clause-store
returns-in-Err-clause-store g c = tt

pub returns-in-Err-clause-found : goal.returns-in-Err-clause-found
returns-in-Err-clause-found g c = tt

pub returns-in-Err-clause-same_store : goal.returns-in-Err-clause-same_store
returns-in-Err-clause-same_store g c = c.fault.ensures.store

pub returns-in-Err-clause-cause : goal.returns-in-Err-clause-cause
returns-in-Err-clause-cause g c = record { later = c.fault.ensures.later; failed = λ is. c.fault.ensures.cause (fault_of _ _ is) }

pub returns-in-Err-clause-same : goal.returns-in-Err-clause-same
returns-in-Err-clause-same g c = ap g.D.FileDirectory.told c.fault.ensures.directory ∙ c.is_there.ensures.same.0

pub returns-in-Err-clause-reason : goal.returns-in-Err-clause-reason
returns-in-Err-clause-reason g c =
    λ is. rose_still (g.D.FileDirectory.faults (files_directory c.args.self.now)) (g.D.FileDirectory.faults c.is_there.new.self)
    (g.D.FileDirectory.faults (files_directory c.fault.new.self)) c.in-Err.ensures.cause.failed (ap g.D.FileDirectory.faults c.fault.ensures.directory)
