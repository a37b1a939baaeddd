use Rattle.std.proofs.Common.{refl}
use Rattle.std.proofs.lemmas.Result.{IfOk-from_err}
use Rattle.fs_outside.proofs.CauseLemmas.{silent_cause}
use Rattle.fs_outside.proofs.file_directory.StoreDirectoryFileDirectory.open.Goals as goal

pub returns-in_err-path-clause-none : goal.returns-in_err-path-clause-none
returns-in_err-path-clause-none g c = IfOk-from_err c.from_residual.result _ c.from_residual.ensures.0

pub returns-in_err-path-clause-same : goal.returns-in_err-path-clause-same
returns-in_err-path-clause-same g c = (refl, refl)

pub returns-in_err-path-clause-cause : goal.returns-in_err-path-clause-cause
returns-in_err-path-clause-cause g c = silent_cause _

pub returns-in_err-is_regular-clause-none : goal.returns-in_err-is_regular-clause-none
returns-in_err-is_regular-clause-none g c = IfOk-from_err c.from_residual-in_err-is_regular.result _ c.from_residual-in_err-is_regular.ensures.0

pub returns-in_err-is_regular-clause-same : goal.returns-in_err-is_regular-clause-same
returns-in_err-is_regular-clause-same g c = (refl, refl)

pub returns-in_err-is_regular-clause-cause : goal.returns-in_err-is_regular-clause-cause
returns-in_err-is_regular-clause-cause g c = silent_cause _

pub returns-in_err-file-clause-none : goal.returns-in_err-file-clause-none
returns-in_err-file-clause-none g c = IfOk-from_err c.from_residual-in_err-file.result _ c.from_residual-in_err-file.ensures.0

pub returns-in_err-file-clause-same : goal.returns-in_err-file-clause-same
returns-in_err-file-clause-same g c = (refl, refl)

pub returns-in_err-file-clause-cause : goal.returns-in_err-file-clause-cause
returns-in_err-file-clause-cause g c = silent_cause _

pub returns-then-not-branch-clause-none : goal.returns-then-not-branch-clause-none
returns-then-not-branch-clause-none g c = tt

pub returns-then-not-branch-clause-same : goal.returns-then-not-branch-clause-same
returns-then-not-branch-clause-same g c = (refl, refl)

pub returns-then-not-branch-clause-cause : goal.returns-then-not-branch-clause-cause
returns-then-not-branch-clause-cause g c = silent_cause _

pub returns-clause-none : goal.returns-clause-none
returns-clause-none g c = refl

pub returns-clause-same : goal.returns-clause-same
returns-clause-same g c = (refl, refl)

pub returns-clause-cause : goal.returns-clause-cause
returns-clause-cause g c = silent_cause _
