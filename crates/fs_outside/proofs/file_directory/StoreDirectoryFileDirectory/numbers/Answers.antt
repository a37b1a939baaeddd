use Rattle.std.proofs.Common.{refl}
use Rattle.std.proofs.lemmas.Result.{IfOk-from_err}
use Rattle.fs_outside.proofs.CauseLemmas.{silent_cause}
use Rattle.fs_outside.proofs.file_directory.StoreDirectoryFileDirectory.numbers.Goals as goal

pub returns-in_err-entry-items-clause-exact : goal.returns-in_err-entry-items-clause-exact
returns-in_err-entry-items-clause-exact g c = IfOk-from_err c.from_residual.result _ c.from_residual.ensures.0

pub returns-in_err-entry-items-clause-same : goal.returns-in_err-entry-items-clause-same
returns-in_err-entry-items-clause-same g c = (refl, refl)

pub returns-in_err-entry-items-clause-cause : goal.returns-in_err-entry-items-clause-cause
returns-in_err-entry-items-clause-cause g c = silent_cause _

pub returns-in_err-number-in-Ok-clause-exact : goal.returns-in_err-number-in-Ok-clause-exact
returns-in_err-number-in-Ok-clause-exact g c =
    IfOk-from_err c.from_residual-in_err-number-in-Ok.result _ c.from_residual-in_err-number-in-Ok.ensures.0

pub returns-in_err-number-in-Ok-clause-same : goal.returns-in_err-number-in-Ok-clause-same
returns-in_err-number-in-Ok-clause-same g c = (refl, refl)

pub returns-in_err-number-in-Ok-clause-cause : goal.returns-in_err-number-in-Ok-clause-cause
returns-in_err-number-in-Ok-clause-cause g c = silent_cause _

pub returns-in_err-push-in-Ok-clause-exact : goal.returns-in_err-push-in-Ok-clause-exact
returns-in_err-push-in-Ok-clause-exact g c = IfOk-from_err c.from_residual-in_err-push-in-Ok.result _ c.from_residual-in_err-push-in-Ok.ensures.0

pub returns-in_err-push-in-Ok-clause-same : goal.returns-in_err-push-in-Ok-clause-same
returns-in_err-push-in-Ok-clause-same g c = (refl, refl)

pub returns-in_err-push-in-Ok-clause-cause : goal.returns-in_err-push-in-Ok-clause-cause
returns-in_err-push-in-Ok-clause-cause g c = silent_cause _

pub returns-in-Err-2-clause-exact : goal.returns-in-Err-2-clause-exact
returns-in-Err-2-clause-exact g c = tt

pub returns-in-Err-2-clause-same : goal.returns-in-Err-2-clause-same
returns-in-Err-2-clause-same g c = (refl, refl)

pub returns-in-Err-2-clause-cause : goal.returns-in-Err-2-clause-cause
returns-in-Err-2-clause-cause g c = silent_cause _

pub returns-clause-exact : goal.returns-clause-exact
returns-clause-exact g c = tt

pub returns-clause-same : goal.returns-clause-same
returns-clause-same g c = (refl, refl)

pub returns-clause-cause : goal.returns-clause-cause
returns-clause-cause g c = silent_cause _
