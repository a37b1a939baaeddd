use Rattle.std.proofs.Common.{inl, refl}
use Rattle.std.proofs.lemmas.Result.{IfOk-from_err}
use Rattle.fs_outside.proofs.CauseLemmas.{same_count}
use Rattle.fs_outside.proofs.DirectoryLemmas.{always_on_err}
use Rattle.fs_outside.proofs.files.FsPort.open.Goals as goal

pub returns-in-Some-clause-number : goal.returns-in-Some-clause-number
returns-in-Some-clause-number g c = c.in-Some.ensures

pub returns-in-Some-clause-same : goal.returns-in-Some-clause-same
returns-in-Some-clause-same g c = refl

pub returns-in-Some-clause-store : goal.returns-in-Some-clause-store
returns-in-Some-clause-store g c = refl

pub returns-in-Some-clause-faults : goal.returns-in-Some-clause-faults
returns-in-Some-clause-faults g c = refl

pub returns-in-Some-clause-later : goal.returns-in-Some-clause-later
returns-in-Some-clause-later g c = same_count _

pub returns-in-Some-clause-reason : goal.returns-in-Some-clause-reason
returns-in-Some-clause-reason g c = tt

pub returns-in_err-file-clause-number : goal.returns-in_err-file-clause-number
returns-in_err-file-clause-number g c = IfOk-from_err c.from_residual.result _ c.from_residual.ensures.0

pub returns-in_err-file-clause-same : goal.returns-in_err-file-clause-same
returns-in_err-file-clause-same g c = c.open.ensures.same.0

pub returns-in_err-file-clause-store : goal.returns-in_err-file-clause-store
returns-in_err-file-clause-store g c = refl

pub returns-in_err-file-clause-faults : goal.returns-in_err-file-clause-faults
returns-in_err-file-clause-faults g c = refl

pub returns-in_err-file-clause-later : goal.returns-in_err-file-clause-later
returns-in_err-file-clause-later g c = c.open.ensures.cause.later

pub returns-in_err-file-clause-reason : goal.returns-in_err-file-clause-reason
returns-in_err-file-clause-reason g c = always_on_err c.from_residual.result (inl c.in_err-file.ensures.cause.failed)

pub returns-in-Some-2-clause-same : goal.returns-in-Some-2-clause-same
returns-in-Some-2-clause-same g c = c.open.ensures.same.0

pub returns-in-Some-2-clause-store : goal.returns-in-Some-2-clause-store
returns-in-Some-2-clause-store g c = refl

pub returns-in-Some-2-clause-faults : goal.returns-in-Some-2-clause-faults
returns-in-Some-2-clause-faults g c = refl

pub returns-in-Some-2-clause-later : goal.returns-in-Some-2-clause-later
returns-in-Some-2-clause-later g c = c.open.ensures.cause.later

pub returns-in-None-clause-same : goal.returns-in-None-clause-same
returns-in-None-clause-same g c = c.open.ensures.same.0

pub returns-in-None-clause-store : goal.returns-in-None-clause-store
returns-in-None-clause-store g c = refl

pub returns-in-None-clause-faults : goal.returns-in-None-clause-faults
returns-in-None-clause-faults g c = refl

pub returns-in-None-clause-later : goal.returns-in-None-clause-later
returns-in-None-clause-later g c = c.open.ensures.cause.later

pub returns-in-Some-2-clause-reason : goal.returns-in-Some-2-clause-reason
returns-in-Some-2-clause-reason g c = tt

pub returns-in-None-clause-number : goal.returns-in-None-clause-number
returns-in-None-clause-number g c = tt
