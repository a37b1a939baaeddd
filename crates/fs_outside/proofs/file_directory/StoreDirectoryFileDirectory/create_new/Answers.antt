use Rattle.std.proofs.Common.{refl}
use Rattle.std.proofs.lemmas.Result.{IfOk-from_err}
use Rattle.fs_outside.proofs.CauseLemmas.{silent_cause}
use Rattle.fs_outside.proofs.DirectoryLemmas.{always_on_err}
use Rattle.fs_outside.proofs.file_directory.StoreDirectoryFileDirectory.create_new.Goals as goal

pub returns-then-self-clause-number : goal.returns-then-self-clause-number
returns-then-self-clause-number g c = tt

pub returns-then-self-clause-free : goal.returns-then-self-clause-free
returns-then-self-clause-free g c = tt

pub returns-then-self-clause-ok : goal.returns-then-self-clause-ok
returns-then-self-clause-ok g c = tt

pub returns-then-self-clause-err : goal.returns-then-self-clause-err
returns-then-self-clause-err g c = refl

pub returns-then-self-clause-refused : goal.returns-then-self-clause-refused
returns-then-self-clause-refused g c = λ failed. refl

pub returns-then-self-clause-same : goal.returns-then-self-clause-same
returns-then-self-clause-same g c = refl

pub returns-then-self-clause-cause : goal.returns-then-self-clause-cause
returns-then-self-clause-cause g c = silent_cause _

pub returns-in_err-open-clause-number : goal.returns-in_err-open-clause-number
returns-in_err-open-clause-number g c = IfOk-from_err c.from_residual.result _ c.from_residual.ensures.0

pub returns-in_err-open-clause-free : goal.returns-in_err-open-clause-free
returns-in_err-open-clause-free g c = IfOk-from_err c.from_residual.result _ c.from_residual.ensures.0

pub returns-in_err-open-clause-ok : goal.returns-in_err-open-clause-ok
returns-in_err-open-clause-ok g c = IfOk-from_err c.from_residual.result _ c.from_residual.ensures.0

pub returns-in_err-open-clause-err : goal.returns-in_err-open-clause-err
returns-in_err-open-clause-err g c = always_on_err c.from_residual.result refl

pub returns-in_err-open-clause-refused : goal.returns-in_err-open-clause-refused
returns-in_err-open-clause-refused g c = λ failed. c.from_residual.ensures.0

pub returns-in_err-open-clause-cause : goal.returns-in_err-open-clause-cause
returns-in_err-open-clause-cause g c = silent_cause _

pub returns-in_err-open-clause-same : goal.returns-in_err-open-clause-same
returns-in_err-open-clause-same g c = refl

pub returns-in_err-path-clause-number : goal.returns-in_err-path-clause-number
returns-in_err-path-clause-number g c = IfOk-from_err c.from_residual-in_err-path.result _ c.from_residual-in_err-path.ensures.0

pub returns-in_err-path-clause-free : goal.returns-in_err-path-clause-free
returns-in_err-path-clause-free g c = IfOk-from_err c.from_residual-in_err-path.result _ c.from_residual-in_err-path.ensures.0

pub returns-in_err-path-clause-ok : goal.returns-in_err-path-clause-ok
returns-in_err-path-clause-ok g c = IfOk-from_err c.from_residual-in_err-path.result _ c.from_residual-in_err-path.ensures.0

pub returns-in_err-path-clause-err : goal.returns-in_err-path-clause-err
returns-in_err-path-clause-err g c = always_on_err c.from_residual-in_err-path.result refl

pub returns-in_err-path-clause-refused : goal.returns-in_err-path-clause-refused
returns-in_err-path-clause-refused g c = λ failed. c.from_residual-in_err-path.ensures.0

pub returns-in_err-path-clause-cause : goal.returns-in_err-path-clause-cause
returns-in_err-path-clause-cause g c = silent_cause _

pub returns-in_err-file-clause-number : goal.returns-in_err-file-clause-number
returns-in_err-file-clause-number g c = IfOk-from_err c.from_residual-in_err-file.result _ c.from_residual-in_err-file.ensures.0

pub returns-in_err-file-clause-free : goal.returns-in_err-file-clause-free
returns-in_err-file-clause-free g c = IfOk-from_err c.from_residual-in_err-file.result _ c.from_residual-in_err-file.ensures.0

pub returns-in_err-file-clause-ok : goal.returns-in_err-file-clause-ok
returns-in_err-file-clause-ok g c = IfOk-from_err c.from_residual-in_err-file.result _ c.from_residual-in_err-file.ensures.0

pub returns-in_err-file-clause-err : goal.returns-in_err-file-clause-err
returns-in_err-file-clause-err g c = always_on_err c.from_residual-in_err-file.result refl

pub returns-in_err-file-clause-refused : goal.returns-in_err-file-clause-refused
returns-in_err-file-clause-refused g c = λ failed. c.from_residual-in_err-file.ensures.0

pub returns-in_err-file-clause-cause : goal.returns-in_err-file-clause-cause
returns-in_err-file-clause-cause g c = silent_cause _

pub returns-clause-number : goal.returns-clause-number
returns-clause-number g c = refl

pub returns-clause-free : goal.returns-clause-free
returns-clause-free g c = tt

pub returns-clause-ok : goal.returns-clause-ok
returns-clause-ok g c = tt

pub returns-clause-err : goal.returns-clause-err
returns-clause-err g c = tt

pub returns-clause-cause : goal.returns-clause-cause
returns-clause-cause g c = silent_cause _
