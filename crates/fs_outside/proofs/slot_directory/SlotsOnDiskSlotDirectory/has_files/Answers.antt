use Rattle.std.proofs.lemmas.Result.{IfOk-from_err}
use Rattle.fs_outside.proofs.CauseLemmas.{silent_cause}
use Rattle.fs_outside.proofs.OpeningLemmas.{keeps_silent}
use Rattle.fs_outside.proofs.slot_directory.SlotsOnDiskSlotDirectory.has_files.Goals as goal

pub returns-in_err-entry-items-clause-files : goal.returns-in_err-entry-items-clause-files
returns-in_err-entry-items-clause-files g c = IfOk-from_err c.from_residual.result _ c.from_residual.ensures.0

pub returns-in_err-entry-items-clause-keeps : goal.returns-in_err-entry-items-clause-keeps
returns-in_err-entry-items-clause-keeps g c = keeps_silent

pub returns-in_err-entry-items-clause-cause : goal.returns-in_err-entry-items-clause-cause
returns-in_err-entry-items-clause-cause g c = silent_cause _

pub returns-in-Ok-clause-files : goal.returns-in-Ok-clause-files
returns-in-Ok-clause-files g c = tt

pub returns-in-Ok-clause-keeps : goal.returns-in-Ok-clause-keeps
returns-in-Ok-clause-keeps g c = keeps_silent

pub returns-in-Ok-clause-cause : goal.returns-in-Ok-clause-cause
returns-in-Ok-clause-cause g c = silent_cause _

pub returns-in-Err-2-clause-files : goal.returns-in-Err-2-clause-files
returns-in-Err-2-clause-files g c = tt

pub returns-in-Err-2-clause-keeps : goal.returns-in-Err-2-clause-keeps
returns-in-Err-2-clause-keeps g c = keeps_silent

pub returns-in-Err-2-clause-cause : goal.returns-in-Err-2-clause-cause
returns-in-Err-2-clause-cause g c = silent_cause _

pub returns-clause-files : goal.returns-clause-files
returns-clause-files g c = tt

pub returns-clause-keeps : goal.returns-clause-keeps
returns-clause-keeps g c = keeps_silent

pub returns-clause-cause : goal.returns-clause-cause
returns-clause-cause g c = silent_cause _
