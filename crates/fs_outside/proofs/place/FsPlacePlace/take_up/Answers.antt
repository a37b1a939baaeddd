use Rattle.std.proofs.Common.{ℕ, List, Some, ap, arith, refl}
use Rattle.tsdb_outside.specs.Disk.{silent_state}
use Rattle.tsdb_outside.specs.Files.{Store}
use Rattle.tsdb_outside.proofs.DiskLemmas.{Keeps-same}
use Rattle.fs_outside.proofs.CauseLemmas.{fault_of, memory_is_not_failed, never_err}
use Rattle.fs_outside.proofs.place.FsPlacePlace.take_up.Goals as goal

pub returns-in-Ok-clause-keeps : goal.returns-in-Ok-clause-keeps
returns-in-Ok-clause-keeps g c = Keeps-same silent_state

pub returns-in-Ok-clause-at_rest : goal.returns-in-Ok-clause-at_rest
returns-in-Ok-clause-at_rest g c = refl

pub returns-in-Ok-clause-no_faults : goal.returns-in-Ok-clause-no_faults
returns-in-Ok-clause-no_faults g c = c.in-Ok.ensures.faults

pub returns-in-Ok-clause-directory : goal.returns-in-Ok-clause-directory
returns-in-Ok-clause-directory g c = ap (λ (s : Store). s.directory) c.in-Ok.ensures.store

pub returns-in-Ok-clause-asked : goal.returns-in-Ok-clause-asked
returns-in-Ok-clause-asked g c = ap (λ (l : List ℕ). Some l) c.in-Ok.ensures.path

pub returns-in-Ok-clause-err : goal.returns-in-Ok-clause-err
returns-in-Ok-clause-err g c = tt

pub returns-in-Ok-clause-still_asked : goal.returns-in-Ok-clause-still_asked
returns-in-Ok-clause-still_asked g c = tt

pub returns-in-Ok-clause-no_fault : goal.returns-in-Ok-clause-no_fault
returns-in-Ok-clause-no_fault g c = λ other. refl

pub returns-in-Ok-clause-cause : goal.returns-in-Ok-clause-cause
returns-in-Ok-clause-cause g c = record { later = omega arith; failed = λ is. never_err _ _ is }

pub returns-in-Err-clause-keeps : goal.returns-in-Err-clause-keeps
returns-in-Err-clause-keeps g c = tt

pub returns-in-Err-clause-at_rest : goal.returns-in-Err-clause-at_rest
returns-in-Err-clause-at_rest g c = tt

pub returns-in-Err-clause-no_faults : goal.returns-in-Err-clause-no_faults
returns-in-Err-clause-no_faults g c = tt

pub returns-in-Err-clause-directory : goal.returns-in-Err-clause-directory
returns-in-Err-clause-directory g c = tt

pub returns-in-Err-clause-asked : goal.returns-in-Err-clause-asked
returns-in-Err-clause-asked g c = tt

pub returns-in-Err-clause-err : goal.returns-in-Err-clause-err
returns-in-Err-clause-err g c = (Keeps-same silent_state, refl)

pub returns-in-Err-clause-still_asked : goal.returns-in-Err-clause-still_asked
returns-in-Err-clause-still_asked g c = refl

pub returns-in-Err-clause-no_fault : goal.returns-in-Err-clause-no_fault
returns-in-Err-clause-no_fault g c = λ other. refl

pub returns-in-Err-clause-cause : goal.returns-in-Err-clause-cause
returns-in-Err-clause-cause g c = record { later = omega arith; failed = λ is. memory_is_not_failed (fault_of _ _ is) }

pub returns-in-Err-2-clause-keeps : goal.returns-in-Err-2-clause-keeps
returns-in-Err-2-clause-keeps g c = tt

pub returns-in-Err-2-clause-at_rest : goal.returns-in-Err-2-clause-at_rest
returns-in-Err-2-clause-at_rest g c = tt

pub returns-in-Err-2-clause-no_faults : goal.returns-in-Err-2-clause-no_faults
returns-in-Err-2-clause-no_faults g c = tt

pub returns-in-Err-2-clause-directory : goal.returns-in-Err-2-clause-directory
returns-in-Err-2-clause-directory g c = tt

pub returns-in-Err-2-clause-asked : goal.returns-in-Err-2-clause-asked
returns-in-Err-2-clause-asked g c = tt

pub returns-in-Err-2-clause-err : goal.returns-in-Err-2-clause-err
returns-in-Err-2-clause-err g c = (Keeps-same silent_state, refl)

pub returns-in-Err-2-clause-still_asked : goal.returns-in-Err-2-clause-still_asked
returns-in-Err-2-clause-still_asked g c = refl
