use Rattle.std.proofs.Common.{◌∙◌, ap, arith, refl}
use Rattle.std.proofs.lemmas.Result.{IfOk-from_err}
use Rattle.fs_outside.specs.Files.{files_directory}
use Rattle.tsdb_outside.specs.Files.{plain_numbers}
use Rattle.fs_outside.proofs.CauseLemmas.{fault_of, never_err, no_memory, rose_still}
use Rattle.fs_outside.proofs.DirectoryLemmas.{list_is_exact}
use Rattle.fs_outside.proofs.files.FsFilesFiles.list.Goals as goal

pub returns-in_ok-list_of_numbers-in-Ok-clause-exact : goal.returns-in_ok-list_of_numbers-in-Ok-clause-exact
returns-in_ok-list_of_numbers-in-Ok-clause-exact g c =
    list_is_exact (g.D.FileDirectory.told (files_directory c.args.self.now)) (g.D.FileDirectory.others (files_directory c.args.self.now))
    (plain_numbers c.in_ok-list_of_numbers-in-Ok.field-0.items) c.in-Ok.numbers.items
    c.in-Ok.ensures.exact c.in_ok-list_of_numbers-in-Ok.ensures.exact

pub returns-in_err-list_of_numbers-in-Ok-clause-same_store : goal.returns-in_err-list_of_numbers-in-Ok-clause-same_store
returns-in_err-list_of_numbers-in-Ok-clause-same_store g c = refl

pub returns-in_err-list_of_numbers-in-Ok-clause-cause : goal.returns-in_err-list_of_numbers-in-Ok-clause-cause
returns-in_err-list_of_numbers-in-Ok-clause-cause g c = record {
  later = omega arith;
  failed = λ is. no_memory c.from_residual.result c.from_residual.ensures.1 is;
}

pub returns-in_err-list_of_numbers-in-Ok-clause-same : goal.returns-in_err-list_of_numbers-in-Ok-clause-same
returns-in_err-list_of_numbers-in-Ok-clause-same g c = c.numbers.ensures.same.0

pub returns-in_err-list_of_numbers-in-Ok-clause-reason : goal.returns-in_err-list_of_numbers-in-Ok-clause-reason
returns-in_err-list_of_numbers-in-Ok-clause-reason g c = λ is. no_memory c.from_residual.result c.from_residual.ensures.1 is

pub returns-in_ok-list_of_numbers-in-Ok-clause-numbers : goal.returns-in_ok-list_of_numbers-in-Ok-clause-numbers
returns-in_ok-list_of_numbers-in-Ok-clause-numbers g c = c.in_ok-list_of_numbers-in-Ok.ensures.numbers

pub returns-in_ok-list_of_numbers-in-Ok-clause-rising : goal.returns-in_ok-list_of_numbers-in-Ok-clause-rising
returns-in_ok-list_of_numbers-in-Ok-clause-rising g c = c.in_ok-list_of_numbers-in-Ok.ensures.rising

pub returns-in_ok-list_of_numbers-in-Ok-clause-same_store : goal.returns-in_ok-list_of_numbers-in-Ok-clause-same_store
returns-in_ok-list_of_numbers-in-Ok-clause-same_store g c = refl

pub returns-in_ok-list_of_numbers-in-Ok-clause-cause : goal.returns-in_ok-list_of_numbers-in-Ok-clause-cause
returns-in_ok-list_of_numbers-in-Ok-clause-cause g c = record { later = omega arith; failed = λ is. never_err _ _ is }

pub returns-in_ok-list_of_numbers-in-Ok-clause-same : goal.returns-in_ok-list_of_numbers-in-Ok-clause-same
returns-in_ok-list_of_numbers-in-Ok-clause-same g c = c.numbers.ensures.same.0

pub returns-in_ok-list_of_numbers-in-Ok-clause-reason : goal.returns-in_ok-list_of_numbers-in-Ok-clause-reason
returns-in_ok-list_of_numbers-in-Ok-clause-reason g c = λ is. never_err _ _ is

pub returns-in-Err-clause-same_store : goal.returns-in-Err-clause-same_store
returns-in-Err-clause-same_store g c = c.fault.ensures.store

pub returns-in-Err-clause-cause : goal.returns-in-Err-clause-cause
returns-in-Err-clause-cause g c = record { later = c.fault.ensures.later; failed = λ is. c.fault.ensures.cause (fault_of _ _ is) }

pub returns-in-Err-clause-same : goal.returns-in-Err-clause-same
returns-in-Err-clause-same g c = ap g.D.FileDirectory.told c.fault.ensures.directory ∙ c.numbers.ensures.same.0

pub returns-in-Err-clause-reason : goal.returns-in-Err-clause-reason
returns-in-Err-clause-reason g c = λ is. rose_still (g.D.FileDirectory.faults (files_directory c.args.self.now))
    (g.D.FileDirectory.faults c.numbers.new.self) (g.D.FileDirectory.faults (files_directory c.fault.new.self))
    c.in-Err.ensures.cause.failed (ap g.D.FileDirectory.faults c.fault.ensures.directory)

pub returns-in_err-list_of_numbers-in-Ok-clause-numbers : goal.returns-in_err-list_of_numbers-in-Ok-clause-numbers
returns-in_err-list_of_numbers-in-Ok-clause-numbers g c = IfOk-from_err c.from_residual.result _ c.from_residual.ensures.0

pub returns-in_err-list_of_numbers-in-Ok-clause-rising : goal.returns-in_err-list_of_numbers-in-Ok-clause-rising
returns-in_err-list_of_numbers-in-Ok-clause-rising g c = IfOk-from_err c.from_residual.result _ c.from_residual.ensures.0

pub returns-in_err-list_of_numbers-in-Ok-clause-exact : goal.returns-in_err-list_of_numbers-in-Ok-clause-exact
returns-in_err-list_of_numbers-in-Ok-clause-exact g c = IfOk-from_err c.from_residual.result _ c.from_residual.ensures.0

pub returns-in-Err-clause-numbers : goal.returns-in-Err-clause-numbers
returns-in-Err-clause-numbers g c = tt

pub returns-in-Err-clause-rising : goal.returns-in-Err-clause-rising
returns-in-Err-clause-rising g c = tt

pub returns-in-Err-clause-exact : goal.returns-in-Err-clause-exact
returns-in-Err-clause-exact g c = tt
