use Rattle.std.proofs.Common.{◌∙◌, ap, arith, refl}
use Rattle.std.proofs.lemmas.Bool.{false≢true}
use Rattle.std.proofs.lemmas.Result.{IfOk-from_err}
use Rattle.fs_outside.specs.Files.{port_directory}
use Rattle.fs_outside.proofs.CauseLemmas.{fault_of, never_err, no_memory, rose_still}
use Rattle.fs_outside.proofs.DirectoryLemmas.{always_on_err, same_but_same, same_but_still, stays_taken_same, stays_taken_still}
use Rattle.fs_outside.proofs.DirectoryLemmas.{taken_away_same, taken_away_still}
use Rattle.fs_outside.proofs.files.FsPortPort.put.Goals as goal

pub returns-in_err-path-clause-same_store : goal.returns-in_err-path-clause-same_store
returns-in_err-path-clause-same_store g c = refl

pub returns-in_err-path-clause-cause : goal.returns-in_err-path-clause-cause
returns-in_err-path-clause-cause g c = record {
  later = omega arith;
  failed = λ is. no_memory c.from_residual.result c.from_residual.ensures.1 is;
}

pub returns-in_err-path-clause-others : goal.returns-in_err-path-clause-others
returns-in_err-path-clause-others g c = always_on_err c.from_residual.result
    (same_but_same c.args.number.0 (g.D.FileDirectory.told (port_directory c.args.self.now)))

pub returns-in_err-path-clause-there : goal.returns-in_err-path-clause-there
returns-in_err-path-clause-there g c =
    let before = g.D.FileDirectory.told (port_directory c.args.self.now) in
    always_on_err c.from_residual.result (stays_taken_same c.args.number.0 before before refl)

pub returns-in_err-path-clause-away : goal.returns-in_err-path-clause-away
returns-in_err-path-clause-away g c =
    let before = g.D.FileDirectory.told (port_directory c.args.self.now) in
    let faults = g.D.FileDirectory.faults (port_directory c.args.self.now) in
    always_on_err c.from_residual.result (taken_away_same c.args.number.0 faults faults before before refl)

pub returns-in_err-path-clause-refused : goal.returns-in_err-path-clause-refused
returns-in_err-path-clause-refused g c = λ failed. c.from_residual.ensures.0

pub returns-in_err-path-clause-reason : goal.returns-in_err-path-clause-reason
returns-in_err-path-clause-reason g c = λ is fits. no_memory c.from_residual.result c.from_residual.ensures.1 is

pub returns-in-Ok-clause-file : goal.returns-in-Ok-clause-file
returns-in-Ok-clause-file g c = record { number_is = refl; bytes_are = tt }

pub returns-in-Ok-clause-no_rights : goal.returns-in-Ok-clause-no_rights
returns-in-Ok-clause-no_rights g c = refl

pub returns-in-Ok-clause-same_store : goal.returns-in-Ok-clause-same_store
returns-in-Ok-clause-same_store g c = c.store.ensures.store

pub returns-in-Ok-clause-cause : goal.returns-in-Ok-clause-cause
returns-in-Ok-clause-cause g c = record { later = omega (arith, c.store.ensures.faults); failed = λ is. never_err _ _ is }

pub returns-in-Ok-clause-number : goal.returns-in-Ok-clause-number
returns-in-Ok-clause-number g c = c.in-Ok.ensures.number

pub returns-in-Ok-clause-durable : goal.returns-in-Ok-clause-durable
returns-in-Ok-clause-durable g c = c.in-Ok.ensures.durable

pub returns-in-Ok-clause-free : goal.returns-in-Ok-clause-free
returns-in-Ok-clause-free g c = c.in-Ok.ensures.free

pub returns-in-Ok-clause-refused : goal.returns-in-Ok-clause-refused
returns-in-Ok-clause-refused g c = λ failed. absurd (false≢true (c.in-Ok.ensures.refused failed))

pub returns-in-Ok-clause-reason : goal.returns-in-Ok-clause-reason
returns-in-Ok-clause-reason g c = λ is fits. never_err _ _ is

pub returns-in-Err-clause-same_store : goal.returns-in-Err-clause-same_store
returns-in-Err-clause-same_store g c = c.fault.ensures.store ∙ c.store.ensures.store

pub returns-in-Err-clause-cause : goal.returns-in-Err-clause-cause
returns-in-Err-clause-cause g c = record {
  later = omega (arith, c.store.ensures.faults, c.fault.ensures.later);
  failed = λ is. omega (arith, c.store.ensures.faults, c.fault.ensures.cause (fault_of _ _ is));
}

pub returns-in-Err-clause-others : goal.returns-in-Err-clause-others
returns-in-Err-clause-others g c = same_but_still c.args.number.0 (g.D.FileDirectory.told (port_directory c.args.self.now))
    (g.D.FileDirectory.told (port_directory c.store.new.self)) (g.D.FileDirectory.told (port_directory c.fault.new.self))
    c.in-Err.ensures.others (ap g.D.FileDirectory.told c.fault.ensures.directory)

pub returns-in-Err-clause-there : goal.returns-in-Err-clause-there
returns-in-Err-clause-there g c = stays_taken_still c.args.number.0 (g.D.FileDirectory.told (port_directory c.args.self.now))
    (g.D.FileDirectory.told (port_directory c.store.new.self)) (g.D.FileDirectory.told (port_directory c.fault.new.self))
    c.in-Err.ensures.there (ap g.D.FileDirectory.told c.fault.ensures.directory)

pub returns-in-Err-clause-away : goal.returns-in-Err-clause-away
returns-in-Err-clause-away g c = taken_away_still c.args.number.0 (g.D.FileDirectory.faults (port_directory c.args.self.now))
    (g.D.FileDirectory.faults (port_directory c.store.new.self)) (g.D.FileDirectory.faults (port_directory c.fault.new.self))
    (g.D.FileDirectory.told (port_directory c.args.self.now)) (g.D.FileDirectory.told (port_directory c.store.new.self))
    (g.D.FileDirectory.told (port_directory c.fault.new.self)) c.in-Err.ensures.away (ap g.D.FileDirectory.told c.fault.ensures.directory)
    (ap g.D.FileDirectory.faults c.fault.ensures.directory)

pub returns-in-Err-clause-refused : goal.returns-in-Err-clause-refused
returns-in-Err-clause-refused g c = λ failed. refl

pub returns-in-Err-clause-reason : goal.returns-in-Err-clause-reason
returns-in-Err-clause-reason g c = λ is fits. rose_still (g.D.FileDirectory.faults (port_directory c.args.self.now))
    (g.D.FileDirectory.faults (port_directory c.store.new.self)) (g.D.FileDirectory.faults (port_directory c.fault.new.self))
    (c.in-Err.ensures.reason fits) (ap g.D.FileDirectory.faults c.fault.ensures.directory)

pub returns-in_err-path-clause-file : goal.returns-in_err-path-clause-file
returns-in_err-path-clause-file g c = IfOk-from_err c.from_residual.result _ c.from_residual.ensures.0

pub returns-in_err-path-clause-store : goal.returns-in_err-path-clause-store
returns-in_err-path-clause-store g c = IfOk-from_err c.from_residual.result _ c.from_residual.ensures.0

pub returns-in_err-path-clause-no_rights : goal.returns-in_err-path-clause-no_rights
returns-in_err-path-clause-no_rights g c = IfOk-from_err c.from_residual.result _ c.from_residual.ensures.0

pub returns-in_err-path-clause-number : goal.returns-in_err-path-clause-number
returns-in_err-path-clause-number g c = IfOk-from_err c.from_residual.result _ c.from_residual.ensures.0

pub returns-in_err-path-clause-durable : goal.returns-in_err-path-clause-durable
returns-in_err-path-clause-durable g c = IfOk-from_err c.from_residual.result _ c.from_residual.ensures.0

pub returns-in_err-path-clause-free : goal.returns-in_err-path-clause-free
returns-in_err-path-clause-free g c = IfOk-from_err c.from_residual.result _ c.from_residual.ensures.0

pub returns-in-Ok-clause-others : goal.returns-in-Ok-clause-others
returns-in-Ok-clause-others g c = tt

pub returns-in-Ok-clause-there : goal.returns-in-Ok-clause-there
returns-in-Ok-clause-there g c = tt

pub returns-in-Ok-clause-away : goal.returns-in-Ok-clause-away
returns-in-Ok-clause-away g c = tt

pub returns-in-Err-clause-file : goal.returns-in-Err-clause-file
returns-in-Err-clause-file g c = tt

pub returns-in-Err-clause-store : goal.returns-in-Err-clause-store
returns-in-Err-clause-store g c = tt

pub returns-in-Err-clause-no_rights : goal.returns-in-Err-clause-no_rights
returns-in-Err-clause-no_rights g c = tt

pub returns-in-Err-clause-number : goal.returns-in-Err-clause-number
returns-in-Err-clause-number g c = tt

pub returns-in-Err-clause-durable : goal.returns-in-Err-clause-durable
returns-in-Err-clause-durable g c = tt

pub returns-in-Err-clause-free : goal.returns-in-Err-clause-free
returns-in-Err-clause-free g c = tt
