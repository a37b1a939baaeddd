use Rattle.std.proofs.Common.{◌∙◌, ◌+◌, Err, Some, ap, inl, inr, refl, sym}
use Rattle.std.specs.Prelude.{count_by}
use Rattle.tsdb_history.specs.History.{told_device}
use Rattle.tsdb_base.specs.Causes.{Rose}
use Rattle.tsdb_run.proofs.Executed.{counted_down, if_ok, more_down, placed, quiet_parts, sure_before}
use Rattle.tsdb_run.proofs.Ends.{device_down, device_failed, device_memory}
use Rattle.tsdb_run.proofs.PutLemmas.{memory_is_no_failure, same_error}
use Rattle.tsdb_outside.proofs.DiskLemmas.{Keeps-same}
use Rattle.tsdb_run.proofs.Refused.{err_again, placed_damage, placed_refused, same_refused}
use Rattle.tsdb_run.specs.declared.status.Status.TheVariants.{Device, Memory}
use Rattle.tsdb_run.proofs.store.run_commands.Goals as goal

pub returns-in-Ok-take_up-clause-executed : goal.returns-in-Ok-take_up-clause-executed
returns-in-Ok-take_up-clause-executed g c =
    let old = c.args.place.now in
    let new = c.put_down.new.self in
    let journal = c.in-Ok-take_up.journal in
    let last = c.run_on-journal.result.0 in
    if_ok _ _ c.run_on-journal.result.1 (λ history run.
    placed c.args.script.now history (g.P.Disk.state old) (g.P.Journal.Disk.state journal) (g.P.Journal.Disk.state last)
    (g.P.Disk.state new) (g.P.Place.stored old) (g.P.Files.Files.at_rest c.in-Ok-take_up.files)
    (g.P.Files.Files.at_rest c.run_on-journal.new.files) (g.P.Place.stored new)
    (Rose (count_by told_device history)
    (g.P.Journal.Counted.faults last + g.P.Files.Counted.faults c.run_on-journal.new.files))
    (Rose (g.P.Counted.faults old + count_by told_device history) (g.P.Counted.faults new))
    (g.P.Journal.Counted.faults last + g.P.Files.Counted.faults c.run_on-journal.new.files) (g.P.Counted.faults new)
    (g.P.Disk.lawful old) (g.P.Journal.Disk.lawful journal) (g.P.Journal.Disk.lawful last) (g.P.Disk.lawful new)
    c.in-Ok-take_up.ensures.keeps c.in-Ok-take_up.ensures.at_rest c.put_down.ensures.keeps c.put_down.ensures.stored
    (more_down (g.P.Counted.faults old) (g.P.Counted.faults c.take_up.new.self) (g.P.Counted.faults new)
    (g.P.Journal.Counted.faults last) (g.P.Files.Counted.faults c.run_on-journal.new.files) (count_by told_device history)
    c.take_up.ensures.cause.later c.put_down.ensures.faults)
    (quiet_parts (g.P.Counted.faults c.take_up.new.self) (g.P.Counted.faults new) (g.P.Journal.Counted.faults last)
    (g.P.Files.Counted.faults c.run_on-journal.new.files) c.put_down.ensures.faults) run)
    c.run_on-journal.ensures.executed

pub returns-in-Ok-take_up-clause-devices : goal.returns-in-Ok-take_up-clause-devices
returns-in-Ok-take_up-clause-devices g c =
    let old = c.args.place.now in
    let new = c.put_down.new.self in
    if_ok _ _ c.run_on-journal.result.1 (λ history counts sure.
    counted_down (g.P.Counted.faults old) (g.P.Counted.faults c.take_up.new.self) (g.P.Counted.faults new)
    (g.P.Journal.Counted.faults c.run_on-journal.result.0) (g.P.Files.Counted.faults c.run_on-journal.new.files)
    (count_by told_device history) c.take_up.ensures.cause.later c.put_down.ensures.faults
    (counts (sure_before (g.P.Disk.state old) (g.P.Journal.Disk.state c.in-Ok-take_up.journal) (g.P.Place.stored old)
    (g.P.Files.Files.at_rest c.in-Ok-take_up.files) c.in-Ok-take_up.ensures.keeps c.in-Ok-take_up.ensures.at_rest sure)))
    c.run_on-journal.ensures.devices

pub returns-in-Ok-take_up-clause-refused : goal.returns-in-Ok-take_up-clause-refused
returns-in-Ok-take_up-clause-refused g c =
    let old = c.args.place.now in
    let new = c.put_down.new.self in
    let last = c.run_on-journal.result.0 in
    err_again _ _ c.run_on-journal.result.1 (λ status refused.
    placed_refused (g.P.Disk.state old) (g.P.Journal.Disk.state c.in-Ok-take_up.journal) (g.P.Journal.Disk.state last)
    (g.P.Disk.state new) (g.P.Place.stored old) (g.P.Files.Files.at_rest c.in-Ok-take_up.files)
    (g.P.Files.Files.at_rest c.run_on-journal.new.files) (g.P.Place.stored new) status (g.P.Disk.lawful old)
    c.in-Ok-take_up.ensures.keeps c.in-Ok-take_up.ensures.at_rest c.put_down.ensures.keeps c.put_down.ensures.stored
    refused) c.run_on-journal.ensures.refused

pub returns-in-Ok-take_up-clause-damaged : goal.returns-in-Ok-take_up-clause-damaged
returns-in-Ok-take_up-clause-damaged g c = λ part at damaged.
    c.run_on-journal.ensures.damaged part at (placed_damage (g.P.Disk.state c.args.place.now)
    (g.P.Journal.Disk.state c.in-Ok-take_up.journal) (g.P.Place.stored c.args.place.now)
    (g.P.Files.Files.at_rest c.in-Ok-take_up.files) part at c.in-Ok-take_up.ensures.keeps
    c.in-Ok-take_up.ensures.at_rest damaged)

pub returns-in_default-clause-refused : goal.returns-in_default-clause-refused
returns-in_default-clause-refused g c =
    same_refused (g.P.Disk.state c.args.place.now) (g.P.Disk.state c.args.place.now) (g.P.Place.stored c.args.place.now)
    (g.P.Place.stored c.args.place.now) Memory (Keeps-same (g.P.Disk.state c.args.place.now)) refl tt

pub returns-in_default-clause-damaged : goal.returns-in_default-clause-damaged
returns-in_default-clause-damaged g c = λ part at damaged. inr (inl refl)

pub returns-in-Err-Failed-clause-refused : goal.returns-in-Err-Failed-clause-refused
returns-in-Err-Failed-clause-refused g c =
    same_refused (g.P.Disk.state c.args.place.now) (g.P.Disk.state c.take_up.new.self) (g.P.Place.stored c.args.place.now)
    (g.P.Place.stored c.take_up.new.self) Device c.in-Err-Failed.ensures.err.0 c.in-Err-Failed.ensures.err.1 tt

pub returns-in-Err-Failed-clause-damaged : goal.returns-in-Err-Failed-clause-damaged
returns-in-Err-Failed-clause-damaged g c = λ part at damaged. inr (inr (inr refl))

pub returns-clause-refused : goal.returns-clause-refused
returns-clause-refused g c =
    same_refused (g.P.Disk.state c.args.place.now) (g.P.Disk.state c.take_up.new.self) (g.P.Place.stored c.args.place.now)
    (g.P.Place.stored c.take_up.new.self) Memory c.in-Err-Memory.ensures.err.0 c.in-Err-Memory.ensures.err.1 tt

pub returns-clause-damaged : goal.returns-clause-damaged
returns-clause-damaged g c = λ part at damaged. inr (inl refl)

pub returns-in_default-clause-device : goal.returns-in_default-clause-device
returns-in_default-clause-device g c = device_memory _ _ _ refl

pub returns-in-Ok-take_up-clause-device : goal.returns-in-Ok-take_up-clause-device
returns-in-Ok-take_up-clause-device g c =
    device_down c.run_on-journal.result.1 _ _ _ _ _ _ c.take_up.ensures.cause.later c.put_down.ensures.later
    c.put_down.ensures.faults (c.put_down.ensures.asked ∙ c.in-Ok-take_up.ensures.asked ∙ ap Some c.directory.ensures)
    c.run_on-journal.ensures.device

pub returns-in-Err-Failed-clause-device : goal.returns-in-Err-Failed-clause-device
returns-in-Err-Failed-clause-device g c =
    device_failed _ _ _ (c.in-Err-Failed.ensures.cause.failed (ap Err c.in-Err-Failed.field-0-is)) c.in-Err-Failed.ensures.cause.later

pub returns-clause-device : goal.returns-clause-device
returns-clause-device g c = device_memory _ _ _ (c.in-Err-Memory.ensures.no_fault
    (λ failed. memory_is_no_failure (sym c.in-Err-Memory.field-0-is ∙ same_error _ failed)))
