use Rattle.std.proofs.Common.{arith, rules}
use Rattle.std.proofs.lemmas.Grind.{common_steps}
use Rattle.tsdb_script.proofs.ReadingLemmas.{well_formed_lines}
use Rattle.tsdb_script.proofs.ScriptLemmas.{begin, more_command, more_skipped, refuses}
use Rattle.tsdb_script.proofs.SessionLemmas.{none_different}
use Rattle.tsdb_script.proofs.script.read_script.Goals as goal

pub loop-rest-init : goal.loop-rest-init
loop-rest-init c = rw (c.new-script.ensures.items, c.new-sessions.ensures.items) (begin c.args.bytes.now none_different)

pub returns-in-Err-clause-bad : goal.returns-in-Err-clause-bad
returns-in-Err-clause-bad c =
    rw c.fault_at.ensures
    (refuses _ _ _ _ _ _ _ c.loop-rest.invariant c.first_line.ensures.whole c.first_line.ensures.first c.first_line.ensures.some c.in-Err.fault
    (rw c.as_slice.ensures.value at c.in-Err.ensures.bad))

pub loop-rest-preserved-in_ok-push-in-Ok-Some : goal.loop-rest-preserved-in_ok-push-in-Ok-Some
loop-rest-preserved-in_ok-push-in-Ok-Some c =
    let is = rw (c.in-Ok-Some.field-0-is, c.as_slice.ensures.value) at c.in-Ok-Some.ensures.command in
    let sessions = rw c.in_ok-push-in-Ok-Some.ensures.script at c.in_ok-push-in-Ok-Some.ensures.sessions in
    rw c.in_ok-push-in-Ok-Some.ensures.script
    (more_command _ _ _ _ _ _ _ c.loop-rest.invariant c.first_line.ensures.whole c.first_line.ensures.first c.first_line.ensures.some _ _ is sessions)

pub loop-rest-preserved : goal.loop-rest-preserved
loop-rest-preserved c =
    let is = rw (c.in-Ok-None.field-0-is, c.as_slice.ensures.value) at c.in-Ok-None.ensures.skipped in
    more_skipped _ _ _ _ _ _ _ c.loop-rest.invariant c.first_line.ensures.whole c.first_line.ensures.first c.first_line.ensures.some is

pub returns-clause-good : goal.returns-clause-good
returns-clause-good c = well_formed_lines c.loop-rest.invariant.front c.loop-rest.script.items c.loop-rest.invariant.gives

pub first_line-requires : goal.first_line-requires
first_line-requires c = search rules

pub overflow_sub-end : goal.overflow_sub-end
overflow_sub-end c = grind (arith, common_steps)

pub overflow_add-number : goal.overflow_add-number
overflow_add-number c = search rules

pub read_line-requires-clause-sessions : goal.read_line-requires-clause-sessions
read_line-requires-clause-sessions c = search rules

pub read_line-requires-clause-good : goal.read_line-requires-clause-good
read_line-requires-clause-good c =
    rw c.as_slice.ensures.value (well_formed_lines c.loop-rest.invariant.front c.loop-rest.script.items c.loop-rest.invariant.gives)

pub push-requires-clause-sessions : goal.push-requires-clause-sessions
push-requires-clause-sessions c = search rules

pub push-requires-clause-room : goal.push-requires-clause-room
push-requires-clause-room c = search rules

pub returns-in_err-push-in-Ok-Some-clause-found : goal.returns-in_err-push-in-Ok-Some-clause-found
returns-in_err-push-in-Ok-Some-clause-found c = search rules

pub returns-in_err-push-in-Ok-Some-clause-good : goal.returns-in_err-push-in-Ok-Some-clause-good
returns-in_err-push-in-Ok-Some-clause-good c = search rules

pub returns-in_err-push-in-Ok-Some-clause-bad : goal.returns-in_err-push-in-Ok-Some-clause-bad
returns-in_err-push-in-Ok-Some-clause-bad c = search rules

pub returns-in-Err-clause-found : goal.returns-in-Err-clause-found
returns-in-Err-clause-found c = search rules

pub returns-in-Err-clause-good : goal.returns-in-Err-clause-good
returns-in-Err-clause-good c = search rules

pub loop-rest-smaller-in_ok-push-in-Ok-Some : goal.loop-rest-smaller-in_ok-push-in-Ok-Some
loop-rest-smaller-in_ok-push-in-Ok-Some c = grind (arith, common_steps)

pub loop-rest-smaller : goal.loop-rest-smaller
loop-rest-smaller c = grind (arith, common_steps)

pub returns-clause-found : goal.returns-clause-found
returns-clause-found c = grind (arith, common_steps)

pub returns-clause-bad : goal.returns-clause-bad
returns-clause-bad c = search rules
