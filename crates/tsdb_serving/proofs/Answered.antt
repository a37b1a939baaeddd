-- Changes of a user: what each answers, and which states it leads to.
use Rattle.std.proofs.Common.{◌≡◌, ◌≢◌, ◌⊎◌, ℕ, ◌+◌, ◌<◌, List, [], ◌++◌, Option, None, Some, inl, inr, refl, sym, ap, arith}
use Rattle.std.proofs.Common.{subst, ◌∙◌}
use Rattle.tsdb_memory.specs.MapAnswers.{IsInsertAnswer, IsMapAnswer, IsTried}
use Rattle.tsdb_base.specs.declared.answers.Answer.{Answer}
use Rattle.tsdb_base.specs.declared.answers.Answer.TheVariants as answer
use Rattle.tsdb_core.specs.Commands.{IsCoreCommand, IsSeenAfter}
use Rattle.tsdb_core.specs.Core.{IsSeen, logged_of}
use Rattle.tsdb_core.specs.Rows.{HasRowPlace, IsFrozenFor, IsRowPut, IsRowCommand}
use Rattle.tsdb_core.specs.Worlds.{IsWorldOf}
use Rattle.tsdb_core.specs.declared.engine.Core.{Core}
use Rattle.tsdb_frames.proofs.MomentLemmas.{weaker}
use Rattle.tsdb_log.specs.declared.record.LogRecord.{LogRecord}
use Rattle.tsdb_log.specs.declared.record.LogRecord.TheVariants as item
use Rattle.tsdb_memory.specs.Answers.{IsCreateAnswer, IsDeleteAnswer}
use Rattle.tsdb_memory.specs.Commands.{NeedsNothing}
use Rattle.tsdb_memory.specs.LogState.{Outside, log_of, memory_of, with_record}
use Rattle.tsdb_model.specs.Apply.{accepted, reply_of}
use Rattle.tsdb_model.specs.History.{IsAllowed, IsChange, raise, state_after}
use Rattle.tsdb_model.specs.State as plain
use Rattle.tsdb_model.specs.World.{World}
use Rattle.tsdb_model.specs.declared.command.Command.{Command}
use Rattle.tsdb_model.specs.declared.command.Command.TheVariants as command
use Rattle.tsdb_model.specs.declared.command.Row.{Row}
use Rattle.tsdb_model.specs.declared.reply.Reply.{Reply}
use Rattle.tsdb_model.specs.declared.reply.Reply.TheVariants.{Plain}
use Rattle.tsdb_memory.specs.Store.{MemoryState}
use Rattle.tsdb_outside.specs.Disk.{Image, IsLawful}
use Rattle.tsdb_outside.specs.Files.{StoredFile}
use Rattle.tsdb_outside.specs.declared.disk.Disk as disk
use Rattle.tsdb_outside.specs.declared.faults.Counted as counted
use Rattle.tsdb_state.specs.Stores.{IsStateOf}
use Rattle.tsdb_serving.proofs.Differing.{drawn_apart}
use Rattle.tsdb_serving.proofs.Held.{either_wider, held_more, same_state}
use Rattle.tsdb_serving.proofs.Parts.{froze, unchanged}
use Rattle.tsdb_serving.proofs.Steps.{moved, moved_left, quiet, quiet_left, then, then_left, then_settled}
use Rattle.tsdb_serving.specs.Faults.{flush_answer}
use Rattle.tsdb_serving.specs.Serving.{IsAnsweredBy, IsDrawn, IsServed, IsServedBy, IsServing, MayBeWritten, LeavesDoubt, LeavesEither, MayDoubt, disk_under}
use Rattle.tsdb_serving.specs.Serving.{NoNumber, slot_under}
use Rattle.tsdb_serving.specs.declared.fault.FlushFault.{FlushFault}
use Rattle.tsdb_serving.specs.declared.fault.FlushFault.TheVariants as fault
use Rattle.tsdb_serving.specs.declared.loan.Loan.{Loan}
use Rattle.tsdb_state.proofs.Inserting.{inserted_stands}
use Rattle.tsdb_state.specs.Commands.{AreCells}
use Rattle.tsdb_base.specs.Limits.{end_of_numbers}
use Rattle.tsdb_state.specs.Records.{after}
use Rattle.tsdb_state.specs.State.{EngineState, StoreState}
use Rattle.tsdb_state.specs.Steps.{failed, settled, wrote}
use Rattle.tsdb_state.specs.Worlds.{StandsFor}

-- ---- answers that the map allows

-- what an answer says of the stamp in memory
abbrev pub HasStamp : ℕ → Answer → Type 0
HasStamp stamp answer.Done = stamp < end_of_numbers
HasStamp stamp answer.NoPath = Unit {0}
HasStamp stamp answer.WrongType = Unit {0}
HasStamp stamp answer.Exists = Unit {0}
HasStamp stamp answer.Device = Unit {0}
HasStamp stamp answer.Memory = Unit {0}
HasStamp stamp (answer.Full counter) = (stamp ≡ end_of_numbers) × (counter ≡ stamp)

pub create_stamp : (store : MemoryState) (path : List ℕ) (result : Answer) → IsCreateAnswer store path result
    → HasStamp store.stamp result
create_stamp store path answer.Done is = is.1
create_stamp store path answer.NoPath is = tt
create_stamp store path answer.WrongType is = tt
create_stamp store path answer.Exists is = tt
create_stamp store path answer.Device is = tt
create_stamp store path answer.Memory is = tt
create_stamp store path (answer.Full counter) is = is.1

pub delete_stamp : (store : MemoryState) (path : List ℕ) (result : Answer) → IsDeleteAnswer store path result
    → HasStamp store.stamp result
delete_stamp store path answer.Done is = is.1
delete_stamp store path answer.NoPath is = tt
delete_stamp store path answer.WrongType is = tt
delete_stamp store path answer.Exists is = tt
delete_stamp store path answer.Device is = tt
delete_stamp store path answer.Memory is = tt
delete_stamp store path (answer.Full counter) is = is.1

pub insert_stamp : (store : MemoryState) (device : List ℕ) (row : Row) (result : Answer)
    → IsInsertAnswer store device row.cells result → HasStamp store.stamp result
insert_stamp store device row answer.Done is = is.1
insert_stamp store device row answer.NoPath is = tt
insert_stamp store device row answer.WrongType is = tt
insert_stamp store device row answer.Exists is = tt
insert_stamp store device row answer.Device is = tt
insert_stamp store device row answer.Memory is = tt
insert_stamp store device row (answer.Full counter) is = is.1

-- the state after a command that is done
abbrev done_after : plain.State → Command → plain.State
done_after at asked = state_after at asked (Plain answer.Done)

module _ (at : plain.State) (asked : Command) (not_listing : asked ≢ command.ShowFiles) (change : IsChange asked) where
  pub allowed : (result : Answer) → IsMapAnswer at.world asked result → HasStamp at.stamp result
      → IsAllowed at asked (Plain result)
  allowed answer.Done is stamp = record {
    not_listing = not_listing;
    same = sym is;
    rises = λ change done full. absurd (omega (arith, stamp, full));
  }
  allowed answer.NoPath is stamp = record {
    not_listing = not_listing;
    same = sym is;
    rises = λ change done full. absurd cc;
  }
  allowed answer.WrongType is stamp = record {
    not_listing = not_listing;
    same = sym is;
    rises = λ change done full. absurd cc;
  }
  allowed answer.Exists is stamp = record {
    not_listing = not_listing;
    same = sym is;
    rises = λ change done full. absurd cc;
  }
  allowed answer.Device is stamp = not_listing
  allowed answer.Memory is stamp = tt
  allowed (answer.Full counter) is stamp = inl (record {
    change = change;
    accepted = is;
    stands = stamp.0;
    number = stamp.1;
  })

-- the fault of a flush before a row
pub fault_allowed : (at : plain.State) (device : List ℕ) (row : Row) (why : FlushFault)
    → ((counter : ℕ) → why ≡ fault.Full counter → end_of_numbers < counter + 2)
    → IsAllowed at (command.Insert device row) (Plain (flush_answer why))
fault_allowed at device row fault.Device full = λ is. absurd cc
fault_allowed at device row fault.Memory full = tt
fault_allowed at device row (fault.Full counter) full = inr (record { draws = tt; end = full counter refl })

fault_state : (at : plain.State) (device : List ℕ) (row : Row) (why : FlushFault)
    → state_after at (command.Insert device row) (Plain (flush_answer why)) ≡ at
fault_state at device row fault.Device = refl
fault_state at device row fault.Memory = refl
fault_state at device row (fault.Full counter) = refl

fault_not_done : (why : FlushFault) → Plain (flush_answer why) ≡ Plain answer.Done → ⊥
fault_not_done fault.Device is = absurd cc
fault_not_done fault.Memory is = absurd cc
fault_not_done (fault.Full counter) is = absurd cc

-- ---- what is in doubt

-- nothing, what was, or the state after the record, where the device failed
abbrev pub Doubts : Option plain.State → plain.State → Answer → Option plain.State → Type 0
Doubts next after result doubt =
    (doubt ≡ None) ⊎ ((doubt ≡ next) ⊎ ((result ≡ answer.Device) × (doubt ≡ Some after)))

-- so too where a pair may have been frozen before it
abbrev RowDoubts : Option plain.State → plain.State → plain.State → Answer → Option plain.State → Type 0
RowDoubts next at after result doubt =
    (doubt ≡ None) ⊎ ((doubt ≡ next) ⊎ ((doubt ≡ Some at) ⊎ ((result ≡ answer.Device) × (doubt ≡ Some after))))

accepts : (world : World) (asked : Command) (result : Answer) → result ≡ answer.Device → IsMapAnswer world asked result
    → reply_of world asked ≡ Plain answer.Done
accepts world asked result is map = subst (λ answer. IsMapAnswer world asked answer) is map

pub left_in_doubt : (next : Option plain.State) (at : plain.State) (asked : Command) (result : Answer)
    (doubt : Option plain.State) → IsChange asked → IsMapAnswer at.world asked result
    → Doubts next (done_after at asked) result doubt → LeavesDoubt next at asked (Plain result) doubt
left_in_doubt next at asked result doubt change map (inl none) = inl none
left_in_doubt next at asked result doubt change map (inr (inl was)) = inr (inl was)
left_in_doubt next at asked result doubt change map (inr (inr failed)) = inr (inr (inr (record {
  change = change;
  failed = ap Plain failed.0;
  accepted = accepts at.world asked result failed.0 map;
  leads = failed.1;
})))

row_in_doubt : (next : Option plain.State) (at : plain.State) (device : List ℕ) (row : Row) (result : Answer)
    (doubt : Option plain.State) → IsMapAnswer at.world (command.Insert device row) result
    → RowDoubts next at (done_after at (command.Insert device row)) result doubt
    → LeavesDoubt next at (command.Insert device row) (Plain result) doubt
row_in_doubt next at device row result doubt map (inl none) = inl none
row_in_doubt next at device row result doubt map (inr (inl was)) = inr (inl was)
row_in_doubt next at device row result doubt map (inr (inr (inl same))) = inr (inr (inl (tt, same)))
row_in_doubt next at device row result doubt map (inr (inr (inr failed))) = inr (inr (inr (record {
  change = refl;
  failed = ap Plain failed.0;
  accepted = accepts at.world (command.Insert device row) result failed.0 map;
  leads = failed.1;
})))

-- what a step left in doubt that keeps the state
kept_doubts : (next : Option plain.State) (at after : plain.State) (result : Answer) (doubt : Option plain.State)
    → MayDoubt next at at doubt → RowDoubts next at after result doubt
kept_doubts next at after result doubt (inl none) = inl none
kept_doubts next at after result doubt (inr (inl was)) = inr (inl was)
kept_doubts next at after result doubt (inr (inr (inl same))) = inr (inr (inl same))
kept_doubts next at after result doubt (inr (inr (inr same))) = inr (inr (inl same))

-- such a step, and then a record
then_doubts : (next : Option plain.State) (at after : plain.State) (result : Answer) (mid doubt : Option plain.State)
    → MayDoubt next at at mid → RowDoubts mid at after result doubt → RowDoubts next at after result doubt
then_doubts next at after result mid doubt may (inl none) = inl none
then_doubts next at after result mid doubt may (inr (inl was)) =
    kept_doubts next at after result doubt (subst (MayDoubt next at at) (sym was) may)
then_doubts next at after result mid doubt may (inr (inr (inl same))) = inr (inr (inl same))
then_doubts next at after result mid doubt may (inr (inr (inr failed))) = inr (inr (inr failed))

as_row : (next : Option plain.State) (at after : plain.State) (result : Answer) (doubt : Option plain.State)
    → Doubts next after result doubt → RowDoubts next at after result doubt
as_row next at after result doubt (inl none) = inl none
as_row next at after result doubt (inr (inl was)) = inr (inl was)
as_row next at after result doubt (inr (inr failed)) = inr (inr (inr failed))

-- what an insert leaves in doubt behind a step that keeps the state
pub behind_doubts : (next : Option plain.State) (at : plain.State) (device : List ℕ) (row : Row) (reply : Reply)
    (mid doubt : Option plain.State) → MayDoubt next at at mid
    → LeavesDoubt mid at (command.Insert device row) reply doubt
    → LeavesDoubt next at (command.Insert device row) reply doubt
behind_doubts next at device row reply mid doubt may (inl none) = inl none
behind_doubts next at device row reply mid doubt may (inr (inl was)) =
    by (subst (MayDoubt next at at) (sym was) may)
  where
    by : MayDoubt next at at doubt → LeavesDoubt next at (command.Insert device row) reply doubt
    by (inl none) = inl none
    by (inr (inl was)) = inr (inl was)
    by (inr (inr (inl same))) = inr (inr (inl (tt, same)))
    by (inr (inr (inr same))) = inr (inr (inl (tt, same)))
behind_doubts next at device row reply mid doubt may (inr (inr left)) = inr (inr left)

module _ {J F S R P : Type 0} {means : disk.Ghosts J} {counts : counted.Ghosts J}
    (laws : (journal : J) → IsLawful (means.state journal)) where
  -- ---- one record

  -- a record leads to the map's world, where it was tried
  abbrev Leads : Core J F S R P means counts → LogRecord → Command → Answer → Type 0
  Leads old record_is asked result = (outside : Outside) (state : EngineState) → IsSeen old outside state
      → IsTried result → (world : World) → StandsFor outside.told state.store world
      → StandsFor outside.told (after record_is state.store) (accepted world asked)

  module _ (Q : ℕ → Type 0) (old new : Core J F S R P means counts) (record_is : LogRecord) (asked : Command)
      (rises : (store : StoreState) → (after record_is store).stamp ≡ store.stamp + raise asked)
      (loans : List (Loan F S R P)) (files : List StoredFile) (at : plain.State) (next : Option plain.State)
      (serving : IsServing loans old files at next) where
    abbrev then_state : plain.State
    then_state = done_after at asked

    -- the core shows the same state
    shown : IsSeen new serving.outside serving.state → IsServing loans new (files ++ []) at next
    shown seen = record {
      outside = serving.outside;
      state = serving.state;
      seen = seen;
      lent = serving.lent;
      stands = serving.stands;
      doubt = serving.doubt;
      held = held_more serving.outside.kept files [] serving.held;
    }

    -- nothing was written
    kept : log_of (logged_of new) ≡ log_of (logged_of old) → IsSeen new serving.outside serving.state
        → IsServedBy Q loans old new files at next then_state at
    kept same seen = quiet laws Q loans loans old new files [] at next then_state same tt tt serving (shown seen)

    still : new ≡ old → IsServedBy Q loans old new files at next then_state at
    still same = kept (ap (λ (core : Core J F S R P means counts). log_of (logged_of core)) same)
        (subst (λ (core : Core J F S R P means counts). IsSeen core serving.outside serving.state) (sym same)
        serving.seen)

    kept_left : (same : log_of (logged_of new) ≡ log_of (logged_of old))
        (seen : IsSeen new serving.outside serving.state) → (kept same seen).doubt ≡ next
    unfolding kept
    kept_left same seen = quiet_left laws Q loans loans old new files [] at next then_state same tt tt serving (shown seen)

    still_left : (same : new ≡ old) → (still same).doubt ≡ next
    unfolding still
    still_left same = kept_left (ap (λ (core : Core J F S R P means counts). log_of (logged_of core)) same)
        (subst (λ (core : Core J F S R P means counts). IsSeen core serving.outside serving.state) (sym same)
        serving.seen)

    -- the record was tried
    module _ (result : Answer) (step : IsCoreCommand old new record_is NeedsNothing result)
        (leads_to : StandsFor serving.outside.told (after record_is serving.state.store) then_state.world) where
      leads : IsStateOf serving.outside.told (after record_is serving.state.store) then_state
      leads = record {
        world = leads_to;
        stamp = rises serving.state.store ∙ ap (λ stamp. stamp + raise asked) serving.stands.stamp;
      }

      written : (doubt : Option plain.State) (now : plain.State) → MayDoubt next at then_state doubt
          → IsServing loans new (files ++ []) now doubt → IsServedBy Q loans old new files at next then_state now
      written doubt now may is = record {
        put = [];
        numbers = tt;
        differ = tt;
        doubt = doubt;
        may = may;
        serving = is;
        moments = weaker (disk_under old) (disk_under new) _
            (LeavesEither (files ++ []) (slot_under old) at next then_state)
            (λ image leaves. either_wider serving.outside.kept (files ++ []) (slot_under old) at next then_state
            image (held_more serving.outside.kept files [] serving.held) leaves)
            (step.moments serving.outside serving.state serving.seen tt at then_state next serving.stands
            serving.doubt leads);
      }

      done : IsSeen new (with_record record_is serving.outside) (wrote record_is serving.state)
          → IsServedBy Q loans old new files at next then_state (state_after at asked (Plain answer.Done))
      done seen = written None (state_after at asked (Plain answer.Done)) (inl refl) (record {
        outside = with_record record_is serving.outside;
        state = wrote record_is serving.state;
        seen = seen;
        lent = serving.lent;
        stands = leads;
        doubt = tt;
        held = held_more serving.outside.kept files [] serving.held;
      })

      faulted : IsSeenAfter new serving.outside serving.state record_is answer.Device
          → IsServedBy Q loans old new files at next then_state at
      faulted (inl seen) = written None at (inl refl) (record {
        outside = serving.outside;
        state = settled serving.state;
        seen = seen;
        lent = serving.lent;
        stands = serving.stands;
        doubt = tt;
        held = held_more serving.outside.kept files [] serving.held;
      })
      faulted (inr (inl seen)) = written next at (inr (inl refl)) (shown seen)
      faulted (inr (inr seen)) = written (Some then_state) at (inr (inr (inr refl))) (record {
        outside = serving.outside;
        state = failed record_is serving.state;
        seen = seen;
        lent = serving.lent;
        stands = serving.stands;
        doubt = leads;
        held = held_more serving.outside.kept files [] serving.held;
      })

    pub served : (result : Answer) → IsCoreCommand old new record_is NeedsNothing result → Leads old record_is asked result
        → IsServedBy Q loans old new files at next then_state (state_after at asked (Plain result))
    served answer.Done step led = done answer.Done step
        (led serving.outside serving.state serving.seen tt at.world serving.stands.world)
        (step.step serving.outside serving.state serving.seen tt)
    served answer.NoPath step led = still (step.refused tt)
    served answer.WrongType step led = still (step.refused tt)
    served answer.Exists step led = still (step.refused tt)
    served answer.Device step led = faulted answer.Device step
        (led serving.outside serving.state serving.seen tt at.world serving.stands.world)
        (step.step serving.outside serving.state serving.seen tt)
    served answer.Memory step led =
        kept (step.memory refl) (step.step serving.outside serving.state serving.seen tt)
    served (answer.Full counter) step led = still (step.refused tt)

    pub settles : (result : Answer) (step : IsCoreCommand old new record_is NeedsNothing result)
        (led : Leads old record_is asked result) → Plain result ≡ Plain answer.Done
        → (served result step led).doubt ≡ None
    unfolding served done written
    settles answer.Done step led is = refl
    settles answer.NoPath step led is = absurd cc
    settles answer.WrongType step led is = absurd cc
    settles answer.Exists step led is = absurd cc
    settles answer.Device step led is = absurd cc
    settles answer.Memory step led is = absurd cc
    settles (answer.Full counter) step led is = absurd cc

    -- in doubt is nothing, what was, or the record, where the device failed
    faulted_doubts : (step : IsCoreCommand old new record_is NeedsNothing answer.Device)
        (leads_to : StandsFor serving.outside.told (after record_is serving.state.store) then_state.world)
        (seen : IsSeenAfter new serving.outside serving.state record_is answer.Device)
        → Doubts next then_state answer.Device (faulted answer.Device step leads_to seen).doubt
    unfolding faulted written
    faulted_doubts step leads_to (inl seen) = inl refl
    faulted_doubts step leads_to (inr (inl seen)) = inr (inl refl)
    faulted_doubts step leads_to (inr (inr seen)) = inr (inr (refl, refl))

    pub doubts : (result : Answer) (step : IsCoreCommand old new record_is NeedsNothing result)
        (led : Leads old record_is asked result) → Doubts next then_state result (served result step led).doubt
    unfolding served done written
    doubts answer.Done step led = inl refl
    doubts answer.NoPath step led = inr (inl (still_left (step.refused tt)))
    doubts answer.WrongType step led = inr (inl (still_left (step.refused tt)))
    doubts answer.Exists step led = inr (inl (still_left (step.refused tt)))
    doubts answer.Device step led = faulted_doubts step
        (led serving.outside serving.state serving.seen tt at.world serving.stands.world)
        (step.step serving.outside serving.state serving.seen tt)
    doubts answer.Memory step led =
        inr (inl (kept_left (step.memory refl) (step.step serving.outside serving.state serving.seen tt)))
    doubts (answer.Full counter) step led = inr (inl (still_left (step.refused tt)))

    -- where the record cannot have been written, the log is as it was
    same_log : log_of (logged_of new) ≡ log_of (logged_of old) → IsSeen new serving.outside serving.state
        → IsServedBy Q loans old new files at next at at
    same_log same seen = quiet laws Q loans loans old new files [] at next at same tt tt serving (shown seen)

    same_core : new ≡ old → IsServedBy Q loans old new files at next at at
    same_core same = same_log (ap (λ (core : Core J F S R P means counts). log_of (logged_of core)) same)
        (subst (λ (core : Core J F S R P means counts). IsSeen core serving.outside serving.state) (sym same)
        serving.seen)

    pub unmoved : (result : Answer) → IsCoreCommand old new record_is NeedsNothing result → IsMapAnswer at.world asked result
        → ¬ MayBeWritten at asked (Plain result) → IsServedBy Q loans old new files at next at at
    unmoved answer.Done step map not = absurd (not (inl refl))
    unmoved answer.NoPath step map not = same_core (step.refused tt)
    unmoved answer.WrongType step map not = same_core (step.refused tt)
    unmoved answer.Exists step map not = same_core (step.refused tt)
    unmoved answer.Device step map not = absurd (not (inr (refl, map)))
    unmoved answer.Memory step map not =
        same_log (step.memory refl) (step.step serving.outside serving.state serving.seen tt)
    unmoved (answer.Full counter) step map not = same_core (step.refused tt)

    -- a command that is one record
    pub answered : (result : Answer) (step : IsCoreCommand old new record_is NeedsNothing result)
        (leads : Leads old record_is asked result) → IsChange asked → IsMapAnswer at.world asked result
        → IsAllowed at asked (Plain result) → IsAnsweredBy Q loans old new files at next asked (Plain result)
    answered result step leads change map may = record {
      allowed = may;
      served = served result step leads;
      settled = λ change is. settles result step leads is;
      doubtful = left_in_doubt next at asked result (served result step leads).doubt change map
          (doubts result step leads);
      unwritten = λ change not. unmoved result step map not;
    }

  -- ---- a row

  module _ (Q : ℕ → Type 0) (old new : Core J F S R P means counts) (device : List ℕ) (row : Row)
      (loans : List (Loan F S R P)) (files : List StoredFile) (at : plain.State) (next : Option plain.State)
      (serving : IsServing loans old files at next) where
    abbrev asked : Command
    asked = command.Insert device row

    abbrev Ends : Answer → Type 0
    Ends result = (served : IsServedBy Q loans old new files at next (done_after at asked)
        (state_after at asked (Plain result))) × (Plain result ≡ Plain answer.Done → served.doubt ≡ None)
        × RowDoubts next at (done_after at asked) result served.doubt
        × (¬ MayBeWritten at asked (Plain result) → IsServedBy Q loans old new files at next at at)

    -- the core before the record, which no file was put for
    placed : (between : Core J F S R P means counts) → HasRowPlace row old between
        → (first : IsServedBy NoNumber loans old between files at next at at) × (slot_under between ≡ slot_under old)
    placed between (inl (fits, same)) = (
      unchanged laws NoNumber loans old between files at next at
          (ap (λ (core : Core J F S R P means counts). log_of (logged_of core)) same)
          (λ outside engine seen. subst (λ (core : Core J F S R P means counts). IsSeen core outside engine) (sym same)
          seen) serving,
      ap (λ (core : Core J F S R P means counts). slot_under core) same,
    )
    placed between (inr frozen) = (
      froze laws NoNumber old between answer.Done frozen.freeze frozen.can loans files at next serving,
      frozen.freeze.slot.same,
    )

    put_leads : (result : Answer) (put : IsRowPut device row old new result)
        → Leads put.between (item.Insert row.time put.cells) asked result
    put_leads result put outside state seen tried world stands =
        inserted_stands outside.told device row put.cells state.store seen.sound.stored.order.store
        (put.can outside state seen).0 world stands
        (subst (λ schemas. AreCells schemas device row.cells put.cells) (sym seen.sound.memory.schemas) put.are)

    put_ends : (result : Answer) → IsRowPut device row old new result → IsMapAnswer at.world asked result → Ends result
    put_ends result put map =
        let first = placed put.between put.place in
        let step = put.put in (
          then laws NoNumber Q Q (λ n none. absurd none) (λ n is. is) (λ a b none. absurd none) loans loans old put.between new
              files at next (done_after at asked)
              (state_after at asked (Plain result)) first.1 first.0
              (served Q put.between new (item.Insert row.time put.cells) asked (λ store. refl)
              loans (files ++ first.0.put) at first.0.doubt first.0.serving result step (put_leads result put)),
          λ is. then_settled laws NoNumber Q Q (λ n none. absurd none) (λ n is. is) (λ a b none. absurd none) loans loans old put.between new files at next
              (done_after at asked) (state_after at asked (Plain result)) first.1 first.0
              (served Q put.between new (item.Insert row.time put.cells) asked (λ store. refl)
              loans (files ++ first.0.put) at first.0.doubt first.0.serving result step (put_leads result put))
              (settles Q put.between new (item.Insert row.time put.cells) asked (λ store. refl) loans (files ++ first.0.put)
              at first.0.doubt first.0.serving result step (put_leads result put) is),
          subst (RowDoubts next at (done_after at asked) result)
              (sym (then_left laws NoNumber Q Q (λ n none. absurd none) (λ n is. is) (λ a b none. absurd none) loans loans old put.between new files at next
              (done_after at asked) (state_after at asked (Plain result)) first.1 first.0
              (served Q put.between new (item.Insert row.time put.cells) asked (λ store. refl)
              loans (files ++ first.0.put) at first.0.doubt first.0.serving result step (put_leads result put))))
              (then_doubts next at (done_after at asked) result first.0.doubt
              (served Q put.between new (item.Insert row.time put.cells) asked (λ store. refl)
              loans (files ++ first.0.put) at first.0.doubt first.0.serving result step (put_leads result put)).doubt
              first.0.may (as_row first.0.doubt at (done_after at asked) result
              (served Q put.between new (item.Insert row.time put.cells) asked (λ store. refl)
              loans (files ++ first.0.put) at first.0.doubt first.0.serving result step (put_leads result put)).doubt
              (doubts Q put.between new (item.Insert row.time put.cells) asked (λ store. refl) loans (files ++ first.0.put)
              at first.0.doubt first.0.serving result step (put_leads result put)))),
          λ not. then laws NoNumber Q Q (λ n none. absurd none) (λ n is. is) (λ a b none. absurd none) loans loans old put.between
              new files at next at at first.1 first.0
              (unmoved Q put.between new (item.Insert row.time put.cells) asked (λ store. refl) loans (files ++ first.0.put)
              at first.0.doubt first.0.serving result step map not),
        )

    -- a step that keeps the world, as one of the command
    pub for_command : IsServedBy Q loans old new files at next at at
        → IsServedBy Q loans old new files at next (done_after at asked) at
    for_command kept = record {
      put = kept.put;
      numbers = kept.numbers;
      differ = kept.differ;
      doubt = kept.doubt;
      may = may kept.may;
      serving = kept.serving;
      moments = weaker (disk_under old) (disk_under new)
          (LeavesEither (files ++ kept.put) (slot_under old) at next at)
          (LeavesEither (files ++ kept.put) (slot_under old) at next (done_after at asked))
          (λ image leaves. left image leaves) kept.moments;
    }
      where
        may : MayDoubt next at at kept.doubt → MayDoubt next at (done_after at asked) kept.doubt
        may (inl is) = inl is
        may (inr (inl is)) = inr (inl is)
        may (inr (inr (inl is))) = inr (inr (inl is))
        may (inr (inr (inr is))) = inr (inr (inl is))

        left : (image : Image) → LeavesEither (files ++ kept.put) (slot_under old) at next at image
            → LeavesEither (files ++ kept.put) (slot_under old) at next (done_after at asked) image
        left image (inl leaves) = inl leaves
        left image (inr leaves) =
            inl (same_state (files ++ kept.put) (slot_under old) at next image leaves)

    pub command_doubt : (kept : IsServedBy Q loans old new files at next at at) → (for_command kept).doubt ≡ kept.doubt
    unfolding for_command
    command_doubt kept = refl

    -- a step that keeps the world answers a command that is not done
    only_kept : (result : Answer) → state_after at asked (Plain result) ≡ at → Plain result ≢ Plain answer.Done
        → IsServedBy Q loans old new files at next at at → Ends result
    only_kept result stays not kept = (
      moved laws Q loans old new files at next (done_after at asked) at (state_after at asked (Plain result)) (sym stays)
          (for_command kept),
      λ is. absurd (not is),
      subst (RowDoubts next at (done_after at asked) result)
          (sym (moved_left laws Q loans old new files at next (done_after at asked) at (state_after at asked (Plain result))
          (sym stays) (for_command kept) ∙ command_doubt kept))
          (kept_doubts next at (done_after at asked) result kept.doubt kept.may),
      λ unwritten. kept,
    )

    untouched : new ≡ old → IsServedBy Q loans old new files at next at at
    untouched same = unchanged laws Q loans old new files at next at
        (ap (λ (core : Core J F S R P means counts). log_of (logged_of core)) same)
        (λ outside engine seen. subst (λ (core : Core J F S R P means counts). IsSeen core outside engine) (sym same)
        seen) serving

    only_froze : (result : Answer) → IsFrozenFor row old new result → IsServedBy Q loans old new files at next at at
    only_froze result frozen = froze laws Q old new result frozen.freeze frozen.can loans files at next serving

    row_ends : (result : Answer) → IsRowCommand device row old new result → IsMapAnswer at.world asked result
        → Ends result
    row_ends answer.Done put map = put_ends answer.Done put map
    row_ends answer.NoPath same map = only_kept answer.NoPath refl (λ is. absurd cc) (untouched same)
    row_ends answer.WrongType same map = only_kept answer.WrongType refl (λ is. absurd cc) (untouched same)
    row_ends answer.Exists same map = only_kept answer.Exists refl (λ is. absurd cc) (untouched same)
    row_ends answer.Device (inl put) map = put_ends answer.Device put map
    row_ends answer.Device (inr frozen) map =
        only_kept answer.Device refl (λ is. absurd cc) (only_froze answer.Device frozen)
    row_ends answer.Memory (inl same) map = only_kept answer.Memory refl (λ is. absurd cc) (untouched same)
    row_ends answer.Memory (inr (inl put)) map = put_ends answer.Memory put map
    row_ends answer.Memory (inr (inr frozen)) map =
        only_kept answer.Memory refl (λ is. absurd cc) (only_froze answer.Memory frozen)
    row_ends (answer.Full counter) same map = only_kept (answer.Full counter) refl (λ is. absurd cc) (untouched same)

    pub row_answered : (result : Answer) → IsRowCommand device row old new result → IsMapAnswer at.world asked result
        → IsAllowed at asked (Plain result) → IsAnsweredBy Q loans old new files at next asked (Plain result)
    row_answered result is map may = let ends = row_ends result is map in record {
      allowed = may;
      served = ends.0;
      settled = λ change done. ends.1 done;
      doubtful = row_in_doubt next at device row result ends.0.doubt map ends.2;
      unwritten = λ change. ends.3;
    }

  -- ---- a row behind a flush

  module _ (old mid new : Core J F S R P means counts) (device : List ℕ) (row : Row) (loans : List (Loan F S R P))
      (files : List StoredFile) (at : plain.State) (next : Option plain.State) (slot : slot_under mid ≡ slot_under old)
      (first : IsServed loans old mid files at next at at)
      (low : (n : ℕ) → IsDrawn old mid n → IsDrawn old new n) (high : (n : ℕ) → IsDrawn mid new n → IsDrawn old new n)
    where
      pub behind : (result : Answer) → IsAnsweredBy (IsDrawn mid new) loans mid new (files ++ first.put) at first.doubt
          (command.Insert device row) (Plain result)
          → IsAnsweredBy (IsDrawn old new) loans old new files at next (command.Insert device row) (Plain result)
      behind result second = record {
        allowed = second.allowed;
        served = then laws (IsDrawn old mid) (IsDrawn mid new) (IsDrawn old new) low high (drawn_apart old mid new) loans loans old mid new files at next
            (done_after at (command.Insert device row)) (state_after at (command.Insert device row) (Plain result)) slot
            first second.served;
        settled = λ change is. then_settled laws (IsDrawn old mid) (IsDrawn mid new) (IsDrawn old new) low high (drawn_apart old mid new) loans loans old mid new
            files at next (done_after at (command.Insert device row))
            (state_after at (command.Insert device row) (Plain result)) slot first second.served (second.settled change is);
        doubtful = subst (LeavesDoubt next at (command.Insert device row) (Plain result))
            (sym (then_left laws (IsDrawn old mid) (IsDrawn mid new) (IsDrawn old new) low high (drawn_apart old mid new) loans loans old mid new files at next
            (done_after at (command.Insert device row)) (state_after at (command.Insert device row) (Plain result)) slot
            first second.served))
            (behind_doubts next at device row (Plain result) first.doubt second.served.doubt first.may second.doubtful);
        unwritten = λ change not. then laws (IsDrawn old mid) (IsDrawn mid new) (IsDrawn old new) low high
            (drawn_apart old mid new) loans loans old mid new files at next at at slot first (second.unwritten change not);
      }

  -- the flush before a row failed
  pub flush_failed : (old new : Core J F S R P means counts) (device : List ℕ) (row : Row) (loans : List (Loan F S R P))
      (files : List StoredFile) (at : plain.State) (next : Option plain.State) (why : FlushFault)
      → ((counter : ℕ) → why ≡ fault.Full counter → end_of_numbers < counter + 2)
      → IsServing loans old files at next → IsServed loans old new files at next at at
      → IsAnsweredBy (IsDrawn old new) loans old new files at next (command.Insert device row) (Plain (flush_answer why))
  flush_failed old new device row loans files at next why full serving kept = record {
    allowed = fault_allowed at device row why full;
    served = moved laws (IsDrawn old new) loans old new files at next (done_after at (command.Insert device row)) at
        (state_after at (command.Insert device row) (Plain (flush_answer why))) (sym (fault_state at device row why))
        (for_command (IsDrawn old new) old new device row loans files at next serving kept);
    settled = λ change is. absurd (fault_not_done why is);
    doubtful = subst (LeavesDoubt next at (command.Insert device row) (Plain (flush_answer why)))
        (sym (moved_left laws (IsDrawn old new) loans old new files at next (done_after at (command.Insert device row)) at
        (state_after at (command.Insert device row) (Plain (flush_answer why))) (sym (fault_state at device row why))
        (for_command (IsDrawn old new) old new device row loans files at next serving kept)
        ∙ command_doubt (IsDrawn old new) old new device row loans files at next serving kept))
        (behind_doubts next at device row (Plain (flush_answer why)) kept.doubt kept.doubt kept.may (inr (inl refl)));
    unwritten = λ change not. kept;
  }

module _ {J F S R P : Type 0} {means : disk.Ghosts J} {counts : counted.Ghosts J} where
  -- a core that stands for a state does so for its world, and memory has its stamp
  pub world_is : (loans : List (Loan F S R P)) (core : Core J F S R P means counts) (files : List StoredFile)
      (at : plain.State) (next : Option plain.State) → IsServing loans core files at next → IsWorldOf core at.world
  world_is loans core files at next serving = record {
    outside = serving.outside;
    state = serving.state;
    seen = serving.seen;
    stands = serving.stands.world;
  }

  pub stamp_is : (loans : List (Loan F S R P)) (core : Core J F S R P means counts) (files : List StoredFile)
      (at : plain.State) (next : Option plain.State) → IsServing loans core files at next → (memory_of (logged_of core)).stamp ≡ at.stamp
  stamp_is loans core files at next serving = sym serving.seen.sound.memory.stamp ∙ serving.stands.stamp
