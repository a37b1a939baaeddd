-- What a flush, a compaction and a listing answer, and why a device failed.
use Rattle.std.proofs.Common.{◌≡◌, ◌≢◌, ℕ, ◌+◌, ◌<◌, Bool, true, false, List, ◌++◌, Option, inl, inr, refl, sym}
use Rattle.std.proofs.Common.{subst}
use Rattle.tsdb_base.specs.declared.answers.Answer.{Answer}
use Rattle.tsdb_base.specs.declared.answers.Answer.TheVariants as answer
use Rattle.tsdb_base.specs.declared.ids.Space.{Space}
use Rattle.tsdb_querying.specs.CoreType.{Core}
use Rattle.tsdb_querying.specs.Loan.{Loan}
use Rattle.tsdb_frames.proofs.MomentLemmas.{weaker}
use Rattle.tsdb_history.proofs.Prefixes.{no_change}
use Rattle.tsdb_model.specs.Apply.{reply_of}
use Rattle.tsdb_model.specs.History.{DrawsNumbers, IsAllowed, IsChange, state_after}
use Rattle.tsdb_model.specs.State as plain
use Rattle.tsdb_model.specs.declared.command.Command.{Command}
use Rattle.tsdb_model.specs.declared.command.Command.TheVariants.{CompactCross, CompactInner, Flush, ShowFiles}
use Rattle.tsdb_model.specs.declared.reply.Reply.{Reply}
use Rattle.tsdb_model.specs.declared.reply.Reply.TheVariants.{Plain}
use Rattle.tsdb_outside.specs.Disk.{Image, IsLawful}
use Rattle.tsdb_outside.specs.Files.{Store, StoredFile}
use Rattle.tsdb_outside.specs.declared.disk.Disk as disk
use Rattle.tsdb_outside.specs.declared.faults.Counted as counted
use Rattle.tsdb_querying.proofs.Answered.{unmoved}
use Rattle.tsdb_querying.proofs.Held.{same_state}
use Rattle.tsdb_querying.specs.Faults.{flush_answer}
use Rattle.tsdb_querying.specs.Serving.{ServesCommand, IsAnsweredBy, IsDrawn, IsServedBy, IsServing, IsSure, KeepsServing}
use Rattle.tsdb_querying.specs.Serving.{LeavesDoubt, LeavesEither, MayDoubt, disk_under, slot_under}
use Rattle.tsdb_querying.specs.FlushFault.{FlushFault}
use Rattle.tsdb_querying.specs.TheVariants as fault
use Rattle.tsdb_base.specs.Limits.{end_of_numbers}

-- A command that writes files, and changes no state.
pub record WritesFiles (command : Command) : Type 0 where
  pub draws : DrawsNumbers command
  pub no_change : ¬ IsChange command
  pub not_listing : command ≢ ShowFiles
  pub accepted : (at : plain.State) → Plain answer.Done ≡ reply_of at.world command
  pub stays : (at : plain.State) → state_after at command (Plain answer.Done) ≡ at

pub writes_flush : WritesFiles Flush
writes_flush = record {
  draws = tt;
  no_change = λ change. cc;
  not_listing = λ is. absurd cc;
  accepted = λ at. refl;
  stays = λ at. no_change at Flush (λ change. cc);
}

pub writes_inner : (space : Space) → WritesFiles (CompactInner space)
writes_inner space = record {
  draws = tt;
  no_change = λ change. cc;
  not_listing = λ is. absurd cc;
  accepted = λ at. refl;
  stays = λ at. no_change at (CompactInner space) (λ change. cc);
}

pub writes_cross : WritesFiles CompactCross
writes_cross = record {
  draws = tt;
  no_change = λ change. cc;
  not_listing = λ is. absurd cc;
  accepted = λ at. refl;
  stays = λ at. no_change at CompactCross (λ change. cc);
}

module _ (command : Command) (writes : WritesFiles command) where
  -- a command that went well, and one that ended before its end
  done_allowed : (at : plain.State) → IsAllowed at command (Plain answer.Done)
  done_allowed at = record {
    not_listing = writes.not_listing;
    same = writes.accepted at;
    rises = λ change. absurd (writes.no_change change);
  }

  fault_allowed : (at : plain.State) (why : FlushFault)
      → ((counter : ℕ) → why ≡ fault.Full counter → end_of_numbers < counter + 2)
      → IsAllowed at command (Plain (flush_answer why))
  fault_allowed at fault.Device full = writes.not_listing
  fault_allowed at fault.Memory full = tt
  fault_allowed at (fault.Full counter) full = inr (record { draws = writes.draws; end = full counter refl })

  -- it changes no state
  state_stays : (at : plain.State) (result : Answer) → state_after at command (Plain result) ≡ at
  state_stays at answer.Done = writes.stays at
  state_stays at answer.NoPath = refl
  state_stays at answer.WrongType = refl
  state_stays at answer.Exists = refl
  state_stays at answer.Device = refl
  state_stays at answer.Memory = refl
  state_stays at (answer.Full counter) = refl

-- a fault is not called done
pub fault_is_not_done : (why : FlushFault) → flush_answer why ≢ answer.Done
fault_is_not_done fault.Device is = absurd cc
fault_is_not_done fault.Memory is = absurd cc
fault_is_not_done (fault.Full counter) is = absurd cc

-- and it is one of the device where it is answered so
pub fault_is_device : (why : FlushFault) → flush_answer why ≡ answer.Device → why ≡ fault.Device
fault_is_device fault.Device is = refl
fault_is_device fault.Memory is = absurd cc
fault_is_device (fault.Full counter) is = absurd cc

module _ {J F S R P : Type 0} {means : disk.Ghosts J} {counts : counted.Ghosts J} where
  module _ (command : Command) (writes : WritesFiles command) (Q : ℕ → Type 0) (loans : List (Loan F S R P))
      (old new : Core J F S R P means counts) (files : List StoredFile) (at : plain.State) (next : Option plain.State)
      (kept : IsServedBy Q loans old new files at next at at) (result : Answer) where
    abbrev done : plain.State
    done = state_after at command (Plain answer.Done)

    may_then : MayDoubt next at at kept.doubt → MayDoubt next at done kept.doubt
    may_then (inl none) = inl none
    may_then (inr (inl was)) = inr (inl was)
    may_then (inr (inr (inl same))) = inr (inr (inl same))
    may_then (inr (inr (inr same))) = inr (inr (inl same))

    doubt_then : MayDoubt next at at kept.doubt → LeavesDoubt next at command (Plain result) kept.doubt
    doubt_then (inl none) = inl none
    doubt_then (inr (inl was)) = inr (inl was)
    doubt_then (inr (inr (inl same))) = inr (inr (inl (writes.draws, same)))
    doubt_then (inr (inr (inr same))) = inr (inr (inl (writes.draws, same)))

    left_then : (image : Image) → LeavesEither (files ++ kept.put) (slot_under old) at next at image
        → LeavesEither (files ++ kept.put) (slot_under old) at next done image
    left_then image (inl leaves) = inl leaves
    left_then image (inr leaves) = inl (same_state (files ++ kept.put) (slot_under old) at next image leaves)

    -- what keeps the state answers the command
    pub kept_answered : IsAllowed at command (Plain result)
        → IsAnsweredBy Q loans old new files at next command (Plain result)
    kept_answered may = record {
      allowed = may;
      served = record {
        put = kept.put;
        numbers = kept.numbers;
        differ = kept.differ;
        doubt = kept.doubt;
        may = may_then kept.may;
        serving = subst (λ state. IsServing loans new (files ++ kept.put) state kept.doubt)
            (sym (state_stays command writes at result)) kept.serving;
        moments = weaker (disk_under old) (disk_under new) (LeavesEither (files ++ kept.put) (slot_under old) at next at)
            (LeavesEither (files ++ kept.put) (slot_under old) at next done) left_then kept.moments;
      };
      settled = λ change. absurd (writes.no_change change);
      doubtful = doubt_then kept.may;
      unwritten = λ change. absurd (writes.no_change change);
    }

  pub writing_done : (command : Command) → WritesFiles command → (old new : Core J F S R P means counts)
      → KeepsServing old new → ServesCommand old new command (Plain answer.Done)
  writing_done command writes old new keeps loans files at next serving = kept_answered command writes (IsDrawn old new)
      loans old new files at next (keeps loans files at next serving) answer.Done (done_allowed command writes at)

  pub writing_failed : (command : Command) → WritesFiles command → (old new : Core J F S R P means counts)
      → KeepsServing old new → (why : FlushFault)
      → ((counter : ℕ) → why ≡ fault.Full counter → end_of_numbers < counter + 2) → (result : Answer)
      → result ≡ flush_answer why → ServesCommand old new command (Plain result)
  writing_failed command writes old new keeps why full result is loans files at next serving = kept_answered command writes
      (IsDrawn old new) loans old new files at next (keeps loans files at next serving) result
      (subst (λ answer. IsAllowed at command (Plain answer)) (sym is) (fault_allowed command writes at why full))

  -- a listing for which memory ended
  pub not_shown : ((journal : J) → IsLawful (means.state journal)) → (core : Core J F S R P means counts)
      → ServesCommand core core ShowFiles (Plain answer.Memory)
  not_shown laws core loans files at next serving = unmoved laws core core refl ShowFiles (Plain answer.Memory)
      (λ change. cc) loans files at next serving serving refl tt

  -- a query fails where a fault is counted, whether the store tells what its files hold or not
  pub sure_cause : (store : Store) (core : Core J F S R P means counts) (reply : Reply) (rose : Type 0)
      → ((loans : List (Loan F S R P)) (files : List StoredFile) (at : plain.State) (next : Option plain.State)
      → IsServing loans core files at next → reply ≡ Plain answer.Device → rose) → (store.tells ≡ false → reply ≡ Plain answer.Device → rose)
      → IsSure store core → reply ≡ Plain answer.Device → rose
  sure_cause store core reply rose told untold (inl none) = untold none
  sure_cause store core reply rose told untold (inr is) = told is.0 is.1 is.2 is.3 is.4

  -- the core is in a state of the plain model behind a command too
  pub sure_still : (store : Store) (old new : Core J F S R P means counts) (command : Command) (reply : Reply)
      → (store.tells ≡ true → ServesCommand old new command reply) → IsSure store old → IsSure store new
  sure_still store old new command reply answers (inl none) = inl none
  sure_still store old new command reply answers (inr is) = by store.tells refl
    where
      by : (told : Bool) → store.tells ≡ told → IsSure store new
      by false none = inl none
      by true told = let answered = answers told is.0 is.1 is.2 is.3 is.4 in
          inr (
            is.0,
            is.1 ++ answered.served.put,
            state_after is.2 command reply,
            answered.served.doubt,
            answered.served.serving,
          )
