-- A sweep, and what a command leaves that sweeps at its end.
use Rattle.std.proofs.Common.{◌≡◌, ℕ, ◌≤◌, false, List, [], ◌++◌, Option, Result, Ok, Err, arith, refl, sym, ap, subst, ◌∙◌}
use Rattle.std.specs.List.{AllByRecursion as Each}
use Rattle.std.specs.Prelude.{OnOk}
use Rattle.tsdb_base.proofs.Lists.{each_weaker}
use Rattle.tsdb_base.specs.Causes.{Rose}
use Rattle.tsdb_core.specs.Core.{files_of, logged_of, working_of}
use Rattle.tsdb_core.specs.Out.{HandsOn}
use Rattle.tsdb_core.specs.Places.{AreUnread}
use Rattle.tsdb_core.specs.FilesetFiles.{AreKept}
use Rattle.tsdb_core.specs.FlushJob.{FlushJob}
use Rattle.tsdb_core.specs.StateOfFiles.{may_go}
use Rattle.tsdb_core.specs.FilesetSweeps.{tried_numbers}
use Rattle.tsdb_core.specs.Sweeps.{IsSwept, without_files}
use Rattle.tsdb_core.specs.declared.engine.Core.{Core}
use Rattle.tsdb_frames.proofs.Counted.{no_fault_no_doubt}
use Rattle.tsdb_frames.specs.Calls.{KeepsToSlot}
use Rattle.tsdb_frames.specs.Frames.{disk_of, faults_of, is_in_doubt}
use Rattle.tsdb_memory.specs.Changes.{KeepsSeries}
use Rattle.tsdb_memory.specs.Fits.{HasNoPairPoint}
use Rattle.tsdb_memory.specs.LogState.{log_of, memory_of}
use Rattle.tsdb_memory.specs.declared.logged_memory.LoggedMemory.{LoggedMemory}
use Rattle.tsdb_model.specs.State as plain
use Rattle.tsdb_model.specs.declared.command.Command.{Command}
use Rattle.tsdb_model.specs.declared.reply.Reply.{Reply}
use Rattle.tsdb_outside.specs.Causes.{HasCause}
use Rattle.tsdb_outside.specs.Files.{NamedFile, Store, StoredFile}
use Rattle.tsdb_outside.specs.Moments.{LeavesOnly}
use Rattle.tsdb_outside.specs.declared.disk.Disk as disk
use Rattle.tsdb_outside.specs.declared.faults.Counted as counted
use Rattle.tsdb_outside.specs.declared.faults.Failed.{Failed}
use Rattle.tsdb_serving.proofs.Causes.{rose_later}
use Rattle.tsdb_serving.proofs.Held.{held_without}
use Rattle.tsdb_serving.proofs.Jobs.{drawn_first}
use Rattle.tsdb_serving.proofs.Read.{none_read, read_left}
use Rattle.tsdb_serving.specs.Flushing.{TakesFlushBack, EndsLoan, GoesOn, IsOfJob, faults_under}
use Rattle.tsdb_serving.specs.Flushing.{frozen_under}
use Rattle.tsdb_serving.specs.Serving.{ServesCommand, IsDrawn, IsServedBy, LeavesEither, StaysInPlace, disk_under}
use Rattle.tsdb_serving.specs.Serving.{log_under, slot_under}
use Rattle.tsdb_serving.specs.Sweeping.{AreOutgoingRead, IsRead, KeepsAllButOutgoing, LeavesNothing, LeavesRead}
use Rattle.tsdb_serving.specs.Sweeping.{StaysEmpty, StaysRead}
use Rattle.tsdb_serving.specs.declared.fault.FlushFault.{FlushFault}
use Rattle.tsdb_serving.specs.declared.loan.Loan.{Loan}
use Rattle.tsdb_serving.specs.declared.loan.Loan.TheVariants as loan
use Rattle.tsdb_state.specs.Steps.{swept as swept_state}

module _ {J F S R P : Type 0} {means : disk.Ghosts J} {counts : counted.Ghosts J} where
  -- nothing is done
  pub idle_keeps : (core : Core J F S R P means counts) → KeepsAllButOutgoing core core
  idle_keeps core = record {
    logged = refl;
    next = refl;
    limit = refl;
    sequence = refl;
    unsequence = refl;
    serving = λ loans files at next serving. serving;
  }

  module _ (old new : Core J F S R P means counts) where
    pub sweep_keeps : (outcome : Result ℕ Failed) → IsSwept old new outcome → KeepsAllButOutgoing old new
    sweep_keeps (Ok count) sweeps = record {
      logged = sweeps.logged;
      next = sweeps.next;
      limit = sweeps.limit;
      sequence = sweeps.all.left.sequence;
      unsequence = sweeps.all.left.unsequence;
      serving = λ loans files at next serving.
          let gone = may_go sweeps.doubted (files_of old) (files_of old).outgoing in record {
            outside = without_files gone serving.outside;
            state = swept_state gone serving.state;
            seen = sweeps.all.step serving.outside serving.state serving.seen;
            lent = serving.lent;
            stands = serving.stands;
            doubt = serving.doubt;
            held = held_without gone serving.outside.kept files serving.held;
          };
    }
    sweep_keeps (Err fault) sweeps = record {
      logged = sweeps.logged;
      next = sweeps.next;
      limit = sweeps.limit;
      sequence = sweeps.stopped.1.left.sequence;
      unsequence = sweeps.stopped.1.left.unsequence;
      serving = λ loans files at next serving.
          let gone = tried_numbers sweeps.doubted (files_of old).places sweeps.stopped.0 in record {
            outside = without_files gone serving.outside;
            state = swept_state gone serving.state;
            seen = sweeps.stopped.1.step serving.outside serving.state serving.seen;
            lent = serving.lent;
            stands = serving.stands;
            doubt = serving.doubt;
            held = held_without gone serving.outside.kept files serving.held;
          };
    }

    pub only_read : (outcome : Result ℕ Failed) → IsSwept old new outcome → AreKept (files_of old) → (before now : ℕ)
        → HasCause before now outcome → LeavesRead before now new
    only_read (Ok count) sweeps kept before now cause = λ calm sure. read_left sweeps.doubted (files_of old)
        (files_of new) kept
        (sweeps.none (subst (λ (logged : LoggedMemory J means counts). is_in_doubt (log_of logged) ≡ false) sweeps.logged sure))
        sweeps.all.left
    only_read (Err fault) sweeps kept before now cause = λ calm sure. absurd (calm cause.failed)

  -- a sweep behind other calls, in which the count does not fall
  pub read_since : (before mid now : ℕ) (core : Core J F S R P means counts) → before ≤ mid → LeavesRead mid now core
      → LeavesRead before now core
  read_since before mid now core less leaves = λ calm. leaves (λ rose. calm (rose_later before mid now less rose))

  -- where the journal has counted no fault nothing is in doubt
  pub read_without_faults : (core : Core J F S R P means counts) (before now : ℕ) → LeavesRead before now core
      → ¬ Rose before now → faults_under core ≡ 0 → AreOutgoingRead (files_of core)
  read_without_faults core before now leaves calm none =
      leaves calm (no_fault_no_doubt (log_of (logged_of core)) none)

  -- where no right is out nothing is read
  pub nothing_left : (core : Core J F S R P means counts) (before now : ℕ) → AreUnread (files_of core).places
      → LeavesRead before now core → LeavesNothing before now core
  nothing_left core before now unread leaves = λ calm sure. none_read (files_of core) unread (leaves calm sure)

  pub still_empty : (old new : Core J F S R P means counts) (before now : ℕ) → AreUnread (files_of new).places
      → StaysRead before now old new → StaysEmpty before now old new
  still_empty old new before now unread stays = λ none calm counted. none_read (files_of new) unread
      (stays (subst (Each (IsRead (files_of old))) (sym none) tt) calm counted)

  module _ (old mid new : Core J F S R P means counts) (keeps : KeepsAllButOutgoing mid new) where
    pub served_on : (A Q : ℕ → Type 0) → ((n : ℕ) → A n → Q n) → (left : List (Loan F S R P)) (files : List StoredFile)
        (at : plain.State) (next : Option plain.State) (after now : plain.State)
        → IsServedBy A left old mid files at next after now → IsServedBy Q left old new files at next after now
    served_on A Q numbered left files at next after now served = record {
      put = served.put;
      numbers = each_weaker (λ (file : StoredFile). A file.number) (λ (file : StoredFile). Q file.number)
          (λ file is. numbered file.number is) served.put served.numbers;
      differ = served.differ;
      doubt = served.doubt;
      may = served.may;
      serving = keeps.serving left (files ++ served.put) now served.doubt served.serving;
      moments = subst (λ (logged : LoggedMemory J means counts). LeavesOnly (disk_under old) (disk_of (log_of logged))
          (LeavesEither (files ++ served.put) (slot_under old) at next after)) (sym keeps.logged) served.moments;
    }

    drawn_on : (left : List (Loan F S R P)) (files : List StoredFile) (at : plain.State) (next : Option plain.State)
        (after now : plain.State) → IsServedBy (IsDrawn old mid) left old mid files at next after now
        → IsServedBy (IsDrawn old new) left old new files at next after now
    drawn_on = served_on (IsDrawn old mid) (IsDrawn old new) (drawn_first old mid new keeps.next)

    -- a part of a command, and then a sweep
    pub goes_on_swept : (store : P → Store) (faults : P → ℕ) (port mid_port after : P) (drawn : ℕ)
        → GoesOn store faults port mid_port old mid drawn → HandsOn mid new → store after ≡ store mid_port
        → faults mid_port ≤ faults after → GoesOn store faults port after old new drawn
    goes_on_swept store faults port mid_port after drawn part hands_on same_store later =
        let same = keeps.next in
        let from = part.serves.stays.next in
        let draws = part.serves.draws in
        let counted_first = part.serves.later.1 in
        record {
          serves = record {
            keeps_all = λ out kept. hands_on (store port) out (part.serves.keeps_all out kept);
            stays = record {
              slot = subst (λ (logged : LoggedMemory J means counts). KeepsToSlot (log_under old) (log_of logged))
                  (sym keeps.logged) part.serves.stays.slot;
              next = omega (arith, from, same);
            };
            draws = omega (arith, draws, same);
            same_store = same_store ∙ part.serves.same_store;
            later = (
              subst (λ (logged : LoggedMemory J means counts). faults_under old ≤ faults_of (log_of logged))
                  (sym keeps.logged) part.serves.later.0,
              omega (arith, counted_first, later),
            );
          };
          limit = keeps.limit ∙ part.limit;
          counted = record {
            series = ap (λ (logged : LoggedMemory J means counts). (memory_of logged).series) keeps.logged
                ∙ part.counted.series;
            stamp = ap (λ (logged : LoggedMemory J means counts). (memory_of logged).stamp) keeps.logged
                ∙ part.counted.stamp;
          };
          keeps = λ tells loans files at next serving.
              drawn_on loans files at next at at (part.keeps tells loans files at next serving);
        }

    -- what a command answers, and then a sweep
    pub answers_swept : (command : Command) (reply : Reply) → ServesCommand old mid command reply
        → ServesCommand old new command reply
    unfolding served_on drawn_on
    answers_swept command reply answers loans files at next serving = let one = answers loans files at next serving in
        record {
          allowed = one.allowed;
          served = drawn_on loans files at next _ _ one.served;
          settled = λ change done. one.settled change done;
          doubtful = one.doubtful;
          unwritten = λ change not. drawn_on loans files at next at at (one.unwritten change not);
        }

  -- the end of a loan, and then a sweep
  pub loan_swept : (name : R → NamedFile) (store : Store) (one : Loan F S R P) (old mid new : Core J F S R P means counts)
      → KeepsAllButOutgoing mid new → HandsOn mid new → EndsLoan name store one old mid → EndsLoan name store one old new
  loan_swept name store one old mid new keeps hands_on part = record {
    back = λ others all is kept. hands_on store others (part.back others all is kept);
    slot = subst (λ (logged : LoggedMemory J means counts). KeepsToSlot (log_under old) (log_of logged))
        (sym keeps.logged) part.slot;
    next = keeps.next ∙ part.next;
    limit = keeps.limit ∙ part.limit;
    kept = subst (λ (logged : LoggedMemory J means counts). KeepsSeries (memory_of (logged_of old)) (memory_of logged))
        (sym keeps.logged) part.kept;
    later = subst (λ (logged : LoggedMemory J means counts). faults_under old ≤ faults_of (log_of logged))
        (sym keeps.logged) part.later;
  }

  pub ends_swept : (name : R → NamedFile) (store : Store) (job : FlushJob) (old mid new : Core J F S R P means counts)
      → KeepsAllButOutgoing mid new → HandsOn mid new → TakesFlushBack name store job old mid → TakesFlushBack name store job old new
  ends_swept name store job old mid new keeps hands_on part = record {
    ends = loan_swept name store (loan.Flush job) old mid new keeps hands_on part.ends;
    serves = λ tells others loans files at next one serving. served_on old mid new keeps (IsOfJob job) (IsOfJob job)
        (λ n is. is) others files at next at at (part.serves tells others loans files at next one serving);
  }

  -- the log keeps to its slot
  pub stays_swept : (old mid new : Core J F S R P means counts) → KeepsAllButOutgoing mid new → StaysInPlace old mid
      → StaysInPlace old new
  stays_swept old mid new keeps stays = record {
    slot = subst (λ (logged : LoggedMemory J means counts). KeepsToSlot (log_under old) (log_of logged))
        (sym keeps.logged) stays.slot;
    next = let first = stays.next in let same = keeps.next in omega (arith, first, same);
  }

  module _ (mid new : Core J F S R P means counts) (keeps : KeepsAllButOutgoing mid new) where
    -- the journal's count is as it was
    pub faults_swept : faults_under new ≡ faults_under mid
    faults_swept = ap (λ logged. faults_of (log_of logged)) keeps.logged

    pub no_less_swept : faults_under mid ≤ faults_under new
    no_less_swept = let same = faults_swept in omega (arith, same)

    -- all pairs that were flushed are flushed still
    pub flushed_swept : (result : Result (Unit {0}) FlushFault)
        → OnOk result ((frozen_under mid ≡ []) × HasNoPairPoint (working_of mid))
        → OnOk result ((frozen_under new ≡ []) × HasNoPairPoint (working_of new))
    flushed_swept result = subst (λ (logged : LoggedMemory J means counts).
        OnOk result (((memory_of logged).frozen ≡ []) × HasNoPairPoint (memory_of logged).working)) (sym keeps.logged)
