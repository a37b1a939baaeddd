-- The parts of a flush, one behind another.
use Rattle.std.proofs.Common.{◌≡◌, ◌≢◌, ◌⊎◌, ℕ, ◌+◌, ◌-◌, ◌<◌, ◌≤◌, true, List, [], ◌∷◌, ◌++◌, length, drop, Option, Result, Ok, Err, inl}
use Rattle.std.proofs.Common.{inr, zero, suc}
use Rattle.std.proofs.Common.{ap, arith, refl, sym, subst, ◌∙◌}
use Rattle.std.specs.List.{AllByRecursion as Each}
use Rattle.std.specs.Option.{IsSomeAnd, option_map}
use Rattle.std.specs.Prelude.{None, OnOk, Some, slice_get}
use Rattle.tsdb_base.specs.Lists.{Among}
use Rattle.tsdb_base.specs.declared.answers.Answer.{Answer}
use Rattle.tsdb_base.specs.declared.answers.Answer.TheVariants as answer
use Rattle.tsdb_base.specs.declared.ids.Stamp.{Stamp}
use Rattle.tsdb_core.proofs.Out.{files_handed, flush_joins, no_flush}
use Rattle.tsdb_core.specs.Commands.{IsCoreCommand}
use Rattle.tsdb_core.specs.Core.{logged_of, newest_born, next_of, working_of}
use Rattle.tsdb_core.specs.Ending.{drawn_for}
use Rattle.tsdb_core.specs.Files.{AreFilesOfJob, NewFiles, TellBytes}
use Rattle.tsdb_core.specs.FlushJob.{FlushJob}
use Rattle.tsdb_core.specs.Flushes.{IsAbandoned, IsCommit, IsCommitAnswer, IsDue, IsFlushTaken, IsFlushTakenOrNot}
use Rattle.tsdb_core.specs.Flushes.{IsNotTaken, IsOldestPair, IsTakeAnswer, TakesMemory}
use Rattle.tsdb_core.specs.Out.{KeepsOut}
use Rattle.tsdb_core.specs.Rows.{CanFreezeNow, NeedsFlush}
use Rattle.tsdb_core.specs.declared.commit.Commit.{Commit}
use Rattle.tsdb_core.specs.declared.commit.CoreFault.{CoreFault}
use Rattle.tsdb_core.specs.declared.commit.CoreFault.TheVariants as job
use Rattle.tsdb_core.specs.declared.commit.Commit.TheVariants as commits
use Rattle.tsdb_core.specs.declared.engine.Core.{Core}
use Rattle.tsdb_frames.proofs.CallLemmas.{keeps_to_slot_on, same_keeps_to_slot}
use Rattle.tsdb_frames.specs.Calls.{KeepsToSlot}
use Rattle.tsdb_frames.specs.Frames.{faults_of, slot_of}
use Rattle.tsdb_frames.specs.declared.frames.Frames.{Frames}
use Rattle.tsdb_log.specs.declared.record.LogRecord.TheVariants.{Freeze}
use Rattle.tsdb_memory.proofs.LogLemmas.Changed.{room_itself}
use Rattle.tsdb_memory.specs.Changes.{HasFrozen, KeepsSeries, MemoryAfter}
use Rattle.tsdb_memory.specs.Commands.{NeedsNothing}
use Rattle.tsdb_memory.specs.Fits.{HasNoPairPoint}
use Rattle.tsdb_memory.specs.LogState.{log_of, memory_of}
use Rattle.tsdb_memory.specs.Rows.{ChangesRoom}
use Rattle.tsdb_memory.specs.Store.{FrozenPair, MemoryState as MemoryStore}
use Rattle.tsdb_memory.specs.declared.logged_memory.LoggedMemory.{LoggedMemory}
use Rattle.tsdb_model.specs.declared.command.Row.{Row}
use Rattle.tsdb_outside.specs.Disk.{IsLawful}
use Rattle.tsdb_model.specs.State as plain
use Rattle.tsdb_outside.specs.Files.{NamedFile, Store, StoredFile}
use Rattle.tsdb_outside.specs.declared.disk.Disk as disk
use Rattle.tsdb_outside.specs.declared.faults.Counted as counted
use Rattle.tsdb_serving.proofs.Differing.{drawn_apart}
use Rattle.tsdb_serving.proofs.Full.{few_drawn}
use Rattle.tsdb_serving.proofs.Jobs.{flush_back, loan_over, put_numbers, within}
use Rattle.tsdb_serving.proofs.Parts as parts
use Rattle.tsdb_serving.proofs.Steps.{quiet, then}
use Rattle.tsdb_serving.specs.Flushing.{CountsNothing, TakesFlushBack, EndsLoan, GoesOn, IsOfJob, LendsFlush}
use Rattle.tsdb_serving.specs.Flushing.{LendsFlushOrNot, LendsOne, Serves, StaysIdle}
use Rattle.tsdb_serving.specs.Flushing.{faults_under, frozen_under}
use Rattle.tsdb_serving.specs.Loans.{CanServe, KeepsAll}
use Rattle.tsdb_serving.specs.Serving.{IsDrawn, IsServing, NoNumber, ServesWithout, StaysInPlace, log_under}
use Rattle.tsdb_serving.specs.declared.fault.FlushFault.{FlushFault}
use Rattle.tsdb_serving.specs.declared.loan.Loan.{Loan}
use Rattle.tsdb_serving.specs.declared.loan.Loan.TheVariants as loan

-- a list of at most two is empty after two steps
pub none_left : {X : Type 0} (xs : List X) → length xs ≤ 2 → drop 1 (drop 1 xs) ≡ []
none_left [] few = refl
none_left (a ∷ []) few = refl
none_left (a ∷ b ∷ []) few = refl
none_left (a ∷ b ∷ c ∷ xs) few = absurd (omega (arith, few))

-- there is a place where one of at most two has left
pub one_left : {X : Type 0} (xs ys : List X) → length xs ≤ 2 → ys ≡ drop 1 xs → length ys < 2
one_left [] ys few is = subst (λ (l : List _). length l < 2) (sym is) (omega arith)
one_left (a ∷ xs) ys few is = subst (λ (l : List _). length l < 2) (sym is) (omega (arith, few))

-- nothing was done
pub stays_same : {J F S R P : Type 0} {means : disk.Ghosts J} {counts : counted.Ghosts J} (core : Core J F S R P means counts)
    → StaysInPlace core core
stays_same core = record { slot = same_keeps_to_slot (log_under core) (log_under core) refl; next = omega arith }

-- nothing was counted where nothing was done
pub no_counts : {J F S R P : Type 0} {means : disk.Ghosts J} {counts : counted.Ghosts J} (core : Core J F S R P means counts)
    → CountsNothing core core
no_counts core = record { series = refl; stamp = refl }

module _ {J F S R P : Type 0} {means : disk.Ghosts J} {counts : counted.Ghosts J} where
  counts_on : (old mid new : Core J F S R P means counts) → CountsNothing old mid → CountsNothing mid new
      → CountsNothing old new
  counts_on old mid new first second = record {
    series = second.series ∙ first.series;
    stamp = second.stamp ∙ first.stamp;
  }

  roomy_counts : (old new : Core J F S R P means counts)
      → ChangesRoom (memory_of (logged_of old)) (memory_of (logged_of new)) → CountsNothing old new
  roomy_counts old new room = record { series = room.series; stamp = room.stamp }

  -- the pair of a flush that was taken is the oldest still
  oldest_still : (old new : Core J F S R P means counts) (job : FlushJob) → IsFlushTaken old new job → (store : Store)
      → CanServe store old → IsOldestPair new job
  oldest_still old new job taken store can = taken.still can.0.flushes can.0.compactions can.1.loans.jobs

  -- in memory series, stamp and pair are as they were where all is
  pub kept_series : (old new : Core J F S R P means counts) → logged_of new ≡ logged_of old
      → KeepsSeries (memory_of (logged_of old)) (memory_of (logged_of new))
  kept_series old new same = subst (λ (logged : LoggedMemory J means counts).
      KeepsSeries (memory_of (logged_of old)) (memory_of logged)) (sym same)
      (record { series = refl; stamp = refl; watermarks = λ device. refl; working = refl })

  -- the journal's count is as it was where the log is
  pub same_faults : (old new : Core J F S R P means counts) → log_of (logged_of new) ≡ log_of (logged_of old)
      → faults_under old ≤ faults_under new
  same_faults old new same = subst (λ (log : Frames J means counts). faults_under old ≤ faults_of log) (sym same)
      (omega arith)

module _ {J F S R P : Type 0} {means : disk.Ghosts J} {counts : counted.Ghosts J}
    (laws : (journal : J) → IsLawful (means.state journal)) where
  -- ---- the beginning of a flush

  module _ (old new : Core J F S R P means counts) (takes : TakesMemory old new) where
    room_taken : ChangesRoom (memory_of (logged_of old)) (memory_of (logged_of new))
    room_taken = subst (λ (m : MemoryStore). ChangesRoom (memory_of (logged_of old)) m) (sym takes.memory)
        (room_itself (memory_of (logged_of old)))

    -- no job could be taken
    pub not_taken : IsNotTaken old new → StaysIdle old new
    not_taken not = record {
      keeps_all = λ store. no_flush old new takes not store;
      log = takes.logged.log.log;
      memory = room_taken;
      next = not.next;
      limit = takes.limit;
      keeps = λ loans files at next serving. parts.same_seen laws loans old new files at next not.step serving;
    }

    -- one was
    pub was_taken : (name : R → NamedFile) (job : FlushJob) → IsFlushTaken old new job → LendsFlush name old new job
    was_taken name job taken = record {
      is_job = taken.is_job;
      oldest = oldest_still old new job taken;
      numbers = taken.numbers;
      some = taken.some;
      few = few_drawn job;
      turn = record {
        lends = λ store. flush_joins old new job takes taken store;
        log = takes.logged.log.log;
        memory = room_taken;
        next = taken.next;
        limit = takes.limit;
        serves = parts.taken laws old new job taken;
      };
    }

    pub taken_or_not : (name : R → NamedFile) (result : Result (Option FlushJob) CoreFault)
        → IsFlushTakenOrNot old new result → LendsFlushOrNot name old new result
    taken_or_not name (Ok None) not = not_taken not
    taken_or_not name (Ok (Some job)) taken = was_taken name job taken
    taken_or_not name (Err fault) not = not_taken not

module _ {J F S R P : Type 0} {means : disk.Ghosts J} {counts : counted.Ghosts J} (store : P → Store) (faults : P → ℕ) where
  -- where more numbers may be drawn
  pub serves_within : (port after : P) (old new : Core J F S R P means counts) (few drawn : ℕ) → few ≤ drawn
      → Serves store faults port after old new few → Serves store faults port after old new drawn
  serves_within port after old new few drawn less serves = record {
    keeps_all = serves.keeps_all;
    stays = serves.stays;
    draws = let draws = serves.draws in omega (arith, draws, less);
    same_store = serves.same_store;
    later = serves.later;
  }

  pub goes_on_within : (port after : P) (old new : Core J F S R P means counts) (few drawn : ℕ) → few ≤ drawn
      → GoesOn store faults port after old new few → GoesOn store faults port after old new drawn
  goes_on_within port after old new few drawn less part = record {
    serves = serves_within port after old new few drawn less part.serves;
    limit = part.limit;
    counted = part.counted;
    keeps = part.keeps;
  }

  -- the port was not used
  pub serves_alone : (port : P) (old new : Core J F S R P means counts) → KeepsAll (store port) old new
      → StaysInPlace old new → next_of new ≡ next_of old → faults_under old ≤ faults_under new
      → Serves store faults port port old new 0
  serves_alone port old new keeps stays same later = record {
    keeps_all = keeps;
    stays = stays;
    draws = omega (arith, same);
    same_store = refl;
    later = (later, omega arith);
  }

  module _ (laws : (journal : J) → IsLawful (means.state journal)) where
    -- nothing was done
    pub nothing : (port : P) (core : Core J F S R P means counts) (drawn : ℕ) → GoesOn store faults port port core core drawn
    nothing port core drawn = record {
      serves = record {
        keeps_all = λ out kept. kept;
        stays = stays_same core;
        draws = omega arith;
        same_store = refl;
        later = (omega arith, omega arith);
      };
      limit = refl;
      counted = no_counts core;
      keeps = λ tells loans files at next serving. parts.unchanged laws (IsDrawn core core) loans core core files at next at
          refl (λ outside engine seen. seen) serving;
    }

    -- a turn that lends and writes nothing
    pub stayed_idle : (port : P) (old new : Core J F S R P means counts) (drawn : ℕ) → StaysIdle old new
        → GoesOn store faults port port old new drawn
    stayed_idle port old new drawn idle = record {
      serves = record {
        keeps_all = idle.keeps_all (store port);
        stays = record {
          slot = same_keeps_to_slot (log_under old) (log_under new) idle.log;
          next = omega (arith, idle.next);
        };
        draws = omega (arith, idle.next);
        same_store = refl;
        later = (same_faults old new idle.log, omega arith);
      };
      limit = idle.limit;
      counted = roomy_counts old new idle.memory;
      keeps = λ tells loans files at next serving. quiet laws (IsDrawn old new) loans loans old new files [] at next at
          idle.log tt tt serving (parts.more_files laws loans new files [] at next (idle.keeps loans files at next serving));
    }

    -- a part behind another
    pub and_then : (port mid_port after : P) (old mid new : Core J F S R P means counts) (few more drawn : ℕ)
        → few + more ≤ drawn → GoesOn store faults port mid_port old mid few
        → GoesOn store faults mid_port after mid new more → GoesOn store faults port after old new drawn
    and_then port mid_port after old mid new few more drawn less first second =
        let one = first.serves in
        let two = second.serves in
        let from = one.stays.next in
        let to = two.stays.next in
        let some = one.draws in
        let others = two.draws in
        let journal = one.later.0 in
        let journal_on = two.later.0 in
        let counted_first = one.later.1 in
        let counted_second = two.later.1 in
        record {
          serves = record {
            keeps_all = λ out kept. subst (λ (s : Store). KeepsOut s out new) one.same_store
                (two.keeps_all out (subst (λ (s : Store). KeepsOut s out mid) (sym one.same_store)
                (one.keeps_all out kept)));
            stays = record {
              slot = keeps_to_slot_on (log_under old) (log_under mid) (log_under new) one.stays.slot two.stays.slot;
              next = omega (arith, from, to);
            };
            draws = omega (arith, less, some, others);
            same_store = two.same_store ∙ one.same_store;
            later = (omega (arith, journal, journal_on), omega (arith, counted_first, counted_second));
          };
          limit = second.limit ∙ first.limit;
          counted = counts_on old mid new first.counted second.counted;
          keeps = λ tells loans files at next serving. let kept = first.keeps tells loans files at next serving in
              then laws (IsDrawn old mid) (IsDrawn mid new) (IsDrawn old new)
              (λ n drawn. let low = drawn.from in let high = drawn.to in record { from = low; to = omega (arith, high, to) })
              (λ n drawn. let low = drawn.from in let high = drawn.to in
              record { from = omega (arith, low, from); to = high })
              (drawn_apart old mid new) loans loans old mid new files at next at at one.stays.slot.same kept
              (second.keeps (ap (λ (s : Store). s.tells) one.same_store ∙ tells) loans (files ++ kept.put) at kept.doubt
              kept.serving);
        }

    -- a freeze
    pub froze : (port : P) (old new : Core J F S R P means counts) (result : Answer)
        → IsCoreCommand old new Freeze NeedsNothing result → CanFreezeNow old
        → MemoryAfter HasFrozen (memory_of (logged_of old)) (memory_of (logged_of new)) result
        → GoesOn store faults port port old new 0
    froze port old new result command can memory = record {
      serves = record {
        keeps_all = files_handed old new command.kept (store port);
        stays = record { slot = command.slot; next = omega (arith, command.kept.next) };
        draws = omega (arith, command.kept.next);
        same_store = refl;
        later = (command.later, omega arith);
      };
      limit = command.kept.limit;
      counted = frozen_counts old new result memory;
      keeps = λ tells loans files at next serving.
          parts.froze laws (IsDrawn old new) old new result command can loans files at next serving;
    }
      where
        frozen_counts : (old new : Core J F S R P means counts) (r : Answer)
            → MemoryAfter HasFrozen (memory_of (logged_of old)) (memory_of (logged_of new)) r → CountsNothing old new
        frozen_counts old new answer.Done has = record { series = has.series; stamp = has.stamp }
        frozen_counts old new answer.NoPath room = roomy_counts old new room
        frozen_counts old new answer.WrongType room = roomy_counts old new room
        frozen_counts old new answer.Exists room = roomy_counts old new room
        frozen_counts old new answer.Device room = roomy_counts old new room
        frozen_counts old new answer.Memory room = roomy_counts old new room
        frozen_counts old new (answer.Full counter) room = roomy_counts old new room

    -- a loan is taken, and ended
    pub over : (name : R → NamedFile) (one : Loan F S R P) (Put : ℕ → Type 0) (port after : P)
        (old mid new : Core J F S R P means counts) (drawn : ℕ) → LendsOne name one drawn old mid
        → EndsLoan name (store port) one mid new → ((n : ℕ) → Put n → IsDrawn old new n)
        → ((store port).tells ≡ true → (loans : List (Loan F S R P)) (files : List StoredFile) (at : plain.State)
        (next : Option plain.State) → IsServing loans old files at next → ServesWithout Put one mid new)
        → store after ≡ store port → faults port ≤ faults after → GoesOn store faults port after old new drawn
    over name one Put port after old mid new drawn lent ends as_drawn serves same_store later = record {
      serves = record {
        keeps_all = loan_over name (store port) old mid new one (lent.lends (store port)) ends.back;
        stays = record {
          slot = subst (λ (log : Frames J means counts). KeepsToSlot log (log_under new)) lent.log ends.slot;
          next = omega (arith, lent.next, ends.next);
        };
        draws = omega (arith, lent.next, ends.next);
        same_store = same_store;
        later = (omega (arith, same_faults old mid lent.log, ends.later), later);
      };
      limit = ends.limit ∙ lent.limit;
      counted = counts_on old mid new (roomy_counts old mid lent.memory)
          (record { series = ends.kept.series; stamp = ends.kept.stamp });
      keeps = λ tells loans files at next serving.
          let begun = quiet laws NoNumber loans (one ∷ loans) old mid files [] at next at lent.log tt tt serving
          (parts.more_files laws (one ∷ loans) mid files [] at next (lent.serves loans files at next serving)) in
          then laws NoNumber Put (IsDrawn old new) (λ n none. absurd none) as_drawn (λ a b none. absurd none)
          (one ∷ loans) loans old mid new files at next at at (ap (λ log. slot_of log) lent.log) begun
          (serves tells loans files at next serving loans (one ∷ loans) (files ++ begun.put) at begun.doubt
          (record { before = []; behind = loans; with_it = refl; without = refl }) begun.serving);
    }

    pub flushed : (name : R → NamedFile) (port after : P) (old mid new : Core J F S R P means counts) (job : FlushJob)
        → LendsFlush name old mid job → TakesFlushBack name (store port) job mid new → (drawn : ℕ)
        → length (drawn_for job) ≤ drawn → store after ≡ store port → faults port ≤ faults after
        → GoesOn store faults port after old new drawn
    flushed name port after old mid new job lent ends drawn few same_store later =
        goes_on_within port after old new (length (drawn_for job)) drawn few
        (over name (loan.Flush job) (IsOfJob job) port after old mid new (length (drawn_for job)) lent.turn ends.ends
        as_drawn (λ tells loans files at next serving. ends.serves tells) same_store later)
      where
        as_drawn : (n : ℕ) → IsOfJob job n → IsDrawn old new n
        as_drawn n among =
            let is = within (next_of old) (length (drawn_for job)) n
            (subst (λ (numbers : List ℕ). Among n numbers) lent.numbers among) in
            let low = is.low in
            let high = is.high in
            let first = lent.turn.next in
            let second = ends.ends.next in
            record { from = low; to = omega (arith, high, first, second) }

module _ {J F S R P : Type 0} {means : disk.Ghosts J} {counts : counted.Ghosts J}
    (laws : (journal : J) → IsLawful (means.state journal)) (name : R → NamedFile) (store : Store) where
  -- ---- the end of a job

  module _ (old new : Core J F S R P means counts) (job : FlushJob) (built : NewFiles) (given : Store)
      (of_job : AreFilesOfJob given job built)
      (tells : store.tells ≡ true → TellBytes built) where
    pub commit_ends : (commit : Commit) → IsCommit old new job built commit → TakesFlushBack name store job old new
    commit_ends commit is = record {
      ends = record {
        back = flush_back name store old new job built commit is.ends;
        slot = is.slot;
        next = is.ends.next;
        limit = is.ends.limit;
        kept = is.kept;
        later = is.later;
      };
      serves = λ told others loans files at next one serving.
          parts.committed laws (IsOfJob job) old new job built given of_job (tells told)
          (put_numbers given job built of_job) others loans files at next one serving commit is;
    }

    pub abandon_ends : IsAbandoned old new job built → TakesFlushBack name store job old new
    abandon_ends gives_up = record {
      ends = record {
        back = flush_back name store old new job built commits.Gone gives_up.ends;
        slot = same_keeps_to_slot (log_under old) (log_under new) (ap (λ logged. log_of logged) gives_up.logged);
        next = gives_up.ends.next;
        limit = gives_up.ends.limit;
        kept = kept_series old new gives_up.logged;
        later = same_faults old new (ap (λ logged. log_of logged) gives_up.logged);
      };
      serves = λ told others loans files at next one serving.
          parts.abandoned laws (IsOfJob job) old new job built given of_job (tells told)
          (put_numbers given job built of_job) others loans files at next one serving gives_up;
    }

-- the oldest frozen pair is due at its own born
pub is_due : (frozen : List FrozenPair) (result : Option Stamp) (upto : Stamp) → result ≡ Some upto
    → option_map (λ (stamp : Stamp). stamp.0) result ≡ option_map (λ pair. pair.born) (slice_get frozen 0)
    → IsDue upto.0 frozen
is_due frozen result upto is born = by (slice_get frozen 0)
    (subst (λ r. option_map (λ (stamp : Stamp). stamp.0) r ≡ option_map (λ pair. pair.born) (slice_get frozen 0)) is born)
  where
    by : (o : Option FrozenPair) → Some upto.0 ≡ option_map (λ pair. pair.born) o
        → IsSomeAnd o (λ pair. pair.born ≤ upto.0)
    by None same = absurd cc
    by (Some pair) same = let equal : upto.0 ≡ pair.born = cc in omega (arith, equal)

pub none_frozen : (frozen : List FrozenPair) (result : Option Stamp) → result ≡ None
    → option_map (λ (stamp : Stamp). stamp.0) result ≡ option_map (λ pair. pair.born) (slice_get frozen 0)
    → frozen ≡ drop 1 frozen
none_frozen [] result is born = refl
none_frozen (pair ∷ frozen) result is born =
    let same = subst (λ r. option_map (λ (stamp : Stamp). stamp.0) r ≡ Some pair.born) is born in absurd cc

-- the pairs before a flush are those behind its beginning
pub dropped : (old mid new : List FrozenPair) (result : Result (Unit {0}) FlushFault) → mid ≡ old
    → OnOk result (new ≡ drop 1 mid) → OnOk result (new ≡ drop 1 old)
dropped old mid new result is = subst (λ l. OnOk result (new ≡ drop 1 l)) is

-- a job could not be taken, so a pair is due
pub due_at_fault : (upto next : ℕ) (store : MemoryStore) (fault : CoreFault) → IsTakeAnswer upto next store (Err fault)
    → IsDue upto store.frozen
due_at_fault upto next store job.Memory is = is.0
due_at_fault upto next store (job.Full counter) is = is.0

-- what a commit of the oldest pair that is done leaves of the frozen pairs
pub result_flushed : {J F S R P : Type 0} {means : disk.Ghosts J} {counts : counted.Ghosts J}
    (core : Core J F S R P means counts) (job : FlushJob) (old new : List FrozenPair) (commit : Commit)
    (result : Result (Unit {0}) FlushFault) → IsCommitAnswer core job commit → IsOldestPair core job
    → OnOk result (commit ≢ commits.Device) → (commit ≡ commits.Done → new ≡ drop 1 old) → OnOk result (new ≡ drop 1 old)
result_flushed core job old new commit (Err fault) answer oldest ok left = tt
result_flushed core job old new commits.Done (Ok value) answer oldest ok left = left refl
result_flushed core job old new commits.Gone (Ok value) answer oldest ok left = absurd (answer oldest)
result_flushed core job old new commits.Device (Ok value) answer oldest ok left = absurd (ok refl)

-- ---- the newest pair

one_newer : (pair next : FrozenPair) (frozen : List FrozenPair)
    → newest_born (pair ∷ next ∷ frozen) ≡ newest_born (next ∷ frozen)
one_newer pair next frozen =
    let index : length (pair ∷ next ∷ frozen) - 1 ≡ suc (length (next ∷ frozen) - 1) = omega arith in
    ap (λ i. option_map (λ (p : FrozenPair). p.born) (slice_get (pair ∷ next ∷ frozen) i)) index

newest_some : (pair : FrozenPair) (frozen : List FrozenPair) → newest_born (pair ∷ frozen) ≡ None → ⊥
newest_some pair [] none = absurd cc
newest_some pair (next ∷ frozen) none = newest_some next frozen (sym (one_newer pair next frozen) ∙ none)

-- there is none where no pair is frozen
pub none_newest : (frozen : List FrozenPair) → newest_born frozen ≡ None → frozen ≡ []
none_newest [] none = refl
none_newest (pair ∷ frozen) none = absurd (newest_some pair frozen none)

-- no pair is due at the stamp of the newest: there is none
none_due : (frozen : List FrozenPair) (upto : ℕ) → newest_born frozen ≡ Some upto
    → Each (λ pair. upto < pair.born) frozen → ⊥
none_due [] upto is later = absurd cc
none_due (pair ∷ []) upto is later =
    let first = later.0 in let same : pair.born ≡ upto = cc in omega (arith, first, same)
none_due (pair ∷ next ∷ frozen) upto is later =
    none_due (next ∷ frozen) upto (sym (one_newer pair next frozen) ∙ is) later.1

-- what one flush up to a stamp leaves of the frozen pairs
pub record FlushesNext (upto : ℕ) (old new : List FrozenPair) (result : Result (Unit {0}) FlushFault) : Type 0 where
  pub flushed : IsDue upto old → OnOk result (new ≡ drop 1 old)
  pub none : ¬ IsDue upto old → (new ≡ old) × Each (λ pair. upto < pair.born) old

le_or_not : (a b : ℕ) → (a ≤ b) ⊎ (¬ (a ≤ b))
le_or_not zero b = inl (omega arith)
le_or_not (suc a) zero = inr (λ le. absurd (omega (arith, le)))
le_or_not (suc a) (suc b) = by (le_or_not a b)
  where
    by : (a ≤ b) ⊎ (¬ (a ≤ b)) → (suc a ≤ suc b) ⊎ (¬ (suc a ≤ suc b))
    by (inl le) = inl (omega (arith, le))
    by (inr not) = inr (λ le. not (omega (arith, le)))

is_due_or_not : (upto : ℕ) (frozen : List FrozenPair) → IsDue upto frozen ⊎ (¬ IsDue upto frozen)
is_due_or_not upto [] = inr (λ due. due)
is_due_or_not upto (pair ∷ frozen) = le_or_not pair.born upto

-- the pairs after a flush up to the stamp of the newest, where there is one
one_flushed : (upto : ℕ) (old new : List FrozenPair) (result : Result (Unit {0}) FlushFault)
    → (old ≡ []) ⊎ (newest_born old ≡ Some upto) → FlushesNext upto old new result → OnOk result (new ≡ drop 1 old)
one_flushed upto old new result newest step = by (is_due_or_not upto old)
  where
    same : (l : List FrozenPair) → l ≡ [] → l ≡ drop 1 l
    same l is = is ∙ sym (ap (drop 1) is)

    always : (r : Result (Unit {0}) FlushFault) → new ≡ drop 1 old → OnOk r (new ≡ drop 1 old)
    always (Ok value) is = is
    always (Err fault) is = tt

    by : IsDue upto old ⊎ (¬ IsDue upto old) → OnOk result (new ≡ drop 1 old)
    by (inl due) = step.flushed due
    by (inr not) = empty newest
      where
        empty : (old ≡ []) ⊎ (newest_born old ≡ Some upto) → OnOk result (new ≡ drop 1 old)
        empty (inl none) = always result ((step.none not).0 ∙ same old none)
        empty (inr is) = absurd (none_due old upto is (step.none not).1)

-- behind the first of them the newest is still the newest, or none is left
still_newest : (upto : ℕ) (old : List FrozenPair) → newest_born old ≡ Some upto
    → (drop 1 old ≡ []) ⊎ (newest_born (drop 1 old) ≡ Some upto)
still_newest upto [] is = inl refl
still_newest upto (pair ∷ []) is = inl refl
still_newest upto (pair ∷ next ∷ frozen) is = inr (sym (one_newer pair next frozen) ∙ is)

-- two frozen pairs at most have left after two flushes up to the newest
pub both_flushed : (upto : ℕ) (old mid new : List FrozenPair) (result : Result (Unit {0}) FlushFault) → length old ≤ 2
    → newest_born old ≡ Some upto → FlushesNext upto old mid (Ok tt) → FlushesNext upto mid new result
    → OnOk result (new ≡ [])
both_flushed upto old mid new result few newest first second =
    let left = one_flushed upto old mid (Ok tt) (inr newest) first in
    done result left (one_flushed upto mid new result
    (subst (λ l. (l ≡ []) ⊎ (newest_born l ≡ Some upto)) (sym left) (still_newest upto old newest)) second)
  where
    done : (r : Result (Unit {0}) FlushFault) → mid ≡ drop 1 old → OnOk r (new ≡ drop 1 mid) → OnOk r (new ≡ [])
    done (Ok value) left is = is ∙ ap (drop 1) left ∙ none_left old few
    done (Err fault) left is = tt

module _ {J F S R P : Type 0} {means : disk.Ghosts J} {counts : counted.Ghosts J} where
  -- without its record a commit leaves memory as it was
  pub commit_stays : (old new : Core J F S R P means counts) (job : FlushJob) (built : NewFiles) (commit : Commit)
      → IsCommit old new job built commit → commit ≢ commits.Done
      → memory_of (logged_of new) ≡ memory_of (logged_of old)
  commit_stays old new job built commits.Done is not = absurd (not refl)
  commit_stays old new job built commits.Gone is not = ap memory_of (is.gone refl)
  commit_stays old new job built commits.Device is not = is.memory refl

  pub flushed_all : (mid new : Core J F S R P means counts) (result : Result (Unit {0}) FlushFault)
      → OnOk result (frozen_under new ≡ []) → working_of new ≡ working_of mid → HasNoPairPoint (working_of mid)
      → OnOk result ((frozen_under new ≡ []) × HasNoPairPoint (working_of new))
  flushed_all mid new (Ok value) none same empty = (none, subst HasNoPairPoint (sym same) empty)
  flushed_all mid new (Err fault) none same empty = tt

  pub place_left : (old new : Core J F S R P means counts) (result : Result (Unit {0}) FlushFault)
      → length (frozen_under old) ≤ 2 → OnOk result (frozen_under new ≡ drop 1 (frozen_under old))
      → OnOk result (HasNoPairPoint (working_of new) ⊎ (length (frozen_under new) < 2))
  place_left old new (Ok value) few is = inr (one_left (frozen_under old) (frozen_under new) few is)
  place_left old new (Err fault) few is = tt

  pub no_flush_needed : (old new : Core J F S R P means counts) (row : Row) (result : Result (Unit {0}) FlushFault)
      → length (frozen_under old) ≤ 2 → OnOk result (frozen_under new ≡ drop 1 (frozen_under old))
      → OnOk result (¬ NeedsFlush row new)
  no_flush_needed old new row (Ok value) few is =
      let left = one_left (frozen_under old) (frozen_under new) few is in
      λ needs. let two = needs.1 in absurd (omega (arith, left, two))
  no_flush_needed old new row (Err fault) few is = tt
