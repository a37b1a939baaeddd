-- The files of a job, their numbers, and what is out of a core that takes it and ends it.
use Rattle.std.proofs.Common.{◌≡◌, ◌⊎◌, ℕ, ◌+◌, ◌<◌, ◌≤◌, true, List, [], ◌∷◌, ◌++◌, map, Option, None, Some}
use Rattle.std.proofs.Common.{inl, inr, zero, suc, ap, arith, refl, sym, subst, ◌∙◌}
use Rattle.std.specs.List.{AllByRecursion as Each, flat_map, range_with_len}
use Rattle.std.specs.Option.{option_map}
use Rattle.std.specs.Prelude.{IfSome, IsSome, is_some}
use Rattle.tsdb_base.proofs.Lists.{among_left, among_right, each_append}
use Rattle.tsdb_base.specs.Lists.{Among, if_some}
use Rattle.tsdb_base.specs.declared.ids.FileNumber.{FileNumber}
use Rattle.tsdb_base.specs.declared.ids.Space.TheVariants.{Sequence, Unsequence}
use Rattle.tsdb_core.proofs.Loans.{on_columns}
use Rattle.tsdb_core.proofs.Out.{first_job, first_one, flush_can_end, has_numbers, job_leaves}
use Rattle.tsdb_core.specs.Built.{IsPartDone}
use Rattle.tsdb_core.specs.BuiltType.{Built}
use Rattle.tsdb_core.specs.Compactions.{IsHandedOut}
use Rattle.tsdb_core.specs.Core.{next_of, store_of}
use Rattle.tsdb_core.specs.Ending.{numbers_if}
use Rattle.tsdb_core.specs.Files.{AreDoneSoFar, AreFilesOfJob, IsOfPart, NewFile, NewFiles, TellBytes, all_of, file_built}
use Rattle.tsdb_core.specs.Files.{file_number, new_files, stored_of}
use Rattle.tsdb_core.specs.FlushJob.{FlushJob}
use Rattle.tsdb_core.specs.Flushed.{Flushed}
use Rattle.tsdb_core.specs.Flushes.{HasEndedFlush, IsOut}
use Rattle.tsdb_core.specs.Jobs.{job_part}
use Rattle.tsdb_core.specs.Loans.{KeepsLoans}
use Rattle.tsdb_core.specs.Out.{KeepsOut, Loans, flush_of, with_flush}
use Rattle.tsdb_core.specs.Parts.{Filled}
use Rattle.tsdb_core.specs.Pins.{IsUnpinned, pin_rights}
use Rattle.tsdb_core.specs.Replacements.{HasEndedJob}
use Rattle.tsdb_core.specs.declared.commit.Commit.{Commit}
use Rattle.tsdb_core.specs.declared.engine.Core.{Core}
use Rattle.tsdb_outside.specs.Files.{NamedFile, Store, StoredFile, Tells}
use Rattle.tsdb_outside.specs.declared.disk.Disk as disk
use Rattle.tsdb_outside.specs.declared.faults.Counted as counted
use Rattle.tsdb_serving.specs.Flushing.{IsOfJob}
use Rattle.tsdb_serving.specs.Loans.{CanServe, IsWithLoan, KeepsAll, Lends, TakesBack, with_loan}
use Rattle.tsdb_serving.specs.Serving.{IsDrawn}
use Rattle.tsdb_serving.specs.declared.loan.Loan.{Loan}
use Rattle.tsdb_serving.specs.declared.loan.Loan.TheVariants as loan
use Rattle.tsdb_tasks.specs.Job.{Job}
use Rattle.tsdb_tasks.specs.Pin.{Pin}

-- ---- the files of a job

each_of : (Q : NewFile → Type 0) (a b : Option NewFile) → IfSome a Q → IfSome b Q → Each Q (if_some a ++ if_some b)
each_of Q None None p q = tt
each_of Q None (Some b) p q = (q, tt)
each_of Q (Some a) None p q = (p, tt)
each_of Q (Some a) (Some b) p q = (p, (q, tt))

told : (bytes : Option (List ℕ)) → is_some bytes ≡ true → IsSome bytes
told None is = absurd cc
told (Some bytes) is = refl

module _ {F S R P : Type 0} (file : S → NamedFile) (rights : S → ℕ) (store : Store) where
  module _ (born : ℕ) (part : List Filled) where
    tells_part : store.tells ≡ true → ((sealed : S) → Tells (file sealed)) → (number : Option FileNumber)
        (built : Option (Built F S R P)) → (built ≡ None) ⊎ IsPartDone file rights store born part number built
        → IfSome (option_map (file_built file) built) (λ new. IsSome new.token.name.bytes)
    tells_part tells law number None done = tt
    tells_part tells law number (Some built) (inl none) = absurd cc
    tells_part tells law None (Some built) (inr done) = absurd done
    tells_part tells law (Some number) (Some built) (inr done) = told (file built.sealed).bytes
        (sym (law built.sealed) ∙ ap (λ s. s.tells) done.in_store ∙ tells)

module _ {F S R P : Type 0} (file : S → NamedFile) (rights : S → ℕ) (store : Store) where
  pub tell_bytes : (job : FlushJob) (files : Flushed F S R P) → AreDoneSoFar file rights store job files
      → store.tells ≡ true → ((sealed : S) → Tells (file sealed)) → TellBytes (new_files file files)
  tell_bytes job files done tells law = each_of (λ new. IsSome new.token.name.bytes)
      (option_map (file_built file) files.sequence) (option_map (file_built file) files.unsequence)
      (tells_part file rights store job.born.0 (job_part Sequence job) tells law job.sequence files.sequence
      done.sequence)
      (tells_part file rights store job.born.0 (job_part Unsequence job) tells law job.unsequence files.unsequence
      done.unsequence)

-- ---- their numbers

number_there : (store : Store) (born : ℕ) (part : List Filled) (number : Option FileNumber) (new : Option NewFile)
    → IsOfPart store born part number new → IfSome new (λ file. Among (file_number file) (numbers_if number))
number_there store born part number None of_part = tt
number_there store born part None (Some new) of_part = absurd of_part
number_there store born part (Some number) (Some new) of_part = inl (sym of_part.kept.number_is)

if_weaker : (P Q : NewFile → Type 0) (new : Option NewFile) → ((file : NewFile) → P file → Q file) → IfSome new P
    → IfSome new Q
if_weaker P Q None weaker holds = tt
if_weaker P Q (Some file) weaker holds = weaker file holds

-- what the bytes of files that tell them are stored under
pub stored_number : (Q : ℕ → Type 0) (files : List NewFile) → Each (λ file. Q (file_number file)) files
    → Each (λ (stored : StoredFile). Q stored.number) (flat_map stored_of files)
stored_number Q [] all = tt
stored_number Q (file ∷ files) all = each_append (λ (stored : StoredFile). Q stored.number) (stored_of file)
    (flat_map stored_of files) (of_file file.token.name.bytes) (stored_number Q files all.1)
  where
    of_file : (bytes : Option (List ℕ)) → Each (λ (stored : StoredFile). Q stored.number)
        (map (λ b. record { number = file_number file; bytes = b }) (if_some bytes))
    of_file None = tt
    of_file (Some bytes) = (all.0, tt)

pub put_numbers : (store : Store) (job : FlushJob) (files : NewFiles) → AreFilesOfJob store job files
    → Each (λ (stored : StoredFile). IsOfJob job stored.number) (flat_map stored_of (all_of files))
put_numbers store job files of_job = stored_number (IsOfJob job) (all_of files)
    (each_of (λ file. IsOfJob job (file_number file)) files.sequence files.unsequence
    (if_weaker (λ file. Among (file_number file) (numbers_if job.sequence)) (λ file. IsOfJob job (file_number file))
    files.sequence (λ file. among_left (numbers_if job.sequence) (numbers_if job.unsequence) (file_number file))
    (number_there store job.born.0 (job_part Sequence job) job.sequence files.sequence of_job.sequence))
    (if_weaker (λ file. Among (file_number file) (numbers_if job.unsequence)) (λ file. IsOfJob job (file_number file))
    files.unsequence (λ file. among_right (numbers_if job.sequence) (numbers_if job.unsequence) (file_number file))
    (number_there store job.born.0 (job_part Unsequence job) job.unsequence files.unsequence of_job.unsequence)))

-- a number of a range of numbers
pub record IsWithin (from count n : ℕ) : Type 0 where
  pub low : from ≤ n
  pub high : n < from + count

pub within : (from count n : ℕ) → Among n (range_with_len from count) → IsWithin from count n
within from zero n among = absurd among
within from (suc count) n (inl is) = record { low = omega (arith, is); high = omega (arith, is) }
within from (suc count) n (inr among) =
    let rest = within (from + 1) count n among in
    let low = rest.low in
    let high = rest.high in
    record { low = omega (arith, low); high = omega (arith, high) }

-- a loan stands first of what is out with it
first_loan : {F S R P : Type 0} (name : R → NamedFile) (one : Loan F S R P) (out : Loans)
    → IsWithLoan name one out (with_loan name one out)
first_loan name (loan.Flush job) out =
    record { flushes = first_one (flush_of job) out.flushes; compactions = refl; lent = refl }
first_loan name (loan.Compaction job) out = first_job name job out
first_loan name (loan.Pin pin) out =
    record { flushes = refl; compactions = refl; lent = first_one (pin_rights name pin) out.lent }

-- ---- what is out

module _ {J F S R P : Type 0} {means : disk.Ghosts J} {counts : counted.Ghosts J} where
  -- a core that can serve is of the store
  pub of_the_store : (store : Store) (core : Core J F S R P means counts) → CanServe store core → store ≡ store_of core
  of_the_store store core can = can.1.of_store

  pub can_still : (store : Store) (old new : Core J F S R P means counts) → KeepsAll store old new → CanServe store old
      → CanServe store new
  can_still store old new keeps can = (can.0, keeps can.0 can.1)

  -- a flush that was taken can be ended
  pub out_of_taken : (store : Store) (old new : Core J F S R P means counts) (job : FlushJob)
      → ((out : Loans) → KeepsOut store out old → KeepsOut store (with_flush job out) new) → CanServe store old
      → IsOut new job
  out_of_taken store old new job lends can = flush_can_end new job store can.0 (lends can.0 can.1)

  -- a flush that is out among others is out no longer behind its end
  pub flush_back : (name : R → NamedFile) (store : Store) (old new : Core J F S R P means counts) (job : FlushJob)
      (files : NewFiles) (commit : Commit) → HasEndedFlush old new job files commit → TakesBack name store (loan.Flush job) old new
  flush_back name store old new job files commit ended others all is kept = record {
    loans = subst (λ l. KeepsLoans new others.flushes others.compactions l) is.lent
        (subst (λ l. KeepsLoans new others.flushes l all.lent) is.compactions
        (ended.loans (flush_of job) others.flushes all.flushes all.compactions all.lent (has_numbers job) is.flushes
        kept.loans));
    of_store = kept.of_store ∙ sym ended.store;
  }

  -- so too a compaction, and a pin
  pub job_back : (name : R → NamedFile) (store : Store) (old new : Core J F S R P means counts) (job : Job F S R P)
      (file : Option NewFile) → HasEndedJob old new job file → IsHandedOut job
      → TakesBack name store (loan.Compaction job) old new
  job_back name store old new job file ended handed others all is kept =
      job_leaves name old new job file ended store others all handed is kept

  pub pin_back : (name : R → NamedFile) (store : Store) (old new : Core J F S R P means counts) (pin : Pin F S R P)
      → IsUnpinned old new pin → TakesBack name store (loan.Pin pin) old new
  pin_back name store old new pin unpinned others all is kept = record {
    loans = subst (λ l. KeepsLoans new others.flushes l others.lent) is.compactions
        (subst (λ l. KeepsLoans new l all.compactions others.lent) is.flushes
        (unpinned.loans all.flushes all.compactions (pin_rights name pin) others.lent all.lent (on_columns name pin) is.lent
        kept.loans));
    of_store = kept.of_store ∙ sym unpinned.rest.store;
  }

  -- a loan that comes and then goes leaves what was out
  pub loan_over : (name : R → NamedFile) (store : Store) (old mid new : Core J F S R P means counts)
      (one : Loan F S R P) → Lends name store one old mid → TakesBack name store one mid new → KeepsAll store old new
  loan_over name store old mid new one lends back out kept =
      back out (with_loan name one out) (first_loan name one out) (lends out kept)

  -- numbers that were drawn before a call that draws none, or after others
  pub drawn_first : (old mid new : Core J F S R P means counts) → next_of new ≡ next_of mid → (n : ℕ)
      → IsDrawn old mid n → IsDrawn old new n
  drawn_first old mid new same n drawn =
      let low = drawn.from in let high = drawn.to in record { from = low; to = omega (arith, high, same) }

  pub drawn_second : (old mid new : Core J F S R P means counts) → next_of old ≤ next_of mid → (n : ℕ)
      → IsDrawn mid new n → IsDrawn old new n
  drawn_second old mid new less n drawn =
      let low = drawn.from in let high = drawn.to in record { from = omega (arith, low, less); to = high }
