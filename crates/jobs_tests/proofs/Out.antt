-- What each call of a core hands on of the rights that are out.
use Rattle.std.proofs.Common.{◌≡◌, ◌∙◌, List, [], Option, None, Some, Result, Ok, Err}
use Rattle.std.proofs.Common.{ap, false, sym, subst}
use Rattle.std.specs.List.{AllByRecursion as Each}
use Rattle.std.specs.Prelude.{ℕ, ◌≤◌, IfSome}
use Rattle.jobs_tests.specs.Begins.{BeginsOrNot}
use Rattle.jobs_tests.specs.Out.{AreHandedOn, BeginsJob, EndsFlush, EndsJob, EndsPin, HasFlush, HasJob, HasPin, IsHandedOn, IsKept}
use Rattle.jobs_tests.specs.Out.{TakesFlush, TakesPin}
use Rattle.tsdb_base.specs.declared.ids.Space.{Space}
use Rattle.tsdb_tasks.specs.Files.{NewFile}
use Rattle.tsdb_tasks.specs.Ending.{IsOutputNumbered}
use Rattle.tsdb_tasks.specs.declared.finishing.InputRuns.{InputRuns}
use Rattle.tsdb_compactions.specs.Outputs.{IsOutputOf}
use Rattle.tsdb_compactions.specs.declared.job.Input.{Input}
use Rattle.tsdb_compactions.specs.declared.job.Job.{Job}
use Rattle.tsdb_core.proofs.LoansOut.{none_lent, nothing_lent}
use Rattle.tsdb_core.proofs.Out.{first_job, flush_can_end, flush_joins, job_can_end, job_joins}
use Rattle.tsdb_core.proofs.Out.{job_leaves, no_flush, no_job, pin_is_held, pin_joins, pin_leaves}
use Rattle.tsdb_core.proofs.Out.{no_pin as not_pinned}
use Rattle.tsdb_core.specs.Out.{nothing_out, with_job, with_pin}
use Rattle.tsdb_core.specs.Beginnings.{IsBegunOrNot}
use Rattle.tsdb_core.specs.Compactions.{IsHandedOut, IsJobOut}
use Rattle.tsdb_core.specs.Core.{IsAboveNumbers, KeepsJobs, files_of, is_sequence_claimed, store_of}
use Rattle.tsdb_core.specs.Flushes.{IsOut, IsFlushTakenOrNot, TakesMemory}
use Rattle.tsdb_core.specs.Loans.{AreUnclaimed, KeepsLoans}
use Rattle.tsdb_core.specs.Pins.{IsNotPinned, IsPinned, IsUnpinned}
use Rattle.tsdb_core.specs.Replacements as ends
use Rattle.tsdb_core.specs.declared.commit.CoreFault.{CoreFault}
use Rattle.tsdb_core.specs.declared.engine.Core.{Core}
use Rattle.tsdb_inner.specs.Inputs.{IsInputOf}
use Rattle.tsdb_flush.specs.declared.job.Built.{Built}
use Rattle.tsdb_flush.specs.declared.job.FlushJob.{FlushJob}
use Rattle.tsdb_fileset.specs.Files.{KeptFiles, kept_file, none_kept}
use Rattle.tsdb_fileset.specs.Places.{AreOfStore, AreUnread, KeptFile}
use Rattle.tsdb_fileset.specs.Rights.{IsRightTo}
use Rattle.tsdb_base.proofs.Lists.{each_weaker}
use Rattle.tsdb_outside.specs.Files.{NamedFile, Store}
use Rattle.tsdb_outside.specs.declared.disk.Disk as disk
use Rattle.tsdb_outside.specs.declared.faults.Counted as counted
use Rattle.tsdb_pin.specs.Pins.{AreColumnsHeld}
use Rattle.tsdb_pin.specs.declared.pin.Pin.{Pin}
use Rattle.tsdb_pins.proofs.Held.{columns_of}
use Rattle.tsdb_pins.specs.Reading.{AreColumnsOf, HaveNodes}

-- ---- files

-- a right to read a file of the store is to one of the store
of_right : {R : Type 0} (name : R → NamedFile) (store : Store) (kept : Option KeptFile) (right : R)
    → IsRightTo name kept (Some right) → IfSome kept (λ file. file.name.store ≡ store) → (name right).store ≡ store
of_right name store None right is of = absurd is
of_right name store (Some file) right is of = ap (λ (named : NamedFile). named.store) is ∙ of

module _ {F S R P : Type 0} (file : S → NamedFile) (name : R → NamedFile) (rights : S → ℕ) (job : Job F S R P) where
  pub numbered : (output : Option (Built F S R P)) → IsOutputOf name file rights job output
      → IfSome output (IsOutputNumbered rights job)
  numbered None is = tt
  numbered (Some built) is = record { number = is.file_is.kept.number_is; unread = is.file_is.unread }

module _ {J F S R P : Type 0} {means : disk.Ghosts J} {counts : counted.Ghosts J} where
  -- ---- one call and then another

  pub handed_then : (first second : Store) (a b c : Core J F S R P means counts) → second ≡ first → IsHandedOn first a b
      → IsHandedOn second b c → IsHandedOn first a c
  handed_then first second a b c same one two out kept =
      subst (λ (store : Store). IsHandedOn store b c) same two out (one out kept)

  pub kept_then : (first second : Store) (a b : Core J F S R P means counts) → second ≡ first → IsHandedOn first a b
      → IsKept first a → IsKept second b
  kept_then first second a b same one kept =
      subst (λ (store : Store). IsKept store b) (sym same) (kept.0, one kept.0 kept.1)

  -- and then a third
  pub thrice : (first second third : Store) (a b c d : Core J F S R P means counts) → second ≡ first → third ≡ second
      → IsHandedOn first a b → IsHandedOn second b c → IsHandedOn third c d → IsHandedOn first a d
  thrice first second third a b c d same again one two three =
      handed_then first third a c d (again ∙ same) (handed_then first second a b c same one two) three

  pub kept_twice : (first second third : Store) (a b c : Core J F S R P means counts) → second ≡ first → third ≡ second
      → IsHandedOn first a b → IsHandedOn second b c → IsKept first a → IsKept third c
  kept_twice first second third a b c same again one two kept =
      kept_then first third a c (again ∙ same) (handed_then first second a b c same one two) kept

  pub same_core : (store : Store) (core : Core J F S R P means counts) → IsHandedOn store core core
  same_core store core out kept = kept

  -- ---- flushes

  pub flush_taken : (old new : Core J F S R P means counts) (job : Option FlushJob) → TakesMemory old new
      → IsFlushTakenOrNot old new (Ok job) → TakesFlush old new job
  flush_taken old new None takes taken = no_flush old new takes taken
  flush_taken old new (Some job) takes taken = (taken.is_job, flush_joins old new job takes taken)

  pub flush_refused : (old new : Core J F S R P means counts) (fault : CoreFault) → TakesMemory old new
      → IsFlushTakenOrNot old new (Err fault) → AreHandedOn old new
  flush_refused old new fault takes taken = no_flush old new takes taken

  pub flush_is_out : (store : Store) (core : Core J F S R P means counts) (job : FlushJob) → HasFlush store core job
      → IsOut core job
  flush_is_out store core job has = flush_can_end core job store has.1 has.2

  pub takes_and_ends : (store : Store) (a b c : Core J F S R P means counts) (job : FlushJob) → TakesFlush a b (Some job)
      → EndsFlush store b c job → IsHandedOn store a c
  takes_and_ends store a b c job takes ended out kept = ended out (takes.1 store out kept)

  pub taken_has : (store : Store) (a b : Core J F S R P means counts) (job : FlushJob) → TakesFlush a b (Some job)
      → IsKept store a → HasFlush store b job
  taken_has store a b job takes kept = (takes.0, kept.0, takes.1 store kept.0 kept.1)

  pub some_taken : (a b : Core J F S R P means counts) (taken : Option FlushJob) (job : FlushJob) → taken ≡ Some job
      → TakesFlush a b taken → TakesFlush a b (Some job)
  some_taken a b taken job is = subst (TakesFlush a b) is

  pub none_taken : (a b : Core J F S R P means counts) (taken : Option FlushJob) → taken ≡ None → TakesFlush a b taken
      → AreHandedOn a b
  none_taken a b taken is = subst (TakesFlush a b) is

  module _ (name : R → NamedFile) where
    -- ---- compactions

    pub begins_or_not : (space : Space) (IsPlan : InputRuns → Type 0) (old new : Core J F S R P means counts)
        (result : Result (Option (Job F S R P)) CoreFault) → IsBegunOrNot name space IsPlan old new result
        → BeginsOrNot name old new result
    begins_or_not space IsPlan old new (Ok None) begun = begun
    begins_or_not space IsPlan old new (Ok (Some job)) begun = (space, begun.0, begun.2)
    begins_or_not space IsPlan old new (Err fault) begun = begun

    pub job_begun : (old new : Core J F S R P means counts) (job : Option (Job F S R P)) → BeginsOrNot name old new (Ok job)
        → BeginsJob name old new job
    job_begun old new None begun = no_job old new begun
    job_begun old new (Some job) begun = λ store out kept. job_joins name begun.0 begun.1 old new job begun.2 store out
        kept

    pub fault_begun : (old new : Core J F S R P means counts) (fault : CoreFault) → BeginsOrNot name old new (Err fault)
        → AreHandedOn old new
    fault_begun old new fault begun = no_job old new begun

    pub some_begun : (a b : Core J F S R P means counts) (begun : Option (Job F S R P)) (job : Job F S R P)
        → begun ≡ Some job → BeginsJob name a b begun → BeginsJob name a b (Some job)
    some_begun a b begun job is = subst (BeginsJob name a b) is

    pub none_begun : (a b : Core J F S R P means counts) (begun : Option (Job F S R P)) → begun ≡ None
        → BeginsJob name a b begun → AreHandedOn a b
    none_begun a b begun is = subst (BeginsJob name a b) is

    module _ (store : Store) (core : Core J F S R P means counts) (job : Job F S R P) (has : HasJob name store core job) where
      pub job_is_out : IsJobOut name core job
      job_is_out = job_can_end name core job store has.1 has.2 has.0 has.3 has.4

      pub inputs_in_store : AreOfStore (store_of core) (files_of core).places → Each (IsInputOf name store) job.inputs
      inputs_in_store are = each_weaker
          (λ (input : Input F S R P). IsRightTo name (kept_file input.number.0 (files_of core)) (Some input.right))
          (IsInputOf name store)
          (λ input held. of_right name (store_of core) (kept_file input.number.0 (files_of core)) input.right held
          (are input.number.0) ∙ sym has.4.of_store) job.inputs job_is_out.kept.held.held

      pub kept_beside : IsKept store core
      kept_beside = (has.2, has.4)

    pub job_still : (store other : Store) (a b : Core J F S R P means counts) (job : Job F S R P) → other ≡ store
        → HasJob name store a job → IsHandedOn store a b → HasJob name other b job
    job_still store other a b job same has hands =
        subst (λ (s : Store). HasJob name s b job) (sym same) (has.0, has.1, has.2, has.3, hands has.2 has.4)

    pub job_ended : (store : Store) (old new : Core J F S R P means counts) (job : Job F S R P) (file : Option NewFile)
        → ends.HasEndedJob old new job file → IsJobOut name old job → EndsJob name store old new job
    job_ended store old new job file ended is_out others all is kept = job_leaves name old new job file ended
        store others all handed is kept
      where
        handed : IsHandedOut job
        handed = record {
          formed = is_out.kept.formed;
          few_sequence = is_out.kept.few_sequence;
          few_late = is_out.kept.few_late;
        }

    pub begins_and_ends : (store : Store) (a b c : Core J F S R P means counts) (job : Job F S R P)
        → BeginsJob name a b (Some job) → EndsJob name store b c job → IsHandedOn store a c
    begins_and_ends store a b c job begins ended out kept =
        ended out (with_job name job out) (first_job name job out) (begins store out kept).1

    pub begun_has : (store : Store) (a b : Core J F S R P means counts) (job : Job F S R P)
        → BeginsJob name a b (Some job) → IsKept store a → HasJob name store b job
    begun_has store a b job begins kept = let both = begins store kept.0 kept.1 in
        (both.0, kept.0, with_job name job kept.0, first_job name job kept.0, both.1)

    -- steps come, and then the job ends
    pub then_ends : (store other : Store) (a b c : Core J F S R P means counts) (job : Job F S R P) → other ≡ store
        → IsHandedOn store a b → EndsJob name other b c job → EndsJob name store a c job
    then_ends store other a b c job same hands ended others all is kept =
        subst (λ (s : Store). EndsJob name s b c job) same ended others all is (hands all kept)

    -- ---- pins

    pub pin_taken : (old new : Core J F S R P means counts) (pin : Pin F S R P) → IsPinned name old new pin
        → HaveNodes pin.columns → TakesPin name old new (Some pin)
    pin_taken old new pin pinned nodes = (nodes, pin_joins name old new pin pinned)

    pub pin_refused : (old new : Core J F S R P means counts) → IsNotPinned old new → AreHandedOn old new
    pin_refused old new not = not_pinned old new not

    pub some_pin : (a b : Core J F S R P means counts) (taken : Option (Pin F S R P)) (pin : Pin F S R P)
        → taken ≡ Some pin → TakesPin name a b taken → TakesPin name a b (Some pin)
    some_pin a b taken pin is = subst (TakesPin name a b) is

    pub no_pin : (a b : Core J F S R P means counts) (taken : Option (Pin F S R P)) → taken ≡ None
        → TakesPin name a b taken → AreHandedOn a b
    no_pin a b taken is = subst (TakesPin name a b) is

    pub pinned_has : (store : Store) (a b : Core J F S R P means counts) (pin : Pin F S R P) → TakesPin name a b (Some pin)
        → IsKept store a → HasPin name store b pin
    pinned_has store a b pin takes kept = (takes.0, kept.0, takes.1 store kept.0 kept.1)

    module _ (store : Store) (core : Core J F S R P means counts) (pin : Pin F S R P) (has : HasPin name store core pin) where
      pub columns_held : AreColumnsHeld name (files_of core) pin.columns
      columns_held = pin_is_held name core pin store has.1 has.2

      pub columns_in_store : AreOfStore (store_of core) (files_of core).places → AreColumnsOf name store pin.columns
      columns_in_store are = columns_of name (files_of core) store
          (subst (λ s. AreOfStore s (files_of core).places) (sym has.2.of_store) are) pin.columns columns_held

      pub kept_under : IsKept store core
      kept_under = (with_pin name pin has.1, has.2)

    pub pin_still : (store other : Store) (a b : Core J F S R P means counts) (pin : Pin F S R P) → other ≡ store
        → HasPin name store a pin → IsHandedOn store a b → HasPin name other b pin
    pin_still store other a b pin same has hands =
        subst (λ (s : Store). HasPin name s b pin) (sym same) (has.0, has.1, hands (with_pin name pin has.1) has.2)

    pub pin_given : (old new : Core J F S R P means counts) (pin : Pin F S R P) → IsUnpinned old new pin → (store : Store)
        → EndsPin name store old new pin
    pin_given old new pin unpinned = pin_leaves name old new pin unpinned

    -- steps come, and then the pin is given back
    pub then_gives : (store : Store) (a b c : Core J F S R P means counts) (pin : Pin F S R P) → IsHandedOn store a b
        → EndsPin name store b c pin → EndsPin name store a c pin
    then_gives store a b c pin hands gives out kept = gives out (hands (with_pin name pin out) kept)

    pub pins_and_unpins : (store : Store) (a b c : Core J F S R P means counts) (pin : Pin F S R P)
        → TakesPin name a b (Some pin) → EndsPin name store b c pin → IsHandedOn store a c
    pins_and_unpins store a b c pin takes gives out kept = gives out (takes.1 store out kept)

  -- ---- a new core

  pub new_store : (core : Core J F S R P means counts) (store : Store) → files_of core ≡ none_kept store
      → store ≡ store_of core
  new_store core store none = sym (ap (λ (files : KeptFiles). files.store) none)

  pub new_loans : {store : Store} (core : Core J F S R P means counts) → KeepsJobs core [] []
      → files_of core ≡ none_kept store
      → is_sequence_claimed core ≡ false → KeepsLoans core [] [] []
  new_loans core jobs none free = nothing_lent core [] jobs
      (subst (λ (files : KeptFiles). AreUnread files.places) (sym none) (λ n. tt))
      (record {
        sequence = free;
        late = subst (λ (files : KeptFiles). AreUnclaimed files.unsequence) (sym none) tt;
      })

  pub new_kept : (core : Core J F S R P means counts) (store : Store) → KeepsLoans core [] [] []
      → store ≡ store_of core → IsKept store core
  new_kept core store loans of_store = (nothing_out, record { loans = loans; of_store = of_store })

  pub unread : (store : Store) (old new : Core J F S R P means counts) → IsHandedOn store old new
      → KeepsLoans old [] [] [] → store ≡ store_of old → AreUnread (files_of new).places
  unread store old new hands loans of_store =
      none_lent new [] [] (hands nothing_out (record { loans = loans; of_store = of_store })).loans

  pub stays_in : (store other : Store) (old new : Core J F S R P means counts) → other ≡ store → IsHandedOn store old new
      → KeepsLoans old [] [] [] → store ≡ store_of old → other ≡ store_of new
  stays_in store other old new same hands loans of_store =
      same ∙ (hands nothing_out (record { loans = loans; of_store = of_store })).of_store

pub none_above : (store : Store) (next : ℕ) → 1 ≤ next → IsAboveNumbers next (none_kept store)
none_above store next from = record { from_one = from; below = λ n. tt }
