-- A core that flushes stays ready for what is asked of it next.
use Rattle.std.proofs.Common.{◌≡◌, ℕ, List, [], ◌∷◌, ◌++◌, map, Option, None, Some, Result, Ok, Err}
use Rattle.std.proofs.Common.{ap, refl, sym, subst, ◌∙◌}
use Rattle.std.proofs.lemmas.List.{map-append}
use Rattle.std.specs.List.{AllByRecursion as Each}
use Rattle.std.specs.Option.{option_map}
use Rattle.std.specs.Prelude.{IfSome, ◌≤◌}
use Rattle.core_tests.specs.Ready.{IsReady, IsReadyWith, IsTakenOut, flush_of}
use Rattle.tsdb_tasks.proofs.Coming.{of_each}
use Rattle.tsdb_tasks.specs.Files.{NewFile, file_built, new_files}
use Rattle.tsdb_core.specs.Commands.{KeepsFiles}
use Rattle.tsdb_core.specs.Core.{IsAboveNumbers, KeepsJobs, files_of}
use Rattle.tsdb_core.specs.Ending.{drawn_for}
use Rattle.tsdb_core.specs.Flushes.{HasEndedFlush, HasNumbersOf, IsOut, IsFlushTakenOrNot, TakesMemory}
use Rattle.tsdb_core.specs.Sweeps.{IsSwept}
use Rattle.tsdb_core.specs.declared.commit.Commit.{Commit}
use Rattle.tsdb_core.specs.declared.commit.CoreFault.{CoreFault}
use Rattle.tsdb_core.specs.declared.engine.Core.{Core}
use Rattle.tsdb_flush.specs.Jobs.{IsJob}
use Rattle.tsdb_flush.specs.declared.job.Built.{Built}
use Rattle.tsdb_flush.specs.declared.job.Flushed.{Flushed}
use Rattle.tsdb_flush.specs.declared.job.FlushJob.{FlushJob}
use Rattle.tsdb_fileset.proofs.Taken.{still_all}
use Rattle.tsdb_fileset.specs.Files.{KeptFiles, none_kept}
use Rattle.tsdb_fileset.specs.Places.{AllFiles, KeptFile, OnlyMakesPlaces, Places}
use Rattle.tsdb_base.specs.Lists.{IsWithOne, if_some}
use Rattle.tsdb_outside.specs.Files.{NamedFile, Store}
use Rattle.tsdb_outside.specs.declared.disk.Disk as disk
use Rattle.tsdb_outside.specs.declared.faults.Counted as counted
use Rattle.tsdb_outside.specs.declared.faults.Failed.{Failed}

-- ---- the files of a flush

each_of : (Q : NewFile → Type 0) (a b : Option NewFile) → IfSome a Q → IfSome b Q → Each Q (if_some a ++ if_some b)
each_of Q None None p q = tt
each_of Q None (Some b) p q = (q, tt)
each_of Q (Some a) None p q = (p, tt)
each_of Q (Some a) (Some b) p q = (p, (q, tt))

-- no right to read a new file is out
unread_part : {F S R P : Type 0} (file : S → NamedFile) (built : Option (Built F S R P))
    → IfSome (option_map (file_built file) built) (λ f. f.token.rights ≡ 0)
unread_part file None = tt
unread_part file (Some built) = refl

-- ---- jobs

has_numbers : (job : FlushJob) → HasNumbersOf job (flush_of job)
has_numbers job = record { sequence = refl; unsequence = refl }

mapped : (job : FlushJob) (others jobs : List FlushJob) → IsWithOne job others jobs
    → IsWithOne (flush_of job) (map flush_of others) (map flush_of jobs)
mapped job others jobs one = record {
  before = map flush_of one.before;
  behind = map flush_of one.behind;
  with_it = ap (map flush_of) one.with_it ∙ map-append flush_of one.before (job ∷ one.behind);
  without = ap (map flush_of) one.without ∙ map-append flush_of one.before one.behind;
}

still_made : (Q : KeptFile → Type 0) (old new : Places) → OnlyMakesPlaces old new → AllFiles Q old → AllFiles Q new
still_made Q old new made all n = subst (λ found. IfSome found Q) (sym (made.files n)) (all n)

module _ {J F S R P : Type 0} {means : disk.Ghosts J} {counts : counted.Ghosts J} where
  pub out_of : (store : Store) (core : Core J F S R P means counts) (job : FlushJob) (others jobs : List FlushJob)
      → IsWithOne job others jobs → IsReady store core jobs → IsOut core job
  out_of store core job others jobs one ready = record {
    flush = flush_of job;
    others = map flush_of others;
    flushes = map flush_of jobs;
    compactions = [];
    numbers = has_numbers job;
    out = mapped job others jobs one;
    keeps = ready.keeps;
  }

  pub take_ready : (old new : Core J F S R P means counts) (result : Result (Option FlushJob) CoreFault)
      → TakesMemory old new → IsFlushTakenOrNot old new result → (store : Store) (jobs : List FlushJob)
      → IsReady store old jobs → IsReadyWith store new jobs result
  take_ready old new (Ok None) takes taken store jobs ready = record {
    keeps = taken.jobs (map flush_of jobs) [] ready.keeps;
    unread = still_made (λ file. file.rights ≡ 0) old.files.places new.files.places takes.places ready.unread;
    of_store = ready.of_store ∙ sym takes.lists.store;
  }
  take_ready old new (Ok (Some job)) takes taken store jobs ready = record {
    keeps = taken.jobs (flush_of job) (map flush_of jobs) [] (has_numbers job) ready.keeps;
    unread = still_made (λ file. file.rights ≡ 0) old.files.places new.files.places takes.places ready.unread;
    of_store = ready.of_store ∙ sym takes.lists.store;
  }
  take_ready old new (Err fault) takes taken store jobs ready = record {
    keeps = taken.jobs (map flush_of jobs) [] ready.keeps;
    unread = still_made (λ file. file.rights ≡ 0) old.files.places new.files.places takes.places ready.unread;
    of_store = ready.of_store ∙ sym takes.lists.store;
  }

  pub take_out : (old new : Core J F S R P means counts) (result : Result (Option FlushJob) CoreFault)
      → TakesMemory old new → IsFlushTakenOrNot old new result → (store : Store) (jobs : List FlushJob)
      → IsReady store old jobs → IsTakenOut new result
  take_out old new (Ok None) takes taken store jobs ready = tt
  take_out old new (Ok (Some job)) takes taken store jobs ready = (
    taken.is_job,
    out_of store new job jobs (job ∷ jobs) (record { before = []; behind = jobs; with_it = refl; without = refl })
        (take_ready old new (Ok (Some job)) takes taken store jobs ready),
  )
  take_out old new (Err fault) takes taken store jobs ready = tt

  -- the core after the end of a job, of whose files these are there
  module _ (file : S → NamedFile) (store : Store) (old new : Core J F S R P means counts) (job : FlushJob)
      (files : Flushed F S R P) (commit : Commit) (ends : HasEndedFlush old new job (new_files file files) commit)
      (others jobs : List FlushJob) (one : IsWithOne job others jobs) (ready : IsReady store old jobs) where
    pub ended : IsReady store new others
    ended = record {
      keeps = ends.jobs (flush_of job) (map flush_of others) (map flush_of jobs) [] (has_numbers job)
          (mapped job others jobs one) ready.keeps;
      unread = of_each (drawn_for job) (new_files file files) old.files new.files ends.come (λ n kept. kept.rights ≡ 0)
          (λ n never. ready.unread n)
          (each_of (λ f. f.token.rights ≡ 0) (option_map (file_built file) files.sequence)
          (option_map (file_built file) files.unsequence) (unread_part file files.sequence)
          (unread_part file files.unsequence));
      of_store = ready.of_store ∙ sym ends.store;
    }

  -- ---- what a taken job is

  module _ (core : Core J F S R P means counts) (result : Result (Option FlushJob) CoreFault) (job : FlushJob)
      (is : result ≡ Ok (Some job)) where
    pub is_out : IsTakenOut core result → IsJob job × IsOut core job
    is_out = subst (IsTakenOut core) is

    pub with_job : (store : Store) (jobs : List FlushJob) → IsReadyWith store core jobs result
        → IsReady store core (job ∷ jobs)
    with_job store jobs = subst (IsReadyWith store core jobs) is

  pub without_job : (core : Core J F S R P means counts) (store : Store) (jobs : List FlushJob)
      (result : Result (Option FlushJob) CoreFault) → result ≡ Ok None → IsReadyWith store core jobs result
      → IsReady store core jobs
  without_job core store jobs result is = subst (IsReadyWith store core jobs) is

  pub without_at_fault : (core : Core J F S R P means counts) (store : Store) (jobs : List FlushJob)
      (result : Result (Option FlushJob) CoreFault) (fault : CoreFault) → result ≡ Err fault
      → IsReadyWith store core jobs result → IsReady store core jobs
  without_at_fault core store jobs result fault is = subst (IsReadyWith store core jobs) is

  pub of_new_port : (core : Core J F S R P means counts) (old new : Store) (jobs : List FlushJob) → new ≡ old
      → IsReady old core jobs → IsReady new core jobs
  of_new_port core old new jobs same ready = subst (λ store. IsReady store core jobs) (sym same) ready

  -- ---- other calls

  pub kept_ready : (old new : Core J F S R P means counts) → KeepsFiles old new → (store : Store) (jobs : List FlushJob)
      → IsReady store old jobs → IsReady store new jobs
  kept_ready old new keeps store jobs ready = record {
    keeps = keeps.jobs (map flush_of jobs) [] ready.keeps;
    unread = subst (λ (files : KeptFiles). AllFiles (λ file. file.rights ≡ 0) files.places) (sym keeps.files) ready.unread;
    of_store = ready.of_store ∙ sym (ap (λ (files : KeptFiles). files.store) keeps.files);
  }

  pub swept_ready : (old new : Core J F S R P means counts) (result : Result ℕ Failed) → IsSwept old new result
      → (store : Store) (jobs : List FlushJob) → IsReady store old jobs → IsReady store new jobs
  swept_ready old new (Ok count) swept store jobs ready = record {
    keeps = swept.all.jobs (map flush_of jobs) [] ready.keeps;
    unread = still_all (λ file. file.rights ≡ 0) _ old.files.places new.files.places swept.all.left.places ready.unread;
    of_store = ready.of_store ∙ sym swept.all.left.store;
  }
  swept_ready old new (Err failed) swept store jobs ready = record {
    keeps = swept.stopped.1.jobs (map flush_of jobs) [] ready.keeps;
    unread = still_all (λ file. file.rights ≡ 0) _ old.files.places new.files.places swept.stopped.1.left.places
        ready.unread;
    of_store = ready.of_store ∙ sym swept.stopped.1.left.store;
  }

  pub new_ready : (core : Core J F S R P means counts) (store : Store) → KeepsJobs core [] []
      → files_of core ≡ none_kept store → IsReady store core []
  new_ready core store keeps none = record {
    keeps = keeps;
    unread = subst (λ (files : KeptFiles). AllFiles (λ file. file.rights ≡ 0) files.places) (sym none) (λ n. tt);
    of_store = sym (ap (λ (files : KeptFiles). files.store) none);
  }

pub none_above : (store : Store) (next : ℕ) → 1 ≤ next → IsAboveNumbers next (none_kept store)
none_above store next some = record { from_one = some; below = λ n. tt }

pub first_of : (job : FlushJob) (jobs : List FlushJob) → IsWithOne job jobs (job ∷ jobs)
first_of job jobs = record { before = []; behind = jobs; with_it = refl; without = refl }

pub second_of : (other job : FlushJob) → IsWithOne job (other ∷ []) (other ∷ job ∷ [])
second_of other job = record { before = other ∷ []; behind = []; with_it = refl; without = refl }
