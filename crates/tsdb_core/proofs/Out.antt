-- What each call of a core makes of what is out, and of what it keeps for it.
use Rattle.std.proofs.Common.{◌≡◌, ◌∙◌, ℕ, List, [], ◌∷◌, Option, Result, Ok, Err, inl, ap, refl, sym, subst}
use Rattle.tsdb_base.proofs.Lists.{among_right}
use Rattle.tsdb_base.specs.Lists.{Among, IsWithOne}
use Rattle.tsdb_core.proofs.Loans.{on_columns}
use Rattle.tsdb_core.proofs.LoansJobs.{on_inputs}
use Rattle.tsdb_core.proofs.LoansOut.{flush_out, is_compaction, job_out, none_lent, nothing_lent, pin_held}
use Rattle.tsdb_core.specs.Beginnings.{IsBegun, IsNotBegun}
use Rattle.tsdb_core.specs.Commands.{KeepsFiles}
use Rattle.tsdb_core.specs.Compactions.{IsHandedOut, IsJobKept, IsJobOut, job_rights}
use Rattle.tsdb_core.specs.Core.{KeepsJobs, files_of, store_of}
use Rattle.tsdb_core.specs.Flushes.{HasEndedFlush, HasNumbersOf, IsNotTaken, IsOut, IsFlushTaken, TakesMemory}
use Rattle.tsdb_core.specs.Loans.{IsNothingClaimed, KeepsLoans}
use Rattle.tsdb_core.specs.Out.{HandsOn, IsWithJob, KeepsOut, Loans, compaction_of, flush_of, nothing_out, with_flush}
use Rattle.tsdb_core.specs.Out.{with_job, with_pin}
use Rattle.tsdb_core.specs.Pins.{IsNotPinned, IsPinned, IsUnpinned, pin_rights}
use Rattle.tsdb_core.specs.Replacements.{HasEndedJob}
use Rattle.tsdb_core.specs.Sweeps.{IsSwept}
use Rattle.tsdb_core.specs.declared.commit.Commit.{Commit}
use Rattle.tsdb_core.specs.declared.engine.Core.{Core}
use Rattle.tsdb_fileset.specs.Files.{KeptFiles}
use Rattle.tsdb_fileset.specs.FlushJob.{FlushJob}
use Rattle.tsdb_fileset.specs.Places.{AreUnread}
use Rattle.tsdb_outside.specs.Files.{NamedFile, Store}
use Rattle.tsdb_outside.specs.declared.disk.Disk as disk
use Rattle.tsdb_outside.specs.declared.faults.Counted as counted
use Rattle.tsdb_outside.specs.declared.faults.Failed.{Failed}
use Rattle.tsdb_tasks.specs.Files.{NewFile, NewFiles}
use Rattle.tsdb_tasks.specs.Job.{Job}
use Rattle.tsdb_tasks.specs.Pin.{Pin}
use Rattle.tsdb_tasks.specs.Pins.{AreColumnsHeld}
use Rattle.tsdb_tasks.specs.declared.finishing.InputRuns.{InputRuns}
use Rattle.tsdb_base.specs.declared.ids.Space.{Space}

-- ---- one among others

pub first_one : {X : Type 0} (x : X) (xs : List X) → IsWithOne x xs (x ∷ xs)
first_one x xs = record { before = []; behind = xs; with_it = refl; without = refl }

behind_one : {X : Type 0} (x y : X) (others all : List X) → IsWithOne x others all → IsWithOne x (y ∷ others) (y ∷ all)
behind_one x y others all is = record {
  before = y ∷ is.before;
  behind = is.behind;
  with_it = ap (λ xs. y ∷ xs) is.with_it;
  without = ap (λ xs. y ∷ xs) is.without;
}

one_among : {X : Type 0} (x : X) (others all : List X) → IsWithOne x others all → Among x all
one_among x others all is =
    subst (Among x) (sym is.with_it) (among_right is.before (x ∷ is.behind) x (inl refl))

pub has_numbers : (job : FlushJob) → HasNumbersOf job (flush_of job)
has_numbers job = record { sequence = refl; unsequence = refl }

module _ {F S R P : Type 0} (name : R → NamedFile) where
  pub first_job : (job : Job F S R P) (out : Loans) → IsWithJob name job out (with_job name job out)
  first_job job out = record {
    flushes = refl;
    compactions = first_one (compaction_of job) out.compactions;
    lent = first_one (job_rights name job) out.lent;
  }

  -- and so it is among these and one more
  pub behind_job : (job second : Job F S R P) (others all : Loans) → IsWithJob name job others all
      → IsWithJob name job (with_job name second others) (with_job name second all)
  behind_job job second others all is = record {
    flushes = is.flushes;
    compactions = behind_one (compaction_of job) (compaction_of second) others.compactions all.compactions
        is.compactions;
    lent = behind_one (job_rights name job) (job_rights name second) others.lent all.lent is.lent;
  }

module _ {J F S R P : Type 0} {means : disk.Ghosts J} {counts : counted.Ghosts J} where
  -- ---- nothing is out

  pub none_out : (core : Core J F S R P means counts) (store : Store) → KeepsJobs core [] []
      → AreUnread (files_of core).places → IsNothingClaimed core → store ≡ store_of core
      → KeepsOut store nothing_out core
  none_out core store jobs unread none of_store =
      record { loans = nothing_lent core [] jobs unread none; of_store = of_store }

  pub none_read : (core : Core J F S R P means counts) (store : Store) → KeepsOut store nothing_out core
      → AreUnread (files_of core).places
  none_read core store keeps = none_lent core [] [] keeps.loans

  -- ---- calls that give nothing out and take nothing back

  pub files_handed : (old new : Core J F S R P means counts) → KeepsFiles old new → HandsOn old new
  files_handed old new keeps store out kept = record {
    loans = keeps.loans out.flushes out.compactions out.lent kept.loans;
    of_store = kept.of_store ∙ sym (ap (λ (files : KeptFiles). files.store) keeps.files);
  }

  pub swept_handed : (old new : Core J F S R P means counts) (result : Result ℕ Failed) → IsSwept old new result
      → HandsOn old new
  swept_handed old new (Ok count) swept store out kept = record {
    loans = swept.all.loans out.flushes out.compactions out.lent kept.loans;
    of_store = kept.of_store ∙ sym swept.all.left.store;
  }
  swept_handed old new (Err failed) swept store out kept = record {
    loans = swept.stopped.1.loans out.flushes out.compactions out.lent kept.loans;
    of_store = kept.of_store ∙ sym swept.stopped.1.left.store;
  }

  pub no_flush : (old new : Core J F S R P means counts) → TakesMemory old new → IsNotTaken old new → HandsOn old new
  no_flush old new takes not store out kept = record {
    loans = not.loans out.flushes out.compactions out.lent kept.loans;
    of_store = kept.of_store ∙ sym takes.lists.store;
  }

  pub no_job : (old new : Core J F S R P means counts) → IsNotBegun old new → HandsOn old new
  no_job old new not store out kept = record {
    loans = not.same.loans out.flushes out.compactions out.lent kept.loans;
    of_store = kept.of_store ∙ sym not.lists.store;
  }

  pub no_pin : (old new : Core J F S R P means counts) → IsNotPinned old new → HandsOn old new
  no_pin old new not store out kept = record {
    loans = not.loans out.flushes out.compactions out.lent kept.loans;
    of_store = kept.of_store ∙ sym not.rest.store;
  }

  -- ---- flushes

  pub flush_joins : (old new : Core J F S R P means counts) (job : FlushJob) → TakesMemory old new → IsFlushTaken old new job
      → (store : Store) (out : Loans) → KeepsOut store out old → KeepsOut store (with_flush job out) new
  flush_joins old new job takes taken store out kept = record {
    loans = taken.loans (flush_of job) out.flushes out.compactions out.lent (has_numbers job) kept.loans;
    of_store = kept.of_store ∙ sym takes.lists.store;
  }

  pub flush_can_end : (core : Core J F S R P means counts) (job : FlushJob) (store : Store) (out : Loans)
      → KeepsOut store (with_flush job out) core → IsOut core job
  flush_can_end core job store out kept = flush_out core job (flush_of job) out.flushes (flush_of job ∷ out.flushes)
      out.compactions out.lent (has_numbers job) (first_one (flush_of job) out.flushes) kept.loans

  pub flush_leaves : (old new : Core J F S R P means counts) (job : FlushJob) (files : NewFiles) (commit : Commit)
      → HasEndedFlush old new job files commit → (store : Store) (out : Loans) → KeepsOut store (with_flush job out) old
      → KeepsOut store out new
  flush_leaves old new job files commit ended store out kept = record {
    loans = ended.loans (flush_of job) out.flushes (flush_of job ∷ out.flushes) out.compactions out.lent
        (has_numbers job) (first_one (flush_of job) out.flushes) kept.loans;
    of_store = kept.of_store ∙ sym ended.store;
  }

  module _ (name : R → NamedFile) where
    -- ---- compactions

    handed_of : (core : Core J F S R P means counts) (job : Job F S R P) → IsJobKept name core job → IsHandedOut job
    handed_of core job kept = record { formed = kept.formed; few_sequence = kept.few_sequence; few_late = kept.few_late }

    pub job_joins : (space : Space) (runs : InputRuns) (old new : Core J F S R P means counts) (job : Job F S R P)
        → IsBegun name space runs old new job → (store : Store) (out : Loans) → KeepsOut store out old
        → IsHandedOut job × KeepsOut store (with_job name job out) new
    job_joins space runs old new job begun store out kept =
        let handed : IsHandedOut job = handed_of new job (begun.kept out.flushes out.compactions kept.loans.jobs) in (
          handed,
          record {
            loans = begun.loans (compaction_of job) out.flushes out.compactions out.lent (is_compaction job handed)
                kept.loans;
            of_store = kept.of_store ∙ sym begun.lists.store;
          },
        )

    pub job_can_end : (core : Core J F S R P means counts) (job : Job F S R P) (store : Store) (others all : Loans)
        → IsHandedOut job → IsWithJob name job others all → KeepsOut store all core → IsJobOut name core job
    job_can_end core job store others all handed is kept = job_out name core job (compaction_of job) others.compactions
        all.compactions all.flushes all.lent handed (is_compaction job handed) is.compactions
        (one_among (job_rights name job) others.lent all.lent is.lent) kept.loans

    pub job_leaves : (old new : Core J F S R P means counts) (job : Job F S R P) (file : Option NewFile)
        → HasEndedJob old new job file → (store : Store) (others all : Loans) → IsHandedOut job
        → IsWithJob name job others all → KeepsOut store all old → KeepsOut store others new
    job_leaves old new job file ended store others all handed is kept = record {
      loans = ended.loans (compaction_of job) others.compactions all.compactions others.flushes
          (job_rights name job) others.lent all.lent (is_compaction job handed) is.compactions (on_inputs name job)
          is.lent (subst (λ them. KeepsLoans old them all.compactions all.lent) is.flushes kept.loans);
      of_store = kept.of_store ∙ sym ended.store;
    }

    -- ---- pins

    pub pin_joins : (old new : Core J F S R P means counts) (pin : Pin F S R P) → IsPinned name old new pin
        → (store : Store) (out : Loans) → KeepsOut store out old → KeepsOut store (with_pin name pin out) new
    pin_joins old new pin pinned store out kept = record {
      loans = pinned.loans out.flushes out.compactions out.lent kept.loans;
      of_store = kept.of_store ∙ sym pinned.rest.store;
    }

    pub pin_is_held : (core : Core J F S R P means counts) (pin : Pin F S R P) (store : Store) (out : Loans)
        → KeepsOut store (with_pin name pin out) core → AreColumnsHeld name (files_of core) pin.columns
    pin_is_held core pin store out kept = pin_held name core pin out.flushes out.compactions
        (pin_rights name pin ∷ out.lent) (inl refl) kept.loans

    pub pin_leaves : (old new : Core J F S R P means counts) (pin : Pin F S R P) → IsUnpinned old new pin
        → (store : Store) (out : Loans) → KeepsOut store (with_pin name pin out) old → KeepsOut store out new
    pin_leaves old new pin unpinned store out kept = record {
      loans = unpinned.loans out.flushes out.compactions (pin_rights name pin) out.lent (pin_rights name pin ∷ out.lent)
          (on_columns name pin) (first_one (pin_rights name pin) out.lent) kept.loans;
      of_store = kept.of_store ∙ sym unpinned.rest.store;
    }
