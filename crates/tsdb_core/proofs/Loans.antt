-- What a core keeps for jobs and pins that are out, over the calls that end none of its compactions.
use Rattle.std.proofs.Common.{◌≡◌, ℕ, Bool, List, [], ◌∷◌, ◌++◌, map, Option, None, Some, false}
use Rattle.std.proofs.Common.{ap, refl, sym, subst, ◌∙◌}
use Rattle.std.proofs.lemmas.List.{map-append}
use Rattle.std.specs.List.{AllByRecursion as Each, flat_map}
use Rattle.std.specs.Option.{IsSomeAnd, option_map}
use Rattle.tsdb_base.specs.declared.ids.FileNumber.{FileNumber}
use Rattle.tsdb_tasks.specs.Coming.{HaveCome}
use Rattle.tsdb_tasks.proofs.Coming.{of_each}
use Rattle.tsdb_tasks.specs.Files.{NewFile, NewFiles, all_of, file_built, new_files, file_number}
use Rattle.tsdb_core.proofs.LoansInputs.{inputs_grown, inputs_same}
use Rattle.tsdb_core.proofs.LoansRights.{IsNamedIn, fewer_counted, name_same, no_right_on, none_on}
use Rattle.tsdb_core.proofs.LoansRights.{rights_given, rights_pass, rights_same, rights_swept, rights_taken}
use Rattle.tsdb_core.specs.Core.{KeepsJobs, files_of, is_sequence_claimed}
use Rattle.tsdb_core.specs.Ending.{AreAfterCommit}
use Rattle.tsdb_core.specs.Loans.{KeepsAllLoans, KeepsInputs, KeepsLoans, LentRight, all_lent, lent_numbers}
use Rattle.tsdb_core.specs.Pins.{AreOnColumns, pin_rights, source_rights}
use Rattle.tsdb_core.specs.declared.commit.Commit.{Commit}
use Rattle.tsdb_core.specs.declared.commit.Commit.TheVariants.{Device, Done, Gone}
use Rattle.tsdb_core.specs.declared.engine.Core.{Core}
use Rattle.tsdb_fileset.specs.Files.{IsOpen, KeptFiles, kept_file}
use Rattle.tsdb_fileset.specs.Places.{KeptFile, file_at}
use Rattle.tsdb_fileset.specs.Rights.{IsRightTo}
use Rattle.tsdb_fileset.specs.Sweeps.{LeavesWithout, free_numbers}
use Rattle.tsdb_fileset.specs.declared.files.Outgoing.{Outgoing}
use Rattle.tsdb_fileset.specs.Built.{Built}
use Rattle.tsdb_fileset.specs.Flushed.{Flushed}
use Rattle.tsdb_base.proofs.Lists.{each_append, each_both, each_map, each_right}
use Rattle.tsdb_base.specs.Lists.{Among, IsWithOne, count, if_some}
use Rattle.tsdb_outside.specs.Files.{NamedFile}
use Rattle.tsdb_outside.specs.declared.disk.Disk as disk
use Rattle.tsdb_outside.specs.declared.faults.Counted as counted_by
use Rattle.tsdb_tasks.proofs.Changing.{kept_changed}
use Rattle.tsdb_tasks.specs.Changes.{GivesRights, TakesRights, column_numbers, fewer_rights, more_rights}
use Rattle.tsdb_tasks.specs.Pins.{AreColumnsHeld}
use Rattle.tsdb_tasks.specs.Sources.{AreHeldIn, IsHeldIn, numbers_in, source_numbers}
use Rattle.tsdb_tasks.specs.Column.{Column}
use Rattle.tsdb_tasks.specs.Pin.{Pin}
use Rattle.tsdb_tasks.specs.PinnedSource.{PinnedSource}
use Rattle.tsdb_tasks.specs.TheVariants.{File, Part}
use Rattle.tsdb_plan.specs.declared.entry.FileEntry.{FileEntry}
use Rattle.tsdb_state.specs.State.{Compaction, FlushState}

-- a right to the file that is kept, both ways
module _ {R : Type 0} (name : R → NamedFile) where
  pub named_right : (right : R) (o : Option KeptFile) → IsRightTo name o (Some right)
      → IsSomeAnd o (λ file. name right ≡ file.name)
  named_right right None is = is
  named_right right (Some file) is = is

  pub right_named : (right : R) (o : Option KeptFile) → IsSomeAnd o (λ file. name right ≡ file.name)
      → IsRightTo name o (Some right)
  right_named right None is = is
  right_named right (Some file) is = is

-- ---- the rights of a pin

module _ {F S R P : Type 0} (name : R → NamedFile) where
  numbers_of_source : (source : PinnedSource F S R P) → lent_numbers (source_rights name source) ≡ source_numbers source
  numbers_of_source (File number born right) = refl
  numbers_of_source (Part born points) = refl

  numbers_of_sources : (sources : List (PinnedSource F S R P))
      → lent_numbers (flat_map (source_rights name) sources) ≡ numbers_in sources
  numbers_of_sources [] = refl
  numbers_of_sources (source ∷ sources) = map-append (λ (r : LentRight). r.number) (source_rights name source)
      (flat_map (source_rights name) sources)
      ∙ (λ i. numbers_of_source source i ++ numbers_of_sources sources i)

  numbers_of_columns : (columns : List (Column F S R P))
      → lent_numbers (flat_map (λ (column : Column F S R P). flat_map (source_rights name) column.sources) columns)
      ≡ column_numbers columns
  numbers_of_columns [] = refl
  numbers_of_columns (column ∷ columns) = map-append (λ (r : LentRight). r.number)
      (flat_map (source_rights name) column.sources)
      (flat_map (λ (c : Column F S R P). flat_map (source_rights name) c.sources) columns)
      ∙ (λ i. numbers_of_sources column.sources i ++ numbers_of_columns columns i)

  -- the rights of a pin are on its files
  pub on_columns : (pin : Pin F S R P) → AreOnColumns pin (pin_rights name pin)
  on_columns pin = numbers_of_columns pin.columns

  named_source : (files : KeptFiles) (source : PinnedSource F S R P) → IsHeldIn name files source
      → Each (IsNamedIn files) (source_rights name source)
  named_source files (File number born right) is = (named_right name right (kept_file number.0 files) is, tt)
  named_source files (Part born points) is = tt

  named_sources : (files : KeptFiles) (sources : List (PinnedSource F S R P)) → AreHeldIn name files sources
      → Each (IsNamedIn files) (flat_map (source_rights name) sources)
  named_sources files [] held = tt
  named_sources files (source ∷ sources) held = each_append (IsNamedIn files) (source_rights name source)
      (flat_map (source_rights name) sources) (named_source files source held.0)
      (named_sources files sources held.1)

  pub named_columns : (files : KeptFiles) (columns : List (Column F S R P)) → AreColumnsHeld name files columns
      → Each (IsNamedIn files) (flat_map (λ (c : Column F S R P). flat_map (source_rights name) c.sources) columns)
  named_columns files [] held = tt
  named_columns files (column ∷ columns) held = each_append (IsNamedIn files)
      (flat_map (source_rights name) column.sources)
      (flat_map (λ (c : Column F S R P). flat_map (source_rights name) c.sources) columns)
      (named_sources files column.sources held.0) (named_columns files columns held.1)

-- ---- a call that ends no compaction

-- no right on a new file is out
abbrev pub AreUnreadYet : NewFiles → Type 0
AreUnreadYet files = Each (λ (file : NewFile). file.token.rights ≡ 0) (all_of files)

module _ {F S R P : Type 0} (name : S → NamedFile) where
  unread_one : (o : Option (Built F S R P))
      → Each (λ (file : NewFile). file.token.rights ≡ 0) (if_some (option_map (file_built name) o))
  unread_one None = tt
  unread_one (Some built) = (refl, tt)

  pub unread_yet : (files : Flushed F S R P) → AreUnreadYet (new_files name files)
  unread_yet files = each_append (λ (file : NewFile). file.token.rights ≡ 0)
      (if_some (option_map (file_built name) files.sequence)) (if_some (option_map (file_built name) files.unsequence))
      (unread_one files.sequence) (unread_one files.unsequence)

-- no job has claimed the files
abbrev pub AreFresh : NewFiles → Type 0
AreFresh files = Each (λ (file : NewFile). file.entry.claimed ≡ false) (all_of files)

inputs_after : (commit : Commit) (files : NewFiles) (old new : KeptFiles) (claimed : Bool)
    (compactions : List Compaction) → AreFresh files → AreAfterCommit commit files old new
    → KeepsInputs old claimed compactions → KeepsInputs new claimed compactions
inputs_after Done files old new claimed compactions fresh after = inputs_grown old new
    (map (λ (file : NewFile). file.entry) (if_some files.sequence))
    (map (λ (file : NewFile). file.entry) (if_some files.unsequence)) claimed compactions after.sequence
    after.unsequence
    (each_map (λ (entry : FileEntry). entry.claimed ≡ false) (λ (file : NewFile). file.entry) (if_some files.unsequence)
    (each_right (λ (file : NewFile). file.entry.claimed ≡ false) (if_some files.sequence) (if_some files.unsequence)
    fresh))
inputs_after Gone files old new claimed compactions fresh after =
    inputs_same old new claimed compactions after.sequence after.unsequence
inputs_after Device files old new claimed compactions fresh after =
    inputs_same old new claimed compactions after.sequence after.unsequence

module _ {J F S R P : Type 0} {means : disk.Ghosts J} {counts : counted_by.Ghosts J} where
  -- the lists, the kept files and the claim of the sequence list stay
  pub same_but_jobs : (old new : Core J F S R P means counts) → (files_of new).sequence ≡ (files_of old).sequence
      → (files_of new).unsequence ≡ (files_of old).unsequence → is_sequence_claimed new ≡ is_sequence_claimed old
      → ((n : ℕ) → kept_file n (files_of new) ≡ kept_file n (files_of old)) → (flushes others : List FlushState)
      (compactions : List Compaction) (lent : List (List LentRight)) → KeepsJobs new others compactions
      → KeepsLoans old flushes compactions lent → KeepsLoans new others compactions lent
  same_but_jobs old new first second claimed found flushes others compactions lent jobs keeps = record {
    jobs = jobs;
    inputs = subst (λ b. KeepsInputs (files_of new) b compactions) (sym claimed)
        (inputs_same (files_of old) (files_of new) (is_sequence_claimed old) compactions first second keeps.inputs);
    rights = rights_same (files_of old) (files_of new) (all_lent lent) found keeps.rights;
  }

  pub all_same : (old new : Core J F S R P means counts) → (files_of new).sequence ≡ (files_of old).sequence
      → (files_of new).unsequence ≡ (files_of old).unsequence → is_sequence_claimed new ≡ is_sequence_claimed old
      → ((n : ℕ) → kept_file n (files_of new) ≡ kept_file n (files_of old))
      → ((flushes : List FlushState) (compactions : List Compaction) → KeepsJobs old flushes compactions
      → KeepsJobs new flushes compactions) → KeepsAllLoans old new
  all_same old new first second claimed found jobs flushes compactions lent keeps =
      same_but_jobs old new first second claimed found flushes flushes compactions lent
      (jobs flushes compactions keeps.jobs) keeps

  -- a sweep takes away files on which no right is out
  pub all_swept : (old : Core J F S R P means counts) (files : KeptFiles) (doubted : List (Option FileNumber))
      (part : List Outgoing) → LeavesWithout (free_numbers doubted old.files.places part) old.files files
      → ((flushes : List FlushState) (compactions : List Compaction) → KeepsJobs old flushes compactions
      → KeepsJobs (record old { files = files }) flushes compactions)
      → KeepsAllLoans old (record old { files = files })
  all_swept old files doubted part leaves jobs flushes compactions lent keeps = record {
    jobs = jobs flushes compactions keeps.jobs;
    inputs = inputs_same old.files files old.sequence_claimed compactions leaves.sequence leaves.unsequence keeps.inputs;
    rights = rights_swept old.files files doubted part (all_lent lent) leaves keeps.rights;
  }

  -- a flush ends: its files get places that no right is on
  pub flush_loans : (old : Core J F S R P means counts) (kept : KeptFiles) (last : ℕ) (commit : Commit) (drawn : List ℕ)
      (files : NewFiles) → AreAfterCommit commit files old.files kept → HaveCome drawn files old.files kept
      → Each (λ file. Among (file_number file) drawn) (all_of files) → AreUnreadYet files → AreFresh files
      → ((n : ℕ) → Among n drawn → IsOpen n old.files) → (others flushes : List FlushState)
      (compactions : List Compaction) (lent : List (List LentRight))
      → KeepsJobs (record old { files = kept; flushed_below = last }) others compactions
      → KeepsLoans old flushes compactions lent
      → KeepsLoans (record old { files = kept; flushed_below = last }) others compactions lent
  flush_loans old kept last commit drawn files after come of_drawn unread fresh is_open others flushes compactions lent
      jobs keeps =
      record {
        jobs = jobs;
        inputs = inputs_after commit files old.files kept old.sequence_claimed compactions fresh after keeps.inputs;
        rights = rights_pass old.files kept (all_lent lent) (all_lent lent) (λ right among. among)
            (λ n some. name_same (kept_file n old.files) (kept_file n kept) (ap file_at (come.others n (λ among.
            no_right_on old.files (all_lent lent) keeps.rights n (ap file_at (is_open n among)) some))))
            (of_each drawn files old.files kept come (λ n file. file.rights ≡ count n (lent_numbers (all_lent lent)))
            (λ n never. keeps.rights.counted n)
            (each_both (λ (file : NewFile). Among (file_number file) drawn) (λ (file : NewFile). file.token.rights ≡ 0)
            (λ (file : NewFile). file.token.rights ≡ count (file_number file) (lent_numbers (all_lent lent)))
            (λ file among none. none ∙ sym (none_on old.files (file_number file) (ap file_at (is_open (file_number file) among))
            (all_lent lent) keeps.rights.named)) (all_of files) of_drawn unread)) keeps.rights;
      }

  -- ---- pins

  pub pinned_loans : (name : R → NamedFile) (old : Core J F S R P means counts) (files : KeptFiles)
      (pin : Pin F S R P) → TakesRights (column_numbers pin.columns) old.files files
      → AreColumnsHeld name old.files pin.columns
      → ((flushes : List FlushState) (compactions : List Compaction) → KeepsJobs old flushes compactions
      → KeepsJobs (record old { files = files }) flushes compactions) → (flushes : List FlushState)
      (compactions : List Compaction) (lent : List (List LentRight)) → KeepsLoans old flushes compactions lent
      → KeepsLoans (record old { files = files }) flushes compactions (pin_rights name pin ∷ lent)
  pinned_loans name old files pin rights held jobs flushes compactions lent keeps = record {
    jobs = jobs flushes compactions keeps.jobs;
    inputs = inputs_same old.files files old.sequence_claimed compactions rights.lists.sequence
        rights.lists.unsequence keeps.inputs;
    rights = rights_taken old.files files (pin_rights name pin) (all_lent lent)
        (λ n. subst (λ ns. kept_file n files ≡ option_map (more_rights (count n ns)) (kept_file n old.files))
        (sym (on_columns name pin))
        (kept_changed (λ m. more_rights (count m (column_numbers pin.columns))) old.files files rights n))
        (named_columns name old.files pin.columns held) keeps.rights;
  }

  pub unpinned_loans : (old : Core J F S R P means counts) (files : KeptFiles) (pin : Pin F S R P)
      → GivesRights (column_numbers pin.columns) old.files files
      → ((flushes : List FlushState) (compactions : List Compaction) → KeepsJobs old flushes compactions
      → KeepsJobs (record old { files = files }) flushes compactions) → (flushes : List FlushState)
      (compactions : List Compaction) (mine : List LentRight) (others lent : List (List LentRight))
      → AreOnColumns pin mine → IsWithOne mine others lent → KeepsLoans old flushes compactions lent
      → KeepsLoans (record old { files = files }) flushes compactions others
  unpinned_loans old files pin rights jobs flushes compactions mine others lent on out keeps = record {
    jobs = jobs flushes compactions keeps.jobs;
    inputs = inputs_same old.files files old.sequence_claimed compactions rights.lists.sequence
        rights.lists.unsequence keeps.inputs;
    rights = rights_given old.files files mine others lent out (λ n some. found n)
        (λ n. fewer_counted old.files files mine others lent out keeps.rights n (found n)) keeps.rights;
  }
    where
      found : (n : ℕ) → kept_file n files ≡ option_map (fewer_rights (count n (lent_numbers mine))) (kept_file n old.files)
      found n = subst (λ ns. kept_file n files ≡ option_map (fewer_rights (count n ns)) (kept_file n old.files)) (sym on)
          (kept_changed (λ m. fewer_rights (count m (column_numbers pin.columns))) old.files files rights n)
