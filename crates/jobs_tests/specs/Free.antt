-- Nothing is out of a core, in words of which there is one proof at most, so that a struct can keep it.
use Rattle.std.specs.List.{list_any}
use Rattle.std.specs.Prelude.{◌≡◌, [], false}
use Rattle.tsdb_core.specs.Core.{KeepsJobs, files_of, is_sequence_claimed, store_of}
use Rattle.tsdb_core.specs.declared.engine.Core.{Core}
use Rattle.tsdb_fileset.specs.Places.{AreUnread}
use Rattle.tsdb_outside.specs.Files.{Store}
use Rattle.tsdb_outside.specs.declared.disk.Disk as disk
use Rattle.tsdb_outside.specs.declared.faults.Counted as counted

module _ {J F S R P : Type 0} {means : disk.Ghosts J} {counts : counted.Ghosts J} where
  -- no job is out, no right to read a file is, nothing is claimed, and the core is of the store
  pub record IsFree (store : Store) (core : Core J F S R P means counts) : Type 0 where
    pub jobs : KeepsJobs core [] []
    pub unread : AreUnread (files_of core).places
    pub sequence : is_sequence_claimed core ≡ false
    pub late : list_any (λ entry. entry.claimed) (files_of core).unsequence ≡ false
    pub of_store : store ≡ store_of core
