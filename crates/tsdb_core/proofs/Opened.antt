-- A core with no job out keeps what its jobs need.
use Rattle.std.proofs.Common.{◌≡◌, ℕ, [], arith}
use Rattle.tsdb_core.specs.Core.{IsAboveNumbers, IsSeen, KeepsJobs, files_of, flushed_below, logged_of, next_of}
use Rattle.tsdb_core.specs.declared.engine.Core.{Core}
use Rattle.tsdb_fileset.specs.StateOfFiles.{AreFilesOf, TellTheirBytes}
use Rattle.tsdb_memory.specs.LogState.{IsSoundLogged, Outside}
use Rattle.tsdb_outside.specs.declared.disk.Disk as disk
use Rattle.tsdb_outside.specs.declared.faults.Counted as counted
use Rattle.tsdb_state.specs.NewStore.{opened}
use Rattle.tsdb_state.specs.State.{StoreState}

module _ {J F S R P : Type 0} {means : disk.Ghosts J} {counts : counted.Ghosts J} where
  pub quiet_jobs : (core : Core J F S R P means counts) → flushed_below core ≡ 0
      → IsAboveNumbers (next_of core) (files_of core) → KeepsJobs core [] []
  quiet_jobs core none above = record {
    from_one = above.from_one;
    below = above.below;
    flushed = omega (arith, none);
    differ = λ number. omega arith;
    range = tt;
    places = tt;
    room = record {
      sequence = omega arith;
      unsequence = omega arith;
      outgoing = omega arith;
      flushed = tt;
      replaced = tt;
    };
  }

  pub opened_seen : (core : Core J F S R P means counts) (outside : Outside) (store : StoreState) (next : ℕ)
      → next_of core ≡ next → flushed_below core ≡ 0 → IsAboveNumbers (next_of core) (files_of core)
      → IsSoundLogged (logged_of core) outside (opened next store)
      → AreFilesOf (files_of core) outside.known (opened next store) → TellTheirBytes (files_of core) outside.kept
      → IsSeen core outside (opened next store)
  opened_seen core outside store next is none above sound files told = record {
    sound = sound;
    files = files;
    told = told;
    next = is;
    jobs = quiet_jobs core none above;
    claims = record { late = tt; sequence = λ free. tt };
  }
