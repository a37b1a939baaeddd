-- How one part of a flush ends among the kept files.
use Rattle.std.specs.Prelude.{◌≡◌, ℕ, List, ◌++◌, map, None, Option, Some}
use Rattle.std.specs.Option.{option_map}
use Rattle.tsdb_base.specs.declared.ids.FileNumber.{FileNumber}
use Rattle.tsdb_base.specs.declared.ids.Space.{Space}
use Rattle.tsdb_base.specs.declared.ids.Space.TheVariants.{Sequence, Unsequence}
use Rattle.tsdb_base.specs.declared.ids.Stamp.{Stamp}
use Rattle.tsdb_tasks.specs.Coming.{AreSentOut, HaveCome, StandLast}
use Rattle.tsdb_tasks.specs.Files.{NewFile, NewFiles}
use Rattle.tsdb_core.specs.declared.commit.Commit.{Commit}
use Rattle.tsdb_core.specs.declared.commit.Commit.TheVariants.{Done, Gone, Device}
use Rattle.tsdb_fileset.specs.Built.{Built}
use Rattle.tsdb_fileset.specs.FlushJob.{FlushJob}
use Rattle.tsdb_fileset.specs.Files.{KeptFiles}
use Rattle.tsdb_fileset.specs.Room.{less_room}
use Rattle.tsdb_fileset.specs.declared.room.Spare.{Spare}
use Rattle.tsdb_base.specs.Lists.{if_some}
use Rattle.tsdb_memory.specs.Least.{IsLeastOf}

-- the number, where there is one
abbrev pub numbers_if : Option FileNumber → List ℕ
numbers_if number = map (λ (n : FileNumber). n.0) (if_some number)

-- the numbers that were drawn for the job
abbrev pub drawn_for : FlushJob → List ℕ
drawn_for job = numbers_if job.sequence ++ numbers_if job.unsequence

-- the number in a record, 0 for none
abbrev pub number_for : Option FileNumber → FileNumber
number_for None = record { 0 = 0 }
number_for (Some number) = number

-- this is the least of these borns, and of that of the job where it has a file
abbrev pub IsLeastWith : Option Stamp → FlushJob → List ℕ → Type 0
IsLeastWith least job borns = IsLeastOf least (borns ++ map (λ number. job.born.0) (drawn_for job))

-- the files of a commit that is done stand last in their lists, and else they are on their way out
abbrev pub AreAfterCommit : Commit → NewFiles → KeptFiles → KeptFiles → Type 0
AreAfterCommit Done files old new = StandLast files old new
AreAfterCommit Gone files old new = AreSentOut files old new
AreAfterCommit Device files old new = AreSentOut files old new

-- the file of one part
abbrev pub only : Space → Option NewFile → NewFiles
only Sequence file = record { sequence = file; unsequence = None }
only Unsequence file = record { sequence = None; unsequence = file }

-- a part with a number needs its places no more
abbrev pub less_if : Space → Option FileNumber → Spare → Spare
less_if space None spare = spare
less_if space (Some number) spare = less_room space spare

-- the number was drawn for the file, and no right to read it is out
pub record IsNumberedOutput {F S R P : Type 0} (rights : S → ℕ) (number : Option FileNumber) (built : Built F S R P)
    : Type 0 where
  pub drawn : option_map (λ (n : FileNumber). n.0) number ≡ Some built.entry.number.0
  pub unread : rights built.sealed ≡ 0

-- The part has ended: its file is where the commit says, and its token is kept.
pub record PartEnds (commit : Commit) (space : Space) (number : Option FileNumber) (file : Option NewFile)
    (old new : KeptFiles)
    : Type 0 where
  pub come : HaveCome (numbers_if number) (only space file) old new
  pub lists : AreAfterCommit commit (only space file) old new
  pub room : new.spare ≡ less_if space number old.spare
  pub store : new.store ≡ old.store
