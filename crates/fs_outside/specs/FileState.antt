-- What the file of one slot means, and what each call does to it. A call that leaves the range of the file is free.
use Rattle.std.specs.Prelude.{◌≡◌, ℕ, ◌+◌, ◌-◌, ◌^◌, ◌≤◌, List, length, take, drop, None, IfSome}
use Rattle.std.specs.declared.option.Option.{Option}
use Rattle.std.specs.Option.{ForSome}
use Rattle.tsdb_base.specs.Causes.{Rose}
use Rattle.tsdb_outside.specs.Disk.{NothingNew, FollowsStep, Torn, WhereTold, overwrite}

pub record FileState : Type 1 where
  -- what a read of all of it gives, or none where it does not tell
  pub seen : Option (List ℕ)
  -- what a stop at this moment may leave of it
  pub may_leave : List ℕ → Type 0
  -- how often it has failed
  pub faults : ℕ

-- A file that tells nothing: a stop may leave anything, and its count of faults is at the end of its type.
abbrev pub silent_file : FileState
silent_file = record { seen = None; may_leave = λ _. Unit {0}; faults = 2 ^ 64 - 1 }

-- something failed in this call
abbrev pub FileFails : FileState → FileState → Type 0
FileFails old new = Rose old.faults new.faults

-- it has this many bytes
abbrev pub HasLength : ℕ → FileState → Type 0
HasLength n file = ForSome file.seen (λ bytes. n ≡ length bytes)

-- these are its bytes from that place on
abbrev pub HasBytes : ℕ → List ℕ → FileState → Type 0
HasBytes at into file =
    IfSome file.seen (λ bytes. at + length into ≤ length bytes → into ≡ take (length into) (drop at bytes))

-- what a call that writes nothing leaves as it was
pub record KeepsFile (old new : FileState) : Type 0 where
  pub seen : new.seen ≡ old.seen
  pub crash : NothingNew old.may_leave new.may_leave

-- it is written over
abbrev pub OverwritesFile : ℕ → List ℕ → FileState → FileState → Type 0
OverwritesFile at bytes old new =
    WhereTold (λ before after. at ≤ length before → after ≡ overwrite at bytes before) old.seen new.seen

-- what a write of n bytes may do, whether it succeeds or fails
pub record MayWriteFile (at n : ℕ) (old new : FileState) : Type 0 where
  pub torn : WhereTold (λ before after. at ≤ length before → Torn at n before after) old.seen new.seen
  pub crash : ForSome old.seen (λ bytes. at ≤ length bytes) → FollowsStep (Torn at n) old.may_leave new.may_leave

-- whatever a stop leaves is what reads gave
abbrev pub IsFileDurable : FileState → FileState → Type 0
IsFileDurable old new = IfSome old.seen (λ bytes. (left : List ℕ) → new.may_leave left → left ≡ bytes)
