-- What calls make of a `Vec`: more room, or one more element.
use Rattle.std.specs.Prelude.{◌≡◌, ◌+◌, ◌<◌, ◌≤◌, [], ◌∷◌, ◌++◌, vec_capacity, vec_len}
use Rattle.std.specs.declared.alloc.Global.{Global}
use Rattle.std.specs.declared.vec.Vec.{Vec}
use Rattle.tsdb_base.specs.declared.ids.Space.{Space}
use Rattle.tsdb_base.specs.declared.ids.Space.TheVariants.{Sequence, Unsequence}
use Rattle.tsdb_fileset.specs.declared.files.Outgoing.{Outgoing}
use Rattle.tsdb_fileset.specs.declared.room.Spare.{Spare}
use Rattle.tsdb_plan.specs.declared.entry.FileEntry.{FileEntry}

-- the same elements, with no less room
pub record IsRoomier {T : Type 0} (old new : Vec T Global) : Type 0 where
  pub items : new.items ≡ old.items
  pub len : vec_len new ≡ vec_len old
  pub capacity : vec_capacity old ≤ vec_capacity new

-- one element more, at the end
pub record HasOneMore {T : Type 0} (last : T) (old new : Vec T Global) : Type 0 where
  pub items : new.items ≡ old.items ++ last ∷ []
  pub len : vec_len new ≡ vec_len old + 1
  pub capacity : vec_capacity old ≤ vec_capacity new

-- each list has room for what is promised
pub record HasRoomLeft (spare : Spare) (sequence unsequence : Vec FileEntry Global) (outgoing : Vec Outgoing Global)
    : Type 0 where
  pub sequence_room : vec_len sequence + spare.sequence ≤ vec_capacity sequence
  pub unsequence_room : vec_len unsequence + spare.unsequence ≤ vec_capacity unsequence
  pub outgoing_room : vec_len outgoing + spare.outgoing ≤ vec_capacity outgoing

-- the list of the space has room for one more
abbrev pub HasPlaceIn : Space → Vec FileEntry Global → Vec FileEntry Global → Type 0
HasPlaceIn Sequence sequence unsequence = vec_len sequence < vec_capacity sequence
HasPlaceIn Unsequence sequence unsequence = vec_len unsequence < vec_capacity unsequence

-- the list of the space has one entry more, and the other list stays
abbrev pub AppendsTo : Space → FileEntry → (old new old_unsequence new_unsequence : Vec FileEntry Global) → Type 0
AppendsTo Sequence entry old new old_unsequence new_unsequence =
    HasOneMore entry old new × IsRoomier old_unsequence new_unsequence
AppendsTo Unsequence entry old new old_unsequence new_unsequence =
    IsRoomier old new × HasOneMore entry old_unsequence new_unsequence
