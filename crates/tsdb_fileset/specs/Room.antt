-- Places promised to jobs that are out.
use Rattle.std.specs.Prelude.{◌+◌, ◌-◌, ◌<◌, length, Option}
use Rattle.tsdb_base.specs.declared.ids.FileNumber.{FileNumber}
use Rattle.tsdb_base.specs.declared.ids.Space.{Space}
use Rattle.tsdb_base.specs.declared.ids.Space.TheVariants.{Sequence, Unsequence}
use Rattle.tsdb_fileset.specs.declared.room.Spare.{Spare}
use Rattle.tsdb_base.specs.Lists.{if_some}

-- no place
abbrev pub no_room : Spare
no_room = record { sequence = 0; unsequence = 0; outgoing = 0 }

-- both together
abbrev pub more_room : Spare → Spare → Spare
more_room spare room = record {
  sequence = spare.sequence + room.sequence;
  unsequence = spare.unsequence + room.unsequence;
  outgoing = spare.outgoing + room.outgoing;
}

-- a file of a flush takes a place in its list, or one among the outgoing files
abbrev pub flush_room : Option FileNumber → Option FileNumber → Spare
flush_room sequence unsequence = record {
  sequence = length (if_some sequence);
  unsequence = length (if_some unsequence);
  outgoing = length (if_some sequence) + length (if_some unsequence);
}

-- there is a place for a file of the space, in its list and among the outgoing files
abbrev pub HasRoom : Space → Spare → Type 0
HasRoom Sequence spare = (0 < spare.sequence) × (0 < spare.outgoing)
HasRoom Unsequence spare = (0 < spare.unsequence) × (0 < spare.outgoing)

-- a job with a file of the space has ended, and needs its places no more
abbrev pub less_room : Space → Spare → Spare
less_room Sequence spare = record spare { sequence = spare.sequence - 1; outgoing = spare.outgoing - 1 }
less_room Unsequence spare = record spare { unsequence = spare.unsequence - 1; outgoing = spare.outgoing - 1 }
