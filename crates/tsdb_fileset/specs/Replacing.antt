-- Files of the lists that are replaced by one file, or by none.
use Rattle.std.specs.Prelude.{◌≡◌, ℕ, ◌+◌, ◌-◌, ◌<◌, ◌≤◌, Bool, List, [], ◌++◌, drop, length, map}
use Rattle.std.specs.Prelude.{Option, None, slice_range, take}
use Rattle.std.specs.Prelude.{vec_capacity, vec_len}
use Rattle.std.specs.declared.alloc.Global.{Global}
use Rattle.std.specs.declared.vec.Vec.{Vec}
use Rattle.tsdb_base.specs.declared.ids.Space.{Space}
use Rattle.tsdb_base.specs.declared.ids.Space.TheVariants.{Sequence, Unsequence}
use Rattle.tsdb_base.specs.declared.ids.Stamp.{Stamp}
use Rattle.tsdb_fileset.specs.Files.{KeptFiles}
use Rattle.tsdb_fileset.specs.declared.files.Outgoing.{Outgoing}
use Rattle.tsdb_fileset.specs.declared.room.Spare.{Spare}
use Rattle.tsdb_base.specs.Lists.{if_some}
use Rattle.tsdb_plan.specs.declared.entry.FileEntry.{FileEntry}
use Rattle.tsdb_plan.specs.declared.entry.Run.{Run}

-- the run lies in the list
pub record IsWithin (run : Run) (entries : List FileEntry) : Type 0 where
  pub rises : run.first ≤ run.end
  pub ends : run.end ≤ length entries

-- how many files the run has
abbrev pub run_length : Run → ℕ
run_length run = run.end - run.first

-- the file of the entry, as it goes out
abbrev pub leaving : FileEntry → Outgoing
leaving entry = record { number = entry.number; born = entry.born }

abbrev pub leaving_run : Run → List FileEntry → List Outgoing
leaving_run run entries = map leaving (slice_range entries run.first run.end)

-- the list with these in the place of the run
abbrev pub replace_run : Run → List FileEntry → List FileEntry → List FileEntry
replace_run run these entries = take run.first entries ++ (these ++ drop run.end entries)

-- the output of a job, or what is said of it, for the list of its space; the other list has none
abbrev pub output_in : {X : Type 0} → Space → Space → Option X → Option X
output_in Sequence Sequence output = output
output_in Sequence Unsequence output = None
output_in Unsequence Sequence output = None
output_in Unsequence Unsequence output = output

-- the stamps at which the points of files were frozen
abbrev pub entry_borns : List FileEntry → List ℕ
entry_borns entries = map (λ (entry : FileEntry). entry.born.0) entries

abbrev pub stamps_of : Option Stamp → List ℕ
stamps_of stamp = map (λ (s : Stamp). s.0) (if_some stamp)

-- The runs of both lists are on their way out, that of the sequence list first, and the output stands in the place of
-- the run of its space.
pub record HasReplaced (space : Space) (sequence unsequence : Run) (output : Option FileEntry) (old new : KeptFiles)
    : Type 0 where
  pub sequence_is : new.sequence ≡ replace_run sequence (if_some (output_in Sequence space output)) old.sequence
  pub unsequence_is : new.unsequence
      ≡ replace_run unsequence (if_some (output_in Unsequence space output)) old.unsequence
  pub outgoing_is : new.outgoing
      ≡ old.outgoing ++ (leaving_run sequence old.sequence ++ leaving_run unsequence old.unsequence)
  pub store_is : new.store ≡ old.store

-- a compaction needs a place for its output in the list of its space, and one for each input among the outgoing files
abbrev pub compaction_room : Space → ℕ → Spare
compaction_room Sequence inputs = record { sequence = 1; unsequence = 0; outgoing = inputs }
compaction_room Unsequence inputs = record { sequence = 0; unsequence = 1; outgoing = inputs }

-- the list of the space has a place for the output
abbrev pub HasListRoom : Space → Spare → Type 0
HasListRoom Sequence spare = 0 < spare.sequence
HasListRoom Unsequence spare = 0 < spare.unsequence

-- a job with so many inputs needs its places no more
abbrev pub less_compaction : Space → ℕ → Spare → Spare
less_compaction Sequence inputs spare =
    record spare { sequence = spare.sequence - 1; outgoing = spare.outgoing - inputs }
less_compaction Unsequence inputs spare =
    record spare { unsequence = spare.unsequence - 1; outgoing = spare.outgoing - inputs }

-- the late files of the run are claimed, or free again
abbrev pub with_claim : Bool → FileEntry → FileEntry
with_claim claimed entry = record entry { claimed = claimed }

abbrev pub claim_run : Run → Bool → List FileEntry → List FileEntry
claim_run run claimed entries =
    replace_run run (map (with_claim claimed) (slice_range entries run.first run.end)) entries

-- The files of the run of a list are claimed, or free again.
pub record HasClaims (run : Run) (claimed : Bool) (old new : Vec FileEntry Global) : Type 0 where
  pub items : new.items ≡ claim_run run claimed old.items
  pub len : vec_len new ≡ vec_len old
  pub capacity : vec_capacity new ≡ vec_capacity old

-- The run of a list was moved behind the outgoing files.
pub record IsTakenOut (run : Run) (old new : Vec FileEntry Global) (out out_new : Vec Outgoing Global) : Type 0 where
  pub items : new.items ≡ replace_run run [] old.items
  pub len : vec_len new + run_length run ≡ vec_len old
  pub capacity : vec_capacity old ≤ vec_capacity new
  pub out_items : out_new.items ≡ out.items ++ leaving_run run old.items
  pub out_len : vec_len out_new ≡ vec_len out + run_length run
  pub out_capacity : vec_capacity out ≤ vec_capacity out_new

-- The run of a list was moved behind the outgoing files, and the entry, if there is one, stands in its place.
pub record IsReplacedIn (run : Run) (entry : Option FileEntry) (old new : Vec FileEntry Global)
    (out out_new : Vec Outgoing Global) : Type 0 where
  pub items : new.items ≡ replace_run run (if_some entry) old.items
  pub len : vec_len new + run_length run ≡ vec_len old + length (if_some entry)
  pub capacity : vec_capacity old ≤ vec_capacity new
  pub out_items : out_new.items ≡ out.items ++ leaving_run run old.items
  pub out_len : vec_len out_new ≡ vec_len out + run_length run
  pub out_capacity : vec_capacity out ≤ vec_capacity out_new
