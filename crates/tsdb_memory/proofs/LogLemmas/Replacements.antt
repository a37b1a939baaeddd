-- The commit of a compaction: what its append makes of a sound state.
use Rattle.std.proofs.Common.{◌≡◌, ◌⊎◌, inl, inr, ℕ, ◌+◌, ◌*◌, ◌<◌, ◌≤◌, List, [], ◌∷◌, ◌++◌, length, Option, Some}
use Rattle.std.proofs.Common.{None}
use Rattle.std.proofs.Common.{Result, Ok, Err, ap, arith, refl, sym, subst}
use Rattle.std.proofs.lemmas.List.{length-append}
use Rattle.std.specs.List.{flat_map}
use Rattle.tsdb_base.specs.Fields.{number32, number64}
use Rattle.tsdb_base.specs.declared.ids.FileNumber.{FileNumber}
use Rattle.tsdb_base.specs.declared.ids.Space.{Space}
use Rattle.tsdb_base.specs.declared.ids.Space.TheVariants.{Sequence, Unsequence}
use Rattle.tsdb_base.specs.declared.ids.Stamp.{Stamp}
use Rattle.tsdb_frames.specs.Frames.{disk_of, slot_of}
use Rattle.tsdb_frames.specs.Slots.{frame_bytes}
use Rattle.tsdb_state.proofs.ImageLemmas.Leaving.{append_moments}
use Rattle.tsdb_state.proofs.ImageLemmas.Storing.{commit_failed, commit_stored, end_stored, settled_stored}
use Rattle.tsdb_base.specs.Lists.{count}
use Rattle.tsdb_log.proofs.Wholes.{replaced_spelling}
use Rattle.tsdb_log.specs.RowLaws.{bytes_length}
use Rattle.tsdb_log.specs.Spelling.{FitsFrame, HasFewParts, IsRecord, joined_fields, file_fields, files_fields}
use Rattle.tsdb_log.specs.Spelling.{output_fields}
use Rattle.tsdb_log.specs.Spelling.{space_field, spelling}
use Rattle.tsdb_log.specs.declared.record.LogRecord.{LogRecord}
use Rattle.tsdb_log.specs.declared.record.LogRecord.TheVariants.{Create, Delete, Flushed, Freeze, Insert, Replaced}
use Rattle.tsdb_log.specs.declared.record.LogRecord.TheVariants.{Snapshot}
use Rattle.tsdb_memory.specs.Appends.{IsAppended}
use Rattle.tsdb_memory.specs.LogState.{HasLog, IsFaulted, IsSoundLogged, IsStoredIn, LeavesStates, Outside, log_of, memory_of}
use Rattle.tsdb_memory.specs.LogState.{with_record}
use Rattle.tsdb_memory.specs.Replacing.{CanCommitReplacement, IsReplacement, replacement_bytes}
use Rattle.tsdb_memory.specs.declared.logged_memory.LoggedMemory.{LoggedMemory}
use Rattle.tsdb_memory.specs.Least.{IsLeastOf}
use Rattle.tsdb_memory.specs.StateOfMemory.{IsMemoryOf, file_borns}
use Rattle.tsdb_outside.specs.declared.disk.Disk as disk
use Rattle.tsdb_outside.specs.declared.faults.Counted as counted
use Rattle.tsdb_outside.specs.declared.faults.Failed.{Failed}
use Rattle.tsdb_state.specs.Records.{Replacement, number_list, numbers_of, replaced}
use Rattle.tsdb_state.specs.State.{Compaction, EngineState, File, StoreState}
use Rattle.tsdb_state.specs.Steps.{committed, compaction_record, ended, failed, file_numbers, output_number}

-- ---- how many bytes the record has

space_length : (s : Space) → length (space_field s) ≡ 1
space_length Sequence = omega arith
space_length Unsequence = omega arith

fields_length : (s : List ℕ) (more : List (List ℕ)) → length (joined_fields (s ∷ more)) ≡ length s + length (joined_fields more)
fields_length s more = length-append s (joined_fields more)

eight_more : (n : ℕ) → 8 * (1 + n) ≡ 8 + 8 * n
eight_more n = omega arith

rows_length : (files : List FileNumber) → length (joined_fields (flat_map file_fields files)) ≡ 8 * length files
rows_length [] = omega arith
rows_length (file ∷ files) = omega (
  arith,
  rows_length files,
  bytes_length (file_fields file) (flat_map file_fields files),
  fields_length (number64 file.0) [],
  eight_more (length files),
)

files_length : (files : List FileNumber) → length (joined_fields (files_fields files)) ≡ 4 + 8 * length files
files_length files = omega (
  arith,
  rows_length files,
  fields_length (number32 (length files)) (flat_map file_fields files),
)

record_length : (born : Stamp) (space : Space) (place : ℕ) (output : FileNumber) (sequence unsequence : List FileNumber)
    → length (frame_bytes (spelling (Replaced born space place output sequence unsequence)))
    ≡ replacement_bytes (length sequence + length unsequence)
record_length born space place output sequence unsequence =
    let item = Replaced born space place output sequence unsequence in
    let rest = space_field space ∷ number64 place ∷ number64 output.0 ∷ [] in
    omega (
      arith,
      length-append (number32 (length (spelling item)) ++ spelling item) (0 ∷ []),
      length-append (number32 (length (spelling item))) (spelling item),
      ap length (replaced_spelling born space place output sequence unsequence),
      length-append (joined_fields (output_fields born space place output))
          (joined_fields (files_fields sequence) ++ joined_fields (files_fields unsequence)),
      length-append (joined_fields (files_fields sequence)) (joined_fields (files_fields unsequence)),
      fields_length (number64 born.0) rest,
      fields_length (space_field space) (number64 place ∷ number64 output.0 ∷ []),
      fields_length (number64 place) (number64 output.0 ∷ []),
      fields_length (number64 output.0) [],
      space_length space,
      files_length sequence,
      files_length unsequence,
    )

pub few_parts : (room : ℕ) (item : LogRecord) → IsReplacement room item → HasFewParts item
few_parts room (Create path data_type encoding) is = absurd is
few_parts room (Insert time cells) is = absurd is
few_parts room (Delete path range) is = absurd is
few_parts room Freeze is = absurd is
few_parts room (Flushed sequence unsequence) is = absurd is
few_parts room (Replaced born space place output sequence unsequence) is =
    (omega (arith, is.0), omega (arith, is.1))
few_parts room (Snapshot snapshot) is = absurd is

pub fits_frame : (room : ℕ) (item : LogRecord) → IsReplacement room item → FitsFrame item
fits_frame room (Create path data_type encoding) is = absurd is
fits_frame room (Insert time cells) is = absurd is
fits_frame room (Delete path range) is = absurd is
fits_frame room Freeze is = absurd is
fits_frame room (Flushed sequence unsequence) is = absurd is
fits_frame room (Replaced born space place output sequence unsequence) is = (is.0, is.1)
fits_frame room (Snapshot snapshot) is = absurd is

pub has_room : (room : ℕ) (item : LogRecord) → IsReplacement room item
    → room < length (frame_bytes (spelling item)) → ⊥
has_room room (Create path data_type encoding) is less = absurd is
has_room room (Insert time cells) is less = absurd is
has_room room (Delete path range) is less = absurd is
has_room room Freeze is less = absurd is
has_room room (Flushed sequence unsequence) is less = absurd is
has_room room (Replaced born space place output sequence unsequence) is less =
    omega (arith, is.2, less, record_length born space place output sequence unsequence)
has_room room (Snapshot snapshot) is less = absurd is

-- ---- the step

module _ {J : Type 0} {means : disk.Ghosts J} {counts : counted.Ghosts J} (old new : LoggedMemory J means counts)
    (item : LogRecord) (listed : Option Stamp) (good : IsRecord item)
    (outside : Outside) (state : EngineState) (job : Compaction) (others : List Compaction) (output : List File)
    (place : ℕ) (sound : IsSoundLogged old outside state)
    (can : CanCommitReplacement item listed outside state job others output place) where
  -- the output is on its way out
  abbrev gone : EngineState
  gone = ended job others output state

  is_good : IsRecord (compaction_record job output place)
  is_good = subst IsRecord (sym can.is_record) good

  -- what the record says
  abbrev shown_as : Replacement
  shown_as = record {
    born = job.born;
    space = job.space;
    place = place;
    output = output_number output;
    sequence = number_list (file_numbers job.sequence);
    unsequence = number_list (file_numbers job.unsequence);
  }

  doubted : IsStoredIn outside (failed item gone)
  doubted = subst (λ (i : LogRecord). IsStoredIn outside (failed i gone)) can.is_record
      (commit_failed outside.items outside.kept outside.told outside.known state sound.stored job others output place
      can.commits is_good can.kept)

  pub replaced_moments : (outcome : Result (Unit {0}) Failed) → IsAppended old new item outcome
      → LeavesStates old new outside state item
  replaced_moments outcome append at after_it next stands leads leads_after =
      append_moments outside.items outside.kept outside.told outside.known state gone item at after_it
      next (slot_of (log_of old)) (disk_of (log_of old)) (disk_of (log_of new)) sound.stored doubted refl stands leads
      leads_after (append.moments outside.items state.doubt sound.log)

  pub replaced_done : IsAppended old new item (Ok tt)
      → ((shown : StoreState) (item : Replacement) → IsMemoryOf (memory_of old) shown
      → IsLeastOf listed (file_borns (replaced item shown)) → IsMemoryOf (memory_of new) (replaced item shown))
      → IsSoundLogged new (with_record item outside) (committed job others output place state)
  replaced_done append effect = record {
    memory = effect state.store shown_as sound.memory can.least;
    log = append.added outside.items state.doubt sound.log;
    stored = subst (λ (i : LogRecord). IsStoredIn (with_record i outside) (committed job others output place state))
        can.is_record
        (commit_stored outside.items outside.kept outside.told outside.known state sound.stored job others output place
        can.commits is_good can.kept);
  }

  pub replaced_faulted : (fault : Failed) → IsAppended old new item (Err fault)
      → memory_of new ≡ memory_of old → IsFaulted new outside gone item
  replaced_faulted fault append same =
      by (append.failed outside.items state.doubt sound.log)
    where
      as_before : IsMemoryOf (memory_of new) state.store
      as_before = subst (λ store. IsMemoryOf store state.store) (sym same) sound.memory

      few : (output : List File) → (output ≡ []) ⊎ ((output ≡ record { number = job.output; born = job.born } ∷ []))
          → (n : ℕ) → count n (numbers_of output) ≤ count n (job.output ∷ [])
      few output (inl none) n = subst (λ (files : List File). count n (numbers_of files) ≤ count n (job.output ∷ []))
          (sym none) (omega arith)
      few output (inr one) n = subst (λ (files : List File). count n (numbers_of files) ≤ count n (job.output ∷ []))
          (sym one) (omega arith)

      first_of : (output : List File) {Q : Type 0}
          → (output ≡ []) ⊎ ((output ≡ record { number = job.output; born = job.born } ∷ []) × Q)
          → (output ≡ []) ⊎ ((output ≡ record { number = job.output; born = job.born } ∷ []))
      first_of output (inl none) = inl none
      first_of output (inr one) = inr one.0

      ended_stored : IsStoredIn outside gone
      ended_stored = end_stored outside.items outside.kept outside.told outside.known state sound.stored job others
          output (record { out = can.commits.out; files = few output (first_of output can.commits.file) }) can.kept

      by : HasLog new outside.items None ⊎ (HasLog new outside.items state.doubt ⊎ HasLog new outside.items (Some item))
          → IsFaulted new outside gone item
      by (inl none) = inl (record {
        memory = as_before;
        log = none;
        stored = settled_stored outside.items outside.kept outside.told outside.known gone ended_stored;
      })
      by (inr (inl same_doubt)) = inr (inl (record { memory = as_before; log = same_doubt; stored = ended_stored }))
      by (inr (inr this)) = inr (inr (record { memory = as_before; log = this; stored = doubted }))
