-- The core of a store whose files are taken up, and what of the log and the files is said together.
use Rattle.std.proofs.Common.{◌≡◌, ◌⊎◌, ℕ, List, [], ◌++◌, map, Option, None, Some, Result, Ok, Err, IfSome, inl, inr}
use Rattle.std.proofs.Common.{refl, sym, ap}
use Rattle.std.proofs.Common.{subst}
use Rattle.std.specs.Prelude.{IfErr, IfOk, IsErrAnd}
use Rattle.std.specs.List.{All, AllByRecursion as Each}
use Rattle.std.specs.Option.{IsSomeAnd}
use Rattle.tsdb_recover.proofs.AdoptedCore.{same_wanted}
use Rattle.tsdb_recover.specs.Adopting.{AreDescribed, IsAdoptingOf, adopting_files, opening_of}
use Rattle.tsdb_recover.specs.FileEntries.{known_of}
use Rattle.tsdb_recover.specs.declared.adopting.Adopting.{Adopting}
use Rattle.tsdb_base.specs.declared.ids.FileNumber.{FileNumber}
use Rattle.tsdb_core.specs.Core.{IsSeen, next_of}
use Rattle.tsdb_core.specs.declared.engine.Core.{Core}
use Rattle.tsdb_frames.specs.Frames.{IsLog}
use Rattle.tsdb_frames.specs.Log.{IsSettled}
use Rattle.tsdb_frames.specs.Slots.{HasRecords}
use Rattle.tsdb_frames.specs.declared.frames.Frames.{Frames}
use Rattle.tsdb_fileset.specs.Files.{AreKept}
use Rattle.tsdb_fileset.specs.StateOfFiles.{TellTheirBytes}
use Rattle.tsdb_state.specs.StoredEngine.{IsKeptWhole, kept_bytes}
use Rattle.tsdb_log.specs.Spelling.{IsRecord, spelling}
use Rattle.tsdb_log.specs.declared.record.LogRecord.{LogRecord}
use Rattle.tsdb_model.specs.State as plain
use Rattle.tsdb_redo.specs.Opening.{IsOpeningOf, next_number}
use Rattle.tsdb_redo.specs.declared.opening.Opening.{Opening}
use Rattle.tsdb_outside.specs.Disk.{Image, DiskState}
use Rattle.tsdb_outside.specs.Files.{StoredFile}
use Rattle.tsdb_outside.specs.declared.disk.Disk as disk
use Rattle.tsdb_outside.specs.declared.disk.Slot.TheVariants.{A}
use Rattle.tsdb_outside.specs.declared.faults.Counted as counted
use Rattle.tsdb_recover.specs.Causes.{AnswersDamage}
use Rattle.tsdb_recover.specs.declared.fault.OpenFault.{OpenFault}
use Rattle.tsdb_recover.specs.declared.fault.OpenFault.TheVariants as fault
use Rattle.tsdb_recover.specs.declared.fault.OpenRefused.{OpenRefused}
use Rattle.tsdb_recover.specs.declared.fault.Part.{Part}
use Rattle.tsdb_recover.specs.declared.fault.Part.TheVariants as parts
use Rattle.tsdb_recover.proofs.Greatest.{said_number}
use Rattle.tsdb_recover.proofs.Listed.{told_listed, whole_listed}
use Rattle.tsdb_recover.proofs.Once.{none_damaged, one_damage}
use Rattle.tsdb_recover.proofs.Trees.{all_trees}
use Rattle.tsdb_recover.specs.Damage.{AnswersDamageIn, IsDamagedFile, IsDamagedIn, IsFileDamaged, IsTreeFile}
use Rattle.tsdb_recover.specs.Strays.{AreLeft, IsStray, IsUnlisted, NoneMayGo}
use Rattle.tsdb_recover.specs.OpenedStore.{HasOpened, IsNextNumber, IsRecovered, IsReplay, listed_among}
use Rattle.tsdb_recover.specs.Taking.{HasTakenUp, HaveLengths}
use Rattle.tsdb_recover.specs.StoredFiles.{AreStored}
use Rattle.tsdb_state.proofs.ReplayLemmas.Parted as parted
use Rattle.tsdb_state.specs.Damage as log_damage
use Rattle.tsdb_state.specs.Replays.{IsReplayOf, Replays}
use Rattle.tsdb_state.specs.Stores.{IsSound, IsStateOf, IsStoreOf, Recorded, store_steps, store_steps_determinate}
use Rattle.tsdb_state.specs.NewStore.{opened}
use Rattle.tsdb_state.specs.State.{ToldContents}
use Rattle.tsdb_state.specs.StoreOrder.{StoreInOrder}

module _ {F S R P : Type 0} (old : Adopting F S R P) (opening : Opening)
    (begins : (items : List LogRecord) (recorded : Recorded) → IsOpeningOf opening recorded
    → Replays store_steps store_steps.new_store items recorded → IsAdoptingOf old recorded) where
  pub has_opened : {J : Type 0} {means : disk.Ghosts J} {counts : counted.Ghosts J} (new : Adopting F S R P)
      (core : Core J F S R P means counts) (log : Frames J means counts) (rest now : Option (List StoredFile))
      (last : Option FileNumber) → HasTakenUp old new rest now (Ok last) → AreKept (adopting_files new)
      → ((items : List LogRecord) (recorded : Recorded) (kept : List StoredFile) (told : ToldContents)
      → IsLog log (map spelling items) None → All IsRecord items
      → Replays store_steps store_steps.new_store items recorded → IsAdoptingOf new recorded
      → StoreInOrder told recorded.store
      → Each (IsKeptWhole kept told) (recorded.store.sequence ++ recorded.store.unsequence)
      → AreDescribed told (adopting_files new) → TellTheirBytes (adopting_files new) kept
      → IsSeen core (record { items = items; kept = kept; told = told; known = known_of (adopting_files new) })
      (opened (next_of core) recorded.store))
      → ((recorded : Recorded) → IsOpeningOf (opening_of new) recorded → next_of core ≡ next_number last recorded.named)
      → IfSome rest (λ stored. (items : List LogRecord) (recorded : Recorded) → IsReplay opening items recorded
      → AreStored stored → HasOpened core log stored now items recorded)
  has_opened new core log None now last takes are_kept seen next = tt
  has_opened new core log (Some stored) now last takes are_kept seen next = λ items recorded replay are.
      let adopting = begins items recorded replay.shown replay.replayed in
      let later = takes.goes_on.adopting recorded adopting in
      let all = takes.taken recorded adopting are in
      let listed = listed_among stored recorded.store in
      let wanted = same_wanted (adopting_files new) (opening_of new) takes.all.recorded recorded takes.all.is.opening
      later.opening takes.all.all in
      record {
        seen = λ told is_log good order whole. record {
          outside = record { items = items; kept = listed; told = told; known = known_of (adopting_files new) };
          kept = refl;
          told_is = refl;
          seen = seen items recorded listed told is_log good replay.replayed later order
              (whole_listed stored recorded.store told whole) (all.taken.described told order whole)
              (told_listed stored recorded.store (adopting_files new) are_kept later.first wanted all.taken.told);
        };
        next = said_number last stored recorded.named (next_of core) all.greatest (next recorded later.opening);
        none = all.none;
        whole = all_trees stored recorded.store (adopting_files new) later.first wanted all.taken.whole;
      }

  pub has_damage : (rest : Option (List StoredFile)) (answer : OpenFault)
      → ((part : Part) (at : ℕ) → answer ≡ fault.Damaged part at → IfSome rest (λ stored. (recorded : Recorded)
      → IsAdoptingOf old recorded → AreStored stored → IsFileDamaged (kept_bytes stored) recorded.store part at))
      → IfSome rest (λ stored. (items : List LogRecord) (recorded : Recorded) → IsReplay opening items recorded
      → AreStored stored → (part : Part) (at : ℕ) → answer ≡ fault.Damaged part at
      → IsFileDamaged (kept_bytes stored) recorded.store part at)
  has_damage None answer damaged = tt
  has_damage (Some stored) answer damaged = λ items recorded replay are part at is.
      damaged part at is recorded (begins items recorded replay.shown replay.replayed) are

-- ---- with what the log says

pub if_ok : {T E : Type 0} (result : Result T E) (P Q : T → Type 0) → ((x : T) → P x → Q x) → IfOk result P
    → IfOk result Q
if_ok (Ok value) P Q step holds = step value holds
if_ok (Err fault) P Q step holds = tt

pub if_err : {T E : Type 0} (result : Result T E) (P Q : E → Type 0) → ((e : E) → P e → Q e) → IfErr result P
    → IfErr result Q
if_err (Ok value) P Q step holds = tt
if_err (Err fault) P Q step holds = step fault holds

module _ (opening : Opening) (items : List LogRecord) (recorded : Recorded) (good : All IsRecord items)
    (replayed : Replays store_steps store_steps.new_store items recorded) (shown : IsOpeningOf opening recorded) where
  replay : IsReplay opening items recorded
  replay = record { shown = shown; replayed = replayed }

  replay_of : (image : Image) → HasRecords (map spelling items) image.a → IsReplayOf store_steps image.a recorded
  replay_of image records = record { items = items; good = good; records = records; replayed = replayed }

  same_replay : (image : Image) (other : Recorded) → HasRecords (map spelling items) image.a
      → IsReplayOf store_steps image.a other → other ≡ recorded
  same_replay image other records is =
      parted.replay_once store_steps store_steps_determinate image.a other recorded is (replay_of image records)

  module _ {J F S R P : Type 0} {means : disk.Ghosts J} {counts : counted.Ghosts J}
      (core : Core J F S R P means counts) (log : Frames J means counts) (now : Option (List StoredFile)) where
    -- what is known of the core once its files are taken up
    abbrev Opens : Option (List StoredFile) → Type 0
    Opens rest = IfSome rest (λ stored. (items : List LogRecord) (recorded : Recorded) → IsReplay opening items recorded
        → AreStored stored → HasOpened core log stored now items recorded)

    pub is_recovered : (state : DiskState) (rest : Option (List StoredFile)) (seen : Option Image) → state.seen ≡ seen
        → IfSome seen (λ image. HasRecords (map spelling items) image.a)
        → (IsSettled A state → IfSome seen (λ image. IsLog log (map spelling items) None)) → Opens rest
        → IfSome seen (λ image. IfSome rest (λ stored. AreStored stored → (at : plain.State)
        → IsSound A state (kept_bytes stored) at → IsRecovered core image.a stored at))
    is_recovered state rest None is records settled opens = tt
    is_recovered state None (Some image) is records settled opens = tt
    is_recovered state (Some stored) (Some image) is records settled opens = λ are at sound.
        let stands = sound.stands image is in
        let same = same_replay image stands.recorded records stands.replayed in
        let store = subst (λ (r : Recorded). IsStoreOf (kept_bytes stored) r.store at) same stands.store in
        let has = opens items recorded replay are in
        let shows = has.seen store.told (settled sound.settled) good store.order store.whole in
        record {
          recorded = recorded;
          replayed = replay_of image records;
          outside = shows.outside;
          kept = shows.kept;
          seen = shows.seen;
          stands = subst (λ told. IsStateOf told recorded.store at) (sym shows.told_is) store.stands;
        }

    pub is_next : (rest : Option (List StoredFile)) (seen : Option Image)
        → IfSome seen (λ image. HasRecords (map spelling items) image.a) → Opens rest
        → IfSome seen (λ image. IfSome rest (λ stored. AreStored stored → (recorded : Recorded)
        → IsReplayOf store_steps image.a recorded → IsNextNumber (next_of core) stored recorded.named))
    is_next rest None records opens = tt
    is_next None (Some image) records opens = tt
    is_next (Some stored) (Some image) records opens = λ are other is.
        subst (λ (r : Recorded). IsNextNumber (next_of core) stored r.named) (sym (same_replay image other records is))
        (opens items recorded replay are).next

    pub no_stray : (rest : Option (List StoredFile)) → Opens rest → IfSome rest (λ stored. AreStored stored
        → now ≡ Some [])
    no_stray None opens = tt
    no_stray (Some stored) opens = λ are. (opens items recorded replay are).none

  -- a file is damaged in a store whose log has a replay
  pub file_damage : (rest : Option (List StoredFile)) (seen : Option Image) (answer : OpenFault)
      → IfSome seen (λ image. HasRecords (map spelling items) image.a)
      → IfSome rest (λ stored. (items : List LogRecord) (recorded : Recorded) → IsReplay opening items recorded
      → AreStored stored → (part : Part) (at : ℕ) → answer ≡ fault.Damaged part at
      → IsFileDamaged (kept_bytes stored) recorded.store part at)
      → IfSome seen (λ image. IfSome rest (λ stored. AreStored stored → (part : Part) (at : ℕ)
      → answer ≡ fault.Damaged part at → IsDamagedIn (kept_bytes stored) image.a part at))
  file_damage rest None answer records damaged = tt
  file_damage None (Some image) answer records damaged = tt
  file_damage (Some stored) (Some image) answer records damaged = λ are part at is.
      by part at (damaged items recorded replay are part at is)
    where
      by : (part : Part) (at : ℕ) → IsFileDamaged (kept_bytes stored) recorded.store part at
          → IsDamagedIn (kept_bytes stored) image.a part at
      by parts.Log at is = absurd is
      by (parts.File number) at is = (recorded, replay_of image records, is)

  -- what is gone of a store whose log has a replay is listed nowhere
  pub strays_gone : (rest now : Option (List StoredFile)) (seen : Option Image)
      → IfSome seen (λ image. HasRecords (map spelling items) image.a)
      → IfSome rest (λ stored. (items : List LogRecord) (recorded : Recorded) → IsReplay opening items recorded
      → AreStored stored → IsSomeAnd now (AreLeft (IsUnlisted recorded.store) stored))
      → IfSome seen (λ image. IfSome rest (λ stored. AreStored stored
      → IsSomeAnd now (AreLeft (IsStray image.a) stored)))
  strays_gone rest now None records left = tt
  strays_gone None now (Some image) records left = tt
  strays_gone (Some stored) now (Some image) records left = λ are. by now (left items recorded replay are)
    where
      may_go : (files : List StoredFile) (n : ℕ) → (kept_bytes files n ≡ kept_bytes stored n)
          ⊎ ((kept_bytes files n ≡ None) × IsUnlisted recorded.store n)
          → (kept_bytes files n ≡ kept_bytes stored n) ⊎ ((kept_bytes files n ≡ None) × IsStray image.a n)
      may_go files n (inl same) = inl same
      may_go files n (inr gone) = inr (gone.0, (recorded, replay_of image records, gone.1))

      by : (now : Option (List StoredFile)) → IsSomeAnd now (AreLeft (IsUnlisted recorded.store) stored)
          → IsSomeAnd now (AreLeft (IsStray image.a) stored)
      by None is = absurd is
      by (Some files) is = record { are_stored = is.are_stored; each = λ n. may_go files n (is.each n) }

  -- a store in which something is damaged has each of its files
  pub damage_keeps : (rest now : Option (List StoredFile)) (answer : OpenFault)
      → IfSome rest (λ stored. (items : List LogRecord) (recorded : Recorded) → IsReplay opening items recorded
      → AreStored stored → (part : Part) (at : ℕ) → answer ≡ fault.Damaged part at
      → IsSomeAnd now (AreLeft NoneMayGo stored))
      → IfSome rest (λ stored. AreStored stored → (part : Part) (at : ℕ) → answer ≡ fault.Damaged part at
      → IsSomeAnd now (AreLeft NoneMayGo stored))
  damage_keeps None now answer kept = tt
  damage_keeps (Some stored) now answer kept = λ are part at is. kept items recorded replay are part at is

pub none_lost : (rest : Option (List StoredFile)) (answer : OpenFault) → IfSome rest (λ stored. AreStored stored
    → (part : Part) (at : ℕ) → answer ≡ fault.Damaged part at → IsSomeAnd rest (AreLeft NoneMayGo stored))
none_lost None answer = tt
none_lost (Some stored) answer = λ are part at is. record { are_stored = are; each = λ n. inl refl }

-- where the log is refused no file goes
pub none_gone : (rest : Option (List StoredFile)) (seen : Option Image)
    → IfSome seen (λ image. IfSome rest (λ stored. AreStored stored → IsSomeAnd rest (AreLeft (IsStray image.a) stored)))
none_gone rest None = tt
none_gone None (Some image) = tt
none_gone (Some stored) (Some image) = λ are. record { are_stored = are; each = λ n. inl refl }

-- ---- each damage is answered

module _ (opening : Opening) (items : List LogRecord) (recorded : Recorded) (good : All IsRecord items)
    (replayed : Replays store_steps store_steps.new_store items recorded) (shown : IsOpeningOf opening recorded) where
  -- where the log has a replay, the damage is one of the files of its state
  damage_of : (image : Image) (stored : List StoredFile) (part : Part) (at : ℕ)
      → HasRecords (map spelling items) image.a
      → IsDamagedIn (kept_bytes stored) image.a part at → IsFileDamaged (kept_bytes stored) recorded.store part at
  damage_of image stored parts.Log at records damaged =
      parted.damaged_none store_steps store_steps_determinate at image.a recorded damaged
      (replay_of opening items recorded good replayed shown image records)
  damage_of image stored (parts.File number) at records damaged =
      subst (λ (r : Recorded). IsDamagedFile (kept_bytes stored) r.store number.0 at)
      (same_replay opening items recorded good replayed shown image damaged.0 records damaged.1) damaged.2

  one_answer : (stored : List StoredFile) (part : Part) (at : ℕ) (answer : OpenFault) → HaveLengths stored
      → IsFileDamaged (kept_bytes stored) recorded.store part at
      → ((part : Part) (at : ℕ) → answer ≡ fault.Damaged part at
      → IsFileDamaged (kept_bytes stored) recorded.store part at) → AnswersDamageIn part at answer
  one_answer stored part at fault.Failed are damaged says = tt
  one_answer stored part at fault.Memory are damaged says = tt
  one_answer stored parts.Log at (fault.Damaged other place) are damaged says = absurd damaged
  one_answer stored (parts.File number) at (fault.Damaged parts.Log place) are damaged says =
      absurd (says parts.Log place refl)
  one_answer stored (parts.File number) at (fault.Damaged (parts.File other) place) are damaged says =
      let same = one_damage stored recorded.store other.0 place number.0 at are (says
      (parts.File other) place refl) damaged in
      let made : ℕ → FileNumber = λ n. record { 0 = n } in
      let numbers : made other.0 ≡ made number.0 = ap made same.0 in
      (ap (λ n. parts.File n) numbers, same.1)

  module _ {J F S R P : Type 0} {means : disk.Ghosts J} {counts : counted.Ghosts J} (log : Frames J means counts)
      (now : Option (List StoredFile)) where
    pub each_answered : (result : Result (Core J F S R P means counts) (OpenRefused J)) (rest : Option
        (List StoredFile))
        (seen : Option Image) → IfSome seen (λ image. HasRecords (map spelling items) image.a)
        → IfOk result (λ core. IfSome rest (λ stored. (items : List LogRecord) (recorded : Recorded)
        → IsReplay opening items recorded → AreStored stored → HasOpened core log stored now items recorded))
        → IfErr result (λ refused. IfSome rest (λ stored. (items : List LogRecord) (recorded : Recorded)
        → IsReplay opening items recorded → AreStored stored → (part : Part) (at : ℕ)
        → refused.fault ≡ fault.Damaged part at → IsFileDamaged (kept_bytes stored) recorded.store part at))
        → IfSome seen (λ image. IfSome rest (λ stored. AreStored stored → (part : Part) (at : ℕ) → HaveLengths stored
        → IsDamagedIn (kept_bytes stored) image.a part at
        → IsErrAnd result (λ refused. AnswersDamageIn part at refused.fault)))
    each_answered result rest None records opens damages = tt
    each_answered result None (Some image) records opens damages = tt
    each_answered (Ok core) (Some stored) (Some image) records opens damages = λ are part at lengths damaged.
        none part at (damage_of image stored part at records damaged) (opens items recorded here are).whole
      where
        here : IsReplay opening items recorded
        here = record { shown = shown; replayed = replayed }

        none : (part : Part) (at : ℕ) → IsFileDamaged (kept_bytes stored) recorded.store part at
            → Each (IsTreeFile (kept_bytes stored)) (recorded.store.sequence ++ recorded.store.unsequence) → ⊥
        none parts.Log at damaged all = damaged
        none (parts.File number) at damaged all =
            none_damaged (kept_bytes stored) recorded.store number.0 at all damaged
    each_answered (Err refused) (Some stored) (Some image) records opens damages = λ are part at lengths damaged.
        one_answer stored part at refused.fault lengths (damage_of image stored part at records damaged)
        (damages items recorded (record { shown = shown; replayed = replayed }) are)

-- where the log is refused
pub log_answered : (rest : Option (List StoredFile)) (seen : Option Image) (answer : OpenFault)
    → IfSome seen (λ image. (part : Part) (at : ℕ) → answer ≡ fault.Damaged part at
    → (part ≡ parts.Log) × log_damage.IsDamaged store_steps at image.a)
    → IfSome seen (λ image. (at : ℕ) → log_damage.IsDamaged store_steps at image.a → AnswersDamage at answer)
    → IfSome seen (λ image. IfSome rest (λ stored. AreStored stored → (part : Part) (at : ℕ) → HaveLengths stored
    → IsDamagedIn (kept_bytes stored) image.a part at → AnswersDamageIn part at answer))
log_answered rest None answer damaged each = tt
log_answered None (Some image) answer damaged each = tt
log_answered (Some stored) (Some image) fault.Failed damaged each = λ are part at lengths is. tt
log_answered (Some stored) (Some image) fault.Memory damaged each = λ are part at lengths is. tt
log_answered (Some stored) (Some image) (fault.Damaged other place) damaged each = λ are part at lengths is. by part at is
  where
    by : (part : Part) (at : ℕ) → IsDamagedIn (kept_bytes stored) image.a part at
        → AnswersDamageIn part at (fault.Damaged other place)
    by parts.Log at is = each at is
    by (parts.File number) at is =
        absurd (parted.damaged_none store_steps store_steps_determinate place image.a is.0
        (damaged other place refl).1 is.1)
