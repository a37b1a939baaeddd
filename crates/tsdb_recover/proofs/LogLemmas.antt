-- What is found of a log: the state that its records lead to, or the place where it is damaged.
use Rattle.std.proofs.Common.{◌≡◌, inl, inr, ℕ, ◌≤◌, List, [], ◌∷◌, ◌++◌, length, map, Option}
use Rattle.std.proofs.Common.{None, Some, refl, sym, ◌∙◌, ap, subst, append_assoc, arith}
use Rattle.std.specs.Prelude.{IfSome}
use Rattle.std.specs.List.{All}
use Rattle.std.proofs.lemmas.List.{map-append}
use Rattle.std.proofs.lemmas.List.Elements.{All-append, All-cons, All-nil, All-head, All-tail}
use Rattle.tsdb_outside.specs.Disk.{Image}
use Rattle.tsdb_outside.specs.declared.disk.Disk as disk
use Rattle.tsdb_outside.specs.declared.disk.Slot.TheVariants.{A}
use Rattle.tsdb_outside.specs.declared.faults.Counted as counted
use Rattle.tsdb_frames.specs.Readers.{IsReading, IsTornPart, IsTornReading, gate_of, begun_of}
use Rattle.tsdb_frames.specs.Steps.{HasFrames}
use Rattle.tsdb_frames.specs.Slots.{ArePlaced, HasRecordsThenGate, HasRecords, IsPayload, IsTornBehind, open_records, payloads_of}
use Rattle.tsdb_frames.specs.Slots.{with_length}
use Rattle.tsdb_frames.specs.declared.fault.ScanFault.{ScanFault}
use Rattle.tsdb_frames.specs.declared.fault.ScanFault.TheVariants as scan
use Rattle.tsdb_frames.specs.declared.reader.FrameReader.{FrameReader}
use Rattle.tsdb_frames.specs.declared.record.Frame.{Frame}
use Rattle.tsdb_frames.proofs.PartLemmas.{HasPart, part_begun, with_payload}
use Rattle.tsdb_frames.proofs.ReaderLemmas.{goes_on}
use Rattle.tsdb_frames.proofs.RecordLemmas.{open_records_more}
use Rattle.tsdb_log.specs.Places.{BeginNoRecord}
use Rattle.tsdb_log.specs.Spelling.{IsRecord, spelling}
use Rattle.tsdb_log.specs.declared.record.LogRecord.{LogRecord}
use Rattle.tsdb_log.specs.declared.record.LogRecord.TheVariants.{Freeze}
use Rattle.tsdb_redo.specs.Opening.{IsOpeningOf}
use Rattle.tsdb_redo.specs.declared.opening.Opening.{Opening}
use Rattle.tsdb_recover.specs.Causes.{AnswersDamage}
use Rattle.tsdb_recover.specs.Replaying.{AreReplayedTo, IsFrameRedone, IsFrameRefused, IsPartRefused, IsReadFrom, IsReplaying, of_scan}
use Rattle.tsdb_recover.specs.declared.fault.OpenFault.{OpenFault}
use Rattle.tsdb_recover.specs.declared.fault.OpenFault.TheVariants.{Failed, Damaged, Memory}
use Rattle.tsdb_recover.specs.declared.fault.Part.{Part}
use Rattle.tsdb_recover.specs.declared.fault.Part.TheVariants.{Log}
use Rattle.tsdb_state.specs.Damage.{IsDamaged}
use Rattle.tsdb_state.specs.Stores.{Recorded, store_steps, store_steps_determinate}
use Rattle.tsdb_state.proofs.ReplayLemmas.Doubts.{replays_more}
use Rattle.tsdb_state.proofs.ReplayLemmas.Parted as parted

-- one record more
one_replayed : (frames : List Frame) (frame : Frame) (item : LogRecord) (old new : Recorded)
    → AreReplayedTo frames old → IsRecord item → frame.payload ≡ spelling item
    → store_steps.Leads item old new → AreReplayedTo (frames ++ frame ∷ []) new
one_replayed frames frame item old new so_far good bytes leads = record {
  items = so_far.items ++ (item ∷ []);
  good = All-append IsRecord so_far.items (item ∷ []) so_far.good (All-cons IsRecord item [] good (All-nil IsRecord));
  payloads = map-append (λ (f : Frame). f.payload) frames (frame ∷ [])
      ∙ ap (λ l. l ++ (frame.payload ∷ [])) so_far.payloads
      ∙ ap (λ p. map spelling so_far.items ++ (p ∷ [])) bytes ∙ sym (map-append spelling so_far.items (item ∷ []));
  replayed = replays_more store_steps so_far.items item store_steps.new_store old new so_far.replayed leads;
}

-- no frame yet
pub none_read : (opening : Opening) → IsOpeningOf opening store_steps.new_store → IsReadFrom [] opening
none_read opening is = record {
  recorded = store_steps.new_store;
  replayed = record { items = []; good = All-nil IsRecord; payloads = refl; replayed = refl };
  shown = is;
}

-- one frame more
pub one_read : (frames : List Frame) (frame : Frame) (old new : Opening) → IsReadFrom frames old
    → IsFrameRedone old new frame → IsReadFrom (frames ++ frame ∷ []) new
one_read frames frame old new so_far redone =
    let next = redone.redone so_far.recorded so_far.shown in
    record {
      recorded = next.0;
      replayed = one_replayed frames frame redone.item so_far.recorded next.0 so_far.replayed redone.good redone.bytes next.1;
      shown = next.2;
    }

first_all : (P : List ℕ → Type 0) (xs ys : List (List ℕ)) → All P (xs ++ ys) → All P xs
first_all P [] ys all = All-nil P
first_all P (x ∷ xs) ys all = All-cons P x xs (All-head P x (xs ++ ys) all) (first_all P xs ys (All-tail P x (xs ++ ys) all))

here_all : (P : List ℕ → Type 0) (xs : List (List ℕ)) (y : List ℕ) (ys : List (List ℕ)) → All P (xs ++ y ∷ ys) → P y
here_all P [] y ys all = All-head P y ys all
here_all P (x ∷ xs) y ys all = here_all P xs y ys (All-tail P x (xs ++ y ∷ ys) all)

-- a log in which a frame behind others has no replay is damaged there
refused_damaged : (frames : List Frame) (frame : Frame) (opening : Opening) (bytes : List ℕ) → ArePlaced (frames ++ frame ∷ [])
    → HasRecordsThenGate (payloads_of (frames ++ frame ∷ [])) bytes → IsReadFrom frames opening → IsFrameRefused opening frame
    → IsDamaged store_steps frame.at bytes
refused_damaged frames frame opening bytes placed goes read none =
    let before = payloads_of frames in
    let payload = frame.payload in
    let payloads : payloads_of (frames ++ frame ∷ []) ≡ before ++ payload ∷ [] = map-append (λ (f : Frame). f.payload) frames (frame ∷ []) in
    let fits : All IsPayload (before ++ payload ∷ []) = subst (All IsPayload) payloads goes.fit in
    let whole : bytes ≡ open_records before ++ (1 ∷ (with_length payload ++ goes.rest)) =
    goes.split ∙ ap (λ l. open_records l ++ goes.rest) payloads
    ∙ ap (λ l. l ++ goes.rest) (open_records_more before payload)
    ∙ append_assoc (open_records before) (1 ∷ with_length payload) goes.rest in
    let same = read.replayed.payloads in
    inl (record {
      items = read.replayed.items;
      state = read.recorded;
      rest = 1 ∷ (with_length payload ++ goes.rest);
      good = read.replayed.good;
      fit = subst (All IsPayload) same (first_all IsPayload before (payload ∷ []) fits);
      replayed = read.replayed.replayed;
      split = whole ∙ ap (λ l. open_records l ++ (1 ∷ (with_length payload ++ goes.rest))) same;
      place = placed frames [] frame refl ∙ ap (λ l. length (open_records l)) same;
      broken = inr (record {
        behind = with_length payload ++ goes.rest;
        payload = payload;
        after = goes.rest;
        gate = refl;
        whole = record { fits = here_all IsPayload before payload [] fits; split = refl; gate = goes.gate };
        none = λ item good bytes. none item good bytes read.recorded read.shown;
      });
    })

-- so is one that is torn behind frames that are replayed
torn_behind_damaged : (frames : List Frame) (at : ℕ) (opening : Opening) (bytes : List ℕ) → IsTornBehind (payloads_of frames) at bytes
    → IsReadFrom frames opening → IsDamaged store_steps at bytes
torn_behind_damaged frames at opening bytes (inl torn) read =
    let same : torn.0.payloads ≡ map spelling read.replayed.items = torn.1 ∙ read.replayed.payloads in
    inl (record {
      items = read.replayed.items;
      state = read.recorded;
      rest = 1 ∷ torn.0.behind;
      good = read.replayed.good;
      fit = subst (All IsPayload) same torn.0.fit;
      replayed = read.replayed.replayed;
      split = torn.0.split ∙ ap (λ l. open_records l ++ (1 ∷ torn.0.behind)) same;
      place = torn.0.place ∙ ap (λ l. length (open_records l)) same;
      broken = inl (record { behind = torn.0.behind; gate = refl; broken = torn.0.broken });
    })
torn_behind_damaged frames at opening bytes (inr empty) read = inr (empty.1, empty.2)

-- bytes with which no record begins are some
some_bytes : (part : List ℕ) → BeginNoRecord part → 1 ≤ length part
some_bytes [] none = absurd (none Freeze (spelling Freeze) tt refl)
some_bytes (byte ∷ part) none = omega arith

-- so is one that goes on with a record of which no record has the first bytes
part_damaged : (frames : List Frame) (at : ℕ) (opening : Opening) (part bytes : List ℕ) → HasFrames frames at
    → HasPart (payloads_of frames) part bytes → BeginNoRecord part → IsReadFrom frames opening → IsDamaged store_steps at bytes
part_damaged frames at opening part bytes has begun none read =
    let same = read.replayed.payloads in
    inl (record {
      items = read.replayed.items;
      state = read.recorded;
      rest = 1 ∷ begun.behind;
      good = read.replayed.good;
      fit = subst (All IsPayload) same has.fit;
      replayed = read.replayed.replayed;
      split = begun.split ∙ ap (λ l. open_records l ++ (1 ∷ begun.behind)) same;
      place = has.place ∙ ap (λ l. length (open_records l)) same;
      broken = elim (with_payload begun.behind) [
        | inl found ↦ inr (record {
          behind = begun.behind;
          payload = found.0;
          after = found.1;
          gate = refl;
          whole = found.2;
          none = λ item good bytes.
              let begins = begun.begins found.0 found.1 found.2 in
              absurd (none item begins.0 good (sym begins.1 ∙ bytes));
        })
        | inr broken ↦ inl (record { behind = begun.behind; gate = refl; broken = broken })
      ];
    })

-- what follows where the disk tells
pub if_told : (seen : Option Image) (P Q : Image → Type 0) → ((image : Image) → P image → Q image) → IfSome seen P
    → IfSome seen Q
if_told None P Q step holds = tt
if_told (Some image) P Q step holds = step image holds

-- a whole log whose records are replayed is not damaged
pub whole_each : (frames : List Frame) (opening : Opening) (seen : Option Image)
    → IfSome seen (λ image. HasRecords (payloads_of frames) image.a) → IsReadFrom frames opening
    → IfSome seen (λ image. (at : ℕ) → IsDamaged store_steps at image.a → ⊥)
whole_each frames opening None has read = tt
whole_each frames opening (Some image) has read = λ at damaged.
    parted.damaged_none store_steps store_steps_determinate at image.a read.recorded damaged (record {
      items = read.replayed.items;
      good = read.replayed.good;
      records = subst (λ l. HasRecords l image.a) read.replayed.payloads has;
      replayed = read.replayed.replayed;
    })

-- the place of a log that is damaged is answered, or no place
pub damaged_each : (fault : OpenFault) (seen : Option Image)
    → IfSome seen (λ image. (part : Part) (at : ℕ) → fault ≡ Damaged part at → (part ≡ Log) × IsDamaged store_steps at image.a)
    → IfSome seen (λ image. (at : ℕ) → IsDamaged store_steps at image.a → AnswersDamage at fault)
damaged_each fault None is = tt
damaged_each Failed (Some image) is = λ at damaged. tt
damaged_each Memory (Some image) is = λ at damaged. tt
damaged_each (Damaged part place) (Some image) is = λ at damaged.
    let found = is part place refl in
    (found.0, parted.damaged_once store_steps store_steps_determinate place at image.a found.1 damaged)

-- what a fault says of a log, as the disk tells it
pub damaged_told : (fault : OpenFault) (seen : Option Image)
    → ((part : Part) (at : ℕ) → fault ≡ Damaged part at → (part ≡ Log) × IfSome seen (λ image. IsDamaged store_steps at image.a))
    → IfSome seen (λ image. (part : Part) (at : ℕ) → fault ≡ Damaged part at → (part ≡ Log) × IsDamaged store_steps at image.a)
damaged_told fault None is = tt
damaged_told fault (Some image) is = is

-- the log was torn where this is answered
pub torn_of : (scanned : ScanFault) (part : Part) (at : ℕ) → of_scan scanned ≡ Damaged part at → (part ≡ Log) × (scanned ≡ scan.Torn at)
torn_of scan.Failed part at is = absurd cc
torn_of scan.Memory part at is = absurd cc
torn_of (scan.Torn place) part at is = (cc, cc)

module _ {J : Type 0} {means : disk.Ghosts J} {counts : counted.Ghosts J} where
  -- one record more is replayed
  pub replays_on : (mid : FrameReader J means counts) (frame : Frame) (journal : J) (old new : Opening) (reader : FrameReader J means counts)
      → (so_far : IsReplaying journal reader old) → IsReading journal A mid (so_far.frames ++ frame ∷ []) → IsFrameRedone old new frame
      → IsReplaying journal mid new
  replays_on mid frame journal old new reader so_far reading redone = record {
    frames = so_far.frames ++ frame ∷ [];
    reading = reading;
    read = one_read so_far.frames frame old new so_far.read redone;
  }

  -- the log is damaged where no record begins as this one does
  pub part_refused : (reader : FrameReader J means counts) (part : List ℕ) (at : ℕ) → IsTornPart reader → part ≡ begun_of reader
      → BeginNoRecord part → at ≡ gate_of reader → IsPartRefused reader at
  part_refused reader part at torn is none place = λ journal frames opening reading read.
      let here = subst BeginNoRecord is none in
      if_told (means.state journal).seen _ _
      (λ image begun. part_damaged frames at opening (begun_of reader) image.a
      (subst (HasFrames frames) (sym place) reading.front) begun here read)
      (part_begun reader torn (some_bytes (begun_of reader) here) journal A frames reading)

  -- the log is damaged where it is torn behind the frames that were read
  pub torn_refused : (reader : FrameReader J means counts) (at : ℕ) → IsTornReading reader at → IsPartRefused reader at
  torn_refused reader at torn = λ journal frames opening reading read.
      if_told (means.state journal).seen _ _ (λ image behind. torn_behind_damaged frames at opening image.a behind read)
      (torn journal A frames reading)

  -- the log is damaged at a frame without a replay
  pub frame_damaged : (mid : FrameReader J means counts) (frame : Frame) (at : ℕ) (journal : J) (opening : Opening) (reader : FrameReader J means counts)
      → at ≡ frame.at → (so_far : IsReplaying journal reader opening) → IsReading journal A mid (so_far.frames ++ frame ∷ []) → IsFrameRefused opening frame
      → IfSome (means.state journal).seen (λ image. IsDamaged store_steps at image.a)
  frame_damaged mid frame at journal opening reader place so_far reading none =
      if_told (means.state journal).seen _ _
      (λ image goes. subst (λ n. IsDamaged store_steps n image.a) (sym place)
      (refused_damaged so_far.frames frame opening image.a reading.front.places goes so_far.read none))
      (goes_on mid journal A so_far.frames frame reading)

  -- the log is damaged where it is torn
  pub torn_damaged : (reader : FrameReader J means counts) (at : ℕ) (journal : J) (opening : Opening) (so_far : IsReplaying journal reader opening)
      → IfSome (means.state journal).seen (λ image. IsTornBehind (payloads_of so_far.frames) at image.a)
      → IfSome (means.state journal).seen (λ image. IsDamaged store_steps at image.a)
  torn_damaged reader at journal opening so_far torn =
      if_told (means.state journal).seen _ _ (λ image behind. torn_behind_damaged so_far.frames at opening image.a behind so_far.read) torn
