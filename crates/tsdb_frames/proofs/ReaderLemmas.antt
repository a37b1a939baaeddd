-- What a reader of a slot has read, step by step.
use Rattle.std.proofs.Common.{◌≡◌, ◌≢◌, ℕ, ◌+◌, ◌<◌, ◌≤◌, List, [], ◌∷◌, ◌++◌, length, take, drop, refl, sym, ◌∙◌, ap, subst, arith, inl, inr, length-append, take-append-drop, None, Some}
use Rattle.std.specs.Prelude.{IfSome}
use Rattle.std.specs.declared.option.Option.{Option}
use Rattle.std.specs.List.{All}
use Rattle.std.specs.Option.{ForSome}
use Rattle.std.proofs.lemmas.List.{drop-drop, drop-take, drop_at, length-drop, map-append, take-take, take_at}
use Rattle.std.proofs.lemmas.List.Elements.{All-append, All-cons, All-nil}
use Rattle.tsdb_outside.specs.Disk.{Image, IsLawful, Keeps, DiskState, in_slot}
use Rattle.tsdb_outside.specs.declared.disk.Disk as disk
use Rattle.tsdb_outside.specs.declared.disk.Slot.{Slot}
use Rattle.tsdb_outside.specs.declared.faults.Counted as counted
use Rattle.tsdb_frames.specs.Firsts.{HasFirst}
use Rattle.tsdb_frames.specs.Log.{first_bytes}
use Rattle.tsdb_frames.specs.Pieces.{HasPiece}
use Rattle.tsdb_frames.specs.Readers.{HasAllLeft, IsReading, IsWholeRead, StaysAt, disk_read, left_of}
use Rattle.tsdb_frames.specs.Slots.{HasRecordsThenGate, HasRecords, IsPayload, IsTorn, IsTornBehind, open_records, payloads_of, with_length}
use Rattle.tsdb_frames.specs.Steps.{HasFrames}
use Rattle.tsdb_frames.specs.declared.reader.FrameReader.{FrameReader}
use Rattle.tsdb_frames.specs.declared.record.Frame.{Frame}
use Rattle.tsdb_frames.proofs.FirstLemmas.{keeps_on}
use Rattle.tsdb_frames.proofs.PieceLemmas.{piece_behind}
use Rattle.tsdb_frames.proofs.RecordLemmas.{length-with_length, open_records_more, places_more}

-- no frame is read yet
pub no_frames : HasFrames [] 0
no_frames = record {
  fit = All-nil IsPayload;
  place = refl;
  places = λ before after frame same. absurd (omega (arith, ap length same, length-append before (frame ∷ after)));
}

pub nothing_told : (seen : Option Image) → IfSome seen (λ image. [] ≡ open_records [])
nothing_told None = tt
nothing_told (Some image) = refl

-- what is left begins with a frame
module _ (frame : Frame) (left : List ℕ) (f : HasFirst frame left) (n : ℕ) (bytes : n ≡ length frame.payload + 5) where
  front_of : left ≡ (1 ∷ with_length frame.payload) ++ f.after
  front_of = f.split ∙ ap (λ (l : List ℕ). 1 ∷ l) f.whole.split

  front_bytes : length (1 ∷ with_length frame.payload) ≡ n
  front_bytes = omega (arith, bytes, length-with_length frame.payload)

  long_left : length left ≡ n + length f.after
  long_left = omega (arith, front_bytes, ap length front_of, length-append (1 ∷ with_length frame.payload) f.after)

  drop_front : drop n left ≡ f.after
  drop_front = ap (λ (l : List ℕ). drop n l) front_of ∙ drop_at (1 ∷ with_length frame.payload) f.after n front_bytes

  take_front : take n left ≡ 1 ∷ with_length frame.payload
  take_front = ap (λ (l : List ℕ). take n l) front_of ∙ take_at (1 ∷ with_length frame.payload) f.after n front_bytes

  -- the piece behind the frame
  pub piece_on : (disk : DiskState) (slot : Slot) (at end : ℕ) → HasPiece disk slot at end left → HasPiece disk slot (at + n) end f.after
  piece_on disk slot at end p = record {
    inside = omega (arith, p.inside, long_left);
    gate = λ some. omega (arith, p.inside, long_left, f.whole.gate);
    long = p.long;
    bytes = λ image is. sym drop_front
        ∙ ap (λ (l : List ℕ). drop n l) (p.bytes image is ∙ ap (λ (m : ℕ). take m (drop at (in_slot slot image))) long_left)
        ∙ drop-take n (length f.after) (drop at (in_slot slot image))
        ∙ ap (λ (l : List ℕ). take (length f.after) l) (drop-drop n at (in_slot slot image));
    limit = p.limit;
  }

  -- the bytes of the frame, behind those of the frames before it
  told_one : (frames : List Frame) (made : Frame) (at : ℕ) (whole : List ℕ) → made.payload ≡ frame.payload → take at whole ≡ open_records (payloads_of frames)
      → left ≡ take (length left) (drop at whole) → take (at + n) whole ≡ open_records (payloads_of (frames ++ made ∷ []))
  told_one frames made at whole same told is =
      let here : take n (drop at whole) ≡ 1 ∷ with_length frame.payload =
      sym (take-take n (length left) (drop at whole) (omega (arith, long_left))) ∙ ap (λ (l : List ℕ). take n l) (sym is) ∙ take_front in
      piece_behind at n whole ∙ ap (λ (l : List ℕ). l ++ take n (drop at whole)) told
      ∙ ap (λ (l : List ℕ). open_records (payloads_of frames) ++ l) here ∙ sym (open_records_more (payloads_of frames) frame.payload)
      ∙ ap (λ (p : List ℕ). open_records (payloads_of frames ++ p ∷ [])) (sym same)
      ∙ ap open_records (sym (map-append (λ (f : Frame). f.payload) frames (made ∷ [])))

-- what is left of a piece behind the frame
pub left_on : (frame : Frame) (read : ℕ) (piece : List ℕ) (f : HasFirst frame (drop read piece)) (n : ℕ) → n ≡ length frame.payload + 5
    → drop (read + n) piece ≡ f.after
left_on frame read piece f n bytes = sym (drop-drop n read piece) ∙ drop_front frame (drop read piece) f n bytes

pub read_on : (frame : Frame) (read : ℕ) (piece : List ℕ) (f : HasFirst frame (drop read piece)) (n : ℕ) → n ≡ length frame.payload + 5
    → read + n ≤ length piece
read_on frame read piece f n bytes = omega (arith, length-drop read piece, long_left frame (drop read piece) f n bytes, f.whole.gate)

-- the bytes of the first frame, once one more is read
first_on : (frames : List Frame) (made : Frame) (at first now n : ℕ) → HasFrames frames at → n ≡ length made.payload + 5
    → first ≡ first_bytes (payloads_of frames) → (at ≡ 0 → now ≡ n) → (at ≢ 0 → now ≡ first) → now ≡ first_bytes (payloads_of (frames ++ made ∷ []))
first_on [] made at first now n has bytes is here later =
    omega (arith, here has.place, bytes, length-append (with_length made.payload) (0 ∷ []), length-with_length made.payload)
first_on (frame ∷ frames) made at first now n has bytes is here later =
    later (λ none. absurd (omega (arith, none, has.place, length-append (1 ∷ with_length frame.payload) (open_records (payloads_of frames))))) ∙ is

frames_on : (frames : List Frame) (made : Frame) (at n : ℕ) → HasFrames frames at → n ≡ length made.payload + 5 → made.at ≡ at → IsPayload made.payload
    → HasFrames (frames ++ made ∷ []) (at + n)
frames_on frames made at n has bytes place fits =
    let payloads = payloads_of frames in
    let more : payloads_of (frames ++ made ∷ []) ≡ payloads ++ made.payload ∷ [] = map-append (λ (f : Frame). f.payload) frames (made ∷ []) in
    let grown : open_records (payloads_of (frames ++ made ∷ [])) ≡ open_records payloads ++ (1 ∷ with_length made.payload) =
    ap open_records more ∙ open_records_more payloads made.payload in
    record {
      fit = subst (λ (l : List (List ℕ)). All IsPayload l) (sym more)
          (All-append IsPayload payloads (made.payload ∷ []) has.fit (All-cons IsPayload made.payload [] fits (All-nil IsPayload)));
      place = omega (arith, has.place, bytes, ap length grown, length-append (open_records payloads) (1 ∷ with_length made.payload), length-with_length made.payload);
      places = places_more frames made has.places (place ∙ has.place);
    }

-- what is said of a disk that was looked at before, and of what it is now
pub both : (old now : Option Image) (P Q R : Image → Type 0) → now ≡ old → ((image : Image) → P image → Q image → R image) → IfSome old P → ForSome now Q → IfSome old R
both None now P Q R same step p q = tt
both (Some image) now P Q R same step p q = step image p (q image same)

-- a closed gate lies before the end
pub shut_ends : (at end : ℕ) (left : List ℕ) → at + length left ≤ end → HasRecords [] left → at < end
shut_ends at end left inside has = omega (arith, inside, ap (λ (l : List ℕ). length l) has.split)

-- the records before a closed gate
closed_here : (payloads : List (List ℕ)) (at : ℕ) (whole left : List ℕ) → All IsPayload payloads → take at whole ≡ open_records payloads
    → left ≡ take (length left) (drop at whole) → HasRecords [] left → HasRecords payloads whole
closed_here payloads at whole left fit told is has =
    let more = drop (length left) (drop at whole) in
    let behind : drop at whole ≡ left ++ more =
    sym (take-append-drop (length left) (drop at whole)) ∙ ap (λ (l : List ℕ). l ++ more) (sym is) in
    record {
      fit = fit;
      gate = has.gate;
      rest = has.rest ++ more;
      split = sym (take-append-drop at whole) ∙ ap (λ (l : List ℕ). l ++ drop at whole) told
          ∙ ap (λ (l : List ℕ). open_records payloads ++ l) (behind ∙ ap (λ (l : List ℕ). l ++ more) has.split);
      closed = has.closed;
    }

pub no_payloads : (payloads : List (List ℕ)) → 0 ≡ length (open_records payloads) → payloads ≡ []
no_payloads [] none = refl
no_payloads (payload ∷ payloads) none =
    absurd (omega (arith, none, length-append (1 ∷ with_length payload) (open_records payloads)))

-- a slot that is torn where the frames end
torn_at : (frames : List Frame) (at end : ℕ) (whole left : List ℕ) → HasFrames frames at → take at whole ≡ open_records (payloads_of frames)
    → drop at whole ≡ left → IsTorn 0 left → (1 ≤ at → at < end) → end ≤ length whole → IsTornBehind (payloads_of frames) at whole
torn_at frames at end whole left has told all (inl torn) gate long = inl (
  record {
    payloads = payloads_of frames;
    fit = has.fit;
    behind = torn.behind;
    split = sym (take-append-drop at whole) ∙ ap (λ (l : List ℕ). l ++ drop at whole) told
        ∙ ap (λ (l : List ℕ). open_records (payloads_of frames) ++ l)
        (all ∙ torn.split ∙ ap (λ (l : List (List ℕ)). open_records l ++ (1 ∷ torn.behind)) (no_payloads torn.payloads torn.place));
    place = has.place;
    broken = torn.broken;
  },
  refl,
)
torn_at [] at end whole left has told all (inr empty) gate long =
    inr (refl, has.place, ap (λ (n : ℕ). drop n whole) (sym has.place) ∙ all ∙ empty.1)
torn_at (frame ∷ frames) at end whole left has told all (inr empty) gate long =
    let some : 1 ≤ at = omega (arith, has.place, length-append (1 ∷ with_length frame.payload) (open_records (payloads_of frames))) in
    absurd (omega (arith, gate some, long, length-drop at whole, ap length (all ∙ empty.1)))

module _ {J : Type 0} {means : disk.Ghosts J} {counts : counted.Ghosts J} (lawful : (x : J) → IsLawful (means.state x)) where
  -- one step that stays and then another
  pub stays_on : (old mid new : FrameReader J means counts) → StaysAt old mid → StaysAt mid new → StaysAt old new
  stays_on old mid new first second = record {
    slot = second.slot ∙ first.slot;
    at = second.at ∙ first.at;
    first = second.first ∙ first.first;
    keeps = keeps_on (disk_read old) (disk_read mid) (disk_read new) (lawful old.journal) first.keeps second.keeps;
    later = omega (arith, first.later, second.later);
  }

  -- a call that stays at the gate has read the same frames
  pub stays_reading : (old new : FrameReader J means counts) → StaysAt old new → (journal : J) (place : Slot) (frames : List Frame)
      → IsReading journal place old frames → IsReading journal place new frames
  stays_reading old new stays journal place frames reading = record {
    front = subst (λ (n : ℕ). HasFrames frames n) (sym stays.at) reading.front;
    told = subst (λ (n : ℕ). IfSome (means.state journal).seen (λ image. take n (in_slot place image) ≡ open_records (payloads_of frames))) (sym stays.at) reading.told;
    first = stays.first ∙ reading.first;
    slot = stays.slot ∙ reading.slot;
    keeps = keeps_on (means.state journal) (disk_read old) (disk_read new) (lawful journal) reading.keeps stays.keeps;
    later = omega (arith, reading.later, stays.later);
  }

module _ {J : Type 0} {means : disk.Ghosts J} {counts : counted.Ghosts J} where
  -- one frame more
  pub one_frame : (old new : FrameReader J means counts) (frame made : Frame) (n : ℕ) → HasFirst frame (left_of old) → n ≡ length frame.payload + 5
      → made.payload ≡ frame.payload → made.at ≡ old.at → new.at ≡ old.at + n → new.slot ≡ old.slot → new.journal ≡ old.journal
      → (old.at ≡ 0 → new.first ≡ n) → (old.at ≢ 0 → new.first ≡ old.first)
      → (journal : J) (place : Slot) (frames : List Frame) → IsReading journal place old frames → IsReading journal place new (frames ++ made ∷ [])
  one_frame old new frame made n f bytes payload at goes slot same here later journal place frames reading =
      let made_bytes : n ≡ length made.payload + 5 = bytes ∙ ap (λ (l : List ℕ). length l + 5) (sym payload) in
      let piece = subst (λ (s : Slot). HasPiece (disk_read old) s old.at old.end (left_of old)) reading.slot old.within in
      record {
        front = subst (λ (m : ℕ). HasFrames (frames ++ made ∷ []) m) (sym goes)
            (frames_on frames made old.at n reading.front made_bytes at (subst IsPayload (sym payload) f.whole.fits));
        told = subst (λ (m : ℕ). IfSome (means.state journal).seen (λ image. take m (in_slot place image) ≡ open_records (payloads_of (frames ++ made ∷ [])))) (sym goes)
            (both (means.state journal).seen (disk_read old).seen
            (λ image. take old.at (in_slot place image) ≡ open_records (payloads_of frames))
            (λ image. left_of old ≡ take (length (left_of old)) (drop old.at (in_slot place image)))
            (λ image. take (old.at + n) (in_slot place image) ≡ open_records (payloads_of (frames ++ made ∷ [])))
            reading.keeps.seen (λ image told is. told_one frame (left_of old) f n bytes frames made old.at (in_slot place image) payload told is)
            reading.told piece.bytes);
        first = first_on frames made old.at old.first new.first n reading.front made_bytes reading.first here later;
        slot = slot ∙ reading.slot;
        keeps = subst (λ (x : J). Keeps (means.state journal) (means.state x)) (sym same) reading.keeps;
        later = subst (λ (x : J). counts.faults journal ≤ counts.faults x) (sym same) reading.later;
      }

  -- the gate behind the frames is closed
  pub whole_read : (reader : FrameReader J means counts) → HasRecords [] (left_of reader) → (journal : J) (place : Slot) (frames : List Frame)
      → IsReading journal place reader frames → IsWholeRead journal place reader frames
  whole_read reader has journal place frames reading =
      let piece = subst (λ (s : Slot). HasPiece (disk_read reader) s reader.at reader.end (left_of reader)) reading.slot reader.within in
      record {
        reading = reading;
        records = both (means.state journal).seen (disk_read reader).seen
            (λ image. take reader.at (in_slot place image) ≡ open_records (payloads_of frames))
            (λ image. left_of reader ≡ take (length (left_of reader)) (drop reader.at (in_slot place image)))
            (λ image. HasRecords (payloads_of frames) (in_slot place image))
            reading.keeps.seen (λ image told is. closed_here (payloads_of frames) reader.at (in_slot place image) (left_of reader) reading.front.fit told is has)
            reading.told piece.bytes;
      }

  -- the slot has no more bytes, and no frame begins at the gate
  pub torn_read : (reader : FrameReader J means counts) → IsTorn 0 (left_of reader) → HasAllLeft reader → (journal : J) (place : Slot) (frames : List Frame)
      → IsReading journal place reader frames → IfSome (means.state journal).seen (λ image. IsTornBehind (payloads_of frames) reader.at (in_slot place image))
  torn_read reader torn all journal place frames reading =
      let piece = subst (λ (s : Slot). HasPiece (disk_read reader) s reader.at reader.end (left_of reader)) reading.slot reader.within in
      let bytes = subst (λ (s : Slot). IfSome (disk_read reader).seen (λ image. drop reader.at (in_slot s image) ≡ left_of reader)) reading.slot all in
      by_cases place frames (means.state journal).seen (disk_read reader).seen reading.keeps.seen reading.front reading.told bytes piece.long
    where
      by_cases : (place : Slot) (frames : List Frame) (old now : Option Image) → now ≡ old → HasFrames frames reader.at
          → IfSome old (λ image. take reader.at (in_slot place image) ≡ open_records (payloads_of frames))
          → IfSome now (λ image. drop reader.at (in_slot place image) ≡ left_of reader)
          → ForSome now (λ image. reader.end ≤ length (in_slot place image))
          → IfSome old (λ image. IsTornBehind (payloads_of frames) reader.at (in_slot place image))
      by_cases place frames None now same has told all long = tt
      by_cases place frames (Some image) now same has told all long =
          let here = subst (λ (o : Option Image). IfSome o (λ image. drop reader.at (in_slot place image) ≡ left_of reader)) same all in
          torn_at frames reader.at reader.end (in_slot place image) (left_of reader) has told here torn reader.within.gate (long image same)

  -- behind the frames that were read the slot goes on with the next gate
  pub goes_on : (reader : FrameReader J means counts) (journal : J) (place : Slot) (frames : List Frame) (frame : Frame)
      → IsReading journal place reader (frames ++ frame ∷ [])
      → IfSome (means.state journal).seen (λ image. HasRecordsThenGate (payloads_of (frames ++ frame ∷ [])) (in_slot place image))
  goes_on reader journal place frames frame reading =
      by_cases place (means.state journal).seen (disk_read reader).seen reading.keeps.seen reading.told
      (subst (λ (s : Slot). ForSome (disk_read reader).seen (λ image. reader.end ≤ length (in_slot s image))) reading.slot reader.within.long)
    where
      grown : open_records (payloads_of (frames ++ frame ∷ [])) ≡ open_records (payloads_of frames) ++ (1 ∷ with_length frame.payload)
      grown = ap open_records (map-append (λ (f : Frame). f.payload) frames (frame ∷ [])) ∙ open_records_more (payloads_of frames) frame.payload

      some : 1 ≤ reader.at
      some = omega (arith, reading.front.place, ap length grown, length-append (open_records (payloads_of frames)) (1 ∷ with_length frame.payload))

      by_cases : (place : Slot) (old now : Option Image) → now ≡ old
          → IfSome old (λ image. take reader.at (in_slot place image) ≡ open_records (payloads_of (frames ++ frame ∷ [])))
          → ForSome now (λ image. reader.end ≤ length (in_slot place image))
          → IfSome old (λ image. HasRecordsThenGate (payloads_of (frames ++ frame ∷ [])) (in_slot place image))
      by_cases place None now same told long = tt
      by_cases place (Some image) now same told long = record {
        fit = reading.front.fit;
        rest = drop reader.at (in_slot place image);
        split = sym (take-append-drop reader.at (in_slot place image)) ∙ ap (λ (l : List ℕ). l ++ drop reader.at (in_slot place image)) told;
        gate = omega (arith, reader.within.gate some, long image same, length-drop reader.at (in_slot place image));
      }
