-- What the first bytes of a record that is not whole in a piece say of the slot.
use Rattle.std.proofs.Common.{◌≡◌, ◌≢◌, ◌⊎◌, inl, inr, ℕ, zero, suc, ◌+◌, ◌<◌, ◌≤◌, ◌^◌, List, [], ◌∷◌, ◌++◌, length, take, drop, refl, sym, ◌∙◌, ap, subst, arith, append_assoc, length-append, length-drop, take-append-drop}
use Rattle.std.specs.Prelude.{IfSome}
use Rattle.std.specs.Int.{w32, from_be_bytes}
use Rattle.std.proofs.lemmas.List.{drop_at, length-take, take_at}
use Rattle.std.proofs.lemmas.Nat.{from_be_bytes-to_be_bytes_4}
use Rattle.tsdb_base.specs.Fields.{number32}
use Rattle.tsdb_base.specs.PlainLaws.{same_front}
use Rattle.tsdb_outside.specs.Disk.{in_slot}
use Rattle.tsdb_outside.specs.declared.disk.Disk as disk
use Rattle.tsdb_outside.specs.declared.disk.Slot.{Slot}
use Rattle.tsdb_outside.specs.declared.faults.Counted as counted
use Rattle.tsdb_frames.specs.Pieces.{HasPiece}
use Rattle.tsdb_frames.specs.Readers.{IsReading, IsTornPart, disk_read, left_of, begun_of}
use Rattle.tsdb_frames.specs.Slots.{BeginsWithPayload, IsTorn, open_records, payloads_of, with_length}
use Rattle.tsdb_frames.specs.declared.reader.FrameReader.{FrameReader}
use Rattle.tsdb_frames.specs.declared.record.Frame.{Frame}
use Rattle.tsdb_frames.proofs.ReaderLemmas.{both, no_payloads}

order : (a b : ℕ) → (a < b) ⊎ (b ≤ a)
order a zero = inr (omega arith)
order zero (suc b) = inl (omega arith)
order (suc a) (suc b) = elim (order a b) [ inl below ↦ inl (omega arith) | inr above ↦ inr (omega arith) ]

same_number : (a b : ℕ) → (a ≡ b) ⊎ (a ≢ b)
same_number a b = elim (order a b) [
  | inl below ↦ inr (λ same. omega (arith, below, same))
  | inr above ↦ elim (order b a) [ inl below ↦ inr (λ same. omega (arith, below, same)) | inr other ↦ inl (omega (arith, above, other)) ]
]

same_bytes : (xs ys : List ℕ) → (xs ≡ ys) ⊎ (xs ≢ ys)
same_bytes [] [] = inl refl
same_bytes [] (y ∷ ys) = inr (λ same. cc)
same_bytes (x ∷ xs) [] = inr (λ same. cc)
same_bytes (x ∷ xs) (y ∷ ys) = elim (same_number x y) [
  | inl here ↦ elim (same_bytes xs ys) [ inl others ↦ inl cc | inr differ ↦ inr (λ same. differ cc) ]
  | inr differ ↦ inr (λ same. differ cc)
]

field_length : (n : ℕ) → length (number32 n) ≡ 4
field_length n = refl

-- the number that stands in the first four bytes
abbrev length_in : List ℕ → ℕ
length_in bytes = from_be_bytes w32 (take 4 bytes)

-- what a record says of the bytes that begin with it
record HasLength (bytes payload after : List ℕ) : Type 0 where
  first : take 4 bytes ≡ number32 (length payload)
  behind : drop 4 bytes ≡ payload ++ after
  number : length_in bytes ≡ length payload

length_of : (bytes payload after : List ℕ) → BeginsWithPayload bytes payload after → HasLength bytes payload after
length_of bytes payload after whole =
    let n = length payload in
    let parted : bytes ≡ number32 n ++ (payload ++ after) = whole.split ∙ append_assoc (number32 n) payload after in
    let front : take 4 bytes ≡ number32 n = ap (λ (l : List ℕ). take 4 l) parted ∙ take_at (number32 n) (payload ++ after) 4 refl in
    record {
      first = front;
      behind = ap (λ (l : List ℕ). drop 4 l) parted ∙ drop_at (number32 n) (payload ++ after) 4 refl;
      number = ap (λ (l : List ℕ). from_be_bytes w32 l) front ∙ from_be_bytes-to_be_bytes_4 n whole.fits.1;
    }

-- bytes begin with a record and a gate, or with none
pub with_payload : (bytes : List ℕ) → ((payload : List ℕ) × (after : List ℕ) × BeginsWithPayload bytes payload after)
    ⊎ ((payload after : List ℕ) → ¬ BeginsWithPayload bytes payload after)
with_payload bytes =
    let n = length_in bytes in
    let behind = drop 4 bytes in
    elim (same_bytes (number32 n) (take 4 bytes)) [
      | inl same ↦ elim (order n (2 ^ 32)) [
        | inl fits ↦ elim (order 0 n) [
          | inl some ↦ elim (order n (length behind)) [
            | inl short ↦
                let size : length (take n behind) ≡ n = omega (arith, length-take n behind, short) in
                inl (
                  take n behind,
                  drop n behind,
                  record {
                    fits = (omega (arith, size, some), omega (arith, size, fits));
                    split = sym (take-append-drop 4 bytes) ∙ ap (λ (l : List ℕ). l ++ behind) (sym same)
                        ∙ ap (λ (m : ℕ). number32 m ++ behind) (sym size)
                        ∙ ap (λ (l : List ℕ). number32 (length (take n behind)) ++ l) (sym (take-append-drop n behind))
                        ∙ sym (append_assoc (number32 (length (take n behind))) (take n behind) (drop n behind));
                    gate = omega (arith, length-drop n behind, short);
                  },
                )
            | inr long ↦ inr (λ payload after whole.
                let has = length_of bytes payload after whole in
                omega (arith, long, has.number, whole.gate, ap length has.behind, length-append payload after))
          ]
          | inr none ↦ inr (λ payload after whole. omega (arith, none, (length_of bytes payload after whole).number, whole.fits.0))
        ]
        | inr above ↦ inr (λ payload after whole. omega (arith, above, (length_of bytes payload after whole).number, whole.fits.1))
      ]
      | inr differ ↦ inr (λ payload after whole.
          let has = length_of bytes payload after whole in
          differ (ap number32 has.number ∙ sym has.first))
    ]

-- Behind these records stands an open gate, and each record that is whole there begins with this part.
pub record HasPart (payloads : List (List ℕ)) (part bytes : List ℕ) : Type 0 where
  pub behind : List ℕ
  pub split : bytes ≡ open_records payloads ++ (1 ∷ behind)
  pub begins : (payload after : List ℕ) → BeginsWithPayload behind payload after → (more : List ℕ) × (payload ≡ part ++ more)

-- of a record that is not whole in the piece, all bytes of the piece are
part_begins : (piece further payload after : List ℕ) → ((payload after : List ℕ) → ¬ BeginsWithPayload piece payload after)
    → 4 ≤ length piece → BeginsWithPayload (piece ++ further) payload after → (more : List ℕ) × (payload ≡ drop 4 piece ++ more)
part_begins piece further payload after broken long whole =
    let n = length payload in
    let part = drop 4 piece in
    let parted : take 4 piece ++ (part ++ further) ≡ number32 n ++ (payload ++ after) =
    sym (append_assoc (take 4 piece) part further) ∙ ap (λ (l : List ℕ). l ++ further) (take-append-drop 4 piece)
    ∙ whole.split ∙ append_assoc (number32 n) payload after in
    let fields = same_front (take 4 piece) (number32 n) (part ++ further) (payload ++ after) (omega (arith, length-take 4 piece, long, field_length n)) parted in
    elim (order n (length part)) [
      | inl below ↦
          let payloads : take n part ++ (drop n part ++ further) ≡ payload ++ after =
          sym (append_assoc (take n part) (drop n part) further) ∙ ap (λ (l : List ℕ). l ++ further) (take-append-drop n part) ∙ fields.1 in
          let same = same_front (take n part) payload (drop n part ++ further) after (omega (arith, length-take n part, below)) payloads in
          absurd (broken payload (drop n part) (record {
            fits = whole.fits;
            split = sym (take-append-drop 4 piece) ∙ ap (λ (l : List ℕ). l ++ part) fields.0
                ∙ ap (λ (l : List ℕ). number32 n ++ l) (sym (take-append-drop n part) ∙ ap (λ (l : List ℕ). l ++ drop n part) same.0)
                ∙ sym (append_assoc (number32 n) payload (drop n part));
            gate = omega (arith, length-drop n part, below);
          }))
      | inr above ↦
          let k = length part in
          let payloads : part ++ further ≡ take k payload ++ (drop k payload ++ after) =
          fields.1 ∙ ap (λ (l : List ℕ). l ++ after) (sym (take-append-drop k payload)) ∙ append_assoc (take k payload) (drop k payload) after in
          let same = same_front part (take k payload) further (drop k payload ++ after) (omega (arith, length-take k payload, above)) payloads in
          (drop k payload, sym (take-append-drop k payload) ∙ ap (λ (l : List ℕ). l ++ drop k payload) (sym same.0))
    ]

-- the same of a slot that begins with records
has_part : (payloads : List (List ℕ)) (at : ℕ) (whole left : List ℕ) → take at whole ≡ open_records payloads
    → left ≡ take (length left) (drop at whole) → IsTorn 0 left → 1 ≤ length (drop 5 left) → HasPart payloads (drop 5 left) whole
has_part payloads at whole left told is (inr empty) some = absurd (omega (arith, some, ap (λ (l : List ℕ). length (drop 5 l)) empty.1))
has_part payloads at whole left told is (inl torn) some =
    let more = drop (length left) (drop at whole) in
    let gated : left ≡ 1 ∷ torn.behind = torn.split ∙ ap (λ (l : List (List ℕ)). open_records l ++ (1 ∷ torn.behind)) (no_payloads torn.payloads torn.place) in
    let part : drop 5 left ≡ drop 4 torn.behind = ap (λ (l : List ℕ). drop 5 l) gated in
    let behind : drop at whole ≡ left ++ more =
    sym (take-append-drop (length left) (drop at whole)) ∙ ap (λ (l : List ℕ). l ++ more) (sym is) in
    record {
      behind = torn.behind ++ more;
      split = sym (take-append-drop at whole) ∙ ap (λ (l : List ℕ). l ++ drop at whole) told
          ∙ ap (λ (l : List ℕ). open_records payloads ++ l) (behind ∙ ap (λ (l : List ℕ). l ++ more) gated);
      begins = λ payload after one.
          let found = part_begins torn.behind more payload after torn.broken
          (omega (arith, some, ap length part, length-drop 4 torn.behind)) one in
          (found.0, found.1 ∙ ap (λ (l : List ℕ). l ++ found.0) (sym part));
    }

module _ {J : Type 0} {means : disk.Ghosts J} {counts : counted.Ghosts J} where
  -- each record that is whole behind the frames begins with the part
  pub part_begun : (reader : FrameReader J means counts) → IsTornPart reader → 1 ≤ length (begun_of reader)
      → (journal : J) (place : Slot) (frames : List Frame) → IsReading journal place reader frames
      → IfSome (means.state journal).seen (λ image. HasPart (payloads_of frames) (begun_of reader) (in_slot place image))
  part_begun reader torn some journal place frames reading =
      let piece = subst (λ (s : Slot). HasPiece (disk_read reader) s reader.at reader.end (left_of reader)) reading.slot reader.within in
      both (means.state journal).seen (disk_read reader).seen
      (λ image. take reader.at (in_slot place image) ≡ open_records (payloads_of frames))
      (λ image. left_of reader ≡ take (length (left_of reader)) (drop reader.at (in_slot place image)))
      (λ image. HasPart (payloads_of frames) (begun_of reader) (in_slot place image))
      reading.keeps.seen (λ image told is. has_part (payloads_of frames) reader.at (in_slot place image) (left_of reader) told is torn some)
      reading.told piece.bytes
