use Rattle.std.proofs.Common.{◌≡◌, ℕ, ◌+◌, ◌≤◌, List, Ok, Err, None, Some, length, take, drop, refl, sym, ◌∙◌, ap, subst, arith, length-drop}
use Rattle.std.proofs.lemmas.Bool.{false≢true}
use Rattle.std.proofs.lemmas.List.{take_all}
use Rattle.std.proofs.lemmas.Result.{err_from_is_err_and}
use Rattle.std.specs.Option.{ForSome}
use Rattle.std.specs.Prelude.{IfSome, IsErrAnd, IsErrOf, Result}
use Rattle.std.specs.declared.option.Option.{Option}
use Rattle.tsdb_base.specs.Causes.{Rose}
use Rattle.tsdb_outside.specs.Disk.{DiskState, Image, Keeps, in_slot}
use Rattle.tsdb_outside.specs.declared.disk.Slot.{Slot}
use Rattle.tsdb_frames.specs.Pieces.{HasPiece}
use Rattle.tsdb_frames.specs.declared.fault.ScanFault.TheVariants.{Failed, Torn}
use Rattle.tsdb_frames.proofs.FirstLemmas.{keeps_on}
use Rattle.tsdb_frames.proofs.reader.FrameReader.fill.Goals as goal

-- an answer of one kind is not one of the other
never_err : {T E P : Type 0} (value : T) (error : E) → Ok value ≡ Err error → P
never_err value error is = absurd cc

-- the fault that a `?` passed on is the part's
passed_on : {T E : Type 0} (result : Result T E) (inner error : E) → IsErrAnd result (λ fault. fault ≡ inner) → IsErrOf result error → inner ≡ error
passed_on result inner error passed is =
    let p = err_from_is_err_and result passed in
    let same = rw (p.1, p.2) at is in
    cc

-- the cause of a part is a cause of the whole
rose_later : (first mid last : ℕ) → first ≤ mid → Rose mid last → Rose first last
rose_later first mid last later rose = omega (arith, later, rose)

not_before : (first mid last : ℕ) → first ≤ mid → mid ≤ last → first ≤ last
not_before first mid last one two = omega (arith, one, two)

-- a piece stays one where nothing is written
piece_stays : (old new : DiskState) (slot : Slot) (at end : ℕ) (left : List ℕ) → Keeps old new → HasPiece old slot at end left
    → HasPiece new slot at end left
piece_stays old new slot at end left keeps piece = record {
  inside = piece.inside;
  gate = piece.gate;
  long = subst (λ (o : Option Image). ForSome o (λ image. end ≤ length (in_slot slot image))) (sym keeps.seen) piece.long;
  bytes = subst (λ (o : Option Image). ForSome o (λ image. left ≡ take (length left) (drop at (in_slot slot image)))) (sym keeps.seen) piece.bytes;
  limit = piece.limit;
}

-- a slot that ends with a piece has no more bytes than are left
all_left : (seen : Option Image) (slot : Slot) (at end : ℕ) (left : List ℕ) → end ≤ at + length left
    → ForSome seen (λ image. end ≡ length (in_slot slot image)) → ForSome seen (λ image. left ≡ take (length left) (drop at (in_slot slot image)))
    → IfSome seen (λ image. drop at (in_slot slot image) ≡ left)
all_left None slot at end left few long bytes = tt
all_left (Some image) slot at end left few long bytes =
    let behind = drop at (in_slot slot image) in
    sym (bytes image refl ∙ take_all (length left) behind (omega (arith, few, long image refl, length-drop at (in_slot slot image))))

-- what is said of the bytes that were read is said of the disk behind the read
still_long : (first mid last : Option Image) (slot : Slot) (end : ℕ) → mid ≡ first → last ≡ mid
    → ForSome first (λ image. end ≡ length (in_slot slot image)) → ForSome last (λ image. end ≤ length (in_slot slot image))
still_long first mid last slot end same kept long image is = omega (arith, long image (sym same ∙ sym kept ∙ is))

still_read : (mid last : Option Image) (slot : Slot) (at size : ℕ) (items : List ℕ) → last ≡ mid → length items ≡ size
    → IfSome mid (λ image. items ≡ take size (drop at (in_slot slot image)))
    → ForSome last (λ image. items ≡ take (length items) (drop at (in_slot slot image)))
still_read None last slot at size items kept all bytes image is = absurd cc
still_read (Some seen) last slot at size items kept all bytes image is =
    let there : seen ≡ image = cc in
    subst (λ (i : Image). items ≡ take (length items) (drop at (in_slot slot i))) there
    (bytes ∙ ap (λ (n : ℕ). take n (drop at (in_slot slot seen))) (sym all))

pub invariant_of-self : goal.invariant_of-self
invariant_of-self g c =
    let self = c.args.self.now in
    record {
      read_within = self.read_within;
      within = piece_stays (g.J.Disk.state self.journal) (g.J.Disk.state c.length.new.self) self.slot self.at self.end
          (drop self.read self.piece.items) c.length.ensures.keeps self.within;
    }

pub invariant_of-self-then-end-self : goal.invariant_of-self-then-end-self
invariant_of-self-then-end-self g c =
    let self = c.args.self.now in
    record {
      read_within = self.read_within;
      within = piece_stays (g.J.Disk.state self.journal) (g.J.Disk.state c.length.new.self) self.slot self.at self.end
          (drop self.read self.piece.items) c.length.ensures.keeps self.within;
    }

pub invariant_of-self-2 : goal.invariant_of-self-2
invariant_of-self-2 g c =
    let self = c.args.self.now in
    let first = (g.J.Disk.state self.journal).seen in
    let mid = (g.J.Disk.state c.length.new.self).seen in
    let last = (g.J.Disk.state c.read_piece.new.journal).seen in
    record {
      read_within = omega arith;
      within = record {
        inside = omega (arith, c.in_ok-self.ensures.size);
        gate = λ behind. omega arith;
        long = still_long first mid last self.slot c.in_ok-end.end c.length.ensures.keeps.seen c.read_piece.ensures.keeps.seen
            c.in_ok-end.ensures.length;
        bytes = still_read mid last self.slot self.at c.min-size.result c.in_ok-self.field-0.items c.read_piece.ensures.keeps.seen
            c.in_ok-self.ensures.size c.in_ok-self.ensures.bytes;
        limit = c.in_ok-end.ensures.limit;
      };
    }

pub returns-in_err-end-clause-stays : goal.returns-in_err-end-clause-stays
returns-in_err-end-clause-stays g c =
    record { slot = refl; at = refl; first = refl; keeps = c.length.ensures.keeps; later = c.length.ensures.cause.later }

pub returns-in_err-end-clause-cause : goal.returns-in_err-end-clause-cause
returns-in_err-end-clause-cause g c = record {
  later = c.length.ensures.cause.later;
  failed = λ is. c.in_err-end.ensures.cause.failed;
}

pub returns-then-end-self-clause-stays : goal.returns-then-end-self-clause-stays
returns-then-end-self-clause-stays g c =
    record { slot = refl; at = refl; first = refl; keeps = c.length.ensures.keeps; later = c.length.ensures.cause.later }

pub returns-then-end-self-clause-longer : goal.returns-then-end-self-clause-longer
returns-then-end-self-clause-longer g c = λ more. absurd (false≢true more)

pub returns-then-end-self-clause-short : goal.returns-then-end-self-clause-short
returns-then-end-self-clause-short g c = λ more. absurd (false≢true more)

pub returns-then-end-self-clause-all : goal.returns-then-end-self-clause-all
returns-then-end-self-clause-all g c = λ no_more.
    let self = c.args.self.now in
    all_left (g.J.Disk.state self.journal).seen self.slot self.at c.in_ok-end.end (drop self.read self.piece.items)
    (omega (arith, self.piece.ok.0, length-drop self.read self.piece.items)) c.in_ok-end.ensures.length self.within.bytes

pub returns-then-end-self-clause-not_torn : goal.returns-then-end-self-clause-not_torn
returns-then-end-self-clause-not_torn g c = λ at is. never_err _ _ is

pub returns-then-end-self-clause-cause : goal.returns-then-end-self-clause-cause
returns-then-end-self-clause-cause g c = record { later = c.length.ensures.cause.later; failed = λ is. never_err _ _ is }

pub returns-in_err-self-clause-stays : goal.returns-in_err-self-clause-stays
returns-in_err-self-clause-stays g c =
    let journal = c.args.self.now.journal in
    record {
      slot = refl;
      at = refl;
      first = refl;
      keeps = keeps_on (g.J.Disk.state journal) (g.J.Disk.state c.length.new.self) (g.J.Disk.state c.read_piece.new.journal) (g.J.Disk.lawful journal)
          c.length.ensures.keeps c.read_piece.ensures.keeps;
      later = not_before _ _ _ c.length.ensures.cause.later c.read_piece.ensures.cause.later;
    }

pub returns-in_err-self-clause-not_torn : goal.returns-in_err-self-clause-not_torn
returns-in_err-self-clause-not_torn g c = λ at is.
    let fault = passed_on c.from_residual-in_err-self.result c.in_err-self.field-0.0 (Torn at) c.from_residual-in_err-self.ensures.1 is in
    c.in_err-self.ensures.not_torn at (ap (λ x. Err x) fault)

pub returns-in_err-self-clause-cause : goal.returns-in_err-self-clause-cause
returns-in_err-self-clause-cause g c = record {
  later = not_before _ _ _ c.length.ensures.cause.later c.read_piece.ensures.cause.later;
  failed = λ is.
      let fault = passed_on c.from_residual-in_err-self.result c.in_err-self.field-0.0 Failed c.from_residual-in_err-self.ensures.1 is in
      rose_later _ _ _ c.length.ensures.cause.later (c.in_err-self.ensures.cause.failed (ap (λ x. Err x) fault));
}

pub returns-clause-stays : goal.returns-clause-stays
returns-clause-stays g c =
    let journal = c.args.self.now.journal in
    record {
      slot = refl;
      at = refl;
      first = refl;
      keeps = keeps_on (g.J.Disk.state journal) (g.J.Disk.state c.length.new.self) (g.J.Disk.state c.read_piece.new.journal) (g.J.Disk.lawful journal)
          c.length.ensures.keeps c.read_piece.ensures.keeps;
      later = not_before _ _ _ c.length.ensures.cause.later c.read_piece.ensures.cause.later;
    }

pub returns-clause-longer : goal.returns-clause-longer
returns-clause-longer g c = λ more.
    let self = c.args.self.now in
    omega (arith, self.piece.ok.0, length-drop self.read self.piece.items, c.in_ok-self.ensures.size)

pub returns-clause-short : goal.returns-clause-short
returns-clause-short g c = λ more.
    let self = c.args.self.now in
    omega (arith, self.piece.ok.0, length-drop self.read self.piece.items, c.in_ok-self.ensures.size)

pub returns-clause-all : goal.returns-clause-all
returns-clause-all g c = λ no_more. absurd (false≢true (sym no_more))

pub returns-clause-not_torn : goal.returns-clause-not_torn
returns-clause-not_torn g c = λ at is. never_err _ _ is

pub returns-clause-cause : goal.returns-clause-cause
returns-clause-cause g c = record {
  later = not_before _ _ _ c.length.ensures.cause.later c.read_piece.ensures.cause.later;
  failed = λ is. never_err _ _ is;
}
