use Rattle.std.proofs.Common.{List, ℕ, ◌+◌, ap, length, refl, subst, sym}
use Rattle.tsdb_frames.specs.Pieces.{HasPiece}
use Rattle.tsdb_frames.specs.Readers.{left_of}
use Rattle.tsdb_frames.proofs.ReaderLemmas.{left_on, one_frame, piece_on, read_on}
use Rattle.tsdb_frames.proofs.reader.FrameReader.advance.Goals as goal

pub invariant_of-self : goal.invariant_of-self
invariant_of-self g c =
    let self = c.args.self.now in
    let n = length c.items.result.now + 5 in
    let bytes = ap (λ (l : List ℕ). length l + 5) c.items.ensures in
    record {
      read_within = read_on c.args.frame self.read self.piece.items c.requires n bytes;
      within = subst (λ (l : List ℕ). HasPiece (g.J.Disk.state self.journal) self.slot (self.at + n) self.end l)
          (sym (left_on c.args.frame self.read self.piece.items c.requires n bytes))
          (piece_on c.args.frame (left_of self) c.requires n bytes (g.J.Disk.state self.journal) self.slot self.at self.end self.within);
    }

pub returns-clause-frame : goal.returns-clause-frame
returns-clause-frame g c =
    one_frame c.args.self.now _ c.args.frame _ (length c.items.result.now + 5) c.requires (ap (λ (l : List ℕ). length l + 5) c.items.ensures)
    refl refl refl refl refl c.first_after-self.ensures.first c.first_after-self.ensures.later
