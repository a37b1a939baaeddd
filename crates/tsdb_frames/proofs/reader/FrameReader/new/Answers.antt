use Rattle.std.proofs.Common.{arith, refl}
use Rattle.tsdb_outside.proofs.DiskLemmas.{Keeps-same}
use Rattle.tsdb_frames.proofs.ReaderLemmas.{no_frames, nothing_told}
use Rattle.tsdb_frames.proofs.reader.FrameReader.new.Goals as goal

pub returns : goal.returns
returns g c =
    let disk = g.J.Disk.state c.args.journal in
    record {
      front = no_frames;
      told = nothing_told disk.seen;
      first = refl;
      slot = refl;
      keeps = Keeps-same disk;
      later = omega arith;
    }
